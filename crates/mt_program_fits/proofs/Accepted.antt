-- Accepted programs and client code within the limits, over the tests of a host.
use Rattle.std.proofs.Common.{◌≡◌, ℕ, zero, suc, ◌+◌, ◌<◌, ◌≤◌, ◌^◌, nat_eq, nat_lt, Bool, true, false, List, [], ◌∷◌, ◌++◌, length, map, sum, Option, None, Some, refl, sym, ap, ap₂, subst, ◌∙◌, arith}
use Rattle.std.specs.Prelude.{All, IsTrue, slice_get}
use Rattle.std.specs.List.{list_all}
use Rattle.std.proofs.lemmas.Bool.{and_from, and_parts}
use Rattle.std.proofs.lemmas.Bool.Decides.{nat_tests}
use Rattle.std.proofs.lemmas.List.Elements.{All-nil, All-cons, All-head, All-tail, All-append}
use Rattle.std.proofs.lemmas.List.Sums.{sum_by-cons}
use Rattle.std.proofs.lemmas.Option.{slice_get-get_or}
use Rattle.mt_eval_fits.specs.Fitting.{ExprFits, FunctionFits, ItemsFit, StmtFits, Suit, Tested, fitting, is_met, value_fits}
use Rattle.mt_eval_keeps.specs.Kept.{Tests}
use Rattle.mt_eval_meaning.specs.Evaluation.{dollars_of}
use Rattle.mt_eval_meaning.specs.Hoisting.{kind_of, named_function, services, services_of_kind}
use Rattle.mt_eval_keeps.specs.Growth.{Thing}
use Rattle.mt_eval_meaning.specs.States.{Numbered}
use Rattle.mt_program_fits.specs.ProgramTests.{Admits, client_tests, has_dollars, program_tests}
use Rattle.mt_program_fits.proofs.Client.{FitAll, body_fits}
use Rattle.mt_program_fits.proofs.Programs.{program_dollars, program_items}
use Rattle.mt_stage.specs.Accepted.{IsAccepted}
use Rattle.mt_stage.specs.CodeLimits.{IsCodeWithinLimits}
use Rattle.mt_stage.specs.Made.{IsMadeProgram}
use Rattle.mt_syntax.specs.DataLimits.{AreWithinLimits, nodes_of_data}
use Rattle.mt_syntax.specs.Fold.{Every, Steps, StmtKindLayer, Tree, on_function, on_stmt, on_stmt_kind}
use Rattle.mt_syntax.specs.Numbering.{values_of}
use Rattle.mt_syntax.specs.declared.program.Program.{Program}
use Rattle.mt_syntax.specs.declared.program.Tilde.{Tilde}
use Rattle.mt_syntax.specs.declared.tree.ExprKind.TheOpen.{StmtKind-F}
use Rattle.mt_syntax.specs.declared.tree.Function.{Function, out-Function}
use Rattle.mt_syntax.specs.declared.tree.Mark.{Mark}
use Rattle.mt_syntax.specs.declared.tree.Stmt.{Stmt, out-Stmt, roll-out-Stmt}
use Rattle.mt_syntax.specs.declared.tree.StmtKind.{roll-out-StmtKind}
use Rattle.mt_syntax_laws.proofs.Layers.{map_stmt_kind}
use Rattle.mt_syntax_laws.proofs.Related.{at_stmt, at_stmt_kind, on}
use Rattle.mt_tree.specs.declared.data.Data.{Data}
use Rattle.mt_value.specs.Limits.{data_fits}

-- ---- the services, which stand among the items

module _ (allowed : List ℕ → List (List ℕ) → ℕ → Bool) (tilde : ℕ → Bool) where
  abbrev Fit : List ℕ × Function → Type 0
  Fit f = FunctionFits allowed tilde f.1

  named_fits : (m : Option Mark) (f : Function) → FunctionFits allowed tilde f → All Fit (named_function m f)
  named_fits None f fit = All-nil Fit
  named_fits (Some m) f fit = All-cons Fit (m.name, f) [] fit (All-nil Fit)

  kind_fits : (x : StmtKindLayer Tree) → IsTrue ((fitting allowed tilde).stmt_kind (map_stmt_kind (on (fitting allowed tilde)) x)).fits → All Fit (services_of_kind x)
  kind_fits (StmtKind-F.Service f) fit = named_fits (out-Function f).name f fit
  kind_fits _ fit = All-nil Fit

  stmt_at : (t : Stmt) → on_stmt (fitting allowed tilde) t ≡ (fitting allowed tilde).stmt_kind (map_stmt_kind (on (fitting allowed tilde)) (kind_of t))
  stmt_at t =
      ap (on_stmt (fitting allowed tilde)) (sym (roll-out-Stmt t)) ∙ at_stmt (fitting allowed tilde) (out-Stmt t)
      ∙ ap (on_stmt_kind (fitting allowed tilde)) (sym (roll-out-StmtKind (out-Stmt t).kind)) ∙ at_stmt_kind (fitting allowed tilde) (kind_of t)

  services_fit : (ts : List Stmt) → All (StmtFits allowed tilde) ts → All Fit (services ts)
  services_fit [] h = All-nil Fit
  services_fit (t ∷ ts) h =
      All-append Fit (services_of_kind (kind_of t)) (services ts) (kind_fits (kind_of t) (ap (λ (r : Tested). r.fits) (sym (stmt_at t)) ∙ All-head (StmtFits allowed tilde) t ts h)) (services_fit ts (All-tail (StmtFits allowed tilde) t ts h))

module _ {H : Type 0} (tests : Tests H) (p : Program) (accepted : IsAccepted p) (are_made : IsMadeProgram p) (admits : Admits tests p) where
  met_by : (id : ℕ) (o : Option Tilde) → slice_get p.tildes id ≡ o → id < length p.tildes → tests.tilde id (length (dollars_of o)) ≡ true
  met_by id (Some t) is h = admits.tildes id t is
  met_by id None is h = absurd (missing p.tildes id is h)
    where
      missing : (ts : List Tilde) (id : ℕ) → slice_get ts id ≡ None → id < length ts → ⊥
      missing [] id is h = absurd (omega (arith, h))
      missing (t ∷ ts) zero is h = absurd (cc)
      missing (t ∷ ts) (suc id) is h = missing ts id is (omega (arith, h))

  there : (id : ℕ) → id < length p.tildes → is_met tests p.tildes id ≡ true
  there id h = met_by id (slice_get p.tildes id) refl h

  pub items_of_program : ItemsFit tests p.tildes p.items
  items_of_program = program_items tests.element (is_met tests p.tildes) admits.elements p accepted are_made there

  pub dollars_of_program : All (λ t. All (ExprFits tests.element (is_met tests p.tildes)) t.dollars) p.tildes
  dollars_of_program = program_dollars tests.element (is_met tests p.tildes) admits.elements p accepted are_made there

  pub services_of_program : All (λ f. FunctionFits tests.element (is_met tests p.tildes) f.1) (services p.items)
  services_of_program = services_fit tests.element (is_met tests p.tildes) p.items items_of_program

-- ---- client code

few_nodes : (n : ℕ) → n ≤ 20000 → nat_lt n (2 ^ 53) ≡ true
few_nodes n h = grind (arith, nat_tests)

values_fit : (ds : List Data) → list_all data_fits ds ≡ true → sum (map nodes_of_data ds) ≤ 20000 → FitAll ds
values_fit [] fits few = tt
values_fit (d ∷ ds) fits few =
    let parts = and_parts (data_fits d) (list_all data_fits ds) fits in
    let nodes = sum_by-cons (λ n. n) (nodes_of_data d) (map nodes_of_data ds) in
    (and_from (data_fits d) (nat_lt (nodes_of_data d) (2 ^ 53)) parts.0 (few_nodes (nodes_of_data d) (omega (arith, few, nodes))), values_fit ds parts.1 (omega (arith, few, nodes)))

pub code_fits : {H : Type 0} (tests : Tests H) (body : List Stmt) → IsCodeWithinLimits body → list_all data_fits (values_of body) ≡ true → ItemsFit tests [] body
code_fits tests body within fits =
    body_fits tests.element (is_met tests []) body within.code.shaped within.texts within.code.plain (values_fit (values_of body) fits (omega (arith, within.values.nodes)))

-- ---- the tests of a program and of client code

module _ {H : Type 0} (own : H → Thing → Bool) (addresses : H → List ℕ) where
  same_number : (n : ℕ) → nat_eq n n ≡ true
  same_number n = grind (arith, nat_tests)

  admitted : (p : Program) (table : List Numbered) → Admits (program_tests own addresses p table) p
  admitted p table = record { elements = λ tag names n h. h; tildes = λ id t is. ap (λ (o : Option Tilde). has_dollars o (length t.dollars)) is ∙ same_number (length t.dollars) }

  pub program_suits : (p : Program) (table : List Numbered) → IsAccepted p → IsMadeProgram p → Suit (program_tests own addresses p table) p.tildes table
  program_suits p table accepted are_made = record { numbers = λ n. refl; dollars = dollars_of_program (program_tests own addresses p table) p accepted are_made (admitted p table) }

  pub client_suits : (table : List Numbered) → Suit (client_tests own addresses table) [] table
  client_suits table = record { numbers = λ n. refl; dollars = All-nil (λ (t : Tilde). All (ExprFits (client_tests own addresses table).element (is_met (client_tests own addresses table) [])) t.dollars) }
