-- Declarations whose places are taken away: whether names are declared twice is told without the places.
use Rattle.std.proofs.Common.{◌≡◌, List, [], ◌∷◌, ◌++◌, ◌||◌, map, flat_map, None, Some, refl, sym, ap, ◌∙◌}
use Rattle.std.specs.Prelude.{if◌then◌else◌}
use Rattle.std.specs.List.{list_any}
use Rattle.std.proofs.lemmas.List.{map-append}
use Rattle.mt_syntax.specs.Fold.{Every, ForStartLayer, StmtKindLayer}
use Rattle.mt_syntax.specs.Substitution.{unplaced}
use Rattle.mt_syntax.specs.declared.tree.Mark.{Mark}
use Rattle.mt_tree.specs.declared.operators.VarKind.{VarKind}
use Rattle.mt_tree.specs.declared.operators.VarKind.TheVariants as word
use Rattle.mt_syntax.specs.declared.tree.ExprKind.TheOpen.{ForStart-F, StmtKind-F}
use Rattle.mt_stage_declared.specs.Builtins.{is_builtin}
use Rattle.mt_stage_declared.specs.Declarations.{Declared, declarations, declared_by_kind, declared_by_start, declared_by_word, giving, holding, nothing}
use Rattle.mt_stage_declared.specs.Repeated.{builtins_in, clash, repeated, repeated_behind, twice_at, where_clashing}
use Rattle.mt_stage_declared.specs.declared.declaration.Declaration.{Declaration}
use Rattle.mt_stage_declared.specs.declared.declaration.DeclarationKind.{DeclarationKind}
use Rattle.mt_stage_declared.specs.declared.declaration.DeclarationKind.TheVariants as kind
use Rattle.mt_stage.proofs.Empty.{joined_empty, tested_empty}

abbrev pub away : Declaration → Declaration
away d = record { kind = d.kind; name = unplaced d.name }

abbrev pub all_away : List Declaration → List Declaration
all_away = map away

abbrev pub unplaced_declared : Declared → Declared
unplaced_declared d = record {
  names = map unplaced d.names;
  here = all_away d.here;
  services = all_away d.services;
  inside = all_away d.inside;
  variables = all_away d.variables;
}

pub declarations_away : (k : DeclarationKind) (ms : List Mark) → declarations k (map unplaced ms) ≡ all_away (declarations k ms)
declarations_away k [] = refl
declarations_away k (m ∷ ms) = ap (λ ds. away (record { kind = k; name = m }) ∷ ds) (declarations_away k ms)

-- ---- what is declared twice

any_away : (d : Declaration) (before : List Declaration) → list_any (clash (away d)) (all_away before) ≡ list_any (clash d) before
any_away d [] = refl
any_away d (e ∷ before) = ap (λ b. clash d e || b) (any_away d before)

clashing_away : (d : Declaration) (before : List Declaration) → where_clashing d before ≡ [] → where_clashing (away d) (all_away before) ≡ []
clashing_away d before e =
    ap (λ b. if b then twice_at (unplaced d.name) ∷ [] else []) (any_away d before) ∙ tested_empty (list_any (clash d) before) (twice_at d.name) (twice_at (unplaced d.name)) e

behind_away : (before ds : List Declaration) → repeated_behind before ds ≡ [] → repeated_behind (all_away before) (all_away ds) ≡ []
behind_away before [] e = refl
behind_away before (d ∷ ds) e =
    joined_empty (where_clashing d before) (repeated_behind (before ++ d ∷ []) ds) (where_clashing (away d) (all_away before)) (repeated_behind (all_away before ++ away d ∷ []) (all_away ds))
    (clashing_away d before) (λ later. ap (λ bs. repeated_behind bs (all_away ds)) (sym (map-append away before (d ∷ []))) ∙ behind_away (before ++ d ∷ []) ds later) e

pub repeated_away : (ds : List Declaration) → repeated ds ≡ [] → repeated (all_away ds) ≡ []
repeated_away = behind_away []

pub builtins_away : (ds : List Declaration) → builtins_in ds ≡ [] → builtins_in (all_away ds) ≡ []
builtins_away [] e = refl
builtins_away (d ∷ ds) e =
    joined_empty (if is_builtin d.name.name then twice_at d.name ∷ [] else []) (builtins_in ds) (if is_builtin d.name.name then twice_at (unplaced d.name) ∷ [] else []) (builtins_in (all_away ds))
    (tested_empty (is_builtin d.name.name) (twice_at d.name) (twice_at (unplaced d.name))) (builtins_away ds) e

-- ---- what a node declares, where its parts declare without places

pub flat_away : {P X : Type 0} (f : X → X) (g : P → List X) (ps : List P) → flat_map (λ p. map f (g p)) ps ≡ map f (flat_map g ps)
flat_away f g [] = refl
flat_away f g (p ∷ ps) = ap (λ xs. map f (g p) ++ xs) (flat_away f g ps) ∙ sym (map-append f (g p) (flat_map g ps))

word_away : (w : VarKind) (names : List Mark) → declared_by_word w (map unplaced names) ≡ unplaced_declared (declared_by_word w names)
word_away word.Var names = λ i. record nothing { here = declarations_away kind.Variable names i; variables = declarations_away kind.Nested names i }
word_away word.Let names = λ i. record nothing { here = declarations_away kind.Lexical names i }
word_away word.Const names = λ i. record nothing { here = declarations_away kind.Lexical names i }

holding_away : (ds es : List Declaration) → holding (all_away ds ++ all_away es) ≡ unplaced_declared (holding (ds ++ es))
holding_away ds es = ap holding (sym (map-append away ds es))

module _ {P : Type 0} (of : P → Declared) where
  abbrev of_away : P → Declared
  of_away p = unplaced_declared (of p)

  pub start_away : (x : ForStartLayer (Every P)) → declared_by_start of_away x ≡ unplaced_declared (declared_by_start of x)
  start_away (ForStart-F.ForStart::Var decls) = ap giving (flat_away unplaced (λ p. (of p).names) decls)
  start_away ForStart-F.Absent = refl
  start_away (ForStart-F.ForStart::Expr a) = refl

  pub kind_away : (x : StmtKindLayer (Every P)) → declared_by_kind of_away x ≡ unplaced_declared (declared_by_kind of x)
  kind_away (StmtKind-F.StmtKind::Var w decls) = ap (declared_by_word w) (flat_away unplaced (λ p. (of p).names) decls) ∙ word_away w (flat_map (λ p. (of p).names) decls)
  kind_away (StmtKind-F.Function function) = λ i. record nothing { here = declarations_away kind.Function (of function).names i }
  kind_away (StmtKind-F.Service function) = λ i. record nothing { services = declarations_away kind.Service (of function).names i }
  kind_away (StmtKind-F.If test body None) = holding_away (of body).variables []
  kind_away (StmtKind-F.If test body (Some other)) = holding_away (of body).variables (of other).variables
  kind_away (StmtKind-F.For start test step body) =
      ap (λ ds. holding (ds ++ all_away (of body).variables)) (declarations_away kind.Nested (of start).names) ∙ holding_away (declarations kind.Nested (of start).names) (of body).variables
  kind_away (StmtKind-F.Try body name handler) = holding_away (of body).variables (of handler).variables
  kind_away (StmtKind-F.Block items) = λ i. record (holding (flat_away away (λ p. (of p).variables) items i)) { inside = flat_away away (λ p. (of p).here) items i }
  kind_away _ = refl
