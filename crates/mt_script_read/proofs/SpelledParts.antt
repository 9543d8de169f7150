-- The tokens of declarations, properties, functions and blocks.
use Rattle.std.proofs.Common.{◌≡◌, ℕ, true, false, ◌&&◌, List, [], ◌∷◌, ◌++◌, map, Option, Some, None, refl, sym, ◌∙◌, arith}
use Rattle.std.specs.Prelude.{codes, option_map}
use Rattle.std.specs.List.{list_all}
use Rattle.std.specs.Str.{all_scalars}
use Rattle.std.proofs.lemmas.Bool.{and_parts}
use Rattle.mt_tree.specs.declared.operators.VarKind.{VarKind}
use Rattle.mt_tree.specs.declared.operators.VarKind.TheVariants as words
use Rattle.mt_syntax.specs.CodeText.{block, name_text, named, var_text, writing_code}
use Rattle.mt_syntax.specs.Codes.{mark_is_nowhere, name_is_nowhere, testing_nowhere}
use Rattle.mt_syntax.specs.DataText.{separated}
use Rattle.mt_syntax.specs.Fold.{DeclLayer, ForStartLayer, FunctionLayer, PropLayer}
use Rattle.mt_syntax.specs.Gathering.{all_of}
use Rattle.mt_syntax.specs.Names.{is_name}
use Rattle.mt_syntax.specs.Shape.{all_fit, decls_fit, mark_fits, shaping}
use Rattle.mt_syntax.specs.Sort as sort
use Rattle.mt_syntax.specs.declared.tree.Decl.{Decl}
use Rattle.mt_syntax.specs.declared.tree.Expr.{Expr}
use Rattle.mt_syntax.specs.declared.tree.Mark.{Mark}
use Rattle.mt_syntax.specs.declared.tree.Stmt.{Stmt}
use Rattle.mt_syntax.specs.declared.tree.ExprKind.TheOpen.{ForStart-F}
use Rattle.mt_syntax_laws.proofs.Layers.{map_decl, map_for_start, map_function, map_prop}
use Rattle.mt_syntax_laws.proofs.Related.{on}
use Rattle.mt_script_words.proofs.WordTexts.{ends_word}
use Rattle.mt_script_read.proofs.Shortened.{shortened, name_kept, short_mark, short_text, text_kept}
use Rattle.mt_script_read.proofs.Clauses.{declared_fit}
use Rattle.mt_script_read.proofs.Goodness.{AllGood, AreClean, Each, FunctionClean, IsClean, good_decl, good_for_start, good_function, good_prop, good_rows}
use Rattle.mt_script_read.proofs.Leaves.{Leaves, leaves_of_marks, leaves_of_name, leaving, no_leaves, then_leaves}
use Rattle.mt_script_read.proofs.Marks.{name_fits}
use Rattle.mt_script_read.proofs.Spells.{DeclSpelled, FunctionIsSpelled, FunctionSpelled, HeldSpells, PropSpelled, StartSpelled, each_of, its}
use Rattle.mt_script_read.proofs.Tokens.{Spelled, in_line, join, listed, loose, marks_spelled, name_spelled, nothing, signs, text_spelled, word}

-- ---- declarations and properties

decl_spelled : (name : Mark) (value : Option (HeldSpells sort.Expr)) → DeclSpelled (map_decl its (record { name = name; value = value }))
decl_spelled name None g =
    let good = good_decl (record { name = short_mark name; value = None }) g in
    let fits = and_parts (mark_fits (short_mark name)) true good.0 in join (name_spelled name.name (sym (name_kept name.name) ∙ fits.0)) (loose nothing) (λ rest e. e)
decl_spelled name (Some a) g =
    let e : Expr = shortened sort.Expr a.0 in
    let good = good_decl (record { name = short_mark name; value = Some e }) g in
    let fits = and_parts (mark_fits (short_mark name)) (on shaping sort.Expr e).fits good.0 in
    let places = and_parts (mark_is_nowhere (short_mark name)) (on testing_nowhere sort.Expr e) good.1.no_places in
    let clean : IsClean sort.Expr e =
    record { plain_code = good.1.plain_code; filled_code = good.1.filled_code; no_places = places.1; short_texts = omega (arith, good.1.short_texts); small_values = good.1.small_values } in
    let value = a.1 (record { shaped = fits.1; clean = clean }) in
    join (name_spelled name.name (sym (name_kept name.name) ∙ fits.0)) (join (signs (codes "=") refl) value (λ rest e. refl)) (λ rest e. refl)

pub decl_is_spelled : (y : DeclLayer HeldSpells) → DeclSpelled (map_decl its y)
decl_is_spelled y = decl_spelled y.name y.value

pub prop_is_spelled : (y : PropLayer HeldSpells) → PropSpelled (map_prop its y)
prop_is_spelled y g =
    let e : Expr = shortened sort.Expr y.value.0 in
    let good = good_prop (record { name = short_text y.name; value = e }) g in
    let fits = and_parts (all_scalars (short_text y.name)) (on shaping sort.Expr e).fits good.0 in
    let clean : IsClean sort.Expr e =
    record { plain_code = good.1.plain_code; filled_code = good.1.filled_code; no_places = good.1.no_places; short_texts = omega (arith, good.1.short_texts); small_values = good.1.small_values } in
    let value = y.value.1 (record { shaped = fits.1; clean = clean }) in
    join (text_spelled y.name (sym (text_kept y.name) ∙ fits.0)) (join (signs (codes ":") refl) value (λ rest e. refl)) (λ rest e. refl)

-- ---- lists of declarations

pub var_spelled : (kind : VarKind) → Spelled true (var_text kind) (var_text kind) no_leaves
var_spelled words.Var = join (word 118 (codes "ar") refl refl) (signs (codes " ") refl) (λ rest e. refl)
var_spelled words.Let = join (word 108 (codes "et") refl refl) (signs (codes " ") refl) (λ rest e. refl)
var_spelled words.Const = join (word 99 (codes "onst") refl refl) (signs (codes " ") refl) (λ rest e. refl)

pub decls_spelled : (kind : VarKind) (ds : List (HeldSpells sort.Decl)) → decls_fit kind (map (on shaping sort.Decl) (map (shortened sort.Decl) (map (its sort.Decl) ds))) ≡ true
    → AreClean sort.Decl (map (shortened sort.Decl) (map (its sort.Decl) ds))
    → Spelled false (separated (map (on writing_code sort.Decl) (map (its sort.Decl) ds))) (separated (map (on writing_code sort.Decl) (map (shortened sort.Decl) (map (its sort.Decl) ds))))
    (all_of no_leaves then_leaves (map (on leaving sort.Decl) (map (its sort.Decl) ds)))
decls_spelled kind ds fit clean =
    let items : List Decl = map (shortened sort.Decl) (map (its sort.Decl) ds) in
    let all : AllGood sort.Decl items = good_rows sort.Decl items (declared_fit kind items fit).1 clean in
    listed (on writing_code sort.Decl) (shortened sort.Decl) (on leaving sort.Decl) false (map (its sort.Decl) ds) (each_of {s = sort.Decl} false ds (λ h g. h.1 g) all)

pub start_is_spelled : (y : ForStartLayer HeldSpells) → StartSpelled (map_for_start its y)
start_is_spelled ForStart-F.Absent g = loose nothing
start_is_spelled (ForStart-F.ForStart::Var ds) g =
    let good = good_for_start (ForStart-F.ForStart::Var (map (shortened sort.Decl) (map (its sort.Decl) ds))) g in
    join (var_spelled words.Var) (decls_spelled words.Var ds good.0 good.1) (λ rest e. refl)
start_is_spelled (ForStart-F.ForStart::Expr a) g = let good = good_for_start (ForStart-F.ForStart::Expr (shortened sort.Expr a.0)) g in a.1 (record { shaped = good.0; clean = good.1 })

-- ---- blocks

abbrev pub texts_in : List (HeldSpells sort.Stmt) → List (List ℕ)
texts_in ss = map (on writing_code sort.Stmt) (map (its sort.Stmt) ss)

abbrev pub short_texts_in : List (HeldSpells sort.Stmt) → List (List ℕ)
short_texts_in ss = map (on writing_code sort.Stmt) (map (shortened sort.Stmt) (map (its sort.Stmt) ss))

abbrev pub leaves_in : List (HeldSpells sort.Stmt) → Leaves
leaves_in ss = all_of no_leaves then_leaves (map (on leaving sort.Stmt) (map (its sort.Stmt) ss))

pub block_spelled : (ss : List (HeldSpells sort.Stmt)) → AllGood sort.Stmt (map (shortened sort.Stmt) (map (its sort.Stmt) ss))
    → Spelled true (block (texts_in ss)) (block (short_texts_in ss)) (leaves_in ss)
block_spelled ss all =
    let items = in_line (on writing_code sort.Stmt) (shortened sort.Stmt) (on leaving sort.Stmt) (map (its sort.Stmt) ss) (each_of {s = sort.Stmt} true ss (λ h g. (h.1 g).spelled) all) in
    join (signs (codes "{") refl) (join items (signs (codes "}") refl) (λ rest e. refl)) (λ rest e. refl)

-- ---- functions

own_spelled : (name : Option Mark) → name_fits (option_map short_mark name) ≡ true → Spelled false (named name) (named (option_map short_mark name)) (leaves_of_name name)
own_spelled None h = loose nothing
own_spelled (Some m) h = join (signs (codes " ") refl) (name_spelled m.name (sym (name_kept m.name) ∙ h)) (λ rest e. refl)

own_ends : (name : Option Mark) (more rest : List ℕ) → ends_word ((named name ++ 40 ∷ more) ++ rest) ≡ true
own_ends None more rest = refl
own_ends (Some m) more rest = refl

are_names : (ms : List Mark) → list_all mark_fits (map short_mark ms) ≡ true → Each (λ m. is_name m.name ≡ true) ms
are_names [] h = tt
are_names (m ∷ ms) h = let parts = and_parts (mark_fits (short_mark m)) (list_all mark_fits (map short_mark ms)) h in (sym (name_kept m.name) ∙ parts.0, are_names ms parts.1)

module _ (name : Option Mark) (parameters : List Mark) (ss : List (HeldSpells sort.Stmt)) where
  abbrev body : List Stmt
  body = map (shortened sort.Stmt) (map (its sort.Stmt) ss)

  abbrev short_name : Option Mark
  short_name = option_map short_mark name

  abbrev short_parameters : List Mark
  short_parameters = map short_mark parameters

  function_by : ((name_fits short_name && list_all mark_fits short_parameters) && all_fit (map (on shaping sort.Stmt) body)) ≡ true
      → FunctionClean (record { name = short_name; parameters = short_parameters; body = body })
      → FunctionSpelled (named name ++ (codes "(" ++ (separated (map name_text parameters) ++ (codes ")" ++ block (texts_in ss)))))
      (named short_name ++ (codes "(" ++ (separated (map name_text short_parameters) ++ (codes ")" ++ block (short_texts_in ss)))))
      (λ ls. leaves_of_name name (leaves_of_marks parameters (leaves_in ss ls)))
  function_by fit clean' =
      let fits = and_parts (name_fits short_name && list_all mark_fits short_parameters) (all_fit (map (on shaping sort.Stmt) body)) fit in
      let names = and_parts (name_fits short_name) (list_all mark_fits short_parameters) fits.0 in
      let places = and_parts (name_is_nowhere short_name && list_all mark_is_nowhere short_parameters) (all_of true (λ a b. a && b) (map (on testing_nowhere sort.Stmt) body)) clean'.no_places in
      let clean : AreClean sort.Stmt body =
      record { plain_code = clean'.plain_code; filled_code = clean'.filled_code; no_places = places.1; short_texts = omega (arith, clean'.short_texts); small_values = clean'.small_values } in
      let last = join (signs (codes ")") refl) (block_spelled ss (good_rows sort.Stmt body fits.1 clean)) (λ rest e. refl) in
      let front = join (signs (codes "(") refl) (join (marks_spelled parameters (are_names parameters names.1)) last (λ rest e. refl)) (λ rest e. refl) in
      record { spelled = join (own_spelled name names.0) front (λ rest e. refl); ends = λ more. own_ends name _ more }

function_spelled : (name : Option Mark) (parameters : List Mark) (ss : List (HeldSpells sort.Stmt)) → FunctionIsSpelled (map_function its (record { name = name; parameters = parameters; body = ss }))
function_spelled None parameters ss g =
    let items : List Stmt = map (shortened sort.Stmt) (map (its sort.Stmt) ss) in
    let good = good_function (record { name = None; parameters = map short_mark parameters; body = items }) g in function_by None parameters ss good.0 good.1
function_spelled (Some m) parameters ss g =
    let items : List Stmt = map (shortened sort.Stmt) (map (its sort.Stmt) ss) in
    let good = good_function (record { name = Some (short_mark m); parameters = map short_mark parameters; body = items }) g in function_by (Some m) parameters ss good.0 good.1

pub function_is_spelled : (y : FunctionLayer HeldSpells) → FunctionIsSpelled (map_function its y)
function_is_spelled y = function_spelled y.name y.parameters y.body
