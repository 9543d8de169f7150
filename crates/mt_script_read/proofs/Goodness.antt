-- What trees of code within the limits have in common, node by node: the form of code, no place, short texts, and values each of
-- which is within the limits.
use Rattle.std.proofs.Common.{◌≡◌, ℕ, ◌≤◌, max, Bool, true, ◌&&◌, eqb, List, [], ◌∷◌, map, Option, Some, None, refl, sym, ap, subst, ◌∙◌, arith}
use Rattle.std.specs.Prelude.{option_map}
use Rattle.std.specs.List.{list_all}
use Rattle.std.proofs.lemmas.Bool.{and_from, and_parts, le-leb}
use Rattle.std.proofs.lemmas.Bool.Decides.{Decides-eqb}
use Rattle.mt_tree.specs.Text.{units_of}
use Rattle.mt_tree.specs.declared.place.Place.{Place}
use Rattle.mt_syntax.specs.Sort.{Sort}
use Rattle.mt_syntax.specs.Sort as sort
use Rattle.mt_syntax.specs.Codes.{is_nowhere, mark_is_nowhere, testing, testing_filled, testing_nowhere, testing_plain}
use Rattle.mt_syntax.specs.Fold.{Every, ExprKindLayer, ForStartLayer, StmtKindLayer, DeclLayer, ExprLayer, FunctionLayer, PropLayer, StmtLayer, Steps, Tree}
use Rattle.mt_syntax.specs.Gathering.{all_of, or_none}
use Rattle.mt_syntax.specs.Depth.{greatest}
use Rattle.mt_syntax.specs.Names.{is_name}
use Rattle.mt_syntax.specs.Shape.{all_fit, mark_fits, optional_fits, shaping}
use Rattle.mt_syntax.specs.Substitution.{nowhere}
use Rattle.mt_syntax.specs.declared.tree.Mark.{Mark}
use Rattle.mt_syntax.specs.declared.tree.Decl.{roll-Decl}
use Rattle.mt_syntax.specs.declared.tree.Expr.{roll-Expr}
use Rattle.mt_syntax.specs.declared.tree.ExprKind.{roll-ExprKind}
use Rattle.mt_syntax.specs.declared.tree.ForStart.{roll-ForStart}
use Rattle.mt_syntax.specs.declared.tree.Function.{roll-Function}
use Rattle.mt_syntax.specs.declared.tree.Prop.{roll-Prop}
use Rattle.mt_syntax.specs.declared.tree.Stmt.{roll-Stmt}
use Rattle.mt_syntax.specs.declared.tree.StmtKind.{roll-StmtKind}
use Rattle.mt_syntax.specs.declared.tree.ExprKind.TheOpen.{ExprKind-F}
use Rattle.mt_syntax_laws.proofs.Layers.{map_decl, map_expr, map_expr_kind, map_for_start, map_function, map_prop, map_stmt, map_stmt_kind}
use Rattle.mt_syntax_laws.proofs.Related.{on, at_decl, at_expr, at_expr_kind, at_for_start, at_function, at_prop, at_stmt, at_stmt_kind}
use Rattle.mt_syntax.specs.Texts.{length_of_name, measuring_texts}
use Rattle.mt_script_words.specs.Values.{is_within}
use Rattle.mt_script_words.specs.Words.{is_short}
use Rattle.mt_tree.specs.Limits.{text_limit}

-- ---- each value by itself

abbrev pub expr_kind_is_within : ExprKindLayer (Every Bool) → Bool
expr_kind_is_within (ExprKind-F.Val d) = is_within d
expr_kind_is_within layer = testing.expr_kind layer

abbrev pub testing_within : Steps (Every Bool)
testing_within = record testing { expr_kind = expr_kind_is_within }

-- ---- what is known of a tree

-- beside its form
pub record Clean (plain filled nowhere : Bool) (longest : ℕ) (within : Bool) : Type 0 where
  pub plain_code : plain ≡ true
  pub filled_code : filled ≡ true
  pub no_places : nowhere ≡ true
  pub short_texts : longest ≤ text_limit
  pub small_values : within ≡ true

abbrev pub IsClean : (s : Sort) → Tree s → Type 0
IsClean s t = Clean (on testing_plain s t) (on testing_filled s t) (on testing_nowhere s t) (on measuring_texts s t) (on testing_within s t)

pub record Good (s : Sort) (t : Tree s) : Type 0 where
  pub shaped : (on shaping s t).fits ≡ true
  pub clean : IsClean s t

moved : {pl pl' fi fi' no no' : Bool} {lo lo' : ℕ} {wi wi' : Bool} → pl ≡ pl' → fi ≡ fi' → no ≡ no' → lo ≡ lo' → wi ≡ wi' → Clean pl fi no lo wi → Clean pl' fi' no' lo' wi'
moved a b c d e g = record {
  plain_code = sym a ∙ g.plain_code;
  filled_code = sym b ∙ g.filled_code;
  no_places = sym c ∙ g.no_places;
  short_texts = subst (λ n. n ≤ text_limit) d g.short_texts;
  small_values = sym e ∙ g.small_values;
}

-- ---- several parts

pub nothing_clean : Clean true true true 0 true
nothing_clean = record { plain_code = refl; filled_code = refl; no_places = refl; short_texts = omega arith; small_values = refl }

module _ {pl fi no : Bool} {lo : ℕ} {wi : Bool} where
  pub with_clean : (s : Sort) (t : Tree s) → IsClean s t → Clean pl fi no lo wi
      → Clean (on testing_plain s t && pl) (on testing_filled s t && fi) (on testing_nowhere s t && no) (max (on measuring_texts s t) lo) (on testing_within s t && wi)
  with_clean s t a b = record {
    plain_code = and_from (on testing_plain s t) pl a.plain_code b.plain_code;
    filled_code = and_from (on testing_filled s t) fi a.filled_code b.filled_code;
    no_places = and_from (on testing_nowhere s t) no a.no_places b.no_places;
    short_texts = omega (arith, a.short_texts, b.short_texts);
    small_values = and_from (on testing_within s t) wi a.small_values b.small_values;
  }

  pub clean_with : (s : Sort) (t : Tree s)
      → Clean (on testing_plain s t && pl) (on testing_filled s t && fi) (on testing_nowhere s t && no) (max (on measuring_texts s t) lo) (on testing_within s t && wi)
      → IsClean s t × Clean pl fi no lo wi
  clean_with s t g =
      let a = and_parts (on testing_plain s t) pl g.plain_code in
      let b = and_parts (on testing_filled s t) fi g.filled_code in
      let c = and_parts (on testing_nowhere s t) no g.no_places in
      let e = and_parts (on testing_within s t) wi g.small_values in (
        record { plain_code = a.0; filled_code = b.0; no_places = c.0; short_texts = omega (arith, g.short_texts); small_values = e.0 },
        record { plain_code = a.1; filled_code = b.1; no_places = c.1; short_texts = omega (arith, g.short_texts); small_values = e.1 },
      )

-- of two parts beside each other
abbrev pub AreBothClean : (s t : Sort) → Tree s → Tree t → Type 0
AreBothClean s t a b =
    Clean (on testing_plain s a && on testing_plain t b) (on testing_filled s a && on testing_filled t b) (on testing_nowhere s a && on testing_nowhere t b)
    (max (on measuring_texts s a) (on measuring_texts t b)) (on testing_within s a && on testing_within t b)

abbrev pub AreClean : (s : Sort) → List (Tree s) → Type 0
AreClean s ts =
    Clean (all_of true (λ a b. a && b) (map (on testing_plain s) ts)) (all_of true (λ a b. a && b) (map (on testing_filled s) ts)) (all_of true (λ a b. a && b) (map (on testing_nowhere s) ts))
    (all_of 0 max (map (on measuring_texts s) ts)) (all_of true (λ a b. a && b) (map (on testing_within s) ts))

abbrev pub Each : {A : Type 0} → (A → Type 0) → List A → Type 0
Each P [] = Unit {0}
Each P (x ∷ xs) = P x × Each P xs

abbrev pub AllGood : (s : Sort) → List (Tree s) → Type 0
AllGood s = Each (Good s)

pub rows_clean : (s : Sort) (ts : List (Tree s)) → AllGood s ts → AreClean s ts
rows_clean s [] g = nothing_clean
rows_clean s (t ∷ ts) g = with_clean s t g.0.clean (rows_clean s ts g.1)

pub rows_fit : (s : Sort) (ts : List (Tree s)) → AllGood s ts → all_fit (map (on shaping s) ts) ≡ true
rows_fit s [] g = refl
rows_fit s (t ∷ ts) g = and_from (on shaping s t).fits (all_fit (map (on shaping s) ts)) g.0.shaped (rows_fit s ts g.1)

pub good_rows : (s : Sort) (ts : List (Tree s)) → all_fit (map (on shaping s) ts) ≡ true → AreClean s ts → AllGood s ts
good_rows s [] fit clean = tt
good_rows s (t ∷ ts) fit clean =
    let fits = and_parts (on shaping s t).fits (all_fit (map (on shaping s) ts)) fit in
    let cleans = clean_with s t clean in
    (record { shaped = fits.0; clean = cleans.0 }, good_rows s ts fits.1 cleans.1)

abbrev pub IsCleanIfAny : (s : Sort) → Option (Tree s) → Type 0
IsCleanIfAny s o =
    Clean (or_none true (λ a b. a && b) (option_map (on testing_plain s) o)) (or_none true (λ a b. a && b) (option_map (on testing_filled s) o)) (or_none true (λ a b. a && b) (option_map (on testing_nowhere s) o))
    (or_none 0 max (option_map (on measuring_texts s) o)) (or_none true (λ a b. a && b) (option_map (on testing_within s) o))

abbrev pub IfAny : {A : Type 0} → (A → Type 0) → Option A → Type 0
IfAny P None = Unit {0}
IfAny P (Some x) = P x

abbrev pub GoodIfAny : (s : Sort) → Option (Tree s) → Type 0
GoodIfAny s = IfAny (Good s)

pub clean_if_any : (s : Sort) (o : Option (Tree s)) → GoodIfAny s o → IsCleanIfAny s o
clean_if_any s None g = nothing_clean
clean_if_any s (Some t) g = g.clean

pub fits_if_any : (s : Sort) (o : Option (Tree s)) → GoodIfAny s o → optional_fits (option_map (on shaping s) o) ≡ true
fits_if_any s None g = refl
fits_if_any s (Some t) g = g.shaped

pub good_if_any : (s : Sort) (o : Option (Tree s)) → optional_fits (option_map (on shaping s) o) ≡ true → IsCleanIfAny s o → GoodIfAny s o
good_if_any s None fit clean = tt
good_if_any s (Some t) fit clean = record { shaped = fit; clean = clean }

-- ---- a node and its parts

abbrev pub ExprKindClean : ExprKindLayer Tree → Type 0
ExprKindClean x =
    Clean (testing_plain.expr_kind (map_expr_kind (on testing_plain) x)) (testing_filled.expr_kind (map_expr_kind (on testing_filled) x)) (testing_nowhere.expr_kind (map_expr_kind (on testing_nowhere) x))
    (measuring_texts.expr_kind (map_expr_kind (on measuring_texts) x)) (testing_within.expr_kind (map_expr_kind (on testing_within) x))

pub expr_kind_good : (x : ExprKindLayer Tree) → (shaping.expr_kind (map_expr_kind (on shaping) x)).fits ≡ true → ExprKindClean x → Good sort.ExprKind (roll-ExprKind x)
expr_kind_good x shaped clean = record {
  shaped = ap (λ p. p.fits) (at_expr_kind shaping x) ∙ shaped;
  clean = moved (sym (at_expr_kind testing_plain x)) (sym (at_expr_kind testing_filled x)) (sym (at_expr_kind testing_nowhere x)) (sym (at_expr_kind measuring_texts x)) (sym (at_expr_kind testing_within x)) clean;
}

pub good_expr_kind : (x : ExprKindLayer Tree) → Good sort.ExprKind (roll-ExprKind x) → ((shaping.expr_kind (map_expr_kind (on shaping) x)).fits ≡ true) × ExprKindClean x
good_expr_kind x g =
    (ap (λ p. p.fits) (sym (at_expr_kind shaping x)) ∙ g.shaped, moved (at_expr_kind testing_plain x) (at_expr_kind testing_filled x) (at_expr_kind testing_nowhere x) (at_expr_kind measuring_texts x) (at_expr_kind testing_within x) g.clean)

abbrev pub ForStartClean : ForStartLayer Tree → Type 0
ForStartClean x =
    Clean (testing_plain.for_start (map_for_start (on testing_plain) x)) (testing_filled.for_start (map_for_start (on testing_filled) x)) (testing_nowhere.for_start (map_for_start (on testing_nowhere) x))
    (measuring_texts.for_start (map_for_start (on measuring_texts) x)) (testing_within.for_start (map_for_start (on testing_within) x))

pub for_start_good : (x : ForStartLayer Tree) → (shaping.for_start (map_for_start (on shaping) x)).fits ≡ true → ForStartClean x → Good sort.ForStart (roll-ForStart x)
for_start_good x shaped clean = record {
  shaped = ap (λ p. p.fits) (at_for_start shaping x) ∙ shaped;
  clean = moved (sym (at_for_start testing_plain x)) (sym (at_for_start testing_filled x)) (sym (at_for_start testing_nowhere x)) (sym (at_for_start measuring_texts x)) (sym (at_for_start testing_within x)) clean;
}

pub good_for_start : (x : ForStartLayer Tree) → Good sort.ForStart (roll-ForStart x) → ((shaping.for_start (map_for_start (on shaping) x)).fits ≡ true) × ForStartClean x
good_for_start x g =
    (ap (λ p. p.fits) (sym (at_for_start shaping x)) ∙ g.shaped, moved (at_for_start testing_plain x) (at_for_start testing_filled x) (at_for_start testing_nowhere x) (at_for_start measuring_texts x) (at_for_start testing_within x) g.clean)

abbrev pub StmtKindClean : StmtKindLayer Tree → Type 0
StmtKindClean x =
    Clean (testing_plain.stmt_kind (map_stmt_kind (on testing_plain) x)) (testing_filled.stmt_kind (map_stmt_kind (on testing_filled) x)) (testing_nowhere.stmt_kind (map_stmt_kind (on testing_nowhere) x))
    (measuring_texts.stmt_kind (map_stmt_kind (on measuring_texts) x)) (testing_within.stmt_kind (map_stmt_kind (on testing_within) x))

pub stmt_kind_good : (x : StmtKindLayer Tree) → (shaping.stmt_kind (map_stmt_kind (on shaping) x)).fits ≡ true → StmtKindClean x → Good sort.StmtKind (roll-StmtKind x)
stmt_kind_good x shaped clean = record {
  shaped = ap (λ p. p.fits) (at_stmt_kind shaping x) ∙ shaped;
  clean = moved (sym (at_stmt_kind testing_plain x)) (sym (at_stmt_kind testing_filled x)) (sym (at_stmt_kind testing_nowhere x)) (sym (at_stmt_kind measuring_texts x)) (sym (at_stmt_kind testing_within x)) clean;
}

pub good_stmt_kind : (x : StmtKindLayer Tree) → Good sort.StmtKind (roll-StmtKind x) → ((shaping.stmt_kind (map_stmt_kind (on shaping) x)).fits ≡ true) × StmtKindClean x
good_stmt_kind x g =
    (ap (λ p. p.fits) (sym (at_stmt_kind shaping x)) ∙ g.shaped, moved (at_stmt_kind testing_plain x) (at_stmt_kind testing_filled x) (at_stmt_kind testing_nowhere x) (at_stmt_kind measuring_texts x) (at_stmt_kind testing_within x) g.clean)

abbrev pub DeclClean : DeclLayer Tree → Type 0
DeclClean x =
    Clean (testing_plain.decl (map_decl (on testing_plain) x)) (testing_filled.decl (map_decl (on testing_filled) x)) (testing_nowhere.decl (map_decl (on testing_nowhere) x))
    (measuring_texts.decl (map_decl (on measuring_texts) x)) (testing_within.decl (map_decl (on testing_within) x))

pub decl_good : (x : DeclLayer Tree) → (shaping.decl (map_decl (on shaping) x)).fits ≡ true → DeclClean x → Good sort.Decl (roll-Decl x)
decl_good x shaped clean = record {
  shaped = ap (λ p. p.fits) (at_decl shaping x) ∙ shaped;
  clean = moved (sym (at_decl testing_plain x)) (sym (at_decl testing_filled x)) (sym (at_decl testing_nowhere x)) (sym (at_decl measuring_texts x)) (sym (at_decl testing_within x)) clean;
}

pub good_decl : (x : DeclLayer Tree) → Good sort.Decl (roll-Decl x) → ((shaping.decl (map_decl (on shaping) x)).fits ≡ true) × DeclClean x
good_decl x g =
    (ap (λ p. p.fits) (sym (at_decl shaping x)) ∙ g.shaped, moved (at_decl testing_plain x) (at_decl testing_filled x) (at_decl testing_nowhere x) (at_decl measuring_texts x) (at_decl testing_within x) g.clean)

abbrev pub ExprClean : ExprLayer Tree → Type 0
ExprClean x =
    Clean (testing_plain.expr (map_expr (on testing_plain) x)) (testing_filled.expr (map_expr (on testing_filled) x)) (testing_nowhere.expr (map_expr (on testing_nowhere) x))
    (measuring_texts.expr (map_expr (on measuring_texts) x)) (testing_within.expr (map_expr (on testing_within) x))

pub expr_good : (x : ExprLayer Tree) → (shaping.expr (map_expr (on shaping) x)).fits ≡ true → ExprClean x → Good sort.Expr (roll-Expr x)
expr_good x shaped clean = record {
  shaped = ap (λ p. p.fits) (at_expr shaping x) ∙ shaped;
  clean = moved (sym (at_expr testing_plain x)) (sym (at_expr testing_filled x)) (sym (at_expr testing_nowhere x)) (sym (at_expr measuring_texts x)) (sym (at_expr testing_within x)) clean;
}

pub good_expr : (x : ExprLayer Tree) → Good sort.Expr (roll-Expr x) → ((shaping.expr (map_expr (on shaping) x)).fits ≡ true) × ExprClean x
good_expr x g =
    (ap (λ p. p.fits) (sym (at_expr shaping x)) ∙ g.shaped, moved (at_expr testing_plain x) (at_expr testing_filled x) (at_expr testing_nowhere x) (at_expr measuring_texts x) (at_expr testing_within x) g.clean)

abbrev pub FunctionClean : FunctionLayer Tree → Type 0
FunctionClean x =
    Clean (testing_plain.function (map_function (on testing_plain) x)) (testing_filled.function (map_function (on testing_filled) x)) (testing_nowhere.function (map_function (on testing_nowhere) x))
    (measuring_texts.function (map_function (on measuring_texts) x)) (testing_within.function (map_function (on testing_within) x))

pub function_good : (x : FunctionLayer Tree) → (shaping.function (map_function (on shaping) x)).fits ≡ true → FunctionClean x → Good sort.Function (roll-Function x)
function_good x shaped clean = record {
  shaped = ap (λ p. p.fits) (at_function shaping x) ∙ shaped;
  clean = moved (sym (at_function testing_plain x)) (sym (at_function testing_filled x)) (sym (at_function testing_nowhere x)) (sym (at_function measuring_texts x)) (sym (at_function testing_within x)) clean;
}

pub good_function : (x : FunctionLayer Tree) → Good sort.Function (roll-Function x) → ((shaping.function (map_function (on shaping) x)).fits ≡ true) × FunctionClean x
good_function x g =
    (ap (λ p. p.fits) (sym (at_function shaping x)) ∙ g.shaped, moved (at_function testing_plain x) (at_function testing_filled x) (at_function testing_nowhere x) (at_function measuring_texts x) (at_function testing_within x) g.clean)

abbrev pub PropClean : PropLayer Tree → Type 0
PropClean x =
    Clean (testing_plain.prop (map_prop (on testing_plain) x)) (testing_filled.prop (map_prop (on testing_filled) x)) (testing_nowhere.prop (map_prop (on testing_nowhere) x))
    (measuring_texts.prop (map_prop (on measuring_texts) x)) (testing_within.prop (map_prop (on testing_within) x))

pub prop_good : (x : PropLayer Tree) → (shaping.prop (map_prop (on shaping) x)).fits ≡ true → PropClean x → Good sort.Prop (roll-Prop x)
prop_good x shaped clean = record {
  shaped = ap (λ p. p.fits) (at_prop shaping x) ∙ shaped;
  clean = moved (sym (at_prop testing_plain x)) (sym (at_prop testing_filled x)) (sym (at_prop testing_nowhere x)) (sym (at_prop measuring_texts x)) (sym (at_prop testing_within x)) clean;
}

pub good_prop : (x : PropLayer Tree) → Good sort.Prop (roll-Prop x) → ((shaping.prop (map_prop (on shaping) x)).fits ≡ true) × PropClean x
good_prop x g =
    (ap (λ p. p.fits) (sym (at_prop shaping x)) ∙ g.shaped, moved (at_prop testing_plain x) (at_prop testing_filled x) (at_prop testing_nowhere x) (at_prop measuring_texts x) (at_prop testing_within x) g.clean)

abbrev pub StmtClean : StmtLayer Tree → Type 0
StmtClean x =
    Clean (testing_plain.stmt (map_stmt (on testing_plain) x)) (testing_filled.stmt (map_stmt (on testing_filled) x)) (testing_nowhere.stmt (map_stmt (on testing_nowhere) x))
    (measuring_texts.stmt (map_stmt (on measuring_texts) x)) (testing_within.stmt (map_stmt (on testing_within) x))

pub stmt_good : (x : StmtLayer Tree) → (shaping.stmt (map_stmt (on shaping) x)).fits ≡ true → StmtClean x → Good sort.Stmt (roll-Stmt x)
stmt_good x shaped clean = record {
  shaped = ap (λ p. p.fits) (at_stmt shaping x) ∙ shaped;
  clean = moved (sym (at_stmt testing_plain x)) (sym (at_stmt testing_filled x)) (sym (at_stmt testing_nowhere x)) (sym (at_stmt measuring_texts x)) (sym (at_stmt testing_within x)) clean;
}

pub good_stmt : (x : StmtLayer Tree) → Good sort.Stmt (roll-Stmt x) → ((shaping.stmt (map_stmt (on shaping) x)).fits ≡ true) × StmtClean x
good_stmt x g =
    (ap (λ p. p.fits) (sym (at_stmt shaping x)) ∙ g.shaped, moved (at_stmt testing_plain x) (at_stmt testing_filled x) (at_stmt testing_nowhere x) (at_stmt measuring_texts x) (at_stmt testing_within x) g.clean)

-- ---- places and names

pub no_place : (p : Place) → is_nowhere p ≡ true → p ≡ nowhere
no_place p h =
    let parts = and_parts (eqb p.line 0) (eqb p.column 0) h in
    let line : p.line ≡ 0 = (Decides-eqb p.line 0).0 parts.0 in
    let column : p.column ≡ 0 = (Decides-eqb p.column 0).0 parts.1 in λ i. record { line = line i; column = column i }

-- a name of code
pub record IsMark (m : Mark) : Type 0 where
  pub name : is_name m.name ≡ true
  pub short : is_short m.name ≡ true
  pub place : m.place ≡ nowhere

pub mark_is : (m : Mark) → is_name m.name ≡ true → mark_is_nowhere m ≡ true → length_of_name m ≤ text_limit → IsMark m
mark_is m name no_where short = record { name = name; short = le-leb (units_of m.name) text_limit short; place = no_place m.place no_where }

abbrev pub AreMarks : List Mark → Type 0
AreMarks = Each IsMark

pub marks_are : (ms : List Mark) → list_all mark_fits ms ≡ true → list_all mark_is_nowhere ms ≡ true → greatest (map length_of_name ms) ≤ text_limit → AreMarks ms
marks_are [] name no_where short = tt
marks_are (m ∷ ms) name no_where short =
    let names = and_parts (mark_fits m) (list_all mark_fits ms) name in
    let places = and_parts (mark_is_nowhere m) (list_all mark_is_nowhere ms) no_where in
    (mark_is m names.0 places.0 (omega (arith, short)), marks_are ms names.1 places.1 (omega (arith, short)))

abbrev pub IsMarkIfAny : Option Mark → Type 0
IsMarkIfAny = IfAny IsMark
