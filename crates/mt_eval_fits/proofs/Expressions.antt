-- Expressions on slots fit where those do for which they stand.
use Rattle.std.proofs.Common.{◌≡◌, ℕ, suc, ◌<◌, ◌^◌, nat_lt, Bool, ◌&&◌, List, [], ◌∷◌, length, map, Option, None, Some, refl, sym, ap, ap₂, subst, ◌∙◌, arith}
use Rattle.std.specs.Prelude.{All, IsTrue, slice_get}
use Rattle.std.proofs.lemmas.Bool.{and_parts}
use Rattle.std.proofs.lemmas.Bool.Decides.{nat_tests}
use Rattle.std.proofs.lemmas.List.Elements.{All-nil, All-cons, All-head, All-tail}
use Rattle.mt_eval_meaning.specs.Code.{AllStand, AttributeStands, EntryStands, ExprStands, ExprStandsTo, FunctionStands, PieceStandsForChild, PieceStandsForValue}
use Rattle.mt_eval_meaning.specs.Scopes.{Scope}
use Rattle.mt_eval_meaning.specs.States.{Numbered}
use Rattle.mt_eval_fits.specs.Fitting.{Tested, each, tested_expr_kind, tested_child, tested_value, value_fits}
use Rattle.mt_eval_fits.proofs.Nodes.{test, prop_test, markup_test, attribute_test, child_test}
use Rattle.mt_eval_keeps.specs.Code.{Said, TargetFits, CalleeFits, PieceFits, ExprFits}
use Rattle.mt_eval_keeps.proofs.Operations.{all_at}
use Rattle.mt_eval_meaning.specs.Evaluation.{dollars_of}
use Rattle.mt_eval_meaning.specs.Names.{Surroundings}
use Rattle.mt_eval_meaning.specs.Slots.{ExprLayer, PieceLayer}
use Rattle.mt_eval_meaning.specs.declared.expr.Attribute.{Attribute, out-Attribute}
use Rattle.mt_eval_meaning.specs.declared.expr.Entry.{Entry, out-Entry}
use Rattle.mt_eval_meaning.specs.declared.expr.Expr as code
use Rattle.mt_eval_meaning.specs.declared.expr.Expr.TheOpen.{Expr-F, Piece-F}
use Rattle.mt_eval_meaning.specs.declared.expr.Piece.{Piece, out-Piece}
use Rattle.mt_eval_meaning.specs.declared.function.Function.{Function as Code}
use Rattle.mt_syntax.specs.DataLimits.{nodes_of_data}
use Rattle.mt_syntax.specs.Fold.{Tree, ExprKindLayer, MarkupChildLayer, MarkupValueLayer, on_expr, on_function, on_markup, on_markup_attribute, on_markup_child, on_prop}
use Rattle.mt_syntax.specs.declared.program.Tilde.{Tilde}
use Rattle.mt_syntax.specs.declared.tree.Expr.{Expr}
use Rattle.mt_syntax.specs.declared.tree.ExprKind.TheOpen.{ExprKind-F, MarkupChild-F, MarkupValue-F}
use Rattle.mt_syntax.specs.declared.tree.Function.{Function}
use Rattle.mt_syntax.specs.declared.tree.Markup.{Markup, out-Markup}
use Rattle.mt_syntax.specs.declared.tree.MarkupAttribute.{MarkupAttribute, out-MarkupAttribute}
use Rattle.mt_syntax.specs.declared.tree.MarkupChild.{MarkupChild, out-MarkupChild}
use Rattle.mt_syntax.specs.declared.tree.MarkupValue.{out-MarkupValue}
use Rattle.mt_syntax.specs.declared.tree.Prop.{Prop, out-Prop}
use Rattle.mt_syntax_laws.proofs.Layers.{map_expr_kind, map_markup_child, map_markup_value}
use Rattle.mt_syntax_laws.proofs.Related.{on}
use Rattle.mt_tree.specs.declared.data.Data.{Data}
use Rattle.mt_value.specs.Limits.{data_fits, text_fits}

pub same_length : {A B : Type 0} (each : A → B → Type 0) (xs : List A) (ys : List B) → AllStand each xs ys → length xs ≡ length ys
same_length each [] [] h = refl
same_length each (x ∷ xs) (y ∷ ys) h = ap suc (same_length each xs ys h.1)
same_length each [] (y ∷ ys) h = absurd h
same_length each (x ∷ xs) [] h = absurd h

mapped_length : {A B : Type 0} (f : A → B) (xs : List A) → length (map f xs) ≡ length xs
mapped_length f [] = refl
mapped_length f (x ∷ xs) = ap suc (mapped_length f xs)

-- all of a list stand for what passes a test, so all fit
pub all_fit : {A B : Type 0} (stand : A → B → Type 0) (of : B → Tested) (P : A → Type 0) → ((x : A) (y : B) → stand x y → IsTrue (of y).fits → P x)
    → (xs : List A) (ys : List B) → AllStand stand xs ys → IsTrue (each (map of ys)).fits → All P xs
all_fit stand of P f [] [] h fit = All-nil P
all_fit stand of P f (x ∷ xs) (y ∷ ys) h fit =
    let parts = and_parts (of y).fits (each (map of ys)).fits fit in
    All-cons P x xs (f x y h.0 parts.0) (all_fit stand of P f xs ys h.1 parts.1)
all_fit stand of P f [] (y ∷ ys) h fit = absurd h
all_fit stand of P f (x ∷ xs) [] h fit = absurd h

module _ (element : List ℕ → List (List ℕ) → ℕ → Bool) (tildes : ℕ → ℕ → Bool) (around : Surroundings) (units : List Code) (table : List Numbered) where
  abbrev pub is_met : ℕ → Bool
  is_met id = tildes id (length (dollars_of (slice_get around.tildes id)))

  abbrev pub tests_of : Expr → Tested
  tests_of = on_expr (test element is_met)

  abbrev pub A : List ℕ → List (List ℕ) → ℕ → Type 0
  A tag names n = IsTrue (element tag names n)

  abbrev pub T : ℕ → ℕ → Type 0
  T id n = IsTrue (tildes id n)

  abbrev pub DollarsFit : Type 0
  DollarsFit = All (λ (t : Tilde). All (λ e. IsTrue (tests_of e).fits) t.dollars) around.tildes

  dollars_fit : DollarsFit → (id : ℕ) → All (λ e. IsTrue (tests_of e).fits) (dollars_of (slice_get around.tildes id))
  dollars_fit d id = by (slice_get around.tildes id) refl
    where
      by : (o : Option Tilde) → slice_get around.tildes id ≡ o → All (λ e. IsTrue (tests_of e).fits) (dollars_of o)
      by None is = All-nil (λ e. IsTrue (tests_of e).fits)
      by (Some t) is = all_at (λ (t : Tilde). All (λ e. IsTrue (tests_of e).fits) t.dollars) around.tildes id t d is

  -- `numbered` leads from the number of a function whose syntax fits to what is said of it
  module _ (F : ℕ → Type 0) (numbered : (n : ℕ) (e : Numbered) → slice_get table n ≡ Some e → IsTrue (on_function (test element is_met) e.function).fits → F n) (dollars : DollarsFit) where
    pub function_number : (scope : Scope) (n : ℕ) (own : Option (List ℕ)) (f : Function) → FunctionStands around units table scope n own f → IsTrue (on_function (test element is_met) f).fits → F n
    function_number scope n own f h fit = numbered n _ h.entry fit

    module _ (p : Said) (k : ℕ) (scope : Scope) (below : (u : code.Expr) (e : Expr) → ExprStandsTo around units table k scope u e → IsTrue (tests_of e).fits → p.expr u) where
      abbrev Below : code.Expr → Expr → Type 0
      Below = ExprStandsTo around units table k scope

      exprs : (us : List code.Expr) (es : List Expr) → AllStand Below us es → IsTrue (each (map tests_of es)).fits → All p.expr us
      exprs = all_fit Below tests_of p.expr below

      -- each of them passes the test by itself
      exprs_each : (us : List code.Expr) (es : List Expr) → AllStand Below us es → All (λ e. IsTrue (tests_of e).fits) es → All p.expr us
      exprs_each [] [] h fit = All-nil p.expr
      exprs_each (u ∷ us) (e ∷ es) h fit = let P = λ (e : Expr). IsTrue (tests_of e).fits in All-cons p.expr u us (below u e h.0 (All-head P e es fit)) (exprs_each us es h.1 (All-tail P e es fit))
      exprs_each [] (e ∷ es) h fit = absurd h
      exprs_each (u ∷ us) [] h fit = absurd h

      entries : (us : List Entry) (qs : List Prop) → AllStand (EntryStands around units table (ExprStandsTo around units table k) scope) us qs → IsTrue (each (map (on_prop (test element is_met)) qs)).fits → All (λ q. IsTrue (text_fits (out-Entry q).name) × p.expr (out-Entry q).value) us
      entries = all_fit (EntryStands around units table (ExprStandsTo around units table k) scope) (on_prop (test element is_met)) (λ q. IsTrue (text_fits (out-Entry q).name) × p.expr (out-Entry q).value) (λ u q h fit.
          let parts = and_parts (text_fits (out-Prop q).name) (tests_of (out-Prop q).value).fits (ap (λ (t : Tested). t.fits) (sym (prop_test element is_met q)) ∙ fit) in
          (subst (λ (name : List ℕ). IsTrue (text_fits name)) (sym h.0) parts.0, below (out-Entry u).value (out-Prop q).value h.1 parts.1))

      value_at : (x : PieceLayer) (y : MarkupValueLayer Tree) → PieceStandsForValue around units table (ExprStandsTo around units table k) scope x y → IsTrue (tested_value element is_met (map_markup_value (on (test element is_met)) y)).fits → PieceFits A T F p x
      value_at (Piece-F.Piece::Text text) (MarkupValue-F.Quoted quoted) h fit = subst (λ (t : List ℕ). IsTrue (text_fits t)) (sym h) fit
      value_at (Piece-F.Expr u) (MarkupValue-F.MarkupValue::Tilde e) h fit = below u e h fit
      value_at (Piece-F.Expr u) (MarkupValue-F.MarkupValue::Dollar e) h fit = below u e h fit
      value_at _ _ h fit = absurd h

      child_at : (x : PieceLayer) (y : MarkupChildLayer Tree) → PieceStandsForChild around units table (ExprStandsTo around units table k) scope x y → IsTrue (tested_child element is_met (map_markup_child (on (test element is_met)) y)).fits → PieceFits A T F p x
      child_at (Piece-F.Piece::Text text) (MarkupChild-F.MarkupChild::Text other) h fit = subst (λ (t : List ℕ). IsTrue (text_fits t)) (sym h) fit
      child_at (Piece-F.Expr u) (MarkupChild-F.Direct e) h fit = below u e h fit
      child_at (Piece-F.Expr u) (MarkupChild-F.MarkupChild::Dollar e) h fit = below u e h fit
      child_at _ _ h fit = absurd h

      attributes : (us : List Attribute) (bs : List MarkupAttribute) → AllStand (AttributeStands around units table (ExprStandsTo around units table k) scope) us bs → IsTrue (each (map (on_markup_attribute (test element is_met)) bs)).fits → All (λ a. PieceFits A T F p (out-Piece (out-Attribute a).value)) us
      attributes = all_fit (AttributeStands around units table (ExprStandsTo around units table k) scope) (on_markup_attribute (test element is_met)) (λ a. PieceFits A T F p (out-Piece (out-Attribute a).value)) (λ u b h fit.
          value_at (out-Piece (out-Attribute u).value) (out-MarkupValue (out-MarkupAttribute b).value) h.1 (ap (λ (t : Tested). t.fits) (sym (attribute_test element is_met b)) ∙ fit))

      children : (us : List Piece) (cs : List MarkupChild) → AllStand (λ a b. PieceStandsForChild around units table (ExprStandsTo around units table k) scope (out-Piece a) (out-MarkupChild b)) us cs → IsTrue (each (map (on_markup_child (test element is_met)) cs)).fits → All (λ c. PieceFits A T F p (out-Piece c)) us
      children = all_fit (λ a b. PieceStandsForChild around units table (ExprStandsTo around units table k) scope (out-Piece a) (out-MarkupChild b)) (on_markup_child (test element is_met)) (λ c. PieceFits A T F p (out-Piece c)) (λ u c h fit.
          child_at (out-Piece u) (out-MarkupChild c) h (ap (λ (t : Tested). t.fits) (sym (child_test element is_met c)) ∙ fit))

      names_same : (us : List Attribute) (bs : List MarkupAttribute) → AllStand (AttributeStands around units table (ExprStandsTo around units table k) scope) us bs → map (λ (a : Attribute). (out-Attribute a).name) us ≡ map (λ (t : Tested). t.name) (map (on_markup_attribute (test element is_met)) bs)
      names_same [] [] h = refl
      names_same (u ∷ us) (b ∷ bs) h =
          let first : (out-Attribute u).name ≡ (on_markup_attribute (test element is_met) b).name = h.0.0 ∙ ap (λ (t : Tested). t.name) (sym (attribute_test element is_met b)) in
          ap₂ (λ (name : List ℕ) (names : List (List ℕ)). name ∷ names) first (names_same us bs h.1)
      names_same [] (b ∷ bs) h = absurd h
      names_same (u ∷ us) [] h = absurd h

      element_fits : (tag : List ℕ) (us : List Attribute) (cs : List Piece) (m : Markup) → ExprStands around units table (ExprStandsTo around units table k) scope (Expr-F.Element tag us cs) (ExprKind-F.Markup m) → IsTrue (on_markup (test element is_met) m).fits → ExprFits A T F p (Expr-F.Element tag us cs)
      element_fits tag us cs m h fit =
          let names = map (λ (t : Tested). t.name) (map (on_markup_attribute (test element is_met)) (out-Markup m).attributes) in
          let count = length (map (on_markup_child (test element is_met)) (out-Markup m).children) in
          let first = (each (map (on_markup_attribute (test element is_met)) (out-Markup m).attributes)).fits in
          let second = (each (map (on_markup_child (test element is_met)) (out-Markup m).children)).fits in
          let parts = and_parts (element (out-Markup m).tag names count) (first && second) (ap (λ (t : Tested). t.fits) (sym (markup_test element is_met m)) ∙ fit) in
          let rest = and_parts first second parts.1 in
          let long : count ≡ length cs = mapped_length (on_markup_child (test element is_met)) (out-Markup m).children ∙ sym (same_length _ cs (out-Markup m).children h.2) in (
            subst (λ (t : List ℕ). IsTrue (element t (map (λ (a : Attribute). (out-Attribute a).name) us) (length cs))) (sym h.0)
                (subst (λ (ns : List (List ℕ)). IsTrue (element (out-Markup m).tag ns (length cs))) (sym (names_same us (out-Markup m).attributes h.1))
                (subst (λ n. IsTrue (element (out-Markup m).tag names n)) long parts.0)),
            attributes us (out-Markup m).attributes h.1 rest.0,
            children cs (out-Markup m).children h.2 rest.1,
          )

      val_fits : (d : Data) → IsTrue (value_fits d) → IsTrue (data_fits d) × (nodes_of_data d < 2 ^ 53)
      val_fits d fit =
          let parts = and_parts (data_fits d) (nat_lt (nodes_of_data d) (2 ^ 53)) fit in
          (parts.0, few (nodes_of_data d) (2 ^ 53) parts.1)
        where
          few : (m n : ℕ) → IsTrue (nat_lt m n) → m < n
          few m n h = grind (arith, nat_tests, h)

      two : {P Q : Type 0} (a b : Bool) → (IsTrue a → P) → (IsTrue b → Q) → IsTrue (a && b) → P × Q
      two a b f g fit = let parts = and_parts a b fit in (f parts.0, g parts.1)

      pub case_expr : (target : (u : code.Expr) (e : Expr) → Below u e → IsTrue (tests_of e).target → IsTrue (tests_of e).fits → TargetFits A T F p (code.out-Expr u)) (callee : (u : code.Expr) (e : Expr) → Below u e → IsTrue (tests_of e).fits → CalleeFits A T F p (code.out-Expr u) u)
          → (x : ExprLayer) (y : ExprKindLayer Tree) → ExprStands around units table (ExprStandsTo around units table k) scope x y → IsTrue (tested_expr_kind element is_met (map_expr_kind (on (test element is_met)) y)).fits → ExprFits A T F p x
      case_expr target callee (Expr-F.Name n) (ExprKind-F.Name text) h fit = subst (λ (t : List ℕ). IsTrue (text_fits t)) (sym h.0) fit
      case_expr target callee (Expr-F.Num n) (ExprKind-F.Num m) h fit = subst (λ z. ExprFits A T F p (Expr-F.Num z)) (sym h) fit
      case_expr target callee (Expr-F.Expr::Text text) (ExprKind-F.ExprKind::Text other) h fit = subst (λ (t : List ℕ). IsTrue (text_fits t)) (sym h) fit
      case_expr target callee (Expr-F.Bool b) (ExprKind-F.Bool c) h fit = tt
      case_expr target callee Expr-F.Null ExprKind-F.Null h fit = tt
      case_expr target callee Expr-F.Undefined ExprKind-F.Undefined h fit = tt
      case_expr target callee Expr-F.Undefined (ExprKind-F.ExprKind::Dollar at) h fit = tt
      case_expr target callee Expr-F.Undefined (ExprKind-F.Stray a) h fit = tt
      case_expr target callee (Expr-F.Arr us) (ExprKind-F.Arr es) h fit = exprs us es h fit
      case_expr target callee (Expr-F.Obj us) (ExprKind-F.Obj qs) h fit = entries us qs h fit
      case_expr target callee (Expr-F.Fun n) (ExprKind-F.Fun f) h fit = function_number scope n _ f h fit
      case_expr target callee (Expr-F.Unary op u) (ExprKind-F.Unary other e) h fit = below u e h.1 fit
      case_expr target callee (Expr-F.Step kind u) (ExprKind-F.Step other e) h fit = let parts = and_parts (tests_of e).target (tests_of e).fits fit in target u e h.1 parts.0 parts.1
      case_expr target callee (Expr-F.Binary op u v) (ExprKind-F.Binary other e f) h fit = two (tests_of e).fits (tests_of f).fits (below u e h.1) (below v f h.2) fit
      case_expr target callee (Expr-F.And u v) (ExprKind-F.And e f) h fit = two (tests_of e).fits (tests_of f).fits (below u e h.0) (below v f h.1) fit
      case_expr target callee (Expr-F.Or u v) (ExprKind-F.Or e f) h fit = two (tests_of e).fits (tests_of f).fits (below u e h.0) (below v f h.1) fit
      case_expr target callee (Expr-F.Cond u v w) (ExprKind-F.Cond e f g) h fit =
          let parts = and_parts (tests_of e).fits ((tests_of f).fits && (tests_of g).fits) fit in
          let rest = and_parts (tests_of f).fits (tests_of g).fits parts.1 in
          (below u e h.0 parts.0, below v f h.1 rest.0, below w g h.2 rest.1)
      case_expr target callee (Expr-F.Assign op u v) (ExprKind-F.Assign other e f) h fit =
          let parts = and_parts (tests_of e).target ((tests_of e).fits && (tests_of f).fits) fit in
          let rest = and_parts (tests_of e).fits (tests_of f).fits parts.1 in
          (target u e h.1 parts.0 rest.0, below v f h.2 rest.1)
      case_expr target callee (Expr-F.Index u v) (ExprKind-F.Index e f) h fit = two (tests_of e).fits (tests_of f).fits (below u e h.0) (below v f h.1) fit
      case_expr target callee (Expr-F.Call u us) (ExprKind-F.Call e es) h fit = two (tests_of e).fits (each (map tests_of es)).fits (callee u e h.0) (exprs us es h.1) fit
      case_expr target callee (Expr-F.Tilde id us) (ExprKind-F.ExprKind::Tilde other) h fit =
          let ds = dollars_of (slice_get around.tildes id) in
          let met : IsTrue (is_met id) = subst (λ n. IsTrue (is_met n)) (sym h.0) fit in
          (subst (λ n. T id n) (sym (same_length Below us ds h.1)) met, exprs_each us ds h.1 (dollars_fit dollars id))
      case_expr target callee (Expr-F.Element tag us cs) (ExprKind-F.Markup m) h fit = element_fits tag us cs m h fit
      case_expr target callee (Expr-F.Val d) (ExprKind-F.Val other) h fit = subst (λ (z : Data). ExprFits A T F p (Expr-F.Val z)) (sym h) (val_fits other fit)
      case_expr target callee _ _ h fit = absurd h

      -- a target that stands for one
      pub target_case : (x : ExprLayer) (y : ExprKindLayer Tree) → ExprStands around units table (ExprStandsTo around units table k) scope x y → IsTrue (tested_expr_kind element is_met (map_expr_kind (on (test element is_met)) y)).target → IsTrue (tested_expr_kind element is_met (map_expr_kind (on (test element is_met)) y)).fits → TargetFits A T F p x
      target_case (Expr-F.Name n) (ExprKind-F.Name text) h t fit = subst (λ (t : List ℕ). IsTrue (text_fits t)) (sym h.0) fit
      target_case (Expr-F.Index u v) (ExprKind-F.Index e f) h t fit = two (tests_of e).fits (tests_of f).fits (below u e h.0) (below v f h.1) fit
      target_case (Expr-F.Num n) (ExprKind-F.Num m) h t fit = absurd (cc)
      target_case (Expr-F.Expr::Text text) (ExprKind-F.ExprKind::Text other) h t fit = absurd (cc)
      target_case (Expr-F.Bool b) (ExprKind-F.Bool c) h t fit = absurd (cc)
      target_case Expr-F.Null ExprKind-F.Null h t fit = absurd (cc)
      target_case Expr-F.Undefined ExprKind-F.Undefined h t fit = absurd (cc)
      target_case Expr-F.Undefined (ExprKind-F.ExprKind::Dollar at) h t fit = absurd (cc)
      target_case Expr-F.Undefined (ExprKind-F.Stray a) h t fit = absurd (cc)
      target_case (Expr-F.Arr us) (ExprKind-F.Arr []) h t fit = absurd (cc)
      target_case (Expr-F.Arr us) (ExprKind-F.Arr (e ∷ es)) h t fit = absurd (cc)
      target_case (Expr-F.Obj us) (ExprKind-F.Obj []) h t fit = absurd (cc)
      target_case (Expr-F.Obj us) (ExprKind-F.Obj (q ∷ qs)) h t fit = absurd (cc)
      target_case (Expr-F.Fun n) (ExprKind-F.Fun f) h t fit = absurd (cc)
      target_case (Expr-F.Unary op u) (ExprKind-F.Unary other e) h t fit = absurd (cc)
      target_case (Expr-F.Step kind u) (ExprKind-F.Step other e) h t fit = absurd (cc)
      target_case (Expr-F.Binary op u v) (ExprKind-F.Binary other e f) h t fit = absurd (cc)
      target_case (Expr-F.And u v) (ExprKind-F.And e f) h t fit = absurd (cc)
      target_case (Expr-F.Or u v) (ExprKind-F.Or e f) h t fit = absurd (cc)
      target_case (Expr-F.Cond u v w) (ExprKind-F.Cond e f g) h t fit = absurd (cc)
      target_case (Expr-F.Assign op u v) (ExprKind-F.Assign other e f) h t fit = absurd (cc)
      target_case (Expr-F.Call u us) (ExprKind-F.Call e es) h t fit = absurd (cc)
      target_case (Expr-F.Tilde id us) (ExprKind-F.ExprKind::Tilde other) h t fit = absurd (cc)
      target_case (Expr-F.Element tag us cs) (ExprKind-F.Markup m) h t fit = absurd (cc)
      target_case (Expr-F.Val d) (ExprKind-F.Val other) h t fit = absurd (cc)
      target_case _ _ h t fit = absurd h

      -- a method's base and key, or another callee, which fits whole
      pub callee_case : (u : code.Expr) → p.expr u → (x : ExprLayer) (y : ExprKindLayer Tree) → ExprStands around units table (ExprStandsTo around units table k) scope x y → IsTrue (tested_expr_kind element is_met (map_expr_kind (on (test element is_met)) y)).fits → CalleeFits A T F p x u
      callee_case u whole (Expr-F.Index v w) (ExprKind-F.Index e f) h fit = two (tests_of e).fits (tests_of f).fits (below v e h.0) (below w f h.1) fit
      callee_case u whole (Expr-F.Index v w) _ h fit = absurd h
      callee_case u whole _ _ h fit = whole
