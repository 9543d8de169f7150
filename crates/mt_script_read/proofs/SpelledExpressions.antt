-- The tokens of expressions.
use Rattle.std.proofs.Common.{◌≡◌, ℕ, Bool, true, false, ◌&&◌, List, [], ◌∷◌, ◌++◌, map, Option, Some, None, refl, sym, ap, ◌∙◌, append_assoc}
use Rattle.std.specs.Prelude.{codes}
use Rattle.std.specs.List.{list_all}
use Rattle.std.proofs.lemmas.Bool.{and_parts}
use Rattle.mt_tree.specs.declared.operators.Binary.{Binary}
use Rattle.mt_tree.specs.declared.operators.Binary.TheVariants as binary
use Rattle.mt_tree.specs.declared.operators.StepKind.{StepKind}
use Rattle.mt_tree.specs.declared.operators.StepKind.TheVariants as steps
use Rattle.mt_tree.specs.declared.operators.Unary.{Unary}
use Rattle.mt_tree.specs.declared.operators.Unary.TheVariants as unary
use Rattle.mt_syntax.specs.CodeText.{assign_text, between, binary_text, step_text, unary_text, writing_code}
use Rattle.mt_syntax.specs.DataText.{separated, truth_text}
use Rattle.mt_syntax.specs.Fold.{ExprKindLayer}
use Rattle.mt_syntax.specs.Gathering.{all_of}
use Rattle.mt_syntax.specs.Shape.{all_fit, is_assignment, is_target, shaping}
use Rattle.mt_syntax.specs.Sort as sort
use Rattle.mt_syntax.specs.declared.tree.Expr.{Expr}
use Rattle.mt_syntax.specs.declared.tree.ExprKind.TheOpen.{ExprKind-F}
use Rattle.mt_syntax_laws.proofs.Layers.{map_expr_kind}
use Rattle.mt_syntax_laws.proofs.Related.{on}
use Rattle.mt_script_words.proofs.WordTexts.{ends_word}
use Rattle.mt_script_read.proofs.Shortened.{shortened, name_kept, short_name, short_text, short_value, text_kept, value_kept}
use Rattle.mt_script_read.proofs.Goodness.{AllGood, AreBothClean, AreClean, Good, IsClean, clean_with, good_expr_kind, good_rows}
use Rattle.mt_script_read.proofs.Leaves.{Leaves, leaving, no_leaves, then_leaves}
use Rattle.mt_script_read.proofs.Operations.{two_good}
use Rattle.mt_script_read.proofs.Spells.{FunctionSpelled, HeldSpells, KindSpelled, SpelledAs, each_of, its}
use Rattle.mt_script_read.proofs.Tokens.{Spelled, is_sign, join, listed, loose, name_spelled, number_spelled, signs, text_spelled, value_spelled, word}

never : {X : Type 0} → false ≡ true → X
never e = absurd cc

-- ---- operators

binary_signs : (op : Binary) → list_all is_sign (binary_text op) ≡ true
binary_signs binary.Add = refl
binary_signs binary.Sub = refl
binary_signs binary.Mul = refl
binary_signs binary.Div = refl
binary_signs binary.Rem = refl
binary_signs binary.Less = refl
binary_signs binary.LessEqual = refl
binary_signs binary.Greater = refl
binary_signs binary.GreaterEqual = refl
binary_signs binary.Same = refl
binary_signs binary.Different = refl

assign_spelled : (op : Option Binary) → Spelled true (assign_text op) (assign_text op) no_leaves
assign_spelled None = signs (codes "=") refl
assign_spelled (Some op) = join (signs (binary_text op) (binary_signs op)) (signs (codes "=") refl) (λ rest e. refl)

unary_spelled : (op : Unary) → Spelled true (unary_text op) (unary_text op) no_leaves
unary_spelled unary.Not = signs (codes "!") refl
unary_spelled unary.Minus = signs (codes "-") refl
unary_spelled unary.Plus = signs (codes "+") refl
unary_spelled unary.Typeof = join (word 116 (codes "ypeof") refl refl) (signs (codes " ") refl) (λ rest e. refl)

-- ---- what operators make

module _ {a x : List ℕ} {l : Leaves} (p : Spelled false a x l) where
  -- with signs around it, of which the last begins with one that no word goes on with
  module _ (front : List ℕ) (front_signs : list_all is_sign front ≡ true) where
    enclosed : (b : ℕ) (back : List ℕ) → ((rest : List ℕ) → ends_word ((b ∷ back) ++ rest) ≡ true) → list_all is_sign (b ∷ back) ≡ true
        → Spelled true (front ++ (a ++ (b ∷ back))) (front ++ (x ++ (b ∷ back))) l
    enclosed b back ends back_signs = join (signs front front_signs) (join p (signs (b ∷ back) back_signs) (λ rest e. ends rest)) (λ rest e. refl)

  step_spelled : (step : StepKind) → Spelled true (step_text step a) (step_text step x) l
  step_spelled steps.IncBefore = enclosed (codes "(++") refl 41 [] (λ rest. refl) refl
  step_spelled steps.DecBefore = enclosed (codes "(--") refl 41 [] (λ rest. refl) refl
  step_spelled steps.IncAfter = enclosed (codes "(") refl 43 (codes "+)") (λ rest. refl) refl
  step_spelled steps.DecAfter = enclosed (codes "(") refl 45 (codes "-)") (λ rest. refl) refl

  prefixed : (op : Unary) → Spelled true (codes "(" ++ (unary_text op ++ (a ++ codes ")"))) (codes "(" ++ (unary_text op ++ (x ++ codes ")"))) l
  prefixed op = join (signs (codes "(") refl) (join (unary_spelled op) (join p (signs (codes ")") refl) (λ rest e. refl)) (λ rest e. refl)) (λ rest e. refl)

  module _ {b y : List ℕ} {m : Leaves} (q : Spelled false b y m) where
    operated : (op : List ℕ) → Spelled true op op no_leaves → Spelled true (between a op b) (between x op y) (λ ls. l (m ls))
    operated op o =
        let last = join (signs (32 ∷ []) refl) (join q (signs (codes ")") refl) (λ rest e. refl)) (λ rest e. refl) in
        join (signs (codes "(") refl) (join p (join (signs (32 ∷ []) refl) (join o last (λ rest e. refl)) (λ rest e. refl)) (λ rest e. refl)) (λ rest e. refl)

    indexed : Spelled true (a ++ (codes "[" ++ (b ++ codes "]"))) (x ++ (codes "[" ++ (y ++ codes "]"))) (λ ls. l (m ls))
    indexed = join p (join (signs (codes "[") refl) (join q (signs (codes "]") refl) (λ rest e. refl)) (λ rest e. refl)) (λ rest e. refl)

    called : Spelled true (a ++ (codes "(" ++ (b ++ codes ")"))) (x ++ (codes "(" ++ (y ++ codes ")"))) (λ ls. l (m ls))
    called = join p (join (signs (codes "(") refl) (join q (signs (codes ")") refl) (λ rest e. refl)) (λ rest e. refl)) (λ rest e. refl)

    chosen : {c z : List ℕ} {n : Leaves} → Spelled false c z n
        → Spelled true (codes "(" ++ (a ++ (codes " ? " ++ (b ++ (codes " : " ++ (c ++ codes ")")))))) (codes "(" ++ (x ++ (codes " ? " ++ (y ++ (codes " : " ++ (z ++ codes ")"))))))
        (λ ls. l (m (n ls)))
    chosen r =
        let last = join (signs (codes " : ") refl) (join r (signs (codes ")") refl) (λ rest e. refl)) (λ rest e. refl) in
        join (signs (codes "(") refl) (join p (join (signs (codes " ? ") refl) (join q last (λ rest e. refl)) (λ rest e. refl)) (λ rest e. refl)) (λ rest e. refl)

function_spelled : {a x : List ℕ} {l : Leaves} → FunctionSpelled a x l → Spelled true (codes "(function" ++ (a ++ codes ")")) (codes "(function" ++ (x ++ codes ")")) l
function_spelled {a} {x} {l} f =
    let front : Spelled false (codes "(function") (codes "(function") no_leaves = join (signs (codes "(") refl) (word 102 (codes "unction") refl refl) (λ rest e. refl) in
    join front (join f.spelled (signs (codes ")") refl) (λ rest e. refl)) (λ rest e. ap ends_word (append_assoc a (codes ")") rest) ∙ f.ends (codes ")" ++ rest))

truth_spelled : (b : Bool) → Spelled false (truth_text b) (truth_text b) no_leaves
truth_spelled true = word 116 (codes "rue") refl refl
truth_spelled false = word 102 (codes "alse") refl refl

-- ---- lists of expressions

abbrev texts_of : List (HeldSpells sort.Expr) → List ℕ
texts_of es = separated (map (on writing_code sort.Expr) (map (its sort.Expr) es))

abbrev short_texts_of : List (HeldSpells sort.Expr) → List ℕ
short_texts_of es = separated (map (on writing_code sort.Expr) (map (shortened sort.Expr) (map (its sort.Expr) es)))

abbrev leaves_in : List (HeldSpells sort.Expr) → Leaves
leaves_in es = all_of no_leaves then_leaves (map (on leaving sort.Expr) (map (its sort.Expr) es))

expressions_spelled : (es : List (HeldSpells sort.Expr)) → AllGood sort.Expr (map (shortened sort.Expr) (map (its sort.Expr) es)) → Spelled false (texts_of es) (short_texts_of es) (leaves_in es)
expressions_spelled es good = listed (on writing_code sort.Expr) (shortened sort.Expr) (on leaving sort.Expr) false (map (its sort.Expr) es) (each_of {s = sort.Expr} false es (λ h g. h.1 g) good)

-- ---- nodes

module _ (a b : HeldSpells sort.Expr) where
  abbrev shortened_a : Expr
  shortened_a = shortened sort.Expr a.0

  abbrev shortened_b : Expr
  shortened_b = shortened sort.Expr b.0

  pair_spelled : ((on shaping sort.Expr shortened_a).fits && (on shaping sort.Expr shortened_b).fits) ≡ true → AreBothClean sort.Expr sort.Expr shortened_a shortened_b
      → SpelledAs false sort.Expr a.0 × SpelledAs false sort.Expr b.0
  pair_spelled fits clean = let both = two_good sort.Expr sort.Expr shortened_a shortened_b fits clean in (a.1 both.0, b.1 both.1)

  binary_spelled : (op : Binary) → KindSpelled (ExprKind-F.Binary op a.0 b.0)
  binary_spelled op g =
      let good = good_expr_kind (ExprKind-F.Binary op shortened_a shortened_b) g in
      let parts = pair_spelled good.0 good.1 in loose (operated parts.0 parts.1 (binary_text op) (signs (binary_text op) (binary_signs op)))

  and_spelled : KindSpelled (ExprKind-F.And a.0 b.0)
  and_spelled g =
      let good = good_expr_kind (ExprKind-F.And shortened_a shortened_b) g in
      let parts = pair_spelled good.0 good.1 in loose (operated parts.0 parts.1 (codes "&&") (signs (codes "&&") refl))

  or_spelled : KindSpelled (ExprKind-F.Or a.0 b.0)
  or_spelled g =
      let good = good_expr_kind (ExprKind-F.Or shortened_a shortened_b) g in
      let parts = pair_spelled good.0 good.1 in loose (operated parts.0 parts.1 (codes "||") (signs (codes "||") refl))

  key_spelled : KindSpelled (ExprKind-F.Index a.0 b.0)
  key_spelled g =
      let good = good_expr_kind (ExprKind-F.Index shortened_a shortened_b) g in
      let parts = pair_spelled good.0 good.1 in loose (indexed parts.0 parts.1)

  assignment_spelled : (op : Option Binary) → KindSpelled (ExprKind-F.Assign op a.0 b.0)
  assignment_spelled op g =
      let good = good_expr_kind (ExprKind-F.Assign op shortened_a shortened_b) g in
      let cleans : IsClean sort.Expr shortened_a × IsClean sort.Expr shortened_b = clean_with sort.Expr shortened_a good.1 in
      let target : Bool = is_target (on shaping sort.Expr shortened_a).look in
      let outer = and_parts (is_assignment op && (target && (on shaping sort.Expr shortened_a).fits)) (on shaping sort.Expr shortened_b).fits good.0 in
      let inner = and_parts (is_assignment op) (target && (on shaping sort.Expr shortened_a).fits) outer.0 in
      let fits = and_parts target (on shaping sort.Expr shortened_a).fits inner.1 in
      let good_a : Good sort.Expr shortened_a = record { shaped = fits.1; clean = cleans.0 } in
      let good_b : Good sort.Expr shortened_b = record { shaped = outer.1; clean = cleans.1 } in loose (operated (a.1 good_a) (b.1 good_b) (assign_text op) (assign_spelled op))

  choice_spelled : (c : HeldSpells sort.Expr) → KindSpelled (ExprKind-F.Cond a.0 b.0 c.0)
  choice_spelled c g =
      let shortened_c : Expr = shortened sort.Expr c.0 in
      let good = good_expr_kind (ExprKind-F.Cond shortened_a shortened_b shortened_c) g in
      let outer = and_parts ((on shaping sort.Expr shortened_a).fits && (on shaping sort.Expr shortened_b).fits) (on shaping sort.Expr shortened_c).fits good.0 in
      let inner = and_parts (on shaping sort.Expr shortened_a).fits (on shaping sort.Expr shortened_b).fits outer.0 in
      let cleans : IsClean sort.Expr shortened_a × AreBothClean sort.Expr sort.Expr shortened_b shortened_c = clean_with sort.Expr shortened_a good.1 in
      let others : IsClean sort.Expr shortened_b × IsClean sort.Expr shortened_c = clean_with sort.Expr shortened_b cleans.1 in
      let good_a : Good sort.Expr shortened_a = record { shaped = inner.0; clean = cleans.0 } in
      let good_b : Good sort.Expr shortened_b = record { shaped = inner.1; clean = others.0 } in
      let good_c : Good sort.Expr shortened_c = record { shaped = outer.1; clean = others.1 } in loose (chosen (a.1 good_a) (b.1 good_b) (c.1 good_c))

call_spelled : (a : HeldSpells sort.Expr) (es : List (HeldSpells sort.Expr)) → KindSpelled (ExprKind-F.Call a.0 (map (its sort.Expr) es))
call_spelled a es g =
    let base : Expr = shortened sort.Expr a.0 in
    let items : List Expr = map (shortened sort.Expr) (map (its sort.Expr) es) in
    let good = good_expr_kind (ExprKind-F.Call base items) g in
    let fits = and_parts (on shaping sort.Expr base).fits (all_fit (map (on shaping sort.Expr) items)) good.0 in
    let cleans : IsClean sort.Expr base × AreClean sort.Expr items = clean_with sort.Expr base good.1 in
    let good_a : Good sort.Expr base = record { shaped = fits.0; clean = cleans.0 } in
    let all : AllGood sort.Expr items = good_rows sort.Expr items fits.1 cleans.1 in loose (called (a.1 good_a) (expressions_spelled es all))

pub kind_spelled : (y : ExprKindLayer HeldSpells) → KindSpelled (map_expr_kind its y)
kind_spelled (ExprKind-F.Name cs) g = let good = good_expr_kind (ExprKind-F.Name (short_name cs)) g in name_spelled cs (sym (name_kept cs) ∙ good.0)
kind_spelled (ExprKind-F.Num z) g = let good = good_expr_kind (ExprKind-F.Num z) g in number_spelled z good.0
kind_spelled (ExprKind-F.ExprKind::Text cs) g = let good = good_expr_kind (ExprKind-F.ExprKind::Text (short_text cs)) g in loose (text_spelled cs (sym (text_kept cs) ∙ good.0))
kind_spelled (ExprKind-F.Bool b) g = truth_spelled b
kind_spelled ExprKind-F.Null g = word 110 (codes "ull") refl refl
kind_spelled ExprKind-F.Undefined g = word 117 (codes "ndefined") refl refl
kind_spelled (ExprKind-F.Arr es) g =
    let items : List Expr = map (shortened sort.Expr) (map (its sort.Expr) es) in
    let good = good_expr_kind (ExprKind-F.Arr items) g in
    let all : AllGood sort.Expr items = good_rows sort.Expr items good.0 good.1 in loose (enclosed (expressions_spelled es all) (codes "[") refl 93 [] (λ rest. refl) refl)
kind_spelled (ExprKind-F.Obj ps) g =
    let good = good_expr_kind (ExprKind-F.Obj (map (shortened sort.Prop) (map (its sort.Prop) ps))) g in
    let all : AllGood sort.Prop (map (shortened sort.Prop) (map (its sort.Prop) ps)) = good_rows sort.Prop (map (shortened sort.Prop) (map (its sort.Prop) ps)) good.0 good.1 in
    let list = listed (on writing_code sort.Prop) (shortened sort.Prop) (on leaving sort.Prop) false (map (its sort.Prop) ps) (each_of {s = sort.Prop} false ps (λ h g. h.1 g) all) in
    loose (enclosed list (codes "({") refl 125 (codes ")") (λ rest. refl) refl)
kind_spelled (ExprKind-F.Fun f) g =
    let good = good_expr_kind (ExprKind-F.Fun (shortened sort.Function f.0)) g in loose (function_spelled (f.1 (record { shaped = good.0; clean = good.1 })))
kind_spelled (ExprKind-F.Unary op a) g =
    let good = good_expr_kind (ExprKind-F.Unary op (shortened sort.Expr a.0)) g in loose (prefixed (a.1 (record { shaped = good.0; clean = good.1 })) op)
kind_spelled (ExprKind-F.Step step a) g =
    let e : Expr = shortened sort.Expr a.0 in
    let good = good_expr_kind (ExprKind-F.Step step e) g in
    let fits = and_parts (is_target (on shaping sort.Expr e).look) (on shaping sort.Expr e).fits good.0 in loose (step_spelled (a.1 (record { shaped = fits.1; clean = good.1 })) step)
kind_spelled (ExprKind-F.Binary op a b) g = binary_spelled a b op g
kind_spelled (ExprKind-F.And a b) g = and_spelled a b g
kind_spelled (ExprKind-F.Or a b) g = or_spelled a b g
kind_spelled (ExprKind-F.Cond a b c) g = choice_spelled a b c g
kind_spelled (ExprKind-F.Assign op a b) g = assignment_spelled a b op g
kind_spelled (ExprKind-F.Index a b) g = key_spelled a b g
kind_spelled (ExprKind-F.Call a es) g = call_spelled a es g
kind_spelled (ExprKind-F.ExprKind::Tilde id) g = never (good_expr_kind (ExprKind-F.ExprKind::Tilde id) g).1.plain_code
kind_spelled (ExprKind-F.ExprKind::Dollar at) g = never (good_expr_kind (ExprKind-F.ExprKind::Dollar at) g).1.filled_code
kind_spelled (ExprKind-F.Stray a) g = never (good_expr_kind (ExprKind-F.Stray (shortened sort.Expr a.0)) g).1.plain_code
kind_spelled (ExprKind-F.Markup m) g = never (good_expr_kind (ExprKind-F.Markup (shortened sort.Markup m.0)) g).1.plain_code
kind_spelled (ExprKind-F.Val d) g = let good = good_expr_kind (ExprKind-F.Val (short_value d)) g in loose (value_spelled d (sym (value_kept d) ∙ good.1.filled_code))
