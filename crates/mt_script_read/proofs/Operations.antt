-- Expressions in parentheses are read from their texts.
use Rattle.std.proofs.Common.{◌≡◌, ℕ, ◌≤◌, max, true, ◌&&◌, List, [], ◌∷◌, ◌++◌, Option, Some, refl, sym, ap, subst, ◌∙◌, append_assoc, arith}
use Rattle.std.specs.Prelude.{codes}
use Rattle.std.proofs.lemmas.Bool.{and_parts}
use Rattle.mt_syntax.specs.CodeText.{assign_text, binary_text, expr_kind_text, expr_text, function_text, writing_code}
use Rattle.mt_syntax.specs.Depth.{depth_of_expr, measuring, nothing}
use Rattle.mt_syntax.specs.Fold.{Tree, on_expr}
use Rattle.mt_syntax.specs.Shape.{is_assignment, shaping}
use Rattle.mt_syntax.specs.Sort.{Sort}
use Rattle.mt_syntax.specs.Sort as sort
use Rattle.mt_tree.specs.declared.operators.Binary.{Binary}
use Rattle.mt_syntax.specs.declared.tree.Expr.{Expr}
use Rattle.mt_syntax.specs.declared.tree.ExprKind.{ExprKind, roll-ExprKind}
use Rattle.mt_syntax.specs.declared.tree.Function.{Function}
use Rattle.mt_tree.specs.declared.operators.StepKind.{StepKind}
use Rattle.mt_tree.specs.declared.operators.StepKind.TheVariants as steps
use Rattle.mt_tree.specs.declared.operators.Unary.{Unary}
use Rattle.mt_tree.specs.declared.operators.Unary.TheVariants as unary
use Rattle.mt_syntax.specs.declared.tree.ExprKind.TheOpen.{ExprKind-F}
use Rattle.mt_syntax_laws.proofs.Related.{at_expr_kind, on}
use Rattle.mt_script_words.specs.Keywords.{leader_of}
use Rattle.mt_script_words.specs.Operators.{operator_at}
use Rattle.mt_script_words.specs.Words.{word_of}
use Rattle.mt_script_words.specs.declared.keywords.Leader.{Leader}
use Rattle.mt_script_words.specs.declared.keywords.Leader.TheVariants as leader
use Rattle.mt_script_words.specs.declared.operators.Operator.{Operator}
use Rattle.mt_script_words.specs.declared.operators.Operator.TheVariants as operator
use Rattle.mt_script_words.proofs.PlainWords.{is_plain_leader}
use Rattle.mt_script_words.proofs.OperatorTexts.{and_read, assign_read, binary_read, choice_read, or_read}
use Rattle.mt_script_words.proofs.WordTexts.{ends_word, word_passed, word_read}
use Rattle.mt_script_tree.specs.Expressions.{behind_from, enclosed_at, head_at, is_target, led_at, operation_at, second_at}
use Rattle.mt_script_tree.specs.Reading.{expr_at, stmt_at}
use Rattle.mt_script_read.proofs.Ends.{closes, differ}
use Rattle.mt_script_read.proofs.Facts.{ExprFacts, FunctionFacts, ReadsKind, depth_of_function, depth_of_kind, opens, whole}
use Rattle.mt_script_read.proofs.Goodness.{AreBothClean, Good, IsClean, clean_with, good_expr_kind}
use Rattle.mt_script_read.proofs.Heads.{HeldExpr, by_symbol}

-- ---- good parts

pub two_good : (s t : Sort) (a : Tree s) (b : Tree t) → ((on shaping s a).fits && (on shaping t b).fits) ≡ true
    → AreBothClean s t a b → Good s a × Good t b
two_good s t a b fit clean =
    let fits = and_parts (on shaping s a).fits (on shaping t b).fits fit in
    let cleans : IsClean s a × IsClean t b = clean_with s a clean in (record { shaped = fits.0; clean = cleans.0 }, record { shaped = fits.1; clean = cleans.1 })

-- ---- what begins with an expression

led_plain : (n : ℕ) (l : Leader) (bytes : List ℕ) → is_plain_leader l ≡ true → led_at (expr_at n) (stmt_at n) l bytes ≡ operation_at (expr_at n) bytes
led_plain n (leader.Truth b) bytes h = refl
led_plain n leader.Null bytes h = refl
led_plain n leader.Undefined bytes h = refl
led_plain n leader.Function bytes h = absurd cc
led_plain n leader.Typeof bytes h = absurd cc
led_plain n leader.Other bytes h = refl

module _ (n : ℕ) (a : Expr) (f : ExprFacts a) where
  enclosed_operation : (more : List ℕ) → ends_word more ≡ true → enclosed_at (expr_at n) (stmt_at n) (expr_text a ++ more) ≡ operation_at (expr_at n) (expr_text a ++ more)
  enclosed_operation more e =
      let b = f.begins in
      let bytes : List ℕ = b.head ∷ (b.tail ++ more) in
      let same : expr_text a ++ more ≡ bytes = ap (λ s. s ++ more) b.whole in
      let lead : is_plain_leader (leader_of (word_of bytes)) ≡ true = subst (λ s. is_plain_leader (leader_of (word_of s)) ≡ true) same (f.leads more e).no_leader in
      let first : enclosed_at (expr_at n) (stmt_at n) bytes ≡ led_at (expr_at n) (stmt_at n) (leader_of (word_of bytes)) bytes =
      rw (differ opens b.head 123 b.is refl, differ opens b.head 33 b.is refl, differ opens b.head 45 b.is refl, differ opens b.head 43 b.is refl) refl in
      ap (enclosed_at (expr_at n) (stmt_at n)) same ∙ first ∙ led_plain n (leader_of (word_of bytes)) bytes lead ∙ ap (operation_at (expr_at n)) (sym same)

  module _ (deep : depth_of_expr a ≤ n) where
    pub enclosed_behind : (c : ℕ) (more : List ℕ) → closes (c ∷ more) ≡ true → ends_word (c ∷ more) ≡ true → enclosed_at (expr_at n) (stmt_at n) (expr_text a ++ c ∷ more) ≡ behind_from (expr_at n) a c more
    enclosed_behind c more h e = enclosed_operation (c ∷ more) e ∙ rw (whole a f n (c ∷ more) deep h) refl

    pub operation_read : (b : Expr) → ExprFacts b → depth_of_expr b ≤ n → (sign : List ℕ) (o : Operator) (more : List ℕ) → ((rest : List ℕ) → operator_at (sign ++ 32 ∷ rest) ≡ Some (o, rest)) → closes more ≡ true
        → enclosed_at (expr_at n) (stmt_at n) (expr_text a ++ 32 ∷ (sign ++ 32 ∷ (expr_text b ++ more))) ≡ second_at (expr_at n) a o b more
    operation_read b fb deep_b sign o more signed h = enclosed_behind 32 (sign ++ 32 ∷ (expr_text b ++ more)) refl refl ∙ rw (signed (expr_text b ++ more), whole b fb n more deep_b h) refl

-- ---- operations of two operands

module _ (a b : HeldExpr) where
  pub reads_binary : (op : Binary) → ReadsKind (ExprKind-F.Binary op a.0 b.0)
  reads_binary op g =
      let k : ExprKind = roll-ExprKind (ExprKind-F.Binary op a.0 b.0) in
      let good = good_expr_kind (ExprKind-F.Binary op a.0 b.0) g in
      let both = two_good sort.Expr sort.Expr a.0 b.0 good.0 good.1 in
      let tail : List ℕ = expr_text a.0 ++ (32 ∷ (binary_text op ++ (32 ∷ (expr_text b.0 ++ 41 ∷ [])))) in
      let text : expr_kind_text k ≡ 40 ∷ tail = at_expr_kind writing_code (ExprKind-F.Binary op a.0 b.0) in
      let depth : depth_of_kind k ≡ max (depth_of_expr a.0) (depth_of_expr b.0) = at_expr_kind (measuring nothing nothing) (ExprKind-F.Binary op a.0 b.0) in
      by_symbol k 40 tail text refl refl
      (λ n rest deep e.
      let bytes : expr_kind_text k ++ rest ≡ 40 ∷ (expr_text a.0 ++ 32 ∷ (binary_text op ++ 32 ∷ (expr_text b.0 ++ 41 ∷ rest))) = ap (λ s. s ++ rest) text ∙ simp append_assoc in
      ap (head_at (expr_at n) (stmt_at n)) bytes
      ∙ operation_read n a.0 (a.1 both.0) (omega (arith, depth)) b.0 (b.1 both.1) (omega (arith, depth)) (binary_text op) (operator.Binary op) (41 ∷ rest) (binary_read op) refl)

  pub reads_and : ReadsKind (ExprKind-F.And a.0 b.0)
  reads_and g =
      let k : ExprKind = roll-ExprKind (ExprKind-F.And a.0 b.0) in
      let good = good_expr_kind (ExprKind-F.And a.0 b.0) g in
      let both = two_good sort.Expr sort.Expr a.0 b.0 good.0 good.1 in
      let tail : List ℕ = expr_text a.0 ++ (32 ∷ (codes "&&" ++ (32 ∷ (expr_text b.0 ++ 41 ∷ [])))) in
      let text : expr_kind_text k ≡ 40 ∷ tail = at_expr_kind writing_code (ExprKind-F.And a.0 b.0) in
      let depth : depth_of_kind k ≡ max (depth_of_expr a.0) (depth_of_expr b.0) = at_expr_kind (measuring nothing nothing) (ExprKind-F.And a.0 b.0) in
      by_symbol k 40 tail text refl refl
      (λ n rest deep e.
      let bytes : expr_kind_text k ++ rest ≡ 40 ∷ (expr_text a.0 ++ 32 ∷ (codes "&&" ++ 32 ∷ (expr_text b.0 ++ 41 ∷ rest))) = ap (λ s. s ++ rest) text ∙ simp append_assoc in
      ap (head_at (expr_at n) (stmt_at n)) bytes
      ∙ operation_read n a.0 (a.1 both.0) (omega (arith, depth)) b.0 (b.1 both.1) (omega (arith, depth)) (codes "&&") operator.And (41 ∷ rest) and_read refl)

  pub reads_or : ReadsKind (ExprKind-F.Or a.0 b.0)
  reads_or g =
      let k : ExprKind = roll-ExprKind (ExprKind-F.Or a.0 b.0) in
      let good = good_expr_kind (ExprKind-F.Or a.0 b.0) g in
      let both = two_good sort.Expr sort.Expr a.0 b.0 good.0 good.1 in
      let tail : List ℕ = expr_text a.0 ++ (32 ∷ (codes "||" ++ (32 ∷ (expr_text b.0 ++ 41 ∷ [])))) in
      let text : expr_kind_text k ≡ 40 ∷ tail = at_expr_kind writing_code (ExprKind-F.Or a.0 b.0) in
      let depth : depth_of_kind k ≡ max (depth_of_expr a.0) (depth_of_expr b.0) = at_expr_kind (measuring nothing nothing) (ExprKind-F.Or a.0 b.0) in
      by_symbol k 40 tail text refl refl
      (λ n rest deep e.
      let bytes : expr_kind_text k ++ rest ≡ 40 ∷ (expr_text a.0 ++ 32 ∷ (codes "||" ++ 32 ∷ (expr_text b.0 ++ 41 ∷ rest))) = ap (λ s. s ++ rest) text ∙ simp append_assoc in
      ap (head_at (expr_at n) (stmt_at n)) bytes
      ∙ operation_read n a.0 (a.1 both.0) (omega (arith, depth)) b.0 (b.1 both.1) (omega (arith, depth)) (codes "||") operator.Or (41 ∷ rest) or_read refl)

  pub reads_assignment : (op : Option Binary) → ReadsKind (ExprKind-F.Assign op a.0 b.0)
  reads_assignment op g =
      let k : ExprKind = roll-ExprKind (ExprKind-F.Assign op a.0 b.0) in
      let good = good_expr_kind (ExprKind-F.Assign op a.0 b.0) g in
      let cleans : IsClean sort.Expr a.0 × IsClean sort.Expr b.0 = clean_with sort.Expr a.0 good.1 in
      let outer = and_parts (is_assignment op && (is_target a.0 && (on_expr shaping a.0).fits)) (on_expr shaping b.0).fits good.0 in
      let inner = and_parts (is_assignment op) (is_target a.0 && (on_expr shaping a.0).fits) outer.0 in
      let target = and_parts (is_target a.0) (on_expr shaping a.0).fits inner.1 in
      let good_a : Good sort.Expr a.0 = record { shaped = target.1; clean = cleans.0 } in
      let good_b : Good sort.Expr b.0 = record { shaped = outer.1; clean = cleans.1 } in
      let tail : List ℕ = expr_text a.0 ++ (32 ∷ (assign_text op ++ (32 ∷ (expr_text b.0 ++ 41 ∷ [])))) in
      let text : expr_kind_text k ≡ 40 ∷ tail = at_expr_kind writing_code (ExprKind-F.Assign op a.0 b.0) in
      let depth : depth_of_kind k ≡ max (depth_of_expr a.0) (depth_of_expr b.0) = at_expr_kind (measuring nothing nothing) (ExprKind-F.Assign op a.0 b.0) in
      by_symbol k 40 tail text refl refl
      (λ n rest deep e.
      let bytes : expr_kind_text k ++ rest ≡ 40 ∷ (expr_text a.0 ++ 32 ∷ (assign_text op ++ 32 ∷ (expr_text b.0 ++ 41 ∷ rest))) = ap (λ s. s ++ rest) text ∙ simp append_assoc in
      ap (head_at (expr_at n) (stmt_at n)) bytes
      ∙ operation_read n a.0 (a.1 good_a) (omega (arith, depth)) b.0 (b.1 good_b) (omega (arith, depth)) (assign_text op) (operator.Assign op) (41 ∷ rest) (λ r. assign_read op r inner.0) refl
      ∙ rw target.0 refl)

-- ---- a conditional

pub reads_choice : (a b c : HeldExpr) → ReadsKind (ExprKind-F.Cond a.0 b.0 c.0)
reads_choice a b c g =
    let k : ExprKind = roll-ExprKind (ExprKind-F.Cond a.0 b.0 c.0) in
    let good = good_expr_kind (ExprKind-F.Cond a.0 b.0 c.0) g in
    let outer = and_parts ((on_expr shaping a.0).fits && (on_expr shaping b.0).fits) (on_expr shaping c.0).fits good.0 in
    let inner = and_parts (on_expr shaping a.0).fits (on_expr shaping b.0).fits outer.0 in
    let cleans : IsClean sort.Expr a.0 × AreBothClean sort.Expr sort.Expr b.0 c.0 = clean_with sort.Expr a.0 good.1 in
    let others : IsClean sort.Expr b.0 × IsClean sort.Expr c.0 = clean_with sort.Expr b.0 cleans.1 in
    let good_a : Good sort.Expr a.0 = record { shaped = inner.0; clean = cleans.0 } in
    let good_b : Good sort.Expr b.0 = record { shaped = inner.1; clean = others.0 } in
    let good_c : Good sort.Expr c.0 = record { shaped = outer.1; clean = others.1 } in
    let tail : List ℕ = expr_text a.0 ++ (32 ∷ 63 ∷ 32 ∷ (expr_text b.0 ++ (32 ∷ 58 ∷ 32 ∷ (expr_text c.0 ++ 41 ∷ [])))) in
    let text : expr_kind_text k ≡ 40 ∷ tail = at_expr_kind writing_code (ExprKind-F.Cond a.0 b.0 c.0) in
    let depth : depth_of_kind k ≡ max (depth_of_expr a.0) (max (depth_of_expr b.0) (depth_of_expr c.0)) = at_expr_kind (measuring nothing nothing) (ExprKind-F.Cond a.0 b.0 c.0) in
    by_symbol k 40 tail text refl refl
    (λ n rest deep e.
    let bytes : expr_kind_text k ++ rest ≡ 40 ∷ (expr_text a.0 ++ 32 ∷ (codes "?" ++ 32 ∷ (expr_text b.0 ++ 32 ∷ 58 ∷ 32 ∷ (expr_text c.0 ++ 41 ∷ rest)))) = ap (λ s. s ++ rest) text ∙ simp append_assoc in
    ap (head_at (expr_at n) (stmt_at n)) bytes
    ∙ operation_read n a.0 (a.1 good_a) (omega (arith, depth)) b.0 (b.1 good_b) (omega (arith, depth)) (codes "?") operator.Choice (32 ∷ 58 ∷ 32 ∷ (expr_text c.0 ++ 41 ∷ rest)) choice_read refl
    ∙ rw (whole c.0 (c.1 good_c) n (41 ∷ rest) (omega (arith, depth)) refl) refl)

-- ---- operators before an operand

module _ (a : HeldExpr) where
  pub reads_unary : (op : Unary) → ReadsKind (ExprKind-F.Unary op a.0)
  unfolding leader_of
  reads_unary unary.Not g =
      let k : ExprKind = roll-ExprKind (ExprKind-F.Unary unary.Not a.0) in
      let good = good_expr_kind (ExprKind-F.Unary unary.Not a.0) g in
      let f = a.1 (record { shaped = good.0; clean = good.1 }) in
      let text : expr_kind_text k ≡ 40 ∷ 33 ∷ (expr_text a.0 ++ 41 ∷ []) = at_expr_kind writing_code (ExprKind-F.Unary unary.Not a.0) in
      let depth : depth_of_kind k ≡ depth_of_expr a.0 = at_expr_kind (measuring nothing nothing) (ExprKind-F.Unary unary.Not a.0) in
      by_symbol k 40 (33 ∷ (expr_text a.0 ++ 41 ∷ [])) text refl refl
      (λ n rest deep e.
      let bytes : expr_kind_text k ++ rest ≡ 40 ∷ 33 ∷ (expr_text a.0 ++ 41 ∷ rest) = ap (λ s. s ++ rest) text ∙ simp append_assoc in
      ap (head_at (expr_at n) (stmt_at n)) bytes ∙ rw (whole a.0 f n (41 ∷ rest) (omega (arith, depth)) refl) refl)
  reads_unary unary.Minus g =
      let k : ExprKind = roll-ExprKind (ExprKind-F.Unary unary.Minus a.0) in
      let good = good_expr_kind (ExprKind-F.Unary unary.Minus a.0) g in
      let f = a.1 (record { shaped = good.0; clean = good.1 }) in
      let b = f.begins in
      let text : expr_kind_text k ≡ 40 ∷ 45 ∷ (expr_text a.0 ++ 41 ∷ []) = at_expr_kind writing_code (ExprKind-F.Unary unary.Minus a.0) in
      let depth : depth_of_kind k ≡ depth_of_expr a.0 = at_expr_kind (measuring nothing nothing) (ExprKind-F.Unary unary.Minus a.0) in
      by_symbol k 40 (45 ∷ (expr_text a.0 ++ 41 ∷ [])) text refl refl
      (λ n rest deep e.
      let spread : expr_kind_text k ++ rest ≡ 40 ∷ 45 ∷ (expr_text a.0 ++ 41 ∷ rest) = ap (λ s. s ++ rest) text ∙ simp append_assoc in
      let bytes : expr_kind_text k ++ rest ≡ 40 ∷ 45 ∷ (b.head ∷ (b.tail ++ 41 ∷ rest)) = spread ∙ ap (λ s. 40 ∷ 45 ∷ (s ++ 41 ∷ rest)) b.whole in
      let operand : expr_at n (b.head ∷ (b.tail ++ 41 ∷ rest)) ≡ Some (a.0, 41 ∷ rest) = ap (λ s. expr_at n (s ++ 41 ∷ rest)) (sym b.whole) ∙ whole a.0 f n (41 ∷ rest) (omega (arith, depth)) refl in
      ap (head_at (expr_at n) (stmt_at n)) bytes ∙ rw (differ opens b.head 45 b.is refl, operand) refl)
  reads_unary unary.Plus g =
      let k : ExprKind = roll-ExprKind (ExprKind-F.Unary unary.Plus a.0) in
      let good = good_expr_kind (ExprKind-F.Unary unary.Plus a.0) g in
      let f = a.1 (record { shaped = good.0; clean = good.1 }) in
      let b = f.begins in
      let text : expr_kind_text k ≡ 40 ∷ 43 ∷ (expr_text a.0 ++ 41 ∷ []) = at_expr_kind writing_code (ExprKind-F.Unary unary.Plus a.0) in
      let depth : depth_of_kind k ≡ depth_of_expr a.0 = at_expr_kind (measuring nothing nothing) (ExprKind-F.Unary unary.Plus a.0) in
      by_symbol k 40 (43 ∷ (expr_text a.0 ++ 41 ∷ [])) text refl refl
      (λ n rest deep e.
      let spread : expr_kind_text k ++ rest ≡ 40 ∷ 43 ∷ (expr_text a.0 ++ 41 ∷ rest) = ap (λ s. s ++ rest) text ∙ simp append_assoc in
      let bytes : expr_kind_text k ++ rest ≡ 40 ∷ 43 ∷ (b.head ∷ (b.tail ++ 41 ∷ rest)) = spread ∙ ap (λ s. 40 ∷ 43 ∷ (s ++ 41 ∷ rest)) b.whole in
      let operand : expr_at n (b.head ∷ (b.tail ++ 41 ∷ rest)) ≡ Some (a.0, 41 ∷ rest) = ap (λ s. expr_at n (s ++ 41 ∷ rest)) (sym b.whole) ∙ whole a.0 f n (41 ∷ rest) (omega (arith, depth)) refl in
      ap (head_at (expr_at n) (stmt_at n)) bytes ∙ rw (differ opens b.head 43 b.is refl, operand) refl)
  reads_unary unary.Typeof g =
      let k : ExprKind = roll-ExprKind (ExprKind-F.Unary unary.Typeof a.0) in
      let good = good_expr_kind (ExprKind-F.Unary unary.Typeof a.0) g in
      let f = a.1 (record { shaped = good.0; clean = good.1 }) in
      let text : expr_kind_text k ≡ 40 ∷ (codes "typeof" ++ 32 ∷ (expr_text a.0 ++ 41 ∷ [])) = at_expr_kind writing_code (ExprKind-F.Unary unary.Typeof a.0) in
      let depth : depth_of_kind k ≡ depth_of_expr a.0 = at_expr_kind (measuring nothing nothing) (ExprKind-F.Unary unary.Typeof a.0) in
      by_symbol k 40 (codes "typeof" ++ 32 ∷ (expr_text a.0 ++ 41 ∷ [])) text refl refl
      (λ n rest deep e.
      let bytes : expr_kind_text k ++ rest ≡ 40 ∷ (codes "typeof" ++ 32 ∷ (expr_text a.0 ++ 41 ∷ rest)) = ap (λ s. s ++ rest) text ∙ simp append_assoc in
      ap (head_at (expr_at n) (stmt_at n)) bytes
      ∙ rw (word_read (codes "typeof") (32 ∷ (expr_text a.0 ++ 41 ∷ rest)) refl refl, word_passed (codes "typeof") (32 ∷ (expr_text a.0 ++ 41 ∷ rest)) refl refl, whole a.0 f n (41 ∷ rest) (omega (arith, depth)) refl) refl)

  -- ---- steps

  target : (step : StepKind) → Good sort.ExprKind (roll-ExprKind (ExprKind-F.Step step a.0)) → (is_target a.0 ≡ true) × ExprFacts a.0
  target step g =
      let good = good_expr_kind (ExprKind-F.Step step a.0) g in
      let parts = and_parts (is_target a.0) (on_expr shaping a.0).fits good.0 in (parts.0, a.1 (record { shaped = parts.1; clean = good.1 }))

  pub reads_step : (step : StepKind) → ReadsKind (ExprKind-F.Step step a.0)
  reads_step steps.IncBefore g =
      let k : ExprKind = roll-ExprKind (ExprKind-F.Step steps.IncBefore a.0) in
      let t = target steps.IncBefore g in
      let text : expr_kind_text k ≡ 40 ∷ 43 ∷ 43 ∷ (expr_text a.0 ++ 41 ∷ []) = at_expr_kind writing_code (ExprKind-F.Step steps.IncBefore a.0) in
      let depth : depth_of_kind k ≡ depth_of_expr a.0 = at_expr_kind (measuring nothing nothing) (ExprKind-F.Step steps.IncBefore a.0) in
      by_symbol k 40 (43 ∷ 43 ∷ (expr_text a.0 ++ 41 ∷ [])) text refl refl
      (λ n rest deep e.
      let bytes : expr_kind_text k ++ rest ≡ 40 ∷ 43 ∷ 43 ∷ (expr_text a.0 ++ 41 ∷ rest) = ap (λ s. s ++ rest) text ∙ simp append_assoc in
      ap (head_at (expr_at n) (stmt_at n)) bytes ∙ rw (whole a.0 t.1 n (41 ∷ rest) (omega (arith, depth)) refl, t.0) refl)
  reads_step steps.DecBefore g =
      let k : ExprKind = roll-ExprKind (ExprKind-F.Step steps.DecBefore a.0) in
      let t = target steps.DecBefore g in
      let text : expr_kind_text k ≡ 40 ∷ 45 ∷ 45 ∷ (expr_text a.0 ++ 41 ∷ []) = at_expr_kind writing_code (ExprKind-F.Step steps.DecBefore a.0) in
      let depth : depth_of_kind k ≡ depth_of_expr a.0 = at_expr_kind (measuring nothing nothing) (ExprKind-F.Step steps.DecBefore a.0) in
      by_symbol k 40 (45 ∷ 45 ∷ (expr_text a.0 ++ 41 ∷ [])) text refl refl
      (λ n rest deep e.
      let bytes : expr_kind_text k ++ rest ≡ 40 ∷ 45 ∷ 45 ∷ (expr_text a.0 ++ 41 ∷ rest) = ap (λ s. s ++ rest) text ∙ simp append_assoc in
      ap (head_at (expr_at n) (stmt_at n)) bytes ∙ rw (whole a.0 t.1 n (41 ∷ rest) (omega (arith, depth)) refl, t.0) refl)
  reads_step steps.IncAfter g =
      let k : ExprKind = roll-ExprKind (ExprKind-F.Step steps.IncAfter a.0) in
      let t = target steps.IncAfter g in
      let text : expr_kind_text k ≡ 40 ∷ (expr_text a.0 ++ 43 ∷ 43 ∷ 41 ∷ []) = at_expr_kind writing_code (ExprKind-F.Step steps.IncAfter a.0) in
      let depth : depth_of_kind k ≡ depth_of_expr a.0 = at_expr_kind (measuring nothing nothing) (ExprKind-F.Step steps.IncAfter a.0) in
      by_symbol k 40 (expr_text a.0 ++ 43 ∷ 43 ∷ 41 ∷ []) text refl refl
      (λ n rest deep e.
      let bytes : expr_kind_text k ++ rest ≡ 40 ∷ (expr_text a.0 ++ 43 ∷ 43 ∷ 41 ∷ rest) = ap (λ s. s ++ rest) text ∙ simp append_assoc in
      ap (head_at (expr_at n) (stmt_at n)) bytes ∙ enclosed_behind n a.0 t.1 (omega (arith, depth)) 43 (43 ∷ 41 ∷ rest) refl refl ∙ rw t.0 refl)
  reads_step steps.DecAfter g =
      let k : ExprKind = roll-ExprKind (ExprKind-F.Step steps.DecAfter a.0) in
      let t = target steps.DecAfter g in
      let text : expr_kind_text k ≡ 40 ∷ (expr_text a.0 ++ 45 ∷ 45 ∷ 41 ∷ []) = at_expr_kind writing_code (ExprKind-F.Step steps.DecAfter a.0) in
      let depth : depth_of_kind k ≡ depth_of_expr a.0 = at_expr_kind (measuring nothing nothing) (ExprKind-F.Step steps.DecAfter a.0) in
      by_symbol k 40 (expr_text a.0 ++ 45 ∷ 45 ∷ 41 ∷ []) text refl refl
      (λ n rest deep e.
      let bytes : expr_kind_text k ++ rest ≡ 40 ∷ (expr_text a.0 ++ 45 ∷ 45 ∷ 41 ∷ rest) = ap (λ s. s ++ rest) text ∙ simp append_assoc in
      ap (head_at (expr_at n) (stmt_at n)) bytes ∙ enclosed_behind n a.0 t.1 (omega (arith, depth)) 45 (45 ∷ 41 ∷ rest) refl refl ∙ rw t.0 refl)

-- ---- a function

abbrev pub HeldFunction : Type 0
HeldFunction = (f : Function) × (Good sort.Function f → FunctionFacts f)

pub reads_function : (f : HeldFunction) → ReadsKind (ExprKind-F.Fun f.0)
unfolding leader_of
reads_function f g =
    let k : ExprKind = roll-ExprKind (ExprKind-F.Fun f.0) in
    let good = good_expr_kind (ExprKind-F.Fun f.0) g in
    let facts = f.1 (record { shaped = good.0; clean = good.1 }) in
    let text : expr_kind_text k ≡ 40 ∷ (codes "function" ++ (function_text f.0 ++ 41 ∷ [])) = at_expr_kind writing_code (ExprKind-F.Fun f.0) in
    let depth : depth_of_kind k ≡ depth_of_function f.0 = at_expr_kind (measuring nothing nothing) (ExprKind-F.Fun f.0) in
    by_symbol k 40 (codes "function" ++ (function_text f.0 ++ 41 ∷ [])) text refl refl
    (λ n rest deep e.
    let bytes : expr_kind_text k ++ rest ≡ 40 ∷ (codes "function" ++ (function_text f.0 ++ 41 ∷ rest)) = ap (λ s. s ++ rest) text ∙ simp append_assoc in
    ap (head_at (expr_at n) (stmt_at n)) bytes
    ∙ rw (word_read (codes "function") (function_text f.0 ++ 41 ∷ rest) refl (facts.ends (41 ∷ rest)), word_passed (codes "function") (function_text f.0 ++ 41 ∷ rest) refl (facts.ends (41 ∷ rest)), facts.reads n (41 ∷ rest) (omega (arith, depth))) refl)
