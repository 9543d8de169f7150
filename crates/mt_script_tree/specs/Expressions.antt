-- Expressions, as a lenient reader finds them: a byte that can only be one is passed over unseen.
use Rattle.std.specs.Prelude.{ℕ, zero, suc, ◌==◌, if◌then◌else◌, List, ◌∷◌, drop, Bool, true, false, Option, Some, None}
use Rattle.mt_syntax.specs.Data.{is_digit}
use Rattle.mt_syntax.specs.Fold.{on_expr}
use Rattle.mt_syntax.specs.Shape.{is_target as looks_like_target, shaping}
use Rattle.mt_syntax.specs.declared.tree.Mark.{Mark}
use Rattle.mt_tree.specs.declared.operators.Binary.{Binary}
use Rattle.mt_syntax.specs.declared.tree.Expr.{Expr}
use Rattle.mt_syntax.specs.declared.tree.ExprKind.{ExprKind}
use Rattle.mt_syntax.specs.declared.tree.ExprKind.TheOpen.{ExprKind-F}
use Rattle.mt_syntax.specs.declared.tree.Function.{Function}
use Rattle.mt_syntax.specs.declared.tree.Prop.{Prop}
use Rattle.mt_syntax.specs.declared.tree.Stmt.{Stmt}
use Rattle.mt_tree.specs.declared.operators.StepKind.{StepKind}
use Rattle.mt_tree.specs.declared.operators.StepKind.TheVariants as steps
use Rattle.mt_tree.specs.declared.operators.Unary.{Unary}
use Rattle.mt_tree.specs.declared.operators.Unary.TheVariants as unary
use Rattle.mt_json.specs.Reading.{◌>>=◌, Parse, first_at}
use Rattle.mt_script_words.specs.Keywords.{leader_of}
use Rattle.mt_script_words.specs.Literals.{string_at, text_at}
use Rattle.mt_script_words.specs.Operators.{operator_at}
use Rattle.mt_script_words.specs.Values.{datum_of, number_of}
use Rattle.mt_script_words.specs.Words.{after_word, mark_at, name_of, word_of}
use Rattle.mt_script_words.specs.declared.keywords.Leader.{Leader}
use Rattle.mt_script_words.specs.declared.keywords.Leader.TheVariants as leader
use Rattle.mt_script_words.specs.declared.operators.Operator.{Operator}
use Rattle.mt_script_words.specs.declared.operators.Operator.TheVariants as operator
use Rattle.mt_script_tree.specs.Lists.{list_by}
use Rattle.mt_script_tree.specs.Made as made

-- whether the expression can be assigned to
abbrev pub is_target : Expr → Bool
is_target e = looks_like_target (on_expr shaping e).look

-- ---- without parts

abbrev pub value_at : Parse ExprKind
value_at bytes = string_at bytes >>= λ s. datum_of s.0 >>= λ d. Some (made.kind (ExprKind-F.Val d), drop 1 s.1)

abbrev pub number_at : Parse ExprKind
number_at bytes = number_of (word_of bytes) >>= λ n. Some (made.kind (ExprKind-F.Num n), after_word bytes)

abbrev pub constant_of : Leader → List ℕ → Option ExprKind
constant_of (leader.Truth b) word = Some (made.kind (ExprKind-F.Bool b))
constant_of leader.Null word = Some (made.kind ExprKind-F.Null)
constant_of leader.Undefined word = Some (made.kind ExprKind-F.Undefined)
constant_of _ word = name_of word >>= λ n. Some (made.kind (ExprKind-F.Name n))

abbrev pub word_at : Parse ExprKind
word_at bytes = constant_of (leader_of (word_of bytes)) (word_of bytes) >>= λ k. Some (k, after_word bytes)

-- ---- functions, by what reads a statement

abbrev pub own_name_from : ℕ → Parse (Option Mark)
own_name_from b bytes = if b == 32 then (mark_at bytes >>= λ m. Some (Some m.0, m.1)) else Some (None, b ∷ bytes)

-- the name of a function, behind the word `function`
abbrev pub own_name_at : Parse (Option Mark)
own_name_at bytes = first_at bytes >>= λ p. own_name_from p.0 p.1

abbrev pub function_at : Parse Stmt → Parse Function
function_at stmt bytes =
    own_name_at bytes >>= λ n. list_by 41 mark_at (drop 1 n.1) >>= λ ps. list_by 125 stmt (drop 1 ps.1) >>= λ body. Some (made.function n.0 ps.0 body.0, body.1)

-- ---- targets

abbrev pub stepped : StepKind → Expr → Parse ExprKind
stepped step a bytes = if is_target a then Some (made.kind (ExprKind-F.Step step a), bytes) else None

abbrev pub assigned : Option Binary → Expr → Expr → Parse ExprKind
assigned op a b bytes = if is_target a then Some (made.kind (ExprKind-F.Assign op a b), bytes) else None

-- ---- expressions in parentheses, by what reads an expression

module _ (expr : Parse Expr) where
  abbrev pub prop_at : Parse Prop
  prop_at bytes = text_at (drop 1 bytes) >>= λ k. expr (drop 1 k.1) >>= λ v. Some (made.prop k.0 v.0, v.1)

  abbrev pub unary_at : Unary → Parse ExprKind
  unary_at op bytes = expr bytes >>= λ a. Some (made.kind (ExprKind-F.Unary op a.0), drop 1 a.1)

  abbrev pub step_at : StepKind → Parse ExprKind
  step_at step bytes = expr bytes >>= λ a. stepped step a.0 (drop 1 a.1)

  abbrev pub signed_from : ℕ → StepKind → Unary → ℕ → Parse ExprKind
  signed_from sign step op b bytes = if b == sign then step_at step bytes else unary_at op (b ∷ bytes)

  -- behind one sign that may be the first of two
  abbrev pub signed_at : ℕ → StepKind → Unary → Parse ExprKind
  signed_at sign step op bytes = first_at bytes >>= λ p. signed_from sign step op p.0 p.1

  abbrev pub other_choice_at : Expr → Expr → Parse ExprKind
  other_choice_at a b bytes = expr bytes >>= λ c. Some (made.kind (ExprKind-F.Cond a b c.0), drop 1 c.1)

  abbrev pub second_at : Expr → Operator → Expr → Parse ExprKind
  second_at a (operator.Binary op) b bytes = Some (made.kind (ExprKind-F.Binary op a b), drop 1 bytes)
  second_at a operator.And b bytes = Some (made.kind (ExprKind-F.And a b), drop 1 bytes)
  second_at a operator.Or b bytes = Some (made.kind (ExprKind-F.Or a b), drop 1 bytes)
  second_at a (operator.Assign op) b bytes = assigned op a b (drop 1 bytes)
  second_at a operator.Choice b bytes = other_choice_at a b (drop 3 bytes)

  abbrev pub operated_at : Expr → Parse ExprKind
  operated_at a bytes = operator_at bytes >>= λ o. expr o.1 >>= λ b. second_at a o.0 b.0 b.1

  abbrev pub behind_from : Expr → ℕ → Parse ExprKind
  behind_from a b bytes =
      if b == 43 then stepped steps.IncAfter a (drop 2 bytes) else
      if b == 45 then stepped steps.DecAfter a (drop 2 bytes) else
      operated_at a bytes

  -- what stands behind the first operand
  abbrev pub behind_at : Expr → Parse ExprKind
  behind_at a bytes = first_at bytes >>= λ p. behind_from a p.0 p.1

  abbrev pub operation_at : Parse ExprKind
  operation_at bytes = expr bytes >>= λ a. behind_at a.0 a.1

  -- ---- keys and arguments

  abbrev pub grown_from : Expr → ℕ → Parse (Bool × Expr)
  grown_from base b bytes =
      if b == 91 then (expr bytes >>= λ k. Some ((true, made.expr (made.kind (ExprKind-F.Index base k.0))), drop 1 k.1)) else
      if b == 40 then (list_by 41 expr bytes >>= λ es. Some ((true, made.expr (made.kind (ExprKind-F.Call base es.0))), es.1)) else
      Some ((false, base), b ∷ bytes)

  -- whether a key or arguments stand there, and what they make of the base before them
  abbrev pub grown_at : Expr → Parse (Bool × Expr)
  grown_at base bytes = first_at bytes >>= λ p. grown_from base p.0 p.1

  -- so many of them, less one
  unfoldable pub chain_at : ℕ → Expr → Parse Expr
  chain_at zero base bytes = None
  chain_at (suc n) base bytes = grown_at base bytes >>= λ g. (if g.0.0 then chain_at n g.0.1 g.1 else Some (g.0.1, g.1))

-- ---- whole expressions, by what reads an expression and a statement

module _ (expr : Parse Expr) (stmt : Parse Stmt) where
  abbrev pub led_at : Leader → Parse ExprKind
  led_at leader.Function bytes = function_at stmt (after_word bytes) >>= λ f. Some (made.kind (ExprKind-F.Fun f.0), drop 1 f.1)
  led_at leader.Typeof bytes = unary_at expr unary.Typeof (drop 1 (after_word bytes))
  led_at _ bytes = operation_at expr bytes

  -- behind the opening parenthesis
  abbrev pub enclosed_from : ℕ → Parse ExprKind
  enclosed_from b bytes =
      if b == 123 then (list_by 125 (prop_at expr) bytes >>= λ ps. Some (made.kind (ExprKind-F.Obj ps.0), drop 1 ps.1)) else
      if b == 33 then unary_at expr unary.Not bytes else
      if b == 45 then signed_at expr 45 steps.DecBefore unary.Minus bytes else
      if b == 43 then signed_at expr 43 steps.IncBefore unary.Plus bytes else
      led_at (leader_of (word_of (b ∷ bytes))) (b ∷ bytes)

  abbrev pub enclosed_at : Parse ExprKind
  enclosed_at bytes = first_at bytes >>= λ p. enclosed_from p.0 p.1

  -- what keys and arguments may follow
  abbrev pub head_from : ℕ → Parse ExprKind
  head_from b bytes =
      if b == 40 then enclosed_at bytes else
      if b == 91 then (list_by 93 expr bytes >>= λ es. Some (made.kind (ExprKind-F.Arr es.0), es.1)) else
      if b == 34 then (text_at bytes >>= λ t. Some (made.kind (ExprKind-F.ExprKind::Text t.0), t.1)) else
      if b == 36 then value_at (drop 3 bytes) else
      if is_digit b then number_at (b ∷ bytes) else
      word_at (b ∷ bytes)

  abbrev pub head_at : Parse ExprKind
  head_at bytes = first_at bytes >>= λ p. head_from p.0 p.1

  abbrev pub expr_by : ℕ → Parse Expr
  expr_by turns bytes = head_at bytes >>= λ k. chain_at expr turns (made.expr k.0) k.1
