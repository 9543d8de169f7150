-- Whatever is read as an expression is good.
use Rattle.std.proofs.Common.{◌≡◌, ℕ, zero, suc, Bool, true, false, ◌&&◌, eqb, List, ◌∷◌, map, drop, Option, Some, None, arith}
use Rattle.std.specs.Str.{all_scalars}
use Rattle.std.proofs.lemmas.Bool.{and_from, leb-true}
use Rattle.mt_tree.specs.Text.{units_of}
use Rattle.mt_syntax.specs.Data.{is_digit}
use Rattle.mt_syntax.specs.Fold.{on_expr}
use Rattle.mt_syntax.specs.Shape.{all_fit, is_assignment, shaping}
use Rattle.mt_syntax.specs.Sort as sort
use Rattle.mt_tree.specs.declared.operators.Binary.{Binary}
use Rattle.mt_syntax.specs.declared.tree.Expr.{Expr}
use Rattle.mt_syntax.specs.declared.tree.ExprKind.{ExprKind}
use Rattle.mt_tree.specs.declared.operators.StepKind.{StepKind}
use Rattle.mt_tree.specs.declared.operators.StepKind.TheVariants as steps
use Rattle.mt_syntax.specs.declared.tree.Stmt.{Stmt}
use Rattle.mt_tree.specs.declared.operators.Unary.{Unary}
use Rattle.mt_tree.specs.declared.operators.Unary.TheVariants as unary
use Rattle.mt_syntax.specs.declared.tree.ExprKind.TheOpen.{ExprKind-F}
use Rattle.mt_json.specs.Reading.{◌>>=◌, Parse, first_at}
use Rattle.mt_script_words.proofs.Found.{Assigns, Finds, IsShortText, finds_if, finds_nothing, operators_found, texts_found, then_finds}
use Rattle.mt_script_words.specs.Keywords.{leader_of}
use Rattle.mt_script_words.specs.Literals.{text_at}
use Rattle.mt_script_words.specs.Operators.{operator_at}
use Rattle.mt_script_words.specs.Words.{after_word, word_of}
use Rattle.mt_script_words.specs.declared.keywords.Leader.{Leader}
use Rattle.mt_script_words.specs.declared.keywords.Leader.TheVariants as leader
use Rattle.mt_script_words.specs.declared.operators.Operator.{Operator}
use Rattle.mt_script_words.specs.declared.operators.Operator.TheVariants as operator
use Rattle.mt_script_tree.specs.Expressions.{assigned, behind_at, chain_at, enclosed_at, enclosed_from, expr_by, function_at, grown_at, head_at, head_from, is_target, led_at, operated_at, operation_at, other_choice_at, prop_at, second_at, signed_at, step_at, stepped, unary_at}
use Rattle.mt_script_tree.specs.Lists.{list_by}
use Rattle.mt_script_tree.specs.Made as made
use Rattle.mt_script_read.proofs.Found.{GoodExpr, GoodKind, Known, Yields, both_fit, function_yields, gives, known, list_yields, made_expr, number_yields, reading, target_step, text_kind_yields, value_yields, word_yields}
use Rattle.mt_script_read.proofs.Goodness.{Each, Good, expr_kind_good, prop_good, rows_clean, rows_fit, with_clean}
use Rattle.mt_tree.specs.Limits.{text_limit}

abbrev KindFound : Option (ExprKind × List ℕ) → Type 0
KindFound = Finds (λ (y : ExprKind × List ℕ). GoodKind y.0)

assigned_good : (op : Option Binary) (a b : Expr) (bytes : List ℕ) → is_assignment op ≡ true → GoodExpr a → GoodExpr b → KindFound (assigned op a b bytes)
assigned_good op a b bytes is g h =
    finds_if (is_target a) _ None
    (λ e. gives GoodKind _ bytes (expr_kind_good (ExprKind-F.Assign op a b)
    (and_from (is_assignment op && (is_target a && (on_expr shaping a).fits)) (on_expr shaping b).fits (and_from (is_assignment op) (is_target a && (on_expr shaping a).fits) is (and_from (is_target a) (on_expr shaping a).fits e g.shaped)) h.shaped)
    (with_clean sort.Expr a g.clean h.clean)))
    (λ e. finds_nothing _)

module _ (expr : Parse Expr) (e : Yields GoodExpr expr) where
  prop_yields : Yields (Good sort.Prop) (prop_at expr)
  prop_yields bytes =
      reading IsShortText (Good sort.Prop) (text_at (drop 1 bytes)) _ (texts_found (drop 1 bytes))
      (λ k is. reading GoodExpr (Good sort.Prop) (expr (drop 1 k.1)) _ (e (drop 1 k.1))
      (λ v g. gives (Good sort.Prop) _ v.1 (prop_good (record { name = k.0; value = v.0 }) (and_from (all_scalars k.0) (on_expr shaping v.0).fits is.scalars g.shaped)
      (record { plain_code = g.clean.plain_code; filled_code = g.clean.filled_code; no_places = g.clean.no_places; short_texts = omega (arith, leb-true (units_of k.0) text_limit is.short, g.clean.short_texts); small_values = g.clean.small_values }))))

  unary_yields : (op : Unary) → Yields GoodKind (unary_at expr op)
  unary_yields op bytes = reading GoodExpr GoodKind (expr bytes) _ (e bytes) (λ a g. gives GoodKind _ (drop 1 a.1) (expr_kind_good (ExprKind-F.Unary op a.0) g.shaped g.clean))

  step_yields : (step : StepKind) → Yields GoodKind (step_at expr step)
  step_yields step bytes = reading GoodExpr GoodKind (expr bytes) _ (e bytes) (λ a g. target_step step a.0 (drop 1 a.1) g)

  signed_yields : (sign : ℕ) (step : StepKind) (op : Unary) → Yields GoodKind (signed_at expr sign step op)
  signed_yields sign step op bytes =
      then_finds {P = Known} {Q = λ (y : ExprKind × List ℕ). GoodKind y.0} (first_at bytes) _ (known (first_at bytes))
      (λ p k. finds_if (eqb p.0 sign) (step_at expr step p.1) (unary_at expr op (p.0 ∷ p.1)) (λ h. step_yields step p.1) (λ h. unary_yields op (p.0 ∷ p.1)))

  other_yields : (a b : Expr) → GoodExpr a → GoodExpr b → Yields GoodKind (other_choice_at expr a b)
  other_yields a b g h bytes =
      reading GoodExpr GoodKind (expr bytes) _ (e bytes)
      (λ c i. gives GoodKind _ (drop 1 c.1) (expr_kind_good (ExprKind-F.Cond a b c.0)
      (and_from ((on_expr shaping a).fits && (on_expr shaping b).fits) (on_expr shaping c.0).fits (both_fit sort.Expr sort.Expr a b g h) i.shaped)
      (with_clean sort.Expr a g.clean (with_clean sort.Expr b h.clean i.clean))))

  second_yields : (a b : Expr) → GoodExpr a → GoodExpr b → (o : Operator) → Assigns o → Yields GoodKind (second_at expr a o b)
  second_yields a b g h (operator.Binary op) is bytes = gives GoodKind _ (drop 1 bytes) (expr_kind_good (ExprKind-F.Binary op a b) (both_fit sort.Expr sort.Expr a b g h) (with_clean sort.Expr a g.clean h.clean))
  second_yields a b g h operator.And is bytes = gives GoodKind _ (drop 1 bytes) (expr_kind_good (ExprKind-F.And a b) (both_fit sort.Expr sort.Expr a b g h) (with_clean sort.Expr a g.clean h.clean))
  second_yields a b g h operator.Or is bytes = gives GoodKind _ (drop 1 bytes) (expr_kind_good (ExprKind-F.Or a b) (both_fit sort.Expr sort.Expr a b g h) (with_clean sort.Expr a g.clean h.clean))
  second_yields a b g h (operator.Assign op) is bytes = assigned_good op a b (drop 1 bytes) is g h
  second_yields a b g h operator.Choice is bytes = other_yields a b g h (drop 3 bytes)

  operated_yields : (a : Expr) → GoodExpr a → Yields GoodKind (operated_at expr a)
  operated_yields a g bytes =
      reading Assigns GoodKind (operator_at bytes) _ (operators_found bytes)
      (λ o is. reading GoodExpr GoodKind (expr o.1) _ (e o.1) (λ b h. second_yields a b.0 g h o.0 is b.1))

  behind_yields : (a : Expr) → GoodExpr a → Yields GoodKind (behind_at expr a)
  behind_yields a g bytes =
      then_finds {P = Known} {Q = λ (y : ExprKind × List ℕ). GoodKind y.0} (first_at bytes) _ (known (first_at bytes))
      (λ p k. finds_if (eqb p.0 43) (stepped steps.IncAfter a (drop 2 p.1)) _ (λ h. target_step steps.IncAfter a (drop 2 p.1) g)
      (λ h. finds_if (eqb p.0 45) (stepped steps.DecAfter a (drop 2 p.1)) (operated_at expr a p.1) (λ h. target_step steps.DecAfter a (drop 2 p.1) g) (λ h. operated_yields a g p.1)))

  operation_yields : Yields GoodKind (operation_at expr)
  operation_yields bytes = reading GoodExpr GoodKind (expr bytes) _ (e bytes) (λ a g. behind_yields a.0 g a.1)

  -- ---- chains

  abbrev GoodNext : Bool × Expr → Type 0
  GoodNext g = GoodExpr g.1

  grown_yields : (base : Expr) → GoodExpr base → Yields GoodNext (grown_at expr base)
  grown_yields base g bytes =
      then_finds {P = Known} {Q = λ (y : (Bool × Expr) × List ℕ). GoodNext y.0} (first_at bytes) _ (known (first_at bytes))
      (λ p k. finds_if (eqb p.0 91) _ _
      (λ h. reading GoodExpr GoodNext (expr p.1) _ (e p.1)
      (λ key i. gives GoodNext _ (drop 1 key.1) (made_expr _ (expr_kind_good (ExprKind-F.Index base key.0) (both_fit sort.Expr sort.Expr base key.0 g i) (with_clean sort.Expr base g.clean i.clean)))))
      (λ h. finds_if (eqb p.0 40) _ (Some ((false, base), p.0 ∷ p.1))
      (λ h. reading (Each GoodExpr) GoodNext (list_by 41 expr p.1) _ (list_yields GoodExpr 41 expr e p.1)
      (λ es all. gives GoodNext _ es.1 (made_expr _ (expr_kind_good (ExprKind-F.Call base es.0)
      (and_from (on_expr shaping base).fits (all_fit (map (on_expr shaping) es.0)) g.shaped (rows_fit sort.Expr es.0 all)) (with_clean sort.Expr base g.clean (rows_clean sort.Expr es.0 all))))))
      (λ h. gives GoodNext (false, base) (p.0 ∷ p.1) g)))

  pub chain_yields : (n : ℕ) (base : Expr) → GoodExpr base → Yields GoodExpr (chain_at expr n base)
  unfolding chain_at
  chain_yields zero base g bytes = finds_nothing _
  chain_yields (suc n) base g bytes =
      reading GoodNext GoodExpr (grown_at expr base bytes) _ (grown_yields base g bytes)
      (λ next i. finds_if next.0.0 (chain_at expr n next.0.1 next.1) (Some (next.0.1, next.1)) (λ h. chain_yields n next.0.1 i next.1) (λ h. gives GoodExpr next.0.1 next.1 i))

module _ (expr : Parse Expr) (stmt : Parse Stmt) (e : Yields GoodExpr expr) (s : Yields (Good sort.Stmt) stmt) where
  function_kind : (bytes : List ℕ) → KindFound (led_at expr stmt leader.Function bytes)
  function_kind bytes = reading (Good sort.Function) GoodKind (function_at stmt (after_word bytes)) _ (function_yields stmt s (after_word bytes)) (λ f g. gives GoodKind _ (drop 1 f.1) (expr_kind_good (ExprKind-F.Fun f.0) g.shaped g.clean))

  led_yields : (l : Leader) → Yields GoodKind (led_at expr stmt l)
  led_yields (leader.Truth b) bytes = operation_yields expr e bytes
  led_yields leader.Null bytes = operation_yields expr e bytes
  led_yields leader.Undefined bytes = operation_yields expr e bytes
  led_yields leader.Function bytes = function_kind bytes
  led_yields leader.Typeof bytes = unary_yields expr e unary.Typeof (drop 1 (after_word bytes))
  led_yields leader.Other bytes = operation_yields expr e bytes

  object_found : (bytes : List ℕ) → KindFound (list_by 125 (prop_at expr) bytes >>= λ ps. Some (made.kind (ExprKind-F.Obj ps.0), drop 1 ps.1))
  object_found bytes =
      reading (Each (Good sort.Prop)) GoodKind (list_by 125 (prop_at expr) bytes) _ (list_yields (Good sort.Prop) 125 (prop_at expr) (prop_yields expr e) bytes)
      (λ ps all. gives GoodKind _ (drop 1 ps.1) (expr_kind_good (ExprKind-F.Obj ps.0) (rows_fit sort.Prop ps.0 all) (rows_clean sort.Prop ps.0 all)))

  enclosed_found : (b : ℕ) (bytes : List ℕ) → KindFound (enclosed_from expr stmt b bytes)
  enclosed_found b bytes =
      finds_if (eqb b 123) _ _ (λ h. object_found bytes)
      (λ h. finds_if (eqb b 33) (unary_at expr unary.Not bytes) _ (λ h. unary_yields expr e unary.Not bytes)
      (λ h. finds_if (eqb b 45) (signed_at expr 45 steps.DecBefore unary.Minus bytes) _ (λ h. signed_yields expr e 45 steps.DecBefore unary.Minus bytes)
      (λ h. finds_if (eqb b 43) (signed_at expr 43 steps.IncBefore unary.Plus bytes) (led_at expr stmt (leader_of (word_of (b ∷ bytes))) (b ∷ bytes)) (λ h. signed_yields expr e 43 steps.IncBefore unary.Plus bytes)
      (λ h. led_yields (leader_of (word_of (b ∷ bytes))) (b ∷ bytes)))))

  enclosed_yields : Yields GoodKind (enclosed_at expr stmt)
  enclosed_yields bytes = then_finds {P = Known} {Q = λ (y : ExprKind × List ℕ). GoodKind y.0} (first_at bytes) _ (known (first_at bytes)) (λ p k. enclosed_found p.0 p.1)

  array_found : (bytes : List ℕ) → KindFound (list_by 93 expr bytes >>= λ es. Some (made.kind (ExprKind-F.Arr es.0), es.1))
  array_found bytes =
      reading (Each GoodExpr) GoodKind (list_by 93 expr bytes) _ (list_yields GoodExpr 93 expr e bytes)
      (λ es all. gives GoodKind _ es.1 (expr_kind_good (ExprKind-F.Arr es.0) (rows_fit sort.Expr es.0 all) (rows_clean sort.Expr es.0 all)))

  head_found : (b : ℕ) (bytes : List ℕ) → KindFound (head_from expr stmt b bytes)
  head_found b bytes =
      finds_if (eqb b 40) (enclosed_at expr stmt bytes) _ (λ h. enclosed_yields bytes)
      (λ h. finds_if (eqb b 91) _ _ (λ h. array_found bytes)
      (λ h. finds_if (eqb b 34) _ _ (λ h. text_kind_yields bytes)
      (λ h. finds_if (eqb b 36) _ _ (λ h. value_yields (drop 3 bytes))
      (λ h. finds_if (is_digit b) _ _ (λ h. number_yields (b ∷ bytes)) (λ h. word_yields (b ∷ bytes))))))

  head_yields : Yields GoodKind (head_at expr stmt)
  head_yields bytes = then_finds {P = Known} {Q = λ (y : ExprKind × List ℕ). GoodKind y.0} (first_at bytes) _ (known (first_at bytes)) (λ p k. head_found p.0 p.1)

  pub expr_yields : (turns : ℕ) → Yields GoodExpr (expr_by expr stmt turns)
  expr_yields turns bytes = reading GoodKind GoodExpr (head_at expr stmt bytes) _ (head_yields bytes) (λ k g. chain_yields expr e turns (made.expr k.0) (made_expr k.0 g) k.1)
