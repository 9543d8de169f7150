-- What the evaluation of an expression with a list of parts is.
use Rattle.std.proofs.Common.{◌≡◌, ℕ, List, map, rules, sym, ap, ◌∙◌}
use Rattle.mt_eval_meaning.specs.Calls as calls
use Rattle.mt_eval_meaning.specs.Expressions as forms
use Rattle.mt_eval_meaning.specs.declared.state.State.{State}
use Rattle.mt_eval_meaning.specs.Slots.{Parts, expr, expr_at, exprs, entry, attribute, piece, callee}
use Rattle.mt_eval_meaning.specs.declared.expr.Attribute.{Attribute}
use Rattle.mt_eval_meaning.specs.declared.expr.Entry.{Entry}
use Rattle.mt_eval_meaning.specs.declared.expr.Expr as code
use Rattle.mt_eval_meaning.specs.declared.expr.Expr.{Expr, out-Expr, the_lemmas}
use Rattle.mt_eval_meaning.specs.declared.expr.Expr.TheOpen.{Expr-F}
use Rattle.mt_eval_meaning.specs.declared.expr.Piece.{Piece}
use Rattle.mt_eval_meaning.specs.declared.function.Function.{Function}

array_layer : (items : List Expr) → out-Expr (code.Arr items) ≡ Expr-F.Arr items
array_layer items = search (rules, the_lemmas)

object_layer : (entries : List Entry) → out-Expr (code.Obj entries) ≡ Expr-F.Obj entries
object_layer entries = search (rules, the_lemmas)

call_layer : (f : Expr) (arguments : List Expr) → out-Expr (code.Call f arguments) ≡ Expr-F.Call f arguments
call_layer f arguments = search (rules, the_lemmas)

tilde_layer : (id : ℕ) (dollars : List Expr) → out-Expr (code.Tilde id dollars) ≡ Expr-F.Tilde id dollars
tilde_layer id dollars = search (rules, the_lemmas)

element_layer : (tag : List ℕ) (attributes : List Attribute) (children : List Piece) → out-Expr (code.Element tag attributes children) ≡ Expr-F.Element tag attributes children
element_layer tag attributes children = search (rules, the_lemmas)

module _ {H : Type 0} (functions : List Function) (p : Parts H) (activation : List ℕ) (s : State × H) (e : Expr) where
  pub of_array : (items xs : List Expr) → e ≡ code.Arr items → xs ≡ items → expr functions p e activation s ≡ forms.array (exprs functions p xs activation) s
  unfolding expr
  of_array items xs is same = ap (λ l. expr_at functions p l activation s) (ap out-Expr is ∙ array_layer items) ∙ ap (λ es. forms.array (exprs functions p es activation) s) (sym same)

  pub of_object : (entries qs : List Entry) → e ≡ code.Obj entries → qs ≡ entries → expr functions p e activation s ≡ forms.object (map (λ q. entry functions p q activation) qs) s
  unfolding expr
  of_object entries qs is same = ap (λ l. expr_at functions p l activation s) (ap out-Expr is ∙ object_layer entries) ∙ ap (λ es. forms.object (map (λ q. entry functions p q activation) es) s) (sym same)

  pub of_call : (f g : Expr) (arguments xs : List Expr) → e ≡ code.Call f arguments → g ≡ f → xs ≡ arguments
      → expr functions p e activation s ≡ calls.call p.outside (callee functions p g activation) (exprs functions p xs activation) s
  unfolding expr
  of_call f g arguments xs is same same' =
      ap (λ l. expr_at functions p l activation s) (ap out-Expr is ∙ call_layer f arguments)
      ∙ ap (λ e. calls.call p.outside (callee functions p e activation) (exprs functions p arguments activation) s) (sym same)
      ∙ ap (λ es. calls.call p.outside (callee functions p g activation) (exprs functions p es activation) s) (sym same')

  pub of_tilde : (id : ℕ) (dollars xs : List Expr) → e ≡ code.Tilde id dollars → xs ≡ dollars → expr functions p e activation s ≡ forms.tilde p.outside id (exprs functions p xs activation) s
  unfolding expr
  of_tilde id dollars xs is same = ap (λ l. expr_at functions p l activation s) (ap out-Expr is ∙ tilde_layer id dollars) ∙ ap (λ es. forms.tilde p.outside id (exprs functions p es activation) s) (sym same)

  pub of_element : (tag : List ℕ) (attributes named : List Attribute) (children pieces : List Piece) → e ≡ code.Element tag attributes children → named ≡ attributes → pieces ≡ children
      → expr functions p e activation s ≡ forms.element p.outside tag (map (λ a. attribute functions p a activation) named) (map (λ c. piece functions p c activation) pieces) s
  unfolding expr
  of_element tag attributes named children pieces is same same' =
      ap (λ l. expr_at functions p l activation s) (ap out-Expr is ∙ element_layer tag attributes children)
      ∙ ap (λ es. forms.element p.outside tag (map (λ a. attribute functions p a activation) es) (map (λ c. piece functions p c activation) children) s) (sym same)
      ∙ ap (λ es. forms.element p.outside tag (map (λ a. attribute functions p a activation) named) (map (λ c. piece functions p c activation) es) s) (sym same')
