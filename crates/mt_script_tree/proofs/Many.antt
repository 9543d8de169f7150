-- Chains of keys and arguments, as a loop follows them.
use Rattle.std.proofs.Common.{◌≡◌, ℕ, suc, ◌-◌, ◌+◌, ◌<◌, ◌≤◌, true, false, List, Option, None, Some, refl, sym, ◌∙◌, arith}
use Rattle.mt_syntax.specs.declared.tree.Expr.{Expr}
use Rattle.mt_syntax.specs.declared.tree.Stmt.{Stmt}
use Rattle.mt_json.specs.Reading.{◌>>=◌, Parse}
use Rattle.mt_script_words.specs.Outcome.{Refuses}
use Rattle.mt_script_words.specs.declared.refusal.CodeRefusal.{CodeRefusal}
use Rattle.mt_script_words.specs.declared.refusal.CodeRefusal.TheVariants as refusal
use Rattle.mt_script_tree.specs.Expressions.{chain_at, grown_at}

module _ (expr : Parse Expr) (count i : ℕ) (base : Expr) (rest : List ℕ) (total : Option (Expr × List ℕ)) (so_far : chain_at expr (count - i) base rest ≡ total) where
  pub chain_goes : (next : Expr) (after : List ℕ) → i < count → grown_at expr base rest ≡ Some ((true, next), after) → chain_at expr (count - (i + 1)) next after ≡ total
  unfolding chain_at
  chain_goes next after lt h =
      let k : count - i ≡ suc (count - (i + 1)) = omega arith in
      let one : chain_at expr (count - i) base rest ≡ chain_at expr (count - (i + 1)) next after = rw (k, h) refl in
      sym one ∙ so_far

  pub chain_stops : (next : Expr) (after : List ℕ) → i < count → grown_at expr base rest ≡ Some ((false, next), after) → total ≡ Some (next, after)
  unfolding chain_at
  chain_stops next after lt h =
      let k : count - i ≡ suc (count - (i + 1)) = omega arith in
      let one : chain_at expr (count - i) base rest ≡ Some (next, after) = rw (k, h) refl in
      sym so_far ∙ one

  pub chain_fails : (e : CodeRefusal) → i < count → Refuses e (grown_at expr base rest) → Refuses e total
  unfolding chain_at
  chain_fails refusal.NoMemory lt h = tt
  chain_fails refusal.NotCode lt h =
      let k : count - i ≡ suc (count - (i + 1)) = omega arith in
      let one : chain_at expr (count - i) base rest ≡ None = rw (k, h) refl in
      sym so_far ∙ one

  pub chain_runs_out : count ≤ i → total ≡ None
  unfolding chain_at
  chain_runs_out le =
      let k : count - i ≡ 0 = omega arith in
      let one : chain_at expr (count - i) base rest ≡ None = rw k refl in
      sym so_far ∙ one

-- ---- the statements without what follows them

pub statements_of : (o : Option (List Stmt × List ℕ)) (front : List Stmt) (after : List ℕ) → o ≡ Some (front, after) → (o >>= λ ss. Some ss.0) ≡ Some front
statements_of o front after h = rw h refl

pub no_statements : (o : Option (List Stmt × List ℕ)) → o ≡ None → (o >>= λ ss. Some ss.0) ≡ None
no_statements o h = rw h refl
