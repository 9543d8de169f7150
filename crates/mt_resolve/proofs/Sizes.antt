-- How many slots the entry of client code has.
use Rattle.std.proofs.Common.{◌≡◌, ℕ, List, [], length, ap, ◌∙◌, arith}
use Rattle.mt_eval_meaning.specs.Scopes.{Scope, with_lexicals}
use Rattle.mt_eval_agreement.proofs.Entries.{lexicals_length}
use Rattle.mt_eval_meaning.specs.Hoisting.{Lexical, lexicals}
use Rattle.mt_syntax.specs.declared.tree.Stmt.{Stmt}

lexicals_count : (ls : List Lexical) → length (with_lexicals 0 ls []) ≡ length ls
lexicals_count ls = omega (arith, lexicals_length 0 ls [])

pub entry_size : (entry start : ℕ × Scope) (given items : List Stmt) → start ≡ (0, []) → given ≡ items → entry ≡ (start.0, with_lexicals start.0 (lexicals given) start.1)
    → length entry.1 ≡ length (lexicals items)
entry_size entry start given items empty same is =
    ap (λ (e : ℕ × Scope). length e.1) is ∙ (λ i. length (with_lexicals (empty i).0 (lexicals (same i)) (empty i).1)) ∙ lexicals_count (lexicals items)
