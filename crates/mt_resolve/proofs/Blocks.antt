-- Each `let` and `const` of a block takes a slot.
use Rattle.std.proofs.Common.{◌≡◌, ℕ, ◌+◌, List, [], ◌∷◌, length, arith}
use Rattle.mt_eval_meaning.specs.Scopes.{Scope, with_lexicals, with_name}
use Rattle.mt_eval_meaning.specs.Hoisting.{Lexical}

slots_behind : (size : ℕ) (ls : List Lexical) (entry : Scope) → length (with_lexicals size ls entry) ≡ length ls + length entry
slots_behind size [] entry = omega arith
slots_behind size (l ∷ ls) entry =
    let rest = slots_behind size ls (with_name size l.name l.constant entry) in
    omega (arith, rest)

pub slots_of_block : (size : ℕ) (ls : List Lexical) → length (with_lexicals size ls []) ≡ length ls
slots_of_block size ls = omega (arith, slots_behind size ls [])
