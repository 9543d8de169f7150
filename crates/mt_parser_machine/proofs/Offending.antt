-- The token that the machine refuses is the first one that no program goes on with.
use Rattle.std.proofs.Common.{◌≡◌, ℕ, ◌+◌, [], Some, None, inl, inr, take, drop, arith, sym, ap, subst, ◌∙◌}
use Rattle.std.proofs.lemmas.List.{take-append-drop, take_all}
use Rattle.mt_grammar.specs.Token.{Tokens}
use Rattle.mt_grammar.specs.Tree.{Stmts}
use Rattle.mt_grammar.specs.Nodes.{stmts_nodes}
use Rattle.mt_grammar.specs.Grammar.{IsProgram}
use Rattle.mt_grammar.specs.Continues.{BeginsProgram}
use Rattle.mt_grammar.specs.Machine.{Configuration, after, finish, parsed, start}
use Rattle.mt_parser_machine.specs.Refused.{RefusedAt, IsOffending}
use Rattle.mt_parser_machine.proofs.Turns.{run_after}

-- a program begins with each front of its tokens
front_begins : (ts : Tokens) (ss : Stmts) (n : ℕ) → IsProgram ts ss → BeginsProgram (take n ts)
front_begins ts ss n d = (drop n ts, ss, subst (λ (l : Tokens). IsProgram l ss) (sym (take-append-drop n ts)) d)

pub offending : ((front : Tokens) → after front start ≡ None → BeginsProgram front → ⊥) → ((front : Tokens) (c : Configuration) → after front start ≡ Some c → BeginsProgram front)
    → ((ts : Tokens) (ss : Stmts) → IsProgram ts ss → parsed ts ≡ Some (stmts_nodes ss [])) → (ts : Tokens) (i : ℕ) → RefusedAt ts i → IsOffending ts i
offending none some complete ts i (c, e, inl h) =
    let stops : BeginsProgram (take (i + 1) ts) → ⊥ = none (take (i + 1) ts) h.1 in
    (λ ss d. stops (front_begins ts ss (i + 1) d), omega (arith, h.0), some (take i ts) c e, λ _. stops)
offending none some complete ts i (c, e, inr h) =
    let whole : take i ts ≡ ts = take_all i ts (omega (arith, h.0)) in
    let ends : parsed ts ≡ None = run_after ts start ∙ ap (λ l. finish (after l start)) (sym whole) ∙ ap finish e ∙ h.1 in
    (λ ss d. absurd (let full = sym ends ∙ complete ts ss d in cc), omega (arith, h.0), some (take i ts) c e, λ less. absurd (omega (arith, h.0)))
