-- The machine token by token.
use Rattle.std.proofs.Common.{◌≡◌, ℕ, ◌+◌, ◌<◌, ◌≤◌, List, [], ◌∷◌, ◌++◌, Option, None, inl, inr, length, get_or, take, add-one, arith, refl, sym, ap, subst, ◌∙◌}
use Rattle.std.proofs.Math.Seq.{take-suc}
use Rattle.std.proofs.lemmas.List.{length-map, length-take, take_all}
use Rattle.std.proofs.Math.ListN.{get_or-map}
use Rattle.mt_parser_marks.specs.declared.token.Token.{Token as CodeToken}
use Rattle.mt_parser_marks.specs.Views.{token_of, tokens_of}
use Rattle.mt_grammar.specs.Token.{Tokens}
use Rattle.mt_grammar.specs.Nodes.{Nodes}
use Rattle.mt_grammar.specs.Stack.{Level, Focus}
use Rattle.mt_grammar.specs.Machine.{Next, after, at, end_by, feed, feed_by, finish, parsed, run, start}
use Rattle.mt_parser_machine.specs.Counts.{counted}
use Rattle.mt_parser_machine.specs.Refused.{RefusedAt}
use Rattle.mt_parser_machine.proofs.Growth.{AtMost, after_few}

pub run_after : (ts : Tokens) (s : Next) → run ts s ≡ finish (after ts s)
run_after [] s = refl
run_after (t ∷ ts) s = run_after ts (feed t s)

after-append : (front more : Tokens) (s : Next) → after (front ++ more) s ≡ after more (after front s)
after-append [] more s = refl
after-append (t ∷ front) more s = after-append front more (feed t s)

pub length-tokens_of : (ts : List CodeToken) → length (tokens_of ts) ≡ length ts
unfolding tokens_of
length-tokens_of ts = length-map ts token_of

token_at : (ts : List CodeToken) (i : ℕ) (d : CodeToken) → get_or (tokens_of ts) i (token_of d) ≡ token_of (get_or ts i d)
unfolding tokens_of
token_at ts i d = get_or-map token_of ts i d

-- behind one token more
pub one_token : (ts : List CodeToken) (i : ℕ) (d : CodeToken) (s : Next) → i < length ts → after (take i (tokens_of ts)) start ≡ s → after (take (i + 1) (tokens_of ts)) start ≡ feed (token_of (get_or ts i d)) s
one_token ts i d s h e =
    let inside : i < length (tokens_of ts) = rw (length-tokens_of ts) h in
    ap (λ j. after (take j (tokens_of ts)) start) (add-one i) ∙ ap (λ l. after l start) (take-suc (tokens_of ts) i (token_of d) inside)
    ∙ after-append (take i (tokens_of ts)) (get_or (tokens_of ts) i (token_of d) ∷ []) start ∙ ap (feed (get_or (tokens_of ts) i (token_of d))) e
    ∙ ap (λ t. feed t s) (token_at ts i d)

-- so few parts are counted behind that many tokens
pub few_counted : (ts : Tokens) (i : ℕ) (x : Focus) (fs : List Level) (out : Nodes) → after (take i ts) start ≡ at x fs out → counted fs ≤ i + i
few_counted ts i x fs out e =
    let all = length (take i ts) + length (take i ts) in
    let most : AtMost (0 + all) (at x fs out) = subst (AtMost (0 + all)) e (after_few (take i ts) 0 start (omega arith)) in
    omega (arith, length-take i ts)

module _ (ts : List CodeToken) (i : ℕ) (x : Focus) (fs : List Level) (out : Nodes) where
  pub goes_on : (d : CodeToken) (s : Next) → i < length ts → after (take i (tokens_of ts)) start ≡ at x fs out → feed_by (token_of (get_or ts i d)) x fs out ≡ s → after (take (i + 1) (tokens_of ts)) start ≡ s
  goes_on d s h e fed = one_token ts i d (at x fs out) h e ∙ fed

  pub refused_here : (d : CodeToken) → i < length ts → after (take i (tokens_of ts)) start ≡ at x fs out → feed_by (token_of (get_or ts i d)) x fs out ≡ None → RefusedAt (tokens_of ts) i
  refused_here d h e none = (record { focus = x; levels = fs; nodes = out }, e, inl (rw (length-tokens_of ts) h, goes_on d None h e none))

  pub ended : (r : Option Nodes) → length ts ≤ i → after (take i (tokens_of ts)) start ≡ at x fs out → end_by x fs out ≡ r → parsed (tokens_of ts) ≡ r
  ended r h e last =
      let whole : take i (tokens_of ts) ≡ tokens_of ts = take_all i (tokens_of ts) (rw (length-tokens_of ts) h) in
      run_after (tokens_of ts) start ∙ ap (λ l. finish (after l start)) (sym whole) ∙ ap finish e ∙ last

  pub refused_end : length ts ≤ i → after (take i (tokens_of ts)) start ≡ at x fs out → end_by x fs out ≡ None → RefusedAt (tokens_of ts) (length ts)
  refused_end h e none =
      let whole : take i (tokens_of ts) ≡ tokens_of ts = take_all i (tokens_of ts) (rw (length-tokens_of ts) h) in
      let exact : take (length ts) (tokens_of ts) ≡ tokens_of ts = take_all (length ts) (tokens_of ts) (omega (arith, length-tokens_of ts)) in
      (record { focus = x; levels = fs; nodes = out }, ap (λ l. after l start) (exact ∙ sym whole) ∙ e, inr (sym (length-tokens_of ts), none))
