-- The tokens that the lexer gives are no more than it may give.
use Rattle.std.proofs.Common.{◌≡◌, ◌≤◌, ℕ, Bool, true, false, List, Option, Some, None, Result, Ok, Err, cond, length, nat_le, arith, refl, sym, ap, subst, ◌∙◌}
use Rattle.std.proofs.lemmas.Bool.{leb-true}
use Rattle.std.proofs.lemmas.List.{length-map}
use Rattle.mt_lexer.specs.declared.refusal.LexRefusal.{LexRefusal}
use Rattle.mt_lexer.specs.declared.mode.Fault.{Fault}
use Rattle.mt_lexer.specs.Tokens.{Mark, Spelled}
use Rattle.mt_parser_marks.specs.declared.token.Token.{Token as CodeToken}
use Rattle.mt_parser_marks.specs.Views.{tokens_of}
use Rattle.mt_parser_marks.specs.Tokens.{token_in, tokens_in}
use Rattle.mt_parser_machine.proofs.Turns.{length-tokens_of}
use Rattle.mt_lexer.specs.Verdict.{Reads, reads_text, no_text, ended, marks_in, refusal_in}
use Rattle.mt_tree.specs.Limits.{token_limit}

kept : (source : List ℕ) (ms : List Mark) (r : Option (Fault × ℕ)) (e : LexRefusal) (s : Spelled) (t : Bool) → nat_le (length ms) token_limit ≡ t → cond t (ended source ms r) (Err e) ≡ Ok s
    → (length s.marks ≤ token_limit) × (s.source ≡ source)
kept source ms None e s true h g = let same : record { source = source; marks = ms } ≡ s = cc in subst (λ (x : Spelled). (length x.marks ≤ token_limit) × (x.source ≡ source)) same (leb-true (length ms) token_limit h, refl)
kept source ms (Some f) e s true h g = absurd (cc)
kept source ms r e s false h g = absurd (cc)

by_reading : (source : List ℕ) (r : Result Spelled LexRefusal) (s : Spelled) → Reads source r → r ≡ Ok s → (length s.marks ≤ token_limit) × (s.source ≡ source)
by_reading source r s (reads_text {o} u d) h = kept source (marks_in o) (refusal_in o) _ s (nat_le (length (marks_in o)) token_limit) refl h
by_reading source r s (no_text v) h = absurd (cc)

-- A source that was read has no more tokens than it may have, and keeps its bytes.
pub few_tokens : (source : List ℕ) (s : Spelled) → Reads source (Ok s) → length s.marks ≤ token_limit
few_tokens source s d = (by_reading source (Ok s) s d refl).0

pub same_source : (source : List ℕ) (s : Spelled) → Reads source (Ok s) → s.source ≡ source
same_source source s d = (by_reading source (Ok s) s d refl).1

-- the number of tokens of the code is bounded
pub few_list : (ts : List CodeToken) (s : Spelled) → tokens_of ts ≡ tokens_in s → Reads s.source (Ok s) → length ts ≤ 200000
unfolding tokens_in
few_list ts s same d =
    let long : length ts ≡ length s.marks = sym (length-tokens_of ts) ∙ ap length same ∙ length-map s.marks (token_in s.source) in omega (arith, long, few_tokens s.source s d)
