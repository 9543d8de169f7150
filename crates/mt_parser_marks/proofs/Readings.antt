-- The tokens of a reading are readable.
use Rattle.std.proofs.Common.{◌≡◌, ℕ, zero, suc, ◌<◌, Bool, true, false, List, [], ◌∷◌, length, get_or, map, Option, Some, None, Result, Ok, Err, refl, sym, ap, subst, arith}
use Rattle.std.specs.Prelude.{nat_le, if◌then◌else◌}
use Rattle.std.specs.List.{All}
use Rattle.std.specs.Str.{chars, IsUtf8}
use Rattle.std.proofs.lemmas.Str.{encodes-chars, IsUtf8-between}
use Rattle.mt_tree.specs.Place.{place_of}
use Rattle.mt_lexer.specs.declared.mode.Fault.{Fault}
use Rattle.mt_lexer.specs.declared.refusal.LexRefusal.{LexRefusal}
use Rattle.mt_lexer.specs.declared.refusal.LexRefusal.TheVariants as refusal
use Rattle.mt_lexer.specs.Order.{InOrder}
use Rattle.mt_lexer.specs.Tokens.{Mark, Spelled}
use Rattle.mt_lexer.specs.Verdict.{marks_in, refusal_in, start_of, ended, Reads, reads_text, no_text}
use Rattle.mt_lexer.proofs.Ordered.{chained, ordered}
use Rattle.mt_grammar.specs.Token.{Token}
use Rattle.mt_parser_marks.specs.Readable.{IsReadable}
use Rattle.mt_parser_marks.specs.Tokens.{token_in, tokens_in}
use Rattle.mt_parser_marks.proofs.Readable.{Cut, cut, bounded}
use Rattle.mt_tree.specs.Limits.{token_limit}

each : (source : List ℕ) (ts : List Mark) (low : ℕ) → IsUtf8 source → InOrder low ts (length source) → Cut source ts → All IsReadable (map (token_in source) ts)
each source [] low u order h = λ i d l. absurd (omega arith)
each source (t ∷ ts) low u order h = at (each source ts t.span.end u order.2 h.3)
  where
    at : All IsReadable (map (token_in source) ts) → (i : ℕ) (d : Token) → i < length (map (token_in source) (t ∷ ts)) → IsReadable (get_or (map (token_in source) (t ∷ ts)) i d)
    at later zero d l = (IsUtf8-between source t.span.start t.span.end u order.1 h.0 h.1, h.2)
    at later (suc i) d l = later i d (omega arith)

abbrev answer : Spelled → Result Spelled LexRefusal
answer s = Ok s

abbrev refused_by : LexRefusal → Result Spelled LexRefusal
refused_by r = Err r

accepted : (source : List ℕ) (t : Bool) (r : Option (Fault × ℕ)) (ms : List Mark) (e : LexRefusal) (s : Spelled) → (if t then ended source ms r else refused_by e) ≡ answer s → record { source = source; marks = ms } ≡ s
accepted source true None ms e s h = cc
accepted source true (Some f) ms e s h = absurd (cc)
accepted source false r ms e s h = absurd (cc)

by_reading : (source : List ℕ) (r : Result Spelled LexRefusal) (s : Spelled) → Reads source r → r ≡ answer s → All IsReadable (tokens_in s)
unfolding tokens_in
by_reading source r s (reads_text {o} u d) h =
    let same = accepted source (nat_le (length (marks_in o)) token_limit) (refusal_in o) (marks_in o) (refusal.TooManyTokens (place_of source (start_of token_limit (marks_in o)))) s h in
    let e = encodes-chars source u in
    let n = ap length e in
    let chain = chained source 0 (chars source) (omega arith) in
    let cuts = cut source d (bounded source 0 (chars source) (omega arith) u (sym e)) in
    subst (λ (s : Spelled). All IsReadable (map (token_in s.source) s.marks)) same (each source (marks_in o) _ u (ordered source d chain.0) cuts)
by_reading source r s (no_text v) h = absurd (cc)

-- each token of a source that was read
pub readable : (source : List ℕ) (s : Spelled) → Reads source (Ok s) → All IsReadable (tokens_in s)
readable source s d = by_reading source (Ok s) s d refl
