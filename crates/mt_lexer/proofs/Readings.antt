-- A source has one reading, and it is what the machine gives.
use Rattle.std.proofs.Common.{◌≡◌, ℕ, ◌<◌, ◌≤◌, Bool, List, [], ◌∷◌, ◌++◌, length, Option, None, Result, Ok, Err, refl, sym, ap, ◌∙◌, subst, append-nil, length-append, arith}
use Rattle.std.specs.Prelude.{nat_le, if◌then◌else◌}
use Rattle.std.specs.Str.{chars, IsUtf8, IsValidUpTo}
use Rattle.std.proofs.lemmas.Bool.{le-leb, lt-leb}
use Rattle.std.proofs.lemmas.List.{take_all, get_or_append_left}
use Rattle.std.proofs.lemmas.Str.{encodes-chars, utf8_valid_len-IsValidUpTo}
use Rattle.mt_tree.specs.Place.{place_of}
use Rattle.mt_lexer.specs.declared.reading.Ending.{Ending}
use Rattle.mt_lexer.specs.declared.reading.Ending.TheVariants as ending
use Rattle.mt_lexer.specs.declared.refusal.LexRefusal.{LexRefusal}
use Rattle.mt_lexer.specs.declared.refusal.LexRefusal.TheVariants as refusal
use Rattle.mt_lexer.specs.declared.lexer.Lexer.{Lexer}
use Rattle.mt_tree.specs.declared.kind.Kind.TheVariants as k
use Rattle.mt_lexer.specs.declared.mode.Fault.{Fault}
use Rattle.mt_lexer.specs.declared.mode.Fault.TheVariants as fault
use Rattle.mt_lexer.specs.declared.mode.Mode.TheVariants as m
use Rattle.mt_lexer.specs.declared.mode.Before.TheVariants as before
use Rattle.mt_lexer.specs.declared.part.Part.TheVariants as p
use Rattle.mt_lexer.specs.Character.{characters, characters_from, between}
use Rattle.mt_lexer.specs.Ending.{front, Ends}
use Rattle.mt_lexer.specs.Machine.{lexed}
use Rattle.mt_lexer.specs.Order.{InOrder}
use Rattle.mt_lexer.specs.Spelling.{Outcome, finished, refused}
use Rattle.mt_lexer.specs.Tokens.{Mark, Spelled}
use Rattle.mt_lexer.specs.Verdict.{marks_in, refusal_in, start_of, refusal_of, ended, verdict, Reads, reads_text, no_text, IsReading}
use Rattle.mt_lexer.proofs.Complete.{one_outcome}
use Rattle.mt_lexer.proofs.Ordered.{chained, ordered}
use Rattle.mt_lexer.proofs.Total.{sound}
use Rattle.mt_tree.specs.Limits.{token_limit}

abbrev refused_by : LexRefusal → Result Spelled LexRefusal
refused_by r = Err r

abbrev read_as : Spelled → Result Spelled LexRefusal
read_as s = Ok s

text_not : (source : List ℕ) (n : ℕ) → IsUtf8 source → IsValidUpTo source n → ⊥
text_not source n u v = v.longest (length source) v.short (subst IsUtf8 (sym (take_all (length source) source (omega arith))) u)

-- a source has at most one reading
pub only : (source : List ℕ) (r w : Result Spelled LexRefusal) → Reads source r → Reads source w → w ≡ r
only source r w (reads_text u d) (reads_text v e) = ap (verdict source) (one_outcome source e d)
only source r w (reads_text u d) (no_text {n} v) = absurd (text_not source n u v)
only source r w (no_text {n} v) (reads_text u d) = absurd (text_not source n u v)
only source r w (no_text {n} v) (no_text {n = l} e) =
    let same : l ≡ n = sym (utf8_valid_len-IsValidUpTo source l e) ∙ utf8_valid_len-IsValidUpTo source n v in
    ap (λ (n : ℕ). refused_by (refusal.NotUtf8 (place_of source n))) same

abbrev OneReading : List ℕ → Result Spelled LexRefusal → Type 0
OneReading source r = Reads source r × ((w : Result Spelled LexRefusal) → Reads source w → w ≡ r)

one_reading : (source : List ℕ) (r : Result Spelled LexRefusal) → Reads source r → OneReading source r
one_reading source r d = (d, λ w e. only source r w d e)

marks_in-front : (ms : List Mark) (o : Outcome) → marks_in (front ms o) ≡ ms ++ marks_in o
marks_in-front [] o = refl
marks_in-front (t ∷ ms) o = ap (λ (l : List Mark). t ∷ l) (marks_in-front ms o)

refusal_in-front : (ms : List Mark) (o : Outcome) → refusal_in (front ms o) ≡ refusal_in o
refusal_in-front [] o = refl
refusal_in-front (t ∷ ms) o = refusal_in-front ms o

few_verdict : (source : List ℕ) (ms : List Mark) (o : Outcome) → marks_in o ≡ [] → length ms ≤ token_limit → verdict source (front ms o) ≡ ended source ms (refusal_in o)
few_verdict source ms o none few =
    let same : marks_in (front ms o) ≡ ms = marks_in-front ms o ∙ ap (λ (l : List Mark). ms ++ l) none ∙ append-nil ms in
    let many : Result Spelled LexRefusal = Err (refusal.TooManyTokens (place_of source (start_of token_limit ms))) in
    ap (λ (l : List Mark). if nat_le (length l) token_limit then ended source l (refusal_in (front ms o)) else refused_by (refusal.TooManyTokens (place_of source (start_of token_limit l)))) same
    ∙ ap (λ (b : Bool). if b then ended source ms (refusal_in (front ms o)) else many) (le-leb (length ms) token_limit few)
    ∙ ap (λ (r : Option (Fault × ℕ)). ended source ms r) (refusal_in-front ms o)

many_verdict : (source : List ℕ) (ms : List Mark) (o : Outcome) → token_limit < length ms → verdict source (front ms o) ≡ Err (refusal.TooManyTokens (place_of source (start_of token_limit ms)))
many_verdict source ms o many =
    let all = ms ++ marks_in o in
    let long : token_limit < length all = omega (arith, length-append ms (marks_in o)) in
    ap (λ (l : List Mark). if nat_le (length l) token_limit then ended source l (refusal_in (front ms o)) else refused_by (refusal.TooManyTokens (place_of source (start_of token_limit l)))) (marks_in-front ms o)
    ∙ ap (λ (b : Bool). if b then ended source all (refusal_in (front ms o)) else refused_by (refusal.TooManyTokens (place_of source (start_of token_limit all)))) (lt-leb (length all) token_limit long)
    ∙ ap (λ (t : Mark). refused_by (refusal.TooManyTokens (place_of source t.span.start))) (get_or_append_left ms (marks_in o) (record { kind = k.Name; span = between 0 0 }) token_limit many)

abbrev pub read_whole : List ℕ → Outcome
read_whole source = lexed source (characters source) (m.Code None ∷ []) before.Other p.Fresh

reads_verdict : (source : List ℕ) → IsUtf8 source → Reads source (verdict source (read_whole source))
reads_verdict source u = reads_text u (sound source (m.Code None ∷ []) before.Other (characters source) tt)

reads_as : (source : List ℕ) (o : Outcome) (r : Result Spelled LexRefusal) → IsUtf8 source → o ≡ read_whole source → verdict source o ≡ r → OneReading source r
reads_as source o r u e h = one_reading source r (subst (λ (w : Result Spelled LexRefusal). Reads source w) (ap (verdict source) (sym e) ∙ h) (reads_verdict source u))

pub reads_tokens : (source : List ℕ) (t : Spelled) → t.source ≡ source → IsUtf8 source → Ends ending.Finished t.marks (read_whole source) → IsReading source (Ok t)
reads_tokens source t same u h =
    reads_as source (front t.marks finished) (Ok t) u h.0 (few_verdict source t.marks finished refl h.1 ∙ ap (λ (l : List ℕ). read_as (record { source = l; marks = t.marks })) (sym same))

pub reads_refusal : (source : List ℕ) (f : Fault) (at : ℕ) (ms : List Mark) → IsUtf8 source → Ends (ending.Refused f at) ms (read_whole source) → IsReading source (Err (refusal_of f (place_of source at)))
reads_refusal source f at ms u h = by_fault f (reads_as source (front ms (refused f at)) (Err (refusal_of f (place_of source at))) u h.0 (few_verdict source ms (refused f at) refl h.1))
  where
    by_fault : (f : Fault) → OneReading source (Err (refusal_of f (place_of source at))) → IsReading source (Err (refusal_of f (place_of source at)))
    by_fault fault.BadCharacter d = d
    by_fault fault.BadEscape d = d
    by_fault fault.Unclosed d = d
    by_fault fault.NumberTooLarge d = d

pub reads_many : (source : List ℕ) (ms : List Mark) → IsUtf8 source → Ends ending.TooManyTokens ms (read_whole source) → IsReading source (Err (refusal.TooManyTokens (place_of source (start_of token_limit ms))))
reads_many source ms u h = reads_as source (front ms h.0) (Err (refusal.TooManyTokens (place_of source (start_of token_limit ms)))) u h.1 (many_verdict source ms h.0 h.2)

pub reads_no_text : (source : List ℕ) (n : ℕ) → IsValidUpTo source n → IsReading source (Err (refusal.NotUtf8 (place_of source n)))
reads_no_text source n v = one_reading source (Err (refusal.NotUtf8 (place_of source n))) (no_text v)

-- from the state of the loop's start
pub ends_whole : (source text : List ℕ) (l : Lexer) (e : Ending) (ms : List Mark) → text ≡ source → l ≡ record { tokens = record { source = source; marks = [] }; modes = m.Code None ∷ []; before = before.Other }
    → Ends e ms (front l.tokens.marks (lexed text (characters_from 0 (chars text)) l.modes l.before p.Fresh)) → Ends e ms (read_whole source)
ends_whole source text l e ms same is h =
    let a = subst (λ (l : Lexer). Ends e ms (front l.tokens.marks (lexed text (characters_from 0 (chars text)) l.modes l.before p.Fresh))) is h in
    subst (λ (t : List ℕ). Ends e ms (read_whole t)) same a

pub reads_order : (source : List ℕ) (ms : List Mark) → IsUtf8 source → Ends ending.Finished ms (read_whole source) → InOrder 0 ms (length source)
reads_order source ms u h =
    let same : marks_in (read_whole source) ≡ ms = ap marks_in (sym h.0) ∙ marks_in-front ms finished ∙ append-nil ms in
    let e = ap length (encodes-chars source u) in
    let chain = chained source 0 (chars source) (omega (arith, e)) in
    let o = ordered source (sound source (m.Code None ∷ []) before.Other (characters source) tt) chain.0 in
    subst (λ (ts : List Mark). InOrder 0 ts (length source)) same (subst (λ (n : ℕ). InOrder n (marks_in (read_whole source)) (length source)) chain.1 o)
