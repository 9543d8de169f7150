-- What the lexer answers for each source.
use Rattle.std.specs.Prelude.{◌≡◌, ℕ, nat_le, List, [], ◌∷◌, length, slice_index_or, Option, Some, None, Result, Ok, Err, if◌then◌else◌}
use Rattle.std.specs.Str.{IsUtf8, IsValidUpTo}
use Rattle.mt_tree.specs.declared.place.Place.{Place}
use Rattle.mt_tree.specs.Place.{place_of}
use Rattle.mt_tree.specs.declared.kind.Kind.TheVariants as k
use Rattle.mt_lexer.specs.declared.mode.Fault.{Fault}
use Rattle.mt_lexer.specs.declared.mode.Fault.TheVariants as fault
use Rattle.mt_lexer.specs.declared.mode.Mode.TheVariants as m
use Rattle.mt_lexer.specs.declared.mode.Before.TheVariants as before
use Rattle.mt_lexer.specs.declared.refusal.LexRefusal.{LexRefusal}
use Rattle.mt_lexer.specs.declared.refusal.LexRefusal.TheVariants as refusal
use Rattle.mt_lexer.specs.Character.{between, characters}
use Rattle.mt_lexer.specs.Spelling.{Outcome, finished, token, refused, Lexes}
use Rattle.mt_lexer.specs.Tokens.{Mark, Spelled}
use Rattle.mt_tree.specs.Limits.{token_limit}

abbrev pub marks_in : Outcome → List Mark
marks_in finished = []
marks_in (token kind span o) = record { kind = kind; span = span } ∷ marks_in o
marks_in (refused f at) = []

-- the refusal behind the tokens, with its byte
abbrev pub refusal_in : Outcome → Option (Fault × ℕ)
refusal_in finished = None
refusal_in (token kind span o) = refusal_in o
refusal_in (refused f at) = Some (f, at)

-- the byte at which the token of this number begins, counted from 0
abbrev pub start_of : ℕ → List Mark → ℕ
start_of n marks = (slice_index_or marks n (record { kind = k.Name; span = between 0 0 })).span.start

abbrev pub refusal_of : Fault → Place → LexRefusal
refusal_of fault.BadCharacter place = refusal.BadCharacter place
refusal_of fault.BadEscape place = refusal.BadEscape place
refusal_of fault.Unclosed place = refusal.Unclosed place
refusal_of fault.NumberTooLarge place = refusal.NumberTooLarge place

abbrev pub ended : List ℕ → List Mark → Option (Fault × ℕ) → Result Spelled LexRefusal
ended source marks None = Ok (record { source = source; marks = marks })
ended source marks (Some r) = Err (refusal_of r.0 (place_of source r.1))

-- the first refusal that is met: one token too many is met at that token
abbrev pub verdict : List ℕ → Outcome → Result Spelled LexRefusal
verdict source o =
    if nat_le (length (marks_in o)) token_limit then ended source (marks_in o) (refusal_in o)
    else Err (refusal.TooManyTokens (place_of source (start_of token_limit (marks_in o))))

-- how a source reads: bytes that are no text are refused behind their longest front that is one
pub data Reads (source : List ℕ) : Result Spelled LexRefusal → Type 0 where
  reads_text : {o : Outcome} → IsUtf8 source → Lexes source (m.Code None ∷ []) before.Other (characters source) o → Reads source (verdict source o)
  no_text : {n : ℕ} → IsValidUpTo source n → Reads source (Err (refusal.NotUtf8 (place_of source n)))

-- the answer is the one reading of the source, but for want of memory
abbrev pub IsReading : List ℕ → Result Spelled LexRefusal → Type 0
IsReading source (Err refusal.NoMemory) = Unit {0}
IsReading source r = Reads source r × ((w : Result Spelled LexRefusal) → Reads source w → w ≡ r)
