-- What a stream of a reply's bytes keeps, and of which bytes it stands.
use Rattle.std.specs.Prelude.{◌≡◌, ◌≤◌, ◌+◌, ◌<◌, ℕ, List, [], ◌++◌, length, take, drop}
use Rattle.mt_http_types.specs.declared.reply.ReplyHead.{ReplyHead}
use Rattle.mt_http_reply.specs.declared.progress.Progress.{Progress}
use Rattle.mt_http_reply.specs.declared.progress.Progress.TheVariants.{Head, Body, Past, Lost}
use Rattle.mt_http_reply.specs.declared.progress.Taken.{Taken}
use Rattle.mt_http_reply.specs.Reading.{ReadsHead, HasNoHead, HasBody}

-- the head is there, and so much of the body is missing yet
abbrev pub IsMissing : ReplyHead → ℕ → List ℕ → Type 0
IsMissing head missing fed = (body : List ℕ) × ReadsHead fed head body × (length body + missing ≡ head.length)

-- the head is there, and more than its body
abbrev pub IsPast : ReplyHead → List ℕ → Type 0
IsPast head fed = (rest : List ℕ) × ReadsHead fed head rest × (head.length < length rest)

-- no head is there, and none comes
abbrev pub IsLost : List ℕ → Type 0
IsLost fed = (more : List ℕ) → HasNoHead (fed ++ more)

-- a stream that stands here was fed these bytes in all
abbrev pub IsFed : Progress → List ℕ → Type 0
IsFed (Head bytes) fed = (bytes ≡ fed) × HasNoHead fed
IsFed (Body head missing) fed = IsMissing head missing fed
IsFed (Past head) fed = IsPast head fed
IsFed Lost fed = IsLost fed

-- the head is over, or nothing is left
abbrev pub IsBehind : Progress → List ℕ → Type 0
IsBehind (Head bytes) rest = rest ≡ []
IsBehind (Body head missing) rest = Unit {0}
IsBehind (Past head) rest = Unit {0}
IsBehind Lost rest = Unit {0}

-- the head ended with the last of these bytes, or none comes
pub record EndsHead (bytes : List ℕ) (progress : Progress) : Type 0 where
  pub fed : IsFed progress bytes
  pub body : HasBody bytes []

-- so many bytes of the piece were of the head
pub record PassesHead (old : Progress) (piece : List ℕ) (taken : Taken) : Type 0 where
  pub count : taken.count ≤ length piece
  pub fed : (fed : List ℕ) → IsFed old fed → IsFed taken.progress (fed ++ take taken.count piece)
  pub body : (fed body : List ℕ) → IsFed old fed → HasBody fed body → HasBody (fed ++ take taken.count piece) body
  pub behind : IsBehind taken.progress (drop taken.count piece)

-- so many of that many bytes were of the body
pub record TakesBody (old : Progress) (size : ℕ) (taken : Taken) : Type 0 where
  pub count : taken.count ≤ size
  pub fed : (fed rest : List ℕ) → length rest ≡ size → IsBehind old rest → IsFed old fed → IsFed taken.progress (fed ++ rest)
  pub body : (fed body rest : List ℕ) → length rest ≡ size → IsBehind old rest → IsFed old fed → HasBody fed body
      → HasBody (fed ++ rest) (body ++ take taken.count rest)
