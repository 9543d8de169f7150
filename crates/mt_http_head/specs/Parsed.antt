-- A head as its parser gives it, in spans of the bytes.
use Rattle.std.specs.Prelude.{◌≡◌, ◌≤◌, ℕ, List, [], ◌∷◌, length, map, All}
use Rattle.httparse.specs.Grammar.{RequestHead, ReadsRequest, HasNoRequest, NeverHasRequest}
use Rattle.httparse.specs.Spans.{header_bytes, IsHeaderWithin}
use Rattle.mt_http_head.specs.Points.{Head, head_of, decision}
use Rattle.mt_http_head.specs.declared.fields.Values.{Values}
use Rattle.mt_http_head.specs.declared.fields.Values.TheVariants.{Nothing, One, Several}
use Rattle.mt_http_head.specs.declared.parts.Parts.{Parts}
use Rattle.mt_http_head.specs.declared.decision.HeadStatus.{HeadStatus}
use Rattle.mt_http_head.specs.declared.decision.HeadStatus.TheVariants.{Complete, Partial, Invalid}

-- the spans of the fields lie in the bytes
abbrev pub IsParsed : Parts → Type 0
IsParsed parts = All (IsHeaderWithin (length parts.bytes.now)) parts.spans.now

-- what matters of the head
abbrev pub seen : Parts → Head
seen parts = record {
  method = parts.method.now;
  target = parts.target.now;
  minor = parts.minor;
  fields = map (header_bytes parts.bytes.now) parts.spans.now;
}

-- these are the values, of which more than one aren't kept
abbrev pub AreValues : Values → List (List ℕ) → Type 0
AreValues Nothing values = values ≡ []
AreValues (One value) values = values ≡ value.now ∷ []
AreValues Several values = 2 ≤ length values

-- the bytes begin with a whole head that decides so; or no head is whole among them; or none will be, whatever follows
abbrev pub IsDecided : List (List ℕ) → List ℕ → HeadStatus → Type 0
IsDecided services bytes (Complete made) = (head : RequestHead) × (rest : List ℕ) × ReadsRequest bytes head rest × (made ≡ decision services (head_of head))
IsDecided services bytes Partial = HasNoRequest bytes
IsDecided services bytes Invalid = NeverHasRequest bytes
