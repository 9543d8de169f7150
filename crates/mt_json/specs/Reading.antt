-- Reading by parts: what reads a part gives what it found and the bytes after it.
use Rattle.std.specs.Prelude.{ℕ, zero, suc, ◌-◌, ◌%◌, ◌==◌, nat_lt, if◌then◌else◌, List, [], ◌∷◌, Option, Some, None, option_and_then}

infixl 10 ◌>>=◌
abbrev pub ◌>>=◌ : {A B : Type 0} → Option A → (A → Option B) → Option B
o >>= f = option_and_then f o

-- a value and the bytes after it
abbrev pub Parse : Type 0 → Type 0
Parse A = List ℕ → Option (A × List ℕ)

-- ---- one after another, until the end is seen

abbrev pub goes_on : {A : Type 0} → Parse (List A) → Option A → Parse (List A)
goes_on more None rest = Some ([], rest)
goes_on more (Some a) rest = more rest >>= λ q. Some (a ∷ q.0, q.1)

-- The number bounds the turns.
unfoldable pub many : {A : Type 0} → Parse (Option A) → ℕ → Parse (List A)
many step zero bytes = None
many step (suc n) bytes = step bytes >>= λ p. goes_on (many step n) p.0 p.1

-- ---- bytes

abbrev pub first_at : Parse ℕ
first_at [] = None
first_at (b ∷ bytes) = Some (b, bytes)

abbrev pub past_comma : List ℕ → List ℕ
past_comma [] = []
past_comma (b ∷ bytes) = if b == 44 then bytes else b ∷ bytes

-- the value of a hexadecimal digit in lower case
abbrev pub hex_value : ℕ → ℕ
hex_value b = if nat_lt b 58 then (b - 48) % 16 else (b - 87) % 16
