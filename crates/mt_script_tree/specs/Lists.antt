-- Lists, item by item up to the byte that closes them.
use Rattle.std.specs.Prelude.{ℕ, ◌==◌, if◌then◌else◌, List, ◌∷◌, length, Option, Some, None}
use Rattle.mt_json.specs.Reading.{◌>>=◌, Parse, first_at, many, past_comma}

-- an item that begins with b, or None at the byte that closes the list; a comma before an item is passed over
abbrev pub item_from : {A : Type 0} → ℕ → Parse A → ℕ → Parse (Option A)
item_from close item b bytes =
    if b == close then Some (None, bytes) else
    (item (past_comma (b ∷ bytes)) >>= λ x. Some (Some x.0, x.1))

abbrev pub item_step : {A : Type 0} → ℕ → Parse A → Parse (Option A)
item_step close item bytes = first_at bytes >>= λ p. item_from close item p.0 p.1

-- the items, and what follows the byte that closes them
abbrev pub list_by : {A : Type 0} → ℕ → Parse A → Parse (List A)
list_by close item bytes = many (item_step close item) (length bytes) bytes
