-- What the target of a request asks for. Escapes are read leniently: any byte may be escaped, the digits may have either
-- case, and a `%` that two hexadecimal digits don't follow stands for itself.
use Rattle.std.specs.Prelude.{◌==◌, ℕ, Bool, false, List, [], ◌∷◌, length, take, drop, codes, Option, Some, None, option_map, option_and_then, if◌then◌else◌, encode_utf8_all}
use Rattle.std.specs.List.{find}
use Rattle.std.specs.Borrow.{Bor}
use Rattle.std.specs.Str.{bytes_eq}
use Rattle.percent_encoding.specs.Percent.{percent_decode}

-- the path, which ends before the first question mark
abbrev pub path_of : List ℕ → List ℕ
path_of [] = []
path_of (b ∷ bs) = if b == 63 then [] else b ∷ path_of bs

-- the query, which stands behind the first question mark
abbrev pub query_of : List ℕ → Option (List ℕ)
query_of [] = None
query_of (b ∷ bs) = if b == 63 then Some bs else query_of bs

abbrev pub begins_with_slash : List ℕ → Bool
begins_with_slash [] = false
begins_with_slash (b ∷ bs) = b == 47

-- what stands behind the front, where the bytes begin with it
abbrev pub behind : List ℕ → List ℕ → Option (List ℕ)
behind front bytes = if bytes_eq (take (length front) bytes) front then Some (drop (length front) bytes) else None

abbrev pub has_name : List ℕ → List ℕ → Bool
has_name name service = bytes_eq (encode_utf8_all service) name

-- the service of this escaped name
abbrev pub service_named : List (List ℕ) → List ℕ → Option (List ℕ)
service_named services escaped = find (has_name (percent_decode escaped)) services

-- the service of this path, which is `/hop/` and its escaped name
abbrev pub service_at : List (List ℕ) → List ℕ → Option (List ℕ)
service_at services path = option_and_then (service_named services) (behind (codes "/hop/") path)

-- the text of the arguments that the query gives: behind `a=`, escaped; without a query, and with an empty one, that of none
abbrev pub arguments_in : Option (List ℕ) → Option (List ℕ)
arguments_in None = Some (codes "[]")
arguments_in (Some []) = Some (codes "[]")
arguments_in (Some (b ∷ bs)) = option_map percent_decode (behind (codes "a=") (b ∷ bs))

-- the bytes that are lent, where some are
abbrev pub lent : Option (Bor (List ℕ)) → Option (List ℕ)
lent None = None
lent (Some bytes) = Some bytes.now
