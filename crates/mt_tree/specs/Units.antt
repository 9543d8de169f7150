-- Texts as lists of characters, whose places and lengths count units of UTF-16: the part between two places, and the
-- first place of one text in another.
use Rattle.std.specs.Prelude.{◌≡◌, ◌↔◌, ℕ, ◌+◌, ◌-◌, ◌≤◌, ◌==◌, ◌&&◌, nat_lt, if◌then◌else◌, Bool, true, false, List, [], ◌∷◌, ◌++◌, Option, None, Some}
use Rattle.std.specs.Option.{option_map, option_and_then}
use Rattle.mt_tree.specs.Text.{units_in, units_of}

-- the characters behind the first n units; none where n is past the end, or lies inside a surrogate pair
abbrev pub behind : List ℕ → ℕ → Option (List ℕ)
behind [] n = if n == 0 then Some [] else None
behind (c ∷ cs) n = if n == 0 then Some (c ∷ cs) else if nat_lt n (units_in c) then None else behind cs (n - units_in c)

-- the characters of the first n units, in the same cases
abbrev pub before : List ℕ → ℕ → Option (List ℕ)
before [] n = if n == 0 then Some [] else None
before (c ∷ cs) n = if n == 0 then Some [] else if nat_lt n (units_in c) then None else option_map (λ front. c ∷ front) (before cs (n - units_in c))

-- the characters from one place to another
unfoldable pub cut : List ℕ → ℕ → ℕ → Option (List ℕ)
cut text from to = if nat_lt to from then None else option_and_then (λ rest. before rest (to - from)) (behind text from)

abbrev pub begins_with : List ℕ → List ℕ → Bool
begins_with [] text = true
begins_with (c ∷ cs) [] = false
begins_with (c ∷ cs) (d ∷ ds) = (c == d) && begins_with cs ds

-- the first place at which the sought text stands
abbrev pub find : List ℕ → List ℕ → Option ℕ
find sought [] = if begins_with sought [] then Some 0 else None
find sought (c ∷ cs) = if begins_with sought (c ∷ cs) then Some 0 else option_map (λ n. units_in c + n) (find sought cs)

-- ---- what these functions are, without a recursion

-- the part stands in the text from one place to another
abbrev pub StandsBetween : List ℕ → ℕ → ℕ → List ℕ → Type 0
StandsBetween text from to part =
    (front : List ℕ) × (back : List ℕ) × (text ≡ front ++ (part ++ back)) × (units_of front ≡ from) × (units_of front + units_of part ≡ to)

-- `cut` gives the part that stands there, wherever there is one
abbrev pub CutIsBetween : Type 0
CutIsBetween = (text : List ℕ) (from to : ℕ) (part : List ℕ) → (cut text from to ≡ Some part) ↔ StandsBetween text from to part

-- the sought text stands in the text at a place
abbrev pub StandsAt : List ℕ → List ℕ → ℕ → Type 0
StandsAt sought text n = (front : List ℕ) × (back : List ℕ) × (text ≡ front ++ (sought ++ back)) × (units_of front ≡ n)

-- `find` gives the first place at which it stands, wherever there is one
abbrev pub FindIsFirst : Type 0
FindIsFirst = (sought text : List ℕ) (n : ℕ) → (find sought text ≡ Some n) ↔ (StandsAt sought text n × ((m : ℕ) → StandsAt sought text m → n ≤ m))
