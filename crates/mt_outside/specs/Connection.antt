-- What a door that tells its connections tells: of each that was accepted, in order, what came in and what went out.
use Rattle.std.specs.Prelude.{◌≡◌, ◌+◌, ◌||◌, ◌++◌, ℕ, Bool, false, List, [], ◌∷◌, Option, ⊤}
use Rattle.std.specs.Option.{option_map}

pub record Connection : Type 0 where
  pub incoming : List ℕ
  pub given : ℕ
  pub ended : Bool
  pub outgoing : List ℕ

abbrev pub fresh : List ℕ → Connection
fresh incoming = record { incoming = incoming; given = 0; ended = false; outgoing = [] }

abbrev pub read_more : ℕ → Bool → Connection → Connection
read_more n ended t = record { incoming = t.incoming; given = t.given + n; ended = t.ended || ended; outgoing = t.outgoing }

abbrev pub written_more : List ℕ → Connection → Connection
written_more bytes t = record { incoming = t.incoming; given = t.given; ended = t.ended; outgoing = t.outgoing ++ bytes }

-- a change of the last one
abbrev pub on_last : (Connection → Connection) → List Connection → List Connection
on_last f [] = []
on_last f (t ∷ []) = f t ∷ []
on_last f (t ∷ u ∷ ts) = t ∷ on_last f (u ∷ ts)

-- a fact about the last one
abbrev pub OfLast : (Connection → Type 0) → List Connection → Type 0
OfLast P [] = ⊤
OfLast P (t ∷ []) = P t
OfLast P (t ∷ u ∷ ts) = OfLast P (u ∷ ts)

-- one more connection, of which nothing was read or written yet
pub record Accepts (old new : Option (List Connection)) : Type 0 where
  pub incoming : List ℕ
  pub grew : new ≡ option_map (λ ts. ts ++ fresh incoming ∷ []) old
