-- A literal, piece by piece.
use Rattle.std.proofs.Common.{◌≡◌, ℕ, ◌-◌, ◌<◌, ◌≤◌, List, [], ◌∷◌, ◌++◌, length, Option, Some, None, refl, ap, ◌∙◌}
use Rattle.std.specs.List.{flat_map}
use Rattle.std.specs.Str.{IsUtf8, is_utf8}
use Rattle.std.proofs.lemmas.Bool.{false_from_ne_true}
use Rattle.std.proofs.lemmas.Grind.{flat_map-append}
use Rattle.std.proofs.lemmas.List.{append-nil}
use Rattle.std.proofs.lemmas.Str.{IsUtf8-from_is_utf8}
use Rattle.mt_json.specs.Reading.{◌>>=◌}
use Rattle.mt_json.proofs.Many.{SoFar, ends, stops}
use Rattle.mt_script_words.specs.Literals.{piece_at, piece_bytes, pieces_at, string_at}
use Rattle.mt_script_words.specs.Outcome.{Refuses}
use Rattle.mt_script_words.specs.Words.{text_in}
use Rattle.mt_script_words.specs.declared.literals.Piece.{Piece}
use Rattle.mt_script_words.specs.declared.refusal.CodeRefusal.{CodeRefusal}
use Rattle.mt_script_words.proofs.Many.{fails, refuses_after}

pub one_more : (pieces : List Piece) (found : Piece) (out : List ℕ) → flat_map piece_bytes pieces ≡ out → flat_map piece_bytes (pieces ++ found ∷ []) ≡ out ++ piece_bytes found
one_more pieces found out e =
    flat_map-append piece_bytes pieces (found ∷ []) ∙ ap (λ s. s ++ flat_map piece_bytes (found ∷ [])) e ∙ ap (λ s. out ++ s) (append-nil (piece_bytes found))

module _ (bytes : List ℕ) (pieces : List Piece) (i : ℕ) (rest : List ℕ) (so_far : SoFar piece_at (length bytes - i) pieces rest (pieces_at bytes)) where
  pub string_fails : (e : CodeRefusal) → i < length bytes → Refuses e (piece_at rest) → Refuses e (string_at bytes)
  unfolding string_at
  string_fails e lt h = refuses_after e (pieces_at bytes) _ (fails e piece_at pieces (length bytes) i rest (pieces_at bytes) lt h so_far)

  pub string_stops : (out after : List ℕ) → i < length bytes → piece_at rest ≡ Some (None, after) → flat_map piece_bytes pieces ≡ out → string_at bytes ≡ Some (out, after)
  unfolding string_at
  string_stops out after lt h is =
      ap (λ (o : Option (List Piece × List ℕ)). o >>= λ p. Some (flat_map piece_bytes p.0, p.1)) (stops piece_at pieces (length bytes) i rest after (pieces_at bytes) lt h so_far)
      ∙ ap (λ (s : List ℕ). Some (s, after)) is

  pub string_ends : length bytes ≤ i → string_at bytes ≡ None
  unfolding string_at
  string_ends le = ap (λ (o : Option (List Piece × List ℕ)). o >>= λ p. Some (flat_map piece_bytes p.0, p.1)) (ends piece_at pieces (length bytes) i rest (pieces_at bytes) le so_far)

-- ---- bytes that are no text

pub text_of_none : (bytes : List ℕ) → (IsUtf8 bytes → ⊥) → text_in bytes ≡ None
text_of_none bytes broken = rw (false_from_ne_true (is_utf8 bytes) (λ h. broken (IsUtf8-from_is_utf8 bytes h))) refl
