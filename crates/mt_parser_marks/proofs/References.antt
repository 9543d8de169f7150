-- What a text begins with.
use Rattle.std.proofs.Common.{◌≡◌, ◌≢◌, ℕ, zero, suc, Bool, true, false, ◌&&◌, eqb, ltb, List, [], ◌∷◌, ◌++◌, Some, None, refl, sym, ap, ◌∙◌, arith}
use Rattle.std.specs.Prelude.{if◌then◌else◌}
use Rattle.std.specs.Str.{chars, IsAscii, IsUtf8}
use Rattle.std.specs.Str.Pattern.{FindsTextPrefix, StripsPrefix}
use Rattle.std.proofs.lemmas.Bool.{eq-eqb, eqb-true, ltb-true, and_parts}
use Rattle.std.proofs.lemmas.Str.{encodes-chars, encodes-append, encodes-IsAscii, chars-append, chars-IsAscii, IsUtf8-from_ascii}
use lib.Utf8.{encodes}
use Rattle.mt_parser_marks.specs.Values.{behind}

-- the bytes are ASCII
abbrev pub all_ascii : List ℕ → Bool
all_ascii [] = true
all_ascii (c ∷ cs) = ltb c 128 && all_ascii cs

ascii : (cs : List ℕ) → all_ascii cs ≡ true → IsAscii cs
ascii [] h i = omega arith
ascii (c ∷ cs) h zero = ltb-true c 128 (and_parts (ltb c 128) (all_ascii cs) h).0
ascii (c ∷ cs) h (suc i) = ascii cs (and_parts (ltb c 128) (all_ascii cs) h).1 i

behind_front : (front rest : List ℕ) → behind front (front ++ rest) ≡ Some rest
behind_front [] rest = refl
behind_front (x ∷ xs) rest = ap (λ (t : Bool). if t then behind xs (xs ++ rest) else None) (eq-eqb x x refl) ∙ behind_front xs rest

behind_none : (front cs : List ℕ) → ((rest : List ℕ) → cs ≢ front ++ rest) → behind front cs ≡ None
behind_none [] cs h = absurd (h cs refl)
behind_none (x ∷ xs) [] h = refl
behind_none (x ∷ xs) (c ∷ cs) h = chosen (eqb x c) refl (λ same. behind_none xs cs (λ rest e. h rest (ap (λ (d : ℕ). d ∷ cs) (sym same) ∙ ap (λ (l : List ℕ). x ∷ l) e)))
  where
    chosen : (t : Bool) → eqb x c ≡ t → (x ≡ c → behind xs cs ≡ None) → (if t then behind xs cs else None) ≡ None
    chosen true e later = later (eqb-true x c e)
    chosen false e later = refl

-- the text begins with the front
pub strips : (front text rest : List ℕ) → all_ascii front ≡ true → StripsPrefix (FindsTextPrefix front) text rest → behind front (chars text) ≡ Some (chars rest)
strips front text rest a h =
    let small = ascii front a in
    let is : text ≡ front ++ rest = h.1.1 ∙ ap (λ (bs : List ℕ). front ++ bs) (sym h.2) in
    ap (λ (bs : List ℕ). behind front (chars bs)) is ∙ ap (behind front) (chars-append front rest (IsUtf8-from_ascii front small) ∙ ap (λ (cs : List ℕ). cs ++ chars rest) (chars-IsAscii front small))
    ∙ behind_front front (chars rest)

-- or it doesn't
pub lacks : (front text : List ℕ) → all_ascii front ≡ true → IsUtf8 text → FindsTextPrefix front text None → behind front (chars text) ≡ None
lacks front text a u h =
    behind_none front (chars text)
    (λ cs e. h (encodes cs) (sym (encodes-chars text u) ∙ ap encodes e ∙ encodes-append front cs ∙ ap (λ (bs : List ℕ). bs ++ encodes cs) (encodes-IsAscii front (ascii front a))))
