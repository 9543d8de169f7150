-- Characters that are read off a text one by one.
use Rattle.std.proofs.Common.{◌≡◌, ℕ, zero, suc, ◌+◌, ◌≤◌, List, [], ◌∷◌, ◌++◌, length, Option, Some, None, Bor, refl, sym, ap, ◌∙◌, append_assoc, append-nil, length-append, arith}
use Rattle.std.specs.Prelude.{option_map, unwrap_or}
use Rattle.std.specs.Str.{chars}
use lib.Utf8.{encode, encodes}
use Rattle.mt_tree.specs.Text.{units_in, units_of}
use Rattle.mt_lexer.specs.Character.{Chars}
use Rattle.mt_parser_marks.specs.Values.{values, spelled_within, spelled}
use Rattle.mt_parser_marks.specs.Reading.{as_read}
use Rattle.mt_parser_marks.proofs.Suffixes.{values-unplaced}

-- what follows what was read, where it was read, and otherwise all
pub rest_read : (r : Option (ℕ × Bor (List ℕ))) (d : ℕ × Bor (List ℕ)) (c : ℕ)
    → chars (unwrap_or {T = ℕ × Bor (List ℕ)} r d).1.now ≡ (unwrap_or {T = ℕ × List ℕ} (option_map (λ (p : ℕ × Chars). (p.0, values p.1)) (as_read r)) (c, chars d.1.now)).1
rest_read None d c = refl
rest_read (Some p) d c = sym (values-unplaced (chars p.1.now))

module _ (next : ℕ → List ℕ → ℕ × List ℕ) where
  -- what is read off leaves no more than there was
  abbrev pub Shrinks : Type 0
  Shrinks = (c : ℕ) (cs : List ℕ) → length (next c cs).1 ≤ length cs

  -- nor more bytes, with the units of the character that was read
  abbrev pub Weighs : Type 0
  Weighs = (c : ℕ) (cs : List ℕ) → units_in (next c cs).0 + length (encodes (next c cs).1) ≤ length (encode c) + length (encodes cs)

  -- where there are as many turns as characters, more change nothing
  enough : Shrinks → (n m : ℕ) (cs : List ℕ) → length cs ≤ n → length cs ≤ m → spelled_within n next cs ≡ spelled_within m next cs
  enough s zero zero cs h g = refl
  enough s zero (suc m) [] h g = refl
  enough s zero (suc m) (c ∷ cs) h g = absurd (omega arith)
  enough s (suc n) zero [] h g = refl
  enough s (suc n) zero (c ∷ cs) h g = absurd (omega arith)
  enough s (suc n) (suc m) [] h g = refl
  enough s (suc n) (suc m) (c ∷ cs) h g = let k = s c cs in ap (λ (l : List ℕ). (next c cs).0 ∷ l) (enough s n m (next c cs).1 (omega arith) (omega arith))

  -- a character is read
  pub spelled-turn : Shrinks → (c x : ℕ) (cs rest after done more : List ℕ) → rest ≡ c ∷ cs → x ≡ (next c cs).0 → after ≡ (next c cs).1 → more ≡ done ++ x ∷ []
      → more ++ spelled next after ≡ done ++ spelled next rest
  spelled-turn s c x cs rest after done more r p q h =
      let tail : x ∷ spelled next after ≡ (next c cs).0 ∷ spelled next (next c cs).1 = cc in
      let k = s c cs in
      let first : spelled next (c ∷ cs) ≡ (next c cs).0 ∷ spelled next (next c cs).1 =
      ap (λ (l : List ℕ). (next c cs).0 ∷ l) (enough s (length cs) (length (next c cs).1) (next c cs).1 (omega arith) (omega arith)) in
      ap (λ (l : List ℕ). l ++ spelled next after) h ∙ append_assoc done (x ∷ []) (spelled next after) ∙ ap (λ (l : List ℕ). done ++ l) (tail ∙ sym first ∙ ap (spelled next) (sym r))

  -- nothing is left to read
  pub spelled-end : (rest done : List ℕ) → rest ≡ [] → done ++ spelled next rest ≡ done
  spelled-end rest done r = ap (λ (l : List ℕ). done ++ spelled next l) r ∙ append-nil done

  units-within : Weighs → (n : ℕ) (cs : List ℕ) → units_of (spelled_within n next cs) ≤ length (encodes cs)
  units-within w zero cs = omega arith
  units-within w (suc n) [] = omega arith
  units-within w (suc n) (c ∷ cs) = omega (arith, w c cs, units-within w n (next c cs).1, length-append (encode c) (encodes cs))

  pub units-spelled : Weighs → (cs : List ℕ) → units_of (spelled next cs) ≤ length (encodes cs)
  units-spelled w cs = units-within w (length cs) cs
