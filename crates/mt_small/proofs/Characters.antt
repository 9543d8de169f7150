-- A text whose bytes are all ASCII has a character for each byte.
use Rattle.std.proofs.Common.{◌≡◌, ◌≤◌, ◌<◌, ◌+◌, ◌/◌, ℕ, Bool, true, false, cond, List, [], ◌∷◌, ◌++◌, ltb, refl, ap, arith, encode_utf8_all, inl, inr}
use Rattle.std.proofs.lemmas.Bool.{and_parts, cases_lt, le-ltb}
use Rattle.std.proofs.lemmas.Str.Ascii.{encode_ascii}
use Rattle.std.specs.List.{list_all}
use lib.Utf8.{encode}

-- a list whose first byte is no ASCII
record IsHigh (bytes : List ℕ) : Type 0 where
  first : ℕ
  rest : List ℕ
  is : bytes ≡ first ∷ rest
  high : 128 ≤ first

one_of : (x y : Bool) (a b c : ℕ) (us vs ws : List ℕ) → 128 ≤ a → 128 ≤ b → 128 ≤ c → IsHigh (cond x (a ∷ us) (cond y (b ∷ vs) (c ∷ ws)))
one_of true y a b c us vs ws ha hb hc = record { first = a; rest = us; is = refl; high = ha }
one_of false true a b c us vs ws ha hb hc = record { first = b; rest = vs; is = refl; high = hb }
one_of false false a b c us vs ws ha hb hc = record { first = c; rest = ws; is = refl; high = hc }

high : (c : ℕ) → 128 ≤ c → IsHigh (encode c)
unfolding encode
high c above = rw (le-ltb c 128 above) (one_of (ltb c 2048) (ltb c 65536) (192 + c / 64) (224 + c / 4096) (240 + c / 262144) _ _ _ (omega arith) (omega arith) (omega arith))

pub characters_are_bytes : (p : ℕ → Bool) → ((b : ℕ) → p b ≡ true → b < 128) → (text : List ℕ) → list_all p (encode_utf8_all text) ≡ true → encode_utf8_all text ≡ text
characters_are_bytes p below [] all = refl
characters_are_bytes p below (c ∷ cs) all = elim (cases_lt c 128) [
  | inl small ↦
      let parts = and_parts (p c) (list_all p (encode_utf8_all cs)) (rw (encode_ascii c small) at all) in
      rw (encode_ascii c small) (ap (λ (l : List ℕ). c ∷ l) (characters_are_bytes p below cs parts.1))
  | inr above ↦
      let start = high c above in
      let parts = and_parts (p start.first) (list_all p (start.rest ++ encode_utf8_all cs)) (rw start.is at all) in
      absurd (let low = below start.first parts.0 in let up = start.high in omega arith)
]
