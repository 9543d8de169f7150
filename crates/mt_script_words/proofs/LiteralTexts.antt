-- A literal is read as the text that it was written from.
use Rattle.std.proofs.Common.{◌≡◌, ℕ, suc, ◌+◌, ◌-◌, ◌*◌, ◌/◌, ◌%◌, ◌<◌, ◌≤◌, Bool, true, false, ◌||◌, eqb, cond, List, [], ◌∷◌, ◌++◌, length, Option, Some, None, refl, sym, ap, subst, ◌∙◌, append_assoc, zero-add, arith, inl, inr}
use Rattle.std.specs.Prelude.{nat_lt}
use Rattle.std.specs.List.{flat_map}
use Rattle.std.specs.Char.{digit_char}
use Rattle.std.specs.Str.{all_scalars, is_utf8}
use lib.Utf8.{encode, encodes, next, scalar}
use Rattle.std.proofs.lemmas.Bool.{and_parts, cases_eq, cases_lt, le-ltb, lt-ltb, ltb-true, ne_eqb}
use Rattle.std.proofs.lemmas.Bool.Decides.{Decides-eqb}
use Rattle.std.proofs.lemmas.Grind.{flat_map-append}
use Rattle.std.proofs.lemmas.List.{append-nil, length-append}
use Rattle.std.proofs.lemmas.Str.{chars-encodes, is_utf8-from_IsUtf8}
use Rattle.mt_syntax.specs.CodeText.{code_escaped, four_digits, is_escaped}
use Rattle.mt_json.specs.Reading.{hex_value, many}
use Rattle.mt_json.proofs.Many.{with_front, many_more}
use Rattle.mt_script_words.specs.Literals.{code_of, piece_at, piece_bytes, pieces_at, string_at, text_at}
use Rattle.mt_script_words.specs.Words.{is_short}
use Rattle.mt_script_words.specs.declared.literals.Piece.{Piece}
use Rattle.mt_script_words.specs.declared.literals.Piece.TheVariants as piece

-- the bytes are read as some pieces, which give out, before whatever follows
record Passes (bytes out : List ℕ) : Type 0 where
  pieces : List Piece
  gives : flat_map piece_bytes pieces ≡ out
  reads : (n : ℕ) (rest : List ℕ) → many piece_at (length pieces + n) (bytes ++ rest) ≡ with_front pieces (many piece_at n rest)
  fits : length pieces ≤ length bytes

nothing_in_front : (read : Option (List Piece × List ℕ)) → with_front [] read ≡ read
nothing_in_front (Some x) = refl
nothing_in_front None = refl

two_in_front : (x y : List Piece) (read : Option (List Piece × List ℕ)) → with_front x (with_front y read) ≡ with_front (x ++ y) read
two_in_front x y (Some r) = ap (λ (s : List Piece). Some (s, r.1)) (sym (append_assoc x y r.0))
two_in_front x y None = refl

Passes-nil : Passes [] []
Passes-nil = record { pieces = []; gives = refl; reads = λ n rest. rw zero-add (sym (nothing_in_front (many piece_at n rest))); fits = omega arith }

Passes-append : (a x b y : List ℕ) → Passes a x → Passes b y → Passes (a ++ b) (x ++ y)
Passes-append a x b y p q = record {
  pieces = p.pieces ++ q.pieces;
  gives = flat_map-append piece_bytes p.pieces q.pieces ∙ ap (λ s. s ++ flat_map piece_bytes q.pieces) p.gives ∙ ap (λ s. x ++ s) q.gives;
  reads = λ n rest.
      let k : length (p.pieces ++ q.pieces) + n ≡ length p.pieces + (length q.pieces + n) = omega (arith, length-append p.pieces q.pieces) in
      ap (λ m. many piece_at m ((a ++ b) ++ rest)) k ∙ ap (many piece_at (length p.pieces + (length q.pieces + n))) (append_assoc a b rest)
      ∙ p.reads (length q.pieces + n) (b ++ rest) ∙ ap (with_front p.pieces) (q.reads n rest) ∙ two_in_front p.pieces q.pieces (many piece_at n rest);
  fits = omega (arith, length-append p.pieces q.pieces, length-append a b, p.fits, q.fits);
}

one_piece : (bytes : List ℕ) (x : Piece) → 0 < length bytes → ((rest : List ℕ) → piece_at (bytes ++ rest) ≡ Some (Some x, rest)) → Passes bytes (piece_bytes x)
unfolding many
one_piece bytes x long reads = record {
  pieces = x ∷ [];
  gives = append-nil (piece_bytes x);
  reads = λ n rest. let k : 1 + n ≡ suc n = omega arith in ap (λ m. many piece_at m (bytes ++ rest)) k ∙ rw (reads rest) refl;
  fits = long;
}

plain : (b : ℕ) → (b ≡ 34 → ⊥) → (b ≡ 92 → ⊥) → Passes (b ∷ []) (b ∷ [])
unfolding piece_at
plain b q s = one_piece (b ∷ []) (piece.Byte b) (omega arith) (λ rest. rw (ne_eqb b 34 q, ne_eqb b 92 s) refl)

high : (b : ℕ) → 92 < b → Passes (b ∷ []) (b ∷ [])
high b h = plain b (λ e. omega arith) (λ e. omega arith)

two_high : (a b : ℕ) → 92 < a → 92 < b → Passes (a ∷ b ∷ []) (a ∷ b ∷ [])
two_high a b h k = Passes-append (a ∷ []) (a ∷ []) (b ∷ []) (b ∷ []) (high a h) (high b k)

encoded : (c : ℕ) → (c ≡ 34 → ⊥) → (c ≡ 92 → ⊥) → Passes (encode c) (encode c)
unfolding encode
encoded c q s =
    elim (cases_lt c 128) [
      | inl lt ↦ rw (lt-ltb c 128 lt) (plain c q s)
      | inr ge ↦ rw (le-ltb c 128 ge) (elim (cases_lt c 2048) [
        | inl lt ↦ rw (lt-ltb c 2048 lt) (two_high (192 + c / 64) (next c) (omega arith) (omega arith))
        | inr ge2 ↦ rw (le-ltb c 2048 ge2) (elim (cases_lt c 65536) [
          | inl lt ↦ rw (lt-ltb c 65536 lt) (Passes-append ((224 + c / 4096) ∷ []) ((224 + c / 4096) ∷ []) (next (c / 64) ∷ next c ∷ []) (next (c / 64) ∷ next c ∷ []) (high (224 + c / 4096) (omega arith)) (two_high (next (c / 64)) (next c) (omega arith) (omega arith)))
          | inr ge3 ↦ rw (le-ltb c 65536 ge3) (Passes-append ((240 + c / 262144) ∷ next (c / 4096) ∷ []) ((240 + c / 262144) ∷ next (c / 4096) ∷ []) (next (c / 64) ∷ next c ∷ []) (next (c / 64) ∷ next c ∷ []) (two_high (240 + c / 262144) (next (c / 4096)) (omega arith) (omega arith)) (two_high (next (c / 64)) (next c) (omega arith) (omega arith)))
        ])
      ])
    ]

hex_digit : (d : ℕ) → d < 16 → hex_value (digit_char d) ≡ d
hex_digit d small =
    elim (cases_lt d 10) [
      | inl lt ↦ let k : (48 + d - 48) % 16 ≡ d = omega arith in rw (lt-ltb d 10 lt, lt-ltb (48 + d) 58 (omega arith)) k
      | inr ge ↦ let k : (87 + d - 87) % 16 ≡ d = omega arith in rw (le-ltb d 10 ge, le-ltb (87 + d) 58 (omega arith)) k
    ]

-- the four digits of a number give it again
again : (c : ℕ) → c < 65536 → code_of (digit_char (c / 4096)) (digit_char (c / 256 % 16)) (digit_char (c / 16 % 16)) (digit_char (c % 16)) ≡ c
again c small =
    let k : 256 * (16 * (c / 4096) + c / 256 % 16) + (16 * (c / 16 % 16) + c % 16) ≡ c = omega arith in
    rw (hex_digit (c / 4096) (omega arith), hex_digit (c / 256 % 16) (omega arith), hex_digit (c / 16 % 16) (omega arith), hex_digit (c % 16) (omega arith)) k

escape : (c : ℕ) → c < 65536 → scalar c ≡ true → Passes (92 ∷ 117 ∷ four_digits c) (encode c)
unfolding piece_at
escape c small is =
    one_piece (92 ∷ 117 ∷ four_digits c) (piece.Character c) (omega arith) (λ rest. rw (again c small, is) refl)

backslashed : (c : ℕ) → c < 117 → encode c ≡ c ∷ [] → Passes (92 ∷ c ∷ []) (encode c)
unfolding piece_at
backslashed c small e = rw e (one_piece (92 ∷ c ∷ []) (piece.Byte c) (omega arith) (λ rest. rw (ne_eqb c 117 (λ is. omega arith)) refl))

is_one : (c d : ℕ) → d < 65536 → eqb c d ≡ true → c < 65536
is_one c d small e = let same : c ≡ d = (Decides-eqb c d).0 e in omega arith

escaped_is_small : (c : ℕ) → is_escaped c ≡ true → c < 65536
escaped_is_small c h = by (eqb c 60) (eqb c 62) (eqb c 38) (eqb c 8232) (eqb c 8233) refl refl refl refl refl h
  where
    by : (p q r s t : Bool) → eqb c 60 ≡ p → eqb c 62 ≡ q → eqb c 38 ≡ r → eqb c 8232 ≡ s → eqb c 8233 ≡ t → (p || (q || (r || (s || (t || nat_lt c 32))))) ≡ true → c < 65536
    by true q r s t a b d e f h = is_one c 60 (omega arith) a
    by false true r s t a b d e f h = is_one c 62 (omega arith) b
    by false false true s t a b d e f h = is_one c 38 (omega arith) d
    by false false false true t a b d e f h = is_one c 8232 (omega arith) e
    by false false false false true a b d e f h = is_one c 8233 (omega arith) f
    by false false false false false a b d e f h = omega (arith, ltb-true c 32 h)

abbrev Good : ℕ → Type 0
Good c = Passes (code_escaped c) (encode c)

escapes : (c : ℕ) → scalar c ≡ true → Good c
unfolding code_escaped encode
escapes c is =
    elim (cases_eq c 34) [
      | inl e ↦ subst Good (sym e) (backslashed 34 (omega arith) refl)
      | inr n34 ↦
          elim (cases_eq c 92) [
            | inl e ↦ subst Good (sym e) (backslashed 92 (omega arith) refl)
            | inr n92 ↦ rw (ne_eqb c 34 n34, ne_eqb c 92 n92) (by (is_escaped c) refl n34 n92)
          ]
    ]
  where
    by : (b : Bool) → is_escaped c ≡ b → (c ≡ 34 → ⊥) → (c ≡ 92 → ⊥) → Passes (cond b (92 ∷ 117 ∷ four_digits c) (encode c)) (encode c)
    by true e n34 n92 = escape c (escaped_is_small c e) is
    by false e n34 n92 = encoded c n34 n92

all_escapes : (cs : List ℕ) → all_scalars cs ≡ true → Passes (flat_map code_escaped cs) (encodes cs)
all_escapes [] h = Passes-nil
all_escapes (c ∷ cs) h =
    let parts = and_parts (scalar c) (all_scalars cs) h in
    Passes-append (code_escaped c) (encode c) (flat_map code_escaped cs) (encodes cs) (escapes c parts.0) (all_escapes cs parts.1)

pub string_read : (cs rest : List ℕ) → all_scalars cs ≡ true → string_at (flat_map code_escaped cs ++ 34 ∷ rest) ≡ Some (encodes cs, rest)
unfolding many piece_at string_at
string_read cs rest h =
    let p = all_escapes cs h in
    let last : many piece_at 1 (34 ∷ rest) ≡ Some ([], rest) = refl in
    let enough : many piece_at (length p.pieces + 1) (flat_map code_escaped cs ++ 34 ∷ rest) ≡ Some (p.pieces, rest) =
    p.reads 1 (34 ∷ rest) ∙ ap (with_front p.pieces) last ∙ ap (λ (s : List Piece). Some (s, rest)) (append-nil p.pieces) in
    let all : pieces_at (flat_map code_escaped cs ++ 34 ∷ rest) ≡ Some (p.pieces, rest) =
    many_more piece_at (length p.pieces + 1) _ _ _ (omega (arith, length-append (flat_map code_escaped cs) (34 ∷ rest), p.fits)) enough in
    rw all (ap (λ (s : List ℕ). Some (s, rest)) p.gives)

pub text_read : (cs rest : List ℕ) → all_scalars cs ≡ true → is_short cs ≡ true → text_at (flat_map code_escaped cs ++ 34 ∷ rest) ≡ Some (cs, rest)
unfolding text_at
text_read cs rest h small =
    let utf8 : is_utf8 (encodes cs) ≡ true = is_utf8-from_IsUtf8 (encodes cs) (cs, (h, refl)) in
    rw (string_read cs rest h, utf8, chars-encodes cs h, small) refl
