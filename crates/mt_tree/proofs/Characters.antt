-- A place by the bytes of a text is the place by its characters.
use Rattle.std.proofs.Common.{◌≡◌, ℕ, ◌+◌, ◌/◌, ◌<◌, ◌≤◌, Bool, true, false, cond, not, ◌&&◌, ◌==◌, nat_lt, List, [], ◌∷◌, ◌++◌, refl, sym, ap, ◌∙◌, ⊎_elim, arith}
use Rattle.std.proofs.lemmas.Bool.{cases_lt, le-ltb, lt-ltb, ne_eqb}
use Rattle.std.proofs.lemmas.Str.{encodes-chars}
use Rattle.std.specs.Str.{IsUtf8, chars}
use lib.Utf8.{encode, encodes, next}
use Rattle.mt_tree.specs.declared.place.Place.{Place}
use Rattle.mt_tree.specs.Place.{first_place, next_line, next_column, place_behind, place_past, place_after}

second : (a b c : Bool) (x y z : Place) → a ≡ false → b ≡ false → c ≡ true → cond a x (cond (not b && c) y z) ≡ y
second a b c x y z e f g = rw (e, f, g) refl

third : (a b c : Bool) (x y z : Place) → a ≡ false → (not b && c) ≡ false → cond a x (cond (not b && c) y z) ≡ z
third a b c x y z e f = rw (e, f) refl

neither : (b c : Bool) → c ≡ false → (not b && c) ≡ false
neither true c e = refl
neither false c e = e

low : (b c : Bool) → b ≡ true → (not b && c) ≡ false
low b c e = rw e refl

-- a byte that continues a character
continues : (p : Place) (n : ℕ) → place_past p (next n) ≡ p
continues p n =
    second (next n == 10) (nat_lt (next n) 128) (nat_lt (next n) 192) (next_line p) p (next_column p)
    (ne_eqb (next n) 10 (λ e. omega (arith, e))) (le-ltb (next n) 128 (omega arith)) (lt-ltb (next n) 192 (omega arith))

-- a byte that begins a character of several bytes
begins : (p : Place) (b : ℕ) → 192 ≤ b → place_past p b ≡ next_column p
begins p b h =
    third (b == 10) (nat_lt b 128) (nat_lt b 192) (next_line p) p (next_column p)
    (ne_eqb b 10 (λ e. omega (arith, e, h))) (neither (nat_lt b 128) (nat_lt b 192) (le-ltb b 192 h))

-- a character of one byte
alone : (p : Place) (c : ℕ) → c < 128 → place_past p c ≡ cond (c == 10) (next_line p) (next_column p)
alone p c h = ap (λ z. cond (c == 10) (next_line p) (cond z p (next_column p))) (low (nat_lt c 128) (nat_lt c 192) (lt-ltb c 128 h))

several : (p : Place) (c : ℕ) → 128 ≤ c → cond (c == 10) (next_line p) (next_column p) ≡ next_column p
several p c h = rw (ne_eqb c 10 (λ e. omega (arith, e, h))) refl

two : (p : Place) (b n : ℕ) (rest : List ℕ) → 192 ≤ b → place_after p (b ∷ next n ∷ rest) ≡ place_after (next_column p) rest
two p b n rest h = ap (λ q. place_after q rest) (ap (λ q. place_past q (next n)) (begins p b h) ∙ continues (next_column p) n)

three : (p : Place) (b n m : ℕ) (rest : List ℕ) → 192 ≤ b → place_after p (b ∷ next n ∷ next m ∷ rest) ≡ place_after (next_column p) rest
three p b n m rest h = two p b n (next m ∷ rest) h ∙ ap (λ q. place_after q rest) (continues (next_column p) m)

four : (p : Place) (b n m k : ℕ) (rest : List ℕ) → 192 ≤ b → place_after p (b ∷ next n ∷ next m ∷ next k ∷ rest) ≡ place_after (next_column p) rest
four p b n m k rest h = three p b n m (next k ∷ rest) h ∙ ap (λ q. place_after q rest) (continues (next_column p) k)

abbrev Reads : ℕ → List ℕ → Type 0
Reads c bs = (p : Place) (rest : List ℕ) → place_after p (bs ++ rest) ≡ place_after (next_column p) rest

long : (c : ℕ) (x y : Bool) → Reads c (cond x ((192 + c / 64) ∷ next c ∷ []) (cond y ((224 + c / 4096) ∷ next (c / 64) ∷ next c ∷ []) ((240 + c / 262144) ∷ next (c / 4096) ∷ next (c / 64) ∷ next c ∷ [])))
long c true y p rest = two p (192 + c / 64) c rest (omega arith)
long c false true p rest = three p (224 + c / 4096) (c / 64) c rest (omega arith)
long c false false p rest = four p (240 + c / 262144) (c / 4096) (c / 64) c rest (omega arith)

abbrev encoded : ℕ → Bool → List ℕ
encoded c z = cond z (c ∷ []) (cond (nat_lt c 2048) ((192 + c / 64) ∷ next c ∷ []) (cond (nat_lt c 65536) ((224 + c / 4096) ∷ next (c / 64) ∷ next c ∷ []) ((240 + c / 262144) ∷ next (c / 4096) ∷ next (c / 64) ∷ next c ∷ [])))

one : (p : Place) (c : ℕ) (rest : List ℕ) → place_after p (encode c ++ rest) ≡ place_after (cond (c == 10) (next_line p) (next_column p)) rest
unfolding encode
one p c rest =
    ⊎_elim
    (λ h. ap (λ z. place_after p (encoded c z ++ rest)) (lt-ltb c 128 h) ∙ ap (λ q. place_after q rest) (alone p c h))
    (λ h. ap (λ z. place_after p (encoded c z ++ rest)) (le-ltb c 128 h) ∙ long c (nat_lt c 2048) (nat_lt c 65536) p rest ∙ ap (λ q. place_after q rest) (sym (several p c h)))
    (cases_lt c 128)

each : (p : Place) (cs : List ℕ) → place_after p (encodes cs) ≡ place_behind p cs
each p [] = refl
each p (c ∷ cs) = one p c (encodes cs) ∙ each (cond (c == 10) (next_line p) (next_column p)) cs

pub place_after-characters : (bs : List ℕ) → IsUtf8 bs → place_after first_place bs ≡ place_behind first_place (chars bs)
place_after-characters bs u = ap (place_after first_place) (sym (encodes-chars bs u)) ∙ each first_place (chars bs)
