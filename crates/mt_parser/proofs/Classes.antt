-- What the lexer's classes of characters say of them.
use Rattle.std.proofs.Common.{◌≡◌, ℕ, zero, suc, ◌<◌, Bool, true, false, not, ◌&&◌, ◌||◌, refl, sym, ap, ◌∙◌, subst, arith}
use Rattle.std.specs.Prelude.{◌==◌, nat_eq, nat_lt, if◌then◌else◌}
use Rattle.std.specs.Char.{is_ascii_alphabetic, is_ascii_alphanumeric}
use Rattle.std.proofs.lemmas.Bool.{both_ways, or_right, and_parts, eqb-true, ltb-true}
use Rattle.std.proofs.lemmas.Bool.Decides.{nat_tests}
use Rattle.unicode_ident.specs.Ident.{is_xid_start, is_xid_continue}
use Rattle.unicode_ident.proofs.IdentLemmas.{is_xid_start-ascii, is_xid_continue-ascii, is_xid_start-is_xid_continue}
use Rattle.mt_lexer.specs.declared.character.Class.{Class}
use Rattle.mt_lexer.specs.declared.character.Class.TheVariants as c
use Rattle.mt_lexer.specs.declared.character.Sign.TheVariants as sign
use Rattle.mt_lexer.specs.Character.{ascii_class, class_of, is_wide_space, wide_class}
use Rattle.mt_lexer.specs.Sign.{continues_attribute, continues_name, continues_tag, in_child_text, is_letter, starts_name}
use Rattle.mt_syntax.specs.Names as names
use Rattle.mt_grammar.specs.Token.{is_tag_byte}

-- a test of each number below another one
abbrev passes_below : ℕ → (ℕ → Bool) → Bool
passes_below zero p = true
passes_below (suc n) p = p n && passes_below n p

passes_at : (n : ℕ) (p : ℕ → Bool) → passes_below n p ≡ true → (v : ℕ) → v < n → p v ≡ true
passes_at zero p h v l = absurd (omega (arith, l))
passes_at (suc n) p h v l = by (nat_eq v n) refl parts.0 (λ m. passes_at n p parts.1 v m)
  where
    parts : (p n ≡ true) × (passes_below n p ≡ true)
    parts = and_parts (p n) (passes_below n p) h

    by : (t : Bool) → nat_eq v n ≡ t → p n ≡ true → (v < n → p v ≡ true) → p v ≡ true
    by true e here below = subst (λ z. p z ≡ true) (sym (eqb-true v n e)) here
    by false e here below = below (grind (arith, nat_tests))

implied : (a b : Bool) → (not a || b) ≡ true → a ≡ true → b ≡ true
implied true b h e = h
implied false b h e = absurd cc

-- A test of classes. What it says of ASCII is tried at each character, and wide characters are of four classes.
module _ (p : Class → Bool) where
  by_size : {P : Type 0} (v : ℕ) → p (class_of v) ≡ true → (v < 128 → p (ascii_class v) ≡ true → P) → (p (wide_class v) ≡ true → P) → P
  by_size {P} v h small wide = by (nat_lt v 128) refl h
    where
      by : (t : Bool) → nat_lt v 128 ≡ t → p (if t then ascii_class v else wide_class v) ≡ true → P
      by true e h = small (ltb-true v 128 e) h
      by false e h = wide h

  by_wide : {P : Type 0} (v : ℕ) → p (wide_class v) ≡ true → p c.White ≡ false → p c.Other ≡ false → (p c.NameStart ≡ true → is_xid_start v ≡ true → P) → (p c.NameContinue ≡ true → is_xid_continue v ≡ true → P) → P
  by_wide {P} v h white other start continue = by (is_wide_space v) (is_xid_start v) (is_xid_continue v) refl refl h
    where
      by : (a s t : Bool) → is_xid_start v ≡ s → is_xid_continue v ≡ t → p (if a then c.White else if s then c.NameStart else if t then c.NameContinue else c.Other) ≡ true → P
      by true s t e f h = absurd (both_ways (p c.White) white h)
      by false true t e f h = start h e
      by false false true e f h = continue h f
      by false false false e f h = absurd (both_ways (p c.Other) other h)

  -- a test that no wide character passes
  in_ascii : (q : ℕ → Bool) → passes_below 128 (λ v. not (p (ascii_class v)) || q v) ≡ true → p c.White ≡ false → p c.Other ≡ false → p c.NameStart ≡ false → p c.NameContinue ≡ false
      → (v : ℕ) → p (class_of v) ≡ true → q v ≡ true
  in_ascii q checked white other start continue v h =
      by_size v h (λ l e. implied (p (ascii_class v)) (q v) (passes_at 128 (λ v. not (p (ascii_class v)) || q v) checked v l) e)
      (λ e. by_wide v e white other (λ f g. absurd (both_ways (p c.NameStart) start f)) (λ f g. absurd (both_ways (p c.NameContinue) continue f)))

-- ---- names

abbrev begins_ascii : ℕ → Bool
begins_ascii v = (v == 95) || is_ascii_alphabetic v

abbrev goes_on_ascii : ℕ → Bool
goes_on_ascii v = is_ascii_alphanumeric v || (v == 95)

pub starts : (v : ℕ) → starts_name (class_of v) ≡ true → names.starts_name v ≡ true
starts v h =
    by_size starts_name v h
    (λ l e. ap (λ b. (v == 95) || b) (is_xid_start-ascii v l) ∙ implied (starts_name (ascii_class v)) (begins_ascii v) (passes_at 128 (λ v. not (starts_name (ascii_class v)) || begins_ascii v) refl v l) e)
    (λ e. or_right (v == 95) (is_xid_start v) (by_wide starts_name v e refl refl (λ f g. g) (λ f g. absurd cc)))

pub continues : (v : ℕ) → continues_name (class_of v) ≡ true → is_xid_continue v ≡ true
continues v h =
    by_size continues_name v h
    (λ l e. is_xid_continue-ascii v l ∙ implied (continues_name (ascii_class v)) (goes_on_ascii v) (passes_at 128 (λ v. not (continues_name (ascii_class v)) || goes_on_ascii v) refl v l) e)
    (λ e. by_wide continues_name v e refl refl (λ f g. is_xid_start-is_xid_continue v g) (λ f g. g))

-- ---- the names of tags and attributes, which are ASCII

abbrev pub is_tag_character : ℕ → Bool
is_tag_character v = names.is_letter_or_digit v || (v == 45)

abbrev pub is_attribute_character : ℕ → Bool
is_attribute_character v = names.is_letter_or_digit v || (v == 45) || (v == 95) || (v == 58)

pub letter : (v : ℕ) → is_letter (class_of v) ≡ true → names.is_letter v ≡ true
letter = in_ascii is_letter names.is_letter refl refl refl refl refl

pub tag_character : (v : ℕ) → continues_tag (class_of v) ≡ true → is_tag_character v ≡ true
tag_character = in_ascii continues_tag is_tag_character refl refl refl refl refl

pub attribute_character : (v : ℕ) → continues_attribute (class_of v) ≡ true → is_attribute_character v ≡ true
attribute_character = in_ascii continues_attribute is_attribute_character refl refl refl refl refl

pub letter_byte : (v : ℕ) → names.is_letter v ≡ true → (is_tag_byte v ≡ true) × (v < 128)
letter_byte v h = (grind (arith, nat_tests), grind (arith, nat_tests))

pub tag_byte : (v : ℕ) → is_tag_character v ≡ true → (is_tag_byte v ≡ true) × (v < 128)
tag_byte v h = (grind (arith, nat_tests), grind (arith, nat_tests))

-- ---- signs

abbrev is_less : Class → Bool
is_less (c.Sign sign.Less) = true
is_less y = false

pub less : (v : ℕ) → class_of v ≡ c.Sign sign.Less → v ≡ 60
less v e = eqb-true v 60 (in_ascii is_less (λ v. v == 60) refl refl refl refl refl v (ap is_less e))

-- where a text of an element goes on, neither a dollar nor a tilde opens
pub opens_neither : (a b : ℕ) → in_child_text (class_of a) (class_of b) ≡ true → (((a == 36) && (b == 123)) ≡ false) × (((a == 126) && (b == 123)) ≡ false)
opens_neither a b h = (by 36 refl, by 126 refl)
  where
    by : (o : ℕ) → in_child_text (class_of o) (class_of 123) ≡ false → ((a == o) && (b == 123)) ≡ false
    by o never = at (a == o) (b == 123) refl refl
      where
        at : (t u : Bool) → (a == o) ≡ t → (b == 123) ≡ u → (t && u) ≡ false
        at false u e f = refl
        at true false e f = refl
        at true true e f =
            absurd (let is : in_child_text (class_of o) (class_of 123) ≡ true = subst (λ z. in_child_text (class_of z) (class_of 123) ≡ true) (eqb-true a o e) (subst (λ z. in_child_text (class_of a) (class_of z) ≡ true) (eqb-true b 123 f) h) in
            both_ways (in_child_text (class_of o) (class_of 123)) never is)
