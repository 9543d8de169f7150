-- Where an expression ends, and how chains of keys and arguments are followed.
use Rattle.std.proofs.Common.{◌≡◌, ℕ, zero, suc, ◌<◌, ◌≤◌, Bool, true, false, not, ◌&&◌, eqb, List, [], ◌∷◌, Option, Some, None, refl, ap, arith}
use Rattle.std.specs.Prelude.{if◌then◌else◌}
use Rattle.std.proofs.lemmas.Bool.{and_parts, ne_eqb, not-true}
use Rattle.mt_syntax.specs.declared.tree.Expr.{Expr}
use Rattle.mt_json.specs.Reading.{◌>>=◌, Parse}
use Rattle.mt_script_words.specs.Words.{is_word_byte}
use Rattle.mt_script_words.proofs.WordTexts.{ends_word}
use Rattle.mt_script_tree.specs.Expressions.{chain_at, grown_at}

-- an expression ends before these bytes, and a declaration without a value
abbrev pub closes : List ℕ → Bool
closes [] = false
closes (b ∷ bytes) = not (is_word_byte b) && (not (eqb b 40) && (not (eqb b 91) && not (eqb b 61)))

pub record Closing (b : ℕ) : Type 0 where
  pub no_word : is_word_byte b ≡ false
  pub no_arguments : eqb b 40 ≡ false
  pub no_key : eqb b 91 ≡ false
  pub no_value : eqb b 61 ≡ false

pub closing : (b : ℕ) (bytes : List ℕ) → closes (b ∷ bytes) ≡ true → Closing b
closing b bytes h =
    let a = and_parts (not (is_word_byte b)) (not (eqb b 40) && (not (eqb b 91) && not (eqb b 61))) h in
    let c = and_parts (not (eqb b 40)) (not (eqb b 91) && not (eqb b 61)) a.1 in
    let d = and_parts (not (eqb b 91)) (not (eqb b 61)) c.1 in
    record { no_word = not-true (is_word_byte b) a.0; no_arguments = not-true (eqb b 40) c.0; no_key = not-true (eqb b 91) d.0; no_value = not-true (eqb b 61) d.1 }

pub closes_word : (bytes : List ℕ) → closes bytes ≡ true → ends_word bytes ≡ true
closes_word [] h = refl
closes_word (b ∷ bytes) h = (and_parts (not (is_word_byte b)) (not (eqb b 40) && (not (eqb b 91) && not (eqb b 61))) h).0

-- two bytes differ, where a test tells them apart
pub differ : (f : ℕ → Bool) (b c : ℕ) → f b ≡ true → f c ≡ false → eqb b c ≡ false
differ f b c is other = ne_eqb b c (λ e. let same : f b ≡ f c = ap f e in absurd cc)

-- ---- chains

module _ (expr : Parse Expr) where
  pub chain_ends : (base : Expr) (bytes : List ℕ) → closes bytes ≡ true → chain_at expr 1 base bytes ≡ Some (base, bytes)
  unfolding chain_at
  chain_ends base [] h = absurd cc
  chain_ends base (b ∷ bytes) h = let c = closing b bytes h in rw (c.no_key, c.no_arguments) refl

  pub chain_turns : (n : ℕ) (base : Expr) (bytes : List ℕ) (x : Expr × List ℕ) → chain_at expr n base bytes ≡ Some x → 0 < n
  unfolding chain_at
  chain_turns zero base bytes x e = absurd cc
  chain_turns (suc n) base bytes x e = omega arith

  more_turns : (n m : ℕ) (more : Bool) (base : Expr) (bytes : List ℕ) (x : Expr × List ℕ) → (chain_at expr n base bytes ≡ Some x → chain_at expr m base bytes ≡ Some x)
      → (if more then chain_at expr n base bytes else Some (base, bytes)) ≡ Some x → (if more then chain_at expr m base bytes else Some (base, bytes)) ≡ Some x
  more_turns n m true base bytes x h e = h e
  more_turns n m false base bytes x h e = e

  after_turn : (n m : ℕ) (g : Option ((Bool × Expr) × List ℕ)) (x : Expr × List ℕ) → ((base : Expr) (bytes : List ℕ) → chain_at expr n base bytes ≡ Some x → chain_at expr m base bytes ≡ Some x)
      → (g >>= λ g. (if g.0.0 then chain_at expr n g.0.1 g.1 else Some (g.0.1, g.1))) ≡ Some x → (g >>= λ g. (if g.0.0 then chain_at expr m g.0.1 g.1 else Some (g.0.1, g.1))) ≡ Some x
  after_turn n m None x h e = absurd cc
  after_turn n m (Some g) x h e = more_turns n m g.0.0 g.0.1 g.1 x (h g.0.1 g.1) e

  -- more turns than are needed change nothing
  pub chain_more : (n m : ℕ) (base : Expr) (bytes : List ℕ) (x : Expr × List ℕ) → n ≤ m → chain_at expr n base bytes ≡ Some x → chain_at expr m base bytes ≡ Some x
  unfolding chain_at
  chain_more zero m base bytes x le e = absurd cc
  chain_more (suc n) zero base bytes x le e = absurd (omega arith)
  chain_more (suc n) (suc m) base bytes x le e = after_turn n m (grown_at expr base bytes) x (λ b s. chain_more n m b s x (omega arith)) e
