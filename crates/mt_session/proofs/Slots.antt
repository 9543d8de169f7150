-- Slots, and what is known of a slot after a message was sent, or more of one was given.
use Rattle.std.proofs.Common.{◌≡◌, ℕ, Bool, true, false, ◌||◌, ◌&&◌, List, [], ◌∷◌, ◌++◌, refl, sym, ap, ◌∙◌, eqb, if◌then◌else◌, ◌⊎◌, inl, inr}
use Rattle.std.proofs.lemmas.Bool.{eqb-true, eq-eqb}
use Rattle.mt_outside.specs.declared.wire.Slot.{Slot}
use Rattle.mt_outside.specs.Message.{Message, is_slot, same_bool, with_given, with_send, was_sent, given_of, ended_of, sends_of}

pub slot-refl : (s : Slot) → is_slot s s ≡ true
slot-refl s = rw (eq-eqb s.client s.client refl, eq-eqb s.message s.message refl) (same s.reply) where
  same : (b : Bool) → same_bool b b ≡ true
  same true = refl
  same false = refl

both-true : (a b : Bool) → (a && b) ≡ true → (a ≡ true) × (b ≡ true)
both-true true true e = (refl, refl)
both-true true false e = absurd (cc)
both-true false b e = absurd (cc)

same-true : (a b : Bool) → same_bool a b ≡ true → a ≡ b
same-true true true e = refl
same-true true false e = absurd (cc)
same-true false true e = absurd (cc)
same-true false false e = refl

pub slot-equal : (a b : Slot) → is_slot a b ≡ true → a ≡ b
slot-equal a b e =
    let first = both-true (eqb a.client b.client) _ e in
    let second = both-true (eqb a.message b.message) _ first.1 in
    let client = eqb-true a.client b.client first.0 in
    let message = eqb-true a.message b.message second.0 in
    let reply = same-true a.reply b.reply second.1 in
    ap (λ (c : ℕ). record { client = c; message = a.message; reply = a.reply }) client
    ∙ ap (λ (m : ℕ). record { client = b.client; message = m; reply = a.reply }) message
    ∙ ap (λ (r : Bool). record { client = b.client; message = b.message; reply = r }) reply

-- a slot is this one, or another
pub slot_cases : (t s : Slot) → (t ≡ s) ⊎ (is_slot t s ≡ false)
slot_cases t s = at (is_slot t s) refl where
  at : (b : Bool) → is_slot t s ≡ b → (t ≡ s) ⊎ (is_slot t s ≡ false)
  at true e = inl (slot-equal t s e)
  at false e = inr e

pub was_sent-with_send : (t s : Slot) (bytes : List ℕ) (ms : List Message) → was_sent t (with_send s bytes ms) ≡ (was_sent t ms || is_slot t s)
was_sent-with_send t s bytes [] = at (is_slot t s) where
  at : (b : Bool) → (b || false) ≡ (false || b)
  at true = refl
  at false = refl
was_sent-with_send t s bytes (m ∷ ms) = ap (λ r. is_slot t m.slot || r) (was_sent-with_send t s bytes ms) ∙ sym (at (is_slot t m.slot) (was_sent t ms) (is_slot t s)) where
  at : (a b c : Bool) → ((a || b) || c) ≡ (a || (b || c))
  at true b c = refl
  at false b c = refl

pub given_of-with_send : (t s : Slot) (bytes : List ℕ) (ms : List Message) → given_of t (with_send s bytes ms) ≡ given_of t ms
given_of-with_send t s bytes [] = at (is_slot t s) where
  at : (b : Bool) → (let none : List ℕ = [] in (if b then none else none) ≡ none)
  at true = refl
  at false = refl
given_of-with_send t s bytes (m ∷ ms) = ap (λ r. if is_slot t m.slot then m.given else r) (given_of-with_send t s bytes ms)

pub ended_of-with_send : (t s : Slot) (bytes : List ℕ) (ms : List Message) → ended_of t (with_send s bytes ms) ≡ ended_of t ms
ended_of-with_send t s bytes [] = at (is_slot t s) where
  at : (b : Bool) → (let none : Bool = false in (if b then none else none) ≡ none)
  at true = refl
  at false = refl
ended_of-with_send t s bytes (m ∷ ms) = ap (λ r. if is_slot t m.slot then m.ended else r) (ended_of-with_send t s bytes ms)

pub sends_of-with_send : (s : Slot) (bytes : List ℕ) (ms : List Message) → sends_of (with_send s bytes ms) ≡ sends_of ms ++ (s, bytes) ∷ []
sends_of-with_send s bytes [] = refl
sends_of-with_send s bytes (m ∷ ms) = ap (λ l. (m.slot, m.sent) ∷ l) (sends_of-with_send s bytes ms)

-- ---- what is given

pub given_of-with_given : (s : Slot) (bytes : List ℕ) (ended : Bool) (ms : List Message) → was_sent s ms ≡ true
    → given_of s (with_given s bytes ended ms) ≡ given_of s ms ++ bytes
given_of-with_given s bytes ended [] sent = absurd (cc)
given_of-with_given s bytes ended (m ∷ ms) sent = at (is_slot s m.slot) refl (given_of-with_given s bytes ended ms) where
  at : (b : Bool) → is_slot s m.slot ≡ b → (was_sent s ms ≡ true → given_of s (with_given s bytes ended ms) ≡ given_of s ms ++ bytes)
      → given_of s (with_given s bytes ended (m ∷ ms)) ≡ given_of s (m ∷ ms) ++ bytes
  at true e rest = rw e (rw e refl)
  at false e rest = rw e (rw e (rest (rw e at sent)))

pub ended_of-with_given : (s : Slot) (bytes : List ℕ) (ended : Bool) (ms : List Message) → was_sent s ms ≡ true
    → ended_of s (with_given s bytes ended ms) ≡ (ended_of s ms || ended)
ended_of-with_given s bytes ended [] sent = absurd (cc)
ended_of-with_given s bytes ended (m ∷ ms) sent = at (is_slot s m.slot) refl (ended_of-with_given s bytes ended ms) where
  at : (b : Bool) → is_slot s m.slot ≡ b → (was_sent s ms ≡ true → ended_of s (with_given s bytes ended ms) ≡ (ended_of s ms || ended))
      → ended_of s (with_given s bytes ended (m ∷ ms)) ≡ (ended_of s (m ∷ ms) || ended)
  at true e rest = rw e (rw e refl)
  at false e rest = rw e (rw e (rest (rw e at sent)))

-- what is given of one slot is not given of another
apart-slot : (t s x : Slot) → is_slot t s ≡ false → is_slot s x ≡ true → is_slot t x ≡ false
apart-slot t s x differs same = rw (slot-equal s x same) at differs

pub given_of-with_given_other : (t s : Slot) (bytes : List ℕ) (ended : Bool) (ms : List Message) → is_slot t s ≡ false
    → given_of t (with_given s bytes ended ms) ≡ given_of t ms
given_of-with_given_other t s bytes ended [] differs = refl
given_of-with_given_other t s bytes ended (m ∷ ms) differs = at (is_slot s m.slot) refl (given_of-with_given_other t s bytes ended ms differs) where
  at : (b : Bool) → is_slot s m.slot ≡ b → given_of t (with_given s bytes ended ms) ≡ given_of t ms
      → given_of t (with_given s bytes ended (m ∷ ms)) ≡ given_of t (m ∷ ms)
  at true e rest = rw e (rw (apart-slot t s m.slot differs e) refl)
  at false e rest = rw e (ap (λ r. if is_slot t m.slot then m.given else r) rest)

pub ended_of-with_given_other : (t s : Slot) (bytes : List ℕ) (ended : Bool) (ms : List Message) → is_slot t s ≡ false
    → ended_of t (with_given s bytes ended ms) ≡ ended_of t ms
ended_of-with_given_other t s bytes ended [] differs = refl
ended_of-with_given_other t s bytes ended (m ∷ ms) differs = at (is_slot s m.slot) refl (ended_of-with_given_other t s bytes ended ms differs) where
  at : (b : Bool) → is_slot s m.slot ≡ b → ended_of t (with_given s bytes ended ms) ≡ ended_of t ms
      → ended_of t (with_given s bytes ended (m ∷ ms)) ≡ ended_of t (m ∷ ms)
  at true e rest = rw e (rw (apart-slot t s m.slot differs e) refl)
  at false e rest = rw e (ap (λ r. if is_slot t m.slot then m.ended else r) rest)
