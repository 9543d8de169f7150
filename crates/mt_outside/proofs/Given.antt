-- Messages of which more is given, piece by piece.
use Rattle.std.proofs.Common.{◌≡◌, ◌≢◌, ℕ, Bool, true, false, ◌||◌, List, [], ◌∷◌, ◌++◌, length, if◌then◌else◌, Option, None, Some, refl, sym, ap, ◌∙◌, append-nil, append_assoc, arith}
use Rattle.std.specs.Option.{option_map, ForSome}
use Rattle.std.proofs.lemmas.Bool.Decides.{nat_tests}
use Rattle.mt_outside.specs.declared.wire.Slot.{Slot}
use Rattle.mt_outside.specs.Message.{Message, is_slot, with_given, given_more, was_sent, sent_of, given_of, ended_of, sends_of, is_end, TookSome, Gives, IsFaithful, IsFaithfulOn}

or-false : (b : Bool) → (b || false) ≡ b
or-false true = refl
or-false false = refl

or_assoc : (a b c : Bool) → ((a || b) || c) ≡ (a || (b || c))
or_assoc true b c = refl
or_assoc false b c = refl

given_more-nil : (m : Message) → given_more [] false m ≡ m
given_more-nil m = rw (append-nil m.given, or-false m.ended) refl

given_more-more : (m : Message) (xs ys : List ℕ) (a b : Bool) → given_more ys b (given_more xs a m) ≡ given_more (xs ++ ys) (a || b) m
given_more-more m xs ys a b = rw (append_assoc m.given xs ys, or_assoc m.ended a b) refl

pub with_given-nil : (slot : Slot) (ms : List Message) → with_given slot [] false ms ≡ ms
with_given-nil slot [] = refl
with_given-nil slot (m ∷ ms) = at (is_slot slot m.slot) (with_given-nil slot ms) where
  at : (b : Bool) → with_given slot [] false ms ≡ ms → (if b then given_more [] false m ∷ ms else m ∷ with_given slot [] false ms) ≡ m ∷ ms
  at true rest = ap (λ h. h ∷ ms) (given_more-nil m)
  at false rest = ap (λ t. m ∷ t) rest

pub with_given-more : (slot : Slot) (xs ys : List ℕ) (a b : Bool) (ms : List Message)
    → with_given slot ys b (with_given slot xs a ms) ≡ with_given slot (xs ++ ys) (a || b) ms
with_given-more slot xs ys a b [] = refl
with_given-more slot xs ys a b (m ∷ ms) = at (is_slot slot m.slot) refl (with_given-more slot xs ys a b ms) where
  at : (t : Bool) → is_slot slot m.slot ≡ t → with_given slot ys b (with_given slot xs a ms) ≡ with_given slot (xs ++ ys) (a || b) ms → with_given slot ys b (with_given slot xs a (m ∷ ms)) ≡ with_given slot (xs ++ ys) (a || b) (m ∷ ms)
  at true e rest = rw e (rw e (ap (λ h. h ∷ ms) (given_more-more m xs ys a b)))
  at false e rest = rw e (rw e (ap (λ t. m ∷ t) rest))

pub was_sent-with_given : (t slot : Slot) (xs : List ℕ) (a : Bool) (ms : List Message) → was_sent t (with_given slot xs a ms) ≡ was_sent t ms
was_sent-with_given t slot xs a [] = refl
was_sent-with_given t slot xs a (m ∷ ms) = at (is_slot slot m.slot) (was_sent-with_given t slot xs a ms) where
  at : (b : Bool) → was_sent t (with_given slot xs a ms) ≡ was_sent t ms → was_sent t (if b then given_more xs a m ∷ ms else m ∷ with_given slot xs a ms) ≡ was_sent t (m ∷ ms)
  at true rest = refl
  at false rest = ap (λ r. is_slot t m.slot || r) rest

pub sends_of-with_given : (slot : Slot) (xs : List ℕ) (a : Bool) (ms : List Message) → sends_of (with_given slot xs a ms) ≡ sends_of ms
sends_of-with_given slot xs a [] = refl
sends_of-with_given slot xs a (m ∷ ms) = at (is_slot slot m.slot) (sends_of-with_given slot xs a ms) where
  at : (b : Bool) → sends_of (with_given slot xs a ms) ≡ sends_of ms → sends_of (if b then given_more xs a m ∷ ms else m ∷ with_given slot xs a ms) ≡ sends_of (m ∷ ms)
  at true rest = refl
  at false rest = ap (λ r. (m.slot, m.sent) ∷ r) rest

-- ---- what is said of a wire that may not tell

pub given_start : (slot : Slot) (now : Option (List Message)) → now ≡ option_map (with_given slot [] false) now
given_start slot None = refl
given_start slot (Some ms) = ap Some (sym (with_given-nil slot ms))

pub given_step : (slot : Slot) (old mid new : Option (List Message)) (xs ys : List ℕ) (b : Bool)
    → mid ≡ option_map (with_given slot xs false) old → new ≡ option_map (with_given slot ys b) mid → new ≡ option_map (with_given slot (xs ++ ys) b) old
given_step slot None mid new xs ys b first second = second ∙ ap (option_map (with_given slot ys b)) first
given_step slot (Some ms) mid new xs ys b first second =
    second ∙ ap (option_map (with_given slot ys b)) first ∙ ap Some (with_given-more slot xs ys false b ms)

pub TookSome-step : (slot : Slot) (old mid new : Option (List Message)) (xs : List ℕ)
    → mid ≡ option_map (with_given slot xs false) old → TookSome slot mid new → TookSome slot old new
TookSome-step slot old mid new xs first some = record {
  bytes = xs ++ some.bytes;
  ended = some.ended;
  took = given_step slot old mid new xs some.bytes some.ended first some.took;
}

pub TookSome-none : (slot : Slot) (old new : Option (List Message)) → new ≡ old → TookSome slot old new
TookSome-none slot old new same = record { bytes = []; ended = false; took = same ∙ given_start slot old }

-- a message that was sent stays so
pub sent_still : (t slot : Slot) (old new : Option (List Message)) (xs : List ℕ) (a : Bool)
    → new ≡ option_map (with_given slot xs a) old → ForSome old (λ ms. was_sent t ms ≡ true) → ForSome new (λ ms. was_sent t ms ≡ true)
sent_still t slot None new xs a is sent ms told = absurd (cc)
sent_still t slot (Some before) new xs a is sent ms told =
    let same : ms ≡ with_given slot xs a before = cc in
    rw (same, was_sent-with_given t slot xs a before) (sent before refl)

pub is_end_no : (n : ℕ) (into : List ℕ) → n ≢ 0 → is_end n into ≡ false
is_end_no n into some = grind (arith, nat_tests)

pub is_end_yes : (n : ℕ) (into : List ℕ) → n ≡ 0 → length into ≢ 0 → is_end n into ≡ true
is_end_yes n into none room = grind (arith, nat_tests)

-- ---- what a faithful wire gives

-- on every message, so on every slot
pub faithful_on : (slot : Slot) (ms : List Message) → IsFaithful ms → IsFaithfulOn slot ms
faithful_on slot [] all = record { begins = ([], refl); ends = λ _. refl }
faithful_on slot (m ∷ ms) all = at (is_slot slot m.slot) (faithful_on slot ms all.1) where
  at : (b : Bool) → IsFaithfulOn slot ms
      → Gives (if b then m.sent else sent_of slot ms) (if b then m.given else given_of slot ms) (if b then m.ended else ended_of slot ms)
  at true rest = all.0
  at false rest = rest
