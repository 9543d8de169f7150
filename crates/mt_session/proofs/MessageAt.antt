-- A message in a list of messages sent: after one more, and as a faithful wire gave it.
use Rattle.std.proofs.Common.{◌≡◌, ◌<◌, ◌+◌, ℕ, Bool, true, false, ◌||◌, List, [], ◌∷◌, ◌++◌, length, refl, sym, ap, ◌∙◌, subst, arith, is_some, if◌then◌else◌, None, Some}
use Rattle.std.proofs.lemmas.List.{length-append}
use Rattle.mt_outside.specs.declared.wire.Slot.{Slot}
use Rattle.mt_outside.specs.Message as outside
use Rattle.mt_outside.specs.Message.{Gives, IsFaithful, is_slot, given_of, ended_of, sends_of}
use Rattle.mt_small.specs.Wire.{Message, wire}
use Rattle.mt_session.specs.Corresponds.{bytes_at}
use Rattle.mt_session.specs.Machine.{message_at}
use Rattle.mt_session.specs.Sides.{wired}
use Rattle.mt_session.specs.WireFits.{take_limit, IsTaken}

pub wired-append : (xs ys : List (Slot × Message)) → wired (xs ++ ys) ≡ wired xs ++ wired ys
wired-append [] ys = refl
wired-append (x ∷ xs) ys = ap (λ (l : List (Slot × List ℕ)). (x.0, wire x.1) ∷ l) (wired-append xs ys)

-- ---- one more message

pub is_message_at-push : (t : Slot) (messages : List (Slot × Message)) (send : Slot × Message)
    → is_some (message_at t (messages ++ send ∷ [])) ≡ (is_some (message_at t messages) || is_slot t send.0)
is_message_at-push t [] send = at (is_slot t send.0) where
  at : (b : Bool) → is_some (if b then Some send.1 else None) ≡ b
  at true = refl
  at false = refl
is_message_at-push t (x ∷ xs) send = at (is_slot t x.0) (is_message_at-push t xs send) where
  at : (b : Bool) → is_some (message_at t (xs ++ send ∷ [])) ≡ (is_some (message_at t xs) || is_slot t send.0)
      → is_some (if b then Some x.1 else message_at t (xs ++ send ∷ [])) ≡ (is_some (if b then Some x.1 else message_at t xs) || is_slot t send.0)
  at true behind = refl
  at false behind = behind

-- what is there after one more message was there before, or it is the new one
pub message_at-push : (t : Slot) (messages : List (Slot × Message)) (send : Slot × Message) (message : Message) (P : Type 0)
    → message_at t (messages ++ send ∷ []) ≡ Some message → (message_at t messages ≡ Some message → P) → (is_slot t send.0 ≡ true → send.1 ≡ message → P) → P
message_at-push t [] send message P found before now = at (is_slot t send.0) refl found where
  at : (b : Bool) → is_slot t send.0 ≡ b → (if b then Some send.1 else None) ≡ Some message → P
  at true e is = now e (cc)
  at false e is = absurd (cc)
message_at-push t (x ∷ xs) send message P found before now =
    at (is_slot t x.0) found before (λ (is : message_at t (xs ++ send ∷ []) ≡ Some message) (b : message_at t xs ≡ Some message → P). message_at-push t xs send message P is b now) where
      at : (b : Bool) → (if b then Some x.1 else message_at t (xs ++ send ∷ [])) ≡ Some message → ((if b then Some x.1 else message_at t xs) ≡ Some message → P)
          → (message_at t (xs ++ send ∷ []) ≡ Some message → (message_at t xs ≡ Some message → P) → P) → P
      at true is old behind = old is
      at false is old behind = behind is old

-- ---- its bytes

pub bytes_at-some : (t : Slot) (messages : List (Slot × Message)) (message : Message) → message_at t messages ≡ Some message → bytes_at t (wired messages) ≡ wire message
bytes_at-some t [] message found = absurd (cc)
bytes_at-some t (x ∷ xs) message found = at (is_slot t x.0) found (bytes_at-some t xs message) where
  at : (b : Bool) → (if b then Some x.1 else message_at t xs) ≡ Some message → (message_at t xs ≡ Some message → bytes_at t (wired xs) ≡ wire message)
      → (if b then wire x.1 else bytes_at t (wired xs)) ≡ wire message
  at true is behind = let same : x.1 ≡ message = cc in ap wire same
  at false is behind = behind is

pub bytes_at-none : (t : Slot) (messages : List (Slot × Message)) → message_at t messages ≡ None → bytes_at t (wired messages) ≡ []
bytes_at-none t [] found = refl
bytes_at-none t (x ∷ xs) found = at (is_slot t x.0) found (bytes_at-none t xs) where
  at : (b : Bool) → (if b then Some x.1 else message_at t xs) ≡ None → (message_at t xs ≡ None → bytes_at t (wired xs) ≡ [])
      → (if b then wire x.1 else bytes_at t (wired xs)) ≡ []
  at true is behind = absurd (cc)
  at false is behind = behind is

-- ---- what a faithful wire gave of it

-- a message was given whole where it was taken to its end, or as far as is taken, and has fewer bytes than that
all_given : (m : outside.Message) (ended : Bool) → m.ended ≡ ended → Gives m.sent m.given m.ended → length m.sent < take_limit → (m.ended ≡ false → length m.given ≡ take_limit) → m.given ≡ m.sent
all_given m true e is short taken = is.ends e
all_given m false e is short taken = absurd (
    let size : length m.given ≡ take_limit = taken e in
    let whole : length m.sent ≡ length m.given + length is.begins.0 = ap length is.begins.1 ∙ length-append m.given is.begins.0 in
    omega arith)

pub given_whole : (t : Slot) (messages : List (Slot × Message)) (message : Message) (ms : List outside.Message) (more : List (Slot × List ℕ))
    → IsFaithful ms → sends_of ms ≡ wired messages ++ more → message_at t messages ≡ Some message → length (wire message) < take_limit → IsTaken t ms
    → given_of t ms ≡ wire message
given_whole t [] message ms more faithful sends found short taken = absurd (cc)
given_whole t (x ∷ xs) message [] more faithful sends found short taken = absurd (cc)
given_whole t (x ∷ xs) message (m ∷ ms) more faithful sends found short taken =
    let first : ◌≡◌ {A = Slot × List ℕ} (m.slot, m.sent) (x.0, wire x.1) = cc in
    let rest : sends_of ms ≡ wired xs ++ more = cc in
    let slots : m.slot ≡ x.0 = ap (λ (p : Slot × List ℕ). p.0) first in
    let bytes : m.sent ≡ wire x.1 = ap (λ (p : Slot × List ℕ). p.1) first in
    at (is_slot t x.0) refl slots bytes found taken (given_whole t xs message ms more faithful.1 rest) where
      at : (b : Bool) → is_slot t x.0 ≡ b → m.slot ≡ x.0 → m.sent ≡ wire x.1 → (if b then Some x.1 else message_at t xs) ≡ Some message → IsTaken t (m ∷ ms)
          → (message_at t xs ≡ Some message → length (wire message) < take_limit → IsTaken t ms → given_of t ms ≡ wire message)
          → given_of t (m ∷ ms) ≡ wire message
      at true e slots bytes is took behind =
          let here : is_slot t m.slot ≡ true = ap (is_slot t) slots ∙ e in
          let same : x.1 ≡ message = cc in
          let sent : m.sent ≡ wire message = bytes ∙ ap wire same in
          rw here (all_given m m.ended refl faithful.0 (subst (λ (l : List ℕ). length l < take_limit) (sym sent) short) (rw here at took) ∙ sent)
      at false e slots bytes is took behind =
          let other : is_slot t m.slot ≡ false = ap (is_slot t) slots ∙ e in
          rw other (behind is short (rw other at took))
