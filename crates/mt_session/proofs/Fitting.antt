-- What each command leaves of the fit between the clients and a wire that tells its messages.
use Rattle.std.proofs.Common.{◌≡◌, ℕ, ◌+◌, Bool, true, false, ◌||◌, List, [], ◌++◌, length, refl, sym, ap, ◌∙◌, subst, eqb, Some}
use Rattle.std.proofs.lemmas.Bool.{eqb-true, eq-eqb, eqb-false}
use Rattle.std.specs.Option.{is_some}
use Rattle.mt_outside.specs.declared.wire.Slot.{Slot}
use Rattle.mt_outside.specs.Message.{Message, is_slot, same_bool, with_given, with_send, was_sent, given_of, ended_of}
use Rattle.mt_outside.proofs.Given.{was_sent-with_given}
use Rattle.mt_session.specs.declared.party.Party.{Party}
use Rattle.mt_session.specs.declared.party.Standing.TheVariants.{Asked, Answered, Over}
use Rattle.mt_session.specs.Parties.{standing_of, message_count, with_request, with_standing, is_sent, is_acted, sent_by, acted_by}
use Rattle.mt_session.specs.Step.{slot_of}
use Rattle.mt_session.specs.WireFits.{WireFits, IsTaken, take_limit}
use Rattle.mt_session.specs.Command.{NewlyActedAreTaken}
use Rattle.mt_session.proofs.StandingsAfter.{Apart, standing_of-with_standing_same, standing_of-with_standing_other, standing_of-with_request_same, standing_of-with_request_other, standing_of-fresh}
use Rattle.mt_session.proofs.Slots.{slot-refl, slot-equal, was_sent-with_send, given_of-with_send, ended_of-with_send, given_of-with_given, ended_of-with_given, given_of-with_given_other}

-- a fact about each slot: of the two of this message, and of the others
pub by_slot : (P : Slot → Type 0) (k m : ℕ) → P (slot_of k m true) → P (slot_of k m false) → ((t : Slot) → Apart t.client t.message k m → P t) → (t : Slot) → P t
by_slot P k m reply request others t = at (eqb t.client k) (eqb t.message m) refl refl where
  hit : (r : Bool) → P (slot_of k m r)
  hit true = reply
  hit false = request

  at : (a b : Bool) → eqb t.client k ≡ a → eqb t.message m ≡ b → P t
  at true true e f =
      let same : t ≡ slot_of k m t.reply =
      ap (λ (c : ℕ). record { client = c; message = t.message; reply = t.reply }) (eqb-true t.client k e)
      ∙ ap (λ (n : ℕ). record { client = k; message = n; reply = t.reply }) (eqb-true t.message m f) in
      subst P (sym same) (hit t.reply)
  at true false e f = others t (λ x y. eqb-false t.message m f y)
  at false b e f = others t (λ x y. eqb-false t.client k e x)

pub or-true : (b : Bool) → (b || true) ≡ true
or-true true = refl
or-true false = refl

pub or-false : (b : Bool) → (b || false) ≡ b
or-false true = refl
or-false false = refl

or-right : (a b : Bool) → (a || b) ≡ false → b ≡ false
or-right true b e = absurd (cc)
or-right false b e = e

-- the request is not the reply
pub differ : (k m : ℕ) (a b : Bool) → same_bool a b ≡ false → is_slot (slot_of k m a) (slot_of k m b) ≡ false
differ k m a b e = rw (eq-eqb k k refl, eq-eqb m m refl) e

pub apart-slot : (t : Slot) (k m : ℕ) (r : Bool) → Apart t.client t.message k m → is_slot t (slot_of k m r) ≡ false
apart-slot t k m r apart = at (is_slot t (slot_of k m r)) refl where
  at : (b : Bool) → is_slot t (slot_of k m r) ≡ b → is_slot t (slot_of k m r) ≡ false
  at true e = let same = slot-equal t (slot_of k m r) e in absurd (apart (ap (λ s. s.client) same) (ap (λ s. s.message) same))
  at false e = e

-- a slot on which a side has acted is not one on which none has
pub not-fresh : (t s : Slot) (ps : List Party) → is_acted ps t ≡ true → is_acted ps s ≡ false → is_slot t s ≡ false
not-fresh t s ps acted fresh = at (is_slot t s) refl where
  at : (b : Bool) → is_slot t s ≡ b → is_slot t s ≡ false
  at true e = absurd (let same = ap (is_acted ps) (slot-equal t s e) in cc)
  at false e = e

-- the first bytes that are given of a message
pub first-given : (s : Slot) (bytes : List ℕ) (ended : Bool) (ps : List Party) (ms : List Message) → WireFits ps ms → is_acted ps s ≡ false → is_sent ps s ≡ true
    → given_of s (with_given s bytes ended ms) ≡ bytes
first-given s bytes ended ps ms fits fresh sent =
    given_of-with_given s bytes ended ms (fits.sent s ∙ sent) ∙ ap (λ l. l ++ bytes) (fits.fresh s fresh)

-- where they end at the end or at the limit, it was taken as far as one is
pub first-taken : (s : Slot) (bytes : List ℕ) (ended : Bool) (ps : List Party) (ms : List Message) → WireFits ps ms → is_acted ps s ≡ false → is_sent ps s ≡ true
    → (ended ≡ false → length bytes ≡ take_limit) → IsTaken s (with_given s bytes ended ms)
first-taken s bytes ended ps ms fits fresh sent whole not_ended =
    ap length (first-given s bytes ended ps ms fits fresh sent)
    ∙ whole (or-right (ended_of s ms) ended (sym (ended_of-with_given s bytes ended ms (fits.sent s ∙ sent)) ∙ not_ended))

-- ---- a load

pub load-fits : (k : ℕ) (bytes : List ℕ) (ps : List Party) (ms : List Message) → WireFits ps ms
    → WireFits (with_request k ps) (with_send (slot_of k (message_count k ps + 1) false) bytes ms)
load-fits k bytes ps ms fits =
    let m = message_count k ps + 1 in
    let s = slot_of k m false in
    let new = with_send s bytes ms in
    let asked = standing_of-with_request_same k ps in
    let none = standing_of-fresh k ps in
    let same_standing = λ (t : Slot) (apart : Apart t.client t.message k m). standing_of-with_request_other k t.client t.message ps apart in
    record {
      sent = by_slot (λ t. was_sent t new ≡ is_sent (with_request k ps) t) k m
          (was_sent-with_send (slot_of k m true) s bytes ms
          ∙ ap (λ r. r || is_slot (slot_of k m true) s) (fits.sent (slot_of k m true) ∙ ap (sent_by true) none)
          ∙ differ k m true false refl ∙ sym (ap (sent_by true) asked))
          (was_sent-with_send s s bytes ms ∙ ap (λ r. was_sent s ms || r) (slot-refl s) ∙ or-true (was_sent s ms) ∙ sym (ap (sent_by false) asked))
          (λ t apart. was_sent-with_send t s bytes ms ∙ ap (λ r. was_sent t ms || r) (apart-slot t k m false apart) ∙ or-false (was_sent t ms)
          ∙ fits.sent t ∙ sym (ap (sent_by t.reply) (same_standing t apart)));
      fresh = by_slot (λ t. is_acted (with_request k ps) t ≡ false → given_of t new ≡ []) k m
          (λ _. given_of-with_send (slot_of k m true) s bytes ms ∙ fits.fresh (slot_of k m true) (ap (acted_by true) none))
          (λ _. given_of-with_send s s bytes ms ∙ fits.fresh s (ap (acted_by false) none))
          (λ t apart still. given_of-with_send t s bytes ms ∙ fits.fresh t (sym (ap (acted_by t.reply) (same_standing t apart)) ∙ still));
    }

-- no side acts on a message in a load
pub load-acts : (k : ℕ) (ps : List Party) (t : Slot) → is_acted (with_request k ps) t ≡ true → is_acted ps t ≡ true
load-acts k ps =
    let m = message_count k ps + 1 in
    let asked = standing_of-with_request_same k ps in
    by_slot (λ t. is_acted (with_request k ps) t ≡ true → is_acted ps t ≡ true) k m
    (λ acted. absurd (let e = ap (acted_by true) asked in cc))
    (λ acted. absurd (let e = ap (acted_by false) asked in cc))
    (λ t apart acted. sym (ap (acted_by t.reply) (standing_of-with_request_other k t.client t.message ps apart)) ∙ acted)

-- ---- a serve

pub serve-fits : (k m : ℕ) (reply bytes : List ℕ) (ended : Bool) (ps : List Party) (ms : List Message) → WireFits ps ms → standing_of k m ps ≡ Some Asked
    → WireFits (with_standing k m Answered 0 ps) (with_send (slot_of k m true) reply (with_given (slot_of k m false) bytes ended ms))
serve-fits k m reply bytes ended ps ms fits asked =
    let request_slot = slot_of k m false in
    let reply_slot = slot_of k m true in
    let mid = with_given request_slot bytes ended ms in
    let new = with_send reply_slot reply mid in
    let now = standing_of-with_standing_same k m Answered 0 ps (ap is_some asked) in
    let same_standing = λ (t : Slot) (apart : Apart t.client t.message k m). standing_of-with_standing_other k m t.client t.message Answered 0 ps apart in
    let given_same = λ (t : Slot) (other : is_slot t request_slot ≡ false). given_of-with_send t reply_slot reply mid ∙ given_of-with_given_other t request_slot bytes ended ms other in
    record {
      sent = by_slot (λ t. was_sent t new ≡ is_sent (with_standing k m Answered 0 ps) t) k m
          (was_sent-with_send reply_slot reply_slot reply mid ∙ ap (λ r. was_sent reply_slot mid || r) (slot-refl reply_slot) ∙ or-true (was_sent reply_slot mid) ∙ sym (ap (sent_by true) now))
          (was_sent-with_send request_slot reply_slot reply mid
          ∙ ap (λ r. r || is_slot request_slot reply_slot) (was_sent-with_given request_slot request_slot bytes ended ms ∙ fits.sent request_slot ∙ ap (sent_by false) asked)
          ∙ sym (ap (sent_by false) now))
          (λ t apart. was_sent-with_send t reply_slot reply mid ∙ ap (λ r. was_sent t mid || r) (apart-slot t k m true apart) ∙ or-false (was_sent t mid)
          ∙ was_sent-with_given t request_slot bytes ended ms ∙ fits.sent t ∙ sym (ap (sent_by t.reply) (same_standing t apart)));
      fresh = by_slot (λ t. is_acted (with_standing k m Answered 0 ps) t ≡ false → given_of t new ≡ []) k m
          (λ _. given_same reply_slot (differ k m true false refl) ∙ fits.fresh reply_slot (ap (acted_by true) asked))
          (λ still. absurd (let e = ap (acted_by false) now in cc))
          (λ t apart still. given_same t (apart-slot t k m false apart) ∙ fits.fresh t (sym (ap (acted_by t.reply) (same_standing t apart)) ∙ still));
    }

pub serve-taken : (k m : ℕ) (reply bytes : List ℕ) (ended : Bool) (ps : List Party) (ms : List Message) → WireFits ps ms → standing_of k m ps ≡ Some Asked
    → (ended ≡ false → length bytes ≡ take_limit)
    → NewlyActedAreTaken ps (with_standing k m Answered 0 ps) (with_send (slot_of k m true) reply (with_given (slot_of k m false) bytes ended ms))
serve-taken k m reply bytes ended ps ms fits asked whole =
    let request_slot = slot_of k m false in
    let reply_slot = slot_of k m true in
    let mid = with_given request_slot bytes ended ms in
    let new = with_send reply_slot reply mid in
    let now = standing_of-with_standing_same k m Answered 0 ps (ap is_some asked) in
    by_slot (λ t. is_acted ps t ≡ false → is_acted (with_standing k m Answered 0 ps) t ≡ true → IsTaken t new) k m
    (λ fresh acted. absurd (let e = ap (acted_by true) now in cc))
    (λ fresh acted not_ended. ap length (given_of-with_send request_slot reply_slot reply mid)
    ∙ first-taken request_slot bytes ended ps ms fits (ap (acted_by false) asked) (ap (sent_by false) asked) whole
    (sym (ended_of-with_send request_slot reply_slot reply mid) ∙ not_ended))
    (λ t apart fresh acted. absurd (
    let e = sym acted ∙ ap (acted_by t.reply) (standing_of-with_standing_other k m t.client t.message Answered 0 ps apart) ∙ fresh in cc))

-- ---- a delivery

pub deliver-fits : (k m more : ℕ) (bytes : List ℕ) (ended : Bool) (ps : List Party) (ms : List Message) → WireFits ps ms → standing_of k m ps ≡ Some Answered
    → WireFits (with_standing k m Over more ps) (with_given (slot_of k m true) bytes ended ms)
deliver-fits k m more bytes ended ps ms fits answered =
    let request_slot = slot_of k m false in
    let reply_slot = slot_of k m true in
    let new = with_given reply_slot bytes ended ms in
    let now = standing_of-with_standing_same k m Over more ps (ap is_some answered) in
    let same_standing = λ (t : Slot) (apart : Apart t.client t.message k m). standing_of-with_standing_other k m t.client t.message Over more ps apart in
    record {
      sent = by_slot (λ t. was_sent t new ≡ is_sent (with_standing k m Over more ps) t) k m
          (was_sent-with_given reply_slot reply_slot bytes ended ms ∙ fits.sent reply_slot ∙ ap (sent_by true) answered ∙ sym (ap (sent_by true) now))
          (was_sent-with_given request_slot reply_slot bytes ended ms ∙ fits.sent request_slot ∙ ap (sent_by false) answered ∙ sym (ap (sent_by false) now))
          (λ t apart. was_sent-with_given t reply_slot bytes ended ms ∙ fits.sent t ∙ sym (ap (sent_by t.reply) (same_standing t apart)));
      fresh = by_slot (λ t. is_acted (with_standing k m Over more ps) t ≡ false → given_of t new ≡ []) k m
          (λ still. absurd (let e = ap (acted_by true) now in cc))
          (λ still. absurd (let e = ap (acted_by false) now in cc))
          (λ t apart still. given_of-with_given_other t reply_slot bytes ended ms (apart-slot t k m true apart)
          ∙ fits.fresh t (sym (ap (acted_by t.reply) (same_standing t apart)) ∙ still));
    }

pub deliver-taken : (k m more : ℕ) (bytes : List ℕ) (ended : Bool) (ps : List Party) (ms : List Message) → WireFits ps ms → standing_of k m ps ≡ Some Answered
    → (ended ≡ false → length bytes ≡ take_limit)
    → NewlyActedAreTaken ps (with_standing k m Over more ps) (with_given (slot_of k m true) bytes ended ms)
deliver-taken k m more bytes ended ps ms fits answered whole =
    let reply_slot = slot_of k m true in
    let new = with_given reply_slot bytes ended ms in
    by_slot (λ t. is_acted ps t ≡ false → is_acted (with_standing k m Over more ps) t ≡ true → IsTaken t new) k m
    (λ fresh acted. first-taken reply_slot bytes ended ps ms fits (ap (acted_by true) answered) (ap (sent_by true) answered) whole)
    (λ fresh acted. absurd (let e = ap (acted_by false) answered in cc))
    (λ t apart fresh acted. absurd (
    let e = sym acted ∙ ap (acted_by t.reply) (standing_of-with_standing_other k m t.client t.message Over more ps apart) ∙ fresh in cc))
