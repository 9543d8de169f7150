-- The messages that a wire in memory stores, as it tells them.
use Rattle.std.proofs.Common.{◌≡◌, ◌<◌, ◌≤◌, ◌+◌, ◌-◌, ◌++◌, ℕ, suc, zero, Bool, true, false, not, ◌&&◌, ◌||◌, List, [], ◌∷◌, length, take, drop, get_or, set, refl, sym, ap, subst, ◌∙◌, arith, take-append-drop, cond, position, MatchOption, Option, Some, None, Result, Ok, Err, OnOk, OnErr}
use mathlib.Core.Bool.{beq}
use Rattle.std.specs.Vec.{vec_len}
use Rattle.std.specs.List.{list_any, position_or_len}
use Rattle.std.proofs.Math.Dec.{eqb, ltb}
use Rattle.std.proofs.lemmas.Bool.{eqb-true, eq-eqb, ltb-true, ltb-false}
use Rattle.std.proofs.lemmas.List.Folds.{list_any-append}
use Rattle.std.proofs.lemmas.List.{take_all, length-take-le, get_or_default}
use Rattle.mt_outside.specs.declared.wire.Slot.{Slot}
use Rattle.mt_outside.specs.declared.stored_message.StoredMessage.{StoredMessage}
use Rattle.mt_outside.specs.Message.{is_slot, same_bool, given_more, with_given, was_sent, sent_of, given_of, ended_of, Gives, GivesAll}
use Rattle.mt_outside.specs.Stored.{message_of, messages_of, slots_of, are_distinct, place_in, to_give, arrivals}

-- ---- one more message

pub messages_of-push : (ks : List StoredMessage) (k : StoredMessage) → messages_of (ks ++ k ∷ []) ≡ messages_of ks ++ message_of k ∷ []
messages_of-push [] k = refl
messages_of-push (x ∷ xs) k = ap (λ l. message_of x ∷ l) (messages_of-push xs k)

pub slots_of-push : (ks : List StoredMessage) (k : StoredMessage) → slots_of (ks ++ k ∷ []) ≡ slots_of ks ++ k.slot ∷ []
slots_of-push [] k = refl
slots_of-push (x ∷ xs) k = ap (λ l. x.slot ∷ l) (slots_of-push xs k)

pub to_give-push : (arriving : Slot → List ℕ → List ℕ) (ks : List StoredMessage) (k : StoredMessage)
    → to_give ks ≡ arrivals arriving ks → k.gives.items ≡ arriving k.slot k.sent.items → to_give (ks ++ k ∷ []) ≡ arrivals arriving (ks ++ k ∷ [])
to_give-push arriving [] k same one = ap (λ l. l ∷ []) one
to_give-push arriving (x ∷ xs) k same one =
    let head : x.gives.items ≡ arriving x.slot x.sent.items = cc in
    let rest = to_give-push arriving xs k (cc) one in
    ap (λ h. h ∷ to_give (xs ++ k ∷ [])) head ∙ ap (λ t. arriving x.slot x.sent.items ∷ t) rest

-- ---- slots

same_bool-true : (a b : Bool) → same_bool a b ≡ true → a ≡ b
same_bool-true true true e = refl
same_bool-true false false e = refl
same_bool-true true false e = absurd (cc)
same_bool-true false true e = absurd (cc)

bool_self : (b : Bool) → same_bool b b ≡ true
bool_self true = refl
bool_self false = refl

and_left : (a b : Bool) → (a && b) ≡ true → a ≡ true
and_left true b e = refl
and_left false b e = absurd (cc)

and_right : (a b : Bool) → (a && b) ≡ true → b ≡ true
and_right true b e = e
and_right false b e = absurd (cc)

not-true : (b : Bool) → not b ≡ true → b ≡ false
not-true true e = absurd (cc)
not-true false e = refl

slot_at : ℕ → ℕ → Bool → Slot
slot_at client message reply = record { client = client; message = message; reply = reply }

pub slots_same : (a b : Slot) → is_slot a b ≡ true → a ≡ b
unfolding slot_at
slots_same a b e =
    let client : a.client ≡ b.client = eqb-true _ _ (and_left _ _ e) in
    let others = and_right (eqb a.client b.client) _ e in
    let message : a.message ≡ b.message = eqb-true _ _ (and_left _ _ others) in
    let reply : a.reply ≡ b.reply = same_bool-true _ _ (and_right (eqb a.message b.message) _ others) in
    ap (λ c. slot_at c a.message a.reply) client ∙ ap (λ m. slot_at b.client m a.reply) message ∙ ap (slot_at b.client b.message) reply

pub is_slot-self : (slot : Slot) → is_slot slot slot ≡ true
is_slot-self slot = rw (eq-eqb slot.client slot.client refl, eq-eqb slot.message slot.message refl) (bool_self slot.reply)

pub is_slot-swap : (a b : Slot) → is_slot a b ≡ is_slot b a
is_slot-swap a b = at (is_slot a b) (is_slot b a) refl refl where
  at : (x y : Bool) → is_slot a b ≡ x → is_slot b a ≡ y → x ≡ y
  at true y here there = sym (is_slot-self b) ∙ ap (λ c. is_slot b c) (sym (slots_same a b here)) ∙ there
  at false true here there = sym here ∙ ap (λ c. is_slot a c) (slots_same b a there) ∙ is_slot-self a
  at false false here there = refl

-- a slot is found in the list of slots where a message was sent into it
pub sent-slots : (slot : Slot) (ks : List StoredMessage) → was_sent slot (messages_of ks) ≡ list_any (is_slot slot) (slots_of ks)
sent-slots slot [] = refl
sent-slots slot (k ∷ ks) = ap (λ b. is_slot slot k.slot || b) (sent-slots slot ks)

pub length-slots : (ks : List StoredMessage) → length (slots_of ks) ≡ length ks
length-slots [] = refl
length-slots (k ∷ ks) = ap suc (length-slots ks)

places : (slot : Slot) (test : Slot → Bool) → ((s : Slot) → test s ≡ is_slot slot s) → (ks : List StoredMessage) → position_or_len test (slots_of ks) ≡ place_in slot ks
places slot test same [] = refl
places slot test same (k ∷ ks) =
    ap (λ b. cond (not b) (1 + position_or_len test (slots_of ks)) 0) (same k.slot) ∙ at (is_slot slot k.slot) (places slot test same ks) where
      at : (b : Bool) → position_or_len test (slots_of ks) ≡ place_in slot ks → cond (not b) (1 + position_or_len test (slots_of ks)) 0 ≡ cond b 0 (suc (place_in slot ks))
      at true rest = refl
      at false rest = let one : 1 + position_or_len test (slots_of ks) ≡ suc (position_or_len test (slots_of ks)) = omega arith in one ∙ ap suc rest

pub length-messages : (ks : List StoredMessage) → length (messages_of ks) ≡ length ks
length-messages [] = refl
length-messages (k ∷ ks) = ap suc (length-messages ks)

pub place-sent : (slot : Slot) (ks : List StoredMessage) → was_sent slot (messages_of ks) ≡ true → place_in slot ks < length ks
place-sent slot [] sent = absurd (cc)
place-sent slot (k ∷ ks) sent = at (is_slot slot k.slot) refl (place-sent slot ks) where
  at : (b : Bool) → is_slot slot k.slot ≡ b → (was_sent slot (messages_of ks) ≡ true → place_in slot ks < length ks) → place_in slot (k ∷ ks) < length (k ∷ ks)
  at true e rest = rw e (omega arith)
  at false e rest = rw e (let below = rest (rw e at sent) in omega arith)

pub place-unsent : (slot : Slot) (ks : List StoredMessage) → length ks ≤ place_in slot ks → was_sent slot (messages_of ks) ≡ false
place-unsent slot ks past = at (was_sent slot (messages_of ks)) refl where
  at : (b : Bool) → was_sent slot (messages_of ks) ≡ b → b ≡ false
  at true sent = absurd (let inside = place-sent slot ks sent in omega arith)
  at false sent = refl

-- ---- a message of which more is given

pub messages_of-given : (slot : Slot) (ks : List StoredMessage) (new d : StoredMessage) (bytes : List ℕ) (ended : Bool)
    → place_in slot ks < length ks → message_of new ≡ given_more bytes ended (message_of (get_or ks (place_in slot ks) d))
    → messages_of (set ks (place_in slot ks) new) ≡ with_given slot bytes ended (messages_of ks)
messages_of-given slot [] new d bytes ended inside same = absurd (omega arith)
messages_of-given slot (k ∷ ks) new d bytes ended inside same = at (is_slot slot k.slot) refl (messages_of-given slot ks new d bytes ended) where
  at : (b : Bool) → is_slot slot k.slot ≡ b
      → (place_in slot ks < length ks → message_of new ≡ given_more bytes ended (message_of (get_or ks (place_in slot ks) d))
      → messages_of (set ks (place_in slot ks) new) ≡ with_given slot bytes ended (messages_of ks))
      → messages_of (set (k ∷ ks) (place_in slot (k ∷ ks)) new) ≡ with_given slot bytes ended (messages_of (k ∷ ks))
  at true e rest = rw e (ap (λ h. h ∷ messages_of ks) (rw e at same))
  at false e rest = rw e (ap (λ t. message_of k ∷ t) (rest (let within = rw e at inside in omega arith) (rw e at same)))

pub slots_of-set : (ks : List StoredMessage) (i : ℕ) (new d : StoredMessage) → i < length ks → new.slot ≡ (get_or ks i d).slot → slots_of (set ks i new) ≡ slots_of ks
slots_of-set [] i new d inside same = absurd (omega arith)
slots_of-set (k ∷ ks) zero new d inside same = ap (λ s. s ∷ slots_of ks) same
slots_of-set (k ∷ ks) (suc i) new d inside same = ap (λ l. k.slot ∷ l) (slots_of-set ks i new d (omega arith) same)

-- it is to give what it was to give before
pub to_give-set : (arriving : Slot → List ℕ → List ℕ) (ks : List StoredMessage) (i : ℕ) (new d : StoredMessage)
    → to_give ks ≡ arrivals arriving ks → i < length ks
    → new.slot ≡ (get_or ks i d).slot → new.sent.items ≡ (get_or ks i d).sent.items → new.gives.items ≡ (get_or ks i d).gives.items
    → to_give (set ks i new) ≡ arrivals arriving (set ks i new)
to_give-set arriving [] i new d same inside slot sent gives = absurd (omega arith)
to_give-set arriving (k ∷ ks) zero new d same inside slot sent gives =
    let head : k.gives.items ≡ arriving k.slot k.sent.items = cc in
    let rest : to_give ks ≡ arrivals arriving ks = cc in
    let one : new.gives.items ≡ arriving new.slot new.sent.items =
    gives ∙ head ∙ ap (λ s. arriving s k.sent.items) (sym slot) ∙ ap (arriving new.slot) (sym sent) in
    ap (λ h. h ∷ to_give ks) one ∙ ap (λ t. arriving new.slot new.sent.items ∷ t) rest
to_give-set arriving (k ∷ ks) (suc i) new d same inside slot sent gives =
    let head : k.gives.items ≡ arriving k.slot k.sent.items = cc in
    let rest = to_give-set arriving ks i new d (cc) (omega arith) slot sent gives in
    ap (λ h. h ∷ to_give (set ks i new)) head ∙ ap (λ t. arriving k.slot k.sent.items ∷ t) rest

-- ---- a message that is to give other bytes, of which none was given

pub messages_of-fresh : (slot : Slot) (ks : List StoredMessage) (new d : StoredMessage) → place_in slot ks < length ks
    → given_of slot (messages_of ks) ≡ [] → ended_of slot (messages_of ks) ≡ false
    → new.slot ≡ (get_or ks (place_in slot ks) d).slot → new.sent.items ≡ (get_or ks (place_in slot ks) d).sent.items → take new.at new.gives.items ≡ [] → new.ended ≡ false
    → messages_of (set ks (place_in slot ks) new) ≡ messages_of ks
messages_of-fresh slot [] new d inside given ended same sent none unended = absurd (omega arith)
messages_of-fresh slot (k ∷ ks) new d inside given ended same sent none unended = at (is_slot slot k.slot) refl (messages_of-fresh slot ks new d) where
  at : (b : Bool) → is_slot slot k.slot ≡ b
      → (place_in slot ks < length ks → given_of slot (messages_of ks) ≡ [] → ended_of slot (messages_of ks) ≡ false
      → new.slot ≡ (get_or ks (place_in slot ks) d).slot → new.sent.items ≡ (get_or ks (place_in slot ks) d).sent.items → take new.at new.gives.items ≡ [] → new.ended ≡ false
      → messages_of (set ks (place_in slot ks) new) ≡ messages_of ks)
      → messages_of (set (k ∷ ks) (place_in slot (k ∷ ks)) new) ≡ messages_of (k ∷ ks)
  at true e rest =
      let here : new.slot ≡ k.slot = rw e at same in
      let bytes : new.sent.items ≡ k.sent.items = rw e at sent in
      let before : take k.at k.gives.items ≡ [] = rw e at given in
      let before_end : k.ended ≡ false = rw e at ended in
      rw e (ap (λ h. h ∷ messages_of ks) (rw (here, bytes, none, before, unended, before_end) refl))
  at false e rest =
      rw e (ap (λ t. message_of k ∷ t) (rest (let within = rw e at inside in omega arith) (rw e at given) (rw e at ended) (rw e at same) (rw e at sent) none unended))

-- two ways of arriving that differ in one slot alone
abbrev pub AgreeOff : Slot → (Slot → List ℕ → List ℕ) → (Slot → List ℕ → List ℕ) → Type 0
AgreeOff slot before now = (other : Slot) (bytes : List ℕ) → is_slot slot other ≡ false → before other bytes ≡ now other bytes

-- no message of that slot was sent
pub arrivals-off : (slot : Slot) (before now : Slot → List ℕ → List ℕ) (ks : List StoredMessage) → AgreeOff slot before now → list_any (is_slot slot) (slots_of ks) ≡ false
    → arrivals before ks ≡ arrivals now ks
arrivals-off slot before now [] agree absent = refl
arrivals-off slot before now (k ∷ ks) agree absent = at (is_slot slot k.slot) refl (arrivals-off slot before now ks agree) where
  at : (b : Bool) → is_slot slot k.slot ≡ b → (list_any (is_slot slot) (slots_of ks) ≡ false → arrivals before ks ≡ arrivals now ks) → arrivals before (k ∷ ks) ≡ arrivals now (k ∷ ks)
  at true e rest = absurd (let none = rw e at absent in cc)
  at false e rest = ap (λ h. h ∷ arrivals before ks) (agree k.slot k.sent.items e) ∙ ap (λ t. now k.slot k.sent.items ∷ t) (rest (rw e at absent))

-- the one message of that slot is to give what arrives now
pub to_give-changed : (slot : Slot) (before now : Slot → List ℕ → List ℕ) (ks : List StoredMessage) (new d : StoredMessage) → AgreeOff slot before now
    → are_distinct (slots_of ks) ≡ true → to_give ks ≡ arrivals before ks → place_in slot ks < length ks
    → new.slot ≡ (get_or ks (place_in slot ks) d).slot → new.gives.items ≡ now new.slot new.sent.items
    → to_give (set ks (place_in slot ks) new) ≡ arrivals now (set ks (place_in slot ks) new)
to_give-changed slot before now [] new d agree distinct same inside here gives = absurd (omega arith)
to_give-changed slot before now (k ∷ ks) new d agree distinct same inside here gives = at (is_slot slot k.slot) refl (to_give-changed slot before now ks new d agree) where
  rest_same : to_give ks ≡ arrivals before ks
  rest_same = cc

  head_same : k.gives.items ≡ before k.slot k.sent.items
  head_same = cc

  at : (b : Bool) → is_slot slot k.slot ≡ b
      → (are_distinct (slots_of ks) ≡ true → to_give ks ≡ arrivals before ks → place_in slot ks < length ks
      → new.slot ≡ (get_or ks (place_in slot ks) d).slot → new.gives.items ≡ now new.slot new.sent.items
      → to_give (set ks (place_in slot ks) new) ≡ arrivals now (set ks (place_in slot ks) new))
      → to_give (set (k ∷ ks) (place_in slot (k ∷ ks)) new) ≡ arrivals now (set (k ∷ ks) (place_in slot (k ∷ ks)) new)
  at true e rest =
      let alone : list_any (is_slot slot) (slots_of ks) ≡ false =
      subst (λ s. list_any (is_slot s) (slots_of ks) ≡ false) (sym (slots_same slot k.slot e)) (not-true (list_any (is_slot k.slot) (slots_of ks)) (and_left _ _ distinct)) in
      rw e (ap (λ h. h ∷ to_give ks) gives ∙ ap (λ t. now new.slot new.sent.items ∷ t) (rest_same ∙ arrivals-off slot before now ks agree alone))
  at false e rest =
      let behind = rest (and_right (not (list_any (is_slot k.slot) (slots_of ks))) _ distinct) rest_same (let within = rw e at inside in omega arith) (rw e at here) gives in
      rw e (ap (λ h. h ∷ to_give (set ks (place_in slot ks) new)) (head_same ∙ agree k.slot k.sent.items e) ∙ ap (λ t. now k.slot k.sent.items ∷ t) behind)

-- no slot stands twice after one more
pub distinct-push : (ss : List Slot) (slot : Slot) → are_distinct ss ≡ true → list_any (is_slot slot) ss ≡ false → are_distinct (ss ++ slot ∷ []) ≡ true
distinct-push [] slot distinct absent = refl
distinct-push (s ∷ ss) slot distinct absent = at (is_slot slot s) refl (distinct-push ss slot) where
  last : list_any (is_slot s) ss ≡ false → is_slot s slot ≡ false → list_any (is_slot s) (ss ++ slot ∷ []) ≡ false
  last none apart = list_any-append (is_slot s) ss (slot ∷ []) ∙ ap (λ b. b || (is_slot s slot || false)) none ∙ ap (λ b. b || false) apart

  at : (b : Bool) → is_slot slot s ≡ b → (are_distinct ss ≡ true → list_any (is_slot slot) ss ≡ false → are_distinct (ss ++ slot ∷ []) ≡ true) → are_distinct (s ∷ ss ++ slot ∷ []) ≡ true
  at true e rest = absurd (let none = rw e at absent in cc)
  at false e rest =
      let alone = last (not-true (list_any (is_slot s) ss) (and_left _ _ distinct)) (is_slot-swap s slot ∙ e) in
      rw alone (rest (and_right (not (list_any (is_slot s) ss)) _ distinct) (rw e at absent))

-- an item is the same, whichever way it was read
pub one_item : {X : Type 0} (xs : List X) (i : ℕ) (a b : X) → i < length xs → a ≡ get_or xs i a → b ≡ get_or xs i b → a ≡ b
one_item xs i a b inside first second = first ∙ get_or_default xs i a b inside ∙ sym second

-- after a push that may have failed
pub after_push : {X T E : Type 0} (P : List X → Type 0) (r : Result T E) (old grown new : List X) → OnOk r (new ≡ grown) → OnErr r (new ≡ old) → P grown → P old → P new
after_push P (Ok x) old grown new ok err more same = subst P (sym ok) more
after_push P (Err e) old grown new ok err more same = subst P (sym err) same

-- ---- what each message gives

gives_one : (k : StoredMessage) (whole : List ℕ) → k.gives.items ≡ whole → Gives whole (take k.at k.gives.items) k.ended
gives_one k whole same = record {
  begins = (drop k.at k.gives.items, sym same ∙ sym (take-append-drop k.at k.gives.items));
  ends = λ ended. take_all k.at k.gives.items (omega (arith, k.over ended, k.gives.ok.0)) ∙ same;
}

pub gives_all : (arriving : Slot → List ℕ → List ℕ) (ks : List StoredMessage) → to_give ks ≡ arrivals arriving ks → GivesAll arriving (messages_of ks)
gives_all arriving [] same = tt
gives_all arriving (k ∷ ks) same = (gives_one k (arriving k.slot k.sent.items) (cc), gives_all arriving ks (cc))

-- ---- the message of a slot

pub ended-place : (slot : Slot) (ks : List StoredMessage) (d : StoredMessage) → place_in slot ks < length ks → ended_of slot (messages_of ks) ≡ (get_or ks (place_in slot ks) d).ended
ended-place slot [] d inside = absurd (omega arith)
ended-place slot (k ∷ ks) d inside = at (is_slot slot k.slot) refl (ended-place slot ks d) where
  at : (b : Bool) → is_slot slot k.slot ≡ b → (place_in slot ks < length ks → ended_of slot (messages_of ks) ≡ (get_or ks (place_in slot ks) d).ended)
      → ended_of slot (messages_of (k ∷ ks)) ≡ (get_or (k ∷ ks) (place_in slot (k ∷ ks)) d).ended
  at true e rest = rw e refl
  at false e rest = rw e (rest (let within = rw e at inside in omega arith))

pub slot-place : (slot : Slot) (ks : List StoredMessage) (d : StoredMessage) → place_in slot ks < length ks → (get_or ks (place_in slot ks) d).slot ≡ slot
slot-place slot [] d inside = absurd (omega arith)
slot-place slot (k ∷ ks) d inside = at (is_slot slot k.slot) refl (slot-place slot ks d) where
  at : (b : Bool) → is_slot slot k.slot ≡ b → (place_in slot ks < length ks → (get_or ks (place_in slot ks) d).slot ≡ slot) → (get_or (k ∷ ks) (place_in slot (k ∷ ks)) d).slot ≡ slot
  at true e rest = rw e (sym (slots_same slot k.slot e))
  at false e rest = rw e (rest (let within = rw e at inside in omega arith))

left_one : (arriving : Slot → List ℕ → List ℕ) (slot : Slot) (k : StoredMessage) → is_slot slot k.slot ≡ true → k.gives.items ≡ arriving k.slot k.sent.items
    → length (arriving slot k.sent.items) - length (take k.at k.gives.items) ≡ vec_len k.gives - k.at
left_one arriving slot k here same =
    let whole : length (arriving slot k.sent.items) ≡ length k.gives.items =
    ap (λ s. length (arriving s k.sent.items)) (slots_same slot k.slot here) ∙ sym (ap length same) in
    let inside : k.at ≤ length k.gives.items = omega (arith, k.inside, k.gives.ok.0) in
    omega (arith, whole, length-take-le k.at k.gives.items inside, k.gives.ok.0)

-- how many bytes are left to give
pub left-place : (arriving : Slot → List ℕ → List ℕ) (slot : Slot) (ks : List StoredMessage) (d : StoredMessage)
    → place_in slot ks < length ks → to_give ks ≡ arrivals arriving ks
    → length (arriving slot (sent_of slot (messages_of ks))) - length (given_of slot (messages_of ks))
    ≡ vec_len (get_or ks (place_in slot ks) d).gives - (get_or ks (place_in slot ks) d).at
left-place arriving slot [] d inside same = absurd (omega arith)
left-place arriving slot (k ∷ ks) d inside same = at (is_slot slot k.slot) refl (left-place arriving slot ks d) where
  head : k.gives.items ≡ arriving k.slot k.sent.items
  head = cc

  at : (b : Bool) → is_slot slot k.slot ≡ b
      → (place_in slot ks < length ks → to_give ks ≡ arrivals arriving ks → length (arriving slot (sent_of slot (messages_of ks))) - length (given_of slot (messages_of ks))
      ≡ vec_len (get_or ks (place_in slot ks) d).gives - (get_or ks (place_in slot ks) d).at)
      → length (arriving slot (sent_of slot (messages_of (k ∷ ks)))) - length (given_of slot (messages_of (k ∷ ks)))
      ≡ vec_len (get_or (k ∷ ks) (place_in slot (k ∷ ks)) d).gives - (get_or (k ∷ ks) (place_in slot (k ∷ ks)) d).at
  at true e rest = rw e (left_one arriving slot k e head)
  at false e rest = rw e (rest (let within = rw e at inside in omega arith) (cc))

-- the derived test of two truth values
pub beq-same : (a b : Bool) → beq a b ≡ same_bool a b
beq-same true true = refl
beq-same true false = refl
beq-same false true = refl
beq-same false false = refl

pub any-beq : (slot : Slot) (test : Slot → Bool) → ((s : Slot) → test s ≡ is_slot slot s) → (ss : List Slot) → list_any test ss ≡ list_any (is_slot slot) ss
any-beq slot test same [] = refl
any-beq slot test same (s ∷ ss) = ap (λ b. b || list_any test ss) (same s) ∙ ap (λ b. is_slot slot s || b) (any-beq slot test same ss)

-- the place at which a table of the slots finds it, whose test of two slots is this one
pub place_at : (slot : Slot) (ks : List StoredMessage) (test : Slot → Bool) → ((s : Slot) → test s ≡ is_slot slot s) → (o : Option ℕ) → o ≡ position test (slots_of ks)
    → MatchOption o (was_sent slot (messages_of ks) ≡ false) (λ i. (i ≡ place_in slot ks) × (i < length ks))
place_at slot ks test same o is = subst Found (sym is) (at (ltb (position_or_len test (slots_of ks)) (length (slots_of ks))) refl) where
  Found : Option ℕ → Type 0
  Found o = MatchOption o (was_sent slot (messages_of ks) ≡ false) (λ i. (i ≡ place_in slot ks) × (i < length ks))

  place : position_or_len test (slots_of ks) ≡ place_in slot ks
  place = places slot test same ks

  at : (b : Bool) → ltb (position_or_len test (slots_of ks)) (length (slots_of ks)) ≡ b → Found (cond b (Some (position_or_len test (slots_of ks))) None)
  at true e = let inside = ltb-true _ _ e in (place, omega (arith, inside, length-slots ks))
  at false e = let past = ltb-false _ _ e in place-unsent slot ks (omega (arith, past, length-slots ks, place))
