-- The connections of a door in memory, as it tells them.
use Rattle.std.proofs.Common.{◌≡◌, ◌<◌, ◌+◌, ◌++◌, ℕ, suc, zero, List, [], ◌∷◌, length, drop, get_or, set, map, refl, sym, ap, subst, ◌∙◌, arith}
use Rattle.mt_outside.specs.declared.stored_connection.StoredConnection.{StoredConnection}
use Rattle.mt_outside.specs.Connection.{Connection, fresh, on_last, OfLast}
use Rattle.mt_outside.specs.Connections.{connection_of, fresh_of, incoming_of, accepted_of, outgoing_at}

-- the connections from this one on are as they were made
abbrev pub Awaiting : ℕ → List StoredConnection → Type 0
Awaiting n ks = drop n (map connection_of ks) ≡ drop n (map fresh_of ks)

-- one more is accepted
accepted_suc : (n : ℕ) (ks : List StoredConnection) → n < length ks → Awaiting n ks
    → accepted_of (suc n) ks ≡ accepted_of n ks ++ fresh (get_or (incoming_of ks) n []) ∷ []
accepted_suc n [] inside awaiting = absurd (omega arith)
accepted_suc zero (k ∷ ks) inside awaiting = let first : connection_of k ≡ fresh_of k = cc in ap (λ t. t ∷ []) first
accepted_suc (suc n) (k ∷ ks) inside awaiting = ap (λ ts. connection_of k ∷ ts) (accepted_suc n ks (omega arith) awaiting)

pub accepted_more : (n : ℕ) (ks : List StoredConnection) → n < length ks → Awaiting n ks
    → accepted_of (n + 1) ks ≡ accepted_of n ks ++ fresh (get_or (incoming_of ks) n []) ∷ []
accepted_more n ks inside awaiting = let one : n + 1 ≡ suc n = omega arith in ap (λ m. accepted_of m ks) one ∙ accepted_suc n ks inside awaiting

awaiting_suc : (n : ℕ) (ks : List StoredConnection) → Awaiting n ks → Awaiting (suc n) ks
awaiting_suc n [] awaiting = refl
awaiting_suc zero (k ∷ ks) awaiting = cc
awaiting_suc (suc n) (k ∷ ks) awaiting = awaiting_suc n ks awaiting

pub awaiting_more : (n : ℕ) (ks : List StoredConnection) → Awaiting n ks → Awaiting (n + 1) ks
awaiting_more n ks awaiting = let one : suc n ≡ n + 1 = omega arith in subst (λ m. Awaiting m ks) one (awaiting_suc n ks awaiting)

-- ---- a change of the last one that was accepted

drop-set : {A : Type 0} (h : StoredConnection → A) (n : ℕ) (ks : List StoredConnection) (new : StoredConnection) → drop (suc n) (map h (set ks n new)) ≡ drop (suc n) (map h ks)
drop-set h n [] new = refl
drop-set h zero (k ∷ ks) new = refl
drop-set h (suc n) (k ∷ ks) new = drop-set h n ks new

pub awaiting_still : (n i : ℕ) (ks : List StoredConnection) (new : StoredConnection) → n ≡ suc i → Awaiting n ks → Awaiting n (set ks i new)
awaiting_still n i ks new is awaiting =
    let Q : ℕ → Type 0 = λ m. Awaiting m (set ks i new) in
    subst Q (sym is) (drop-set connection_of i ks new ∙ subst (λ m. Awaiting m ks) is awaiting ∙ sym (drop-set fresh_of i ks new))

pub map-set_same : {A : Type 0} (h : StoredConnection → A) (i : ℕ) (ks : List StoredConnection) (new d : StoredConnection) → i < length ks → h new ≡ h (get_or ks i d)
    → map h (set ks i new) ≡ map h ks
map-set_same h i [] new d inside same = absurd (omega arith)
map-set_same h zero (k ∷ ks) new d inside same = ap (λ t. t ∷ map h ks) same
map-set_same h (suc i) (k ∷ ks) new d inside same = ap (λ ts. h k ∷ ts) (map-set_same h i ks new d (omega arith) same)

last-set : (g : Connection → Connection) (i : ℕ) (ks : List StoredConnection) (new d : StoredConnection) → i < length ks → connection_of new ≡ g (connection_of (get_or ks i d))
    → accepted_of (suc i) (set ks i new) ≡ on_last g (accepted_of (suc i) ks)
last-set g i [] new d inside is = absurd (omega arith)
last-set g zero (k ∷ ks) new d inside is = ap (λ t. t ∷ []) is
last-set g (suc i) (k ∷ []) new d inside is = absurd (omega arith)
last-set g (suc i) (k ∷ l ∷ ks) new d inside is =
    ap (λ ts. connection_of k ∷ ts) (last-set g i (l ∷ ks) new d (omega arith) is)

pub accepted_last : (g : Connection → Connection) (n i : ℕ) (ks : List StoredConnection) (new d : StoredConnection) → n ≡ suc i → i < length ks
    → connection_of new ≡ g (connection_of (get_or ks i d)) → accepted_of n (set ks i new) ≡ on_last g (accepted_of n ks)
accepted_last g n i ks new d size inside is =
    let Q : ℕ → Type 0 = λ m. accepted_of m (set ks i new) ≡ on_last g (accepted_of m ks) in
    subst Q (sym size) (last-set g i ks new d inside is)

of-last : (P : Connection → Type 0) (i : ℕ) (ks : List StoredConnection) (d : StoredConnection) → i < length ks → P (connection_of (get_or ks i d)) → OfLast P (accepted_of (suc i) ks)
of-last P i [] d inside is = absurd (omega arith)
of-last P zero (k ∷ ks) d inside is = is
of-last P (suc i) (k ∷ []) d inside is = absurd (omega arith)
of-last P (suc i) (k ∷ l ∷ ks) d inside is = of-last P i (l ∷ ks) d (omega arith) is

pub of_accepted : (P : Connection → Type 0) (n i : ℕ) (ks : List StoredConnection) (d : StoredConnection) → n ≡ suc i → i < length ks → P (connection_of (get_or ks i d)) → OfLast P (accepted_of n ks)
of_accepted P n i ks d size inside is = subst (λ m. OfLast P (accepted_of m ks)) (sym size) (of-last P i ks d inside is)

-- ---- what went out

fresh_sends_nothing : (i : ℕ) (ks : List StoredConnection) (d : StoredConnection) → i < length ks → map connection_of ks ≡ map fresh_of ks → (get_or ks i d).outgoing.items ≡ []
fresh_sends_nothing i [] d inside same = absurd (omega arith)
fresh_sends_nothing zero (k ∷ ks) d inside same = let first : connection_of k ≡ fresh_of k = cc in ap (λ t. t.outgoing) first
fresh_sends_nothing (suc i) (k ∷ ks) d inside same = fresh_sends_nothing i ks d (omega arith) (cc)

pub outgoing_accepted : (n i : ℕ) (ks : List StoredConnection) (d : StoredConnection) → i < length ks → Awaiting n ks → (get_or ks i d).outgoing.items ≡ outgoing_at i (accepted_of n ks)
outgoing_accepted n i [] d inside awaiting = absurd (omega arith)
outgoing_accepted zero i (k ∷ ks) d inside awaiting = fresh_sends_nothing i (k ∷ ks) d inside awaiting
outgoing_accepted (suc n) zero (k ∷ ks) d inside awaiting = refl
outgoing_accepted (suc n) (suc i) (k ∷ ks) d inside awaiting = outgoing_accepted n i ks d (omega arith) awaiting

pub length-incoming : (ks : List StoredConnection) → length (incoming_of ks) ≡ length ks
length-incoming [] = refl
length-incoming (k ∷ ks) = ap suc (length-incoming ks)
