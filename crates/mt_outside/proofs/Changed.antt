-- What arrives after one more cut or replacement: the bytes of its slot change, and those of no other.
use Rattle.std.proofs.Common.{◌≡◌, ◌++◌, ℕ, Bool, true, false, List, [], ◌∷◌, Some, reverse, find, sym, ap, ◌∙◌, cond}
use Rattle.std.proofs.lemmas.List.{reverse-append}
use Rattle.mt_outside.specs.declared.wire.Slot.{Slot}
use Rattle.mt_outside.specs.declared.alteration.Replacement.{Replacement}
use Rattle.mt_outside.specs.declared.alteration.Cut.{Cut}
use Rattle.mt_outside.specs.Message.{is_slot}
use Rattle.mt_outside.specs.Arriving.{Changes, altered, replacement_of, cut_of, replaced, shortened, arriving, with_cut, with_replacement}
use Rattle.mt_outside.proofs.Storage.{AgreeOff, is_slot-self}

-- the last one of a list is found first
find-last : {X : Type 0} (p : X → Bool) (xs : List X) (x : X) → find p (reverse (xs ++ x ∷ [])) ≡ cond (p x) (Some x) (find p (reverse xs))
find-last p xs x = ap (find p) (reverse-append xs (x ∷ []))

pub cut_of-off : (cuts : List Cut) (cut : Cut) (other : Slot) → is_slot cut.slot other ≡ false → cut_of (cuts ++ cut ∷ []) other ≡ cut_of cuts other
cut_of-off cuts cut other apart = find-last (λ c. is_slot c.slot other) cuts cut ∙ ap (λ b. cond b (Some cut) (cut_of cuts other)) apart

pub cut_of-own : (cuts : List Cut) (cut : Cut) (slot : Slot) → is_slot cut.slot slot ≡ true → cut_of (cuts ++ cut ∷ []) slot ≡ Some cut
cut_of-own cuts cut slot same = find-last (λ c. is_slot c.slot slot) cuts cut ∙ ap (λ b. cond b (Some cut) (cut_of cuts slot)) same

pub replacement_of-off : (rs : List Replacement) (r : Replacement) (other : Slot) → is_slot r.slot other ≡ false → replacement_of (rs ++ r ∷ []) other ≡ replacement_of rs other
replacement_of-off rs r other apart = find-last (λ c. is_slot c.slot other) rs r ∙ ap (λ b. cond b (Some r) (replacement_of rs other)) apart

pub replacement_of-own : (rs : List Replacement) (r : Replacement) (slot : Slot) → is_slot r.slot slot ≡ true → replacement_of (rs ++ r ∷ []) slot ≡ Some r
replacement_of-own rs r slot same = find-last (λ c. is_slot c.slot slot) rs r ∙ ap (λ b. cond b (Some r) (replacement_of rs slot)) same

pub cut-agrees : (slot : Slot) (length : ℕ) (changes : Changes) → AgreeOff slot (arriving changes) (arriving (with_cut slot length changes))
cut-agrees slot length changes other bytes apart =
    ap (λ cut. shortened cut (altered changes.alterations other (replaced (replacement_of changes.replacements other) bytes)))
    (sym (cut_of-off changes.cuts (record { slot = slot; length = length }) other apart))

pub replacement-agrees : (slot : Slot) (new : List ℕ) (changes : Changes) → AgreeOff slot (arriving changes) (arriving (with_replacement slot new changes))
replacement-agrees slot new changes other bytes apart =
    ap (λ r. shortened (cut_of changes.cuts other) (altered changes.alterations other (replaced r bytes)))
    (sym (replacement_of-off changes.replacements (record { slot = slot; bytes = new }) other apart))

pub cut-own : (slot : Slot) (length : ℕ) (changes : Changes) (bytes : List ℕ) → arriving (with_cut slot length changes) slot bytes
    ≡ shortened (Some (record { slot = slot; length = length })) (altered changes.alterations slot (replaced (replacement_of changes.replacements slot) bytes))
cut-own slot length changes bytes =
    ap (λ cut. shortened cut (altered changes.alterations slot (replaced (replacement_of changes.replacements slot) bytes)))
    (cut_of-own changes.cuts (record { slot = slot; length = length }) slot (is_slot-self slot))

pub replacement-own : (slot : Slot) (new : List ℕ) (changes : Changes) (bytes : List ℕ) → arriving (with_replacement slot new changes) slot bytes
    ≡ shortened (cut_of changes.cuts slot) (altered changes.alterations slot new)
replacement-own slot new changes bytes =
    ap (λ r. shortened (cut_of changes.cuts slot) (altered changes.alterations slot (replaced r bytes)))
    (replacement_of-own changes.replacements (record { slot = slot; bytes = new }) slot (is_slot-self slot))
