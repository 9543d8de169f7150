-- What arrives of a message on a wire that replaces, alters and cuts messages.
use Rattle.std.specs.Prelude.{ℕ, List, [], ◌∷◌, ◌++◌, Option, None, Some, take, reverse, find, slice_set, if◌then◌else◌}
use Rattle.mt_outside.specs.declared.wire.Slot.{Slot}
use Rattle.mt_outside.specs.declared.alteration.Alteration.{Alteration}
use Rattle.mt_outside.specs.declared.alteration.Replacement.{Replacement}
use Rattle.mt_outside.specs.declared.alteration.Cut.{Cut}
use Rattle.mt_outside.specs.Message.{is_slot}

-- one after the other, so that the last one for a place counts; one past the end changes nothing
abbrev pub altered : List Alteration → Slot → List ℕ → List ℕ
altered [] slot bytes = bytes
altered (a ∷ rest) slot bytes = altered rest slot (if is_slot a.slot slot then slice_set bytes a.offset a.byte else bytes)

-- the slot's last replacement and its last cut
abbrev pub replacement_of : List Replacement → Slot → Option Replacement
replacement_of replacements slot = find (λ r. is_slot r.slot slot) (reverse replacements)

abbrev pub cut_of : List Cut → Slot → Option Cut
cut_of cuts slot = find (λ c. is_slot c.slot slot) (reverse cuts)

-- the bytes of the replacement, where there is one
abbrev pub replaced : Option Replacement → List ℕ → List ℕ
replaced None bytes = bytes
replaced (Some r) bytes = r.bytes

-- no more bytes than the cut leaves, where there is one
abbrev pub shortened : Option Cut → List ℕ → List ℕ
shortened None bytes = bytes
shortened (Some c) bytes = take c.length bytes

-- what the wire does to messages on their way
pub record Changes : Type 0 where
  pub alterations : List Alteration
  pub replacements : List Replacement
  pub cuts : List Cut

abbrev pub no_changes : Changes
no_changes = record { alterations = []; replacements = []; cuts = [] }

-- first the bytes are replaced, then they are altered, and at last they are cut
abbrev pub arriving : Changes → Slot → List ℕ → List ℕ
arriving changes slot sent =
    shortened (cut_of changes.cuts slot) (altered changes.alterations slot (replaced (replacement_of changes.replacements slot) sent))

-- one more cut, and one more replacement
abbrev pub with_cut : Slot → ℕ → Changes → Changes
with_cut slot length changes =
    record { alterations = changes.alterations; replacements = changes.replacements; cuts = changes.cuts ++ record { slot = slot; length = length } ∷ [] }

abbrev pub with_replacement : Slot → List ℕ → Changes → Changes
with_replacement slot bytes changes =
    record { alterations = changes.alterations; replacements = changes.replacements ++ record { slot = slot; bytes = bytes } ∷ []; cuts = changes.cuts }
