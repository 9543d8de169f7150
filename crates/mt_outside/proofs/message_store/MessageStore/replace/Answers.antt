use Rattle.std.proofs.Common.{◌≡◌, ◌<◌, ◌∙◌, List, ap, sym, subst, get_or, set, length, arith, take}
use Rattle.mt_outside.specs.declared.alteration.Replacement.{Replacement}
use Rattle.mt_outside.specs.Arriving.{Changes, arriving, with_replacement, altered, shortened, cut_of}
use Rattle.mt_outside.specs.Stored.{slots_of, are_distinct, place_in, to_give, arrivals}
use Rattle.mt_outside.proofs.Changed.{replacement-agrees, replacement-own}
use Rattle.mt_outside.proofs.Storage.{slots_of-set, slot-place, to_give-changed, arrivals-off, messages_of-fresh, sent-slots, after_push}
use Rattle.mt_outside.proofs.message_store.MessageStore.replace.Goals as goal

pub invariant_of-self-in-Some : goal.invariant_of-self-in-Some
invariant_of-self-in-Some c =
    let now = c.args.self.now in
    let slot = c.args.slot in
    let ks = now.messages.items in
    let i = c.in-Some.place in
    let new = c.begin_with.new.self in
    let stored = c.index_mut.result.now in
    let before : Changes = record { alterations = now.alterations.items; replacements = now.replacements.items; cuts = now.cuts.items } in
    let place : i ≡ place_in slot ks = c.in-Some.ensures.0 in
    let inside : place_in slot ks < length ks = omega (arith, place, c.in-Some.ensures.1) in
    let there : stored ≡ get_or ks (place_in slot ks) stored = c.index_mut.ensures.value ∙ ap (λ i. get_or ks i stored) place in
    let here : new.slot ≡ (get_or ks (place_in slot ks) stored).slot = c.begin_with.ensures.slot ∙ ap (λ k. k.slot) there in
    let own : new.slot ≡ slot = here ∙ slot-place slot ks stored inside in
    let slots : slots_of (set ks i new) ≡ slots_of ks = slots_of-set ks i new stored c.in-Some.ensures.1 (c.begin_with.ensures.slot ∙ ap (λ k. k.slot) c.index_mut.ensures.value) in
    let gives : new.gives.items ≡ arriving (with_replacement slot c.from_vec.result before) new.slot new.sent.items =
    c.begin_with.ensures.gives ∙ c.in_ok-gives-in-Some.ensures
    ∙ ap (λ changes. shortened c.cut_of.result (altered changes slot c.deref-in-Some-2.result.now)) c.deref.ensures.value
    ∙ ap (λ b. shortened c.cut_of.result (altered now.alterations.items slot b)) (c.deref-in-Some-2.ensures.value ∙ sym c.from_vec.ensures)
    ∙ ap (λ cut. shortened cut (altered now.alterations.items slot c.from_vec.result)) (c.cut_of.ensures ∙ ap (λ cs. cut_of cs slot) c.deref-in-Some.ensures.value)
    ∙ sym (replacement-own slot c.from_vec.result before new.sent.items)
    ∙ ap (λ s. arriving (with_replacement slot c.from_vec.result before) s new.sent.items) (sym own) in
    record {
      found = now.found ∙ sym slots;
      distinct = ap are_distinct slots ∙ now.distinct;
      gives =
          let P : List Replacement → Type 0 = λ replacements. to_give (set ks i new) ≡ arrivals (arriving (record { alterations = now.alterations.items; replacements = replacements; cuts = now.cuts.items })) (set ks i new) in
          subst P (sym c.in_ok-push-in-Some.ensures.ok)
          (rw place (to_give-changed slot (arriving before) (arriving (with_replacement slot c.from_vec.result before)) ks new stored (replacement-agrees slot c.from_vec.result before) now.distinct now.gives inside here gives));
    }

pub invariant_of-self-in-None : goal.invariant_of-self-in-None
invariant_of-self-in-None c =
    let now = c.args.self.now in
    let slot = c.args.slot in
    let ks = now.messages.items in
    let bytes = c.from_vec-in-None.result in
    let before : Changes = record { alterations = now.alterations.items; replacements = now.replacements.items; cuts = now.cuts.items } in
    let absent = sym (sent-slots slot ks) ∙ c.in-None.ensures in
    let grown : List Replacement = (with_replacement slot bytes before).replacements in
    let P : List Replacement → Type 0 = λ rs. to_give ks ≡ arrivals (arriving (record { alterations = now.alterations.items; replacements = rs; cuts = now.cuts.items })) ks in
    record {
      found = now.found;
      distinct = now.distinct;
      gives = after_push P c.push-in-None.result now.replacements.items grown c.push-in-None.new.into.items c.push-in-None.ensures.ok c.push-in-None.ensures.err
          (now.gives ∙ arrivals-off slot (arriving before) (arriving (with_replacement slot bytes before)) ks (replacement-agrees slot bytes before) absent)
          now.gives;
    }

pub returns-in_ok-push-in-Some-clause-messages : goal.returns-in_ok-push-in-Some-clause-messages
returns-in_ok-push-in-Some-clause-messages c =
    let now = c.args.self.now in
    let slot = c.args.slot in
    let ks = now.messages.items in
    let new = c.begin_with.new.self in
    let stored = c.index_mut.result.now in
    let place : c.in-Some.place ≡ place_in slot ks = c.in-Some.ensures.0 in
    let inside : place_in slot ks < length ks = omega (arith, place, c.in-Some.ensures.1) in
    let there : stored ≡ get_or ks (place_in slot ks) stored = c.index_mut.ensures.value ∙ ap (λ i. get_or ks i stored) place in
    rw place
    (messages_of-fresh slot ks new stored inside c.requires.given c.requires.ended (c.begin_with.ensures.slot ∙ ap (λ k. k.slot) there)
    (c.begin_with.ensures.sent ∙ ap (λ k. k.sent.items) there) (ap (λ n. take n new.gives.items) c.begin_with.ensures.at) c.begin_with.ensures.ended)
