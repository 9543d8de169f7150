use Rattle.std.proofs.Common.{◌≡◌, ◌<◌, ◌∙◌, ◌++◌, ◌∷◌, Some, List, [], ap, sym, subst, get_or, set, length, arith, take}
use Rattle.mt_outside.specs.declared.alteration.Cut.{Cut}
use Rattle.mt_outside.specs.Arriving.{Changes, arriving, with_cut, altered, shortened, replaced, replacement_of}
use Rattle.mt_outside.specs.Stored.{slots_of, are_distinct, place_in, to_give, arrivals}
use Rattle.mt_outside.proofs.Changed.{cut-agrees, cut-own}
use Rattle.mt_outside.proofs.Storage.{slots_of-set, slot-place, to_give-changed, arrivals-off, messages_of-fresh, sent-slots, one_item, after_push}
use Rattle.mt_outside.proofs.message_store.MessageStore.cut.Goals as goal

pub invariant_of-self-in-Some : goal.invariant_of-self-in-Some
invariant_of-self-in-Some c =
    let now = c.args.self.now in
    let slot = c.args.slot in
    let ks = now.messages.items in
    let i = c.in-Some.place in
    let new = c.begin_with.new.self in
    let stored = c.index_mut.result.now in
    let cut : Cut = record { slot = slot; length = c.args.length } in
    let before : Changes = record { alterations = now.alterations.items; replacements = now.replacements.items; cuts = now.cuts.items } in
    let place : i ≡ place_in slot ks = c.in-Some.ensures.0 in
    let inside : place_in slot ks < length ks = omega (arith, place, c.in-Some.ensures.1) in
    let there : stored ≡ get_or ks (place_in slot ks) stored = c.index_mut.ensures.value ∙ ap (λ i. get_or ks i stored) place in
    let here : new.slot ≡ (get_or ks (place_in slot ks) stored).slot = c.begin_with.ensures.slot ∙ ap (λ k. k.slot) there in
    let own : new.slot ≡ slot = here ∙ slot-place slot ks stored inside in
    let slots : slots_of (set ks i new) ≡ slots_of ks = slots_of-set ks i new stored c.in-Some.ensures.1 (c.begin_with.ensures.slot ∙ ap (λ k. k.slot) c.index_mut.ensures.value) in
    let sent : new.sent.items ≡ c.index.result.now.sent.items = c.begin_with.ensures.sent ∙ ap (λ k. k.sent.items) (one_item ks i stored c.index.result.now c.in-Some.ensures.1 c.index_mut.ensures.value c.index.ensures) in
    let bytes : c.replaced-bytes.result.now ≡ replaced (replacement_of now.replacements.items slot) new.sent.items =
    c.replaced-bytes.ensures ∙ ap (λ rs. replaced (replacement_of rs slot) c.deref-in-Some.result.now) c.deref.ensures.value
    ∙ ap (replaced (replacement_of now.replacements.items slot)) (c.deref-in-Some.ensures.value ∙ sym sent) in
    let gives : new.gives.items ≡ arriving (with_cut slot c.args.length before) new.slot new.sent.items =
    c.begin_with.ensures.gives ∙ c.in_ok-gives-in-Some.ensures
    ∙ ap (λ changes. shortened (Some cut) (altered changes slot c.replaced-bytes.result.now)) c.deref-in-Some-2.ensures.value
    ∙ ap (λ b. shortened (Some cut) (altered now.alterations.items slot b)) bytes ∙ sym (cut-own slot c.args.length before new.sent.items)
    ∙ ap (λ s. arriving (with_cut slot c.args.length before) s new.sent.items) (sym own) in
    record {
      found = now.found ∙ sym slots;
      distinct = ap are_distinct slots ∙ now.distinct;
      gives =
          let P : List Cut → Type 0 = λ cuts. to_give (set ks i new) ≡ arrivals (arriving (record { alterations = now.alterations.items; replacements = now.replacements.items; cuts = cuts })) (set ks i new) in
          subst P (sym c.in_ok-push-in-Some.ensures.ok)
          (rw place (to_give-changed slot (arriving before) (arriving (with_cut slot c.args.length before)) ks new stored (cut-agrees slot c.args.length before) now.distinct now.gives inside here gives));
    }

pub invariant_of-self-in-None : goal.invariant_of-self-in-None
invariant_of-self-in-None c =
    let now = c.args.self.now in
    let slot = c.args.slot in
    let ks = now.messages.items in
    let cut : Cut = record { slot = slot; length = c.args.length } in
    let before : Changes = record { alterations = now.alterations.items; replacements = now.replacements.items; cuts = now.cuts.items } in
    let absent = sym (sent-slots slot ks) ∙ c.in-None.ensures in
    let P : List Cut → Type 0 = λ cuts. to_give ks ≡ arrivals (arriving (record { alterations = now.alterations.items; replacements = now.replacements.items; cuts = cuts })) ks in
    record {
      found = now.found;
      distinct = now.distinct;
      gives = after_push P c.push-in-None.result now.cuts.items (now.cuts.items ++ cut ∷ []) c.push-in-None.new.into.items c.push-in-None.ensures.ok c.push-in-None.ensures.err
          (now.gives ∙ arrivals-off slot (arriving before) (arriving (with_cut slot c.args.length before)) ks (cut-agrees slot c.args.length before) absent)
          now.gives;
    }

pub returns-in_ok-push-in-Some-clause-messages : goal.returns-in_ok-push-in-Some-clause-messages
returns-in_ok-push-in-Some-clause-messages c =
    let now = c.args.self.now in
    let slot = c.args.slot in
    let ks = now.messages.items in
    let new = c.begin_with.new.self in
    let stored = c.index_mut.result.now in
    let place : c.in-Some.place ≡ place_in slot ks = c.in-Some.ensures.0 in
    let inside : place_in slot ks < length ks = omega (arith, place, c.in-Some.ensures.1) in
    let there : stored ≡ get_or ks (place_in slot ks) stored = c.index_mut.ensures.value ∙ ap (λ i. get_or ks i stored) place in
    rw place
    (messages_of-fresh slot ks new stored inside c.requires.given c.requires.ended (c.begin_with.ensures.slot ∙ ap (λ k. k.slot) there)
    (c.begin_with.ensures.sent ∙ ap (λ k. k.sent.items) there) (ap (λ n. take n new.gives.items) c.begin_with.ensures.at) c.begin_with.ensures.ended)
