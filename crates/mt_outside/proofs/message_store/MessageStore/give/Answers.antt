use Rattle.std.proofs.Common.{◌≡◌, ◌<◌, ◌-◌, ◌∙◌, ap, refl, sym, length, arith, get_or, set, take, min}
use Rattle.std.specs.Vec.{vec_len}
use Rattle.mt_outside.specs.Stored.{message_of, slots_of, are_distinct, place_in}
use Rattle.mt_outside.specs.Message.{given_more, is_end}
use Rattle.mt_outside.proofs.Storage.{messages_of-given, slots_of-set, to_give-set, ended-place, left-place}
use Rattle.mt_outside.proofs.message_store.MessageStore.give.Goals as goal

pub invariant_of-self : goal.invariant_of-self
invariant_of-self c =
    let ks = c.args.self.now.messages.items in
    let i = c.in-Some.place in
    let stored = c.index_mut-stored.result.now in
    let inside : i < length ks = c.in-Some.ensures.1 in
    let there : stored ≡ get_or ks i stored = c.index_mut-stored.ensures.value in
    let slots : slots_of (set ks i c.give.new.self) ≡ slots_of ks = slots_of-set ks i c.give.new.self stored inside (c.give.ensures.slot ∙ ap (λ k. k.slot) there) in
    record {
      found = c.args.self.now.found ∙ sym slots;
      distinct = ap are_distinct slots ∙ c.args.self.now.distinct;
      gives = to_give-set _ ks i c.give.new.self stored c.args.self.now.gives inside
          (c.give.ensures.slot ∙ ap (λ k. k.slot) there) (c.give.ensures.sent ∙ ap (λ k. k.sent.items) there) (c.give.ensures.gives ∙ ap (λ k. k.gives.items) there);
    }

pub returns-in-Some-clause-given : goal.returns-in-Some-clause-given
returns-in-Some-clause-given c =
    let ks = c.args.self.now.messages.items in
    let stored = c.index_mut-stored.result.now in
    let bytes = take c.give.result c.give.new.into in
    let ended = is_end c.give.result c.give.new.into in
    let place : c.in-Some.place ≡ place_in c.args.slot ks = c.in-Some.ensures.0 in
    let inside : place_in c.args.slot ks < length ks = omega (arith, place, c.in-Some.ensures.1) in
    let more : message_of c.give.new.self ≡ given_more bytes ended (message_of stored) =
    rw (c.give.ensures.slot, c.give.ensures.sent, c.give.ensures.given, c.give.ensures.ended) refl in
    let there : stored ≡ get_or ks (place_in c.args.slot ks) stored = c.index_mut-stored.ensures.value ∙ ap (λ i. get_or ks i stored) place in
    rw place (messages_of-given c.args.slot ks c.give.new.self stored bytes ended inside (more ∙ ap (λ k. given_more bytes ended (message_of k)) there))

pub returns-in-Some-clause-over : goal.returns-in-Some-clause-over
returns-in-Some-clause-over c = λ ended.
    let ks = c.args.self.now.messages.items in
    let stored = c.index_mut-stored.result.now in
    let place : c.in-Some.place ≡ place_in c.args.slot ks = c.in-Some.ensures.0 in
    let inside : place_in c.args.slot ks < length ks = omega (arith, place, c.in-Some.ensures.1) in
    let there : stored ≡ get_or ks (place_in c.args.slot ks) stored = c.index_mut-stored.ensures.value ∙ ap (λ i. get_or ks i stored) place in
    c.give.ensures.over (ap (λ k. k.ended) there ∙ sym (ended-place c.args.slot ks stored inside) ∙ ended)

pub returns-in-Some-clause-count : goal.returns-in-Some-clause-count
returns-in-Some-clause-count c =
    let ks = c.args.self.now.messages.items in
    let stored = c.index_mut-stored.result.now in
    let place : c.in-Some.place ≡ place_in c.args.slot ks = c.in-Some.ensures.0 in
    let inside : place_in c.args.slot ks < length ks = omega (arith, place, c.in-Some.ensures.1) in
    let there : stored ≡ get_or ks (place_in c.args.slot ks) stored = c.index_mut-stored.ensures.value ∙ ap (λ i. get_or ks i stored) place in
    c.give.ensures.count
    ∙ ap (min (min c.args.piece (length c.give.new.into))) (ap (λ k. vec_len k.gives - k.at) there ∙ sym (left-place _ c.args.slot ks stored inside c.args.self.now.gives))
