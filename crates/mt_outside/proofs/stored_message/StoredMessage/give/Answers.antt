use Rattle.std.proofs.Common.{arith, ◌≡◌, ◌++◌, ◌+◌, ◌-◌, take, drop, length, sym, ap, ◌∙◌}
use Rattle.std.proofs.Math.Seq.{take-add}
use Rattle.std.proofs.lemmas.List.{take_at, length-take}
use Rattle.mt_outside.proofs.stored_message.StoredMessage.give.Goals as goal

pub returns-else-count-eq0-clause-given : goal.returns-else-count-eq0-clause-given
returns-else-count-eq0-clause-given c =
    let n = c.min-count.result in
    let at = c.args.self.now.at in
    let gives = c.args.self.now.gives.items in
    let after = c.copy_from_slice.ensures.after in
    let copied : c.copy_from_slice.new.self ≡ take n (drop at gives) =
    after ∙ ap (λ l. take (at + n - at) (drop at l)) c.deref.ensures.value ∙ ap (λ k. take k (drop at gives)) (omega arith) in
    let whole : length c.copy_from_slice.new.self ≡ n = omega (arith, c.copy_from_slice.ensures.len, length-take n c.args.into.now) in
    take-add at n gives ∙ ap (λ l. take at gives ++ l) (sym (take_at c.copy_from_slice.new.self (drop n c.args.into.now) n whole ∙ copied))
