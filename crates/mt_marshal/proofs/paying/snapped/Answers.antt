use Rattle.std.proofs.Common.{◌≡◌, ◌-◌, nat_le, true, false, Ok, Err, ap, ◌∙◌}
use Rattle.std.specs.Prelude.{if◌then◌else◌}
use Rattle.mt_eval_meaning.specs.declared.exit.Stop.TheVariants as stop
use Rattle.mt_marshal.proofs.Elaborating.{from_start, paid_is, unpaid}
use Rattle.mt_marshal.specs.Elaboration.{Walked, cost}
use Rattle.mt_marshal.specs.Rules.{number_of}
use Rattle.mt_marshal.specs.declared.paying.Paid.TheVariants as paid
use Rattle.mt_marshal.specs.declared.refusal.Refused.TheVariants as refused
use Rattle.mt_marshal.proofs.paying.snapped.Goals as goal

pub returns-then-not-pays : goal.returns-then-not-pays
returns-then-not-pays c =
    let w : Walked = Ok (c.in-Ok.data, c.items.new.counts) in
    let walk = from_start c.args.store.now c.args.values.now c.new-path.result.items w c.new-path.ensures.items c.in-Ok.ensures.meant in
    let few : nat_le (cost w) c.args.budget.now.left ≡ false = cc in
    unpaid c.args.values.now c.args.store.now c.args.budget.now.left w c.pays.new.budget.left walk few c.pays.ensures.left

pub returns-in-Ok : goal.returns-in-Ok
returns-in-Ok c =
    let w : Walked = Ok (c.in-Ok.data, c.items.new.counts) in
    let walk = from_start c.args.store.now c.args.values.now c.new-path.result.items w c.new-path.ensures.items c.in-Ok.ensures.meant in
    let enough : nat_le (cost w) c.args.budget.now.left ≡ true = cc in
    paid_is c.args.values.now c.args.store.now c.args.budget.now.left w c.pays.new.budget.left walk enough c.pays.ensures.left

pub returns-then-not-pays-2 : goal.returns-then-not-pays-2
returns-then-not-pays-2 c =
    let budget = c.args.budget.now.left in
    let w : Walked = Err (refused.Rule c.in-Err-Rule.rule c.in-Err-Rule.walked c.in-Err-Rule.bytes) in
    let walk = from_start c.args.store.now c.args.values.now c.new-path.result.items w c.new-path.ensures.items (c.in-Err-Rule.ensures.meant (λ e. absurd (cc)) ∙ ap Err c.in-Err-Rule.field-0-is) in
    let few : nat_le (cost w) budget ≡ false = cc in
    let left : c.pays-in-Err-Rule.new.budget.left ≡ (if nat_le (cost w) budget then budget - cost w else budget) = cc in
    unpaid c.args.values.now c.args.store.now budget w c.pays-in-Err-Rule.new.budget.left walk few left

pub returns-in-Err-Rule : goal.returns-in-Err-Rule
returns-in-Err-Rule c =
    let budget = c.args.budget.now.left in
    let w : Walked = Err (refused.Rule c.in-Err-Rule.rule c.in-Err-Rule.walked c.in-Err-Rule.bytes) in
    let walk = from_start c.args.store.now c.args.values.now c.new-path.result.items w c.new-path.ensures.items (c.in-Err-Rule.ensures.meant (λ e. absurd (cc)) ∙ ap Err c.in-Err-Rule.field-0-is) in
    let enough : nat_le (cost w) budget ≡ true = cc in
    let left : c.pays-in-Err-Rule.new.budget.left ≡ (if nat_le (cost w) budget then budget - cost w else budget) = cc in
    let number : c.number.result ≡ number_of c.in-Err-Rule.rule = cc in
    (λ i. (paid.Stopped (stop.Marshal (number i)), c.pays-in-Err-Rule.new.budget.left)) ∙ paid_is c.args.values.now c.args.store.now budget w c.pays-in-Err-Rule.new.budget.left walk enough left
