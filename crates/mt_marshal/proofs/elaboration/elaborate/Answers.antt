use Rattle.std.proofs.Common.{◌≡◌, ℕ, length, ◌∷◌, [], ◌++◌, sym, ap, ◌∙◌}
use Rattle.mt_marshal.proofs.Elaborating.{code_fits, code_stays, data_walked, made_is, stopped_is}
use Rattle.mt_marshal.specs.Elaboration.{code_of, paid_for}
use Rattle.mt_marshal.specs.Snapshot.{walked}
use Rattle.mt_marshal.specs.declared.paying.Paid.{Paid}
use Rattle.mt_marshal.specs.declared.paying.Paid.TheVariants as paid
use Rattle.mt_value.specs.declared.cell.Cell.TheVariants as cell
use Rattle.mt_marshal.proofs.elaboration.elaborate.Goals as goal

pub returns-in-Stopped-clause-meant : goal.returns-in-Stopped-clause-meant
returns-in-Stopped-clause-meant c =
    let stop = c.in-Stopped.stop in
    let is : ◌≡◌ {A = Paid × ℕ} (paid.Stopped stop, c.snapped.new.budget.left) (paid_for (walked c.args.store.now c.args.values.now) c.args.budget.now.left) = ap (λ (p : Paid). (p, c.snapped.new.budget.left)) (sym c.in-Stopped.is) ∙ c.in_ok-paid.ensures in
    stopped_is (code_of c.args.tilde) c.args.values.now (tt {0}) c.args.store.now c.args.budget.now.left stop c.snapped.new.budget.left is

pub returns-in_ok-at-in-Data-clause-meant : goal.returns-in_ok-at-in-Data-clause-meant
returns-in_ok-at-in-Data-clause-meant c =
    let ds = c.in-Data.values in
    let store = c.args.store.now in
    let at : c.in_ok-at-in-Data.at ≡ length store = c.in_ok-at-in-Data.ensures.address in
    let new : c.add.new.self ≡ store ++ cell.Code (record { tilde = c.args.tilde; values = ds }) ∷ [] = c.in_ok-at-in-Data.ensures.ok in
    let is : ◌≡◌ {A = Paid × ℕ} (paid.Data ds, c.snapped.new.budget.left) (paid_for (walked store c.args.values.now) c.args.budget.now.left) = ap (λ (p : Paid). (p, c.snapped.new.budget.left)) (sym c.in-Data.is) ∙ c.in_ok-paid.ensures in
    made_is (code_of c.args.tilde) c.args.values.now (tt {0}) store c.args.budget.now.left ds c.snapped.new.budget.left c.in_ok-at-in-Data.at c.add.new.self is at new

pub returns-in_ok-at-in-Data-clause-lawful : goal.returns-in_ok-at-in-Data-clause-lawful
returns-in_ok-at-in-Data-clause-lawful c = λ lawful values.
    let ds = c.in-Data.values in
    let store = c.args.store.now in
    let at : c.in_ok-at-in-Data.at ≡ length store = c.in_ok-at-in-Data.ensures.address in
    let new : c.add.new.self ≡ store ++ cell.Code (record { tilde = c.args.tilde; values = ds }) ∷ [] = c.in_ok-at-in-Data.ensures.ok in
    let is : ◌≡◌ {A = Paid × ℕ} (paid.Data ds, c.snapped.new.budget.left) (paid_for (walked store c.args.values.now) c.args.budget.now.left) = ap (λ (p : Paid). (p, c.snapped.new.budget.left)) (sym c.in-Data.is) ∙ c.in_ok-paid.ensures in
    let snapped = data_walked c.args.values.now store c.args.budget.now.left ds c.snapped.new.budget.left is in
    rw (at, new) (code_stays store (record { tilde = c.args.tilde; values = ds }) lawful (code_fits store c.args.values.now c.args.tilde ds snapped lawful values))
