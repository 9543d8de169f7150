use Rattle.std.proofs.Common.{◌≡◌, ℕ, List, length, ◌∷◌, [], ◌++◌, sym, ap, ◌∙◌}
use Rattle.mt_marshal.proofs.Elaborating.{frame_stays, data_walked, made_is, stopped_is}
use Rattle.mt_marshal.specs.Elaboration.{frame_of, paid_for}
use Rattle.mt_marshal.specs.Snapshot.{walked}
use Rattle.mt_marshal.specs.declared.paying.Paid.{Paid}
use Rattle.mt_marshal.specs.declared.paying.Paid.TheVariants as paid
use Rattle.mt_value.specs.declared.cell.Cell.TheVariants as cell
use Rattle.mt_marshal.proofs.elaboration.frame.Goals as goal

pub returns-in-Stopped-clause-meant : goal.returns-in-Stopped-clause-meant
returns-in-Stopped-clause-meant c =
    let stop = c.in-Stopped.stop in
    let is : ◌≡◌ {A = Paid × ℕ} (paid.Stopped stop, c.snapped.new.budget.left) (paid_for (walked c.args.store.now c.args.arguments.now) c.args.budget.now.left) = ap (λ (p : Paid). (p, c.snapped.new.budget.left)) (sym c.in-Stopped.is) ∙ c.in_ok-paid.ensures in
    stopped_is (frame_of c.args.service.now) c.args.arguments.now (tt {0}) c.args.store.now c.args.budget.now.left stop c.snapped.new.budget.left is

pub returns-in_ok-at-in-Data-clause-meant : goal.returns-in_ok-at-in-Data-clause-meant
returns-in_ok-at-in-Data-clause-meant c =
    let ds = c.in-Data.arguments in
    let store = c.args.store.now in
    let at : c.in_ok-at-in-Data.at ≡ length store = c.in_ok-at-in-Data.ensures.address in
    let new : c.add.new.self ≡ store ++ cell.Frame (record { service = c.args.service.now; arguments = ds }) ∷ [] =
    c.in_ok-at-in-Data.ensures.ok ∙ ap (λ (name : List ℕ). store ++ cell.Frame (record { service = name; arguments = ds }) ∷ []) c.in_ok-service-in-Data.ensures in
    let is : ◌≡◌ {A = Paid × ℕ} (paid.Data ds, c.snapped.new.budget.left) (paid_for (walked store c.args.arguments.now) c.args.budget.now.left) = ap (λ (p : Paid). (p, c.snapped.new.budget.left)) (sym c.in-Data.is) ∙ c.in_ok-paid.ensures in
    made_is (frame_of c.args.service.now) c.args.arguments.now (tt {0}) store c.args.budget.now.left ds c.snapped.new.budget.left c.in_ok-at-in-Data.at c.add.new.self is at new

pub returns-in_ok-at-in-Data-clause-lawful : goal.returns-in_ok-at-in-Data-clause-lawful
returns-in_ok-at-in-Data-clause-lawful c = λ lawful fits values.
    let ds = c.in-Data.arguments in
    let store = c.args.store.now in
    let at : c.in_ok-at-in-Data.at ≡ length store = c.in_ok-at-in-Data.ensures.address in
    let new : c.add.new.self ≡ store ++ cell.Frame (record { service = c.args.service.now; arguments = ds }) ∷ [] =
    c.in_ok-at-in-Data.ensures.ok ∙ ap (λ (name : List ℕ). store ++ cell.Frame (record { service = name; arguments = ds }) ∷ []) c.in_ok-service-in-Data.ensures in
    let is : ◌≡◌ {A = Paid × ℕ} (paid.Data ds, c.snapped.new.budget.left) (paid_for (walked store c.args.arguments.now) c.args.budget.now.left) = ap (λ (p : Paid). (p, c.snapped.new.budget.left)) (sym c.in-Data.is) ∙ c.in_ok-paid.ensures in
    let snapped = data_walked c.args.arguments.now store c.args.budget.now.left ds c.snapped.new.budget.left is in
    rw (at, new) (frame_stays store c.args.arguments.now c.args.service.now ds snapped lawful fits values)
