use Rattle.std.proofs.Common.{◌≡◌, length, refl, arith}
use Rattle.std.proofs.lemmas.Result.{err_from_is_err_and}
use Rattle.mt_json.proofs.Walks.{data_next, data_refused, entries_next, entries_refused, pair, pair_refused}
use Rattle.mt_json.proofs.tagged.+tagged.Goals as goal

pub data-returns-in_err-datum : goal.data-returns-in_err-datum
data-returns-in_err-datum t c =
    let p = err_from_is_err_and c.from_residual.result c.from_residual.ensures.1 in
    rw (p.1, p.2) (data_refused c.in_err-datum.field-0.0 c.args.values.now c.loop-value.value-index c.value-item.result c.value-item.is c.loop-value-test.true c.in_err-datum.ensures)

pub data-loop-value-preserved : goal.data-loop-value-preserved
data-loop-value-preserved t c =
    rw c.in_ok-push.ensures.items
    (data_next c.args.values.now c.loop-value.value-index c.value-item.result c.loop-value.found.items
    c.in_ok-datum.datum c.value-item.is c.loop-value-test.true c.loop-value.invariant c.in_ok-datum.ensures)

pub entries-returns-in_err-entry : goal.entries-returns-in_err-entry
entries-returns-in_err-entry t c =
    let p = err_from_is_err_and c.from_residual.result c.from_residual.ensures.1 in
    rw (p.1, p.2) (entries_refused c.in_err-entry.field-0.0 c.args.values.now c.loop-value.value-index c.value-item.result c.value-item.is c.loop-value-test.true c.in_err-entry.ensures)

pub entries-loop-value-preserved : goal.entries-loop-value-preserved
entries-loop-value-preserved t c =
    rw c.in_ok-push.ensures.items
    (entries_next c.args.values.now c.loop-value.value-index c.value-item.result c.loop-value.found.items
    c.in_ok-entry.entry c.value-item.is c.loop-value-test.true c.loop-value.invariant c.in_ok-entry.ensures)

pub named-returns-in_err-value : goal.named-returns-in_err-value
named-returns-in_err-value t c =
    let p = err_from_is_err_and c.from_residual-in_err-value.result c.from_residual-in_err-value.ensures.1 in
    let two : length c.args.pair.now ≡ 2 = omega (arith, c.in-len2.len_at_least, c.in-len2.len_below) in
    rw (p.1, p.2, pair c.args.pair.now c.name-item.result c.value-item.result two c.name-item.is c.value-item.is, c.in_ok-name.ensures)
    (pair_refused c.in_err-value.field-0.0 _ c.in_ok-name.name c.in_err-value.ensures)

pub named-returns : goal.named-returns
named-returns t c =
    let two : length c.args.pair.now ≡ 2 = omega (arith, c.in-len2.len_at_least, c.in-len2.len_below) in
    rw (pair c.args.pair.now c.name-item.result c.value-item.result two c.name-item.is c.value-item.is, c.in_ok-name.ensures, c.in_ok-value.ensures) refl
