use Rattle.std.proofs.Common.{◌≡◌, ◌++◌, sym, ◌∙◌, ap, subst}
use Rattle.std.proofs.lemmas.Bool.{iff_false}
use Rattle.std.proofs.lemmas.Result.{err_from_is_err_and}
use Rattle.mt_syntax.specs.DataLimits.{AreWithinLimits}
use Rattle.mt_syntax.specs.DataText.{arguments_text}
use Rattle.mt_json.specs.DataAt.{arguments_at}
use Rattle.mt_json.specs.Outcome.{Refuses}
use Rattle.mt_json.specs.declared.refusal.DataRefusal.{DataRefusal}
use Rattle.mt_json.specs.declared.refusal.DataRefusal.TheVariants.{NotData}
use Rattle.mt_json.proofs.DataAt.{arguments_at_none, arguments_at_of, arguments_at_refused, no_list, only_list}
use Rattle.mt_json.proofs.reading.read_arguments.Goals as goal

pub returns-in_err-found-clause-function : goal.returns-in_err-found-clause-function
returns-in_err-found-clause-function c =
    let p = err_from_is_err_and c.from_residual.result c.from_residual.ensures.1 in
    rw (p.1, p.2) (arguments_at_refused c.in_err-found.field-0.0 c.args.bytes.now c.in_err-found.ensures)

pub returns-in_err-found-clause-refused : goal.returns-in_err-found-clause-refused
returns-in_err-found-clause-refused c refused ds within text =
    let p = err_from_is_err_and c.from_residual.result c.from_residual.ensures.1 in
    let is : c.in_err-found.field-0.0 ≡ NotData = cc in
    no_list c.args.bytes.now (subst (λ (e : DataRefusal). Refuses e (arguments_at c.args.bytes.now)) is
    (arguments_at_refused c.in_err-found.field-0.0 c.args.bytes.now c.in_err-found.ensures)) ds within text

pub returns-then-not-fit-clause-function : goal.returns-then-not-fit-clause-function
returns-then-not-fit-clause-function c =
    arguments_at_none c.args.bytes.now (λ ds within text.
    iff_false c.in_ok-fit.ensures c.if-not-fit.true (rw c.items.ensures (subst AreWithinLimits (only_list c.args.bytes.now ds c.in_ok-found.found c.in_ok-found.ensures within text) within)))

pub returns-then-not-fit-clause-refused : goal.returns-then-not-fit-clause-refused
returns-then-not-fit-clause-refused c refused ds within text =
    iff_false c.in_ok-fit.ensures c.if-not-fit.true (rw c.items.ensures (subst AreWithinLimits (only_list c.args.bytes.now ds c.in_ok-found.found c.in_ok-found.ensures within text) within))

pub returns-then-not-is_same-clause-function : goal.returns-then-not-is_same-clause-function
returns-then-not-is_same-clause-function c =
    arguments_at_none c.args.bytes.now (λ ds within text.
    let same = only_list c.args.bytes.now ds c.in_ok-found.found c.in_ok-found.ensures within text in
    iff_false c.is_same.ensures c.if-not-is_same.true
    (c.as_slice.ensures.value ∙ c.in_ok-arguments_text.ensures.text ∙ ap (λ s. s ++ arguments_text c.in_ok-found.found) c.new-text.ensures.items ∙ ap arguments_text (sym same) ∙ text))

pub returns-then-not-is_same-clause-refused : goal.returns-then-not-is_same-clause-refused
returns-then-not-is_same-clause-refused c refused ds within text =
    let same = only_list c.args.bytes.now ds c.in_ok-found.found c.in_ok-found.ensures within text in
    iff_false c.is_same.ensures c.if-not-is_same.true
    (c.as_slice.ensures.value ∙ c.in_ok-arguments_text.ensures.text ∙ ap (λ s. s ++ arguments_text c.in_ok-found.found) c.new-text.ensures.items ∙ ap arguments_text (sym same) ∙ text)

pub returns-clause-function : goal.returns-clause-function
returns-clause-function c =
    arguments_at_of c.args.bytes.now c.in_ok-found.found (rw (sym c.items.ensures) (c.in_ok-fit.ensures.0 c.if-not-fit.false))
    (sym (c.as_slice.ensures.value ∙ c.in_ok-arguments_text.ensures.text ∙ ap (λ s. s ++ arguments_text c.in_ok-found.found) c.new-text.ensures.items) ∙ c.is_same.ensures.0 c.if-not-is_same.false)
