use Rattle.std.proofs.Common.{◌≡◌, ◌++◌, ◌∷◌, [], sym, ◌∙◌, ap, subst}
use Rattle.std.proofs.lemmas.Bool.{iff_false}
use Rattle.std.proofs.lemmas.Result.{err_from_is_err_and}
use Rattle.mt_syntax.specs.DataLimits.{AreWithinLimits}
use Rattle.mt_syntax.specs.DataText.{data_text}
use Rattle.mt_json.specs.DataAt.{data_at}
use Rattle.mt_json.specs.Outcome.{Refuses}
use Rattle.mt_json.specs.declared.refusal.DataRefusal.{DataRefusal}
use Rattle.mt_json.specs.declared.refusal.DataRefusal.TheVariants.{NotData}
use Rattle.mt_json.proofs.DataAt.{data_at_none, data_at_of, data_at_refused, no_datum, only_datum}
use Rattle.mt_json.proofs.reading.read_data.Goals as goal

pub returns-in_err-found-clause-function : goal.returns-in_err-found-clause-function
returns-in_err-found-clause-function c =
    let p = err_from_is_err_and c.from_residual.result c.from_residual.ensures.1 in
    rw (p.1, p.2) (data_at_refused c.in_err-found.field-0.0 c.args.bytes.now c.in_err-found.ensures)

pub returns-in_err-found-clause-refused : goal.returns-in_err-found-clause-refused
returns-in_err-found-clause-refused c refused d within text =
    let p = err_from_is_err_and c.from_residual.result c.from_residual.ensures.1 in
    let is : c.in_err-found.field-0.0 ≡ NotData = cc in
    no_datum c.args.bytes.now (subst (λ (e : DataRefusal). Refuses e (data_at c.args.bytes.now)) is (data_at_refused c.in_err-found.field-0.0 c.args.bytes.now c.in_err-found.ensures)) d within text

pub returns-then-not-fits-clause-function : goal.returns-then-not-fits-clause-function
returns-then-not-fits-clause-function c =
    data_at_none c.args.bytes.now (λ d within text.
    iff_false c.in_ok-fits.ensures c.if-not-fits.true (subst (λ x. AreWithinLimits (x ∷ [])) (only_datum c.args.bytes.now d c.in_ok-found.found c.in_ok-found.ensures within text) within))

pub returns-then-not-fits-clause-refused : goal.returns-then-not-fits-clause-refused
returns-then-not-fits-clause-refused c refused d within text =
    iff_false c.in_ok-fits.ensures c.if-not-fits.true (subst (λ x. AreWithinLimits (x ∷ [])) (only_datum c.args.bytes.now d c.in_ok-found.found c.in_ok-found.ensures within text) within)

pub returns-then-not-is_same-clause-function : goal.returns-then-not-is_same-clause-function
returns-then-not-is_same-clause-function c =
    data_at_none c.args.bytes.now (λ d within text.
    let same = only_datum c.args.bytes.now d c.in_ok-found.found c.in_ok-found.ensures within text in
    iff_false c.is_same.ensures c.if-not-is_same.true
    (c.as_slice.ensures.value ∙ c.in_ok-data_text.ensures.text ∙ ap (λ s. s ++ data_text c.in_ok-found.found) c.new-text.ensures.items ∙ ap data_text (sym same) ∙ text))

pub returns-then-not-is_same-clause-refused : goal.returns-then-not-is_same-clause-refused
returns-then-not-is_same-clause-refused c refused d within text =
    let same = only_datum c.args.bytes.now d c.in_ok-found.found c.in_ok-found.ensures within text in
    iff_false c.is_same.ensures c.if-not-is_same.true
    (c.as_slice.ensures.value ∙ c.in_ok-data_text.ensures.text ∙ ap (λ s. s ++ data_text c.in_ok-found.found) c.new-text.ensures.items ∙ ap data_text (sym same) ∙ text)

pub returns-clause-function : goal.returns-clause-function
returns-clause-function c =
    data_at_of c.args.bytes.now c.in_ok-found.found (c.in_ok-fits.ensures.0 c.if-not-fits.false)
    (sym (c.as_slice.ensures.value ∙ c.in_ok-data_text.ensures.text ∙ ap (λ s. s ++ data_text c.in_ok-found.found) c.new-text.ensures.items) ∙ c.is_same.ensures.0 c.if-not-is_same.false)
