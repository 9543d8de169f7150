use Rattle.std.proofs.Common.{◌≡◌, ◌++◌, None, Err, map, refl, sym, ap, subst, ◌∙◌}
use Rattle.std.proofs.lemmas.Bool.{iff_false}
use Rattle.std.proofs.lemmas.Result.{err_from_is_err_and}
use Rattle.mt_syntax.specs.CodeText.{code_text}
use Rattle.mt_syntax.specs.Fold.{on_stmt}
use Rattle.mt_script_words.specs.Outcome.{Refuses}
use Rattle.mt_script_words.specs.declared.refusal.CodeRefusal.{CodeRefusal}
use Rattle.mt_script_words.specs.declared.refusal.CodeRefusal.TheVariants as refusal
use Rattle.mt_script_tree.specs.Reading.{stmts_at}
use Rattle.mt_script_read.specs.CodeAt.{code_at}
use Rattle.mt_script_read.specs.Walking.{all_walks, walking}
use Rattle.mt_script_read.proofs.Accepted.{found_fits, found_is_not_too_deep, found_is_read, nothing_is_read, text_of_found, values_are_within, walk_of, walk_to}
use Rattle.mt_script_read.proofs.Function.{none_is, read_is, refuses_bytes, refuses_deep, refuses_nothing}
use Rattle.mt_script_read.proofs.reading.read_code.Goals as goal

pub returns-in_err-body-clause-refused : goal.returns-in_err-body-clause-refused
returns-in_err-body-clause-refused c refused body r =
    let p = err_from_is_err_and c.from_residual.result c.from_residual.ensures.1 in
    let is : c.in_err-body.field-0.0 ≡ refusal.NotCode = cc in
    nothing_is_read c.args.bytes.now (subst (λ (e : CodeRefusal). Refuses e (stmts_at 60 c.args.bytes.now)) is c.in_err-body.ensures) body r

pub returns-in_err-stmts-clause-refused : goal.returns-in_err-stmts-clause-refused
returns-in_err-stmts-clause-refused c refused body r =
    let p = err_from_is_err_and c.from_residual-in_err-stmts.result c.from_residual-in_err-stmts.ensures.1 in
    let is : c.in_err-stmts.field-0.0 ≡ refusal.NotCode = cc in
    let walk = subst (λ (e : CodeRefusal). Refuses e (all_walks (map (on_stmt walking) c.items.result.now) 60 c.new-values.result.items)) is c.in_err-stmts.ensures in
    found_is_not_too_deep c.args.bytes.now c.in_ok-body.body c.in_ok-body.ensures (walk_of c.items.result.now c.in_ok-body.body c.new-values.result.items None c.items.ensures c.new-values.ensures.items walk) body r

pub returns-then-not-is_same-clause-refused : goal.returns-then-not-is_same-clause-refused
returns-then-not-is_same-clause-refused c refused body r =
    iff_false c.is_same.ensures c.if-not-is_same.true
    (c.as_slice.ensures.value ∙ c.in_ok-code_text.ensures.text ∙ ap (λ s. s ++ code_text c.in_ok-body.body) c.new-text.ensures.items ∙ text_of_found c.args.bytes.now c.in_ok-body.body c.in_ok-body.ensures body r)

pub returns-then-not-within-clause-refused : goal.returns-then-not-within-clause-refused
returns-then-not-within-clause-refused c refused body r =
    let walk = walk_to c.items.result.now c.in_ok-body.body c.new-values.result.items c.stmts.new.met.items c.in_ok-values.values c.items.ensures c.new-values.ensures.items c.in_ok-values.ensures c.in_ok-stmts.ensures in
    iff_false c.in_ok-within.ensures.fits c.if-not-within.true (
      values_are_within c.args.bytes.now c.in_ok-body.body c.in_ok-body.ensures c.in_ok-values.values walk body r,
      found_fits c.args.bytes.now c.in_ok-body.body c.in_ok-body.ensures body r,
    )

pub returns-clause-read : goal.returns-clause-read
returns-clause-read c =
    let walk = walk_to c.items.result.now c.in_ok-body.body c.new-values.result.items c.stmts.new.met.items c.in_ok-values.values c.items.ensures c.new-values.ensures.items c.in_ok-values.ensures c.in_ok-stmts.ensures in
    let written = sym (c.as_slice.ensures.value ∙ c.in_ok-code_text.ensures.text ∙ ap (λ s. s ++ code_text c.in_ok-body.body) c.new-text.ensures.items) in
    let fits = c.in_ok-within.ensures.fits.0 c.if-not-within.false in
    found_is_read c.args.bytes.now c.in_ok-body.body c.in_ok-body.ensures c.in_ok-values.values walk fits.0 (written ∙ c.is_same.ensures.0 c.if-not-is_same.false) fits.1.0 fits.1.1

-- ---- as a function

pub returns-in_err-body-clause-function : goal.returns-in_err-body-clause-function
returns-in_err-body-clause-function c =
    let p = err_from_is_err_and c.from_residual.result c.from_residual.ensures.1 in
    rw (p.1, p.2) (refuses_bytes c.in_err-body.field-0.0 c.args.bytes.now c.in_err-body.ensures)

pub returns-in_err-stmts-clause-function : goal.returns-in_err-stmts-clause-function
returns-in_err-stmts-clause-function c =
    let p = err_from_is_err_and c.from_residual-in_err-stmts.result c.from_residual-in_err-stmts.ensures.1 in
    rw (p.1, p.2) (refuses_deep c.in_err-stmts.field-0.0 c.args.bytes.now c.in_ok-body.body c.items.result.now c.new-values.result.items c.in_ok-body.ensures c.items.ensures c.new-values.ensures.items c.in_err-stmts.ensures)

pub returns-then-not-is_same-clause-function : goal.returns-then-not-is_same-clause-function
returns-then-not-is_same-clause-function c = none_is c.args.bytes.now (returns-then-not-is_same-clause-refused c refl)

pub returns-in_err-within-clause-function : goal.returns-in_err-within-clause-function
returns-in_err-within-clause-function c =
    let p = err_from_is_err_and c.from_residual-in_err-within.result c.from_residual-in_err-within.ensures.1 in
    rw (p.1, p.2) (refuses_nothing c.in_err-within.field-0.0 (code_at c.args.bytes.now) (λ e. c.in_err-within.ensures.refused (ap Err e)))

pub returns-then-not-within-clause-function : goal.returns-then-not-within-clause-function
returns-then-not-within-clause-function c = none_is c.args.bytes.now (returns-then-not-within-clause-refused c refl)

pub returns-clause-function : goal.returns-clause-function
returns-clause-function c = read_is c.args.bytes.now c.in_ok-body.body (returns-clause-read c)
