use Rattle.std.proofs.Common.{◌∙◌, sym, ap, arith}
use Rattle.std.proofs.lemmas.Int.{to_z-of_z}
use mir.Syntax.{w64}
use Rattle.mt_builtins.specs.Numbers.{within}
use Rattle.mt_builtins.proofs.Numerals.{read, fits, plus, no_plus, plus_none, text_number}
use Rattle.mt_builtins.proofs.number.number_in.Goals as goal

pub returns-then-starts_with : goal.returns-then-starts_with
returns-then-starts_with c =
    let text = c.as_str-text in
    let tests = c.starts_with.ensures.byte (omega arith) (omega arith) (λ w o h. h) in
    plus_none c.args.text.now text.result.now text.ensures.value text.ensures.bytes (plus text.result.now c.starts_with.result tests c.if-starts_with.true)

pub returns-in-Ok : goal.returns-in-Ok
returns-in-Ok c =
    let text = c.as_str-text in
    let tests = c.starts_with.ensures.byte (omega arith) (omega arith) (λ w o h. h) in
    c.within.ensures ∙ ap within (to_z-of_z w64 c.in-Ok.n (fits text.result.now c.parse.result c.in-Ok.n c.parse.ensures.value.0 c.in-Ok.is)) ∙ sym (ap read c.in-Ok.is)
    ∙ text_number text.result.now c.parse.result c.parse.ensures.value.0 (no_plus text.result.now c.starts_with.result tests c.if-starts_with.false) c.args.text.now text.ensures.value text.ensures.bytes

pub returns-in-Err : goal.returns-in-Err
returns-in-Err c =
    let text = c.as_str-text in
    let tests = c.starts_with.ensures.byte (omega arith) (omega arith) (λ w o h. h) in
    sym (ap read c.in-Err.is)
    ∙ text_number text.result.now c.parse.result c.parse.ensures.value.0 (no_plus text.result.now c.starts_with.result tests c.if-starts_with.false) c.args.text.now text.ensures.value text.ensures.bytes
