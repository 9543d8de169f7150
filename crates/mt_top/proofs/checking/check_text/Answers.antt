use Rattle.std.proofs.Common.{refl}
use Rattle.mt_source.proofs.Sources.{never_both}
use Rattle.mt_top.specs.Lines.{source_line}
use Rattle.mt_top.proofs.checking.check_text.Goals as goal

pub returns-in-Ok-write_refusal-clause-meaning : goal.returns-in-Ok-write_refusal-clause-meaning
returns-in-Ok-write_refusal-clause-meaning g c =
    let of_text = c.in-Ok-write_refusal.ensures.ok.0 in
    (never_both c.args.text.now c.in-Err.refusal of_text c.in-Err.ensures.refused, (source_line c.in-Err.refusal, (c.in-Err.refusal, of_text, c.in-Err.ensures.refused, refl), c.in-Ok-write_refusal.ensures.ok.1))
