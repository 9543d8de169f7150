use Rattle.std.proofs.Common.{inl, refl, subst}
use Rattle.mt_source.proofs.Sources.{never_both}
use Rattle.mt_start.specs.Starts.{StartMeans}
use Rattle.mt_start.specs.declared.startup.Startup.{Startup}
use Rattle.mt_top.specs.Lines.{source_line}
use Rattle.mt_top.proofs.starting.start_text.Goals as goal

pub returns-in-Ok-write_refusal-clause-meaning : goal.returns-in-Ok-write_refusal-clause-meaning
returns-in-Ok-write_refusal-clause-meaning g c =
    let of_text = c.in-Ok-write_refusal.ensures.ok.0 in
    let refused = subst (λ (x : Startup). StartMeans c.args.text.now x) c.in-Ok-Refused.field-0-is c.in-Ok-Refused.ensures in
    let line = source_line c.in-Ok-Refused.refusal in
    (inl (never_both c.args.text.now c.in-Ok-Refused.refusal of_text refused), (line, (inl (c.in-Ok-Refused.refusal, of_text, refused, refl)), c.in-Ok-write_refusal.ensures.ok.1))
