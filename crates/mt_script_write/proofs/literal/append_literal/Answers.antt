use Rattle.std.proofs.Common.{◌≡◌, subst}
use Rattle.std.specs.Prelude.{OnOk}
use Rattle.std.specs.Str.{chars}
use Rattle.std.proofs.lemmas.Iterator.{YieldsList-from_chars}
use Rattle.std.proofs.lemmas.Iterator.Consumers.{YieldsList-end}
use Rattle.mt_script_write.proofs.Quoted.{quoted}
use Rattle.mt_script_write.proofs.literal.append_literal.Goals as goal

pub returns-clause-text : goal.returns-clause-text
returns-clause-text c =
    let all = YieldsList-end (YieldsList-from_chars c.args.text.now c.utf8.text cc) c.loop-c.yielded _ c.loop-c.yielded_by _ _ c.in-None.is c.next.ensures.steps in
    subst (λ s. OnOk c.append-2.result (c.append-2.new.into.items ≡ s)) (quoted c.args.into.now.items c.loop-c.into.items c.loop-c.yielded (chars c.args.text.now) all.0 c.loop-c.invariant) c.append-2.ensures.text
