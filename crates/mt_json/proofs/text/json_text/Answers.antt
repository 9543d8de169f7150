use Rattle.std.proofs.Common.{◌≡◌, subst, ◌∙◌}
use Rattle.std.specs.Prelude.{OnOk}
use Rattle.std.proofs.lemmas.Iterator.{YieldsList-from_chars}
use Rattle.std.proofs.lemmas.Iterator.Consumers.{YieldsList-end}
use Rattle.mt_json.proofs.Separated.{quoted}
use Rattle.mt_json.proofs.text.json_text.Goals as goal

pub returns-clause-text : goal.returns-clause-text
returns-clause-text c =
    let all = YieldsList-end (YieldsList-from_chars c.as_str.result.now c.as_str.utf8 cc) c.loop-c.yielded _ c.loop-c.yielded_by _ _ c.in-None.is c.next.ensures.steps in
    subst (λ s. OnOk c.append-2.result (c.append-2.new.into.items ≡ s)) (quoted c.args.into.now.items c.loop-c.into.items c.loop-c.yielded c.args.text.now (all.0 ∙ c.as_str.ensures.value) c.loop-c.invariant) c.append-2.ensures.text
