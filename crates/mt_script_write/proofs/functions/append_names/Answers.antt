use Rattle.mt_syntax.specs.CodeText.{name_text}
use Rattle.mt_json.proofs.Separated.{grown}
use Rattle.mt_script_write.proofs.functions.append_names.Goals as goal

pub loop-name-preserved : goal.loop-name-preserved
loop-name-preserved c = grown name_text c.args.names.now c.loop-name.name-index c.name-item.result c.loop-name.later _ _ _ _ c.name-item.is c.loop-name-test.true c.loop-name.invariant c.in_ok-append_separator.ensures.text c.in_ok-append_name.ensures.text
