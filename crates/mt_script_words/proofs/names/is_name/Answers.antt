use Rattle.std.proofs.Common.{sym, ◌∙◌}
use Rattle.mt_script_words.proofs.NameBytes.{named_else, named_then}
use Rattle.mt_script_words.proofs.names.is_name.Goals as goal

pub returns-then-is_spelled : goal.returns-then-is_spelled
returns-then-is_spelled c = named_then c.args.word.now c.word_reserved.result c.utf8.word (sym c.is_spelled.ensures ∙ c.if-is_spelled.true) (rw c.as_bytes.ensures.value at c.word_reserved.ensures)

pub returns-else-is_spelled : goal.returns-else-is_spelled
returns-else-is_spelled c = c.if-is_spelled.false ∙ named_else c.args.word.now c.utf8.word (sym c.is_spelled.ensures ∙ c.if-is_spelled.false)
