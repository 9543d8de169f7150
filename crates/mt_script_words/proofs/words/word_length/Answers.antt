use Rattle.std.proofs.Common.{sym, ◌∙◌}
use Rattle.mt_script_words.proofs.WordTexts.{word_fills, word_stops, word_turn}
use Rattle.mt_script_words.proofs.words.word_length.Goals as goal

pub returns-then-not-is_word_byte-clause-value : goal.returns-then-not-is_word_byte-clause-value
returns-then-not-is_word_byte-clause-value c = word_stops c.args.bytes.now c.loop-i.i c.loop-i-test.true (sym c.is_word_byte.ensures ∙ c.if-not-is_word_byte.true) c.loop-i.invariant

pub loop-i-preserved : goal.loop-i-preserved
loop-i-preserved c = word_turn c.args.bytes.now c.loop-i.i c.loop-i-test.true (sym c.is_word_byte.ensures ∙ c.if-not-is_word_byte.false) c.loop-i.invariant

pub returns-clause-value : goal.returns-clause-value
returns-clause-value c = word_fills c.args.bytes.now c.loop-i.i c.loop-i-test.false c.loop-i.invariant
