use Rattle.std.proofs.Common.{rules, sym, arith}
use Rattle.mt_parser_machine.proofs.Tags.{one_more, ends_here, all_of_them}
use Rattle.mt_parser_machine.proofs.tag.tag_bytes.Goals as goal

pub returns-then-not-is_tag_byte : goal.returns-then-not-is_tag_byte
returns-then-not-is_tag_byte c = sym (ends_here c.args.bytes.now c.loop-end.end 0 (search rules) (search rules) c.loop-end.invariant)

pub loop-end-preserved : goal.loop-end-preserved
loop-end-preserved c = one_more c.args.bytes.now c.loop-end.end 0 (search rules) (search rules) c.loop-end.invariant

pub returns : goal.returns
returns c = sym (all_of_them c.args.bytes.now c.loop-end.end (omega arith) c.loop-end.invariant)
