use Rattle.std.proofs.Common.{◌≡◌, ◌++◌, take}
use Rattle.std.specs.List.{flat_map}
use Rattle.mt_syntax.specs.PageText.{escape_byte}
use Rattle.mt_page_write.proofs.escaping.append_escaped.Given as goal

abbrev pub invariant-loop-byte : goal.invariant-loop-byte
invariant-loop-byte l = l.into.items ≡ l.fn.into.items ++ flat_map escape_byte (take l.byte-index l.bytes)
