use Rattle.std.proofs.Common.{map, take}
use Rattle.httparse.specs.Spans.{header_bytes}
use Rattle.mt_http_head.specs.Fields.{values_of}
use Rattle.mt_http_head.specs.Parsed.{AreValues}
use Rattle.mt_http_head.proofs.fields.values_of.Given as goal

abbrev pub invariant-loop-span : goal.invariant-loop-span
invariant-loop-span l = AreValues l.values (values_of l.name (map (header_bytes l.bytes) (take l.span-index l.spans)))
