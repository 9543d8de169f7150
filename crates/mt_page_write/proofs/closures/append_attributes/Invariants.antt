use Rattle.std.proofs.Common.{◌≡◌, ◌++◌, take}
use Rattle.std.specs.List.{flat_map}
use Rattle.mt_page_write.specs.Written.{attribute_written}
use Rattle.mt_page_write.proofs.closures.append_attributes.Given as goal

abbrev pub invariant-loop-attribute : goal.invariant-loop-attribute
invariant-loop-attribute l = l.into.items ≡ l.fn.into.items ++ flat_map (attribute_written l.tildes) (take l.attribute-index l.attributes)
