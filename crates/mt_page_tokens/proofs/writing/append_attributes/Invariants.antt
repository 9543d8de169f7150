use Rattle.std.proofs.Common.{◌≡◌, ◌++◌, take}
use Rattle.std.specs.List.{flat_map}
use Rattle.mt_syntax.specs.PageText.{attribute_text}
use Rattle.mt_page_tokens.proofs.writing.append_attributes.Given as goal

abbrev pub invariant-loop-attribute : goal.invariant-loop-attribute
invariant-loop-attribute l = l.into.items ≡ l.fn.into.items ++ flat_map attribute_text (take l.attribute-index l.attributes)
