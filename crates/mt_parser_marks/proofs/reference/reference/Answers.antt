use Rattle.std.proofs.Common.{refl}
use Rattle.std.specs.Prelude.{codes}
use Rattle.mt_parser_marks.proofs.References.{strips, lacks}
use Rattle.mt_parser_marks.proofs.reference.reference.Goals as goal

pub returns-in-Some : goal.returns-in-Some
returns-in-Some c = rw (strips (codes "amp;") c.args.text.now c.in-Some.rest.now refl c.in-Some.ensures.cases) refl

pub returns-in-Some-strip_prefix : goal.returns-in-Some-strip_prefix
returns-in-Some-strip_prefix c = rw (lacks (codes "amp;") c.args.text.now refl c.utf8.text c.in_default.ensures.cases, strips (codes "lt;") c.args.text.now c.in-Some-strip_prefix.rest.now refl c.in-Some-strip_prefix.ensures.cases) refl

pub returns-in-Some-strip_prefix-2 : goal.returns-in-Some-strip_prefix-2
returns-in-Some-strip_prefix-2 c = rw (lacks (codes "amp;") c.args.text.now refl c.utf8.text c.in_default.ensures.cases, lacks (codes "lt;") c.args.text.now refl c.utf8.text c.in_default-strip_prefix.ensures.cases, strips (codes "gt;") c.args.text.now c.in-Some-strip_prefix-2.rest.now refl c.in-Some-strip_prefix-2.ensures.cases) refl

pub returns-in-Some-strip_prefix-3 : goal.returns-in-Some-strip_prefix-3
returns-in-Some-strip_prefix-3 c = rw (lacks (codes "amp;") c.args.text.now refl c.utf8.text c.in_default.ensures.cases, lacks (codes "lt;") c.args.text.now refl c.utf8.text c.in_default-strip_prefix.ensures.cases, lacks (codes "gt;") c.args.text.now refl c.utf8.text c.in_default-strip_prefix-2.ensures.cases, strips (codes "quot;") c.args.text.now c.in-Some-strip_prefix-3.rest.now refl c.in-Some-strip_prefix-3.ensures.cases) refl

pub returns-in_default-strip_prefix-3 : goal.returns-in_default-strip_prefix-3
returns-in_default-strip_prefix-3 c = rw (lacks (codes "amp;") c.args.text.now refl c.utf8.text c.in_default.ensures.cases, lacks (codes "lt;") c.args.text.now refl c.utf8.text c.in_default-strip_prefix.ensures.cases, lacks (codes "gt;") c.args.text.now refl c.utf8.text c.in_default-strip_prefix-2.ensures.cases, lacks (codes "quot;") c.args.text.now refl c.utf8.text c.in_default-strip_prefix-3.ensures.cases) refl
