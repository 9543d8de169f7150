use Rattle.std.proofs.Common.{ap, ◌∙◌}
use Rattle.mt_stage_declared.specs.Names.{kinds_of, named}
use Rattle.mt_stage_declared.proofs.Tables.{found_kinds, kinds_named}
use Rattle.mt_stage_declared.proofs.table.Table.kinds.Goals as goal

pub returns-in-None : goal.returns-in-None
returns-in-None c =
    c.none.ensures ∙ ap found_kinds c.in-None.ensures.value ∙ kinds_named c.as_str.result.now c.as_str.utf8 c.self.inside.entries.entries
    ∙ ap (λ name. kinds_of name (named c.self.inside.entries.entries)) c.as_str.ensures.value ∙ ap (kinds_of c.args.name.now) c.self.view_is

pub returns-in-Some : goal.returns-in-Some
returns-in-Some c =
    ap found_kinds c.in-Some.ensures.value ∙ kinds_named c.as_str.result.now c.as_str.utf8 c.self.inside.entries.entries
    ∙ ap (λ name. kinds_of name (named c.self.inside.entries.entries)) c.as_str.ensures.value ∙ ap (kinds_of c.args.name.now) c.self.view_is
