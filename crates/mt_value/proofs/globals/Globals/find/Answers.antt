use Rattle.std.proofs.Common.{ap, ◌∙◌}
use Rattle.mt_value.specs.Globals.{value_of}
use Rattle.mt_value.specs.Names.{named}
use Rattle.mt_value.proofs.Tables.{lookup_named}
use Rattle.mt_value.proofs.globals.Globals.find.Goals as goal

pub returns : goal.returns
returns c =
    c.get.ensures.value ∙ lookup_named c.as_str.result.now c.as_str.utf8 c.self.inside.table.entries
    ∙ ap (λ name. value_of name (named c.self.inside.table.entries)) c.as_str.ensures.value ∙ ap (value_of c.args.name.now) c.self.view_is
