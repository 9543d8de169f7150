use Rattle.rows_resolve.proofs.Pages.{unit_there}
use Rattle.rows_resolve.proofs.page.Page.add.Goals as goal

pub returns-clause-page : goal.returns-clause-page
returns-clause-page c =
    let stands = c.in-Ok.ensures.stands c.requires.page.0 c.requires.page.1 in
    (stands.table', stands.functions)

pub returns-clause-id : goal.returns-clause-id
returns-clause-id c = unit_there c.args.body.now c.args.self.now.units c.resolve_client.new.units c.requires.page.0 c.in-Ok.id (c.in-Ok.ensures.stands c.requires.page.0 c.requires.page.1)
