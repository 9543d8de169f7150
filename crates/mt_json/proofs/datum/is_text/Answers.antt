use Rattle.std.proofs.Common.{sym}
use Rattle.mt_json.proofs.datum.is_text.Goals as goal

pub returns : goal.returns
returns c = sym c.as_str-characters.ensures.scalars
