use Rattle.std.proofs.Common.{◌≡◌, IfOk, subst}
use Rattle.std.proofs.lemmas.Str.{chars-nil}
use Rattle.mt_parser_builder.proofs.kinds.no_characters.Goals as goal

pub returns : goal.returns
returns c = subst (λ z. IfOk c.from_str.result (λ text. text ≡ z)) chars-nil c.from_str.ensures
