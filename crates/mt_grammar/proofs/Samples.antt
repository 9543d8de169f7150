-- What the machine says of small sources.
use Rattle.std.proofs.Common.{refl}
use Rattle.mt_grammar.specs.Token.{terminal, tag_bytes, open_name, close_name}
use Rattle.mt_grammar.specs.Samples.{Refused, Accepted}

pub refused : Refused
unfolding terminal tag_bytes open_name close_name
refused = (refl, refl, refl, refl, refl, refl, refl, refl, refl, refl, refl, refl, refl, refl)

pub accepted : Accepted
unfolding terminal tag_bytes open_name close_name
accepted = (refl, refl, refl, refl, refl, refl, refl, refl, refl, refl, refl)
