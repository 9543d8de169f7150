-- What is asked for by what was decided, as soon as the text of the arguments is read.
use Rattle.std.specs.Prelude.{ℕ, List, Option, Some, None}
use Rattle.mt_tree.specs.declared.data.Data.{Data}
use Rattle.mt_json.specs.DataAt.{arguments_at}
use Rattle.mt_http_types.specs.declared.request.Asked.{Asked}
use Rattle.mt_http_types.specs.declared.request.Asked.TheVariants.{Refused, Load, Post}
use Rattle.mt_http_stream.specs.declared.settled.Settled.{Settled}
use Rattle.mt_http_stream.specs.declared.settled.Settled.TheVariants as settled

-- a load, or 400 without arguments
abbrev pub load_with : List ℕ → Option (List Data) → Asked
load_with service None = Refused 400
load_with service (Some arguments) = Load (record { service = service; arguments = arguments })

-- a call, or 400 without arguments
abbrev pub post_with : List ℕ → Option (List Data) → Asked
post_with service None = Refused 400
post_with service (Some arguments) = Post (record { service = service; arguments = arguments })

abbrev pub asked_by : Settled → Asked
asked_by (settled.Refused status) = Refused status
asked_by (settled.Load service text) = load_with service (arguments_at text)
asked_by (settled.Post service text) = post_with service (arguments_at text)

-- bytes that end before they decide are refused with 400
abbrev pub asked_of : Option Settled → Asked
asked_of None = Refused 400
asked_of (Some made) = asked_by made
