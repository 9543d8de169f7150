-- Of which bytes a stream stands.
use Rattle.std.specs.Prelude.{◌≡◌, ◌≤◌, ◌<◌, ◌==◌, ◌||◌, ℕ, Bool, true, List, length, Some}
use Rattle.std.specs.List.{list_all}
use Rattle.httparse.specs.Grammar.{RequestHead, ReadsRequest, HasNoRequest, NeverHasRequest, print_request}
use Rattle.mt_http_head.specs.Points.{decision, head_of}
use Rattle.mt_http_head.specs.declared.decision.Decision.TheVariants as decided
use Rattle.mt_http_stream.specs.Settling.{Settles, head_limit}
use Rattle.mt_http_stream.specs.declared.progress.Progress.{Progress}
use Rattle.mt_http_stream.specs.declared.progress.Progress.TheVariants.{Blank, Head, Invalid, Body, Over}

-- a line feed or a carriage return
abbrev pub ends_line : ℕ → Bool
ends_line b = b == 10 || b == 13

-- a stream for these services that stands here was fed these bytes in all
abbrev pub IsFed : List (List ℕ) → Progress → List ℕ → Type 0
IsFed services (Blank bytes) fed = (bytes ≡ fed) × (list_all ends_line fed ≡ true) × (length fed < head_limit)
IsFed services (Head bytes) fed = (bytes ≡ fed) × HasNoRequest fed × (length fed < head_limit)
IsFed services (Invalid count) fed = (count ≡ length fed) × NeverHasRequest fed × (length fed < head_limit)
IsFed services (Body service size body) fed =
    (head : RequestHead) × ReadsRequest fed head body × (length (print_request head) ≤ head_limit)
    × (decision services (head_of head) ≡ decided.Post service size) × (length body < size)
IsFed services (Over settled) fed = Settles services fed (Some settled)
