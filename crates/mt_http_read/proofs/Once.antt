-- Bytes are read by what they have decided, and for good once they have.
use Rattle.std.proofs.Common.{◌≡◌, ℕ, List, ◌++◌, length, Option, Some, None, refl, sym, ap, ◌∙◌, subst}
use Rattle.mt_http_types.specs.declared.feed.Feed.{Feed}
use Rattle.mt_http_types.specs.declared.feed.Feed.TheVariants.{More, Decided}
use Rattle.mt_http_stream.specs.Settling.{Settles, Tells}
use Rattle.mt_http_stream.specs.declared.settled.Settled.{Settled}
use Rattle.mt_http_stream.proofs.Steps.{settled_more, settled_once}
use Rattle.mt_http_read.specs.Asking.{asked_of}
use Rattle.mt_http_read.specs.Heads.{head_in}
use Rattle.mt_http_read.specs.Reading.{feed_by, reads_request, settled_in}
use Rattle.mt_http_read.proofs.Heads.{found}
use Rattle.mt_http_read.proofs.Points.{same_reading}

pub settles : (services : List (List ℕ)) (bytes : List ℕ) → Settles services bytes (settled_in services bytes)
settles services bytes = (head_in bytes, found bytes, refl)

pub settled_is : (services : List (List ℕ)) (bytes : List ℕ) (made : Option Settled) → Settles services bytes made → settled_in services bytes ≡ made
settled_is services bytes made is = settled_once services bytes (settled_in services bytes) made (settles services bytes) is

pub read_by : (services : List (List ℕ)) (bytes : List ℕ) (made : Option Settled) → Settles services bytes made → reads_request services bytes ≡ asked_of made
read_by services bytes made is = same_reading services (length bytes) (head_in bytes) ∙ ap asked_of (settled_is services bytes made is)

pub fed_by : (services : List (List ℕ)) (bytes : List ℕ) (feed : Feed) → Tells services bytes feed → feed ≡ feed_by (settled_in services bytes)
fed_by services bytes More tells = sym (ap feed_by (settled_is services bytes None tells))
fed_by services bytes Decided tells = sym (ap feed_by (settled_is services bytes (Some tells.0) tells.1))

pub settled_for_good : (services : List (List ℕ)) (bytes more : List ℕ) (made : Settled) → settled_in services bytes ≡ Some made → settled_in services (bytes ++ more) ≡ Some made
settled_for_good services bytes more made is =
    settled_is services (bytes ++ more) (Some made) (settled_more services bytes more made (subst (Settles services bytes) is (settles services bytes)))

pub for_good : (services : List (List ℕ)) (bytes more : List ℕ) (made : Settled) → settled_in services bytes ≡ Some made
    → reads_request services (bytes ++ more) ≡ reads_request services bytes
for_good services bytes more made is =
    same_reading services (length (bytes ++ more)) (head_in (bytes ++ more)) ∙ ap asked_of (settled_for_good services bytes more made is ∙ sym is)
    ∙ sym (same_reading services (length bytes) (head_in bytes))
