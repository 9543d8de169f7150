use Rattle.std.proofs.Common.{◌≡◌, drop}
use Rattle.std.specs.List.{find}
use Rattle.percent_encoding.specs.Percent.{percent_decode}
use Rattle.mt_http_head.specs.Targets.{has_name}
use Rattle.mt_http_head.proofs.target.service_named.Given as goal

abbrev pub invariant-loop-service : goal.invariant-loop-service
invariant-loop-service l =
    let test = has_name (percent_decode l.escaped) in
    find test (drop l.service-index l.services) ≡ find test l.services
