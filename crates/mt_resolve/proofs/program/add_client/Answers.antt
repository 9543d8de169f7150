use Rattle.std.proofs.Common.{ap, length}
use Rattle.std.proofs.lemmas.Result.{err_from_is_err_and}
use Rattle.mt_resolve_names.specs.Around.{surroundings_of}
use Rattle.mt_resolve.proofs.Makes.{client_stands}
use Rattle.mt_resolve.proofs.Total.{client_refuses}
use Rattle.mt_resolve.proofs.program.add_client.Goals as goal

pub returns-in_err-unit-clause-memory : goal.returns-in_err-unit-clause-memory
returns-in_err-unit-clause-memory c within =
    let p = err_from_is_err_and c.from_residual-in_err-unit.result c.from_residual-in_err-unit.ensures.1 in
    rw (p.1, p.2) (client_refuses _ _ _ _ _ c.client_code.new.functions.items c.in_err-unit.field-0.0 (ap (λ around. around.tildes) c.in_ok-of_client.ensures) within c.in_err-unit.ensures)

pub returns-clause-stands : goal.returns-clause-stands
returns-clause-stands c =
    client_stands c.args.code.now (surroundings_of c.in_ok-of_client.field-0) (length c.functions.result.now) c.new-functions.result.items c.args.units.now c.in_ok-unit.unit c.client_code.new.functions.items c.add.new.self c.in_ok-add.field-0
    c.in_ok-of_client.ensures (ap length c.functions.ensures) c.new-functions.ensures.items c.in_ok-unit.ensures c.in_ok-add.ensures.ok c.in_ok-add.ensures.number
