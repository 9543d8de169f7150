use Rattle.std.proofs.Common.{ap}
use Rattle.std.proofs.lemmas.Result.{err_from_is_err_and}
use Rattle.mt_resolve_names.specs.Around.{surroundings_of}
use Rattle.mt_resolve.proofs.Makes.{program_stands}
use Rattle.mt_resolve.proofs.Total.{file_refuses}
use Rattle.mt_resolve.proofs.program.units_of.Goals as goal

pub returns-in_err-top-clause-memory : goal.returns-in_err-top-clause-memory
returns-in_err-top-clause-memory c within =
    let p = err_from_is_err_and c.from_residual-in_err-top.result c.from_residual-in_err-top.ensures.1 in
    rw (p.1, p.2) (file_refuses _ _ _ _ _ c.file.new.functions.items c.in_err-top.field-0.0 (ap (λ around. around.tildes) c.in_ok-of_file.ensures) within c.in_err-top.ensures)

pub returns-clause-stands : goal.returns-clause-stands
returns-clause-stands c =
    program_stands c.args.program.now (surroundings_of c.in_ok-of_file.field-0) c.new-functions.result.items c.in_ok-top.top c.in_ok-top.services c.file.new.functions.items c.in_ok-of_file-2.field-0
    c.in_ok-of_file.ensures c.new-functions.ensures.items c.in_ok-top.ensures c.in_ok-of_file-2.ensures
