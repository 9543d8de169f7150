use Rattle.mt_program_fits.proofs.Accepted.{dollars_of_program, items_of_program, services_of_program}
use Rattle.mt_program_fits.proofs.accepted_program_fits.Goals as goal

pub returns-clause-items : goal.returns-clause-items
returns-clause-items g c tests p accepted admits = items_of_program tests p accepted (c.accepted_programs_are_made.ensures p accepted) admits

pub returns-clause-dollars : goal.returns-clause-dollars
returns-clause-dollars g c tests p accepted admits = dollars_of_program tests p accepted (c.accepted_programs_are_made.ensures p accepted) admits

pub returns-clause-services : goal.returns-clause-services
returns-clause-services g c tests p accepted admits = services_of_program tests p accepted (c.accepted_programs_are_made.ensures p accepted) admits
