use Rattle.mt_page_tokens.proofs.TokensRead.{opening_back, opening_sound}
use Rattle.mt_page_tokens.proofs.laws.openings_are_found_in_just_their_text.Goals as goal

pub returns-clause-found : goal.returns-clause-found
returns-clause-found c = opening_back

pub returns-clause-alone : goal.returns-clause-alone
returns-clause-alone c = opening_sound
