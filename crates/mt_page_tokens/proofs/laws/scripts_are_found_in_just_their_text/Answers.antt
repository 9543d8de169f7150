use Rattle.mt_page_tokens.proofs.TokensRead.{script_back, script_sound}
use Rattle.mt_page_tokens.proofs.laws.scripts_are_found_in_just_their_text.Goals as goal

pub returns-clause-found : goal.returns-clause-found
returns-clause-found c = script_back

pub returns-clause-alone : goal.returns-clause-alone
returns-clause-alone c = script_sound
