use Rattle.mt_page_tokens.proofs.TokensRead.{words_back, words_sound}
use Rattle.mt_page_tokens.proofs.laws.words_are_found_in_just_their_text.Goals as goal

pub returns-clause-found : goal.returns-clause-found
returns-clause-found c = words_back

pub returns-clause-alone : goal.returns-clause-alone
returns-clause-alone c = words_sound
