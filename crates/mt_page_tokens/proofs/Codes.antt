-- What is known of codes.
use Rattle.std.proofs.Common.{◌≡◌, ℕ, true, List, Option, Some, None, ap}
use Rattle.std.specs.Prelude.{option_map}
use Rattle.mt_syntax.specs.CodeText.{code_text}
use Rattle.mt_syntax.specs.declared.program.Code.{Code}
use Rattle.mt_syntax.specs.declared.tree.Stmt.{Stmt}
use Rattle.mt_script_read.specs.CodeAt.{code_at}
use Rattle.mt_script_read.proofs.Function.{code_is_within, code_of_text, text_of_code, within_of_code}
use Rattle.mt_syntax_laws.proofs.CodeOpenings.{code_opens_nothing}
use Rattle.mt_syntax_laws.specs.Openings.{opens_nothing}
use Rattle.mt_page_tokens.specs.Codes.{code_spelled, code_with, is_code}

pub code_back : (code : Code) → is_code code ≡ true → code_spelled (code_text code.body) ≡ Some code
unfolding code_spelled is_code
code_back code h = ap (option_map code_with) (code_of_text code.body (within_of_code code.body h))

some_mapped : (found : Option (List Stmt)) (code : Code) → option_map code_with found ≡ Some code → found ≡ Some code.body
some_mapped None code h = absurd cc
some_mapped (Some body) code h = let same : code_with body ≡ code = cc in ap (λ (c : Code). Some c.body) same

pub code_sound : (bytes : List ℕ) (code : Code) → code_spelled bytes ≡ Some code → (is_code code ≡ true) × (code_text code.body ≡ bytes)
unfolding code_spelled is_code
code_sound bytes code h = let read = text_of_code bytes code.body (some_mapped (code_at bytes) code h) in (code_is_within code.body read.within, read.text)

pub code_closed : (code : Code) → is_code code ≡ true → opens_nothing (code_text code.body) ≡ true
unfolding is_code
code_closed code h = code_opens_nothing code.body (within_of_code code.body h).code.shaped
