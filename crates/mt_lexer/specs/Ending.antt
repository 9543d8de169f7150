-- How the reading of a text ended.
use Rattle.std.specs.Prelude.{◌≡◌, ◌<◌, ◌≤◌, List, [], ◌∷◌, length}
use Rattle.mt_lexer.specs.declared.reading.Ending.{Ending}
use Rattle.mt_lexer.specs.declared.reading.Ending.TheVariants as ending
use Rattle.mt_lexer.specs.Spelling.{Outcome, finished, token, refused}
use Rattle.mt_lexer.specs.Tokens.{Mark}
use Rattle.mt_tree.specs.Limits.{token_limit}

-- these tokens, and then the outcome
abbrev pub front : List Mark → Outcome → Outcome
front [] o = o
front (t ∷ ts) o = token t.kind t.span (front ts o)

-- the tokens so far, and how the outcome goes on behind them
abbrev pub Ends : Ending → List Mark → Outcome → Type 0
Ends ending.Finished marks o = (front marks finished ≡ o) × (length marks ≤ token_limit)
Ends (ending.Refused f at) marks o = (front marks (refused f at) ≡ o) × (length marks ≤ token_limit)
Ends ending.TooManyTokens marks o = (rest : Outcome) × (front marks rest ≡ o) × (token_limit < length marks)
