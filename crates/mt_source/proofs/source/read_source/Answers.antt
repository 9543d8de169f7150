use Rattle.std.proofs.Common.{IfErr, List, ℕ, subst}
use Rattle.mt_parser.proofs.Few.{same_source}
use Rattle.mt_source.specs.Sources.{IsRefusedWith}
use Rattle.mt_source.proofs.source.read_source.Goals as goal

pub returns-clause-refused : goal.returns-clause-refused
returns-clause-refused c =
    subst (λ (x : List ℕ). IfErr c.read_tokens.result (λ refusal. IsRefusedWith x refusal)) (same_source c.args.text.now c.in_ok-tokens.tokens c.in_ok-tokens.ensures.reading.0) c.read_tokens.ensures.refused
