use Rattle.std.proofs.Common.{◌≡◌, ◌∙◌, ap, unwrap_or, Option, None, Some, List, ℕ, Bor, option_copied, refl}
use Rattle.mt_lines.proofs.Lines.{without_return_is}
use Rattle.mt_lines.proofs.line.without_return.Goals as goal

-- the option of a reference, seen through it
seen : (o : Option (Bor (List ℕ))) (line : Bor (List ℕ)) → (unwrap_or o line).now ≡ unwrap_or (option_copied o) line.now
seen None line = refl
seen (Some front) line = refl

pub returns : goal.returns
returns c =
    ap (λ x. x.now) c.unwrap_or.ensures ∙ seen c.before_back.result c.args.line
    ∙ ap (λ o. unwrap_or o c.args.line.now) c.before_back.ensures ∙ without_return_is c.args.line.now
