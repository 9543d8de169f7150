use Rattle.std.proofs.Common.{◌≡◌, length, ◌∙◌, rules}
use Rattle.mt_eval_meaning.specs.Hoisting.{lexicals}
use Rattle.mt_resolve.specs.Tops.{client_code}
use Rattle.mt_resolve.proofs.Sizes.{entry_size}
use Rattle.mt_resolve.proofs.program.client_code.Goals as goal

pub returns-in_err-statements : goal.returns-in_err-statements
unfolding client_code
returns-in_err-statements c =
    let size : c.len-undeclared.result ≡ length (lexicals c.args.items.now) = c.len-undeclared.ensures ∙ entry_size c.bind_lexicals.new.self c.new-entry.result c.items.result.now c.args.items.now c.new-entry.ensures c.items.ensures c.in_ok-bind_lexicals.ensures in
    search rules

pub returns : goal.returns
unfolding client_code
returns c =
    let size : c.len-undeclared.result ≡ length (lexicals c.args.items.now) = c.len-undeclared.ensures ∙ entry_size c.bind_lexicals.new.self c.new-entry.result c.items.result.now c.args.items.now c.new-entry.ensures c.items.ensures c.in_ok-bind_lexicals.ensures in
    search rules
