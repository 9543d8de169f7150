use Rattle.std.proofs.Common.{◌≡◌, ◌++◌, sym, ap, ◌∙◌, subst}
use Rattle.std.specs.Prelude.{OnOk}
use Rattle.mt_eval_meaning.specs.Hoisting.{hoisting}
use Rattle.mt_resolve_free.proofs.Nodes.{variables_of_start}
use Rattle.mt_syntax.specs.Fold.{on_for_start}
use Rattle.mt_resolve_free.proofs.hoisting.of_start.Goals as goal

pub returns-in-Var : goal.returns-in-Var
returns-in-Var c =
    subst (λ names. OnOk c.of_decls.result (c.of_decls.new.into.items ≡ c.args.into.now.items ++ names))
    (sym (ap (on_for_start hoisting) c.in-Var.is ∙ variables_of_start c.in-Var.items)) c.of_decls.ensures
