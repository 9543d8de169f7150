use Rattle.std.specs.Str.{chars}
use Rattle.std.specs.String.{string_bytes}
use Rattle.mt_html.proofs.Before.{gathered}
use Rattle.mt_html.proofs.joining.put.Goals as goal
use Rattle.mt_tree.specs.declared.closure.Closure.{Closure}

pub returns-in_ok-push_text-in-Some : goal.returns-in_ok-push_text-in-Some
returns-in_ok-push_text-in-Some c rest =
    gathered Closure c.args.made.now.items rest (chars (string_bytes c.args.run.now)) (chars (string_bytes c.push_text.new.into)) c.in-Some.text.now c.args.child.now c.in-Some.ensures
    c.in_ok-push_text-in-Some.ensures
