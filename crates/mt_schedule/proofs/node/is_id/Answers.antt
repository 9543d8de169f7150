use Rattle.std.proofs.Common.{◌≡◌, ◌∙◌, ◌&&◌, List, ℕ, true, false, not, nat_lt, length, sym, ap}
use Rattle.std.specs.List.{list_all}
use Rattle.std.specs.Str.{chars}
use Rattle.mt_schedule.specs.Command.{is_id_character}
use Rattle.mt_schedule.proofs.Ids.{filled}
use Rattle.mt_schedule.proofs.node.is_id.Goals as goal

pub returns-then-not-is_empty : goal.returns-then-not-is_empty
returns-then-not-is_empty c =
    let cs : List ℕ = chars c.args.text.now in
    let some : nat_lt 0 (length cs) ≡ true = filled c.args.text.now c.utf8.text ∙ ap not (sym c.is_empty.ensures ∙ c.if-not-is_empty.true) in
    c.are_id_characters.ensures ∙ ap (λ b. b && list_all is_id_character cs) (sym some)

pub returns-else-not-is_empty : goal.returns-else-not-is_empty
returns-else-not-is_empty c =
    let cs : List ℕ = chars c.args.text.now in
    let none : nat_lt 0 (length cs) ≡ false = filled c.args.text.now c.utf8.text ∙ ap not (sym c.is_empty.ensures ∙ c.if-not-is_empty.false) in
    ap not c.if-not-is_empty.false ∙ ap (λ b. b && list_all is_id_character cs) (sym none)
