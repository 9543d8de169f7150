use Rattle.std.proofs.Common.{◌≡◌, ap, ◌∙◌}
use Rattle.std.specs.Str.{chars}
use Rattle.std.specs.String.{string_bytes}
use Rattle.mt_value.specs.Globals.{assigned}
use Rattle.mt_value.specs.Names.{named}
use Rattle.mt_value.proofs.Tables.{entered, insert_named}
use Rattle.mt_value.proofs.globals.Globals.assign.Goals as goal
use Rattle.mt_value.proofs.globals.Globals.assign.Goals.{in-Ok+in-Some+in-Text-1, in-Ok+in-Some+in-Svc-1, in-Ok+in-Some+in-Undefined-1, in-Ok+in-None-1, in-Err+in-Text-1, in-Err+in-Svc-1, in-Err+in-Undefined-1}

key_is : (c : goal.Joined-insert) → chars (string_bytes c.in_ok-key.key) ≡ c.args.name.now
key_is c = ap chars c.in_ok-key.ensures.ok ∙ c.as_str.ensures.value

entered_is : (c : goal.Joined-insert) → named (entered c.in_ok-key.key c.args.value c.self.inside.table.entries) ≡ assigned c.args.name.now c.args.value c.args.self.now
entered_is c =
    insert_named c.in_ok-key.key c.args.value c.self.inside.table.entries
    ∙ ap (λ name. assigned name c.args.value (named c.self.inside.table.entries)) (key_is c) ∙ ap (assigned c.args.name.now c.args.value) c.self.view_is

pub returns-clause-ok : goal.returns-clause-ok
returns-clause-ok c =
    let same = entered_is c in
    elim c.match-insert.branch [
      | in-Ok+in-Some+in-Text-1 w ↦ rw w.result-is (ap named w.in-Ok.ensures.entries ∙ same)
      | in-Ok+in-Some+in-Svc-1 w ↦ rw w.result-is (ap named w.in-Ok.ensures.entries ∙ same)
      | in-Ok+in-Some+in-Undefined-1 w ↦ rw w.result-is (ap named w.in-Ok.ensures.entries ∙ same)
      | in-Ok+in-None-1 w ↦ rw w.result-is (ap named w.in-Ok.ensures.entries ∙ same)
      | in-Err+in-Text-1 w ↦ rw w.result-is tt
      | in-Err+in-Svc-1 w ↦ rw w.result-is tt
      | in-Err+in-Undefined-1 w ↦ rw w.result-is tt
    ]
