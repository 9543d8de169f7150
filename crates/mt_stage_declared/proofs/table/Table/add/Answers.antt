use Rattle.std.proofs.Common.{◌≡◌, ap, ◌∙◌}
use Rattle.std.specs.Str.{chars}
use Rattle.std.specs.String.{string_bytes}
use Rattle.mt_stage_declared.specs.Clashes.{with_kind}
use Rattle.mt_stage_declared.specs.Names.{kinds_of, assigned, named}
use Rattle.mt_stage_declared.proofs.Tables.{entered, insert_named}
use Rattle.mt_stage_declared.proofs.table.Table.add.Goals as goal
use Rattle.mt_stage_declared.proofs.table.Table.add.Goals.{in-Ok, in-Err}

key_is : (c : goal.Joined-insert) → chars (string_bytes c.in_ok-key.key) ≡ c.args.name.now
key_is c = ap chars c.in_ok-key.ensures.ok ∙ c.as_str.ensures.value

kinds_are : (c : goal.Joined-insert) → c.with-kinds.result ≡ with_kind c.args.kind (kinds_of c.args.name.now c.args.self.now)
kinds_are c = c.with-kinds.ensures ∙ ap (with_kind c.args.kind) c.kinds.ensures

entered_is : (c : goal.Joined-insert)
    → named (entered c.in_ok-key.key c.with-kinds.result c.self.inside.entries.entries) ≡ assigned c.args.name.now (with_kind c.args.kind (kinds_of c.args.name.now c.args.self.now)) c.args.self.now
entered_is c =
    insert_named c.in_ok-key.key c.with-kinds.result c.self.inside.entries.entries
    ∙ ap (λ name. assigned name c.with-kinds.result (named c.self.inside.entries.entries)) (key_is c)
    ∙ ap (λ kinds. assigned c.args.name.now kinds (named c.self.inside.entries.entries)) (kinds_are c)
    ∙ ap (assigned c.args.name.now (with_kind c.args.kind (kinds_of c.args.name.now c.args.self.now))) c.self.view_is

pub returns-clause-ok : goal.returns-clause-ok
returns-clause-ok c =
    let same = entered_is c in
    elim c.match-insert.branch [
      | in-Ok w ↦ rw w.result-is (ap named w.in-Ok.ensures.entries ∙ same)
      | in-Err w ↦ rw w.result-is tt
    ]
