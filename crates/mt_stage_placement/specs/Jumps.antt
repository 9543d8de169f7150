-- Where `return` stands outside a function or service, and `break` and `continue` outside a loop of the same function. The code
-- of a tilde is a body of its own, and so is the expression of a dollar.
use Rattle.std.specs.Prelude.{Bool, true, false, cond, List, map, Option, option_map}
use Rattle.mt_tree.specs.declared.place.Place.{Place}
use Rattle.mt_syntax.specs.Joining.{Joining}
use Rattle.mt_syntax.specs.declared.rule.Rule.TheVariants as rule
use Rattle.mt_syntax.specs.Fold.{Every, StmtKindLayer, Steps}
use Rattle.mt_syntax.specs.Gathering.{all_of, or_none, gathering, of_stmt_kind}
use Rattle.mt_syntax.specs.declared.tree.ExprKind.TheOpen.{StmtKind-F}
use Rattle.mt_stage_placement.specs.declared.jumps.around.Around.{Around}

abbrev pub at_node : Place → Around → Around
at_node place around = record around { place = place }

abbrev pub in_function : Around → Around
in_function around = record { place = around.place; function = true; repeated = false }

abbrev pub in_loop : Around → Around
in_loop around = record around { repeated = true }

module _ {X : Type 0} (J : Joining X) where
  -- what is broken in a part, by what stands around it
  abbrev pub Found : Type 0
  Found = Around → X

  abbrev pub none : Found
  none around = J.none

  abbrev pub join : Found → Found → Found
  join one other around = J.join (one around) (other around)

  abbrev pub broken_unless : Bool → Found
  broken_unless fits around = cond fits J.none (J.one (record { place = around.place; rule = rule.S13 }))

  abbrev pub stmt_kind_jumps : StmtKindLayer (Every Found) → Found
  stmt_kind_jumps (StmtKind-F.Return value) around = J.join (broken_unless around.function around) (or_none none join value around)
  stmt_kind_jumps StmtKind-F.Break around = broken_unless around.repeated around
  stmt_kind_jumps StmtKind-F.Continue around = broken_unless around.repeated around
  stmt_kind_jumps (StmtKind-F.While test body) around = J.join (test around) (body (in_loop around))
  stmt_kind_jumps (StmtKind-F.For start test step body) around =
      J.join (start around) (J.join (or_none none join test around) (J.join (or_none none join step around) (body (in_loop around))))
  stmt_kind_jumps layer around = of_stmt_kind none join layer around

  abbrev pub finding_jumps : Steps (Every Found)
  finding_jumps = record (gathering none join) {
    stmt_kind = stmt_kind_jumps;
    expr = λ e around. e.kind (at_node e.place around);
    function = λ f around. all_of none join f.body (in_function around);
    stmt = λ s around. s.kind (at_node s.place around);
  }

  -- in each of the parts
  abbrev pub in_each : {T : Type 0} → (T → Found) → List T → Found
  in_each part_jumps parts = all_of none join (map part_jumps parts)

  abbrev pub in_optional : {T : Type 0} → (T → Found) → Option T → Found
  in_optional part_jumps part = or_none none join (option_map part_jumps part)
