-- The places of a program at which a form of the language stands where it may not, each with the rule that it breaks.
use Rattle.std.specs.Prelude.{false, List, map}
use Rattle.mt_syntax.specs.Joining.{Joining, all}
use Rattle.mt_syntax.specs.declared.broken.Broken.{Broken}
use Rattle.mt_syntax.specs.Fold.{on_expr, on_stmt}
use Rattle.mt_syntax.specs.Gathering.{all_of}
use Rattle.mt_syntax.specs.Substitution.{nowhere}
use Rattle.mt_syntax.specs.declared.program.Program.{Program}
use Rattle.mt_syntax.specs.declared.program.Tilde.{Tilde}
use Rattle.mt_syntax.specs.declared.tree.Expr.{Expr}
use Rattle.mt_syntax.specs.declared.tree.Stmt.{Stmt}
use Rattle.mt_stage_placement.specs.Forms.{finding_forms}
use Rattle.mt_stage_placement.specs.Forms as forms
use Rattle.mt_stage_placement.specs.Jumps.{finding_jumps}
use Rattle.mt_stage_placement.specs.Jumps as jumps
use Rattle.mt_stage_placement.specs.declared.forms.site.Scene.{Scene}
use Rattle.mt_stage_placement.specs.declared.forms.site.Scene.TheVariants as scene
use Rattle.mt_stage_placement.specs.declared.forms.site.Site.{Site}
use Rattle.mt_stage_placement.specs.declared.jumps.around.Around.{Around}

abbrev pub directly_in : Scene → Site
directly_in s = record { place = nowhere; scene = s; handler = false }

-- no function and no loop is around a whole body
abbrev pub nothing_around : Around
nothing_around = record { place = nowhere; function = false; repeated = false }

module _ {X : Type 0} (J : Joining X) where
  abbrev pub jumps_in_body : List Stmt → X
  jumps_in_body body = jumps.in_each J (on_stmt (finding_jumps J)) body nothing_around

  abbrev pub in_body : Scene → List Stmt → X
  in_body s body = J.join (forms.in_each J (on_stmt (finding_forms J)) body (directly_in s)) (jumps_in_body body)

  abbrev pub in_dollars : List Expr → X
  in_dollars dollars =
      J.join (forms.in_each J (on_expr (finding_forms J)) dollars (directly_in scene.Server)) (jumps.in_each J (on_expr (finding_jumps J)) dollars nothing_around)

  abbrev pub in_tilde : Tilde → X
  in_tilde t = J.join (in_body scene.Client t.body) (in_dollars t.dollars)

  abbrev pub in_program : Program → X
  in_program p = J.join (in_body scene.Top p.items) (all_of J.none J.join (map in_tilde p.tildes))

-- all of these places
abbrev pub misplaced : Program → List Broken
misplaced = in_program all

-- those of jumps, in a body of its own
abbrev pub misplaced_jumps : List Stmt → List Broken
misplaced_jumps = jumps_in_body all
