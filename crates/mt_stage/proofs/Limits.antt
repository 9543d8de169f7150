-- What a tilde of an accepted program becomes is client code within the limits.
use Rattle.std.proofs.Common.{◌≡◌, ◌≤◌, ◌++◌, ℕ, List, [], map, flat_map, length, Some, slice_get, sym, subst, arith}
use Rattle.std.proofs.Math.Nat.{le-max_left, le-max_right}
use Rattle.mt_tree.specs.declared.data.Data.{Data}
use Rattle.mt_syntax.specs.Joining.{all}
use Rattle.mt_syntax.specs.DataLimits.{AreWithinLimits}
use Rattle.mt_syntax.specs.Depth.{depth_of, greatest}
use Rattle.mt_syntax.specs.Derivation.{IsDerivedTilde}
use Rattle.mt_syntax.specs.Fold.{on_expr, on_stmt}
use Rattle.mt_syntax.specs.Gathering.{all_of}
use Rattle.mt_syntax.specs.Substitution as substitution
use Rattle.mt_syntax.specs.declared.program.Program.{Program}
use Rattle.mt_syntax.specs.declared.program.Tilde.{Tilde}
use Rattle.mt_syntax_laws.proofs.Deep.{tilde_at_most}
use Rattle.mt_syntax_laws.proofs.Injection.{code, values_of_code}
use Rattle.mt_syntax_laws.proofs.Kept.{depth_kept}
use Rattle.mt_stage_placement.specs.Forms.{finding_forms}
use Rattle.mt_stage_placement.specs.Forms as forms
use Rattle.mt_stage_placement.specs.Placement.{directly_in, in_body, in_dollars, in_tilde, misplaced, misplaced_jumps}
use Rattle.mt_stage_placement.specs.declared.forms.site.Scene.TheVariants as scene
use Rattle.mt_stage_declared.specs.Declarations.{declared_in_file}
use Rattle.mt_stage_declared.specs.Twice.{declared_twice, twice_at_top, twice_in_client, twice_in_row, twice_in_row_of, twice_in_tilde}
use Rattle.mt_stage_scopes.specs.Misused.{misused_names}
use Rattle.mt_stage.specs.Accepted.{IsAccepted}
use Rattle.mt_stage.specs.CodeLimits.{IsCodeWithinLimits}
use Rattle.mt_syntax.specs.Texts.{longest_in}
use Rattle.mt_syntax.specs.Texts.{longest_in_tilde, measuring_texts}
use Rattle.mt_stage.proofs.Empty.{parts_empty}
use Rattle.mt_stage.proofs.Jumps.{jumps_fit}
use Rattle.mt_stage.proofs.Names.{names_once}
use Rattle.mt_stage.proofs.Plain.{plain_code}
use Rattle.mt_stage.proofs.Texts.{longest_kept}
use Rattle.mt_stage.proofs.Tildes.{all_at, at_most_greatest, flat_at, joined_at}
use Rattle.mt_tree.specs.Limits.{text_limit}

module _ (p : Program) (number : ℕ) (t : Tilde) (accepted : IsAccepted p) (is : slice_get p.tildes number ≡ Some t) where
  -- no form of the tilde is misplaced, and no name of it declared twice
  tilde_placed : in_tilde all t ≡ []
  tilde_placed =
      let placed = (parts_empty (misplaced p) (declared_twice p ++ misused_names p) accepted.unbroken).0 in
      joined_at (in_tilde all) p.tildes number t (parts_empty (in_body all scene.Top p.items) (all_of [] (λ bs cs. bs ++ cs) (map (in_tilde all) p.tildes)) placed).1 is

  tilde_once : twice_in_tilde t ≡ []
  tilde_once =
      let later = (parts_empty (misplaced p) (declared_twice p ++ misused_names p) accepted.unbroken).1 in
      let once = (parts_empty (declared_twice p) (misused_names p) later).0 in
      let below = (parts_empty (twice_at_top (declared_in_file p.items)) (twice_in_row p.items ++ flat_map twice_in_tilde p.tildes) once).1 in
      flat_at twice_in_tilde p.tildes number t (parts_empty (twice_in_row p.items) (flat_map twice_in_tilde p.tildes) below).1 is

  body_placed : (forms.in_each all (on_stmt (finding_forms all)) t.body (directly_in scene.Client) ≡ []) × (misplaced_jumps t.body ≡ [])
  body_placed =
      parts_empty (forms.in_each all (on_stmt (finding_forms all)) t.body (directly_in scene.Client)) (misplaced_jumps t.body)
      (parts_empty (in_body all scene.Client t.body) (in_dollars all t.dollars) tilde_placed).0

  body_once : twice_in_client t.body ≡ []
  body_once = (parts_empty (twice_in_client t.body) (twice_in_row_of t.dollars) tilde_once).0

  body_texts : longest_in t.body ≤ text_limit
  body_texts =
      omega (
        arith,
        accepted.within.texts,
        at_most_greatest longest_in_tilde p.tildes number t is,
        le-max_left (longest_in t.body) (greatest (map (on_expr measuring_texts) t.dollars)),
        le-max_right (longest_in p.items) (greatest (map longest_in_tilde p.tildes)),
      )

  derived : IsDerivedTilde t
  derived = all_at IsDerivedTilde p.tildes number t accepted.within.derived.tildes is

  body_depth : depth_of t.body ≤ 60
  body_depth = omega (arith, accepted.within.depth, tilde_at_most p number t accepted.within.derived is)

  module _ (values : List Data) (enough : length values ≡ length t.dollars) (limits : AreWithinLimits values) where
    pub code_within : IsCodeWithinLimits (substitution.subst values t.body)
    code_within = record {
      code = code t values derived enough (plain_code t.body body_placed.0) limits.«data»;
      depth = subst (λ d. d ≤ 60) (sym (depth_kept values t.body)) body_depth;
      texts = subst (λ n. n ≤ text_limit) (sym (longest_kept values t.body)) body_texts;
      values = subst AreWithinLimits (sym (values_of_code t values derived enough)) limits;
      jumps = jumps_fit values t.body body_placed.1;
      names = names_once values t.body body_once;
    }

pub within_limits : (p : Program) (number : ℕ) (t : Tilde) (values : List Data) → IsAccepted p → slice_get p.tildes number ≡ Some t → length values ≡ length t.dollars
    → AreWithinLimits values → IsCodeWithinLimits (substitution.subst values t.body)
within_limits p number t values accepted is enough limits = code_within p number t accepted is values enough limits
