-- The walk over a program that gives the first place gives the first of all of these places.
use Rattle.std.proofs.Common.{◌≡◌, ℕ, ◌+◌, ◌<◌, List, [], ◌∷◌, ◌++◌, map, Option, None, Some, length, get_or, take, refl, sym, ap, ◌∙◌}
use Rattle.std.specs.Prelude.{IsTrue, Bool, true, false, not, is_some}
use Rattle.mt_syntax.specs.First.{earlier_of, first_of}
use Rattle.mt_syntax.specs.Joining.{all, first}
use Rattle.mt_syntax.specs.declared.broken.Broken.{Broken}
use Rattle.mt_syntax.proofs.Order.{first_of_lists, none}
use Rattle.mt_syntax.specs.Fold.{on_expr, on_stmt}
use Rattle.mt_syntax.specs.Gathering.{all_of}
use Rattle.mt_syntax.specs.declared.program.Program.{Program}
use Rattle.mt_syntax.specs.declared.program.Tilde.{Tilde}
use Rattle.mt_syntax.specs.declared.tree.Expr.{Expr}
use Rattle.mt_syntax.specs.declared.tree.Stmt.{Stmt}
use Rattle.mt_stage_placement.specs.Forms.{finding_forms}
use Rattle.mt_stage_placement.specs.Forms as forms
use Rattle.mt_stage_placement.specs.Jumps.{finding_jumps}
use Rattle.mt_stage_placement.specs.Jumps as jumps
use Rattle.mt_stage_placement.specs.Placement.{directly_in, in_body, in_dollars, in_program, in_tilde, jumps_in_body, misplaced, misplaced_jumps, nothing_around}
use Rattle.mt_stage_placement.specs.declared.forms.site.Scene.{Scene}
use Rattle.mt_stage_placement.specs.declared.forms.site.Scene.TheVariants as scene
use Rattle.mt_stage_placement.proofs.FirstForm as form
use Rattle.mt_stage_placement.proofs.FirstJump as jump
use Rattle.mt_stage_placement.proofs.Rows as rows

both : (xs ys : List Broken) {a b : Option Broken} → first_of xs ≡ a → first_of ys ≡ b → first_of (xs ++ ys) ≡ earlier_of a b
both xs ys p q = first_of_lists xs ys ∙ (λ i. earlier_of (p i) (q i))

pub body_is_first : (s : Scene) (body : List Stmt) → first_of (in_body all s body) ≡ in_body first s body
body_is_first s body =
    both (forms.in_each all (on_stmt (finding_forms all)) body (directly_in s)) (jumps_in_body all body) (form.in_stmts body (directly_in s)) (jump.in_stmts body nothing_around)

dollars_are_first : (es : List Expr) → first_of (in_dollars all es) ≡ in_dollars first es
dollars_are_first es =
    both (forms.in_each all (on_expr (finding_forms all)) es (directly_in scene.Server)) (jumps.in_each all (on_expr (finding_jumps all)) es nothing_around)
    (form.in_exprs es (directly_in scene.Server)) (jump.in_exprs es nothing_around)

tilde_is_first : (t : Tilde) → first_of (in_tilde all t) ≡ in_tilde first t
tilde_is_first t = both (in_body all scene.Client t.body) (in_dollars all t.dollars) (body_is_first scene.Client t.body) (dollars_are_first t.dollars)

tildes_are_first : (ts : List Tilde) → first_of (all_of all.none all.join (map (in_tilde all) ts)) ≡ all_of None earlier_of (map (in_tilde first) ts)
tildes_are_first [] = refl
tildes_are_first (t ∷ ts) = both (in_tilde all t) (all_of all.none all.join (map (in_tilde all) ts)) (tilde_is_first t) (tildes_are_first ts)

pub program_is_first : (p : Program) → first_of (misplaced p) ≡ in_program first p
program_is_first p = both (in_body all scene.Top p.items) (all_of all.none all.join (map (in_tilde all) p.tildes)) (body_is_first scene.Top p.items) (tildes_are_first p.tildes)

pub jumps_are_first : (body : List Stmt) → first_of (misplaced_jumps body) ≡ jumps_in_body first body
jumps_are_first body = jump.in_stmts body nothing_around

pub none_tells : (bs : List Broken) (r : Option Broken) (empty : Bool) → first_of bs ≡ r → is_some r ≡ not empty → (IsTrue empty → bs ≡ []) × (bs ≡ [] → IsTrue empty)
none_tells bs None true e tells = (λ _. none bs e, λ _. refl)
none_tells bs None false e tells = absurd (cc)
none_tells bs (Some b) true e tells = absurd (cc)
none_tells bs (Some b) false e tells = (λ h. absurd (cc), λ empty. let f : None ≡ Some b = sym (ap first_of empty) ∙ e in absurd (cc))

pub with_next : (xs : List Tilde) (i : ℕ) (x : Tilde) (so_far : Option Broken) → x ≡ get_or xs i x → i < length xs
    → so_far ≡ all_of None earlier_of (map (in_tilde first) (take i xs)) → earlier_of so_far (in_tilde first x) ≡ all_of None earlier_of (map (in_tilde first) (take (i + 1) xs))
with_next = rows.with_next (λ r. r) None earlier_of refl (λ a b. refl) (in_tilde first)
