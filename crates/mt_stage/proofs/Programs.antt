-- What is known of the items of a program and of its tildes.
use Rattle.std.proofs.Common.{◌≡◌, List, [], ◌∷◌, ◌++◌, map}
use Rattle.std.specs.Prelude.{All, IsTrue}
use Rattle.std.proofs.lemmas.List.Elements.{All-nil, All-cons}
use Rattle.mt_stage.specs.Made.{ExprsAreMade, IsMadeProgram, IsMadeTilde, StmtsAreMade, making}
use Rattle.mt_stage.proofs.Forms.{AreMade, preserved}
use Rattle.mt_stage_declared.specs.Twice.{declared_twice}
use Rattle.mt_stage_placement.specs.Forms.{finding_forms, in_each}
use Rattle.mt_stage_placement.specs.Jumps as jumps
use Rattle.mt_stage_placement.specs.Placement.{directly_in, in_body, in_dollars, in_tilde, jumps_in_body, misplaced, nothing_around}
use Rattle.mt_stage_placement.specs.declared.forms.site.Scene.TheVariants as scene
use Rattle.mt_stage_placement.specs.declared.forms.site.Site.{Site}
use Rattle.mt_stage_scopes.specs.Misused.{misused_names}
use Rattle.mt_stage.specs.Accepted.{IsAccepted}
use Rattle.mt_stage.proofs.Empty.{parts_empty}
use Rattle.mt_syntax.specs.Fold.{on_expr, on_stmt}
use Rattle.mt_syntax.specs.Gathering.{all_of}
use Rattle.mt_syntax.specs.Joining.{all}
use Rattle.mt_syntax.specs.declared.program.Program.{Program}
use Rattle.mt_syntax.specs.declared.program.Tilde.{Tilde}
use Rattle.mt_syntax.specs.declared.tree.Expr.{Expr}
use Rattle.mt_syntax.specs.declared.tree.Stmt.{Stmt}
use Rattle.mt_syntax_laws.proofs.Related.{related_expr, related_stmt}

stmts_made : (ts : List Stmt) (site : Site) → in_each all (on_stmt (finding_forms all)) ts site ≡ [] → StmtsAreMade ts
stmts_made [] site e = All-nil (λ t. IsTrue (on_stmt making t).fits)
stmts_made (t ∷ ts) site e =
    let es = parts_empty ((on_stmt (finding_forms all) t).found site) (in_each all (on_stmt (finding_forms all)) ts site) e in
    All-cons (λ t. IsTrue (on_stmt making t).fits) t ts (related_stmt (finding_forms all) making AreMade preserved t site es.0) (stmts_made ts site es.1)

exprs_made : (es : List Expr) (site : Site) → in_each all (on_expr (finding_forms all)) es site ≡ [] → ExprsAreMade es
exprs_made [] site e = All-nil (λ x. IsTrue (on_expr making x).fits)
exprs_made (x ∷ xs) site e =
    let es = parts_empty ((on_expr (finding_forms all) x).found site) (in_each all (on_expr (finding_forms all)) xs site) e in
    All-cons (λ x. IsTrue (on_expr making x).fits) x xs (related_expr (finding_forms all) making AreMade preserved x site es.0) (exprs_made xs site es.1)

tilde_made : (t : Tilde) → in_tilde all t ≡ [] → IsMadeTilde t
tilde_made t e =
    let parts = parts_empty (in_body all scene.Client t.body) (in_dollars all t.dollars) e in
    let code = parts_empty (in_each all (on_stmt (finding_forms all)) t.body (directly_in scene.Client)) (jumps_in_body all t.body) parts.0 in
    let dollars = parts_empty (in_each all (on_expr (finding_forms all)) t.dollars (directly_in scene.Server)) (jumps.in_each all (on_expr (jumps.finding_jumps all)) t.dollars nothing_around) parts.1 in
    record { body = stmts_made t.body (directly_in scene.Client) code.0; dollars = exprs_made t.dollars (directly_in scene.Server) dollars.0 }

tildes_made : (ts : List Tilde) → all_of all.none all.join (map (in_tilde all) ts) ≡ [] → All IsMadeTilde ts
tildes_made [] e = All-nil IsMadeTilde
tildes_made (t ∷ ts) e =
    let es = parts_empty (in_tilde all t) (all_of all.none all.join (map (in_tilde all) ts)) e in
    All-cons IsMadeTilde t ts (tilde_made t es.0) (tildes_made ts es.1)

pub made_program : (p : Program) → IsAccepted p → IsMadeProgram p
made_program p accepted =
    let placed = (parts_empty (misplaced p) (declared_twice p ++ misused_names p) accepted.unbroken).0 in
    let parts = parts_empty (in_body all scene.Top p.items) (all_of all.none all.join (map (in_tilde all) p.tildes)) placed in
    let items = parts_empty (in_each all (on_stmt (finding_forms all)) p.items (directly_in scene.Top)) (jumps_in_body all p.items) parts.0 in
    record { items = stmts_made p.items (directly_in scene.Top) items.0; tildes = tildes_made p.tildes parts.1 }
