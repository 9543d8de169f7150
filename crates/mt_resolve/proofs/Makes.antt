-- Resolved code stands for the syntax that it was made of.
use Rattle.std.proofs.Common.{◌≡◌, ℕ, zero, suc, ◌≤◌, List, [], ◌∷◌, ◌++◌, length, map, Option, Some, None, refl, sym, ap, ap₂, ◌∙◌, subst, arith, append_assoc}
use Rattle.std.proofs.lemmas.List.{append-nil}
use Rattle.mt_eval_meaning.specs.Code.{AllStand, BodyStands, FileStands, ClientCodeStands, HoistedStands}
use Rattle.mt_eval_meaning.specs.Scopes.{Scope, body_entry, with_lexicals}
use Rattle.mt_eval_meaning.specs.States.{Numbered}
use Rattle.mt_eval_meaning.specs.Evaluation.{expr_kind_of}
use Rattle.mt_eval_meaning.specs.Hoisting.{functions, kind_of, lexicals, named_function, services, services_of_kind}
use Rattle.mt_eval_meaning.specs.Names.{Surroundings}
use Rattle.mt_eval_meaning.specs.Runs.{gives}
use Rattle.mt_resolve.specs.Resolved.{AreNumbered, Extends, ServiceStands, ProgramStands, ClientStands, around_file, around_client}
use Rattle.mt_resolve_names.specs.Bound.{captured}
use Rattle.mt_resolve.specs.Resolving.{node, act, level, at}
use Rattle.mt_resolve.specs.Tops.{service_named, service_one, services_from, all_services, file, client_code}
use Rattle.mt_resolve.specs.Services.{Contents}
use Rattle.mt_resolve.specs.declared.service.Service.{Service}
use Rattle.mt_resolve.proofs.BodiesMade.{Makes, function_made, body_made, hoisted_made, deepest_made}
use Rattle.mt_resolve.proofs.Growth.{body_kept, service_kept, hoisted_kept}
use Rattle.mt_resolve.proofs.Nodes.{node_made}
use Rattle.mt_resolve.proofs.StatementsMade.{act_made}
use Rattle.mt_resolve.proofs.Triples.{Claim, Always, Stable, Post, Triple, triple_bind, triple_pure, triple_pre, triple_post, frame, stable_all, all_end}
use Rattle.mt_eval_meaning.specs.declared.function.Body.{Body}
use Rattle.mt_eval_meaning.specs.declared.function.Function.{Function}
use Rattle.mt_eval_meaning.specs.declared.function.Hoisted.{Hoisted}
use Rattle.mt_eval_meaning.specs.declared.function.Unit.{Unit as Unit'}
use Rattle.mt_syntax.specs.Fold.{Tree, StmtKindLayer}
use Rattle.mt_syntax.specs.declared.program.Program.{Program}
use Rattle.mt_syntax.specs.declared.tree.ExprKind.TheOpen.{StmtKind-F}
use Rattle.mt_syntax.specs.declared.tree.Function.{Function as SyntaxFunction, out-Function}
use Rattle.mt_syntax.specs.declared.tree.Mark.{Mark}
use Rattle.mt_syntax.specs.declared.tree.Stmt.{Stmt as SyntaxStmt}
use Rattle.mt_tree.specs.Limits.{depth_limit}

module _ (around : Surroundings) (old : List Function) (first : ℕ) (numbers : first ≡ length old) where
  pub level_makes : (depth : ℕ) → depth ≤ depth_limit → Makes around old depth (level around first depth)
  unfolding node act
  level_makes zero low = record {
    expr = λ scope e. record { run = λ new table good h. tt };
    stmt = λ scope size t. record { run = λ new table good h. tt };
    function = λ scope f. record { run = λ new table good h. tt };
  }
  level_makes (suc depth) low =
      let less : depth ≤ depth_limit = omega (arith, low) in
      let below = level_makes depth less in
      record {
        expr = λ scope e. node_made around old first numbers depth less (level around first depth) below scope (expr_kind_of e);
        stmt = λ scope size t. act_made around old first numbers depth less (level around first depth) below scope size (kind_of t);
        function = λ scope f. function_made around old first numbers depth less (level around first depth) below scope None f;
      }

  whole : Makes around old depth_limit (at around first depth_limit)
  unfolding at
  whole = level_makes depth_limit (omega arith)

  -- ---- services

  stable_service : (scope : Scope) (s : Service) (f : List ℕ × SyntaxFunction) → Stable (λ units table. ServiceStands around units table scope s f)
  stable_service scope s f = record { keeps = λ u t u' t' m k. service_kept around u t u' t' m scope s f k }

  service_made : (scope : Scope) (done : List Service) (ds : List (List ℕ × SyntaxFunction)) (m : Mark) (f : SyntaxFunction)
      → Triple around old (λ units table. AllStand (ServiceStands around units table scope) done ds) (service_named around first scope done (Some m) f)
      (λ ss units table. AllStand (ServiceStands around units table scope) ss (ds ++ (m.name, f) ∷ []))
  service_made scope done ds m f =
      triple_bind around old (frame around old (stable_all around old (λ units table. ServiceStands around units table scope) (stable_service scope) done ds) (whole.function scope f)) (λ n.
      let s : Service = record { name = m.name; function = n; captured = map (λ c. c.slot) (captured around scope None f) } in
      triple_pure around old (done ++ s ∷ [])
      (λ units table h. all_end around old (λ units table. ServiceStands around units table scope) (stable_service scope) units table done ds s (m.name, f) h.0 (record { name = refl; function = h.1; captured = refl })))

  named_made : (scope : Scope) (done : List Service) (ds : List (List ℕ × SyntaxFunction)) (name : Option Mark) (f : SyntaxFunction) → (out-Function f).name ≡ name
      → Triple around old (λ units table. AllStand (ServiceStands around units table scope) done ds) (service_named around first scope done name f)
      (λ ss units table. AllStand (ServiceStands around units table scope) ss (ds ++ services_of_kind (StmtKind-F.Service f)))
  named_made scope done ds None f is =
      triple_pure around old done (λ units table h. subst (λ z. AllStand (ServiceStands around units table scope) done z) (sym (append-nil ds) ∙ ap (λ name. ds ++ named_function name f) (sym is)) h)
  named_made scope done ds (Some m) f is =
      triple_post around old (service_made scope done ds m f) (λ ss units table h. subst (λ z. AllStand (ServiceStands around units table scope) ss (ds ++ z)) (ap (λ name. named_function name f) (sym is)) h)

  one_made : (scope : Scope) (done : List Service) (ds : List (List ℕ × SyntaxFunction)) (t : StmtKindLayer Tree)
      → Triple around old (λ units table. AllStand (ServiceStands around units table scope) done ds) (service_one around first scope done t)
      (λ ss units table. AllStand (ServiceStands around units table scope) ss (ds ++ services_of_kind t))
  one_made scope done ds (StmtKind-F.Service f) = named_made scope done ds (out-Function f).name f refl
  one_made scope done ds _ = triple_pure around old done (λ units table h. subst (λ z. AllStand (ServiceStands around units table scope) done z) (sym (append-nil ds)) h)

  from_made : (scope : Scope) (done : List Service) (ds : List (List ℕ × SyntaxFunction)) (ts : List SyntaxStmt)
      → Triple around old (λ units table. AllStand (ServiceStands around units table scope) done ds) (services_from around first scope done ts)
      (λ ss units table. AllStand (ServiceStands around units table scope) ss (ds ++ services ts))
  from_made scope done ds [] = triple_pure around old done (λ units table h. subst (λ z. AllStand (ServiceStands around units table scope) done z) (sym (append-nil ds)) h)
  from_made scope done ds (t ∷ ts) =
      triple_bind around old (one_made scope done ds (kind_of t)) (λ ss.
      triple_post around old (from_made scope ss (ds ++ services_of_kind (kind_of t)) ts)
      (λ rs units table h. subst (λ z. AllStand (ServiceStands around units table scope) rs z) (append_assoc ds (services_of_kind (kind_of t)) (services ts)) h))

  services_made : (scope : Scope) (items : List SyntaxStmt) → Triple around old Always (all_services around first scope items) (λ ss units table. AllStand (ServiceStands around units table scope) ss (services items))
  unfolding all_services
  services_made scope items = triple_pre around old Always (λ units table h. tt) (from_made scope [] [] items)

  -- ---- the code of a tier

  abbrev FileIs : List SyntaxStmt → Unit' × List Service → Claim
  FileIs items made units table = FileStands around units table made.0 items × AllStand (ServiceStands around units table (body_entry 0 None [] items)) made.1 (services items)

  stable_body : (b : Body) (items : List SyntaxStmt) → Stable (λ units table. BodyStands around units table 0 None [] [] b items)
  stable_body b items = record { keeps = λ u t u' t' m h. body_kept around u t u' t' m 0 None [] [] b items h }

  pub file_made : (items : List SyntaxStmt) → Triple around old Always (file around first items) (FileIs items)
  unfolding file
  file_made items =
      triple_bind around old (body_made around old first numbers depth_limit (omega arith) (at around first depth_limit) whole 0 None [] [] items) (λ b.
      triple_bind around old (frame around old (stable_body b items) (services_made (body_entry 0 None [] items) items)) (λ ss.
      triple_pure around old (record { globals = []; body = b }, ss) (λ units table h. (record { globals = refl; body = h.0 }, h.1))))

  stable_hoisted : (scope : Scope) (h : Hoisted) (f : List ℕ × SyntaxFunction) → Stable (λ units table. HoistedStands around units table scope h f)
  stable_hoisted scope h f = record { keeps = λ u t u' t' m k. hoisted_kept around u t u' t' m scope h f k }

  pub client_made : (items : List SyntaxStmt) → Triple around old Always (client_code around first items) (λ u units table. ClientCodeStands around units table u items)
  unfolding client_code
  client_made items =
      let scope : Scope = with_lexicals 0 (lexicals items) [] in
      triple_bind around old (hoisted_made around old first numbers depth_limit (omega arith) (at around first depth_limit) whole scope items) (λ hs.
      triple_bind around old (frame around old (stable_all around old (λ units table. HoistedStands around units table scope) (stable_hoisted scope) hs (functions items))
      (deepest_made around old first numbers depth_limit (omega arith) (at around first depth_limit) whole scope (length (lexicals items)) items)) (λ us.
      triple_pure around old _ (λ units table h. record { globals = refl; variables = refl; undeclared = refl; hoisted = h.0; statements = h.1 })))

-- ---- the results

empty : (around : Surroundings) → AreNumbered around [] []
empty around = record { count = refl; stands = record { code = λ n e is. absurd (cc) } }

file_stands : (p : Program) (top : Unit') (ss : List Service) (fs : List Function) → file (around_file p) 0 p.items [] ≡ gives (top, ss) fs → ProgramStands p (record { functions = fs; units = top ∷ []; services = ss })
file_stands p top ss fs made =
    let run = subst (λ r. Post (around_file p) [] [] [] (FileIs (around_file p) [] 0 refl p.items) r) made ((file_made (around_file p) [] 0 refl p.items).run [] [] (empty (around_file p)) tt) in
    record { table = run.table'; functions = run.good; top = top; units = refl; file = run.holds.0; services = run.holds.1 }

pub program_stands : (p : Program) (around : Surroundings) (start : List Function) (top : Unit') (ss : List Service) (fs : List Function) (code : Contents) → around ≡ around_file p → start ≡ []
    → file around 0 p.items start ≡ gives (top, ss) fs → code ≡ record { functions = fs; units = top ∷ []; services = ss } → ProgramStands p code
program_stands p around start top ss fs code is none made all =
    let same : file (around_file p) 0 p.items [] ≡ file around 0 p.items start = ap₂ (λ (a : Surroundings) (old : List Function). file a 0 p.items old) (sym is) (sym none) in
    subst (λ (c : Contents). ProgramStands p c) (sym all) (file_stands p top ss fs (same ∙ made))

code_stands : (items : List SyntaxStmt) (before : Contents) (u : Unit') (fs : List Function) (table : List Numbered) → client_code around_client (length before.functions) items [] ≡ gives u fs
    → AreNumbered around_client before.functions table → ClientStands items before (record before { functions = before.functions ++ fs; units = before.units ++ u ∷ [] }) table (length before.units)
code_stands items before u fs table made good =
    let all = append-nil before.functions in
    let start : AreNumbered around_client (before.functions ++ []) table = subst (λ units. AreNumbered around_client units table) (sym all) good in
    let run = subst (λ r. Post around_client before.functions [] table (λ u units table. ClientCodeStands around_client units table u items) r) made
    ((client_made around_client before.functions (length before.functions) refl items).run [] table start tt) in
    record {
      table' = run.table';
      more = subst (λ units. Extends units table (before.functions ++ fs) run.table') all run.more;
      functions = run.good;
      unit = u;
      number = refl;
      units = refl;
      services = refl;
      stands = run.holds;
    }

pub client_stands : (items : List SyntaxStmt) (around : Surroundings) (first : ℕ) (start : List Function) (before : Contents) (u : Unit') (fs : List Function) (after : Contents) (id : ℕ) → around ≡ around_client → first ≡ length before.functions → start ≡ []
    → client_code around first items start ≡ gives u fs → after ≡ record before { functions = before.functions ++ fs; units = before.units ++ u ∷ [] } → id ≡ length before.units
    → (table : List Numbered) → AreNumbered around_client before.functions table → ClientStands items before after table id
client_stands items around first start before u fs after id is count none made all number table good =
    let same : client_code around_client (length before.functions) items [] ≡ client_code around first items start = λ i. client_code (sym is i) (sym count i) items (sym none i) in
    subst (λ (c : Contents). ClientStands items before c table id) (sym all)
    (subst (λ (n : ℕ). ClientStands items before (record before { functions = before.functions ++ fs; units = before.units ++ u ∷ [] }) table n) (sym number) (code_stands items before u fs table (same ∙ made) good))
