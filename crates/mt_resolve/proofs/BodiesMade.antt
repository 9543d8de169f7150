-- What bodies and functions become stands for them.
use Rattle.std.proofs.Common.{◌≡◌, ℕ, ◌+◌, ◌≤◌, List, [], ◌∷◌, ◌++◌, length, map, Option, Some, None, Bool, true, false, cond, refl, sym, ap, ◌∙◌, subst, arith, append_assoc}
use Rattle.std.proofs.lemmas.List.{append-nil, length-map}
use Rattle.std.specs.Prelude.{is_some}
use Rattle.mt_eval_meaning.specs.Code.{AllStand, FunctionStands, ExprStandsTo, StmtStandsTo, HoistedStands, BodyStands, captured_scope, lexical_of}
use Rattle.mt_eval_meaning.specs.Scopes.{Scope, find_slot, with_name, with_names_once, parameter_entry, variable_entry, body_entry, own_given}
use Rattle.mt_eval_meaning.specs.States.{Numbered}
use Rattle.mt_eval_agreement.proofs.Entries.{lexicals_length}
use Rattle.mt_eval_meaning.specs.Entering.{function_names}
use Rattle.mt_eval_meaning.specs.Hoisting.{Lexical, functions, functions_of_kind, named_function, kind_of, lexicals, names_of, variables}
use Rattle.mt_eval_meaning.specs.Names.{Surroundings}
use Rattle.mt_resolve_names.specs.Bound.{captured, name_in}
use Rattle.mt_resolve.specs.Resolving.{Parts, stmts, hoisted_named, hoisted_one, hoisted_from, all_hoisted, body, with_captured, function}
use Rattle.mt_resolve.proofs.Growth.{all_kept, expr_kept, stmt_kept, hoisted_kept}
use Rattle.mt_resolve.proofs.Triples.{Always, Stable, same, Triple, triple_bind, triple_pure, triple_pre, triple_post, frame, triple_add, stable_all, all_end, all_made}
use Rattle.mt_eval_meaning.specs.declared.expr.Expr.{Expr}
use Rattle.mt_eval_meaning.specs.declared.function.Function.{Function}
use Rattle.mt_eval_meaning.specs.declared.function.Hoisted.{Hoisted}
use Rattle.mt_eval_meaning.specs.declared.stmt.Stmt.{Stmt}
use Rattle.mt_syntax.specs.Fold.{Tree, StmtKindLayer}
use Rattle.mt_syntax.specs.declared.tree.Expr.{Expr as SyntaxExpr}
use Rattle.mt_syntax.specs.declared.tree.ExprKind.TheOpen.{StmtKind-F}
use Rattle.mt_syntax.specs.declared.tree.Function.{Function as SyntaxFunction, out-Function}
use Rattle.mt_syntax.specs.declared.tree.Mark.{Mark}
use Rattle.mt_syntax.specs.declared.tree.Stmt.{Stmt as SyntaxStmt}
use Rattle.mt_tree.specs.Limits.{depth_limit}

-- ---- an entry only grows

once_at : (b : Bool) (size : ℕ) (name : List ℕ) (names : List (List ℕ)) (entry : Scope) → length entry ≤ length (with_names_once size names entry)
    → length (with_name size name false entry) ≤ length (with_names_once size names (with_name size name false entry))
    → length entry ≤ length (with_names_once size names (cond {A = Scope} b entry (with_name size name false entry)))
once_at true size name names entry here more = here
once_at false size name names entry here more = omega (arith, more)

pub once_grows : (size : ℕ) (names : List (List ℕ)) (entry : Scope) → length entry ≤ length (with_names_once size names entry)
once_grows size [] entry = omega arith
once_grows size (name ∷ names) entry = once_at (is_some (find_slot name entry)) size name names entry (once_grows size names entry) (once_grows size names (with_name size name false entry))

-- what is asked of the resolution of the parts
pub record Makes (around : Surroundings) (old : List Function) (depth : ℕ) (p : Parts) : Type 0 where
  pub expr : (scope : Scope) (e : SyntaxExpr) → Triple around old Always (p.expr scope e) (λ u units table. ExprStandsTo around units table depth scope u e)
  pub stmt : (scope : Scope) (size : ℕ) (t : SyntaxStmt) → Triple around old Always (p.stmt scope size t) (λ u units table. StmtStandsTo around units table depth scope size u t)
  pub function : (scope : Scope) (f : SyntaxFunction) → Triple around old Always (p.function scope f) (λ n units table. FunctionStands around units table scope n None f)

module _ (around : Surroundings) (old : List Function) (first : ℕ) (numbers : first ≡ length old) (depth : ℕ) (low : depth ≤ depth_limit) (p : Parts) (below : Makes around old depth p) where
  -- ---- claims that stay

  pub stable_expr : (scope : Scope) (u : Expr) (e : SyntaxExpr) → Stable (λ units table. ExprStandsTo around units table depth scope u e)
  stable_expr scope u e = record { keeps = λ u' t u'' t' m h. expr_kept around u' t u'' t' m depth depth (omega arith) scope u e h }

  pub stable_stmt : (scope : Scope) (size : ℕ) (u : Stmt) (t : SyntaxStmt) → Stable (λ units table. StmtStandsTo around units table depth scope size u t)
  stable_stmt scope size u t = record { keeps = λ u' tb u'' tb' m h. stmt_kept around u' tb u'' tb' m depth depth (omega arith) scope size u t h }

  stable_hoisted : (scope : Scope) (h : Hoisted) (f : List ℕ × SyntaxFunction) → Stable (λ units table. HoistedStands around units table scope h f)
  stable_hoisted scope h f = record { keeps = λ u t u' t' m k. hoisted_kept around u t u' t' m scope h f k }

  -- ---- the functions that are declared

  named_made : (scope : Scope) (done : List Hoisted) (ds : List (List ℕ × SyntaxFunction)) (m : Mark) (f : SyntaxFunction)
      → Triple around old (λ units table. AllStand (HoistedStands around units table scope) done ds) (hoisted_named around first p scope done (Some m) f)
      (λ hs units table. AllStand (HoistedStands around units table scope) hs (ds ++ (m.name, f) ∷ []))
  named_made scope done ds m f =
      triple_bind around old (frame around old (stable_all around old (λ units table. HoistedStands around units table scope) (stable_hoisted scope) done ds) (below.function scope f)) (λ n.
      triple_pure around old (done ++ record { name = name_in around scope m.name; function = n } ∷ [])
      (λ units table h. all_end around old (λ units table. HoistedStands around units table scope) (stable_hoisted scope) units table done ds (record { name = name_in around scope m.name; function = n }) (m.name, f) h.0 ((refl, refl), h.1)))

  one_named : (scope : Scope) (done : List Hoisted) (ds : List (List ℕ × SyntaxFunction)) (name : Option Mark) (f : SyntaxFunction) → (out-Function f).name ≡ name
      → Triple around old (λ units table. AllStand (HoistedStands around units table scope) done ds) (hoisted_named around first p scope done name f)
      (λ hs units table. AllStand (HoistedStands around units table scope) hs (ds ++ functions_of_kind (StmtKind-F.Function f)))
  one_named scope done ds None f is =
      triple_pure around old done (λ units table h. subst (λ z. AllStand (HoistedStands around units table scope) done z) (sym (append-nil ds) ∙ ap (λ fs. ds ++ named_function fs f) (sym is)) h)
  one_named scope done ds (Some m) f is =
      triple_post around old (named_made scope done ds m f) (λ hs units table h. subst (λ z. AllStand (HoistedStands around units table scope) hs (ds ++ z)) (ap (λ fs. named_function fs f) (sym is)) h)

  one_made : (scope : Scope) (done : List Hoisted) (ds : List (List ℕ × SyntaxFunction)) (t : StmtKindLayer Tree)
      → Triple around old (λ units table. AllStand (HoistedStands around units table scope) done ds) (hoisted_one around first p scope done t)
      (λ hs units table. AllStand (HoistedStands around units table scope) hs (ds ++ functions_of_kind t))
  one_made scope done ds (StmtKind-F.Function f) = one_named scope done ds (out-Function f).name f refl
  one_made scope done ds _ = triple_pure around old done (λ units table h. subst (λ z. AllStand (HoistedStands around units table scope) done z) (sym (append-nil ds)) h)

  from_made : (scope : Scope) (done : List Hoisted) (ds : List (List ℕ × SyntaxFunction)) (ts : List SyntaxStmt)
      → Triple around old (λ units table. AllStand (HoistedStands around units table scope) done ds) (hoisted_from around first p scope done ts)
      (λ hs units table. AllStand (HoistedStands around units table scope) hs (ds ++ functions ts))
  from_made scope done ds [] = triple_pure around old done (λ units table h. subst (λ z. AllStand (HoistedStands around units table scope) done z) (sym (append-nil ds)) h)
  from_made scope done ds (t ∷ ts) =
      triple_bind around old (one_made scope done ds (kind_of t)) (λ hs.
      triple_post around old (from_made scope hs (ds ++ functions_of_kind (kind_of t)) ts)
      (λ gs units table h. subst (λ z. AllStand (HoistedStands around units table scope) gs z) (append_assoc ds (functions_of_kind (kind_of t)) (functions ts)) h))

  pub hoisted_made : (scope : Scope) (ts : List SyntaxStmt) → Triple around old Always (all_hoisted around first p scope ts) (λ hs units table. AllStand (HoistedStands around units table scope) hs (functions ts))
  unfolding all_hoisted
  hoisted_made scope ts = triple_pre around old Always (λ units table h. tt) (from_made scope [] [] ts)

  -- ---- statements to the greatest depth

  pub stmts_made : (scope : Scope) (size : ℕ) (ts : List SyntaxStmt) → Triple around old Always (stmts around first p scope size ts) (λ us units table. AllStand (StmtStandsTo around units table depth scope size) us ts)
  unfolding stmts
  stmts_made scope size ts = all_made around old (λ units table u t. StmtStandsTo around units table depth scope size u t) (stable_stmt scope size) (λ t. p.stmt scope size t) (below.stmt scope size) ts

  pub deepest_made : (scope : Scope) (size : ℕ) (ts : List SyntaxStmt) → Triple around old Always (stmts around first p scope size ts) (λ us units table. AllStand (StmtStandsTo around units table depth_limit scope size) us ts)
  deepest_made scope size ts =
      triple_post around old (stmts_made scope size ts) (λ us units table h. all_kept (stmt_kept around units table units table (same units table) depth depth_limit low scope size) us ts h)

  pub body_made : (size : ℕ) (own : Option (List ℕ)) (parameters : List (List ℕ)) (outer : Scope) (ts : List SyntaxStmt)
      → Triple around old Always (body around first p size own parameters outer ts) (λ b units table. BodyStands around units table size own parameters outer b ts)
  unfolding body
  body_made size own parameters outer ts =
      let scope : Scope = body_entry size own parameters ts ++ outer in
      let given = once_grows size (variables ts) (parameter_entry size own parameters ts) in
      let named = once_grows size (function_names ts) (variable_entry size own parameters ts) in
      let all = lexicals_length size (lexicals ts) (with_names_once size (function_names ts) (variable_entry size own parameters ts)) in
      triple_bind around old (hoisted_made scope ts) (λ hs.
      triple_bind around old (frame around old (stable_all around old (λ units table. HoistedStands around units table scope) (stable_hoisted scope) hs (functions ts)) (deepest_made scope (size + length (body_entry size own parameters ts)) ts)) (λ us.
      triple_pure around old _ (λ units table h. record {
        variables = omega (arith, given);
        undeclared = omega (arith, named, all);
        hoisted = h.0;
        statements = h.1;
      })))

  -- ---- functions

  pub function_made : (scope : Scope) (own : Option (List ℕ)) (f : SyntaxFunction) → Triple around old Always (function around first p scope own f) (λ n units table. FunctionStands around units table scope n own f)
  unfolding function with_captured
  function_made scope own f =
      let kept : Scope = captured around scope own f in
      let names : List Lexical = map lexical_of kept in
      let parameters = names_of (out-Function f).parameters in
      let ts = (out-Function f).body in
      triple_bind around old (body_made (length kept) own parameters (captured_scope 0 names) ts) (λ b.
      let code : Function = record { captures = map (λ s. s.slot) kept; own = own_given (length kept) own parameters ts; parameters = length (out-Function f).parameters; body = b } in
      let entry : Numbered = record { own = own; function = f; names = names } in
      triple_post around old
      (triple_pre around old (λ units table. BodyStands around units table (length kept) own parameters (captured_scope 0 names) b ts)
      (λ units table h. record {
        own = refl;
        parameters = refl;
        body = subst (λ k. BodyStands around units table k own parameters (captured_scope 0 names) b ts) (sym (length-map kept lexical_of)) h;
      })
      (triple_add around old code entry first numbers))
      (λ n units table h. record { code = code; is = h.0; entry = h.1; captures = refl }))
