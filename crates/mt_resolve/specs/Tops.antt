-- The code of a file's top with its services, and of client code.
use Rattle.std.specs.Prelude.{ℕ, List, [], ◌∷◌, ◌++◌, length, map, Option, None, Some}
use Rattle.mt_eval_meaning.specs.Scopes.{Scope, with_lexicals, body_entry}
use Rattle.mt_resolve_names.specs.Bound.{captured}
use Rattle.mt_eval_meaning.specs.Hoisting.{kind_of, lexicals, variables}
use Rattle.mt_eval_meaning.specs.Names.{Surroundings}
use Rattle.mt_eval_meaning.specs.Runs.{◌>>=◌, pure}
use Rattle.mt_resolve.specs.declared.service.Service.{Service}
use Rattle.mt_resolve.specs.Resolving.{M, all_hoisted, at, body, stmts}
use Rattle.mt_eval_meaning.specs.declared.function.Unit.{Unit as Unit'}
use Rattle.mt_syntax.specs.Fold.{Tree, StmtKindLayer}
use Rattle.mt_syntax.specs.declared.tree.ExprKind.TheOpen.{StmtKind-F}
use Rattle.mt_syntax.specs.declared.tree.Function.{Function as SyntaxFunction, out-Function}
use Rattle.mt_syntax.specs.declared.tree.Mark.{Mark}
use Rattle.mt_syntax.specs.declared.tree.Stmt.{Stmt as SyntaxStmt}
use Rattle.mt_tree.specs.Limits.{depth_limit}

module _ (around : Surroundings) (first : ℕ) where
  abbrev pub service_named : Scope → List Service → Option Mark → SyntaxFunction → M (List Service)
  service_named scope done None f = pure done
  service_named scope done (Some m) f =
      (at around first depth_limit).function scope f >>= (λ n. pure (done ++ record { name = m.name; function = n; captured = map (λ s. s.slot) (captured around scope None f) } ∷ []))

  abbrev pub service_one : Scope → List Service → StmtKindLayer Tree → M (List Service)
  service_one scope done (StmtKind-F.Service f) = service_named scope done (out-Function f).name f
  service_one scope done _ = pure done

  abbrev pub services_from : Scope → List Service → List SyntaxStmt → M (List Service)
  services_from scope done [] = pure done
  services_from scope done (t ∷ ts) = service_one scope done (kind_of t) >>= (λ ss. services_from scope ss ts)

  -- the services that the items declare
  unfoldable pub all_services : Scope → List SyntaxStmt → M (List Service)
  all_services scope items = services_from scope [] items

  -- the top of the file, with its services
  unfoldable pub file : List SyntaxStmt → M (Unit' × List Service)
  file items = do
    b ← body around first (at around first depth_limit) 0 None [] [] items
    ss ← all_services (body_entry 0 None [] items) items
    pure (record { globals = []; body = b }, ss)

  unfoldable pub client_code : List SyntaxStmt → M Unit'
  client_code items = do
    hs ← all_hoisted around first (at around first depth_limit) (with_lexicals 0 (lexicals items) []) items
    us ← stmts around first (at around first depth_limit) (with_lexicals 0 (lexicals items) []) (length (lexicals items)) items
    pure (record { globals = variables items; body = record { variables = 0; undeclared = length (lexicals items); hoisted = hs; statements = us } })
