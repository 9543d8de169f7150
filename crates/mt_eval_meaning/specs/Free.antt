-- The names that code uses and doesn't bind, and environments cut to them.
use Rattle.std.specs.Prelude.{ℕ, zero, suc, Bool, if◌then◌else◌, List, [], ◌∷◌, ◌++◌, length, flat_map, Option, None, Some, slice_get}
use Rattle.std.specs.List.{list_any}
use Rattle.mt_eval_meaning.specs.Evaluation.{own_name}
use Rattle.mt_eval_meaning.specs.Hoisting.{names_of}
use Rattle.mt_syntax.specs.Fold.{Every, ExprKindLayer, StmtKindLayer, FunctionLayer, Steps, on_expr, on_function}
use Rattle.mt_syntax.specs.Gathering.{gathering, all_of}
use Rattle.mt_syntax.specs.declared.program.Tilde.{Tilde}
use Rattle.mt_syntax.specs.declared.tree.Function.{Function}
use Rattle.mt_tree.specs.declared.operators.VarKind.{VarKind}
use Rattle.mt_tree.specs.declared.operators.VarKind.TheVariants as word
use Rattle.mt_syntax.specs.declared.tree.ExprKind.TheOpen.{ExprKind-F, StmtKind-F}
use Rattle.mt_value.specs.Names.{is_same}

abbrev pub Names : Type 0
Names = List (List ℕ)

abbrev pub has : Names → List ℕ → Bool
has names name = list_any (is_same name) names

-- the names that aren't among some
abbrev pub without : Names → Names → Names
without some [] = []
without some (name ∷ names) = if has some name then without some names else name ∷ without some names

-- of a part of a tree: the names that it uses and doesn't bind, those that it binds by `let` and `const` in the block or body where it
-- stands, the functions that it declares at the top of a body, and its `var` names. Of a function the function is its own name.
pub record Used : Type 0 where
  pub free : Names
  pub here : Names
  pub functions : Names
  pub variables : Names

abbrev pub none : Used
none = record { free = []; here = []; functions = []; variables = [] }

abbrev pub joined : Used → Used → Used
joined a b = record { free = a.free ++ b.free; here = a.here ++ b.here; functions = a.functions ++ b.functions; variables = a.variables ++ b.variables }

abbrev pub using_only : Names → Used
using_only free = record none { free = free }

-- what stands inside a statement declares its variables alone around it
abbrev pub enclosed : Used → Used
enclosed u = record u { here = []; functions = [] }

abbrev pub declared_by : VarKind → Used → Used
declared_by word.Var u = record u { variables = u.here; here = [] }
declared_by _ u = u

module _ (tilde : ℕ → Names) where
  abbrev pub listing : Steps (Every Used)
  listing = gathering none joined

  abbrev pub used_by_expr_kind : ExprKindLayer (Every Used) → Used
  used_by_expr_kind (ExprKind-F.Name name) = using_only (name ∷ [])
  used_by_expr_kind (ExprKind-F.Fun f) = using_only (without f.functions f.free)
  used_by_expr_kind (ExprKind-F.ExprKind::Tilde id) = using_only (tilde id)
  used_by_expr_kind layer = using_only (listing.expr_kind layer).free

  abbrev pub used_by_stmt_kind : StmtKindLayer (Every Used) → Used
  used_by_stmt_kind (StmtKind-F.StmtKind::Var kind decls) = declared_by kind (all_of none joined decls)
  used_by_stmt_kind (StmtKind-F.Function f) = f
  used_by_stmt_kind (StmtKind-F.Service f) = none
  used_by_stmt_kind (StmtKind-F.Try body name handler) = joined (enclosed body) (enclosed (record handler { free = without (name.name ∷ []) handler.free }))
  used_by_stmt_kind (StmtKind-F.Block items) = let u = all_of none joined items in enclosed (record u { free = without u.here u.free })
  used_by_stmt_kind (StmtKind-F.For start test step body) = let u = (listing.stmt_kind (StmtKind-F.For start test step body)) in enclosed (record u { variables = start.here ++ body.variables })
  used_by_stmt_kind layer = enclosed (listing.stmt_kind layer)

  abbrev pub used_by_function : FunctionLayer (Every Used) → Used
  used_by_function f =
      let u = all_of none joined f.body in
      record none { free = without (names_of f.parameters ++ (u.variables ++ (u.functions ++ u.here))) u.free; functions = own_names (own_name f.name) }
    where
      own_names : Option (List ℕ) → Names
      own_names None = []
      own_names (Some name) = name ∷ []

  -- a declaration uses its own name, which it gives a value
  abbrev pub finding : Steps (Every Used)
  finding = record listing {
    expr_kind = used_by_expr_kind;
    stmt_kind = used_by_stmt_kind;
    decl = λ d. record none { free = d.name.name ∷ (listing.decl d).free; here = d.name.name ∷ [] };
    function = used_by_function;
  }

-- ---- the names of a tilde are those of its dollars

abbrev pub dollar_names : (ℕ → Names) → Option Tilde → Names
dollar_names tilde None = []
dollar_names tilde (Some t) = flat_map (λ e. (on_expr (finding tilde) e).free) t.dollars

-- tildes that nest in one another at most so deep
abbrev pub tilde_names : List Tilde → ℕ → ℕ → Names
tilde_names tildes zero id = []
tilde_names tildes (suc n) id = dollar_names (tilde_names tildes n) (slice_get tildes id)

-- the names that are free in a function, which has its own name inside where it is given
unfoldable pub free_of : List Tilde → Option (List ℕ) → Function → Names
free_of tildes own f = without (own_list own) (on_function (finding (tilde_names tildes (suc (length tildes)))) f).free
  where
    own_list : Option (List ℕ) → Names
    own_list None = []
    own_list (Some name) = name ∷ []

-- ---- lists of what has a name, newest first, cut to the newest of each name that is free

abbrev pub cut : {A : Type 0} → (A → List ℕ) → Names → List A → List A
cut name free [] = []
cut name free (x ∷ xs) = if has free (name x) then x ∷ cut name (without (name x ∷ []) free) xs else cut name free xs
