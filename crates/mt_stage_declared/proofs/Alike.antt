-- Declarations that are all of one kind, which doesn't clash with itself.
use Rattle.std.proofs.Common.{◌≡◌, Bool, true, false, ◌&&◌, ◌||◌, List, [], ◌∷◌, ◌++◌, map, flat_map, None, Some, sym, ap, ◌∙◌, refl}
use Rattle.std.proofs.lemmas.List.{map-append}
use Rattle.std.specs.Prelude.{if◌then◌else◌, ⊤}
use Rattle.std.specs.List.{list_any}
use Rattle.mt_syntax.specs.Sort.{Sort}
use Rattle.mt_syntax.specs.Sort as sort
use Rattle.mt_syntax.specs.Fold.{StmtKindLayer, on_stmt_kind}
use Rattle.mt_syntax.specs.declared.tree.Mark.{Mark}
use Rattle.mt_syntax.specs.declared.tree.StmtKind.{StmtKind}
use Rattle.mt_tree.specs.declared.operators.VarKind.TheVariants as word
use Rattle.mt_syntax.specs.declared.tree.ExprKind.TheOpen.{StmtKind-F}
use Rattle.mt_syntax_laws.proofs.Layers.{map_stmt_kind}
use Rattle.mt_syntax_laws.proofs.Related.{Preserved, Two, lefts, related_stmt_kind}
use Rattle.mt_stage_declared.specs.Clashes.{rivals}
use Rattle.mt_stage_declared.specs.Declarations.{Declared, declaration, declarations, declared_by_kind, declaring}
use Rattle.mt_stage_declared.specs.Names.{is_same}
use Rattle.mt_stage_declared.specs.Repeated.{clash, is_kind, repeated, repeated_behind, twice_at}
use Rattle.mt_stage_declared.specs.declared.declaration.Declaration.{Declaration}
use Rattle.mt_stage_declared.specs.declared.declaration.DeclarationKind.{DeclarationKind}
use Rattle.mt_stage_declared.specs.declared.declaration.DeclarationKind.TheVariants as kind

abbrev all_by : DeclarationKind → List Declaration → List Declaration
all_by k = map (λ d. declaration k d.name)

abbrev pub AreAll : DeclarationKind → List Declaration → Type 0
AreAll k ds = ds ≡ all_by k ds

pub all_declared : (k : DeclarationKind) (ms : List Mark) → AreAll k (declarations k ms)
all_declared k [] = refl
all_declared k (m ∷ ms) = ap (λ ds. declaration k m ∷ ds) (all_declared k ms)

all_both : (k : DeclarationKind) (ds es : List Declaration) → AreAll k ds → AreAll k es → AreAll k (ds ++ es)
all_both k ds es p q = (λ i. p i ++ q i) ∙ sym (map-append (λ d. declaration k d.name) ds es)

-- ---- none of them clash

and_false : (a b : Bool) → b ≡ false → (a && b) ≡ false
and_false true b e = e
and_false false b e = refl

or_false : (a b : Bool) → a ≡ false → b ≡ false → (a || b) ≡ false
or_false true b e f = e
or_false false b e f = f

module _ (k : DeclarationKind) (apart : list_any (λ rival. is_kind rival k) (rivals k) ≡ false) where
  none_clashes : (m : Mark) (ds : List Declaration) → list_any (clash (declaration k m)) (all_by k ds) ≡ false
  none_clashes m [] = refl
  none_clashes m (d ∷ ds) =
      or_false (clash (declaration k m) (declaration k d.name)) (list_any (clash (declaration k m)) (all_by k ds)) (and_false (is_same m.name d.name.name) (list_any (λ rival. is_kind rival k) (rivals k)) apart) (none_clashes m ds)

  none_behind : (before ds : List Declaration) → repeated_behind (all_by k before) (all_by k ds) ≡ []
  none_behind before [] = refl
  none_behind before (d ∷ ds) =
      let more = sym (map-append (λ e. declaration k e.name) before (d ∷ [])) in
      (λ i. (if none_clashes d.name before i then twice_at d.name ∷ [] else []) ++ repeated_behind (more i) (all_by k ds)) ∙ none_behind (before ++ d ∷ []) ds

  pub none_repeated : (ds : List Declaration) → AreAll k ds → repeated ds ≡ []
  none_repeated ds same = ap repeated same ∙ none_behind [] ds

-- ---- the variables of a statement

abbrev Nests : (s : Sort) → Declared → Declared → Type 0
Nests sort.StmtKind d e = AreAll kind.Nested d.variables
Nests sort.Stmt d e = AreAll kind.Nested d.variables
Nests _ d e = ⊤

in_items : (ds : List (Two Nests sort.Stmt)) → AreAll kind.Nested (flat_map (λ d. d.variables) (map (lefts Nests sort.Stmt) ds))
in_items [] = refl
in_items (d ∷ ds) = all_both kind.Nested d.left.variables (flat_map (λ d. d.variables) (map (lefts Nests sort.Stmt) ds)) d.holds (in_items ds)

in_kind : (x : StmtKindLayer (Two Nests)) → AreAll kind.Nested (declared_by_kind (λ d. d) (map_stmt_kind (lefts Nests) x)).variables
in_kind (StmtKind-F.StmtKind::Expr a) = refl
in_kind (StmtKind-F.StmtKind::Var word.Var decls) = all_declared kind.Nested _
in_kind (StmtKind-F.StmtKind::Var word.Let decls) = refl
in_kind (StmtKind-F.StmtKind::Var word.Const decls) = refl
in_kind (StmtKind-F.Function function) = refl
in_kind (StmtKind-F.Service function) = refl
in_kind (StmtKind-F.If test body None) = all_both kind.Nested body.left.variables [] body.holds refl
in_kind (StmtKind-F.If test body (Some other)) = all_both kind.Nested body.left.variables other.left.variables body.holds other.holds
in_kind (StmtKind-F.While test body) = body.holds
in_kind (StmtKind-F.For start test step body) = all_both kind.Nested (declarations kind.Nested start.left.names) body.left.variables (all_declared kind.Nested start.left.names) body.holds
in_kind (StmtKind-F.Return value) = refl
in_kind StmtKind-F.Break = refl
in_kind StmtKind-F.Continue = refl
in_kind (StmtKind-F.Throw a) = refl
in_kind (StmtKind-F.Try body name handler) = all_both kind.Nested body.left.variables handler.left.variables body.holds handler.holds
in_kind (StmtKind-F.Block items) = in_items items
in_kind StmtKind-F.Empty = refl

preserved : Preserved declaring declaring Nests
preserved = record {
  expr_kind = λ x. tt;
  for_start = λ x. tt;
  markup_child = λ x. tt;
  markup_value = λ x. tt;
  stmt_kind = in_kind;
  decl = λ x. tt;
  expr = λ x. tt;
  function = λ x. tt;
  markup = λ x. tt;
  markup_attribute = λ x. tt;
  prop = λ x. tt;
  stmt = λ x. x.kind.holds;
}

pub variables_repeat_none : (s : StmtKind) → repeated (on_stmt_kind declaring s).variables ≡ []
variables_repeat_none s = none_repeated kind.Nested refl (on_stmt_kind declaring s).variables (related_stmt_kind declaring declaring Nests preserved s)
