-- Results beside what trees declare have just what they declare.
use Rattle.std.proofs.Common.{◌≡◌, List, [], ◌∷◌, ◌++◌, map, flat_map, None, Some, ap, refl}
use Rattle.mt_syntax.specs.Sort.{Sort}
use Rattle.mt_syntax.specs.Sort as sort
use Rattle.mt_syntax.specs.Fold.{Every, ForStartLayer, StmtKindLayer, Steps, on_stmt}
use Rattle.mt_syntax.specs.declared.tree.Stmt.{Stmt}
use Rattle.mt_syntax.specs.declared.tree.ExprKind.TheOpen.{ForStart-F, StmtKind-F}
use Rattle.mt_syntax_laws.proofs.Layers.{map_for_start, map_stmt_kind}
use Rattle.mt_syntax_laws.proofs.Related.{Preserved, Two, lefts, rights, related_stmt}
use Rattle.mt_stage_declared.specs.Declarations.{Declared, nothing, giving, holding, declarations, declared, declared_by_kind, declared_by_start, declared_by_word, declaring, here_in}
use Rattle.mt_stage_declared.specs.Parts.{Part, with_declared}
use Rattle.mt_stage_declared.specs.declared.declaration.DeclarationKind.TheVariants as kind

-- two trees with results on their parts, where parts that are related declare the same
module _ {P Q : Type 0} (R : (s : Sort) → Every P s → Every Q s → Type 0) (of : P → Declared) (other : Q → Declared) (same : (s : Sort) (t : Two {A = Every P} {B = Every Q} R s) → of t.left ≡ other t.right) where
  pub row_same : {C : Type 0} {s : Sort} (g : Declared → List C) (ps : List (Two {A = Every P} {B = Every Q} R s))
      → flat_map (λ p. g (of p)) (map (lefts R s) ps) ≡ flat_map (λ p. g (other p)) (map (rights R s) ps)
  row_same g [] = refl
  row_same {s = s} g (p ∷ ps) = λ i. g (same s p i) ++ row_same g ps i

  pub start_same : (x : ForStartLayer (Two {A = Every P} {B = Every Q} R)) → declared_by_start of (map_for_start (lefts R) x) ≡ declared_by_start other (map_for_start (rights R) x)
  start_same (ForStart-F.ForStart::Var decls) = ap giving (row_same (λ d. d.names) decls)
  start_same ForStart-F.Absent = refl
  start_same (ForStart-F.ForStart::Expr a) = refl

  pub kind_same : (x : StmtKindLayer (Two {A = Every P} {B = Every Q} R)) → declared_by_kind of (map_stmt_kind (lefts R) x) ≡ declared_by_kind other (map_stmt_kind (rights R) x)
  kind_same (StmtKind-F.StmtKind::Expr a) = refl
  kind_same (StmtKind-F.StmtKind::Var word decls) = ap (declared_by_word word) (row_same (λ d. d.names) decls)
  kind_same (StmtKind-F.Function function) = λ i. record nothing { here = declarations kind.Function (same sort.Function function i).names }
  kind_same (StmtKind-F.Service function) = λ i. record nothing { services = declarations kind.Service (same sort.Function function i).names }
  kind_same (StmtKind-F.If test body None) = λ i. holding ((same sort.Stmt body i).variables ++ [])
  kind_same (StmtKind-F.If test body (Some other)) = λ i. holding ((same sort.Stmt body i).variables ++ (same sort.Stmt other i).variables)
  kind_same (StmtKind-F.While test body) = λ i. holding (same sort.Stmt body i).variables
  kind_same (StmtKind-F.For start test step body) = λ i. holding (declarations kind.Nested (same sort.ForStart start i).names ++ (same sort.Stmt body i).variables)
  kind_same (StmtKind-F.Return value) = refl
  kind_same StmtKind-F.Break = refl
  kind_same StmtKind-F.Continue = refl
  kind_same (StmtKind-F.Throw a) = refl
  kind_same (StmtKind-F.Try body name handler) = λ i. holding ((same sort.Stmt body i).variables ++ (same sort.Stmt handler i).variables)
  kind_same (StmtKind-F.Block items) = λ i. record (holding (row_same (λ d. d.variables) items i)) { inside = row_same (λ d. d.here) items i }
  kind_same StmtKind-F.Empty = refl

module _ {X : Type 0} (steps : Steps (Every (Part X))) where
  abbrev Same : (s : Sort) → Declared → Part X → Type 0
  Same s d p = d ≡ p.declared

  preserved : Preserved declaring (with_declared steps) Same
  preserved = record {
    expr_kind = λ x. refl;
    for_start = start_same Same (λ d. d) (λ p. p.declared) (λ s t. t.holds);
    markup_child = λ x. refl;
    markup_value = λ x. refl;
    stmt_kind = kind_same Same (λ d. d) (λ p. p.declared) (λ s t. t.holds);
    decl = λ x. refl;
    expr = λ x. refl;
    function = λ x. refl;
    markup = λ x. refl;
    markup_attribute = λ x. refl;
    prop = λ x. refl;
    stmt = λ x. x.kind.holds;
  }

  pub same_declared : (s : Stmt) → declared s ≡ (on_stmt (with_declared steps) s).declared
  same_declared = related_stmt declaring (with_declared steps) Same preserved

  pub same_here : (ss : List Stmt) → here_in (λ d. d) (map declared ss) ≡ here_in (λ p. p.declared) (map (on_stmt (with_declared steps)) ss)
  same_here [] = refl
  same_here (s ∷ ss) = λ i. (same_declared s i).here ++ same_here ss i
