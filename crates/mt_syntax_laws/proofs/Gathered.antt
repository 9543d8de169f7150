-- Two gatherings are related where what they join is.
use Rattle.std.specs.Prelude.{List, [], ◌∷◌, map, Option, None, Some}
use Rattle.mt_syntax.specs.Sort.{Sort}
use Rattle.mt_syntax.specs.Sort as sort
use Rattle.mt_syntax.specs.Fold.{Every, ExprKindLayer, ForStartLayer, MarkupChildLayer, MarkupValueLayer, StmtKindLayer, DeclLayer}
use Rattle.mt_syntax.specs.Gathering.{all_of, or_none, gathering, of_expr_kind, of_for_start, of_markup_child, of_markup_value, of_stmt_kind}
use Rattle.mt_syntax_laws.proofs.Layers.{map_expr_kind, map_for_start, map_markup_child, map_markup_value, map_stmt_kind, map_decl}
use Rattle.mt_syntax_laws.proofs.Related.{Two, lefts, rights, Preserved}
use Rattle.mt_syntax.specs.declared.tree.Mark.{Mark}
use Rattle.mt_syntax.specs.declared.tree.ExprKind.TheOpen.{ExprKind-F, ForStart-F, MarkupChild-F, MarkupValue-F, StmtKind-F}

module _ {X Y : Type 0} (R : X → Y → Type 0) where
  abbrev pub Alike : (s : Sort) → Every X s → Every Y s → Type 0
  Alike s x y = R x y

  module _ (none : X) (join : X → X → X) (none' : Y) (join' : Y → Y → Y) (at_none : R none none') (at_join : (x x' : X) (y y' : Y) → R x y → R x' y' → R (join x x') (join' y y')) where
    joined : {s t : Sort} (p : Two Alike s) (q : Two Alike t) → R (join p.left q.left) (join' p.right q.right)
    joined p q = at_join p.left q.left p.right q.right p.holds q.holds

    pub rows : {s : Sort} (ps : List (Two Alike s)) → R (all_of none join (map (lefts Alike s) ps)) (all_of none' join' (map (rights Alike s) ps))
    rows [] = at_none
    rows {s} (p ∷ ps) = at_join p.left (all_of none join (map (lefts Alike s) ps)) p.right (all_of none' join' (map (rights Alike s) ps)) p.holds (rows ps)

    with_row : {s t : Sort} (p : Two Alike s) (ps : List (Two Alike t))
        → R (join p.left (all_of none join (map (lefts Alike t) ps))) (join' p.right (all_of none' join' (map (rights Alike t) ps)))
    with_row {s} {t} p ps = at_join p.left (all_of none join (map (lefts Alike t) ps)) p.right (all_of none' join' (map (rights Alike t) ps)) p.holds (rows ps)

    pub gathered_expr_kind : (x : ExprKindLayer (Two Alike)) → R (of_expr_kind none join (map_expr_kind (lefts Alike) x)) (of_expr_kind none' join' (map_expr_kind (rights Alike) x))
    gathered_expr_kind (ExprKind-F.Arr items) = rows items
    gathered_expr_kind (ExprKind-F.Obj props) = rows props
    gathered_expr_kind (ExprKind-F.Fun function) = function.holds
    gathered_expr_kind (ExprKind-F.Unary op a) = a.holds
    gathered_expr_kind (ExprKind-F.Step op a) = a.holds
    gathered_expr_kind (ExprKind-F.Binary op a b) = joined a b
    gathered_expr_kind (ExprKind-F.And a b) = joined a b
    gathered_expr_kind (ExprKind-F.Or a b) = joined a b
    gathered_expr_kind (ExprKind-F.Cond a b c) = at_join a.left (join b.left c.left) a.right (join' b.right c.right) a.holds (joined b c)
    gathered_expr_kind (ExprKind-F.Assign op a b) = joined a b
    gathered_expr_kind (ExprKind-F.Index a b) = joined a b
    gathered_expr_kind (ExprKind-F.Call a arguments) = with_row a arguments
    gathered_expr_kind (ExprKind-F.Stray a) = a.holds
    gathered_expr_kind (ExprKind-F.Markup markup) = markup.holds
    gathered_expr_kind _ = at_none

    pub gathered_for_start : (x : ForStartLayer (Two Alike)) → R (of_for_start none join (map_for_start (lefts Alike) x)) (of_for_start none' join' (map_for_start (rights Alike) x))
    gathered_for_start ForStart-F.Absent = at_none
    gathered_for_start (ForStart-F.ForStart::Var decls) = rows decls
    gathered_for_start (ForStart-F.ForStart::Expr a) = a.holds

    pub gathered_markup_child : (x : MarkupChildLayer (Two Alike)) → R (of_markup_child none join (map_markup_child (lefts Alike) x)) (of_markup_child none' join' (map_markup_child (rights Alike) x))
    gathered_markup_child (MarkupChild-F.MarkupChild::Text text) = at_none
    gathered_markup_child (MarkupChild-F.Direct a) = a.holds
    gathered_markup_child (MarkupChild-F.MarkupChild::Dollar a) = a.holds

    pub gathered_markup_value : (x : MarkupValueLayer (Two Alike)) → R (of_markup_value none join (map_markup_value (lefts Alike) x)) (of_markup_value none' join' (map_markup_value (rights Alike) x))
    gathered_markup_value (MarkupValue-F.Quoted text) = at_none
    gathered_markup_value (MarkupValue-F.MarkupValue::Tilde a) = a.holds
    gathered_markup_value (MarkupValue-F.MarkupValue::Dollar a) = a.holds

    last : {s : Sort} (p : Two Alike s) → R (join none p.left) (join' none' p.right)
    last p = at_join none p.left none' p.right at_none p.holds

    before : {s : Sort} (x : X) (y : Y) (p : Two Alike s) → R x y → R (join p.left x) (join' p.right y)
    before x y p h = at_join p.left x p.right y p.holds h

    pub gathered_stmt_kind : (x : StmtKindLayer (Two Alike)) → R (of_stmt_kind none join (map_stmt_kind (lefts Alike) x)) (of_stmt_kind none' join' (map_stmt_kind (rights Alike) x))
    gathered_stmt_kind (StmtKind-F.StmtKind::Expr a) = a.holds
    gathered_stmt_kind (StmtKind-F.StmtKind::Var kind decls) = rows decls
    gathered_stmt_kind (StmtKind-F.Function function) = function.holds
    gathered_stmt_kind (StmtKind-F.Service function) = function.holds
    gathered_stmt_kind (StmtKind-F.If test body None) = before (join body.left none) (join' body.right none') test (at_join body.left none body.right none' body.holds at_none)
    gathered_stmt_kind (StmtKind-F.If test body (Some other)) = before (join body.left other.left) (join' body.right other.right) test (joined body other)
    gathered_stmt_kind (StmtKind-F.While test body) = joined test body
    gathered_stmt_kind (StmtKind-F.For start None None body) =
        before (join none (join none body.left)) (join' none' (join' none' body.right)) start (at_join none (join none body.left) none' (join' none' body.right) at_none (last body))
    gathered_stmt_kind (StmtKind-F.For start None (Some step) body) =
        before (join none (join step.left body.left)) (join' none' (join' step.right body.right)) start (at_join none (join step.left body.left) none' (join' step.right body.right) at_none (joined step body))
    gathered_stmt_kind (StmtKind-F.For start (Some test) None body) =
        before (join test.left (join none body.left)) (join' test.right (join' none' body.right)) start (before (join none body.left) (join' none' body.right) test (last body))
    gathered_stmt_kind (StmtKind-F.For start (Some test) (Some step) body) =
        before (join test.left (join step.left body.left)) (join' test.right (join' step.right body.right)) start (before (join step.left body.left) (join' step.right body.right) test (joined step body))
    gathered_stmt_kind (StmtKind-F.Return None) = at_none
    gathered_stmt_kind (StmtKind-F.Return (Some value)) = value.holds
    gathered_stmt_kind (StmtKind-F.Throw a) = a.holds
    gathered_stmt_kind (StmtKind-F.Try body name handler) = joined body handler
    gathered_stmt_kind (StmtKind-F.Block items) = rows items
    gathered_stmt_kind _ = at_none

    pub gathered_decl : (x : DeclLayer (Two Alike)) → R (or_none none join (map_decl (lefts Alike) x).value) (or_none none' join' (map_decl (rights Alike) x).value)
    gathered_decl x = by x.name x.value
      where
        by : (name : Mark) (value : Option (Two Alike sort.Expr))
            → R (or_none none join (map_decl (lefts Alike) (record { name = name; value = value })).value) (or_none none' join' (map_decl (rights Alike) (record { name = name; value = value })).value)
        by name None = at_none
        by name (Some p) = p.holds

    pub gathered : Preserved (gathering none join) (gathering none' join') Alike
    gathered = record {
      expr_kind = gathered_expr_kind;
      for_start = gathered_for_start;
      markup_child = gathered_markup_child;
      markup_value = gathered_markup_value;
      stmt_kind = gathered_stmt_kind;
      decl = gathered_decl;
      expr = λ x. x.kind.holds;
      function = λ x. rows x.body;
      markup = λ x. at_join (all_of none join (map (lefts Alike sort.MarkupAttribute) x.attributes)) (all_of none join (map (lefts Alike sort.MarkupChild) x.children))
          (all_of none' join' (map (rights Alike sort.MarkupAttribute) x.attributes)) (all_of none' join' (map (rights Alike sort.MarkupChild) x.children)) (rows x.attributes) (rows x.children);
      markup_attribute = λ x. x.value.holds;
      prop = λ x. x.value.holds;
      stmt = λ x. x.kind.holds;
    }
