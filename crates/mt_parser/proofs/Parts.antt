-- The form of each part that the builder makes, from the forms of the parts in it.
use Rattle.std.proofs.Common.{◌≡◌, Bool, true, false, not, ◌&&◌, List, [], ◌∷◌, ◌++◌, map, refl, sym, ap, ◌∙◌}
use Rattle.std.specs.List.{list_all}
use Rattle.std.proofs.lemmas.Bool.{and_from, and_parts}
use Rattle.mt_tree.specs.declared.place.Place.{Place}
use Rattle.mt_syntax.specs.Fold.{ExprKindLayer, StmtKindLayer, Tree, on_expr, on_stmt}
use Rattle.mt_syntax.specs.Shape.{Part, all_fit, decls_fit, expr_kind_part, is_some_item, is_text, is_valued, shaping, stmt_kind_part, texts_apart}
use Rattle.mt_syntax_laws.proofs.Layers.{map_expr_kind, map_stmt_kind}
use Rattle.mt_syntax_laws.proofs.Related.{on, at_expr, at_expr_kind, at_stmt, at_stmt_kind}
use Rattle.mt_syntax.specs.declared.tree.ExprKind.{roll-ExprKind}
use Rattle.mt_syntax.specs.declared.tree.StmtKind.{roll-StmtKind}
use Rattle.mt_tree.specs.declared.operators.VarKind.{VarKind}
use Rattle.mt_tree.specs.declared.operators.VarKind.TheVariants as var_kind
use Rattle.mt_parser_builder.specs.Syntax as made
use Rattle.mt_parser.proofs.Joins.{and_joins}

-- ---- rows

pub all_fit_more : {T : Type 0} (f : T → Part) (xs : List T) (x : T) → all_fit (map f (xs ++ x ∷ [])) ≡ (all_fit (map f xs) && (f x).fits)
all_fit_more f [] x = and_joins.right (f x).fits
all_fit_more f (y ∷ xs) x = ap (λ b. (f y).fits && b) (all_fit_more f xs x) ∙ sym (and_joins.along (f y).fits (all_fit (map f xs)) (f x).fits)

pub some_item : {T X : Type 0} (f : T → X) (xs : List T) (x : T) → is_some_item (map f (xs ++ x ∷ [])) ≡ true
some_item f [] x = refl
some_item f (y ∷ xs) x = refl

-- what holds of each part beside its form
pub all_also : (p : Part → Bool) (ps : List Part) → list_all p ps ≡ true → all_fit ps ≡ true → list_all (λ q. p q && q.fits) ps ≡ true
all_also p [] h g = refl
all_also p (q ∷ ps) h g =
    let a = and_parts (p q) (list_all p ps) h in let b = and_parts q.fits (all_fit ps) g in
    and_from (p q && q.fits) (list_all (λ q. p q && q.fits) ps) (and_from (p q) q.fits a.0 b.0) (all_also p ps a.1 b.1)

pub list_all_more : {T : Type 0} (p : T → Bool) (xs : List T) (x : T) → list_all p xs ≡ true → p x ≡ true → list_all p (xs ++ x ∷ []) ≡ true
list_all_more p [] x h g = and_from (p x) true g refl
list_all_more p (y ∷ xs) x h g = let a = and_parts (p y) (list_all p xs) h in and_from (p y) (list_all p (xs ++ x ∷ [])) a.0 (list_all_more p xs x a.1 g)

-- ---- texts that stand apart

abbrev pub last_is_text : List Part → Bool
last_is_text [] = false
last_is_text (p ∷ []) = is_text p.look
last_is_text (p ∷ q ∷ ps) = last_is_text (q ∷ ps)

pub apart_more : (ps : List Part) (p : Part) → texts_apart ps ≡ true → (last_is_text ps && is_text p.look) ≡ false → texts_apart (ps ++ p ∷ []) ≡ true
apart_more [] p h g = refl
apart_more (q ∷ []) p h g = and_from (not (is_text q.look && is_text p.look)) true (ap not g) refl
apart_more (q ∷ r ∷ ps) p h g =
    let a = and_parts (not (is_text q.look && is_text r.look)) (texts_apart (r ∷ ps)) h in
    and_from (not (is_text q.look && is_text r.look)) (texts_apart ((r ∷ ps) ++ p ∷ [])) a.0 (apart_more (r ∷ ps) p a.1 g)

pub last_more : (ps : List Part) (p : Part) → last_is_text (ps ++ p ∷ []) ≡ is_text p.look
last_more [] p = refl
last_more (q ∷ []) p = refl
last_more (q ∷ r ∷ ps) p = last_more (r ∷ ps) p

-- ---- a declaration

pub decls_are : (kind : VarKind) (ps : List Part) → is_some_item ps ≡ true → (kind ≡ var_kind.Const → list_all (λ p. is_valued p.look) ps ≡ true) → all_fit ps ≡ true → decls_fit kind ps ≡ true
decls_are var_kind.Var ps some values fit = and_from (is_some_item ps) (all_fit ps) some fit
decls_are var_kind.Let ps some values fit = and_from (is_some_item ps) (all_fit ps) some fit
decls_are var_kind.Const ps some values fit = and_from (is_some_item ps) (list_all (λ p. is_valued p.look && p.fits) ps) some (all_also (λ p. is_valued p.look) ps (values refl) fit)

-- ---- what each node looks like

pub at_node : (p : Place) (layer : ExprKindLayer Tree) → on_expr shaping (made.expr p layer) ≡ expr_kind_part (map_expr_kind (on shaping) layer)
at_node p layer = at_expr shaping (record { place = p; kind = roll-ExprKind layer }) ∙ at_expr_kind shaping layer

pub at_statement : (p : Place) (layer : StmtKindLayer Tree) → on_stmt shaping (made.stmt p layer) ≡ stmt_kind_part (map_stmt_kind (on shaping) layer)
at_statement p layer = at_stmt shaping (record { place = p; kind = roll-StmtKind layer }) ∙ at_stmt_kind shaping layer
