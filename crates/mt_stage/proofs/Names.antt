-- A substituted body declares no name twice where the body declares none twice.
use Rattle.std.proofs.Common.{◌≡◌, ℕ, List, [], ◌∷◌, ◌++◌, map, Option, None, Some, slice_get, refl, sym, ap, ◌∙◌, subst}
use Rattle.std.specs.Prelude.{option_map}
use Rattle.std.proofs.lemmas.List.{map-append}
use Rattle.mt_tree.specs.declared.data.Data.{Data}
use Rattle.mt_syntax.specs.declared.broken.Broken.{Broken}
use Rattle.mt_syntax.specs.Sort.{Sort}
use Rattle.mt_syntax.specs.Sort as sort
use Rattle.mt_syntax.specs.Fold.{Every, ExprKindLayer, StmtKindLayer, on_stmt}
use Rattle.mt_syntax.specs.Substitution.{chosen, new_expr_kind, new_stmt_kind, subst_stmt, substituting, unplaced}
use Rattle.mt_syntax.specs.Substitution as substitution
use Rattle.mt_syntax.specs.declared.tree.Mark.{Mark}
use Rattle.mt_syntax.specs.declared.tree.Stmt.{Stmt}
use Rattle.mt_syntax.specs.declared.tree.ExprKind.TheOpen.{ExprKind-F, StmtKind-F}
use Rattle.mt_syntax_laws.proofs.Gathered.{Alike, gathered}
use Rattle.mt_syntax_laws.proofs.Layers.{map_expr_kind, map_for_start, map_stmt_kind}
use Rattle.mt_syntax_laws.proofs.Related.{Preserved, Two, lefts, rights, related_stmt}
use Rattle.mt_syntax_laws.proofs.Substituted.{stmt_substituted}
use Rattle.mt_stage_declared.specs.Declarations.{Declared, declaration, declarations, declared_by_kind, declared_in_tilde, giving, own_name}
use Rattle.mt_stage_declared.specs.Parts.{Part, both, empty, found_in, gathering_found}
use Rattle.mt_stage_declared.specs.Repeated.{builtins_in, repeated}
use Rattle.mt_stage_declared.specs.Twice.{counting, declared_in, joined, listing_twice, twice_at_top, twice_in_body, twice_in_catch, twice_in_client, twice_in_kind, twice_in_row}
use Rattle.mt_stage_declared.specs.declared.declaration.Declaration.{Declaration}
use Rattle.mt_stage_declared.specs.declared.declaration.DeclarationKind.TheVariants as kind
use Rattle.mt_stage_declared.proofs.Declares.{kind_same, row_same, same_here, start_same}
use Rattle.mt_stage.proofs.Empty.{joined_empty}
use Rattle.mt_stage.proofs.Places.{all_away, away, builtins_away, declarations_away, flat_away, kind_away, repeated_away, start_away, unplaced_declared}

-- the substituted part declares the same but for the places, and nothing is found in it where nothing is found in the part
record IsOnce (substituted twice : Part (List Broken)) : Type 0 where
  declared : substituted.declared ≡ unplaced_declared twice.declared
  found : twice.found ≡ [] → substituted.found ≡ []

once_both : (p p' q q' : Part (List Broken)) → IsOnce p q → IsOnce p' q' → IsOnce (both [] joined p p') (both [] joined q q')
once_both p p' q q' h k = record { declared = refl; found = joined_empty q.found q'.found p.found p'.found h.found k.found }

once_none : IsOnce (empty [] joined) (empty [] joined)
once_none = record { declared = refl; found = λ e. refl }

met : Preserved (gathering_found [] joined) (gathering_found [] joined) (Alike IsOnce)
met = gathered IsOnce (empty [] joined) (both [] joined) (empty [] joined) (both [] joined) once_none once_both

abbrev Pair : Sort → Type 0
Pair = Two {A = Every (Part (List Broken))} {B = Every (Part (List Broken))} (Alike IsOnce)

abbrev of_left : Part (List Broken) → Declared
of_left p = p.declared

abbrev of_right : Part (List Broken) → Declared
of_right q = unplaced_declared q.declared

same_declared : (s : Sort) (t : Pair s) → of_left t.left ≡ of_right t.right
same_declared s t = t.holds.declared

in_row : {s : Sort} (ps : List (Pair s)) → found_in [] joined (map (rights (Alike IsOnce) s) ps) ≡ [] → found_in [] joined (map (lefts (Alike IsOnce) s) ps) ≡ []
in_row [] e = refl
in_row {s = s} (p ∷ ps) e = joined_empty p.right.found (found_in [] joined (map (rights (Alike IsOnce) s) ps)) p.left.found (found_in [] joined (map (lefts (Alike IsOnce) s) ps)) p.holds.found (in_row ps) e

scope_away : {s : Sort} (parameters : List Mark) (ps : List (Pair s))
    → declarations kind.Parameter (map unplaced parameters) ++ declared_in (map (lefts (Alike IsOnce) s) ps) ≡ all_away (declarations kind.Parameter parameters ++ declared_in (map (rights (Alike IsOnce) s) ps))
scope_away {s = s} parameters ps =
    (λ i. declarations_away kind.Parameter parameters i ++ (row_same (Alike IsOnce) of_left of_right same_declared (λ d. d.here) ps ∙ flat_away away (λ q. q.declared.here) (map (rights (Alike IsOnce) s) ps)) i)
    ∙ sym (map-append away (declarations kind.Parameter parameters) (declared_in (map (rights (Alike IsOnce) s) ps)))

in_body : {s : Sort} (parameters : List Mark) (ps : List (Pair s))
    → twice_in_body parameters (map (rights (Alike IsOnce) s) ps) ++ found_in [] joined (map (rights (Alike IsOnce) s) ps) ≡ []
    → twice_in_body (map unplaced parameters) (map (lefts (Alike IsOnce) s) ps) ++ found_in [] joined (map (lefts (Alike IsOnce) s) ps) ≡ []
in_body {s = s} parameters ps =
    joined_empty (twice_in_body parameters (map (rights (Alike IsOnce) s) ps)) (found_in [] joined (map (rights (Alike IsOnce) s) ps))
    (twice_in_body (map unplaced parameters) (map (lefts (Alike IsOnce) s) ps)) (found_in [] joined (map (lefts (Alike IsOnce) s) ps))
    (λ e. ap repeated (scope_away parameters ps) ∙ repeated_away (declarations kind.Parameter parameters ++ declared_in (map (rights (Alike IsOnce) s) ps)) e) (in_row ps)

in_catch : (name : Mark) (handler : Pair sort.Stmt) → twice_in_catch name handler.right ≡ [] → twice_in_catch (unplaced name) handler.left ≡ []
in_catch name handler e =
    ap (λ d. repeated (declaration kind.Catch (unplaced name) ∷ d.inside)) handler.holds.declared ∙ repeated_away (declaration kind.Catch name ∷ handler.right.declared.inside) e

in_kind : (x : StmtKindLayer Pair)
    → twice_in_kind [] joined (λ bs. bs) (map_stmt_kind (rights (Alike IsOnce)) x) ≡ []
    → twice_in_kind [] joined (λ bs. bs) (new_stmt_kind (Every (Part (List Broken))) (map_stmt_kind (lefts (Alike IsOnce)) x)) ≡ []
in_kind (StmtKind-F.Block items) = in_body [] items
in_kind (StmtKind-F.Try body name handler) =
    joined_empty body.right.found (twice_in_catch name handler.right ++ handler.right.found) body.left.found (twice_in_catch (unplaced name) handler.left ++ handler.left.found) body.holds.found
    (joined_empty (twice_in_catch name handler.right) handler.right.found (twice_in_catch (unplaced name) handler.left) handler.left.found (in_catch name handler) handler.holds.found)
in_kind x = (met.stmt_kind x).found

same_kind : (x : StmtKindLayer Pair)
    → declared_by_kind of_left (map_stmt_kind (lefts (Alike IsOnce)) x) ≡ unplaced_declared (declared_by_kind (λ q. q.declared) (map_stmt_kind (rights (Alike IsOnce)) x))
same_kind x = kind_same (Alike IsOnce) of_left of_right same_declared x ∙ kind_away (λ q. q.declared) (map_stmt_kind (rights (Alike IsOnce)) x)

declared_by_new : (x : StmtKindLayer (Every (Part (List Broken)))) → declared_by_kind of_left (new_stmt_kind (Every (Part (List Broken))) x) ≡ declared_by_kind of_left x
declared_by_new (StmtKind-F.Try body name handler) = refl
declared_by_new _ = refl

own_away : (name : Option Mark) → giving (own_name (option_map unplaced name)) ≡ unplaced_declared (giving (own_name name))
own_away None = refl
own_away (Some m) = refl

module _ (values : List Data) where
  in_hole : (at : ℕ) (d : Option Data) → ((gathering_found [] joined).expr_kind (chosen (Every (Part (List Broken))) at d)).found ≡ []
  in_hole at None = refl
  in_hole at (Some d) = refl

  in_expr_kind : (x : ExprKindLayer Pair)
      → ((gathering_found [] joined).expr_kind (map_expr_kind (rights (Alike IsOnce)) x)).found ≡ []
      → ((gathering_found [] joined).expr_kind (new_expr_kind (Every (Part (List Broken))) values (map_expr_kind (lefts (Alike IsOnce)) x))).found ≡ []
  in_expr_kind (ExprKind-F.ExprKind::Dollar at) = λ e. in_hole at (slice_get values at)
  in_expr_kind x = (met.expr_kind x).found

  preserved : Preserved (substituting (Every (Part (List Broken))) values listing_twice) listing_twice (Alike IsOnce)
  preserved = record {
    expr_kind = λ x. record { declared = refl; found = in_expr_kind x };
    for_start = λ x. record {
      declared = start_same (Alike IsOnce) of_left of_right same_declared x ∙ start_away (λ q. q.declared) (map_for_start (rights (Alike IsOnce)) x);
      found = (met.for_start x).found;
    };
    markup_child = λ x. record { declared = refl; found = (met.markup_child x).found };
    markup_value = λ x. record { declared = refl; found = (met.markup_value x).found };
    stmt_kind = λ x. record { declared = declared_by_new (map_stmt_kind (lefts (Alike IsOnce)) x) ∙ same_kind x; found = in_kind x };
    decl = λ x. record { declared = refl; found = (met.decl x).found };
    expr = λ x. record { declared = refl; found = x.kind.holds.found };
    function = λ x. record { declared = own_away x.name; found = in_body x.parameters x.body };
    markup = λ x. record { declared = refl; found = (met.markup x).found };
    markup_attribute = λ x. record { declared = refl; found = x.value.holds.found };
    prop = λ x. record { declared = refl; found = x.value.holds.found };
    stmt = λ x. record { declared = x.kind.holds.declared; found = x.kind.holds.found };
  }

  once : (t : Stmt) → IsOnce (on_stmt listing_twice (subst_stmt values t)) (on_stmt listing_twice t)
  once t =
      subst (λ p. IsOnce p (on_stmt listing_twice t)) (sym (stmt_substituted values listing_twice t))
      (related_stmt (substituting (Every (Part (List Broken))) values listing_twice) listing_twice (Alike IsOnce) preserved t)

  row_once : (body : List Stmt) → twice_in_row body ≡ [] → twice_in_row (substitution.subst values body) ≡ []
  row_once [] e = refl
  row_once (t ∷ body) e =
      joined_empty (on_stmt listing_twice t).found (twice_in_row body) (on_stmt listing_twice (subst_stmt values t)).found (twice_in_row (substitution.subst values body)) (once t).found (row_once body) e

  here_away : (body : List Stmt) → declared_in (map (on_stmt listing_twice) (substitution.subst values body)) ≡ all_away (declared_in (map (on_stmt listing_twice) body))
  here_away [] = refl
  here_away (t ∷ body) =
      (λ i. ((once t).declared i).here ++ here_away body i) ∙ sym (map-append away (on_stmt listing_twice t).declared.here (declared_in (map (on_stmt listing_twice) body)))

  tilde_away : (body : List Stmt) → declared_in_tilde (substitution.subst values body) ≡ all_away (declared_in_tilde body)
  tilde_away body =
      same_here (counting [] joined (λ bs. bs)) (substitution.subst values body) ∙ here_away body ∙ ap all_away (sym (same_here (counting [] joined (λ bs. bs)) body))

  top_once : (ds : List Declaration) → twice_at_top ds ≡ [] → twice_at_top (all_away ds) ≡ []
  top_once ds = joined_empty (repeated ds) (builtins_in ds) (repeated (all_away ds)) (builtins_in (all_away ds)) (repeated_away ds) (builtins_away ds)

  pub names_once : (body : List Stmt) → twice_in_client body ≡ [] → twice_in_client (substitution.subst values body) ≡ []
  names_once body =
      joined_empty (twice_at_top (declared_in_tilde body)) (twice_in_row body) (twice_at_top (declared_in_tilde (substitution.subst values body))) (twice_in_row (substitution.subst values body))
      (λ e. ap twice_at_top (tilde_away body) ∙ top_once (declared_in_tilde body) e) (row_once body)
