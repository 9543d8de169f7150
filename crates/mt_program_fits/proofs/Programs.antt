-- An accepted program passes the test of what can be evaluated: its items, and the expressions of its tildes' dollars.
use Rattle.std.proofs.Common.{◌≡◌, ℕ, zero, suc, ◌+◌, ◌<◌, ◌≤◌, Bool, true, List, [], ◌∷◌, ◌++◌, map, length, Option, None, Some, refl, sym, ap, subst, ◌∙◌, arith}
use Rattle.std.specs.Prelude.{All, IsTrue, slice_get}
use Rattle.std.specs.List.{list_all, range_with_len}
use Rattle.std.proofs.Math.Nat.{le-max_left, le-max_right}
use Rattle.std.proofs.lemmas.Bool.{and_parts}
use Rattle.std.proofs.lemmas.List.Elements.{All-nil, All-cons, All-head, All-tail}
use Rattle.std.proofs.lemmas.List.FromFn.{length-range_with_len}
use Rattle.std.proofs.lemmas.Option.{slice_get_within}
use Rattle.mt_eval_fits.specs.Fitting.{Tested, fitting}
use Rattle.mt_program_fits.specs.Elements.{is_element}
use Rattle.mt_program_fits.proofs.Listed.{EachOf, Few, body_met, by_number, dollars_inside, expr_met, few_apart, few_behind, numbers_below}
use Rattle.mt_program_fits.proofs.Server.{expr_fits, stmt_fits}
use Rattle.mt_stage.specs.Accepted.{IsAccepted}
use Rattle.mt_stage.specs.Made.{ExprsAreMade, IsMadeProgram, IsMadeTilde, StmtsAreMade, making}
use Rattle.mt_stage.proofs.Tildes.{all_at, at_most_greatest}
use Rattle.mt_syntax.specs.Depth.{greatest}
use Rattle.mt_syntax.specs.Derivation.{IsDerivedTilde}
use Rattle.mt_syntax.specs.Fold.{on_expr, on_stmt}
use Rattle.mt_syntax.specs.Numbering.{in_order, listing_tildes, tildes_of}
use Rattle.mt_syntax.specs.Numbering as numbering
use Rattle.mt_syntax.specs.Shape.{is_shaped_expr, is_shaped_stmt}
use Rattle.mt_syntax.specs.Texts.{longest_in_tilde, measuring_texts}
use Rattle.mt_syntax.specs.Tiers.{by_tier, is_server_expr}
use Rattle.mt_syntax.specs.Whole.{on_dollar, on_tilde, on_tilde_number}
use Rattle.mt_syntax.specs.declared.program.Program.{Program}
use Rattle.mt_syntax.specs.declared.program.Tilde.{Tilde}
use Rattle.mt_syntax.specs.declared.tree.Expr.{Expr}
use Rattle.mt_syntax.specs.declared.tree.Stmt.{Stmt}
use Rattle.mt_tree.specs.Limits.{text_limit}

abbrev pub dollars_in : Option Tilde → List Expr
dollars_in None = []
dollars_in (Some t) = t.dollars

-- what is known of the expressions of a tilde's dollars
pub record Dollars (es : List Expr) : Type 0 where
  pub shaped : list_all is_shaped_expr es ≡ true
  pub server : list_all is_server_expr es ≡ true
  pub texts : greatest (map (on_expr measuring_texts) es) ≤ text_limit
  pub made : ExprsAreMade es

dollars_behind : (e : Expr) (es : List Expr) → Dollars (e ∷ es) → Dollars es
dollars_behind e es d = record {
  shaped = (and_parts (is_shaped_expr e) (list_all is_shaped_expr es) d.shaped).1;
  server = (and_parts (is_server_expr e) (list_all is_server_expr es) d.server).1;
  texts = omega (arith, d.texts, le-max_right (on_expr measuring_texts e) (greatest (map (on_expr measuring_texts) es)));
  made = All-tail (λ e. IsTrue (on_expr making e).fits) e es d.made;
}

module _ (allowed : List ℕ → List (List ℕ) → ℕ → Bool) (tilde : ℕ → Bool) (fit : (tag : List ℕ) (names : List (List ℕ)) (n : ℕ) → is_element tag names n ≡ true → allowed tag names n ≡ true) (tildes : List Tilde)
    (there : (id : ℕ) → id < length tildes → tilde id ≡ true) (derived : (id : ℕ) (t : Tilde) → slice_get tildes id ≡ Some t → IsDerivedTilde t) (known : (id : ℕ) (t : Tilde) → slice_get tildes id ≡ Some t → Dollars t.dollars) where
  abbrev ids_of : ℕ → ℕ → List ℕ
  ids_of = on_tilde_number listing_tildes [] in_order (λ id ids. id ∷ ids) tildes

  abbrev ids_in_dollar : ℕ → Option Expr → List ℕ
  ids_in_dollar n = on_dollar listing_tildes [] in_order (λ id ids. id ∷ ids) (ids_of n)

  abbrev ids_in_tilde : ℕ → Option Tilde → List ℕ
  ids_in_tilde n = on_tilde listing_tildes [] in_order (λ id ids. id ∷ ids) (ids_of n)

  abbrev I : ℕ → List ℕ → Type 0
  I = Few (length tildes)

  abbrev ExprFits : Expr → Type 0
  ExprFits e = IsTrue (on_expr (fitting allowed tilde) e).fits

  abbrev StmtFits : Stmt → Type 0
  StmtFits t = IsTrue (on_stmt (fitting allowed tilde) t).fits

  met : (n id : ℕ) → I n (ids_of n id) → tilde id ≡ true
  met zero id i = absurd (omega (arith, i.few))
  met (suc n) id i = there id i.inside.0

  dollar_fits : (n : ℕ) (e : Expr) (es : List Expr) → Dollars (e ∷ es) → I n (ids_in_dollar n (Some e)) → ExprFits e
  dollar_fits n e es d i =
      expr_fits (I n) (few_apart (length tildes) n) (ids_of n) (λ at. []) allowed tilde (met n) fit e
      (and_parts (is_shaped_expr e) (list_all is_shaped_expr es) d.shaped).0
      (omega (arith, d.texts, le-max_left (on_expr measuring_texts e) (greatest (map (on_expr measuring_texts) es))))
      (All-head (λ e. IsTrue (on_expr making e).fits) e es d.made) i (and_parts (is_server_expr e) (list_all is_server_expr es) d.server).0

  dollars_fit : (n : ℕ) (es : List Expr) → Dollars es → ((i : ℕ) (e : Expr) → slice_get es i ≡ Some e → I n (ids_in_dollar n (Some e))) → All ExprFits es
  dollars_fit n [] d at = All-nil ExprFits
  dollars_fit n (e ∷ es) d at = All-cons ExprFits e es (dollar_fits n e es d (at 0 e refl)) (dollars_fit n es (dollars_behind e es d) (λ i. at (suc i)))

  -- the dollars of a tilde that is met
  abbrev Q : ℕ → Type 0
  Q id = All ExprFits (dollars_in (slice_get tildes id))

  of_tilde : (n id : ℕ) (o : Option Tilde) → slice_get tildes id ≡ o → I (suc n) (id ∷ ids_in_tilde n o) → All ExprFits (dollars_in o)
  of_tilde n id None is i = All-nil ExprFits
  of_tilde n id (Some t) is i =
      let behind = few_behind (length tildes) n id (ids_in_tilde n (Some t)) i in
      let ids_at = λ (at : ℕ). ids_in_dollar n (slice_get t.dollars at) in
      let inside = dollars_inside (I n) (few_apart (length tildes) n) (ids_of n) ids_at t.body behind in
      dollars_fit n t.dollars (known id t is) (λ at e here.
      subst (λ (o : Option Expr). I n (ids_in_dollar n o)) here
      (by_number (λ at. I n (ids_at at)) (numbering.dollars_of t.body) (length t.dollars) at (derived id t is).numbers inside (slice_get_within t.dollars at e here)))

  module _ (n : ℕ) (inner : (id : ℕ) → I n (ids_of n id) → EachOf Q (ids_of n id)) where
    in_dollar : (o : Option Expr) → I n (ids_in_dollar n o) → EachOf Q (ids_in_dollar n o)
    in_dollar None i = tt
    in_dollar (Some e) i = expr_met (I n) (few_apart (length tildes) n) (ids_of n) (λ at. []) Q inner (λ at i. tt) e i

    in_tilde : (o : Option Tilde) → I n (ids_in_tilde n o) → EachOf Q (ids_in_tilde n o)
    in_tilde None i = tt
    in_tilde (Some t) i = body_met (I n) (few_apart (length tildes) n) (ids_of n) (λ at. ids_in_dollar n (slice_get t.dollars at)) Q inner (λ at. in_dollar (slice_get t.dollars at)) t.body i

  numbers_met : (n id : ℕ) → I n (ids_of n id) → EachOf Q (ids_of n id)
  numbers_met zero id i = tt
  numbers_met (suc n) id i =
      (of_tilde n id (slice_get tildes id) refl i, in_tilde n (numbers_met n) (slice_get tildes id) (few_behind (length tildes) n id (ids_in_tilde n (slice_get tildes id)) i))

  module _ (items : List Stmt) (numbers : in_order (map (on_stmt (listing_tildes (ids_of (suc (length tildes))) (λ at. []))) items) ≡ range_with_len 0 (length tildes)) where
    abbrev top : ℕ
    top = suc (length tildes)

    abbrev listing : Stmt → List ℕ
    listing = on_stmt (listing_tildes (ids_of top) (λ at. []))

    all_few : I top (in_order (map listing items))
    all_few = subst (I top) (sym numbers) (record { inside = numbers_below (length tildes); few = omega (arith, length-range_with_len 0 (length tildes)) })

    pub tildes_fit : (id : ℕ) → id < length tildes → All ExprFits (dollars_in (slice_get tildes id))
    tildes_fit id h = by_number Q (in_order (map listing items)) (length tildes) id numbers (body_met (I top) (few_apart (length tildes) top) (ids_of top) (λ at. []) Q (numbers_met top) (λ at i. tt) items all_few) h

    stmts_fit : (ts : List Stmt) → list_all is_shaped_stmt ts ≡ true → list_all (λ s. (on_stmt by_tier s).server) ts ≡ true → greatest (map (on_stmt measuring_texts) ts) ≤ text_limit → StmtsAreMade ts
        → I top (in_order (map listing ts)) → All StmtFits ts
    stmts_fit [] shaped server texts m i = All-nil StmtFits
    stmts_fit (t ∷ ts) shaped server texts m i =
        let shapes = and_parts (is_shaped_stmt t) (list_all is_shaped_stmt ts) shaped in
        let placed = and_parts (on_stmt by_tier t).server (list_all (λ s. (on_stmt by_tier s).server) ts) server in
        let parts = few_apart (length tildes) top (listing t) (in_order (map listing ts)) i in
        let first = on_stmt measuring_texts t in
        let rest = greatest (map (on_stmt measuring_texts) ts) in
        All-cons StmtFits t ts
        (stmt_fits (I top) (few_apart (length tildes) top) (ids_of top) (λ at. []) allowed tilde (met top) fit t shapes.0 (omega (arith, texts, le-max_left first rest)) (All-head (λ t. IsTrue (on_stmt making t).fits) t ts m) parts.0 placed.0)
        (stmts_fit ts shapes.1 placed.1 (omega (arith, texts, le-max_right first rest)) (All-tail (λ t. IsTrue (on_stmt making t).fits) t ts m) parts.1)

    pub items_fit : list_all is_shaped_stmt items ≡ true → list_all (λ s. (on_stmt by_tier s).server) items ≡ true → greatest (map (on_stmt measuring_texts) items) ≤ text_limit → StmtsAreMade items → All StmtFits items
    items_fit shaped server texts m = stmts_fit items shaped server texts m all_few

module _ (allowed : List ℕ → List (List ℕ) → ℕ → Bool) (tilde : ℕ → Bool) (fit : (tag : List ℕ) (names : List (List ℕ)) (n : ℕ) → is_element tag names n ≡ true → allowed tag names n ≡ true) (p : Program) (accepted : IsAccepted p) (are_made : IsMadeProgram p)
    (there : (id : ℕ) → id < length p.tildes → tilde id ≡ true) where
  derived_at : (id : ℕ) (t : Tilde) → slice_get p.tildes id ≡ Some t → IsDerivedTilde t
  derived_at id t is = all_at IsDerivedTilde p.tildes id t accepted.within.derived.tildes is

  known_at : (id : ℕ) (t : Tilde) → slice_get p.tildes id ≡ Some t → Dollars t.dollars
  known_at id t is = record {
    shaped = (derived_at id t is).dollars;
    server = (derived_at id t is).server;
    texts = omega (
      arith,
      accepted.within.texts,
      at_most_greatest longest_in_tilde p.tildes id t is,
      le-max_right (greatest (map (on_stmt measuring_texts) t.body)) (greatest (map (on_expr measuring_texts) t.dollars)),
      le-max_right (greatest (map (on_stmt measuring_texts) p.items)) (greatest (map longest_in_tilde p.tildes)),
    );
    made = (all_at IsMadeTilde p.tildes id t are_made.tildes is).dollars;
  }

  pub program_items : All (λ t. IsTrue (on_stmt (fitting allowed tilde) t).fits) p.items
  program_items =
      items_fit allowed tilde fit p.tildes there derived_at known_at p.items accepted.within.derived.numbers accepted.within.derived.items accepted.within.derived.server
      (omega (arith, accepted.within.texts, le-max_left (greatest (map (on_stmt measuring_texts) p.items)) (greatest (map longest_in_tilde p.tildes)))) are_made.items

  abbrev pub DollarsFit : Tilde → Type 0
  DollarsFit t = All (λ e. IsTrue (on_expr (fitting allowed tilde) e).fits) t.dollars

  dollars_at : (id : ℕ) (t : Tilde) → slice_get p.tildes id ≡ Some t → DollarsFit t
  dollars_at id t is =
      subst (λ (o : Option Tilde). All (λ e. IsTrue (on_expr (fitting allowed tilde) e).fits) (dollars_in o)) is
      (tildes_fit allowed tilde fit p.tildes there derived_at known_at p.items accepted.within.derived.numbers id (slice_get_within p.tildes id t is))

  each_tilde : (ts : List Tilde) → ((id : ℕ) (t : Tilde) → slice_get ts id ≡ Some t → DollarsFit t) → All DollarsFit ts
  each_tilde [] at = All-nil DollarsFit
  each_tilde (t ∷ ts) at = All-cons DollarsFit t ts (at 0 t refl) (each_tilde ts (λ id. at (suc id)))

  pub program_dollars : All DollarsFit p.tildes
  program_dollars = each_tilde p.tildes dollars_at
