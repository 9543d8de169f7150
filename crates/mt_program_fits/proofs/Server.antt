-- Server code passes the test of what can be evaluated, where its trees have the form of the grammar, their texts are short, their
-- elements are made of the tables, and their tildes are met.
use Rattle.std.proofs.Common.{◌≡◌, ℕ, suc, ◌≤◌, ◌^◌, max, ℤ, pos, negsuc, Bool, true, false, not, ◌&&◌, List, [], ◌∷◌, ◌++◌, length, map, Option, None, Some, refl, sym, ap, ◌∙◌, subst, arith}
use Rattle.std.specs.List.{list_all}
use Rattle.std.specs.Str.{encode_utf8_all}
use Rattle.std.proofs.Math.Nat.{le-max_left, le-max_right}
use Rattle.std.proofs.lemmas.Bool.{and_from, and_parts, le-leb}
use Rattle.mt_eval_fits.specs.Fitting.{Tested, both, each, fitting, tested, tested_child, tested_expr_kind, tested_value, testing}
use Rattle.mt_program_fits.specs.Elements.{is_element, is_some_number}
use Rattle.mt_program_fits.proofs.Products.{Pair, expr_one, expr_other, ones, others, pair, stmt_one, stmt_other}
use Rattle.mt_stage.specs.Made.{Made, are_new, made, making}
use Rattle.mt_stage.specs.Made as made_of
use Rattle.mt_syntax.specs.Depth.{greatest}
use Rattle.mt_syntax.specs.Fold.{Every, DeclLayer, ExprKindLayer, ForStartLayer, FunctionLayer, MarkupAttributeLayer, MarkupChildLayer, MarkupLayer, MarkupValueLayer, PropLayer, Steps, StmtKindLayer, on_expr, on_stmt}
use Rattle.mt_syntax.specs.Gathering.{all_of, or_none}
use Rattle.mt_syntax.specs.Numbering.{in_order, listing_tildes}
use Rattle.mt_syntax.specs.Shape.{Part, all_fit, block_fits, decls_fit, is_assignment, is_named, is_number, is_shaped_expr, is_shaped_stmt, is_some_item, is_statement, is_target, is_valued, mark_fits, opens_none, optional_block_fits, optional_fits, shaping, target_fits, texts_apart}
use Rattle.mt_syntax.specs.Sort.{Sort}
use Rattle.mt_syntax.specs.Sort as sort
use Rattle.mt_syntax.specs.Texts.{length_of_name, measuring_texts}
use Rattle.mt_syntax.specs.Tiers.{Tiers, by_tier, is_server_expr, tiers}
use Rattle.mt_syntax.specs.Tiers as tier
use Rattle.mt_syntax.specs.declared.tree.Expr.{Expr}
use Rattle.mt_syntax.specs.declared.tree.Stmt.{Stmt}
use Rattle.mt_syntax.specs.declared.tree.ExprKind.TheOpen.{ExprKind-F, ForStart-F, MarkupChild-F, MarkupValue-F, StmtKind-F}
use Rattle.mt_syntax.specs.declared.tree.Mark.{Mark}
use Rattle.mt_syntax_laws.proofs.Layers.{map_decl, map_expr_kind, map_for_start, map_function, map_markup, map_markup_attribute, map_markup_child, map_markup_value, map_prop, map_stmt_kind}
use Rattle.mt_syntax_laws.proofs.Related.{Preserved, Two, lefts, related_expr, related_stmt, rights}
use Rattle.mt_tree.specs.Limits.{text_limit}
use Rattle.mt_tree.specs.Tables.{is_among, is_attribute, is_tag, is_void_tag}
use Rattle.mt_tree.specs.Text.{units_of}
use Rattle.mt_tree.specs.declared.operators.VarKind.{VarKind}
use Rattle.mt_tree.specs.declared.operators.VarKind.TheVariants as word
use Rattle.mt_syntax.specs.Data.{is_in_range}
use Rattle.mt_value.specs.Limits.{text_fits}

pub never : {A : Type 0} → false ≡ true → A
never e = absurd (cc)

pub short : (cs : List ℕ) → units_of cs ≤ text_limit → text_fits cs ≡ true
short cs h = le-leb (units_of cs) (2 ^ 20) (omega (arith, h))

pub in_source : (n : ℤ) → is_number n ≡ true → is_in_range n ≡ true
in_source (pos n) h = h
in_source (negsuc n) h = never h

-- ---- what is known of a part beside its form

abbrev pub Beside : Type 0
Beside = Pair ℕ (Pair Made (Pair (List ℕ) Tiers))

abbrev pub Known : Type 0
Known = Pair Part Beside

abbrev pub text : Beside → ℕ
text b = b.one

abbrev pub element : Beside → Made
element b = b.other.one

abbrev pub ids : Beside → List ℕ
ids b = b.other.other.one

abbrev pub placed : Beside → Tiers
placed b = b.other.other.other

abbrev pub beside : ℕ → Made → List ℕ → Tiers → Beside
beside n m is t = record { one = n; other = record { one = m; other = record { one = is; other = t } } }

abbrev pub join : Beside → Beside → Beside
join a b = beside (max (text a) (text b)) (made_of.both (element a) (element b)) (ids a ++ ids b) (tier.both (placed a) (placed b))

abbrev pub row : List Known → Beside
row js =
    let bs = map (others sort.Expr) js in
    beside (greatest (map (ones sort.Expr) bs)) (made_of.each (map (ones sort.Expr) (map (others sort.Expr) bs)))
    (in_order (map (ones sort.Expr) (map (others sort.Expr) (map (others sort.Expr) bs))))
    (all_of (tiers true true) tier.both (map (others sort.Expr) (map (others sort.Expr) (map (others sort.Expr) bs))))

module _ (I : List ℕ → Type 0) (split : (xs ys : List ℕ) → I (xs ++ ys) → I xs × I ys) where
  pub record Holds (b : Beside) : Type 0 where
    pub short : text b ≤ text_limit
    pub made : (element b).fits ≡ true
    pub listed : I (ids b)
    pub server : (placed b).server ≡ true

  apart : (a b : Beside) → Holds (join a b) → Holds a × Holds b
  apart a b h =
      let m = and_parts (element a).fits (element b).fits h.made in
      let s = and_parts (placed a).server (placed b).server h.server in
      let l = split (ids a) (ids b) h.listed in (
        record { short = omega (arith, h.short, le-max_left (text a) (text b)); made = m.0; listed = l.0; server = s.0 },
        record { short = omega (arith, h.short, le-max_right (text a) (text b)); made = m.1; listed = l.1; server = s.1 },
      )

  -- a name of that length stands before it
  behind : (n : ℕ) (b : Beside) → Holds (record b { one = max n (text b) }) → Holds b
  behind n b h = record { short = omega (arith, h.short, le-max_right n (text b)); made = h.made; listed = h.listed; server = h.server }

  name_short : (cs : List ℕ) (n : ℕ) → max (units_of cs) n ≤ text_limit → text_fits cs ≡ true
  name_short cs n h = short cs (omega (arith, h, le-max_left (units_of cs) n))

  abbrev pub Good : Known → Tested → Type 0
  Good j f = j.one.fits ≡ true → Holds j.other → f.fits ≡ true

  abbrev pub Aimed : Known → Tested → Type 0
  Aimed j f = is_target j.one.look ≡ true → f.target ≡ true

  abbrev pub GoodAttribute : Known → Tested → Type 0
  GoodAttribute j f = ((element j.other).name ≡ f.name) × Good j f × ((element j.other).fits ≡ true → is_attribute (encode_utf8_all f.name) ≡ true)

  abbrev pub R : (s : Sort) → Every Known s → Every Tested s → Type 0
  R sort.Expr j f = Good j f × Aimed j f
  R sort.ExprKind j f = Good j f × Aimed j f
  R sort.MarkupAttribute j f = GoodAttribute j f
  R _ j f = Good j f

  abbrev P : Sort → Type 0
  P = Two {A = Every Known} {B = Every Tested} R

  abbrev shapes : {s : Sort} → List (P s) → List Part
  shapes {s} ps = map (ones s) (map (lefts R s) ps)

  in_row : {s : Sort} → ((p : P s) → Good p.left p.right) → (ps : List (P s)) → all_fit (shapes ps) ≡ true → Holds (row (map (lefts R s) ps)) → (each (map (rights R s) ps)).fits ≡ true
  in_row good [] e h = refl
  in_row {s = s} good (p ∷ ps) e h =
      let es = and_parts p.left.one.fits (all_fit (shapes ps)) e in
      let hs = apart p.left.other (row (map (lefts R s) ps)) h in
      and_from p.right.fits (each (map (rights R s) ps)).fits (good p es.0 hs.0) (in_row good ps es.1 hs.1)

  exprs_in : (ps : List (P sort.Expr)) → all_fit (shapes ps) ≡ true → Holds (row (map (lefts R sort.Expr) ps)) → (each (map (rights R sort.Expr) ps)).fits ≡ true
  exprs_in = in_row (λ p. p.holds.0)

  two : (a b : P sort.Expr) → (a.left.one.fits && b.left.one.fits) ≡ true → Holds (join a.left.other b.left.other) → (a.right.fits && b.right.fits) ≡ true
  two a b e h =
      let es = and_parts a.left.one.fits b.left.one.fits e in
      let hs = apart a.left.other b.left.other h in
      and_from a.right.fits b.right.fits (a.holds.0 es.0 hs.0) (b.holds.0 es.1 hs.1)

  module _ (ids_in ids_at : ℕ → List ℕ) (allowed : List ℕ → List (List ℕ) → ℕ → Bool) (tilde : ℕ → Bool) (met : (id : ℕ) → I (ids_in id) → tilde id ≡ true)
      (fit : (tag : List ℕ) (names : List (List ℕ)) (n : ℕ) → is_element tag names n ≡ true → allowed tag names n ≡ true) where
    abbrev pub known : Steps (Every Known)
    known = pair shaping (pair measuring_texts (pair making (pair (listing_tildes ids_in ids_at) by_tier)))

    abbrev pub test : Steps (Every Tested)
    test = fitting allowed tilde

    in_kind : (x : ExprKindLayer P) → R sort.ExprKind (known.expr_kind (map_expr_kind (lefts R) x)) (test.expr_kind (map_expr_kind (rights R) x))
    in_kind (ExprKind-F.Name cs) = (λ e h. short cs h.short, λ t. refl)
    in_kind (ExprKind-F.Num n) = (λ e h. in_source n e, never)
    in_kind (ExprKind-F.ExprKind::Text cs) = (λ e h. short cs h.short, never)
    in_kind (ExprKind-F.Bool b) = (λ e h. refl, never)
    in_kind ExprKind-F.Null = (λ e h. refl, never)
    in_kind ExprKind-F.Undefined = (λ e h. refl, never)
    in_kind (ExprKind-F.Arr items) = (exprs_in items, never)
    in_kind (ExprKind-F.Obj props) = (in_row (λ p. p.holds) props, never)
    in_kind (ExprKind-F.Fun f) = (λ e h. f.holds e h, never)
    in_kind (ExprKind-F.Unary op a) = (λ e h. a.holds.0 e h, never)
    in_kind (ExprKind-F.Step op a) = (
      λ e h.
          let es = and_parts (is_target a.left.one.look) a.left.one.fits e in
          and_from a.right.target a.right.fits (a.holds.1 es.0) (a.holds.0 es.1 h),
      never,
    )
    in_kind (ExprKind-F.Binary op a b) = (two a b, never)
    in_kind (ExprKind-F.And a b) = (two a b, never)
    in_kind (ExprKind-F.Or a b) = (two a b, never)
    in_kind (ExprKind-F.Cond a b c) = (
      λ e h.
          let es = and_parts (a.left.one.fits && b.left.one.fits) c.left.one.fits e in
          let ab = and_parts a.left.one.fits b.left.one.fits es.0 in
          let hs = apart a.left.other (join b.left.other c.left.other) h in
          and_from a.right.fits (b.right.fits && c.right.fits) (a.holds.0 ab.0 hs.0) (two b c (and_from b.left.one.fits c.left.one.fits ab.1 es.1) hs.1),
      never,
    )
    in_kind (ExprKind-F.Assign op a b) = (
      λ e h.
          let es = and_parts (is_assignment op && target_fits a.left.one) b.left.one.fits e in
          let aim = and_parts (is_assignment op) (target_fits a.left.one) es.0 in
          let target = and_parts (is_target a.left.one.look) a.left.one.fits aim.1 in
          and_from a.right.target (a.right.fits && b.right.fits) (a.holds.1 target.0) (two a b (and_from a.left.one.fits b.left.one.fits target.1 es.1) h),
      never,
    )
    in_kind (ExprKind-F.Index a b) = (two a b, λ t. refl)
    in_kind (ExprKind-F.Call a arguments) = (
      λ e h.
          let es = and_parts a.left.one.fits (all_fit (shapes arguments)) e in
          let hs = apart a.left.other (row (map (lefts R sort.Expr) arguments)) h in
          and_from a.right.fits (each (map (rights R sort.Expr) arguments)).fits (a.holds.0 es.0 hs.0) (exprs_in arguments es.1 hs.1),
      never,
    )
    in_kind (ExprKind-F.ExprKind::Tilde id) = (λ e h. met id h.listed, never)
    in_kind (ExprKind-F.ExprKind::Dollar at) = (λ e h. refl, never)
    in_kind (ExprKind-F.Stray a) = (λ e h. never h.made, never)
    in_kind (ExprKind-F.Markup m) = (λ e h. m.holds e h, never)
    in_kind (ExprKind-F.Val d) = (λ e h. never h.server, never)

    -- ---- statements

    decls_all : (kind : VarKind) (ps : List Part) → decls_fit kind ps ≡ true → all_fit ps ≡ true
    decls_all word.Const ps e = valued ps (and_parts (is_some_item ps) (list_all (λ d. is_valued d.look && d.fits) ps) e).1
      where
        valued : (ps : List Part) → list_all (λ d. is_valued d.look && d.fits) ps ≡ true → all_fit ps ≡ true
        valued [] e = refl
        valued (p ∷ ps) e =
            let es = and_parts (is_valued p.look && p.fits) (list_all (λ d. is_valued d.look && d.fits) ps) e in
            and_from p.fits (all_fit ps) (and_parts (is_valued p.look) p.fits es.0).1 (valued ps es.1)
    decls_all word.Var ps e = (and_parts (is_some_item ps) (all_fit ps) e).1
    decls_all word.Let ps e = (and_parts (is_some_item ps) (all_fit ps) e).1

    statements_all : (ps : List Part) → list_all (λ s. is_statement s.look && s.fits) ps ≡ true → all_fit ps ≡ true
    statements_all [] e = refl
    statements_all (p ∷ ps) e =
        let es = and_parts (is_statement p.look && p.fits) (list_all (λ s. is_statement s.look && s.fits) ps) e in
        and_from p.fits (all_fit ps) (and_parts (is_statement p.look) p.fits es.0).1 (statements_all ps es.1)

    decls_in : (ps : List (P sort.Decl)) → all_fit (shapes ps) ≡ true → Holds (row (map (lefts R sort.Decl) ps)) → (each (map (rights R sort.Decl) ps)).fits ≡ true
    decls_in = in_row (λ p. p.holds)

    stmts_in : (ps : List (P sort.Stmt)) → all_fit (shapes ps) ≡ true → Holds (row (map (lefts R sort.Stmt) ps)) → (each (map (rights R sort.Stmt) ps)).fits ≡ true
    stmts_in = in_row (λ p. p.holds)

    in_start : (x : ForStartLayer P) → Good (known.for_start (map_for_start (lefts R) x)) (test.for_start (map_for_start (rights R) x))
    in_start ForStart-F.Absent = λ e h. refl
    in_start (ForStart-F.ForStart::Var decls) = λ e h. decls_in decls (decls_all word.Var (shapes decls) e) h
    in_start (ForStart-F.ForStart::Expr a) = a.holds.0

    abbrev none : Beside
    none = beside 0 (made true) [] (tiers true true)

    abbrev beside_or_none : Option (P sort.Expr) → Beside
    beside_or_none None = none
    beside_or_none (Some a) = a.left.other

    abbrev optional : Option (P sort.Expr) → Bool
    optional None = true
    optional (Some a) = a.left.one.fits

    abbrev tested_or_none : Option (P sort.Expr) → Tested
    tested_or_none None = tested true
    tested_or_none (Some a) = a.right

    option_in : (o : Option (P sort.Expr)) → optional o ≡ true → Holds (beside_or_none o) → (tested_or_none o).fits ≡ true
    option_in None e h = refl
    option_in (Some a) e h = a.holds.0 e h

    -- a test or a statement, and a block behind it
    with_block : (fits : Bool) (a : Beside) (f : Tested) (body : P sort.Stmt) → (fits ≡ true → Holds a → f.fits ≡ true) → (fits && block_fits body.left.one) ≡ true → Holds (join a body.left.other) → (f.fits && body.right.fits) ≡ true
    with_block fits a f body good e h =
        let es = and_parts fits (block_fits body.left.one) e in
        let hs = apart a body.left.other h in
        and_from f.fits body.right.fits (good es.0 hs.0) (body.holds (and_parts _ body.left.one.fits es.1).1 hs.1)

    in_for : (start : P sort.ForStart) (x y : Option (P sort.Expr)) (body : P sort.Stmt)
        → (start.left.one.fits && optional x && optional y && block_fits body.left.one) ≡ true
        → Holds (join start.left.other (join (beside_or_none x) (join (beside_or_none y) body.left.other)))
        → (start.right.fits && ((tested_or_none x).fits && ((tested_or_none y).fits && body.right.fits))) ≡ true
    in_for start x y body e h =
        let three = and_parts (start.left.one.fits && optional x && optional y) (block_fits body.left.one) e in
        let parts = and_parts (start.left.one.fits && optional x) (optional y) three.0 in
        let first = and_parts start.left.one.fits (optional x) parts.0 in
        let hs = apart start.left.other (join (beside_or_none x) (join (beside_or_none y) body.left.other)) h in
        let hx = apart (beside_or_none x) (join (beside_or_none y) body.left.other) hs.1 in
        and_from start.right.fits ((tested_or_none x).fits && ((tested_or_none y).fits && body.right.fits)) (start.holds first.0 hs.0)
        (and_from (tested_or_none x).fits ((tested_or_none y).fits && body.right.fits) (option_in x first.1 hx.0)
        (with_block (optional y) (beside_or_none y) (tested_or_none y) body (option_in y) (and_from (optional y) (block_fits body.left.one) parts.1 three.1) hx.1))

    in_if : (a : P sort.Expr) (body : P sort.Stmt) (fits : Bool) (b : Beside) (f : Tested) → (fits ≡ true → Holds b → f.fits ≡ true)
        → (a.left.one.fits && block_fits body.left.one && fits) ≡ true → Holds (join a.left.other (join body.left.other b)) → (a.right.fits && (body.right.fits && f.fits)) ≡ true
    in_if a body fits b f good e h =
        let es = and_parts (a.left.one.fits && block_fits body.left.one) fits e in
        let ab = and_parts a.left.one.fits (block_fits body.left.one) es.0 in
        let hs = apart a.left.other (join body.left.other b) h in
        let inner = apart body.left.other b hs.1 in
        and_from a.right.fits (body.right.fits && f.fits) (a.holds.0 ab.0 hs.0) (and_from body.right.fits f.fits (body.holds (and_parts _ body.left.one.fits ab.1).1 inner.0) (good es.1 inner.1))

    in_stmt_kind : (x : StmtKindLayer P) → Good (known.stmt_kind (map_stmt_kind (lefts R) x)) (test.stmt_kind (map_stmt_kind (rights R) x))
    in_stmt_kind (StmtKind-F.StmtKind::Expr a) = a.holds.0
    in_stmt_kind (StmtKind-F.StmtKind::Var kind decls) = λ e h. decls_in decls (decls_all kind (shapes decls) e) h
    in_stmt_kind (StmtKind-F.Function f) = λ e h. f.holds (and_parts (is_named f.left.one.look) f.left.one.fits e).1 h
    in_stmt_kind (StmtKind-F.Service f) = λ e h. f.holds (and_parts (is_named f.left.one.look) f.left.one.fits e).1 h
    in_stmt_kind (StmtKind-F.If a body None) = in_if a body true none (tested true) (λ e h. refl)
    in_stmt_kind (StmtKind-F.If a body (Some other)) =
        in_if a body (block_fits other.left.one) other.left.other other.right (λ e h. other.holds (and_parts _ other.left.one.fits e).1 h)
    in_stmt_kind (StmtKind-F.While a body) = with_block a.left.one.fits a.left.other a.right body a.holds.0
    in_stmt_kind (StmtKind-F.For start None None body) = in_for start None None body
    in_stmt_kind (StmtKind-F.For start None (Some step) body) = in_for start None (Some step) body
    in_stmt_kind (StmtKind-F.For start (Some a) None body) = in_for start (Some a) None body
    in_stmt_kind (StmtKind-F.For start (Some a) (Some step) body) = in_for start (Some a) (Some step) body
    in_stmt_kind (StmtKind-F.Return None) = λ e h. refl
    in_stmt_kind (StmtKind-F.Return (Some a)) = a.holds.0
    in_stmt_kind StmtKind-F.Break = λ e h. refl
    in_stmt_kind StmtKind-F.Continue = λ e h. refl
    in_stmt_kind (StmtKind-F.Throw a) = a.holds.0
    in_stmt_kind (StmtKind-F.Try body name handler) = λ e h.
        let es = and_parts (block_fits body.left.one && mark_fits name) (block_fits handler.left.one) e in
        let first = and_parts (block_fits body.left.one) (mark_fits name) es.0 in
        let hs = apart body.left.other handler.left.other (behind (length_of_name name) (join body.left.other handler.left.other) h) in
        and_from body.right.fits handler.right.fits (body.holds (and_parts _ body.left.one.fits first.0).1 hs.0) (handler.holds (and_parts _ handler.left.one.fits es.1).1 hs.1)
    in_stmt_kind (StmtKind-F.Block items) = λ e h. stmts_in items (statements_all (shapes items) e) h
    in_stmt_kind StmtKind-F.Empty = λ e h. refl

    in_decl : (x : DeclLayer P) → Good (known.decl (map_decl (lefts R) x)) (test.decl (map_decl (rights R) x))
    in_decl x = by x.name x.value
      where
        by : (name : Mark) (value : Option (P sort.Expr)) → Good (known.decl (map_decl (lefts R) (record { name = name; value = value }))) (test.decl (map_decl (rights R) (record { name = name; value = value })))
        by name None = λ e h. refl
        by name (Some a) = λ e h. a.holds.0 (and_parts (mark_fits name) a.left.one.fits e).1 (behind (length_of_name name) a.left.other h)

    in_function : (x : FunctionLayer P) → Good (known.function (map_function (lefts R) x)) (test.function (map_function (rights R) x))
    in_function x = λ e h.
        let parts = and_parts _ (all_fit (shapes x.body)) e in
        let body = row (map (lefts R sort.Stmt) x.body) in
        stmts_in x.body parts.1 (behind _ body (behind _ (record body { one = max (greatest (map length_of_name x.parameters)) (text body) }) h))

    -- ---- elements

    in_child : (x : MarkupChildLayer P) → Good (known.markup_child (map_markup_child (lefts R) x)) (test.markup_child (map_markup_child (rights R) x))
    in_child (MarkupChild-F.MarkupChild::Text cs) = λ e h. short cs h.short
    in_child (MarkupChild-F.Direct a) = λ e h. a.holds.0 (and_parts _ a.left.one.fits e).1 h
    in_child (MarkupChild-F.MarkupChild::Dollar a) = λ e h. a.holds.0 e (record { short = h.short; made = h.made; listed = h.listed; server = h.server })

    in_value : (x : MarkupValueLayer P) → Good (known.markup_value (map_markup_value (lefts R) x)) (test.markup_value (map_markup_value (rights R) x))
    in_value (MarkupValue-F.Quoted cs) = λ e h. short cs h.short
    in_value (MarkupValue-F.MarkupValue::Tilde a) = λ e h. a.holds.0 (and_parts _ a.left.one.fits e).1 h
    in_value (MarkupValue-F.MarkupValue::Dollar a) = λ e h. a.holds.0 e (record { short = h.short; made = h.made; listed = h.listed; server = h.server })

    in_attribute : (x : MarkupAttributeLayer P) → GoodAttribute (known.markup_attribute (map_markup_attribute (lefts R) x)) (test.markup_attribute (map_markup_attribute (rights R) x))
    in_attribute x =
        let known_name = is_attribute (encode_utf8_all x.name.name) in
        let fits = (element x.value.left.other).fits in (
          refl,
          (λ e h.
              let inner = behind (length_of_name x.name) (record x.value.left.other { other = record x.value.left.other.other { one = made fits } }) (record { short = h.short; made = (and_parts known_name fits h.made).1; listed = h.listed; server = h.server }) in
              x.value.holds (and_parts _ x.value.left.one.fits e).1 (record { short = inner.short; made = inner.made; listed = inner.listed; server = inner.server })),
          λ m. (and_parts known_name fits m).0,
        )

    attribute_names : (ps : List (P sort.MarkupAttribute)) → map (λ (m : Made). m.name) (map (ones sort.Expr) (map (others sort.Expr) (map (others sort.Expr) (map (lefts R sort.MarkupAttribute) ps)))) ≡ map (λ (t : Tested). t.name) (map (rights R sort.MarkupAttribute) ps)
    attribute_names [] = refl
    attribute_names (p ∷ ps) = λ i. p.holds.0 i ∷ attribute_names ps i

    attributes_known : (ps : List (P sort.MarkupAttribute)) → (made_of.each (map (ones sort.Expr) (map (others sort.Expr) (map (others sort.Expr) (map (lefts R sort.MarkupAttribute) ps))))).fits ≡ true
        → list_all is_attribute (map encode_utf8_all (map (λ (t : Tested). t.name) (map (rights R sort.MarkupAttribute) ps))) ≡ true
    attributes_known [] e = refl
    attributes_known (p ∷ ps) e =
        let es = and_parts (element p.left.other).fits (made_of.each (map (ones sort.Expr) (map (others sort.Expr) (map (others sort.Expr) (map (lefts R sort.MarkupAttribute) ps))))).fits e in
        and_from (is_attribute (encode_utf8_all p.right.name)) _ (p.holds.2 es.0) (attributes_known ps es.1)

    new_names : (names : List (List ℕ)) (ms : List Made) → are_new names (map (λ a. encode_utf8_all a.name) ms) ≡ are_new names (map encode_utf8_all (map (λ (m : Made). m.name) ms))
    new_names names [] = refl
    new_names names (m ∷ ms) = ap (λ b. not (is_among names (encode_utf8_all m.name)) && b) (new_names (names ++ encode_utf8_all m.name ∷ []) ms)

    some_children : (ps : List (P sort.MarkupChild)) → is_some_item (shapes ps) ≡ is_some_number (length (map (rights R sort.MarkupChild) ps))
    some_children [] = refl
    some_children (p ∷ ps) = refl

    in_markup : (x : MarkupLayer P) → Good (known.markup (map_markup (lefts R) x)) (test.markup (map_markup (rights R) x))
    in_markup x e h =
        let attributes = map (lefts R sort.MarkupAttribute) x.attributes in
        let children = map (lefts R sort.MarkupChild) x.children in
        let names = map (λ (t : Tested). t.name) (map (rights R sort.MarkupAttribute) x.attributes) in
        let count = length (map (rights R sort.MarkupChild) x.children) in
        let tag = encode_utf8_all x.tag in
        let made_names = map (λ a. encode_utf8_all a.name) (map (ones sort.Expr) (map (others sort.Expr) (map (others sort.Expr) attributes))) in
        -- the form
        let five = and_parts _ (not (is_void_tag tag && is_some_item (shapes x.children))) e in
        let four = and_parts _ (texts_apart (shapes x.children)) five.0 in
        let three = and_parts _ (all_fit (shapes x.children)) four.0 in
        let shaped = and_parts _ (all_fit (shapes x.attributes)) three.0 in
        -- what is made
        let one = and_parts (is_tag tag) ((element (row attributes)).fits && (are_new [] made_names && (element (row children)).fits)) h.made in
        let rest = and_parts (element (row attributes)).fits (are_new [] made_names && (element (row children)).fits) one.1 in
        let last = and_parts (are_new [] made_names) (element (row children)).fits rest.1 in
        let inner = behind (units_of x.tag) (join (row attributes) (row children)) (record { short = h.short; made = and_from (element (row attributes)).fits (element (row children)).fits rest.0 last.1; listed = h.listed; server = h.server }) in
        let parts = apart (row attributes) (row children) inner in
        let new : are_new [] (map encode_utf8_all names) ≡ true =
        ap (λ (ns : List (List ℕ)). are_new [] (map encode_utf8_all ns)) (sym (attribute_names x.attributes)) ∙ sym (new_names [] (map (ones sort.Expr) (map (others sort.Expr) (map (others sort.Expr) attributes)))) ∙ last.0 in
        let void : not (is_void_tag tag && is_some_number count) ≡ true = ap (λ b. not (is_void_tag tag && b)) (sym (some_children x.children)) ∙ five.1 in
        let fits = fit x.tag names count
        (and_from (is_tag tag) _ one.0 (and_from (list_all is_attribute (map encode_utf8_all names)) _ (attributes_known x.attributes rest.0) (and_from (are_new [] (map encode_utf8_all names)) _ new void))) in
        and_from (allowed x.tag names count) _ fits
        (and_from (each (map (rights R sort.MarkupAttribute) x.attributes)).fits (each (map (rights R sort.MarkupChild) x.children)).fits (in_row (λ p. p.holds.1) x.attributes shaped.1 parts.0) (in_row (λ p. p.holds) x.children three.1 parts.1))

    in_prop : (x : PropLayer P) → Good (known.prop (map_prop (lefts R) x)) (test.prop (map_prop (rights R) x))
    in_prop x e h =
        and_from (text_fits x.name) x.value.right.fits (name_short x.name (text x.value.left.other) h.short)
        (x.value.holds.0 (and_parts _ x.value.left.one.fits e).1 (behind (units_of x.name) x.value.left.other h))

    pub preserved : Preserved known test R
    preserved = record {
      expr_kind = in_kind;
      for_start = in_start;
      markup_child = in_child;
      markup_value = in_value;
      stmt_kind = in_stmt_kind;
      decl = in_decl;
      expr = λ x. x.kind.holds;
      function = in_function;
      markup = in_markup;
      markup_attribute = in_attribute;
      prop = in_prop;
      stmt = λ x. x.kind.holds;
    }

    abbrev pub listing : Steps (Every (List ℕ))
    listing = listing_tildes ids_in ids_at

    pub expr_fits : (e : Expr) → is_shaped_expr e ≡ true → on_expr measuring_texts e ≤ text_limit → (on_expr making e).fits ≡ true → I (on_expr listing e) → is_server_expr e ≡ true → (on_expr test e).fits ≡ true
    expr_fits e shape texts m list placed =
        let below1 = pair measuring_texts (pair making (pair listing by_tier)) in
        let below2 = pair making (pair listing by_tier) in
        let below3 = pair listing by_tier in
        let one = expr_one shaping below1 e in
        let two = expr_other shaping below1 e in
        let k = on_expr known e in
        let texts_is : text k.other ≡ on_expr measuring_texts e = ap (λ (b : Beside). text b) two ∙ expr_one measuring_texts below2 e in
        let rest = ap (λ (b : Beside). b.other) two ∙ expr_other measuring_texts below2 e in
        let made_is : element k.other ≡ on_expr making e = ap (λ (b : Pair Made (Pair (List ℕ) Tiers)). b.one) rest ∙ expr_one making below3 e in
        let last = ap (λ (b : Pair Made (Pair (List ℕ) Tiers)). b.other) rest ∙ expr_other making below3 e in
        let ids_is : ids k.other ≡ on_expr listing e = ap (λ (b : Pair (List ℕ) Tiers). b.one) last ∙ expr_one listing by_tier e in
        let placed_is : (k.other).other.other.other ≡ on_expr by_tier e = ap (λ (b : Pair (List ℕ) Tiers). b.other) last ∙ expr_other listing by_tier e in
        (related_expr known test R preserved e).0 (ap (λ (p : Part). p.fits) one ∙ shape) (record {
          short = subst (λ n. n ≤ text_limit) (sym texts_is) texts;
          made = ap (λ (x : Made). x.fits) made_is ∙ m;
          listed = subst I (sym ids_is) list;
          server = ap (λ (t : Tiers). t.server) placed_is ∙ placed;
        })

    pub stmt_fits : (t : Stmt) → is_shaped_stmt t ≡ true → on_stmt measuring_texts t ≤ text_limit → (on_stmt making t).fits ≡ true → I (on_stmt listing t) → (on_stmt by_tier t).server ≡ true → (on_stmt test t).fits ≡ true
    stmt_fits t shape texts m list placed =
        let below1 = pair measuring_texts (pair making (pair listing by_tier)) in
        let below2 = pair making (pair listing by_tier) in
        let below3 = pair listing by_tier in
        let one = stmt_one shaping below1 t in
        let two = stmt_other shaping below1 t in
        let k = on_stmt known t in
        let texts_is : text k.other ≡ on_stmt measuring_texts t = ap (λ (b : Beside). text b) two ∙ stmt_one measuring_texts below2 t in
        let rest = ap (λ (b : Beside). b.other) two ∙ stmt_other measuring_texts below2 t in
        let made_is : element k.other ≡ on_stmt making t = ap (λ (b : Pair Made (Pair (List ℕ) Tiers)). b.one) rest ∙ stmt_one making below3 t in
        let last = ap (λ (b : Pair Made (Pair (List ℕ) Tiers)). b.other) rest ∙ stmt_other making below3 t in
        let ids_is : ids k.other ≡ on_stmt listing t = ap (λ (b : Pair (List ℕ) Tiers). b.one) last ∙ stmt_one listing by_tier t in
        let placed_is : (k.other).other.other.other ≡ on_stmt by_tier t = ap (λ (b : Pair (List ℕ) Tiers). b.other) last ∙ stmt_other listing by_tier t in
        related_stmt known test R preserved t (ap (λ (p : Part). p.fits) one ∙ shape) (record {
          short = subst (λ n. n ≤ text_limit) (sym texts_is) texts;
          made = ap (λ (x : Made). x.fits) made_is ∙ m;
          listed = subst I (sym ids_is) list;
          server = ap (λ (t : Tiers). t.server) placed_is ∙ placed;
        })
