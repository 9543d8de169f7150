-- Client code passes the test of what can be evaluated, where it has the form of the grammar, its texts are short, and its values are
-- within the limits. It has no tildes and no elements.
use Rattle.std.proofs.Common.{◌≡◌, ℕ, suc, ◌≤◌, ◌<◌, ◌^◌, max, Bool, true, false, ◌&&◌, List, [], ◌∷◌, ◌++◌, map, sum, Option, None, Some, refl, sym, ap, ◌∙◌, subst, arith}
use Rattle.std.specs.Prelude.{All, IsTrue}
use Rattle.std.specs.List.{list_all}
use Rattle.std.proofs.Math.Nat.{le-max_left, le-max_right}
use Rattle.std.proofs.lemmas.Bool.{and_from, and_parts, le-leb}
use Rattle.std.proofs.lemmas.List.Elements.{All-nil, All-cons}
use Rattle.mt_eval_fits.specs.Fitting.{Tested, each, fitting, tested, testing, value_fits}
use Rattle.mt_program_fits.proofs.Products.{Pair, ones, others, pair, stmt_one, stmt_other}
use Rattle.mt_program_fits.proofs.Server.{in_source, never, short}
use Rattle.mt_syntax.specs.Codes.{is_plain, testing_plain}
use Rattle.mt_syntax.specs.Depth.{greatest}
use Rattle.mt_syntax.specs.Fold.{Every, DeclLayer, ExprKindLayer, ForStartLayer, FunctionLayer, PropLayer, Steps, StmtKindLayer, on_stmt}
use Rattle.mt_syntax.specs.Gathering.{all_of, or_none}
use Rattle.mt_syntax.specs.Numbering.{in_order, listing_values}
use Rattle.mt_syntax.specs.Shape.{Part, all_fit, block_fits, decls_fit, is_assignment, is_named, is_shaped_stmt, is_some_item, is_statement, is_target, is_valued, mark_fits, shaping, target_fits}
use Rattle.mt_syntax.specs.Sort.{Sort}
use Rattle.mt_syntax.specs.Sort as sort
use Rattle.mt_syntax.specs.Texts.{length_of_name, measuring_texts}
use Rattle.mt_syntax.specs.declared.tree.ExprKind.TheOpen.{ExprKind-F, ForStart-F, StmtKind-F}
use Rattle.mt_syntax.specs.declared.tree.Mark.{Mark}
use Rattle.mt_syntax.specs.declared.tree.Stmt.{Stmt}
use Rattle.mt_syntax_laws.proofs.Layers.{map_decl, map_expr_kind, map_for_start, map_function, map_prop, map_stmt_kind}
use Rattle.mt_syntax_laws.proofs.Related.{Preserved, Two, lefts, related_stmt, rights}
use Rattle.mt_tree.specs.Limits.{text_limit}
use Rattle.mt_tree.specs.Text.{units_of}
use Rattle.mt_tree.specs.declared.data.Data.{Data}
use Rattle.mt_tree.specs.declared.operators.VarKind.{VarKind}
use Rattle.mt_tree.specs.declared.operators.VarKind.TheVariants as word
use Rattle.mt_value.specs.Limits.{text_fits}

abbrev pub Beside : Type 0
Beside = Pair ℕ (Pair Bool (List Data))

abbrev pub Known : Type 0
Known = Pair Part Beside

abbrev pub text : Beside → ℕ
text b = b.one

abbrev pub plain : Beside → Bool
plain b = b.other.one

abbrev pub values : Beside → List Data
values b = b.other.other

abbrev pub beside : ℕ → Bool → List Data → Beside
beside n p ds = record { one = n; other = record { one = p; other = ds } }

abbrev pub join : Beside → Beside → Beside
join a b = beside (max (text a) (text b)) (plain a && plain b) (values a ++ values b)

abbrev pub row : List Known → Beside
row js =
    let bs = map (others sort.Expr) js in
    beside (greatest (map (ones sort.Expr) bs)) (all_of true (λ a b. a && b) (map (ones sort.Expr) (map (others sort.Expr) bs)))
    (in_order (map (others sort.Expr) (map (others sort.Expr) bs)))

abbrev pub FitAll : List Data → Type 0
FitAll [] = Unit {0}
FitAll (d ∷ ds) = (value_fits d ≡ true) × FitAll ds

fit_apart : (xs ys : List Data) → FitAll (xs ++ ys) → FitAll xs × FitAll ys
fit_apart [] ys h = (tt, h)
fit_apart (x ∷ xs) ys h = let rest = fit_apart xs ys h.1 in ((h.0, rest.0), rest.1)

pub record Holds (b : Beside) : Type 0 where
  pub short : text b ≤ text_limit
  pub plain : plain b ≡ true
  pub fit : FitAll (values b)

apart : (a b : Beside) → Holds (join a b) → Holds a × Holds b
apart a b h =
    let p = and_parts (plain a) (plain b) h.plain in
    let f = fit_apart (values a) (values b) h.fit in (
      record { short = omega (arith, h.short, le-max_left (text a) (text b)); plain = p.0; fit = f.0 },
      record { short = omega (arith, h.short, le-max_right (text a) (text b)); plain = p.1; fit = f.1 },
    )

-- a name of that length stands before it
behind : (n : ℕ) (b : Beside) → Holds (record b { one = max n (text b) }) → Holds b
behind n b h = record { short = omega (arith, h.short, le-max_right n (text b)); plain = h.plain; fit = h.fit }

name_short : (cs : List ℕ) (n : ℕ) → max (units_of cs) n ≤ text_limit → text_fits cs ≡ true
name_short cs n h = short cs (omega (arith, h, le-max_left (units_of cs) n))

abbrev pub Good : Known → Tested → Type 0
Good j f = j.one.fits ≡ true → Holds j.other → f.fits ≡ true

abbrev pub Aimed : Known → Tested → Type 0
Aimed j f = is_target j.one.look ≡ true → f.target ≡ true

-- nothing is said of elements, which have no place in client code
abbrev pub R : (s : Sort) → Every Known s → Every Tested s → Type 0
R sort.Expr j f = Good j f × Aimed j f
R sort.ExprKind j f = Good j f × Aimed j f
R sort.Markup j f = Unit {0}
R sort.MarkupAttribute j f = Unit {0}
R sort.MarkupChild j f = Unit {0}
R sort.MarkupValue j f = Unit {0}
R _ j f = Good j f

abbrev P : Sort → Type 0
P = Two {A = Every Known} {B = Every Tested} R

abbrev shapes : {s : Sort} → List (P s) → List Part
shapes {s} ps = map (ones s) (map (lefts R s) ps)

in_row : {s : Sort} → ((p : P s) → Good p.left p.right) → (ps : List (P s)) → all_fit (shapes ps) ≡ true → Holds (row (map (lefts R s) ps)) → (each (map (rights R s) ps)).fits ≡ true
in_row good [] e h = refl
in_row {s = s} good (p ∷ ps) e h =
    let es = and_parts p.left.one.fits (all_fit (shapes ps)) e in
    let hs = apart p.left.other (row (map (lefts R s) ps)) h in
    and_from p.right.fits (each (map (rights R s) ps)).fits (good p es.0 hs.0) (in_row good ps es.1 hs.1)

exprs_in : (ps : List (P sort.Expr)) → all_fit (shapes ps) ≡ true → Holds (row (map (lefts R sort.Expr) ps)) → (each (map (rights R sort.Expr) ps)).fits ≡ true
exprs_in = in_row (λ p. p.holds.0)

two : (a b : P sort.Expr) → (a.left.one.fits && b.left.one.fits) ≡ true → Holds (join a.left.other b.left.other) → (a.right.fits && b.right.fits) ≡ true
two a b e h =
    let es = and_parts a.left.one.fits b.left.one.fits e in
    let hs = apart a.left.other b.left.other h in
    and_from a.right.fits b.right.fits (a.holds.0 es.0 hs.0) (b.holds.0 es.1 hs.1)

abbrev pub known : Steps (Every Known)
known = pair shaping (pair measuring_texts (pair testing_plain listing_values))

module _ (allowed : List ℕ → List (List ℕ) → ℕ → Bool) (tilde : ℕ → Bool) where
  abbrev pub test : Steps (Every Tested)
  test = fitting allowed tilde

  in_kind : (x : ExprKindLayer P) → R sort.ExprKind (known.expr_kind (map_expr_kind (lefts R) x)) (test.expr_kind (map_expr_kind (rights R) x))
  in_kind (ExprKind-F.Name cs) = (λ e h. short cs h.short, λ t. refl)
  in_kind (ExprKind-F.Num n) = (λ e h. in_source n e, never)
  in_kind (ExprKind-F.ExprKind::Text cs) = (λ e h. short cs h.short, never)
  in_kind (ExprKind-F.Bool b) = (λ e h. refl, never)
  in_kind ExprKind-F.Null = (λ e h. refl, never)
  in_kind ExprKind-F.Undefined = (λ e h. refl, never)
  in_kind (ExprKind-F.Arr items) = (exprs_in items, never)
  in_kind (ExprKind-F.Obj props) = (in_row (λ p. p.holds) props, never)
  in_kind (ExprKind-F.Fun f) = (λ e h. f.holds e h, never)
  in_kind (ExprKind-F.Unary op a) = (λ e h. a.holds.0 e h, never)
  in_kind (ExprKind-F.Step op a) = (
    λ e h.
        let es = and_parts (is_target a.left.one.look) a.left.one.fits e in
        and_from a.right.target a.right.fits (a.holds.1 es.0) (a.holds.0 es.1 h),
    never,
  )
  in_kind (ExprKind-F.Binary op a b) = (two a b, never)
  in_kind (ExprKind-F.And a b) = (two a b, never)
  in_kind (ExprKind-F.Or a b) = (two a b, never)
  in_kind (ExprKind-F.Cond a b c) = (
    λ e h.
        let es = and_parts (a.left.one.fits && b.left.one.fits) c.left.one.fits e in
        let ab = and_parts a.left.one.fits b.left.one.fits es.0 in
        let hs = apart a.left.other (join b.left.other c.left.other) h in
        and_from a.right.fits (b.right.fits && c.right.fits) (a.holds.0 ab.0 hs.0) (two b c (and_from b.left.one.fits c.left.one.fits ab.1 es.1) hs.1),
    never,
  )
  in_kind (ExprKind-F.Assign op a b) = (
    λ e h.
        let es = and_parts (is_assignment op && target_fits a.left.one) b.left.one.fits e in
        let aim = and_parts (is_assignment op) (target_fits a.left.one) es.0 in
        let target = and_parts (is_target a.left.one.look) a.left.one.fits aim.1 in
        and_from a.right.target (a.right.fits && b.right.fits) (a.holds.1 target.0) (two a b (and_from a.left.one.fits b.left.one.fits target.1 es.1) h),
    never,
  )
  in_kind (ExprKind-F.Index a b) = (two a b, λ t. refl)
  in_kind (ExprKind-F.Call a arguments) = (
    λ e h.
        let es = and_parts a.left.one.fits (all_fit (shapes arguments)) e in
        let hs = apart a.left.other (row (map (lefts R sort.Expr) arguments)) h in
        and_from a.right.fits (each (map (rights R sort.Expr) arguments)).fits (a.holds.0 es.0 hs.0) (exprs_in arguments es.1 hs.1),
    never,
  )
  in_kind (ExprKind-F.ExprKind::Tilde id) = (λ e h. never h.plain, never)
  in_kind (ExprKind-F.ExprKind::Dollar at) = (λ e h. refl, never)
  in_kind (ExprKind-F.Stray a) = (λ e h. never h.plain, never)
  in_kind (ExprKind-F.Markup m) = (λ e h. never h.plain, never)
  in_kind (ExprKind-F.Val d) = (λ e h. h.fit.0, never)

  -- ---- statements

  decls_all : (kind : VarKind) (ps : List Part) → decls_fit kind ps ≡ true → all_fit ps ≡ true
  decls_all word.Const ps e = valued ps (and_parts (is_some_item ps) (list_all (λ d. is_valued d.look && d.fits) ps) e).1
    where
      valued : (ps : List Part) → list_all (λ d. is_valued d.look && d.fits) ps ≡ true → all_fit ps ≡ true
      valued [] e = refl
      valued (p ∷ ps) e =
          let es = and_parts (is_valued p.look && p.fits) (list_all (λ d. is_valued d.look && d.fits) ps) e in
          and_from p.fits (all_fit ps) (and_parts (is_valued p.look) p.fits es.0).1 (valued ps es.1)
  decls_all word.Var ps e = (and_parts (is_some_item ps) (all_fit ps) e).1
  decls_all word.Let ps e = (and_parts (is_some_item ps) (all_fit ps) e).1

  statements_all : (ps : List Part) → list_all (λ s. is_statement s.look && s.fits) ps ≡ true → all_fit ps ≡ true
  statements_all [] e = refl
  statements_all (p ∷ ps) e =
      let es = and_parts (is_statement p.look && p.fits) (list_all (λ s. is_statement s.look && s.fits) ps) e in
      and_from p.fits (all_fit ps) (and_parts (is_statement p.look) p.fits es.0).1 (statements_all ps es.1)

  decls_in : (ps : List (P sort.Decl)) → all_fit (shapes ps) ≡ true → Holds (row (map (lefts R sort.Decl) ps)) → (each (map (rights R sort.Decl) ps)).fits ≡ true
  decls_in = in_row (λ p. p.holds)

  stmts_in : (ps : List (P sort.Stmt)) → all_fit (shapes ps) ≡ true → Holds (row (map (lefts R sort.Stmt) ps)) → (each (map (rights R sort.Stmt) ps)).fits ≡ true
  stmts_in = in_row (λ p. p.holds)

  in_start : (x : ForStartLayer P) → Good (known.for_start (map_for_start (lefts R) x)) (test.for_start (map_for_start (rights R) x))
  in_start ForStart-F.Absent = λ e h. refl
  in_start (ForStart-F.ForStart::Var decls) = λ e h. decls_in decls (decls_all word.Var (shapes decls) e) h
  in_start (ForStart-F.ForStart::Expr a) = a.holds.0

  abbrev none : Beside
  none = beside 0 true []

  abbrev beside_or_none : Option (P sort.Expr) → Beside
  beside_or_none None = none
  beside_or_none (Some a) = a.left.other

  abbrev optional : Option (P sort.Expr) → Bool
  optional None = true
  optional (Some a) = a.left.one.fits

  abbrev tested_or_none : Option (P sort.Expr) → Tested
  tested_or_none None = tested true
  tested_or_none (Some a) = a.right

  option_in : (o : Option (P sort.Expr)) → optional o ≡ true → Holds (beside_or_none o) → (tested_or_none o).fits ≡ true
  option_in None e h = refl
  option_in (Some a) e h = a.holds.0 e h

  -- a test or a statement, and a block behind it
  with_block : (fits : Bool) (a : Beside) (f : Tested) (body : P sort.Stmt) → (fits ≡ true → Holds a → f.fits ≡ true) → (fits && block_fits body.left.one) ≡ true → Holds (join a body.left.other) → (f.fits && body.right.fits) ≡ true
  with_block fits a f body good e h =
      let es = and_parts fits (block_fits body.left.one) e in
      let hs = apart a body.left.other h in
      and_from f.fits body.right.fits (good es.0 hs.0) (body.holds (and_parts _ body.left.one.fits es.1).1 hs.1)

  in_for : (start : P sort.ForStart) (x y : Option (P sort.Expr)) (body : P sort.Stmt)
      → (start.left.one.fits && optional x && optional y && block_fits body.left.one) ≡ true
      → Holds (join start.left.other (join (beside_or_none x) (join (beside_or_none y) body.left.other)))
      → (start.right.fits && ((tested_or_none x).fits && ((tested_or_none y).fits && body.right.fits))) ≡ true
  in_for start x y body e h =
      let three = and_parts (start.left.one.fits && optional x && optional y) (block_fits body.left.one) e in
      let parts = and_parts (start.left.one.fits && optional x) (optional y) three.0 in
      let first = and_parts start.left.one.fits (optional x) parts.0 in
      let hs = apart start.left.other (join (beside_or_none x) (join (beside_or_none y) body.left.other)) h in
      let hx = apart (beside_or_none x) (join (beside_or_none y) body.left.other) hs.1 in
      and_from start.right.fits ((tested_or_none x).fits && ((tested_or_none y).fits && body.right.fits)) (start.holds first.0 hs.0)
      (and_from (tested_or_none x).fits ((tested_or_none y).fits && body.right.fits) (option_in x first.1 hx.0)
      (with_block (optional y) (beside_or_none y) (tested_or_none y) body (option_in y) (and_from (optional y) (block_fits body.left.one) parts.1 three.1) hx.1))

  in_if : (a : P sort.Expr) (body : P sort.Stmt) (fits : Bool) (b : Beside) (f : Tested) → (fits ≡ true → Holds b → f.fits ≡ true)
      → (a.left.one.fits && block_fits body.left.one && fits) ≡ true → Holds (join a.left.other (join body.left.other b)) → (a.right.fits && (body.right.fits && f.fits)) ≡ true
  in_if a body fits b f good e h =
      let es = and_parts (a.left.one.fits && block_fits body.left.one) fits e in
      let ab = and_parts a.left.one.fits (block_fits body.left.one) es.0 in
      let hs = apart a.left.other (join body.left.other b) h in
      let inner = apart body.left.other b hs.1 in
      and_from a.right.fits (body.right.fits && f.fits) (a.holds.0 ab.0 hs.0) (and_from body.right.fits f.fits (body.holds (and_parts _ body.left.one.fits ab.1).1 inner.0) (good es.1 inner.1))

  in_stmt_kind : (x : StmtKindLayer P) → Good (known.stmt_kind (map_stmt_kind (lefts R) x)) (test.stmt_kind (map_stmt_kind (rights R) x))
  in_stmt_kind (StmtKind-F.StmtKind::Expr a) = a.holds.0
  in_stmt_kind (StmtKind-F.StmtKind::Var kind decls) = λ e h. decls_in decls (decls_all kind (shapes decls) e) h
  in_stmt_kind (StmtKind-F.Function f) = λ e h. f.holds (and_parts (is_named f.left.one.look) f.left.one.fits e).1 h
  in_stmt_kind (StmtKind-F.Service f) = λ e h. never h.plain
  in_stmt_kind (StmtKind-F.If a body None) = in_if a body true none (tested true) (λ e h. refl)
  in_stmt_kind (StmtKind-F.If a body (Some other)) =
      in_if a body (block_fits other.left.one) other.left.other other.right (λ e h. other.holds (and_parts _ other.left.one.fits e).1 h)
  in_stmt_kind (StmtKind-F.While a body) = with_block a.left.one.fits a.left.other a.right body a.holds.0
  in_stmt_kind (StmtKind-F.For start None None body) = in_for start None None body
  in_stmt_kind (StmtKind-F.For start None (Some step) body) = in_for start None (Some step) body
  in_stmt_kind (StmtKind-F.For start (Some a) None body) = in_for start (Some a) None body
  in_stmt_kind (StmtKind-F.For start (Some a) (Some step) body) = in_for start (Some a) (Some step) body
  in_stmt_kind (StmtKind-F.Return None) = λ e h. refl
  in_stmt_kind (StmtKind-F.Return (Some a)) = a.holds.0
  in_stmt_kind StmtKind-F.Break = λ e h. refl
  in_stmt_kind StmtKind-F.Continue = λ e h. refl
  in_stmt_kind (StmtKind-F.Throw a) = a.holds.0
  in_stmt_kind (StmtKind-F.Try body name handler) = λ e h.
      let es = and_parts (block_fits body.left.one && mark_fits name) (block_fits handler.left.one) e in
      let first = and_parts (block_fits body.left.one) (mark_fits name) es.0 in
      let hs = apart body.left.other handler.left.other (behind (length_of_name name) (join body.left.other handler.left.other) h) in
      and_from body.right.fits handler.right.fits (body.holds (and_parts _ body.left.one.fits first.0).1 hs.0) (handler.holds (and_parts _ handler.left.one.fits es.1).1 hs.1)
  in_stmt_kind (StmtKind-F.Block items) = λ e h. stmts_in items (statements_all (shapes items) e) h
  in_stmt_kind StmtKind-F.Empty = λ e h. refl

  in_decl : (x : DeclLayer P) → Good (known.decl (map_decl (lefts R) x)) (test.decl (map_decl (rights R) x))
  in_decl x = by x.name x.value
    where
      by : (name : Mark) (value : Option (P sort.Expr)) → Good (known.decl (map_decl (lefts R) (record { name = name; value = value }))) (test.decl (map_decl (rights R) (record { name = name; value = value })))
      by name None = λ e h. refl
      by name (Some a) = λ e h. a.holds.0 (and_parts (mark_fits name) a.left.one.fits e).1 (behind (length_of_name name) a.left.other h)

  in_function : (x : FunctionLayer P) → Good (known.function (map_function (lefts R) x)) (test.function (map_function (rights R) x))
  in_function x = λ e h.
      let parts = and_parts _ (all_fit (shapes x.body)) e in
      let body = row (map (lefts R sort.Stmt) x.body) in
      stmts_in x.body parts.1 (behind _ body (behind _ (record body { one = max (greatest (map length_of_name x.parameters)) (text body) }) h))

  in_prop : (x : PropLayer P) → Good (known.prop (map_prop (lefts R) x)) (test.prop (map_prop (rights R) x))
  in_prop x e h =
      and_from (text_fits x.name) x.value.right.fits (name_short x.name (text x.value.left.other) h.short)
      (x.value.holds.0 (and_parts _ x.value.left.one.fits e).1 (behind (units_of x.name) x.value.left.other h))

  preserved : Preserved known test R
  preserved = record {
    expr_kind = in_kind;
    for_start = in_start;
    markup_child = λ x. tt;
    markup_value = λ x. tt;
    stmt_kind = in_stmt_kind;
    decl = in_decl;
    expr = λ x. x.kind.holds;
    function = in_function;
    markup = λ x. tt;
    markup_attribute = λ x. tt;
    prop = in_prop;
    stmt = λ x. x.kind.holds;
  }

  stmt_fits : (t : Stmt) → is_shaped_stmt t ≡ true → on_stmt measuring_texts t ≤ text_limit → on_stmt testing_plain t ≡ true → FitAll (on_stmt listing_values t) → (on_stmt test t).fits ≡ true
  stmt_fits t shape texts p ds =
      let one = stmt_one shaping (pair measuring_texts (pair testing_plain listing_values)) t in
      let two = stmt_other shaping (pair measuring_texts (pair testing_plain listing_values)) t in
      let k = on_stmt known t in
      let texts_is : text k.other ≡ on_stmt measuring_texts t = ap (λ (b : Beside). text b) two ∙ stmt_one measuring_texts (pair testing_plain listing_values) t in
      let rest = ap (λ (b : Beside). b.other) two ∙ stmt_other measuring_texts (pair testing_plain listing_values) t in
      let plain_is : plain k.other ≡ on_stmt testing_plain t = ap (λ (b : Pair Bool (List Data)). b.one) rest ∙ stmt_one testing_plain listing_values t in
      let values_is : values k.other ≡ on_stmt listing_values t = ap (λ (b : Pair Bool (List Data)). b.other) rest ∙ stmt_other testing_plain listing_values t in
      related_stmt known test R preserved t (ap (λ (p : Part). p.fits) one ∙ shape) (record {
        short = subst (λ n. n ≤ text_limit) (sym texts_is) texts;
        plain = plain_is ∙ p;
        fit = subst FitAll (sym values_is) ds;
      })

  pub body_fits : (body : List Stmt) → list_all is_shaped_stmt body ≡ true → greatest (map (on_stmt measuring_texts) body) ≤ text_limit → is_plain body ≡ true
      → FitAll (in_order (map (on_stmt listing_values) body)) → All (λ t. IsTrue (on_stmt test t).fits) body
  body_fits [] shape texts p ds = All-nil (λ t. IsTrue (on_stmt test t).fits)
  body_fits (t ∷ body) shape texts p ds =
      let shapes = and_parts (is_shaped_stmt t) (list_all is_shaped_stmt body) shape in
      let plains = and_parts (on_stmt testing_plain t) (is_plain body) p in
      let fits = fit_apart (on_stmt listing_values t) (in_order (map (on_stmt listing_values) body)) ds in
      let first = on_stmt measuring_texts t in
      let rest = greatest (map (on_stmt measuring_texts) body) in
      All-cons (λ t. IsTrue (on_stmt test t).fits) t body
      (stmt_fits t shapes.0 (omega (arith, texts, le-max_left first rest)) plains.0 fits.0) (body_fits body shapes.1 (omega (arith, texts, le-max_right first rest)) plains.1 fits.1)
