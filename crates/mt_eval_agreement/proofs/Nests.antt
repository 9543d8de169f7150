-- The names of a tilde hold those of the tildes in its dollars, however tildes nest.
use Rattle.std.proofs.Common.{◌≡◌, ℕ, zero, suc, ◌+◌, ◌<◌, ◌≤◌, List, [], ◌∷◌, ◌++◌, length, map, Option, Some, None, Bool, true, false, refl, sym, ap, ◌∙◌, arith, inl, inr}
use Rattle.std.proofs.lemmas.Bool.{cases_lt}
use Rattle.std.specs.Prelude.{flat_map, slice_get}
use Rattle.mt_eval_meaning.specs.Free.{Names, has, without, Used, none, joined, finding, listing, used_by_expr_kind, used_by_stmt_kind, used_by_function, using_only, enclosed, declared_by, dollar_names, tilde_names}
use Rattle.mt_eval_agreement.proofs.Cuts.{has_left, has_right, has_without, only_without, has_split}
use Rattle.mt_eval_meaning.specs.Hoisting.{names_of}
use Rattle.mt_syntax.specs.Fold.{ExprKindLayer, StmtKindLayer, DeclLayer, FunctionLayer, on_expr}
use Rattle.mt_syntax.specs.Gathering.{all_of}
use Rattle.mt_syntax.specs.Sort.{Sort}
use Rattle.mt_syntax.specs.Sort as sort
use Rattle.mt_syntax.specs.declared.program.Tilde.{Tilde}
use Rattle.mt_syntax.specs.declared.tree.Expr.{Expr}
use Rattle.mt_syntax.specs.declared.tree.ExprKind.TheOpen.{ExprKind-F, StmtKind-F}
use Rattle.mt_tree.specs.declared.operators.VarKind.{VarKind}
use Rattle.mt_tree.specs.declared.operators.VarKind.TheVariants as word
use Rattle.mt_syntax_laws.proofs.Gathered.{Alike, rows, gathered}
use Rattle.mt_syntax_laws.proofs.Layers.{map_expr_kind, map_stmt_kind, map_decl, map_function}
use Rattle.mt_syntax_laws.proofs.Related.{Two, lefts, rights, Preserved, related_expr}

-- ---- more names of tildes make more names of a tree

module _ (y : List ℕ) where
  -- where the name is used in one, it is used in the other, and the same is declared in both
  pub record Fewer (a b : Used) : Type 0 where
    pub free : has a.free y ≡ true → has b.free y ≡ true
    pub here : b.here ≡ a.here
    pub functions : b.functions ≡ a.functions
    pub variables : b.variables ≡ a.variables

  both_free : (xs xs' ys ys' : Names) → (has xs y ≡ true → has xs' y ≡ true) → (has ys y ≡ true → has ys' y ≡ true) → has (xs ++ ys) y ≡ true → has (xs' ++ ys') y ≡ true
  both_free xs xs' ys ys' f g h = in_one (has ys y) refl
    where
      in_one : (b : Bool) → has ys y ≡ b → has (xs' ++ ys') y ≡ true
      in_one true e = has_right xs' ys' y (g e)
      in_one false e = has_left xs' ys' y (f (has_split xs ys y h e))

  joined_fewer : (a a' b b' : Used) → Fewer a b → Fewer a' b' → Fewer (joined a a') (joined b b')
  joined_fewer a a' b b' h k = record {
    free = both_free a.free b.free a'.free b'.free h.free k.free;
    here = ap (λ (xs : Names). xs ++ b'.here) h.here ∙ ap (λ (xs : Names). a.here ++ xs) k.here;
    functions = ap (λ (xs : Names). xs ++ b'.functions) h.functions ∙ ap (λ (xs : Names). a.functions ++ xs) k.functions;
    variables = ap (λ (xs : Names). xs ++ b'.variables) h.variables ∙ ap (λ (xs : Names). a.variables ++ xs) k.variables;
  }

  none_fewer : Fewer none none
  none_fewer = record { free = λ h. h; here = refl; functions = refl; variables = refl }

  only_fewer : (xs ys : Names) → (has xs y ≡ true → has ys y ≡ true) → Fewer (using_only xs) (using_only ys)
  only_fewer xs ys h = record { free = h; here = refl; functions = refl; variables = refl }

  without_fewer : (some some' xs ys : Names) → some' ≡ some → (has xs y ≡ true → has ys y ≡ true) → has (without some xs) y ≡ true → has (without some' ys) y ≡ true
  without_fewer some some' xs ys e h k =
      let o = only_without some xs y k in
      has_without some' ys y (ap (λ (z : Names). has z y) e ∙ o.1) (h o.0)

  enclosed_fewer : (a b : Used) → Fewer a b → Fewer (enclosed a) (enclosed b)
  enclosed_fewer a b h = record { free = h.free; here = refl; functions = refl; variables = h.variables }

  declared_fewer : (kind : VarKind) (a b : Used) → Fewer a b → Fewer (declared_by kind a) (declared_by kind b)
  declared_fewer word.Var a b h = record { free = h.free; here = refl; functions = h.functions; variables = h.here }
  declared_fewer word.Let a b h = h
  declared_fewer word.Const a b h = h

  abbrev Part : Sort → Type 0
  Part = Two (Alike Fewer)

  module _ (f g : ℕ → Names) (more : (id : ℕ) → has (f id) y ≡ true → has (g id) y ≡ true) where
    parts : Preserved (listing f) (listing g) (Alike Fewer)
    parts = gathered Fewer none joined none joined none_fewer joined_fewer

    all_parts : {s : Sort} (ps : List (Part s)) → Fewer (all_of none joined (map (lefts (Alike Fewer) s) ps)) (all_of none joined (map (rights (Alike Fewer) s) ps))
    all_parts ps = rows Fewer none joined none joined none_fewer joined_fewer ps

    expr_kind_fewer : (x : ExprKindLayer Part) → Fewer (used_by_expr_kind f (map_expr_kind (lefts (Alike Fewer)) x)) (used_by_expr_kind g (map_expr_kind (rights (Alike Fewer)) x))
    expr_kind_fewer (ExprKind-F.Name name) = only_fewer (name ∷ []) (name ∷ []) (λ h. h)
    expr_kind_fewer (ExprKind-F.Fun p) =
        only_fewer (without p.left.functions p.left.free) (without p.right.functions p.right.free) (without_fewer p.left.functions p.right.functions p.left.free p.right.free p.holds.functions p.holds.free)
    expr_kind_fewer (ExprKind-F.ExprKind::Tilde id) = only_fewer (f id) (g id) (more id)
    expr_kind_fewer layer =
        only_fewer ((listing f).expr_kind (map_expr_kind (lefts (Alike Fewer)) layer)).free ((listing g).expr_kind (map_expr_kind (rights (Alike Fewer)) layer)).free (parts.expr_kind layer).free

    stmt_kind_fewer : (x : StmtKindLayer Part) → Fewer (used_by_stmt_kind f (map_stmt_kind (lefts (Alike Fewer)) x)) (used_by_stmt_kind g (map_stmt_kind (rights (Alike Fewer)) x))
    stmt_kind_fewer (StmtKind-F.StmtKind::Var kind decls) =
        declared_fewer kind (all_of none joined (map (lefts (Alike Fewer) sort.Decl) decls)) (all_of none joined (map (rights (Alike Fewer) sort.Decl) decls)) (all_parts decls)
    stmt_kind_fewer (StmtKind-F.Function p) = p.holds
    stmt_kind_fewer (StmtKind-F.Service p) = none_fewer
    stmt_kind_fewer (StmtKind-F.Try body name handler) =
        joined_fewer (enclosed body.left) (enclosed (record handler.left { free = without (name.name ∷ []) handler.left.free })) (enclosed body.right) (enclosed (record handler.right { free = without (name.name ∷ []) handler.right.free }))
        (enclosed_fewer body.left body.right body.holds)
        (record { free = without_fewer (name.name ∷ []) (name.name ∷ []) handler.left.free handler.right.free refl handler.holds.free; here = refl; functions = refl; variables = handler.holds.variables })
    stmt_kind_fewer (StmtKind-F.Block items) =
        let a = all_of none joined (map (lefts (Alike Fewer) sort.Stmt) items) in
        let b = all_of none joined (map (rights (Alike Fewer) sort.Stmt) items) in
        let h : Fewer a b = all_parts items in
        record { free = without_fewer a.here b.here a.free b.free h.here h.free; here = refl; functions = refl; variables = h.variables }
    stmt_kind_fewer (StmtKind-F.For start test step body) =
        record {
          free = (parts.stmt_kind (StmtKind-F.For start test step body)).free;
          here = refl;
          functions = refl;
          variables = ap (λ (xs : Names). xs ++ body.right.variables) start.holds.here ∙ ap (λ (xs : Names). start.left.here ++ xs) body.holds.variables;
        }
    stmt_kind_fewer layer =
        enclosed_fewer ((listing f).stmt_kind (map_stmt_kind (lefts (Alike Fewer)) layer)) ((listing g).stmt_kind (map_stmt_kind (rights (Alike Fewer)) layer)) (parts.stmt_kind layer)

    decl_fewer : (x : DeclLayer Part) → Fewer ((finding f).decl (map_decl (lefts (Alike Fewer)) x)) ((finding g).decl (map_decl (rights (Alike Fewer)) x))
    decl_fewer x =
        let a = (listing f).decl (map_decl (lefts (Alike Fewer)) x) in
        let b = (listing g).decl (map_decl (rights (Alike Fewer)) x) in
        record { free = both_free (x.name.name ∷ []) (x.name.name ∷ []) a.free b.free (λ h. h) (parts.decl x).free; here = refl; functions = refl; variables = refl }

    function_fewer : (x : FunctionLayer Part) → Fewer (used_by_function f (map_function (lefts (Alike Fewer)) x)) (used_by_function g (map_function (rights (Alike Fewer)) x))
    function_fewer x =
        let a = all_of none joined (map (lefts (Alike Fewer) sort.Stmt) x.body) in
        let b = all_of none joined (map (rights (Alike Fewer) sort.Stmt) x.body) in
        let h : Fewer a b = all_parts x.body in
        let bound : names_of x.parameters ++ (b.variables ++ (b.functions ++ b.here)) ≡ names_of x.parameters ++ (a.variables ++ (a.functions ++ a.here)) =
        ap (λ (xs : Names). names_of x.parameters ++ (xs ++ (b.functions ++ b.here))) h.variables
        ∙ ap (λ (xs : Names). names_of x.parameters ++ (a.variables ++ (xs ++ b.here))) h.functions
        ∙ ap (λ (xs : Names). names_of x.parameters ++ (a.variables ++ (a.functions ++ xs))) h.here in
        record {
          free = without_fewer (names_of x.parameters ++ (a.variables ++ (a.functions ++ a.here))) (names_of x.parameters ++ (b.variables ++ (b.functions ++ b.here))) a.free b.free bound h.free;
          here = refl;
          functions = refl;
          variables = refl;
        }

    found : Preserved (finding f) (finding g) (Alike Fewer)
    found = record {
      expr_kind = expr_kind_fewer;
      for_start = parts.for_start;
      markup_child = parts.markup_child;
      markup_value = parts.markup_value;
      stmt_kind = stmt_kind_fewer;
      decl = decl_fewer;
      expr = parts.expr;
      function = function_fewer;
      markup = parts.markup;
      markup_attribute = parts.markup_attribute;
      prop = parts.prop;
      stmt = parts.stmt;
    }

    in_dollars : (es : List Expr) → has (flat_map (λ e. (on_expr (finding f) e).free) es) y ≡ true → has (flat_map (λ e. (on_expr (finding g) e).free) es) y ≡ true
    in_dollars [] h = h
    in_dollars (e ∷ es) h =
        both_free (on_expr (finding f) e).free (on_expr (finding g) e).free (flat_map (λ e. (on_expr (finding f) e).free) es) (flat_map (λ e. (on_expr (finding g) e).free) es)
        (related_expr (finding f) (finding g) (Alike Fewer) found e).free (in_dollars es) h

    in_tilde : (o : Option Tilde) → has (dollar_names f o) y ≡ true → has (dollar_names g o) y ≡ true
    in_tilde None h = h
    in_tilde (Some t) h = in_dollars t.dollars h

-- ---- how many numbers below a bound have a property

abbrev one_if : Bool → ℕ
one_if true = 1
one_if false = 0

abbrev count : (ℕ → Bool) → ℕ → ℕ
count p zero = 0
count p (suc n) = one_if (p n) + count p n

module _ (p q : ℕ → Bool) (up : (i : ℕ) → p i ≡ true → q i ≡ true) where
  one_up : (b c : Bool) → (b ≡ true → c ≡ true) → one_if b ≤ one_if c
  one_up true true h = omega arith
  one_up true false h = let clash = h refl in cc
  one_up false c h = omega arith

  count_up : (n : ℕ) → count p n ≤ count q n
  count_up zero = omega arith
  count_up (suc n) =
      let here : one_if (p n) ≤ one_if (q n) = one_up (p n) (q n) (up n) in
      let rest : count p n ≤ count q n = count_up n in
      omega (arith, here, rest)

  -- the properties are the same below the bound, or more numbers have the second
  pub data Compared (n : ℕ) : Type 0 where
    equal : ((i : ℕ) → i < n → q i ≡ true → p i ≡ true) → Compared n
    larger : count p n < count q n → Compared n

  next_at : (n : ℕ) (b c : Bool) → p n ≡ b → q n ≡ c → Compared n → Compared (suc n)
  next_at n b c e f (larger h) =
      let here : one_if (p n) ≤ one_if (q n) = one_up (p n) (q n) (up n) in
      larger (omega (arith, h, here))
  next_at n false true e f (equal h) =
      let rest : count p n ≤ count q n = count_up n in
      let left : one_if (p n) ≡ 0 = ap one_if e in
      let right : one_if (q n) ≡ 1 = ap one_if f in
      larger (omega (arith, rest, left, right))
  next_at n true c e f (equal h) = equal (λ i low k. elim (cases_lt i n) [
    | inl lower ↦ h i lower k
    | inr above ↦ let same : i ≡ n = omega (arith, low, above) in ap p same ∙ e
  ])
  next_at n false false e f (equal h) = equal (λ i low k. elim (cases_lt i n) [
    | inl lower ↦ h i lower k
    | inr above ↦
        let same : i ≡ n = omega (arith, low, above) in
        let clash : true ≡ false = sym k ∙ ap q same ∙ f in
        cc
  ])

  compared : (n : ℕ) → Compared n
  compared zero = equal (λ i low. absurd (omega (arith, low)))
  compared (suc n) = next_at n (p n) (q n) refl refl (compared n)

one_at_most : (b : Bool) → one_if b ≤ 1
one_at_most true = omega arith
one_at_most false = omega arith

count_at_most : (p : ℕ → Bool) (n : ℕ) → count p n ≤ n
count_at_most p zero = omega arith
count_at_most p (suc n) =
    let here : one_if (p n) ≤ 1 = one_at_most (p n) in
    let rest : count p n ≤ n = count_at_most p n in
    omega (arith, here, rest)

-- all have it, where as many have it as there are
full_at : (b : Bool) (c n : ℕ) → suc n ≤ one_if b + c → c ≤ n → (b ≡ true) × (n ≤ c)
full_at true c n h most = (refl, omega (arith, h))
full_at false c n h most = absurd (omega (arith, h, most))

full : (p : ℕ → Bool) (n : ℕ) → n ≤ count p n → (i : ℕ) → i < n → p i ≡ true
full p zero h i low = absurd (omega (arith, low))
full p (suc n) h i low =
    let both = full_at (p n) (count p n) n h (count_at_most p n) in
    elim (cases_lt i n) [
      | inl lower ↦ full p n both.1 i lower
      | inr above ↦ let same : i ≡ n = omega (arith, low, above) in ap p same ∙ both.0
    ]

-- ---- a name of a nest is one of a nest that isn't deeper than there are tildes

module _ (tildes : List Tilde) (y : List ℕ) where
  abbrev named : ℕ → ℕ → Bool
  named depth id = has (tilde_names tildes depth id) y

  abbrev Settled : ℕ → Type 0
  Settled depth = (id : ℕ) → named (suc depth) id ≡ true → named depth id ≡ true

  deeper : (depth id : ℕ) → named depth id ≡ true → named (suc depth) id ≡ true
  deeper zero id h = cc
  deeper (suc depth) id h = in_tilde y (tilde_names tildes depth) (tilde_names tildes (suc depth)) (deeper depth) (slice_get tildes id) h

  stays_settled : (depth : ℕ) → Settled depth → Settled (suc depth)
  stays_settled depth h id k = in_tilde y (tilde_names tildes (suc depth)) (tilde_names tildes depth) h (slice_get tildes id) k

  none_there : (ts : List Tilde) (id : ℕ) → length ts ≤ id → slice_get ts id ≡ None
  none_there [] id le = refl
  none_there (t ∷ ts) zero le = absurd (omega (arith, le))
  none_there (t ∷ ts) (suc id) le = none_there ts id (omega (arith, le))

  -- a number that names no tilde has no names
  beyond : (depth id : ℕ) → length tildes ≤ id → named (suc depth) id ≡ false
  beyond depth id le = ap (λ o. has (dollar_names (tilde_names tildes depth) o) y) (none_there tildes id le)

  settled_below : (depth : ℕ) → ((id : ℕ) → id < length tildes → named (suc depth) id ≡ true → named depth id ≡ true) → Settled depth
  settled_below depth h id k = elim (cases_lt id (length tildes)) [
    | inl lower ↦ h id lower k
    | inr above ↦ let clash : true ≡ false = sym k ∙ beyond depth id above in cc
  ]

  data Grown (depth : ℕ) : Type 0 where
    settled : Settled depth → Grown depth
    many : depth ≤ count (named depth) (length tildes) → Grown depth

  grown_by : (depth : ℕ) → depth ≤ count (named depth) (length tildes) → Compared (named depth) (named (suc depth)) (deeper depth) (length tildes) → Grown (suc depth)
  grown_by depth h (equal k) = settled (stays_settled depth (settled_below depth k))
  grown_by depth h (larger k) = many (omega (arith, h, k))

  grown : (depth : ℕ) → Grown depth
  grown zero = many (omega arith)
  grown (suc depth) = next (grown depth)
    where
      next : Grown depth → Grown (suc depth)
      next (settled h) = settled (stays_settled depth h)
      next (many h) = grown_by depth h (compared (named depth) (named (suc depth)) (deeper depth) (length tildes))

  settled_by : Grown (length tildes) → Settled (length tildes)
  settled_by (settled h) = h
  settled_by (many h) = settled_below (length tildes) (λ id low k. full (named (length tildes)) (length tildes) h id low)

  -- so the names of a tilde hold those of its dollars
  pub names_of_dollars : (id : ℕ) → has (dollar_names (tilde_names tildes (suc (length tildes))) (slice_get tildes id)) y ≡ true → has (tilde_names tildes (suc (length tildes)) id) y ≡ true
  names_of_dollars id h = stays_settled (length tildes) (settled_by (grown (length tildes))) id h
