-- What is gathered from a whole program, whose tildes and dollars stand apart, where rules say what the nodes of the spelled tree give.
use Rattle.std.proofs.Common.{◌≡◌, ℕ, zero, suc, ◌+◌, ◌≤◌, List, [], ◌∷◌, ◌++◌, map, length, Some, refl, sym, ap, ◌∙◌, subst, arith, append-nil, append_assoc, length-append}
use Rattle.std.specs.Prelude.{slice_get}
use Rattle.mt_tree.specs.declared.place.Place.{Place}
use Rattle.mt_syntax.specs.Fold.{Every, ExprKindLayer, Steps, on_expr, on_stmt}
use Rattle.mt_syntax.specs.Gathering.{all_of, gathering, of_expr_kind, of_markup_child, of_markup_value}
use Rattle.mt_syntax.specs.declared.program.Program.{Program}
use Rattle.mt_syntax.specs.declared.program.Tilde.{Tilde}
use Rattle.mt_syntax.specs.declared.tree.Expr as syntax_expr
use Rattle.mt_syntax.specs.declared.tree.Stmt as syntax_stmt
use Rattle.mt_syntax.specs.declared.tree.ExprKind.TheOpen.{ExprKind-F}
use Rattle.mt_syntax.specs.Whole.{on_dollar, on_tilde, on_tilde_number, on_program}
use Rattle.mt_grammar.specs.Depth.{counted_place}
use Rattle.mt_grammar.specs.Nodes.{Node}
use Rattle.mt_grammar.specs.Nodes as n
use Rattle.mt_grammar.specs.ParseTree.{ParseTree, parse_tree, ParseTrees, no_trees, trees_and, stmts_trees}
use Rattle.mt_grammar.specs.Tree.{Stmts}
use Rattle.mt_parser_builder.specs.declared.tier.Tier.{Tier}
use Rattle.mt_parser_builder.specs.declared.tier.Tier.TheVariants as tier
use Rattle.mt_parser_builder.specs.Found.{Found, next_tilde, within, tilde_made, dollar_made}
use Rattle.mt_parser_builder.specs.Program.{nothing_found, program_of}
use Rattle.mt_parser.proofs.Gathering.{Gathering, IsPlain, steps}
use Rattle.mt_parser.proofs.Gathers.{Counts, Passes, Rules, body_gathers}
use Rattle.mt_parser.proofs.Joins.{Joins}
use Rattle.mt_parser.proofs.Places.{Has, has_first, has_last, has_itself}

-- where the tildes and dollars of a body are looked up: the tildes of the program, how deep they may nest, and the dollars of the tilde that the body is of
pub record Lookups : Type 0 where
  pub tildes : List Tilde
  pub nest : ℕ
  pub dollars : List syntax_expr.Expr

-- what server code adds to the dollars
abbrev pub FitsTier : Tier → List syntax_expr.Expr → Type 0
FitsTier tier.Client more = Unit {0}
FitsTier tier.Server more = more ≡ []

-- A gathering whose step at an expression is given the results on tildes and on dollars, by their numbers. `numbered` is what a tilde makes of its number and the result on its body.
pub record ProgramGathering (X : Type 0) : Type 0 where
  pub none : X
  pub join : X → X → X
  pub wrap : X → X
  pub kind : (ℕ → X) → (ℕ → X) → ExprKindLayer (Every X) → X
  pub numbered : ℕ → X → X
  pub joins : Joins none join
  pub kinds : (tilde dollar : ℕ → X) (x : ExprKindLayer (Every X)) → IsPlain x → kind tilde dollar x ≡ of_expr_kind none join x
  pub kind_tilde : (tilde dollar : ℕ → X) (id : ℕ) → kind tilde dollar (ExprKind-F.ExprKind::Tilde id) ≡ tilde id
  pub kind_dollar : (tilde dollar : ℕ → X) (at : ℕ) → kind tilde dollar (ExprKind-F.ExprKind::Dollar at) ≡ dollar at
  pub kind_stray : (tilde dollar : ℕ → X) (x : X) → kind tilde dollar (ExprKind-F.Stray x) ≡ x

module _ {X : Type 0} (p : ProgramGathering X) where
  abbrev pub program_steps : (ℕ → X) → (ℕ → X) → Steps (Every X)
  program_steps tilde dollar = record (gathering p.none p.join) { expr_kind = p.kind tilde dollar; expr = λ e. p.wrap e.kind; stmt = λ s. p.wrap s.kind }

  -- the result on a whole program
  abbrev pub in_program : Program → X
  in_program = on_program program_steps p.none (all_of p.none p.join) p.numbered

  abbrev in_tilde : List Tilde → ℕ → ℕ → X
  in_tilde = on_tilde_number program_steps p.none (all_of p.none p.join) p.numbered

  abbrev in_dollar : (ℕ → X) → List syntax_expr.Expr → ℕ → X
  in_dollar tilde dollars at = on_dollar program_steps p.none (all_of p.none p.join) p.numbered tilde (slice_get dollars at)

  abbrev kind_by : Lookups → ExprKindLayer (Every X) → X
  kind_by v = p.kind (in_tilde v.tildes v.nest) (in_dollar (in_tilde v.tildes v.nest) v.dollars)

  -- the gathering of a body, by where its tildes and dollars are looked up
  abbrev by_lookups : Gathering Lookups X
  by_lookups = record {
    none = p.none;
    join = p.join;
    wrap = p.wrap;
    kind = kind_by;
    child = λ v. of_markup_child p.none p.join;
    value = λ v. of_markup_value p.none p.join;
    joins = p.joins;
    kinds = λ v x plain. p.kinds (in_tilde v.tildes v.nest) (in_dollar (in_tilde v.tildes v.nest) v.dollars) x plain;
    children = λ v x plain. refl;
    values = λ v x plain. refl;
  }

  -- `Of r a m x`: the node r, whose tildes are numbered from a on and are m, gives x
  module _ (Of : ParseTree → ℕ → ℕ → X → Type 0) (Row : ParseTrees → ℕ → ℕ → X → Type 0) where
    pub record ProgramRules : Type 0 where
      pub nothing : (a : ℕ) → Row no_trees a 0 p.none
      pub behind : (rs : ParseTrees) (r : ParseTree) (a i : ℕ) (x : X) (j : ℕ) (y : X) → Row rs a i x → Of r (a + i) j y → Row (trees_and rs r) a (i + j) (p.join x y)
      pub counted : (z : Node) (rs : ParseTrees) (a i : ℕ) (x : X) → Counts (counted_place z) → Row rs a i x → Of (parse_tree z rs) a i (p.wrap x)
      pub passed : (z : Node) (rs : ParseTrees) (a i : ℕ) (x : X) → Passes (counted_place z) → Row rs a i x → Of (parse_tree z rs) a i x
      pub at_tilde : (place : Place) (i : ℕ) (rs : ParseTrees) (a m : ℕ) (x : X) → Row rs (a + 1) m x → Of (parse_tree (n.Tilde place i) rs) a (suc m) (p.wrap (p.numbered a x))

    -- from s to t these tildes and dollars were found, and where they are looked up the node gives what the rules say
    pub record FoundBetween (Holds : ℕ → ℕ → X → Type 0) (k : Tier) (s : Found) (x : Lookups → X) (t : Found) : Type 0 where
      pub new : List Tilde
      pub more : List syntax_expr.Expr
      pub before : t.before ≡ s.before
      pub tildes : t.tildes ≡ s.tildes ++ new
      pub dollars : t.dollars ≡ s.dollars ++ more
      pub fits : FitsTier k more
      pub holds : (v : Lookups) → Has v.tildes (next_tilde s) new → Has v.dollars (length s.dollars) more → length new ≤ v.nest → Holds (next_tilde s) (length new) (x v)

    abbrev OfFound : ParseTree → Tier → Found → (Lookups → X) → Found → Type 0
    OfFound r = FoundBetween (Of r)

    abbrev RowFound : ParseTrees → Tier → Found → (Lookups → X) → Found → Type 0
    RowFound rs = FoundBetween (Row rs)

    module _ (rules : ProgramRules) where
      same_next : (s t : Found) (new : List Tilde) → t.before ≡ s.before → t.tildes ≡ s.tildes ++ new → next_tilde t ≡ next_tilde s + length new
      same_next s t new e h = omega (arith, ap length h, length-append s.tildes new)

      fits_both : (k : Tier) (xs ys : List syntax_expr.Expr) → FitsTier k xs → FitsTier k ys → FitsTier k (xs ++ ys)
      fits_both tier.Client xs ys h g = tt
      fits_both tier.Server xs ys h g = ap (λ z. z ++ ys) h ∙ g

      none_fits : (k : Tier) → FitsTier k []
      none_fits tier.Client = tt
      none_fits tier.Server = refl

      found_nothing : (k : Tier) (s : Found) → RowFound no_trees k s (λ v. p.none) s
      found_nothing k s = record {
        new = [];
        more = [];
        before = refl;
        tildes = sym (append-nil s.tildes);
        dollars = sym (append-nil s.dollars);
        fits = none_fits k;
        holds = λ v h g l. rules.nothing (next_tilde s);
      }

      found_behind : (rs : ParseTrees) (r : ParseTree) (k : Tier) (s : Found) (x : Lookups → X) (t : Found) (y : Lookups → X) (u : Found)
          → RowFound rs k s x t → OfFound r k t y u → RowFound (trees_and rs r) k s (λ v. p.join (x v) (y v)) u
      found_behind rs r k s x t y u a b = record {
        new = a.new ++ b.new;
        more = a.more ++ b.more;
        before = b.before ∙ a.before;
        tildes = b.tildes ∙ ap (λ z. z ++ b.new) a.tildes ∙ append_assoc s.tildes a.new b.new;
        dollars = b.dollars ∙ ap (λ z. z ++ b.more) a.dollars ∙ append_assoc s.dollars a.more b.more;
        fits = fits_both k a.more b.more a.fits b.fits;
        holds = λ v h g l. joined v h g l;
      }
        where
          count : length (a.new ++ b.new) ≡ length a.new + length b.new
          count = length-append a.new b.new

          joined : (v : Lookups) → Has v.tildes (next_tilde s) (a.new ++ b.new) → Has v.dollars (length s.dollars) (a.more ++ b.more) → length (a.new ++ b.new) ≤ v.nest
              → Row (trees_and rs r) (next_tilde s) (length (a.new ++ b.new)) (p.join (x v) (y v))
          joined v h g l =
              let at = same_next s t a.new a.before a.tildes in
              let end : length t.dollars ≡ length s.dollars + length a.more = ap length a.dollars ∙ length-append s.dollars a.more in
              let first = a.holds v (has_first v.tildes (next_tilde s) a.new b.new h) (has_first v.dollars (length s.dollars) a.more b.more g) (omega (arith, l, count)) in
              let last = b.holds v (subst (λ i. Has v.tildes i b.new) (sym at) (has_last v.tildes (next_tilde s) a.new b.new h))
              (subst (λ i. Has v.dollars i b.more) (sym end) (has_last v.dollars (length s.dollars) a.more b.more g)) (omega (arith, l, count)) in
              subst (λ i. Row (trees_and rs r) (next_tilde s) i (p.join (x v) (y v))) (sym count)
              (rules.behind rs r (next_tilde s) (length a.new) (x v) (length b.new) (y v) first (subst (λ i. Of r i (length b.new) (y v)) at last))

      found_counted : (z : Node) (rs : ParseTrees) (k : Tier) (s : Found) (x : Lookups → X) (t : Found) → Counts (counted_place z) → RowFound rs k s x t → OfFound (parse_tree z rs) k s (λ v. p.wrap (x v)) t
      found_counted z rs k s x t c a = record {
        new = a.new;
        more = a.more;
        before = a.before;
        tildes = a.tildes;
        dollars = a.dollars;
        fits = a.fits;
        holds = λ v h g l. rules.counted z rs (next_tilde s) (length a.new) (x v) c (a.holds v h g l);
      }

      found_passed : (z : Node) (rs : ParseTrees) (k : Tier) (s : Found) (x : Lookups → X) (t : Found) → Passes (counted_place z) → RowFound rs k s x t → OfFound (parse_tree z rs) k s x t
      found_passed z rs k s x t c a = record {
        new = a.new;
        more = a.more;
        before = a.before;
        tildes = a.tildes;
        dollars = a.dollars;
        fits = a.fits;
        holds = λ v h g l. rules.passed z rs (next_tilde s) (length a.new) (x v) c (a.holds v h g l);
      }

      -- in a markup's dollar, where the code is the server's
      found_in_dollar : (z : Node) (rs : ParseTrees) (k : Tier) (s : Found) (x : Lookups → X) (t : Found) → Passes (counted_place z) → RowFound rs tier.Server s x t → OfFound (parse_tree z rs) k s x t
      found_in_dollar z rs k s x t c a = record {
        new = a.new;
        more = a.more;
        before = a.before;
        tildes = a.tildes;
        dollars = a.dollars;
        fits = server_fits k a.fits;
        holds = λ v h g l. rules.passed z rs (next_tilde s) (length a.new) (x v) c (a.holds v h g l);
      }
        where
          server_fits : (k : Tier) → a.more ≡ [] → FitsTier k a.more
          server_fits tier.Client e = tt
          server_fits tier.Server e = e

      found_stray : (place : Place) (rs : ParseTrees) (s : Found) (x : Lookups → X) (t : Found) → RowFound rs tier.Server s x t
          → OfFound (parse_tree (n.Dollar place) rs) tier.Server s (λ v. p.wrap (kind_by v (ExprKind-F.Stray (x v)))) t
      found_stray place rs s x t a =
          subst (λ y. OfFound (parse_tree (n.Dollar place) rs) tier.Server s y t) (λ i v. p.wrap (sym (p.kind_stray (in_tilde v.tildes v.nest) (in_dollar (in_tilde v.tildes v.nest) v.dollars) (x v)) i))
          (found_counted (n.Dollar place) rs tier.Server s x t tt a)

      abbrev in_body : List syntax_stmt.Stmt → Lookups → X
      in_body body v = all_of p.none p.join (map (on_stmt (steps by_lookups v)) body)

      abbrev own : Found → List syntax_stmt.Stmt → Found → Tilde
      own s body t = record { id = next_tilde s; body = body; dollars = t.dollars }

      found_tilde : (place : Place) (i : ℕ) (rs : ParseTrees) (k : Tier) (s : Found) (body : List syntax_stmt.Stmt) (t : Found) → RowFound rs tier.Client (within s) (in_body body) t
          → OfFound (parse_tree (n.Tilde place i) rs) k s (λ v. p.wrap (kind_by v (ExprKind-F.ExprKind::Tilde (next_tilde s)))) (tilde_made place s (body, t)).1
      found_tilde place i rs k s body t a = record {
        new = own s body t ∷ a.new;
        more = [];
        before = refl;
        tildes = ap (λ z. s.tildes ++ own s body t ∷ z) a.tildes;
        dollars = sym (append-nil s.dollars);
        fits = none_fits k;
        holds = λ v h g l. inner v.tildes v.nest v.dollars h l;
      }
        where
          inner : (all : List Tilde) (nest : ℕ) (dollars : List syntax_expr.Expr) → Has all (next_tilde s) (own s body t ∷ a.new) → suc (length a.new) ≤ nest
              → Of (parse_tree (n.Tilde place i) rs) (next_tilde s) (suc (length a.new)) (p.wrap (kind_by (record { tildes = all; nest = nest; dollars = dollars }) (ExprKind-F.ExprKind::Tilde (next_tilde s))))
          inner all zero dollars h l = absurd (omega (arith, l))
          inner all (suc nest) dollars h l =
              let v : Lookups = record { tildes = all; nest = nest; dollars = t.dollars } in
              let at : next_tilde (within s) ≡ next_tilde s + 1 = omega arith in
              let row = a.holds v (subst (λ j. Has all j a.new) (sym at) h.1) (subst (λ ds. Has ds 0 a.more) (sym a.dollars) (has_itself a.more)) (omega (arith, l)) in
              let body_is : in_tilde all (suc nest) (next_tilde s) ≡ p.numbered (next_tilde s) (in_body body v) =
              ap (λ o. p.numbered (next_tilde s) (on_tilde program_steps p.none (all_of p.none p.join) p.numbered (in_tilde all nest) o)) h.0 in
              let is = p.kind_tilde (in_tilde all (suc nest)) (in_dollar (in_tilde all (suc nest)) dollars) (next_tilde s) ∙ body_is in
              subst (λ x. Of (parse_tree (n.Tilde place i) rs) (next_tilde s) (suc (length a.new)) (p.wrap x)) (sym is)
              (rules.at_tilde place i rs (next_tilde s) (length a.new) (in_body body v) (subst (λ j. Row rs j (length a.new) (in_body body v)) at row))

      found_dollar : (place : Place) (rs : ParseTrees) (s : Found) (e : syntax_expr.Expr) (t : Found) → RowFound rs tier.Server s (λ v. on_expr (steps by_lookups v) e) t
          → OfFound (parse_tree (n.Dollar place) rs) tier.Client s (λ v. p.wrap (kind_by v (ExprKind-F.ExprKind::Dollar (length t.dollars)))) (dollar_made tier.Client place (e, t)).1
      found_dollar place rs s e t a = record {
        new = a.new;
        more = e ∷ [];
        before = a.before;
        tildes = a.tildes;
        dollars = ap (λ z. z ++ e ∷ []) same;
        fits = tt;
        holds = λ v h g l. given v h g l;
      }
        where
          same : t.dollars ≡ s.dollars
          same = a.dollars ∙ ap (λ z. s.dollars ++ z) a.fits ∙ append-nil s.dollars

          given : (v : Lookups) → Has v.tildes (next_tilde s) a.new → Has v.dollars (length s.dollars) (e ∷ []) → length a.new ≤ v.nest
              → Of (parse_tree (n.Dollar place) rs) (next_tilde s) (length a.new) (p.wrap (kind_by v (ExprKind-F.ExprKind::Dollar (length t.dollars))))
          given v h g l =
              let w : Lookups = record { tildes = v.tildes; nest = v.nest; dollars = [] } in
              let x = on_expr (steps by_lookups w) e in
              let row : Row rs (next_tilde s) (length a.new) x = a.holds w h (subst (λ z. Has [] (length s.dollars) z) (sym a.fits) tt) l in
              let looked_up : slice_get v.dollars (length t.dollars) ≡ Some e = ap (λ z. slice_get v.dollars (length z)) same ∙ g.0 in
              let is : kind_by v (ExprKind-F.ExprKind::Dollar (length t.dollars)) ≡ x =
              p.kind_dollar (in_tilde v.tildes v.nest) (in_dollar (in_tilde v.tildes v.nest) v.dollars) (length t.dollars)
              ∙ ap (on_dollar program_steps p.none (all_of p.none p.join) p.numbered (in_tilde v.tildes v.nest)) looked_up in
              subst (λ y. Of (parse_tree (n.Dollar place) rs) (next_tilde s) (length a.new) (p.wrap y)) (sym is) (rules.counted (n.Dollar place) rs (next_tilde s) (length a.new) x tt row)

      found_rules : Rules by_lookups OfFound RowFound
      found_rules = record {
        nothing = found_nothing;
        behind = found_behind;
        counted = found_counted;
        passed = found_passed;
        at_tilde = found_tilde;
        at_dollar = found_dollar;
        at_stray = found_stray;
        at_child = λ rs k s x t a. found_in_dollar n.ChildDollar rs k s x t tt a;
        at_value = λ rs k s x t a. found_in_dollar n.AttributeDollar rs k s x t tt a;
      }

      pub program_holds : (ss : Stmts) → Row (stmts_trees ss no_trees) 0 (length (program_of ss).tildes) (in_program (program_of ss))
      program_holds ss =
          let made = program_of ss in
          let a = body_gathers by_lookups OfFound RowFound found_rules ss tier.Server nothing_found in
          let v : Lookups = record { tildes = made.tildes; nest = suc (length made.tildes); dollars = [] } in
          let none_more : Has [] 0 a.more = subst (λ z. Has [] 0 z) (sym a.fits) tt in
          let row = a.holds v (subst (λ z. Has z 0 a.new) (sym a.tildes) (has_itself a.new)) none_more (let h = ap length a.tildes in omega arith) in
          subst (λ i. Row (stmts_trees ss no_trees) 0 i (in_program made)) (sym (ap length a.tildes)) row
