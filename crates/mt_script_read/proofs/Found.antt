-- Whatever is read is good.
use Rattle.std.proofs.Common.{◌≡◌, ℕ, zero, suc, ◌≤◌, Bool, true, ◌&&◌, eqb, List, [], ◌∷◌, map, length, drop, Option, Some, None, refl, ap, ◌∙◌, arith}
use Rattle.std.specs.List.{list_all}
use Rattle.std.proofs.lemmas.Bool.{and_from, leb-true}
use Rattle.mt_tree.specs.Text.{units_of}
use Rattle.mt_syntax.specs.Codes.{is_nowhere, mark_is_nowhere, name_is_nowhere, testing_nowhere}
use Rattle.mt_syntax.specs.Depth.{greatest}
use Rattle.mt_syntax.specs.Fold.{Tree, on_expr, on_stmt}
use Rattle.mt_syntax.specs.Gathering.{all_of}
use Rattle.mt_syntax.specs.Shape.{all_fit, is_number, mark_fits, shaping}
use Rattle.mt_syntax.specs.Substitution.{nowhere}
use Rattle.mt_syntax.specs.Sort.{Sort}
use Rattle.mt_syntax.specs.Sort as sort
use Rattle.mt_syntax.specs.declared.tree.Expr.{Expr}
use Rattle.mt_syntax.specs.declared.tree.ExprKind.{ExprKind}
use Rattle.mt_syntax.specs.declared.tree.Mark.{Mark}
use Rattle.mt_tree.specs.declared.operators.StepKind.{StepKind}
use Rattle.mt_syntax.specs.declared.tree.Stmt.{Stmt}
use Rattle.mt_syntax.specs.declared.tree.StmtKind.{StmtKind}
use Rattle.mt_syntax.specs.declared.tree.ExprKind.TheOpen.{ExprKind-F}
use Rattle.mt_syntax_laws.proofs.Layers.{map_function}
use Rattle.mt_syntax_laws.proofs.Related.{on}
use Rattle.mt_syntax.specs.Texts.{length_of_name, length_of_own_name}
use Rattle.mt_json.specs.Reading.{◌>>=◌, Parse, first_at, goes_on, many, past_comma}
use Rattle.mt_script_words.proofs.Found.{Finds, IsShortName, IsShortText, data_found, finds, finds_if, finds_nothing, names_found, numbers_found, texts_found, then_finds}
use Rattle.mt_script_words.specs.Keywords.{leader_of}
use Rattle.mt_script_words.specs.Literals.{string_at, text_at}
use Rattle.mt_script_words.specs.Values.{datum_of, is_within, number_of}
use Rattle.mt_script_words.specs.Words.{mark_at, name_of, unplaced_mark, word_of}
use Rattle.mt_script_words.specs.declared.keywords.Leader.{Leader}
use Rattle.mt_script_words.specs.declared.keywords.Leader.TheVariants as leader
use Rattle.mt_script_words.proofs.ValueTexts.{within}
use Rattle.mt_script_tree.specs.Expressions.{constant_of, function_at, is_target, number_at, own_name_at, stepped, value_at, word_at}
use Rattle.mt_script_tree.specs.Lists.{item_step, list_by}
use Rattle.mt_script_tree.specs.Made as made
use Rattle.mt_script_read.proofs.Goodness.{AreMarks, Each, Good, IfAny, IsMark, IsMarkIfAny, expr_good, expr_kind_good, function_good, nothing_clean, rows_clean, rows_fit, stmt_good}
use Rattle.mt_tree.specs.Limits.{text_limit}

-- where something is read, it is of this kind, whatever follows it
abbrev pub Reads : {A : Type 0} → (A → Type 0) → Option (A × List ℕ) → Type 0
Reads {A} P = Finds (λ (x : A × List ℕ). P x.0)

-- whatever the bytes are
abbrev pub Yields : {A : Type 0} → (A → Type 0) → Parse A → Type 0
Yields P parse = (bytes : List ℕ) → Reads P (parse bytes)

-- a read part is good, and so is what is made of it
pub reading : {A B : Type 0} (P : A → Type 0) (Q : B → Type 0) (o : Option (A × List ℕ)) (f : A × List ℕ → Option (B × List ℕ)) → Reads P o → ((x : A × List ℕ) → P x.0 → Reads Q (f x)) → Reads Q (o >>= f)
reading {A} {B} P Q o f h g = then_finds {P = λ (x : A × List ℕ). P x.0} {Q = λ (y : B × List ℕ). Q y.0} o f h g

pub gives : {A : Type 0} (P : A → Type 0) (x : A) (rest : List ℕ) → P x → Reads P (Some (x, rest))
gives {A} P x rest p = finds (λ (y : A × List ℕ). P y.0) (x, rest) p

abbrev pub Known : {A : Type 0} → A → Type 0
Known x = Unit {0}

pub known : {A : Type 0} (o : Option A) → Finds Known o
known o x e = tt

-- ---- lists

module _ {A : Type 0} (P : A → Type 0) where
  goes_on_finds : (more : Parse (List A)) (o : Option A) (rest : List ℕ) → IfAny P o → Reads (Each P) (more rest) → Reads (Each P) (goes_on more o rest)
  goes_on_finds more None rest p h = gives (Each P) [] rest tt
  goes_on_finds more (Some a) rest p h = reading (Each P) (Each P) (more rest) _ h (λ q all. gives (Each P) (a ∷ q.0) q.1 (p, all))

  pub many_yields : (step : Parse (Option A)) → Yields (IfAny P) step → (n : ℕ) → Yields (Each P) (many step n)
  unfolding many
  many_yields step h zero bytes = finds_nothing _
  many_yields step h (suc n) bytes = reading (IfAny P) (Each P) (step bytes) _ (h bytes) (λ s p. goes_on_finds (many step n) s.0 s.1 p (many_yields step h n s.1))

  step_yields : (close : ℕ) (item : Parse A) → Yields P item → Yields (IfAny P) (item_step close item)
  step_yields close item h bytes =
      then_finds {P = Known} {Q = λ (y : Option A × List ℕ). IfAny P y.0} (first_at bytes) _ (known (first_at bytes))
      (λ p k. finds_if (eqb p.0 close) (Some (None, p.1)) _ (λ e. gives (IfAny P) None p.1 tt)
      (λ e. reading P (IfAny P) (item (past_comma (p.0 ∷ p.1))) _ (h (past_comma (p.0 ∷ p.1))) (λ x good. gives (IfAny P) (Some x.0) x.1 good)))

  pub list_yields : (close : ℕ) (item : Parse A) → Yields P item → Yields (Each P) (list_by close item)
  list_yields close item h bytes = many_yields (item_step close item) (step_yields close item h) (length bytes) bytes

-- ---- names

pub mark_yields : Yields IsMark mark_at
mark_yields bytes =
    then_finds {P = IsShortName} {Q = λ (y : Mark × List ℕ). IsMark y.0} (name_of (word_of bytes)) _ (names_found (word_of bytes))
    (λ n is. gives IsMark (unplaced_mark n) _ (record { name = is.name; short = is.short; place = refl }))

pub mark_nowhere : (m : Mark) → IsMark m → mark_is_nowhere m ≡ true
mark_nowhere m is = ap is_nowhere is.place

marks_nowhere : (ms : List Mark) → AreMarks ms → list_all mark_is_nowhere ms ≡ true
marks_nowhere [] is = refl
marks_nowhere (m ∷ ms) is = and_from (mark_is_nowhere m) (list_all mark_is_nowhere ms) (mark_nowhere m is.0) (marks_nowhere ms is.1)

marks_fit : (ms : List Mark) → AreMarks ms → list_all mark_fits ms ≡ true
marks_fit [] is = refl
marks_fit (m ∷ ms) is = and_from (mark_fits m) (list_all mark_fits ms) is.0.name (marks_fit ms is.1)

pub mark_short : (m : Mark) → IsMark m → length_of_name m ≤ text_limit
mark_short m is = leb-true (units_of m.name) text_limit is.short

marks_short : (ms : List Mark) → AreMarks ms → greatest (map length_of_name ms) ≤ text_limit
marks_short [] is = omega arith
marks_short (m ∷ ms) is = omega (arith, mark_short m is.0, marks_short ms is.1)

-- whether a function's own name has the form of one
abbrev own_name_fits : Option Mark → Bool
own_name_fits None = true
own_name_fits (Some m) = mark_fits m

-- ---- what nodes make of good parts

abbrev pub GoodKind : ExprKind → Type 0
GoodKind = Good sort.ExprKind

abbrev pub GoodExpr : Expr → Type 0
GoodExpr = Good sort.Expr

pub made_expr : (k : ExprKind) → GoodKind k → GoodExpr (made.expr k)
made_expr k g = expr_good (record { place = nowhere; kind = k }) g.shaped g.clean

pub made_stmt : (k : StmtKind) → Good sort.StmtKind k → Good sort.Stmt (made.stmt k)
made_stmt k g = stmt_good (record { place = nowhere; kind = k }) g.shaped g.clean

pub both_fit : (s t : Sort) (a : Tree s) (b : Tree t) → Good s a → Good t b → ((on shaping s a).fits && (on shaping t b).fits) ≡ true
both_fit s t a b g h = and_from (on shaping s a).fits (on shaping t b).fits g.shaped h.shaped

-- ---- expressions without parts

pub value_yields : Yields GoodKind value_at
value_yields bytes =
    then_finds {P = Known} {Q = λ (y : ExprKind × List ℕ). GoodKind y.0} (string_at bytes) _ (known (string_at bytes))
    (λ s k. then_finds {P = λ d. is_within d ≡ true} {Q = λ (y : ExprKind × List ℕ). GoodKind y.0} (datum_of s.0) _ (data_found s.0)
    (λ d is. gives GoodKind _ _ (expr_kind_good (ExprKind-F.Val d) refl (record { plain_code = refl; filled_code = (within d is).data; no_places = refl; short_texts = omega arith; small_values = is }))))

pub number_yields : Yields GoodKind number_at
number_yields bytes =
    then_finds {P = λ z. is_number z ≡ true} {Q = λ (y : ExprKind × List ℕ). GoodKind y.0} (number_of (word_of bytes)) _ (numbers_found (word_of bytes))
    (λ z is. gives GoodKind _ _ (expr_kind_good (ExprKind-F.Num z) is nothing_clean))

name_finds : (word : List ℕ) → Finds GoodKind (name_of word >>= λ n. Some (made.kind (ExprKind-F.Name n)))
name_finds word =
    then_finds {P = IsShortName} {Q = GoodKind} (name_of word) _ (names_found word)
    (λ n is. finds _ _ (expr_kind_good (ExprKind-F.Name n) is.name (record { plain_code = refl; filled_code = refl; no_places = refl; short_texts = leb-true (units_of n) text_limit is.short; small_values = refl })))

constant_finds : (l : Leader) (word : List ℕ) → Finds GoodKind (constant_of l word)
constant_finds (leader.Truth b) word = finds _ _ (expr_kind_good (ExprKind-F.Bool b) refl nothing_clean)
constant_finds leader.Null word = finds _ _ (expr_kind_good ExprKind-F.Null refl nothing_clean)
constant_finds leader.Undefined word = finds _ _ (expr_kind_good ExprKind-F.Undefined refl nothing_clean)
constant_finds leader.Function word = name_finds word
constant_finds leader.Typeof word = name_finds word
constant_finds leader.Other word = name_finds word

pub word_yields : Yields GoodKind word_at
word_yields bytes =
    then_finds {P = GoodKind} {Q = λ (y : ExprKind × List ℕ). GoodKind y.0} (constant_of (leader_of (word_of bytes)) (word_of bytes)) _ (constant_finds (leader_of (word_of bytes)) (word_of bytes))
    (λ k good. gives GoodKind k _ good)

pub text_kind_yields : (bytes : List ℕ) → Reads GoodKind (text_at bytes >>= λ t. Some (made.kind (ExprKind-F.ExprKind::Text t.0), t.1))
text_kind_yields bytes =
    reading IsShortText GoodKind (text_at bytes) _ (texts_found bytes)
    (λ t is. gives GoodKind _ _ (expr_kind_good (ExprKind-F.ExprKind::Text t.0) is.scalars (record { plain_code = refl; filled_code = refl; no_places = refl; short_texts = leb-true (units_of t.0) text_limit is.short; small_values = refl })))

-- ---- functions

name_fit : (name : Option Mark) → IsMarkIfAny name → own_name_fits name ≡ true
name_fit None is = refl
name_fit (Some m) is = is.name

name_nowhere : (name : Option Mark) → IsMarkIfAny name → name_is_nowhere name ≡ true
name_nowhere None is = refl
name_nowhere (Some m) is = mark_nowhere m is

name_short : (name : Option Mark) → IsMarkIfAny name → length_of_own_name name ≤ text_limit
name_short None is = omega arith
name_short (Some m) is = mark_short m is

own_name_yields : Yields IsMarkIfAny own_name_at
own_name_yields bytes =
    then_finds {P = Known} {Q = λ (y : Option Mark × List ℕ). IsMarkIfAny y.0} (first_at bytes) _ (known (first_at bytes))
    (λ p k. finds_if (eqb p.0 32) _ (Some (None, p.0 ∷ p.1))
    (λ e. reading IsMark IsMarkIfAny (mark_at p.1) _ (mark_yields p.1) (λ m is. gives IsMarkIfAny (Some m.0) m.1 is))
    (λ e. gives IsMarkIfAny None (p.0 ∷ p.1) tt))

-- with what is known of the form, by whether there is a name
function_by : (name : Option Mark) (parameters : List Mark) (body : List Stmt) → IsMarkIfAny name → AreMarks parameters → Each (Good sort.Stmt) body
    → (shaping.function (map_function (on shaping) (record { name = name; parameters = parameters; body = body }))).fits ≡ ((own_name_fits name && list_all mark_fits parameters) && all_fit (map (on_stmt shaping) body))
    → Good sort.Function (made.function name parameters body)
function_by name parameters body own marks all form =
    let clean = rows_clean sort.Stmt body all in
    function_good (record { name = name; parameters = parameters; body = body })
    (form
    ∙ and_from (own_name_fits name && list_all mark_fits parameters) (all_fit (map (on_stmt shaping) body)) (and_from (own_name_fits name) (list_all mark_fits parameters) (name_fit name own) (marks_fit parameters marks)) (rows_fit sort.Stmt body all))
    (record {
      plain_code = clean.plain_code;
      filled_code = clean.filled_code;
      no_places = and_from (name_is_nowhere name && list_all mark_is_nowhere parameters) (all_of true (λ a b. a && b) (map (on_stmt testing_nowhere) body)) (and_from (name_is_nowhere name) (list_all mark_is_nowhere parameters) (name_nowhere name own) (marks_nowhere parameters marks)) clean.no_places;
      short_texts = omega (arith, name_short name own, marks_short parameters marks, clean.short_texts);
      small_values = clean.small_values;
    })

made_function : (name : Option Mark) (parameters : List Mark) (body : List Stmt) → IsMarkIfAny name → AreMarks parameters → Each (Good sort.Stmt) body → Good sort.Function (made.function name parameters body)
made_function None parameters body own marks all = function_by None parameters body own marks all refl
made_function (Some m) parameters body own marks all = function_by (Some m) parameters body own marks all refl

pub function_yields : (stmt : Parse Stmt) → Yields (Good sort.Stmt) stmt → Yields (Good sort.Function) (function_at stmt)
function_yields stmt s bytes =
    reading IsMarkIfAny (Good sort.Function) (own_name_at bytes) _ (own_name_yields bytes)
    (λ n own. reading AreMarks (Good sort.Function) (list_by 41 mark_at (drop 1 n.1)) _ (list_yields IsMark 41 mark_at mark_yields (drop 1 n.1))
    (λ ps marks. reading (Each (Good sort.Stmt)) (Good sort.Function) (list_by 125 stmt (drop 1 ps.1)) _ (list_yields (Good sort.Stmt) 125 stmt s (drop 1 ps.1))
    (λ body all. gives (Good sort.Function) _ body.1 (made_function n.0 ps.0 body.0 own marks all))))

-- ---- targets

pub target_step : (step : StepKind) (a : Expr) (bytes : List ℕ) → GoodExpr a → Reads GoodKind (stepped step a bytes)
target_step step a bytes g =
    finds_if (is_target a) _ None (λ e. gives GoodKind _ bytes (expr_kind_good (ExprKind-F.Step step a) (and_from (is_target a) (on_expr shaping a).fits e g.shaped) g.clean)) (λ e. finds_nothing _)
