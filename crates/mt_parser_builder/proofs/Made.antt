-- What the trees of a spelled tree make, where numbers have no bound.
use Rattle.std.proofs.Common.{◌≡◌, ℕ, ◌+◌, List, [], ◌∷◌, ◌++◌, map, length, Option, Some, None, refl, sym, ap, ◌∙◌, arith, append_assoc}
use Rattle.std.proofs.lemmas.List.{append-nil}
use Rattle.mt_grammar.specs.Tree.{Title, a_service, a_declaration, a_named_expression, an_expression, heading_of, Key, plain, quoted, Names, no_names, names_and, names_count, Expr, name, number, text, property, constant, array, object, function, unary, step, operation, condition, assign, index, call, tilde, dollar, element, Exprs, no_exprs, exprs_and, exprs_count, Props, no_props, props_and, props_count, Attribute, attribute_plain, attribute_quoted, attribute_tilde, attribute_dollar, Attributes, no_attributes, attributes_and, attributes_count, Child, child_text, child_direct, child_dollar, Children, no_children, children_and, children_count, Decl, decl_only, decl_as, Decls, no_decls, decls_and, decls_count, Optional, absent, present, Start, start_optional, start_vars, Stmt, expression, var, declare, if_only, if_else, while, for, return, jump, throw, try, block, empty, Stmts, no_stmts, stmts_and, stmts_count}
use Rattle.mt_grammar.specs.Nodes as n
use Rattle.mt_grammar.specs.ParseTree.{ParseTree, parse_tree, ParseTrees, no_trees, trees_and, title_trees, names_trees, key_tree, expr_tree, attribute_tree, child_tree, decl_tree, optional_tree, start_tree, stmt_tree, exprs_trees, attributes_trees, children_trees, decls_trees, stmts_trees, props_trees}
use Rattle.mt_parser_marks.specs.Values.{text_of}
use Rattle.mt_syntax.specs.declared.tree.Mark as syntax_mark
use Rattle.mt_syntax.specs.declared.tree.Expr as syntax_expr
use Rattle.mt_syntax.specs.declared.tree.Stmt as syntax_stmt
use Rattle.mt_syntax.specs.declared.tree.MarkupChild as syntax_child
use Rattle.mt_syntax.specs.declared.tree.MarkupValue as syntax_value
use Rattle.mt_parser_builder.specs.declared.part.Part.{Part}
use Rattle.mt_parser_builder.specs.declared.part.Part.TheVariants as part
use Rattle.mt_parser_builder.specs.declared.tier.Tier.{Tier}
use Rattle.mt_parser_builder.specs.declared.tier.Tier.TheVariants as tier
use Rattle.mt_parser_builder.specs.declared.value.Value.{Value}
use Rattle.mt_parser_builder.specs.declared.value.Value.TheVariants as value
use Rattle.mt_parser_builder.specs.Syntax as made
use Rattle.mt_parser_builder.specs.Syntax.{mark_of}
use Rattle.mt_parser_builder.specs.Answer.{on_both}
use Rattle.mt_parser_builder.specs.Found.{Found, within, dollar_made}
use Rattle.mt_parser_builder.specs.Parts.{Values, expr_first, stmt_first, word_first, attribute_first, child_first, decl_first, prop_first, firsts}
use Rattle.mt_parser_builder.specs.Making.{Making, tilde_value, all_made, node_made, function_made}
use Rattle.mt_parser_builder.specs.Growing.{part_of}
use Rattle.mt_parser_builder.specs.Program.{name_of_title, names_of, prop_of, attribute_of, decl_made, attribute_name, expr_of, exprs_of, props_of, value_of, attributes_of, child_of, children_of, decl_of, decls_of, optional_of, start_of, stmt_of, stmts_of}

abbrev pub free_node : Part → List Making → Making
free_node (part.Tilde p i) children k s = on_both (all_made children tier.Client (within s)) (λ vs t. tilde_value p i s (vs, t))
free_node (part.Dollar p) children k s = on_both (all_made children tier.Server s) (λ vs t. on_both (expr_first vs) (λ e us. (let d = dollar_made k p (e, t) in Some (value.Expr d.0, d.1))))
free_node x children k s = node_made x children k s

abbrev mutual
  pub free : ParseTree → Making
  free (parse_tree x rs) = free_node (part_of x) (frees rs)

  pub frees : ParseTrees → List Making
  frees no_trees = []
  frees (trees_and rs r) = frees rs ++ free r ∷ []

-- ---- one more at the end of a row

abbrev pub adds : Values → Option (Value × Found) → Option (Values × Found)
adds vs o = on_both o (λ v u. Some (vs ++ v ∷ [], u))

abbrev pub puts : Value → Option (Values × Found) → Option (Values × Found)
puts x o = on_both o (λ vs u. Some (x ∷ vs, u))

abbrev pub then_adds : Making → Tier → Option (Values × Found) → Option (Values × Found)
then_adds a k o = on_both o (λ vs t. adds vs (a k t))

abbrev pub then_puts : Option (Value × Found) → (Found → Option (Values × Found)) → Option (Values × Found)
then_puts o g = on_both o (λ v t. puts v (g t))

last_of_three : (o : Option (Value × Found)) (x : Value) (vs : Values) → puts x (adds vs o) ≡ adds (x ∷ vs) o
last_of_three None x vs = refl
last_of_three (Some r) x vs = refl

last_of_two : (o : Option (Values × Found)) (a : Making) (k : Tier) (x : Value) → puts x (then_adds a k o) ≡ then_adds a k (puts x o)
last_of_two None a k x = refl
last_of_two (Some r) a k x = last_of_three (a k r.1) x r.0

last_of_one : (o : Option (Value × Found)) (rest : List Making) (a : Making) (k : Tier) → ((t : Found) → all_made (rest ++ a ∷ []) k t ≡ then_adds a k (all_made rest k t))
    → then_puts o (all_made (rest ++ a ∷ []) k) ≡ then_adds a k (then_puts o (all_made rest k))
last_of_one None rest a k h = refl
last_of_one (Some r) rest a k h = ap (puts r.0) (h r.1) ∙ last_of_two (all_made rest k r.1) a k r.0

pub all_and_last : (rest : List Making) (a : Making) (k : Tier) (s : Found) → all_made (rest ++ a ∷ []) k s ≡ then_adds a k (all_made rest k s)
all_and_last [] a k s = refl
all_and_last (b ∷ rest) a k s = last_of_one (b k s) rest a k (all_and_last rest a k)

pub one_more : (rest : List Making) (a : Making) (k : Tier) (s : Found) {vs : Values} {t : Found} {v : Value} {u : Found}
    → all_made rest k s ≡ Some (vs, t) → a k t ≡ Some (v, u) → all_made (rest ++ a ∷ []) k s ≡ Some (vs ++ v ∷ [], u)
one_more rest a k s {vs} {t} {v} {u} h e = all_and_last rest a k s ∙ ap (then_adds a k) h ∙ ap (adds vs) e

map_and_last : {X : Type 0} (f : X → Value) (xs : List X) (x : X) → map f xs ++ f x ∷ [] ≡ map f (xs ++ x ∷ [])
map_and_last f [] x = refl
map_and_last f (y ∷ xs) x = ap (λ z. f y ∷ z) (map_and_last f xs x)

row_more : {X : Type 0} (f : X → Value) (rest : List Making) (a : Making) (k : Tier) (s : Found) (vs : Values) (xs : List X) (t : Found) (x : X) (u : Found)
    → all_made rest k s ≡ Some (vs ++ map f xs, t) → a k t ≡ Some (f x, u) → all_made (rest ++ a ∷ []) k s ≡ Some (vs ++ map f (xs ++ x ∷ []), u)
row_more f rest a k s vs xs t x u h e =
    one_more rest a k s h e ∙ ap (λ z. Some (z, u)) (append_assoc vs (map f xs) (f x ∷ []) ∙ ap (λ z. vs ++ z) (map_and_last f xs x))

-- ---- the values of a row are those of its items

all_firsts : {X : Type 0} (f : Values → Option (X × Values)) (g : X → Value) → ((x : X) (vs : Values) → f (g x ∷ vs) ≡ Some (x, vs)) → (xs : List X) → firsts f (length xs) (map g xs) ≡ Some (xs, [])
all_firsts f g e [] = refl
all_firsts f g e (x ∷ xs) = rw (e x (map g xs), all_firsts f g e xs) refl

exprs_back : (es : List syntax_expr.Expr) → firsts expr_first (length es) (map value.Expr es) ≡ Some (es, [])
exprs_back = all_firsts expr_first value.Expr (λ e vs. refl)

pub stmts_back : (ss : List syntax_stmt.Stmt) → firsts stmt_first (length ss) (map value.Stmt ss) ≡ Some (ss, [])
stmts_back = all_firsts stmt_first value.Stmt (λ s vs. refl)

children_back : (cs : List syntax_child.MarkupChild) → firsts child_first (length cs) (map value.Child cs) ≡ Some (cs, [])
children_back = all_firsts child_first value.Child (λ c vs. refl)

abbrev decl_value : syntax_mark.Mark × Option syntax_expr.Expr → Value
decl_value d = value.Decl d.0 d.1

decls_back : (ds : List (syntax_mark.Mark × Option syntax_expr.Expr)) → firsts decl_first (length ds) (map decl_value ds) ≡ Some (map decl_made ds, [])
decls_back [] = refl
decls_back (d ∷ ds) = rw (decls_back ds) refl

abbrev key_value : Key → Value
key_value (plain m) = value.Word (mark_of m)
key_value (quoted m) = value.Key (text_of m.text)

abbrev prop_values : List (Key × syntax_expr.Expr) → Values
prop_values [] = []
prop_values (p ∷ ps) = key_value p.0 ∷ value.Expr p.1 ∷ prop_values ps

prop_back : (k : Key) (e : syntax_expr.Expr) (vs : Values) → prop_first (key_value k ∷ value.Expr e ∷ vs) ≡ Some (prop_of (k, e), vs)
prop_back (plain m) e vs = refl
prop_back (quoted m) e vs = refl

props_back : (ps : List (Key × syntax_expr.Expr)) → firsts prop_first (length ps) (prop_values ps) ≡ Some (map prop_of ps, [])
props_back [] = refl
props_back (p ∷ ps) = rw (prop_back p.0 p.1 (prop_values ps), props_back ps) refl

props_and_last : (ps : List (Key × syntax_expr.Expr)) (k : Key) (e : syntax_expr.Expr) → (prop_values ps ++ key_value k ∷ []) ++ value.Expr e ∷ [] ≡ prop_values (ps ++ (k, e) ∷ [])
props_and_last [] k e = refl
props_and_last (p ∷ ps) k e = ap (λ z. key_value p.0 ∷ value.Expr p.1 ∷ z) (props_and_last ps k e)

abbrev attribute_value : syntax_mark.Mark × syntax_value.MarkupValue → Value
attribute_value a = value.Attribute a.0 a.1

attributes_back : (ats : List (syntax_mark.Mark × syntax_value.MarkupValue)) (vs : Values) → firsts attribute_first (length ats) (map attribute_value ats ++ vs) ≡ Some (map attribute_of ats, vs)
attributes_back [] vs = refl
attributes_back (a ∷ ats) vs = rw (attributes_back ats vs) refl

words_back : (ms : List syntax_mark.Mark) (vs : Values) → firsts word_first (length ms) (map value.Word ms ++ vs) ≡ Some (ms, vs)
words_back [] vs = refl
words_back (m ∷ ms) vs = rw (words_back ms vs) refl

length_and_last : {X : Type 0} (xs : List X) (x : X) → length (xs ++ x ∷ []) ≡ length xs + 1
length_and_last [] x = refl
length_and_last (y ∷ xs) x = let h = length_and_last xs x in omega arith

names_counted : (ns : Names) → length (names_of ns) ≡ names_count ns
names_counted no_names = refl
names_counted (names_and ns m) = length_and_last (names_of ns) (mark_of m) ∙ ap (λ z. z + 1) (names_counted ns)

attributes_counted : (ats : Attributes) (k : Tier) (s : Found) → length (attributes_of k ats s).0 ≡ attributes_count ats
unfolding expr_of
attributes_counted no_attributes k s = refl
attributes_counted (attributes_and ats a) k s = length_and_last (attributes_of k ats s).0 _ ∙ ap (λ z. z + 1) (attributes_counted ats k s)

exprs_counted : (es : Exprs) (k : Tier) (s : Found) → length (exprs_of k es s).0 ≡ exprs_count es
unfolding expr_of
exprs_counted no_exprs k s = refl
exprs_counted (exprs_and es e) k s = length_and_last (exprs_of k es s).0 _ ∙ ap (λ z. z + 1) (exprs_counted es k s)

pub stmts_counted : (ss : Stmts) (k : Tier) (s : Found) → length (stmts_of k ss s).0 ≡ stmts_count ss
unfolding expr_of
stmts_counted no_stmts k s = refl
stmts_counted (stmts_and ss z) k s = length_and_last (stmts_of k ss s).0 _ ∙ ap (λ z. z + 1) (stmts_counted ss k s)

children_counted : (cs : Children) (k : Tier) (s : Found) → length (children_of k cs s).0 ≡ children_count cs
unfolding expr_of
children_counted no_children k s = refl
children_counted (children_and cs c) k s = length_and_last (children_of k cs s).0 _ ∙ ap (λ z. z + 1) (children_counted cs k s)

decls_counted : (ds : Decls) (k : Tier) (s : Found) → length (decls_of k ds s).0 ≡ decls_count ds
unfolding expr_of
decls_counted no_decls k s = refl
decls_counted (decls_and ds d) k s = length_and_last (decls_of k ds s).0 _ ∙ ap (λ z. z + 1) (decls_counted ds k s)

props_counted : (ps : Props) (k : Tier) (s : Found) → length (props_of k ps s).0 ≡ props_count ps
unfolding expr_of
props_counted no_props k s = refl
props_counted (props_and ps key e) k s = length_and_last (props_of k ps s).0 _ ∙ ap (λ z. z + 1) (props_counted ps k s)

-- ---- the words of a function

abbrev title_values : Title → Values
title_values (a_service m) = value.Word (mark_of m) ∷ []
title_values (a_declaration m) = value.Word (mark_of m) ∷ []
title_values (a_named_expression m) = value.Word (mark_of m) ∷ []
title_values an_expression = []

title_makes : (h : Title) (k : Tier) (s : Found) → all_made (frees (title_trees h no_trees)) k s ≡ Some (title_values h, s)
title_makes (a_service m) k s = refl
title_makes (a_declaration m) k s = refl
title_makes (a_named_expression m) k s = refl
title_makes an_expression k s = refl

names_make : (ns : Names) (rs : ParseTrees) (k : Tier) (s : Found) (vs : Values) (t : Found)
    → all_made (frees rs) k s ≡ Some (vs, t) → all_made (frees (names_trees ns rs)) k s ≡ Some (vs ++ map value.Word (names_of ns), t)
names_make no_names rs k s vs t h = h ∙ ap (λ z. Some (z, t)) (sym (append-nil vs))
names_make (names_and ns m) rs k s vs t h =
    row_more value.Word (frees (names_trees ns rs)) (free (parse_tree (n.Word m) no_trees)) k s vs (names_of ns) t (mark_of m) t (names_make ns rs k s vs t h) refl

words_and_body : (ms : List syntax_mark.Mark) (m i : ℕ) (ss : List syntax_stmt.Stmt) (called : Option syntax_mark.Mark) → length ms ≡ m → length ss ≡ i
    → on_both (firsts word_first m (map value.Word ms ++ map value.Stmt ss)) (λ ns ws. on_both (firsts stmt_first i ws) (λ body us. Some (made.function called ns body))) ≡ Some (made.function called ms ss)
words_and_body ms m i ss called e h = rw (sym e, sym h, words_back ms (map value.Stmt ss), stmts_back ss) refl

function_back : (h : Title) (ns : Names) (i : ℕ) (ss : List syntax_stmt.Stmt) → length ss ≡ i
    → function_made (heading_of h) (names_count ns) i ((title_values h ++ map value.Word (names_of ns)) ++ map value.Stmt ss) ≡ Some (made.function (name_of_title h) (names_of ns) ss)
function_back (a_service m) ns i ss e = words_and_body (names_of ns) (names_count ns) i ss (Some (mark_of m)) (names_counted ns) e
function_back (a_declaration m) ns i ss e = words_and_body (names_of ns) (names_count ns) i ss (Some (mark_of m)) (names_counted ns) e
function_back (a_named_expression m) ns i ss e = words_and_body (names_of ns) (names_count ns) i ss (Some (mark_of m)) (names_counted ns) e
function_back an_expression ns i ss e = words_and_body (names_of ns) (names_count ns) i ss None (names_counted ns) e

key_makes : (key : Key) (k : Tier) (s : Found) → free (key_tree key) k s ≡ Some (key_value key, s)
key_makes (plain m) k s = refl
key_makes (quoted m) k s = refl

-- ---- each spelled tree

mutual
  unfolding expr_tree expr_of

  expr_makes : (e : Expr) (k : Tier) (s : Found) → free (expr_tree e) k s ≡ Some (value.Expr (expr_of k e s).0, (expr_of k e s).1)
  expr_makes (name m) k s = refl
  expr_makes (number m) k s = refl
  expr_makes (text m) k s = refl
  expr_makes (property m) k s = refl
  expr_makes (constant p c) k s = refl
  expr_makes (array p es) k s = rw (exprs_make es no_trees k s [] s refl, sym (exprs_counted es k s), exprs_back (exprs_of k es s).0) refl
  expr_makes (object p ps) k s = rw (props_make ps no_trees k s [] s refl, sym (props_counted ps k s), props_back (props_of k ps s).0) refl
  expr_makes (function p h ns ss) k s = rw (stmts_make ss (names_trees ns (title_trees h no_trees)) k s (title_values h ++ map value.Word (names_of ns)) s (names_make ns (title_trees h no_trees) k s (title_values h) s (title_makes h k s)), function_back h ns (stmts_count ss) (stmts_of k ss s).0 (stmts_counted ss k s)) refl
  expr_makes (unary p u a) k s = rw (expr_makes a k s) refl
  expr_makes (step p d a) k s = rw (expr_makes a k s) refl
  expr_makes (operation p o a b) k s = rw (expr_makes a k s, expr_makes b k (expr_of k a s).1) refl
  expr_makes (condition p a b c) k s = rw (expr_makes a k s, expr_makes b k (expr_of k a s).1, expr_makes c k (expr_of k b (expr_of k a s).1).1) refl
  expr_makes (assign p o a b) k s = rw (expr_makes a k s, expr_makes b k (expr_of k a s).1) refl
  expr_makes (index p a b) k s = rw (expr_makes a k s, expr_makes b k (expr_of k a s).1) refl
  expr_makes (call p a es) k s = let x = expr_of k a s in
      rw (exprs_make es (trees_and no_trees (expr_tree a)) k s (value.Expr x.0 ∷ []) x.1 (rw (expr_makes a k s) refl), sym (exprs_counted es k x.1), exprs_back (exprs_of k es x.1).0) refl
  expr_makes (tilde p ss) k s = rw (stmts_make ss no_trees tier.Client (within s) [] (within s) refl, sym (stmts_counted ss tier.Client (within s)), stmts_back (stmts_of tier.Client ss (within s)).0) refl
  expr_makes (dollar p e) k s = rw (expr_makes e tier.Server s) refl
  expr_makes (element m ats cs) k s =
      let word = value.Word (mark_of m) ∷ [] in let x = attributes_of k ats s in let y = children_of k cs x.1 in
      let h = children_make cs (attributes_trees ats (trees_and no_trees (parse_tree (n.Word m) no_trees))) k s (word ++ map attribute_value x.0) x.1 (attributes_make ats (trees_and no_trees (parse_tree (n.Word m) no_trees)) k s word s refl) in
      rw (h, sym (attributes_counted ats k s), sym (children_counted cs k x.1), attributes_back x.0 (map value.Child y.0), children_back y.0) refl

  exprs_make : (es : Exprs) (rs : ParseTrees) (k : Tier) (s : Found) (vs : Values) (t : Found) → all_made (frees rs) k s ≡ Some (vs, t)
      → all_made (frees (exprs_trees es rs)) k s ≡ Some (vs ++ map value.Expr (exprs_of k es t).0, (exprs_of k es t).1)
  exprs_make no_exprs rs k s vs t h = h ∙ ap (λ z. Some (z, t)) (sym (append-nil vs))
  exprs_make (exprs_and es e) rs k s vs t h =
      row_more value.Expr (frees (exprs_trees es rs)) (free (expr_tree e)) k s vs (exprs_of k es t).0 (exprs_of k es t).1 (expr_of k e (exprs_of k es t).1).0 (expr_of k e (exprs_of k es t).1).1 (exprs_make es rs k s vs t h) (expr_makes e k (exprs_of k es t).1)

  props_make : (ps : Props) (rs : ParseTrees) (k : Tier) (s : Found) (vs : Values) (t : Found) → all_made (frees rs) k s ≡ Some (vs, t)
      → all_made (frees (props_trees ps rs)) k s ≡ Some (vs ++ prop_values (props_of k ps t).0, (props_of k ps t).1)
  props_make no_props rs k s vs t h = h ∙ ap (λ z. Some (z, t)) (sym (append-nil vs))
  props_make (props_and ps key e) rs k s vs t h =
      let x = props_of k ps t in let y = expr_of k e x.1 in
      one_more (frees (props_trees ps rs) ++ free (key_tree key) ∷ []) (free (expr_tree e)) k s
      (one_more (frees (props_trees ps rs)) (free (key_tree key)) k s (props_make ps rs k s vs t h) (key_makes key k x.1)) (expr_makes e k x.1)
      ∙ ap (λ z. Some (z, y.1)) (ap (λ z. z ++ value.Expr y.0 ∷ []) (append_assoc vs (prop_values x.0) (key_value key ∷ [])) ∙ append_assoc vs (prop_values x.0 ++ key_value key ∷ []) (value.Expr y.0 ∷ []) ∙ ap (λ z. vs ++ z) (props_and_last x.0 key y.0))

  attribute_makes : (a : Attribute) (k : Tier) (s : Found) → free (attribute_tree a) k s ≡ Some (attribute_value (attribute_name a, (value_of k a s).0), (value_of k a s).1)
  attribute_makes (attribute_plain m) k s = refl
  attribute_makes (attribute_quoted m v) k s = refl
  attribute_makes (attribute_tilde m e) k s = rw (expr_makes e k s) refl
  attribute_makes (attribute_dollar m e) k s = rw (expr_makes e tier.Server s) refl

  attributes_make : (ats : Attributes) (rs : ParseTrees) (k : Tier) (s : Found) (vs : Values) (t : Found) → all_made (frees rs) k s ≡ Some (vs, t)
      → all_made (frees (attributes_trees ats rs)) k s ≡ Some (vs ++ map attribute_value (attributes_of k ats t).0, (attributes_of k ats t).1)
  attributes_make no_attributes rs k s vs t h = h ∙ ap (λ z. Some (z, t)) (sym (append-nil vs))
  attributes_make (attributes_and ats a) rs k s vs t h =
      row_more attribute_value (frees (attributes_trees ats rs)) (free (attribute_tree a)) k s vs (attributes_of k ats t).0 (attributes_of k ats t).1 (attribute_name a, (value_of k a (attributes_of k ats t).1).0) (value_of k a (attributes_of k ats t).1).1 (attributes_make ats rs k s vs t h) (attribute_makes a k (attributes_of k ats t).1)

  child_makes : (c : Child) (k : Tier) (s : Found) → free (child_tree c) k s ≡ Some (value.Child (child_of k c s).0, (child_of k c s).1)
  child_makes (child_text m) k s = refl
  child_makes (child_direct e) k s = rw (expr_makes e k s) refl
  child_makes (child_dollar e) k s = rw (expr_makes e tier.Server s) refl

  children_make : (cs : Children) (rs : ParseTrees) (k : Tier) (s : Found) (vs : Values) (t : Found) → all_made (frees rs) k s ≡ Some (vs, t)
      → all_made (frees (children_trees cs rs)) k s ≡ Some (vs ++ map value.Child (children_of k cs t).0, (children_of k cs t).1)
  children_make no_children rs k s vs t h = h ∙ ap (λ z. Some (z, t)) (sym (append-nil vs))
  children_make (children_and cs c) rs k s vs t h =
      row_more value.Child (frees (children_trees cs rs)) (free (child_tree c)) k s vs (children_of k cs t).0 (children_of k cs t).1 (child_of k c (children_of k cs t).1).0 (child_of k c (children_of k cs t).1).1 (children_make cs rs k s vs t h) (child_makes c k (children_of k cs t).1)

  decl_makes : (d : Decl) (k : Tier) (s : Found) → free (decl_tree d) k s ≡ Some (decl_value (decl_of k d s).0, (decl_of k d s).1)
  decl_makes (decl_only m) k s = refl
  decl_makes (decl_as m e) k s = rw (expr_makes e k s) refl

  decls_make : (ds : Decls) (rs : ParseTrees) (k : Tier) (s : Found) (vs : Values) (t : Found) → all_made (frees rs) k s ≡ Some (vs, t)
      → all_made (frees (decls_trees ds rs)) k s ≡ Some (vs ++ map decl_value (decls_of k ds t).0, (decls_of k ds t).1)
  decls_make no_decls rs k s vs t h = h ∙ ap (λ z. Some (z, t)) (sym (append-nil vs))
  decls_make (decls_and ds d) rs k s vs t h =
      row_more decl_value (frees (decls_trees ds rs)) (free (decl_tree d)) k s vs (decls_of k ds t).0 (decls_of k ds t).1 (decl_of k d (decls_of k ds t).1).0 (decl_of k d (decls_of k ds t).1).1 (decls_make ds rs k s vs t h) (decl_makes d k (decls_of k ds t).1)

  optional_makes : (o : Optional) (k : Tier) (s : Found) → free (optional_tree o) k s ≡ Some (value.Optional (optional_of k o s).0, (optional_of k o s).1)
  optional_makes absent k s = refl
  optional_makes (present e) k s = rw (expr_makes e k s) refl

  start_makes : (a : Start) (k : Tier) (s : Found) → free (start_tree a) k s ≡ Some (value.Start (start_of k a s).0, (start_of k a s).1)
  start_makes (start_optional o) k s = rw (optional_makes o k s) refl
  start_makes (start_vars ds) k s = rw (decls_make ds no_trees k s [] s refl, sym (decls_counted ds k s), decls_back (decls_of k ds s).0) refl

  stmt_makes : (z : Stmt) (k : Tier) (s : Found) → free (stmt_tree z) k s ≡ Some (value.Stmt (stmt_of k z s).0, (stmt_of k z s).1)
  stmt_makes (expression p e) k s = rw (expr_makes e k s) refl
  stmt_makes (var p d ds) k s = rw (decls_make ds no_trees k s [] s refl, sym (decls_counted ds k s), decls_back (decls_of k ds s).0) refl
  stmt_makes (declare p h ns ss) k s = rw (stmts_make ss (names_trees ns (title_trees h no_trees)) k s (title_values h ++ map value.Word (names_of ns)) s (names_make ns (title_trees h no_trees) k s (title_values h) s (title_makes h k s)), function_back h ns (stmts_count ss) (stmts_of k ss s).0 (stmts_counted ss k s)) refl
  stmt_makes (if_only p e b) k s = rw (expr_makes e k s, stmt_makes b k (expr_of k e s).1) refl
  stmt_makes (if_else p e b c) k s = rw (expr_makes e k s, stmt_makes b k (expr_of k e s).1, stmt_makes c k (stmt_of k b (expr_of k e s).1).1) refl
  stmt_makes (while p e b) k s = rw (expr_makes e k s, stmt_makes b k (expr_of k e s).1) refl
  stmt_makes (for p a b c d) k s =
      let x = start_of k a s in let y = optional_of k b x.1 in let z = optional_of k c y.1 in
      rw (start_makes a k s, optional_makes b k x.1, optional_makes c k y.1, stmt_makes d k z.1) refl
  stmt_makes (return p o) k s = rw (optional_makes o k s) refl
  stmt_makes (jump p j) k s = refl
  stmt_makes (throw p e) k s = rw (expr_makes e k s) refl
  stmt_makes (try p a m b) k s = rw (stmt_makes a k s, stmt_makes b k (stmt_of k a s).1) refl
  stmt_makes (block p ss) k s = rw (stmts_make ss no_trees k s [] s refl, sym (stmts_counted ss k s), stmts_back (stmts_of k ss s).0) refl
  stmt_makes (empty p) k s = refl

  pub stmts_make : (ss : Stmts) (rs : ParseTrees) (k : Tier) (s : Found) (vs : Values) (t : Found) → all_made (frees rs) k s ≡ Some (vs, t)
      → all_made (frees (stmts_trees ss rs)) k s ≡ Some (vs ++ map value.Stmt (stmts_of k ss t).0, (stmts_of k ss t).1)
  stmts_make no_stmts rs k s vs t h = h ∙ ap (λ z. Some (z, t)) (sym (append-nil vs))
  stmts_make (stmts_and ss z) rs k s vs t h =
      row_more value.Stmt (frees (stmts_trees ss rs)) (free (stmt_tree z)) k s vs (stmts_of k ss t).0 (stmts_of k ss t).1 (stmt_of k z (stmts_of k ss t).1).0 (stmt_of k z (stmts_of k ss t).1).1 (stmts_make ss rs k s vs t h) (stmt_makes z k (stmts_of k ss t).1)
