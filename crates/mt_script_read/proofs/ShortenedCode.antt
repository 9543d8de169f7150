-- Code with short leaves is code, and is read whatever leaves the code had.
use Rattle.std.proofs.Common.{◌≡◌, ℕ, ◌≤◌, max, Bool, true, ◌&&◌, List, [], ◌∷◌, ◌++◌, map, Option, Some, None, refl, ap, ◌∙◌, arith, rules}
use Rattle.std.specs.Prelude.{option_map}
use Rattle.std.specs.List.{list_all}
use Rattle.std.proofs.lemmas.Bool.{and_from, and_parts}
use Rattle.std.proofs.lemmas.List.Folds.{list_all-append}
use Rattle.mt_tree.specs.declared.data.Data.{Data, the_lemmas}
use Rattle.mt_tree.specs.declared.data.Data as made
use Rattle.mt_syntax.specs.Codes.{IsCode, expr_kind_is_filled, is_filled, mark_is_nowhere, testing, testing_filled, testing_nowhere, testing_plain}
use Rattle.mt_syntax.specs.Data.{is_data}
use Rattle.mt_syntax.specs.Depth.{greatest}
use Rattle.mt_syntax.specs.Fold.{Every, ExprKindLayer, MarkupChildLayer, MarkupValueLayer, StmtKindLayer, DeclLayer, Steps, Tree, on_stmt, same}
use Rattle.mt_syntax.specs.Gathering.{all_of, gathering}
use Rattle.mt_syntax.specs.Numbering.{listing, listing_values, values_of, values_of_kind}
use Rattle.mt_syntax.specs.Shape.{Look, Part, all_fit, block_fits, decl_part, expr_kind_part, function_part, is_some_item, mark_fits, markup_child_part, markup_value_part, optional_fits, part, shaping, stmt_kind_part, texts_apart}
use Rattle.mt_syntax.specs.Texts.{comparing, length_of_name, length_of_own_name, longest_in, measuring_texts}
use Rattle.mt_syntax.specs.declared.tree.Mark.{Mark}
use Rattle.mt_syntax.specs.declared.tree.Stmt.{Stmt}
use Rattle.mt_syntax.specs.declared.tree.ExprKind.TheOpen.{ExprKind-F, MarkupChild-F, MarkupValue-F, StmtKind-F}
use Rattle.mt_syntax_laws.proofs.Gathered.{Alike, gathered}
use Rattle.mt_syntax_laws.proofs.Kept.{all_kept}
use Rattle.mt_syntax_laws.proofs.Layers.{map_expr_kind, map_markup_child, map_markup_value, map_stmt_kind}
use Rattle.mt_syntax_laws.proofs.Related.{Preserved, Two, lefts, related_stmt, rights}
use Rattle.mt_script_words.specs.Values.{is_within}
use Rattle.mt_script_read.specs.Readable.{IsReadable}
use Rattle.mt_script_read.proofs.Shortened.{attribute_kept, shortened_decl, shortened_expr_kind, shortened_markup_child, shortened_markup_value, shortened_stmt_kind, shortened_body, shortening, characters_kept, name_kept, short_attribute_units, short_characters_units, short_mark, short_name_units, short_tag_units, short_text_units, short_value, tag_kept, text_kept, value_kept}
use Rattle.mt_script_read.proofs.ShorteningSteps.{AreKept, stmt_shortened, stmt_kept}

-- ---- the form

part_kind : (x : ExprKindLayer (Every Part)) → expr_kind_part (shortened_expr_kind (Every Part) x) ≡ expr_kind_part x
part_kind (ExprKind-F.Name cs) = ap (part Look.Target) (name_kept cs)
part_kind (ExprKind-F.ExprKind::Text cs) = ap (part Look.Other) (text_kept cs)
part_kind (ExprKind-F.Val d) = refl
part_kind _ = refl

part_child : (x : MarkupChildLayer (Every Part)) → markup_child_part (shortened_markup_child (Every Part) x) ≡ markup_child_part x
part_child (MarkupChild-F.MarkupChild::Text cs) = ap (part Look.Characters) (characters_kept cs)
part_child _ = refl

part_value : (x : MarkupValueLayer (Every Part)) → markup_value_part (shortened_markup_value (Every Part) x) ≡ markup_value_part x
part_value (MarkupValue-F.Quoted cs) = ap (part Look.Other) (text_kept cs)
part_value _ = refl

part_stmt_kind : (x : StmtKindLayer (Every Part)) → stmt_kind_part (shortened_stmt_kind (Every Part) x) ≡ stmt_kind_part x
part_stmt_kind (StmtKind-F.Try body name handler) = λ i. part Look.Other (block_fits body && name_kept name.name i && block_fits handler)
part_stmt_kind _ = refl

part_decl : (x : DeclLayer (Every Part)) → decl_part (shortened_decl (Every Part) x) ≡ decl_part x
part_decl x = λ i. record { look = (decl_part x).look; fits = name_kept x.name.name i && optional_fits x.value }

marks_kept : (ms : List Mark) → list_all mark_fits (map short_mark ms) ≡ list_all mark_fits ms
marks_kept = all_kept mark_fits short_mark (λ m. name_kept m.name)

part_function : (name : Option Mark) (parameters : List Mark) (body : List Part)
    → function_part (record { name = option_map short_mark name; parameters = map short_mark parameters; body = body }) ≡ function_part (record { name = name; parameters = parameters; body = body })
part_function None parameters body =
    λ i. record { look = (function_part (record { name = None; parameters = parameters; body = body })).look; fits = true && marks_kept parameters i && list_all (λ p. p.fits) body }
part_function (Some m) parameters body =
    λ i. record { look = (function_part (record { name = Some m; parameters = parameters; body = body })).look; fits = name_kept m.name i && marks_kept parameters i && list_all (λ p. p.fits) body }

shape_is_kept : AreKept shaping
shape_is_kept = record {
  expr_kind = part_kind;
  markup_child = part_child;
  markup_value = part_value;
  stmt_kind = part_stmt_kind;
  decl = part_decl;
  function = λ x. part_function x.name x.parameters x.body;
  markup = λ x. ap (part Look.Other) (tag_kept x.tag (all_fit x.attributes) (all_fit x.children) (texts_apart x.children) (is_some_item x.children));
  markup_attribute = λ x. ap (λ b. part Look.Other (b && x.value.fits)) (attribute_kept x.name);
  prop = λ x. ap (λ b. part Look.Other (b && x.value.fits)) (text_kept x.name);
}

plain_kind : (x : ExprKindLayer (Every Bool)) → testing_plain.expr_kind (shortened_expr_kind (Every Bool) x) ≡ testing_plain.expr_kind x
plain_kind (ExprKind-F.Name cs) = refl
plain_kind (ExprKind-F.ExprKind::Text cs) = refl
plain_kind (ExprKind-F.Val d) = refl
plain_kind _ = refl

filled_kind : (x : ExprKindLayer (Every Bool)) → testing_filled.expr_kind (shortened_expr_kind (Every Bool) x) ≡ testing_filled.expr_kind x
filled_kind (ExprKind-F.Name cs) = refl
filled_kind (ExprKind-F.ExprKind::Text cs) = refl
filled_kind (ExprKind-F.Val d) = value_kept d
filled_kind _ = refl

nowhere_kind : (x : ExprKindLayer (Every Bool)) → testing_nowhere.expr_kind (shortened_expr_kind (Every Bool) x) ≡ testing_nowhere.expr_kind x
nowhere_kind (ExprKind-F.Name cs) = refl
nowhere_kind (ExprKind-F.ExprKind::Text cs) = refl
nowhere_kind (ExprKind-F.Val d) = refl
nowhere_kind _ = refl

test_child : (x : MarkupChildLayer (Every Bool)) → testing.markup_child (shortened_markup_child (Every Bool) x) ≡ testing.markup_child x
test_child (MarkupChild-F.MarkupChild::Text cs) = refl
test_child _ = refl

test_value : (x : MarkupValueLayer (Every Bool)) → testing.markup_value (shortened_markup_value (Every Bool) x) ≡ testing.markup_value x
test_value (MarkupValue-F.Quoted cs) = refl
test_value _ = refl

plain_stmt_kind : (x : StmtKindLayer (Every Bool)) → testing_plain.stmt_kind (shortened_stmt_kind (Every Bool) x) ≡ testing_plain.stmt_kind x
plain_stmt_kind (StmtKind-F.Try body name handler) = refl
plain_stmt_kind _ = refl

filled_stmt_kind : (x : StmtKindLayer (Every Bool)) → testing_filled.stmt_kind (shortened_stmt_kind (Every Bool) x) ≡ testing_filled.stmt_kind x
filled_stmt_kind (StmtKind-F.Try body name handler) = refl
filled_stmt_kind _ = refl

nowhere_stmt_kind : (x : StmtKindLayer (Every Bool)) → testing_nowhere.stmt_kind (shortened_stmt_kind (Every Bool) x) ≡ testing_nowhere.stmt_kind x
nowhere_stmt_kind (StmtKind-F.Try body name handler) = refl
nowhere_stmt_kind _ = refl

nowhere_function : (name : Option Mark) (parameters : List Mark) (body : List Bool)
    → testing_nowhere.function (record { name = option_map short_mark name; parameters = map short_mark parameters; body = body })
    ≡ testing_nowhere.function (record { name = name; parameters = parameters; body = body })
nowhere_function None parameters body = λ i. true && all_kept mark_is_nowhere short_mark (λ m. refl) parameters i && all_of true (λ a b. a && b) body
nowhere_function (Some m) parameters body = λ i. mark_is_nowhere m && all_kept mark_is_nowhere short_mark (λ m. refl) parameters i && all_of true (λ a b. a && b) body

plain_is_kept : AreKept testing_plain
plain_is_kept = record {
  expr_kind = plain_kind;
  markup_child = test_child;
  markup_value = test_value;
  stmt_kind = plain_stmt_kind;
  decl = λ x. refl;
  function = λ x. refl;
  markup = λ x. refl;
  markup_attribute = λ x. refl;
  prop = λ x. refl;
}

filled_is_kept : AreKept testing_filled
filled_is_kept = record {
  expr_kind = filled_kind;
  markup_child = test_child;
  markup_value = test_value;
  stmt_kind = filled_stmt_kind;
  decl = λ x. refl;
  function = λ x. refl;
  markup = λ x. refl;
  markup_attribute = λ x. refl;
  prop = λ x. refl;
}

nowhere_is_kept : AreKept testing_nowhere
nowhere_is_kept = record {
  expr_kind = nowhere_kind;
  markup_child = test_child;
  markup_value = test_value;
  stmt_kind = nowhere_stmt_kind;
  decl = λ x. refl;
  function = λ x. nowhere_function x.name x.parameters x.body;
  markup = λ x. refl;
  markup_attribute = λ x. refl;
  prop = λ x. refl;
}

shortened_is_code : (body : List Stmt) → IsCode body → IsCode (shortened_body body)
shortened_is_code body c = record {
  shaped = all_kept (λ s. (on_stmt shaping s).fits) (on_stmt (shortening Tree same)) (λ s. ap (λ p. p.fits) (stmt_kept shaping shape_is_kept s)) body ∙ c.shaped;
  plain = all_kept (on_stmt testing_plain) (on_stmt (shortening Tree same)) (stmt_kept testing_plain plain_is_kept) body ∙ c.plain;
  filled = all_kept (on_stmt testing_filled) (on_stmt (shortening Tree same)) (stmt_kept testing_filled filled_is_kept) body ∙ c.filled;
  nowhere = all_kept (on_stmt testing_nowhere) (on_stmt (shortening Tree same)) (stmt_kept testing_nowhere nowhere_is_kept) body ∙ c.nowhere;
}

-- ---- its texts

abbrev IsShort : ℕ → Unit {0} → Type 0
IsShort n u = n ≤ 2

abbrev nothing_told : Steps (Every (Unit {0}))
nothing_told = gathering tt (λ a b. tt)

abbrev measuring_shortened : Steps (Every ℕ)
measuring_shortened = shortening (Every ℕ) measuring_texts

both_short : (m n : ℕ) (u v : Unit {0}) → m ≤ 2 → n ≤ 2 → max m n ≤ 2
both_short m n u v h k = omega (arith, h, k)

parts_short : Preserved comparing nothing_told (Alike IsShort)
parts_short = gathered IsShort 0 max tt (λ a b. tt) (omega arith) both_short

short_kind : (x : ExprKindLayer (Two (Alike IsShort))) → measuring_shortened.expr_kind (map_expr_kind (lefts (Alike IsShort)) x) ≤ 2
short_kind (ExprKind-F.Name cs) = short_name_units cs
short_kind (ExprKind-F.ExprKind::Text cs) = short_text_units cs
short_kind (ExprKind-F.Val d) = omega arith
short_kind x = parts_short.expr_kind x

short_child : (x : MarkupChildLayer (Two (Alike IsShort))) → measuring_shortened.markup_child (map_markup_child (lefts (Alike IsShort)) x) ≤ 2
short_child (MarkupChild-F.MarkupChild::Text cs) = short_characters_units cs
short_child x = parts_short.markup_child x

short_quoted : (x : MarkupValueLayer (Two (Alike IsShort))) → measuring_shortened.markup_value (map_markup_value (lefts (Alike IsShort)) x) ≤ 2
short_quoted (MarkupValue-F.Quoted cs) = short_text_units cs
short_quoted x = parts_short.markup_value x

short_stmt_kind : (x : StmtKindLayer (Two (Alike IsShort))) → measuring_shortened.stmt_kind (map_stmt_kind (lefts (Alike IsShort)) x) ≤ 2
short_stmt_kind (StmtKind-F.Try body name handler) = omega (arith, short_name_units name.name, body.holds, handler.holds)
short_stmt_kind x = parts_short.stmt_kind x

short_parameters : (ms : List Mark) → greatest (map length_of_name (map short_mark ms)) ≤ 2
short_parameters [] = omega arith
short_parameters (m ∷ ms) = omega (arith, short_name_units m.name, short_parameters ms)

short_own : (name : Option Mark) → length_of_own_name (option_map short_mark name) ≤ 2
short_own None = omega arith
short_own (Some m) = short_name_units m.name

texts_short : Preserved measuring_shortened nothing_told (Alike IsShort)
texts_short =
    let base = parts_short in
    record {
      expr_kind = short_kind;
      for_start = base.for_start;
      markup_child = short_child;
      markup_value = short_quoted;
      stmt_kind = short_stmt_kind;
      decl = λ x. omega (arith, short_name_units x.name.name, base.decl x);
      expr = base.expr;
      function = λ x. omega (arith, short_own x.name, short_parameters x.parameters, base.function x);
      markup = λ x. omega (arith, short_tag_units x.tag, base.markup x);
      markup_attribute = λ x. omega (arith, short_attribute_units x.name, x.value.holds);
      prop = λ x. omega (arith, short_text_units x.name, x.value.holds);
      stmt = base.stmt;
    }

shortened_texts : (body : List Stmt) → longest_in (shortened_body body) ≤ 2
shortened_texts [] = omega arith
shortened_texts (s ∷ body) =
    let here : on_stmt measuring_shortened s ≤ 2 = related_stmt measuring_shortened nothing_told (Alike IsShort) texts_short s in
    omega (arith, stmt_shortened measuring_texts s, here, shortened_texts body)

-- ---- its values

abbrev AreSmall : List Data → Bool → Type 0
AreSmall ds b = b ≡ true → list_all is_within ds ≡ true

both_small : (ds es : List Data) (a b : Bool) → AreSmall ds a → AreSmall es b → AreSmall (ds ++ es) (a && b)
both_small ds es a b h k e =
    let parts = and_parts a b e in list_all-append is_within ds es ∙ and_from (list_all is_within ds) (list_all is_within es) (h parts.0) (k parts.1)

parts_small : Preserved (listing Data) testing (Alike AreSmall)
parts_small = gathered AreSmall [] (λ ds es. ds ++ es) true (λ a b. a && b) (λ e. refl) both_small

null_is_within : is_within made.Null ≡ true
null_is_within = search (rules, the_lemmas)

small_value : (d : Data) → is_data d ≡ true → list_all is_within (short_value d ∷ []) ≡ true
small_value d h = rw h (and_from (is_within made.Null) true null_is_within refl)

small_kind : (x : ExprKindLayer (Two (Alike AreSmall)))
    → AreSmall (values_of_kind (shortened_expr_kind (Every (List Data)) (map_expr_kind (lefts (Alike AreSmall)) x))) (expr_kind_is_filled (map_expr_kind (rights (Alike AreSmall)) x))
small_kind (ExprKind-F.Name cs) = λ e. refl
small_kind (ExprKind-F.ExprKind::Text cs) = λ e. refl
small_kind (ExprKind-F.ExprKind::Dollar at) = λ e. refl
small_kind (ExprKind-F.Val d) = small_value d
small_kind x = parts_small.expr_kind x

small_child : (x : MarkupChildLayer (Two (Alike AreSmall)))
    → AreSmall ((listing Data).markup_child (shortened_markup_child (Every (List Data)) (map_markup_child (lefts (Alike AreSmall)) x)))
    (testing.markup_child (map_markup_child (rights (Alike AreSmall)) x))
small_child (MarkupChild-F.MarkupChild::Text cs) = λ e. refl
small_child x = parts_small.markup_child x

small_quoted : (x : MarkupValueLayer (Two (Alike AreSmall)))
    → AreSmall ((listing Data).markup_value (shortened_markup_value (Every (List Data)) (map_markup_value (lefts (Alike AreSmall)) x)))
    (testing.markup_value (map_markup_value (rights (Alike AreSmall)) x))
small_quoted (MarkupValue-F.Quoted cs) = λ e. refl
small_quoted x = parts_small.markup_value x

small_stmt_kind : (x : StmtKindLayer (Two (Alike AreSmall)))
    → AreSmall ((listing Data).stmt_kind (shortened_stmt_kind (Every (List Data)) (map_stmt_kind (lefts (Alike AreSmall)) x))) (testing.stmt_kind (map_stmt_kind (rights (Alike AreSmall)) x))
small_stmt_kind (StmtKind-F.Try body name handler) = parts_small.stmt_kind (StmtKind-F.Try body name handler)
small_stmt_kind x = parts_small.stmt_kind x

values_small : Preserved (shortening (Every (List Data)) listing_values) testing_filled (Alike AreSmall)
values_small =
    let base = parts_small in
    record {
      expr_kind = small_kind;
      for_start = base.for_start;
      markup_child = small_child;
      markup_value = small_quoted;
      stmt_kind = small_stmt_kind;
      decl = base.decl;
      expr = base.expr;
      function = base.function;
      markup = base.markup;
      markup_attribute = base.markup_attribute;
      prop = base.prop;
      stmt = base.stmt;
    }

shortened_values : (body : List Stmt) → is_filled body ≡ true → list_all is_within (values_of (shortened_body body)) ≡ true
shortened_values [] h = refl
shortened_values (s ∷ body) h =
    let parts = and_parts (on_stmt testing_filled s) (is_filled body) h in
    let vs : List Data = on_stmt listing_values (on_stmt (shortening Tree same) s) in
    let here : list_all is_within vs ≡ true =
    ap (list_all is_within) (stmt_shortened listing_values s) ∙ related_stmt (shortening (Every (List Data)) listing_values) testing_filled (Alike AreSmall) values_small s parts.0 in
    list_all-append is_within vs (values_of (shortened_body body)) ∙ and_from (list_all is_within vs) (list_all is_within (values_of (shortened_body body))) here (shortened_values body parts.1)

-- ---- and so it is read

pub shortened_is_readable : (body : List Stmt) → IsCode body → IsReadable (shortened_body body)
shortened_is_readable body c = record { code = shortened_is_code body c; texts = omega (arith, shortened_texts body); values = shortened_values body c.filled }
