-- Readable code is good in each of its nodes, and good code is readable; and code within the limits is readable.
use Rattle.std.proofs.Common.{◌≡◌, ◌+◌, ◌≤◌, Bool, true, false, ◌&&◌, List, [], ◌∷◌, ◌++◌, map, sum, refl, sym, ◌∙◌, arith}
use Rattle.std.specs.List.{list_all}
use Rattle.std.proofs.lemmas.Bool.{and_from, and_parts}
use Rattle.std.proofs.lemmas.List.Folds.{list_all-append}
use Rattle.std.proofs.lemmas.List.Sums.{sum_by-cons}
use Rattle.mt_tree.specs.declared.data.Data.{Data}
use Rattle.mt_syntax.specs.Codes.{IsCode, is_filled, is_plain, stands_nowhere, testing, testing_filled, testing_nowhere, testing_plain}
use Rattle.mt_syntax.specs.Data.{is_data}
use Rattle.mt_syntax.specs.DataLimits.{bytes_of_data, depth_of_data, nodes_of_data}
use Rattle.mt_syntax.specs.Depth.{greatest}
use Rattle.mt_syntax.specs.Fold.{ExprKindLayer, on_stmt}
use Rattle.mt_syntax.specs.Numbering.{listing, listing_values, values_of}
use Rattle.mt_syntax.specs.Shape.{is_shaped, shaping}
use Rattle.mt_syntax.specs.Sort as sort
use Rattle.mt_syntax.specs.declared.tree.Stmt.{Stmt}
use Rattle.mt_syntax.specs.declared.tree.ExprKind.TheOpen.{ExprKind-F}
use Rattle.mt_syntax_laws.proofs.Gathered.{Alike, gathered}
use Rattle.mt_syntax_laws.proofs.Layers.{map_expr_kind}
use Rattle.mt_syntax_laws.proofs.Related.{Preserved, Two, lefts, related_stmt, rights}
use Rattle.mt_script_words.specs.Values.{is_within}
use Rattle.mt_script_words.proofs.ValueTexts.{is_within_by}
use Rattle.mt_stage.specs.CodeLimits.{IsCodeWithinLimits}
use Rattle.mt_syntax.specs.Texts.{longest_in}
use Rattle.mt_script_read.specs.Readable.{IsReadable}
use Rattle.mt_script_read.proofs.Goodness.{AllGood, testing_within}
use Rattle.mt_tree.specs.Limits.{text_limit, data_byte_limit, data_node_limit, data_depth_limit}

-- ---- a test of each value

module _ (f : Data → Bool) where
  abbrev Passes : List Data → Bool → Type 0
  Passes vs b = list_all f vs ≡ b

  passes_both : (vs ws : List Data) (a b : Bool) → Passes vs a → Passes ws b → Passes (vs ++ ws) (a && b)
  passes_both vs ws a b p q = list_all-append f vs ws ∙ (λ i. p i && q i)

  passing : Preserved (listing Data) testing (Alike Passes)
  passing = gathered Passes [] (λ vs ws. vs ++ ws) true (λ a b. a && b) refl (λ vs ws a b. passes_both vs ws a b)

and_true : (b : Bool) → (b && true) ≡ b
and_true true = refl
and_true false = refl

within_kind : (x : ExprKindLayer (Two (Alike (Passes is_within)))) → Passes is_within (listing_values.expr_kind (map_expr_kind (lefts (Alike (Passes is_within))) x)) (testing_within.expr_kind (map_expr_kind (rights (Alike (Passes is_within))) x))
within_kind (ExprKind-F.Val d) = and_true (is_within d)
within_kind x = (passing is_within).expr_kind x

within_tested : Preserved listing_values testing_within (Alike (Passes is_within))
within_tested =
    let base = (passing is_within) in
    record {
      expr_kind = within_kind;
      for_start = base.for_start;
      markup_child = base.markup_child;
      markup_value = base.markup_value;
      stmt_kind = base.stmt_kind;
      decl = base.decl;
      expr = base.expr;
      function = base.function;
      markup = base.markup;
      markup_attribute = base.markup_attribute;
      prop = base.prop;
      stmt = base.stmt;
    }

-- ---- each value of a list within the limits is so by itself

each_within : (ds : List Data) → list_all is_data ds ≡ true → greatest (map depth_of_data ds) ≤ data_depth_limit → sum (map nodes_of_data ds) ≤ data_node_limit → sum (map bytes_of_data ds) ≤ data_byte_limit → list_all is_within ds ≡ true
each_within [] d depth nodes bytes = refl
each_within (x ∷ ds) d depth nodes bytes =
    let parts = and_parts (is_data x) (list_all is_data ds) d in
    let all_nodes : sum (map nodes_of_data (x ∷ ds)) ≡ nodes_of_data x + sum (map nodes_of_data ds) = sum_by-cons (λ n. n) (nodes_of_data x) (map nodes_of_data ds) in
    let all_bytes : sum (map bytes_of_data (x ∷ ds)) ≡ bytes_of_data x + sum (map bytes_of_data ds) = sum_by-cons (λ n. n) (bytes_of_data x) (map bytes_of_data ds) in
    let first : is_within x ≡ true = is_within_by x (record { «data» = parts.0; depth = omega arith; nodes = omega (arith, nodes, all_nodes); bytes = omega (arith, bytes, all_bytes) }) in
    and_from (is_within x) (list_all is_within ds) first (each_within ds parts.1 (omega arith) (omega (arith, nodes, all_nodes)) (omega (arith, bytes, all_bytes)))

-- ---- the two directions

goods : (body : List Stmt) → is_shaped body ≡ true → is_plain body ≡ true → is_filled body ≡ true → stands_nowhere body ≡ true → longest_in body ≤ text_limit → list_all is_within (values_of body) ≡ true → AllGood sort.Stmt body
goods [] shaped plain filled no_where short within = tt
goods (s ∷ body) shaped plain filled no_where short within =
    let a = and_parts (on_stmt shaping s).fits (is_shaped body) shaped in
    let b = and_parts (on_stmt testing_plain s) (is_plain body) plain in
    let c = and_parts (on_stmt testing_filled s) (is_filled body) filled in
    let d = and_parts (on_stmt testing_nowhere s) (stands_nowhere body) no_where in
    let e = and_parts (list_all is_within (on_stmt listing_values s)) (list_all is_within (values_of body)) (sym (list_all-append is_within (on_stmt listing_values s) (values_of body)) ∙ within) in
    let one : on_stmt testing_within s ≡ true = sym (related_stmt listing_values testing_within (Alike (Passes is_within)) within_tested s) ∙ e.0 in (
      record { shaped = a.0; clean = record { plain_code = b.0; filled_code = c.0; no_places = d.0; short_texts = omega arith; small_values = one } },
      goods body a.1 b.1 c.1 d.1 (omega arith) e.1,
    )

pub readable_is_good : (body : List Stmt) → IsReadable body → AllGood sort.Stmt body
readable_is_good body r = goods body r.code.shaped r.code.plain r.code.filled r.code.nowhere r.texts r.values

pub limits_are_readable : (body : List Stmt) → IsCodeWithinLimits body → IsReadable body
limits_are_readable body w = record { code = w.code; texts = w.texts; values = each_within (values_of body) w.values.data w.values.depth w.values.nodes w.values.bytes }

good_shaped : (body : List Stmt) → AllGood sort.Stmt body → is_shaped body ≡ true
good_shaped [] g = refl
good_shaped (s ∷ body) g = and_from (on_stmt shaping s).fits (is_shaped body) g.0.shaped (good_shaped body g.1)

good_plain : (body : List Stmt) → AllGood sort.Stmt body → is_plain body ≡ true
good_plain [] g = refl
good_plain (s ∷ body) g = and_from (on_stmt testing_plain s) (is_plain body) g.0.clean.plain_code (good_plain body g.1)

good_filled : (body : List Stmt) → AllGood sort.Stmt body → is_filled body ≡ true
good_filled [] g = refl
good_filled (s ∷ body) g = and_from (on_stmt testing_filled s) (is_filled body) g.0.clean.filled_code (good_filled body g.1)

good_nowhere : (body : List Stmt) → AllGood sort.Stmt body → stands_nowhere body ≡ true
good_nowhere [] g = refl
good_nowhere (s ∷ body) g = and_from (on_stmt testing_nowhere s) (stands_nowhere body) g.0.clean.no_places (good_nowhere body g.1)

good_is_code : (body : List Stmt) → AllGood sort.Stmt body → IsCode body
good_is_code body g = record { shaped = good_shaped body g; plain = good_plain body g; filled = good_filled body g; nowhere = good_nowhere body g }

good_is_short : (body : List Stmt) → AllGood sort.Stmt body → longest_in body ≤ text_limit
good_is_short [] g = omega arith
good_is_short (s ∷ body) g = omega (arith, g.0.clean.short_texts, good_is_short body g.1)

good_within : (body : List Stmt) → AllGood sort.Stmt body → list_all is_within (values_of body) ≡ true
good_within [] g = refl
good_within (s ∷ body) g =
    list_all-append is_within (on_stmt listing_values s) (values_of body)
    ∙ and_from (list_all is_within (on_stmt listing_values s)) (list_all is_within (values_of body)) (related_stmt listing_values testing_within (Alike (Passes is_within)) within_tested s ∙ g.0.clean.small_values) (good_within body g.1)

pub good_is_readable : (body : List Stmt) → AllGood sort.Stmt body → IsReadable body
good_is_readable body g = record { code = good_is_code body g; texts = good_is_short body g; values = good_within body g }
