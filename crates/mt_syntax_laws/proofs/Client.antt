-- Client code has no value of its own, so a derived tilde has a hole for each of its dollars, in their order.
use Rattle.std.specs.Prelude.{◌≡◌, refl, ℕ, zero, suc, ◌+◌, List, [], ◌∷◌, ◌++◌, map, flat_map, length, Some, option_to_list, slice_get, true, ◌&&◌}
use Rattle.std.specs.List.{list_all, range_with_len}
use Rattle.std.proofs.Common.{ap, sym, ◌∙◌, add-one}
use Rattle.std.proofs.lemmas.Bool.{and_from, and_parts, false≢true}
use Rattle.std.proofs.lemmas.List.Folds.{list_all-append}
use Rattle.mt_tree.specs.declared.data.Data.{Data}
use Rattle.mt_syntax.specs.Data.{is_data}
use Rattle.mt_syntax.specs.Derivation.{IsDerivedTilde}
use Rattle.mt_syntax.specs.Fold.{ExprKindLayer, MarkupChildLayer, MarkupValueLayer, on_stmt}
use Rattle.mt_syntax.specs.Numbering.{listing}
use Rattle.mt_syntax.specs.Tiers.{Tiers, both, by_tier, expr_kind_tiers, is_client_code, markup_child_tiers, markup_value_tiers, placing, tiers}
use Rattle.mt_syntax_laws.proofs.Filled.{dollars_by_holes}
use Rattle.mt_syntax_laws.proofs.Gathered.{Alike, gathered}
use Rattle.mt_syntax_laws.proofs.Holes.{Hole, holes_of, holes_of_kind, is_data_in, is_open, is_optional_data, listing_holes, number_in, value_in}
use Rattle.mt_syntax_laws.proofs.Layers.{map_expr_kind, map_markup_child, map_markup_value}
use Rattle.mt_syntax_laws.proofs.Related.{Preserved, Two, lefts, rights, related_stmt}
use Rattle.mt_syntax.specs.declared.program.Tilde.{Tilde}
use Rattle.mt_syntax.specs.declared.tree.Stmt.{Stmt}
use Rattle.mt_syntax.specs.declared.tree.ExprKind.TheOpen.{ExprKind-F, MarkupChild-F, MarkupValue-F}

abbrev AllOpen : List Hole → Type 0
AllOpen holes = list_all is_open holes ≡ true

open_both : (hs gs : List Hole) → AllOpen hs → AllOpen gs → AllOpen (hs ++ gs)
open_both hs gs p q = list_all-append is_open hs gs ∙ and_from (list_all is_open hs) (list_all is_open gs) p q

-- what may stand in a source has open holes alone
abbrev Open : Tiers → List Hole → Type 0
Open t holes = (t.client ≡ true → AllOpen holes) × (t.server ≡ true → AllOpen holes)

open_join : (a b : Tiers) (hs gs : List Hole) → Open a hs → Open b gs → Open (both a b) (hs ++ gs)
open_join a b hs gs p q =
    (λ e. let es = and_parts a.client b.client e in open_both hs gs (p.0 es.0) (q.0 es.1), λ e. let es = and_parts a.server b.server e in open_both hs gs (p.1 es.0) (q.1 es.1))

placed : Preserved placing (listing Hole) (Alike Open)
placed = gathered Open (tiers true true) both [] (λ hs gs. hs ++ gs) (λ e. refl, λ e. refl) open_join

open_kind : (x : ExprKindLayer (Two (Alike Open))) → Open (expr_kind_tiers (map_expr_kind (lefts (Alike Open)) x)) (holes_of_kind (map_expr_kind (rights (Alike Open)) x))
open_kind (ExprKind-F.ExprKind::Dollar at) = (λ e. refl, λ e. refl)
open_kind (ExprKind-F.Stray a) = (λ e. absurd (false≢true e), a.holds.1)
open_kind (ExprKind-F.Val d) = (λ e. absurd (false≢true e), λ e. absurd (false≢true e))
open_kind x = placed.expr_kind x

open_child : (x : MarkupChildLayer (Two (Alike Open)))
    → Open (markup_child_tiers (map_markup_child (lefts (Alike Open)) x)) ((listing Hole).markup_child (map_markup_child (rights (Alike Open)) x))
open_child (MarkupChild-F.MarkupChild::Dollar a) = (a.holds.1, a.holds.1)
open_child x = placed.markup_child x

open_value : (x : MarkupValueLayer (Two (Alike Open)))
    → Open (markup_value_tiers (map_markup_value (lefts (Alike Open)) x)) ((listing Hole).markup_value (map_markup_value (rights (Alike Open)) x))
open_value (MarkupValue-F.MarkupValue::Dollar a) = (a.holds.1, a.holds.1)
open_value x = placed.markup_value x

opening : Preserved by_tier listing_holes (Alike Open)
opening = record {
  expr_kind = open_kind;
  for_start = placed.for_start;
  markup_child = open_child;
  markup_value = open_value;
  stmt_kind = placed.stmt_kind;
  decl = placed.decl;
  expr = placed.expr;
  function = placed.function;
  markup = placed.markup;
  markup_attribute = placed.markup_attribute;
  prop = placed.prop;
  stmt = placed.stmt;
}

client_open : (body : List Stmt) → is_client_code body ≡ true → AllOpen (holes_of body)
client_open [] e = refl
client_open (t ∷ body) e =
    let es = and_parts (on_stmt by_tier t).client (is_client_code body) e in
    open_both (on_stmt listing_holes t) (holes_of body) ((related_stmt by_tier listing_holes (Alike Open) opening t).0 es.0) (client_open body es.1)

-- open holes are told by their numbers
by_numbers : (hs : List Hole) → AllOpen hs → hs ≡ map Hole.open_hole (flat_map number_in hs)
by_numbers [] e = refl
by_numbers (Hole.open_hole at ∷ hs) e = ap (λ gs. Hole.open_hole at ∷ gs) (by_numbers hs e)
by_numbers (Hole.filled_hole d ∷ hs) e = absurd (false≢true e)

pub derived_holes : (t : Tilde) → IsDerivedTilde t → holes_of t.body ≡ map Hole.open_hole (range_with_len 0 (length t.dollars))
derived_holes t derived =
    by_numbers (holes_of t.body) (client_open t.body derived.client) ∙ ap (map Hole.open_hole) (sym (dollars_by_holes t.body) ∙ derived.numbers)

-- ---- the values by number

range_next : (a n : ℕ) → range_with_len (a + 1) n ≡ map suc (range_with_len a n)
range_next a zero = refl
range_next a (suc n) = λ i. add-one a i ∷ range_next (a + 1) n i

behind_first : (d : Data) (ds : List Data) (ns : List ℕ) → map (slice_get (d ∷ ds)) (map suc ns) ≡ map (slice_get ds) ns
behind_first d ds [] = refl
behind_first d ds (n ∷ ns) = ap (λ rest. slice_get ds n ∷ rest) (behind_first d ds ns)

all_numbers : (ds : List Data) → map (slice_get ds) (range_with_len 0 (length ds)) ≡ map Some ds
all_numbers [] = refl
all_numbers (d ∷ ds) =
    ap (λ ns. Some d ∷ map (slice_get (d ∷ ds)) ns) (range_next 0 (length ds)) ∙ ap (λ rest. Some d ∷ rest) (behind_first d ds (range_with_len 0 (length ds)) ∙ all_numbers ds)

values_by_number : (ds : List Data) (ns : List ℕ) → flat_map (value_in ds) (map Hole.open_hole ns) ≡ flat_map option_to_list (map (slice_get ds) ns)
values_by_number ds [] = refl
values_by_number ds (n ∷ ns) = ap (λ rest. option_to_list (slice_get ds n) ++ rest) (values_by_number ds ns)

values_again : (ds : List Data) → flat_map option_to_list (map Some ds) ≡ ds
values_again [] = refl
values_again (d ∷ ds) = ap (λ rest. d ∷ rest) (values_again ds)

-- a hole for each of the values, in their order, takes just these
pub values_in_order : (ds : List Data) → flat_map (value_in ds) (map Hole.open_hole (range_with_len 0 (length ds))) ≡ ds
values_in_order ds = values_by_number ds (range_with_len 0 (length ds)) ∙ ap (flat_map option_to_list) (all_numbers ds) ∙ values_again ds

tests_by_number : (ds : List Data) (ns : List ℕ) → list_all (is_data_in ds) (map Hole.open_hole ns) ≡ list_all is_optional_data (map (slice_get ds) ns)
tests_by_number ds [] = refl
tests_by_number ds (n ∷ ns) = ap (λ rest. is_optional_data (slice_get ds n) && rest) (tests_by_number ds ns)

tests_again : (ds : List Data) → list_all is_optional_data (map Some ds) ≡ list_all is_data ds
tests_again [] = refl
tests_again (d ∷ ds) = ap (λ rest. is_data d && rest) (tests_again ds)

pub data_in_order : (ds : List Data) → list_all (is_data_in ds) (map Hole.open_hole (range_with_len 0 (length ds))) ≡ list_all is_data ds
data_in_order ds = tests_by_number ds (range_with_len 0 (length ds)) ∙ ap (list_all is_optional_data) (all_numbers ds) ∙ tests_again ds
