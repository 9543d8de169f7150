-- The text of a datum has at most eight tokens for each of its nodes.
use Rattle.std.proofs.Common.{◌≡◌, ℕ, suc, ◌+◌, ◌*◌, ◌≤◌, ℤ, List, [], ◌∷◌, length, map, sum, Bool, refl, ap, subst, ◌∙◌, arith, rules}
use denote.Hole.Carrier.{roll}
use Rattle.std.proofs.lemmas.List.{length-append}
use Rattle.std.proofs.lemmas.List.Sums.{sum_by-cons}
use Rattle.std.specs.Str.{encode_utf8_all}
use Rattle.mt_tree.specs.declared.data.Data.{Data, roll-Data, map-Data, the_lemmas}
use Rattle.mt_tree.specs.declared.data.Data as made
use Rattle.mt_tree.specs.declared.data.Entry.{Entry}
use Rattle.mt_tree.specs.declared.data.Data.TheOpen.{Data-F}
use Rattle.mt_tree.specs.declared.data.Data.TheFolds.{ind-Data}
use Rattle.mt_syntax.specs.DataLimits.{nodes_of_data, nodes_of_entry}
use Rattle.json.specs.Token.Token.{end_object}
use Rattle.json.specs.Tree.{json_tokens, items_tokens}
use Rattle.serde_json.specs.Data as json
use Rattle.serde_json.specs.View.{items_of}
use Rattle.serde_json.specs.Written.{outline, items_outline}
use Rattle.mt_json.proofs.JsonOf.{json_of, json_of_entry, json_Undefined, json_Null, json_Bool, json_Num, json_Text, json_Arr, json_Obj, json_Svc, json_Entry, one_member}

abbrev pub size : json.Data → ℕ
size j = length (json_tokens (outline j))

items_size : (js : List json.Data) → length (items_tokens (items_outline (items_of js))) ≡ sum (map size js) + 1
items_size [] = refl
items_size (j ∷ js) = length-append (json_tokens (outline j)) (items_tokens (items_outline (items_of js))) ∙ omega (arith, items_size js, sum_by-cons (λ n. n) (size j) (map size js))

array_size : (js : List json.Data) → size (json.array (items_of js)) ≡ sum (map size js) + 2
array_size js = let rest = items_size js in omega arith

member_size : (letter : ℕ) (j : json.Data) → size (one_member letter j) ≡ size j + 3
member_size letter j = let all = length-append (json_tokens (outline j)) (end_object ∷ []) in omega arith

-- ---- with the three tokens of an entry round it

abbrev pub Small : Data → Type 0
Small d = size (json_of d) + 3 ≤ 8 * nodes_of_data d

abbrev SmallEntry : Entry → Type 0
SmallEntry e = size (json_of_entry e) ≤ 8 * nodes_of_entry e

nodes_Undefined : nodes_of_data made.Undefined ≡ 1
nodes_Undefined = search (rules, the_lemmas)

nodes_Null : nodes_of_data made.Null ≡ 1
nodes_Null = search (rules, the_lemmas)

nodes_Bool : (b : Bool) → nodes_of_data (made.Bool b) ≡ 1
nodes_Bool b = search (rules, the_lemmas)

nodes_Num : (z : ℤ) → nodes_of_data (made.Num z) ≡ 1
nodes_Num z = search (rules, the_lemmas)

nodes_Text : (cs : List ℕ) → nodes_of_data (made.Text cs) ≡ 1
nodes_Text cs = search (rules, the_lemmas)

nodes_Svc : (cs : List ℕ) → nodes_of_data (made.Svc cs) ≡ 1
nodes_Svc cs = search (rules, the_lemmas)

nodes_Arr : (ds : List Data) → nodes_of_data (made.Arr ds) ≡ suc (sum (map nodes_of_data ds))
nodes_Arr ds = search (rules, the_lemmas)

nodes_Obj : (es : List Entry) → nodes_of_data (made.Obj es) ≡ suc (sum (map nodes_of_entry es))
nodes_Obj es = search (rules, the_lemmas)

nodes_Entry : (e : Entry) → nodes_of_entry e ≡ nodes_of_data e.value
nodes_Entry e = search (rules, the_lemmas)

by_value : (d : Data) (j : json.Data) (n k : ℕ) → json_of d ≡ j → nodes_of_data d ≡ n → size j ≡ k → k + 3 ≤ 8 * n → Small d
by_value d j n k is nodes count le = omega (arith, ap size is, nodes, count, le)

abbrev EachSmall : List Data → Type 0
EachSmall [] = Unit {0}
EachSmall (d ∷ ds) = Small d × EachSmall ds

abbrev EachSmallEntry : List Entry → Type 0
EachSmallEntry [] = Unit {0}
EachSmallEntry (e ∷ es) = SmallEntry e × EachSmallEntry es

all_small_size : (ds : List Data) → EachSmall ds → sum (map size (map json_of ds)) ≤ 8 * sum (map nodes_of_data ds)
all_small_size [] each = omega arith
all_small_size (d ∷ ds) each =
    omega (arith, each.0, all_small_size ds each.1, sum_by-cons (λ n. n) (size (json_of d)) (map size (map json_of ds)), sum_by-cons (λ n. n) (nodes_of_data d) (map nodes_of_data ds))

all_entries_size : (es : List Entry) → EachSmallEntry es → sum (map size (map json_of_entry es)) ≤ 8 * sum (map nodes_of_entry es)
all_entries_size [] each = omega arith
all_entries_size (e ∷ es) each =
    omega (arith, each.0, all_entries_size es each.1, sum_by-cons (λ n. n) (size (json_of_entry e)) (map size (map json_of_entry es)), sum_by-cons (λ n. n) (nodes_of_entry e) (map nodes_of_entry es))

small_Arr : (ds : List Data) → EachSmall ds → Small (made.Arr ds)
small_Arr ds each = omega (arith, ap size (json_Arr ds), array_size (map json_of ds), nodes_Arr ds, all_small_size ds each)

small_Obj : (es : List Entry) → EachSmallEntry es → Small (made.Obj es)
small_Obj es each =
    omega (arith, ap size (json_Obj es), member_size 111 (json.array (items_of (map json_of_entry es))), array_size (map json_of_entry es), nodes_Obj es, all_entries_size es each)

small_Entry : (name : List ℕ) (d : Data) → Small d → SmallEntry (record { name = name; value = d })
small_Entry name d one =
    let e : Entry = record { name = name; value = d } in
    omega (arith, ap size (json_Entry e), array_size (json.string (encode_utf8_all name) ∷ json_of d ∷ []), nodes_Entry e, one)

-- ---- every datum

abbrev Known : Type 0
Known = (d : Data) × Small d

abbrev KnownEntry : Type 0
KnownEntry = (e : Entry) × SmallEntry e

each_known : (es : List Known) → EachSmall (map (λ e. e.0) es)
each_known [] = tt
each_known (e ∷ es) = (e.1, each_known es)

each_known_entry : (es : List KnownEntry) → EachSmallEntry (map (λ e. e.0) es)
each_known_entry [] = tt
each_known_entry (e ∷ es) = (e.1, each_known_entry es)

abbrev bare : Data-F Known KnownEntry → Data-F Data Entry
bare y = map-Data Known KnownEntry Data Entry (λ e. e.0) (λ e. e.0) y

by_level : (y : Data-F Known KnownEntry) → Small (roll-Data (bare y))
unfolding roll-Data roll
by_level Data-F.Undefined = by_value made.Undefined _ 1 4 json_Undefined nodes_Undefined refl (omega arith)
by_level Data-F.Null = by_value made.Null _ 1 1 json_Null nodes_Null refl (omega arith)
by_level (Data-F.Bool b) = by_value (made.Bool b) _ 1 1 (json_Bool b) (nodes_Bool b) refl (omega arith)
by_level (Data-F.Num z) = by_value (made.Num z) _ 1 1 (json_Num z) (nodes_Num z) refl (omega arith)
by_level (Data-F.Text cs) = by_value (made.Text cs) _ 1 1 (json_Text cs) (nodes_Text cs) refl (omega arith)
by_level (Data-F.Arr es) = small_Arr (map (λ e. e.0) es) (each_known es)
by_level (Data-F.Obj es) = small_Obj (map (λ e. e.0) es) (each_known_entry es)
by_level (Data-F.Svc cs) = by_value (made.Svc cs) _ 1 4 (json_Svc cs) (nodes_Svc cs) refl (omega arith)

pub small : (d : Data) → Small d
small =
    ind-Data Small SmallEntry (λ x y is. subst (λ z. Small (roll-Data z)) is (by_level y))
    (λ x y is. subst (λ z. SmallEntry (record { name = z.name; value = z.value })) is (small_Entry y.name y.value.0 y.value.1))

each_small : (ds : List Data) → EachSmall ds
each_small [] = tt
each_small (d ∷ ds) = (small d, each_small ds)

pub list_size : (ds : List Data) → size (json.array (items_of (map json_of ds))) ≤ 8 * sum (map nodes_of_data ds) + 2
list_size ds = omega (arith, array_size (map json_of ds), all_small_size ds (each_small ds))
