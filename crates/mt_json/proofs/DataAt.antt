-- The datum, and the list of arguments, whose text the bytes are, as functions of the bytes.
use Rattle.std.proofs.Common.{◌≡◌, ◌&&◌, ◌≤◌, length, sum, ℕ, List, [], ◌∷◌, map, Bool, true, false, Option, Some, None, IsUtf8, refl, sym, ap, subst, ◌∙◌, arith}
use Rattle.std.specs.List.{list_all}
use Rattle.std.proofs.lemmas.Bool.{and_parts}
use Rattle.mt_tree.specs.declared.data.Data.{Data}
use Rattle.mt_syntax.specs.Depth.{greatest}
use Rattle.mt_syntax.specs.DataText.{data_text, arguments_text}
use Rattle.mt_syntax.specs.Data.{is_data}
use Rattle.mt_syntax.specs.DataLimits.{depth_of_data, AreWithinLimits}
use Rattle.json.specs.Token.{Token}
use Rattle.json.specs.Lex.{tokens}
use Rattle.serde_json.specs.Data as json
use Rattle.serde_json.specs.Read.{read}
use Rattle.serde_json.specs.View.{items_of}
use Rattle.mt_json.specs.Tagged.{datum_in, list_in}
use Rattle.std.specs.Prelude.{if◌then◌else◌, nat_le}
use Rattle.std.specs.Str.{bytes_eq}
use Rattle.std.proofs.lemmas.Bool.{and_from, leb-true, le-leb}
use Rattle.std.proofs.lemmas.Slice.Eq.{bytes_eq-Decides}
use Rattle.mt_tree.specs.Limits.{data_depth_limit, data_node_limit, data_byte_limit}
use Rattle.mt_syntax.specs.DataLimits.{bytes_of_data, nodes_of_data}
use Rattle.mt_json.specs.DataAt.{all_spelled_by, are_few, are_small, are_within, arguments_at, data_at, is_within, spelled_by}
use Rattle.mt_json.specs.Outcome.{Refuses}
use Rattle.mt_json.specs.Reading.{◌>>=◌}
use Rattle.mt_json.specs.Size.{MayBeData, data_token_limit}
use Rattle.mt_json.specs.declared.refusal.DataRefusal.{DataRefusal}
use Rattle.mt_json.specs.declared.refusal.DataRefusal.TheVariants.{NotData, NoMemory}
use Rattle.mt_json.proofs.Sizes.{list_size, small}
use Rattle.mt_json.proofs.JsonOf.{json_of}
use Rattle.mt_json.proofs.JsonTexts.{read-text, reads_array, tokens-of}
use Rattle.mt_json.proofs.Readings.{all_good, each_good, each_reads}

-- ---- the limits as a test

pub within_are : (ds : List Data) → are_within ds ≡ true → AreWithinLimits ds
within_are ds h =
    let all = and_parts (list_all is_data ds) (are_small ds) h in
    let counts = and_parts (nat_le (greatest (map depth_of_data ds)) data_depth_limit) (are_few ds) all.1 in
    let last = and_parts (nat_le (sum (map nodes_of_data ds)) data_node_limit) (nat_le (sum (map bytes_of_data ds)) data_byte_limit) counts.1 in
    record { «data» = all.0; depth = leb-true _ _ counts.0; nodes = leb-true _ _ last.0; bytes = leb-true _ _ last.1 }

pub are_within_by : (ds : List Data) → AreWithinLimits ds → are_within ds ≡ true
are_within_by ds w =
    and_from (list_all is_data ds) _ w.data (and_from (nat_le (greatest (map depth_of_data ds)) data_depth_limit) _ (le-leb _ _ w.depth)
    (and_from (nat_le (sum (map nodes_of_data ds)) data_node_limit) _ (le-leb _ _ w.nodes) (le-leb _ _ w.bytes)))

pub alone : (d : Data) → is_within d ≡ true → AreWithinLimits (d ∷ [])
alone d h =
    let all = and_parts (is_data d) (nat_le (depth_of_data d) data_depth_limit && (nat_le (nodes_of_data d) data_node_limit && nat_le (bytes_of_data d) data_byte_limit)) h in
    let counts = and_parts (nat_le (depth_of_data d) data_depth_limit) (nat_le (nodes_of_data d) data_node_limit && nat_le (bytes_of_data d) data_byte_limit) all.1 in
    let last = and_parts (nat_le (nodes_of_data d) data_node_limit) (nat_le (bytes_of_data d) data_byte_limit) counts.1 in
    record {
      «data» = and_from (is_data d) true all.0 refl;
      depth = omega (arith, leb-true _ _ counts.0);
      nodes = omega (arith, leb-true _ _ last.0);
      bytes = omega (arith, leb-true _ _ last.1);
    }

pub alone_by : (d : Data) → AreWithinLimits (d ∷ []) → is_within d ≡ true
alone_by d w =
    and_from (is_data d) _ (and_parts (is_data d) true w.data).0 (and_from (nat_le (depth_of_data d) data_depth_limit) _ (le-leb _ _ (omega (arith, w.depth)))
    (and_from (nat_le (nodes_of_data d) data_node_limit) _ (le-leb _ _ (omega (arith, w.nodes))) (le-leb _ _ (omega (arith, w.bytes)))))

-- ---- what a text is read as

pub datum_found : (bytes : List ℕ) (d : Data) → AreWithinLimits (d ∷ []) → data_text d ≡ bytes → MayBeData bytes × (datum_in bytes ≡ Some d)
datum_found bytes d within text =
    let both = and_parts (is_data d) true within.data in
    let good = all_good d both.0 in
    let read-is : read bytes ≡ Some (json_of d) = ap read (sym text) ∙ read-text (json_of d) (data_text d) _ good.0 (omega (arith, within.depth)) in
    let few : length (tokens (data_text d)) ≤ data_token_limit = omega (arith, ap (λ (ts : List Token). length ts) (tokens-of (json_of d) (data_text d) _ good.0), small d, within.nodes) in
    ((subst IsUtf8 text good.0.utf8, subst (λ s. length (tokens s) ≤ data_token_limit) text few), rw read-is good.1)

pub list_found : (bytes : List ℕ) (ds : List Data) → AreWithinLimits ds → arguments_text ds ≡ bytes → MayBeData bytes × (list_in bytes ≡ Some ds)
list_found bytes ds within text =
    let all = each_reads ds 121 (each_good ds) within.data (omega (arith, within.depth)) in
    let whole = reads_array (map json_of ds) (map data_text ds) 121 all.0 in
    let value = json.array (items_of (map json_of ds)) in
    let read-is : read bytes ≡ Some value = ap read (sym text) ∙ read-text value (arguments_text ds) 122 whole (omega arith) in
    let few : length (tokens (arguments_text ds)) ≤ data_token_limit = omega (arith, ap (λ (ts : List Token). length ts) (tokens-of value (arguments_text ds) 122 whole), list_size ds, within.nodes) in
    ((subst IsUtf8 text whole.utf8, subst (λ s. length (tokens s) ≤ data_token_limit) text few), rw read-is all.1)

pub only_datum : (bytes : List ℕ) (d found : Data) → (MayBeData bytes → datum_in bytes ≡ Some found) → AreWithinLimits (d ∷ []) → data_text d ≡ bytes → d ≡ found
only_datum bytes d found read-is within text = let one = datum_found bytes d within text in let whole : Some d ≡ Some found = sym one.1 ∙ read-is one.0 in cc

pub only_list : (bytes : List ℕ) (ds found : List Data) → (MayBeData bytes → list_in bytes ≡ Some found) → AreWithinLimits ds → arguments_text ds ≡ bytes → ds ≡ found
only_list bytes ds found read-is within text = let one = list_found bytes ds within text in let whole : Some ds ≡ Some found = sym one.1 ∙ read-is one.0 in cc

-- ---- the functions

same_bytes : (bytes : List ℕ) → bytes_eq bytes bytes ≡ true
same_bytes bytes = (bytes_eq-Decides bytes bytes).1 refl

pub data_at_text : (d : Data) → AreWithinLimits (d ∷ []) → data_at (data_text d) ≡ Some d
unfolding data_at
data_at_text d within =
    let found = datum_found (data_text d) d within refl in
    rw (found.1, alone_by d within, same_bytes (data_text d)) refl

pub arguments_at_text : (ds : List Data) → AreWithinLimits ds → arguments_at (arguments_text ds) ≡ Some ds
unfolding arguments_at
arguments_at_text ds within =
    let found = list_found (arguments_text ds) ds within refl in
    rw (found.1, are_within_by ds within, same_bytes (arguments_text ds)) refl

pub data_at_of : (bytes : List ℕ) (d : Data) → AreWithinLimits (d ∷ []) → data_text d ≡ bytes → data_at bytes ≡ Some d
data_at_of bytes d within text = ap data_at (sym text) ∙ data_at_text d within

pub arguments_at_of : (bytes : List ℕ) (ds : List Data) → AreWithinLimits ds → arguments_text ds ≡ bytes → arguments_at bytes ≡ Some ds
arguments_at_of bytes ds within text = ap arguments_at (sym text) ∙ arguments_at_text ds within

-- what is given where a test is passed
module _ {A : Type 0} where
  if_given : (b : Bool) (x y : A) → (if b then Some x else None) ≡ Some y → (b ≡ true) × (x ≡ y)
  if_given true x y e = (refl, cc)
  if_given false x y e = absurd cc

  if_none : (b : Bool) (x : A) → (b ≡ true → ⊥) → (if b then Some x else None) ≡ None
  if_none true x h = absurd (h refl)
  if_none false x h = refl

  none_or : {B : Type 0} (o : Option A) (f : A → Option B) → ((x : A) → f x ≡ None) → (o >>= f) ≡ None
  none_or None f h = refl
  none_or (Some x) f h = h x

  some_of : {B : Type 0} (o : Option A) (f : A → Option B) (y : B) → (o >>= f) ≡ Some y → (x : A) × (f x ≡ Some y)
  some_of None f y e = absurd cc
  some_of (Some x) f y e = (x, e)

spelled : (bytes : List ℕ) (d e : Data) → spelled_by bytes d ≡ Some e → AreWithinLimits (e ∷ []) × (data_text e ≡ bytes)
spelled bytes d e h =
    let given = if_given (is_within d && bytes_eq (data_text d) bytes) d e h in
    let parts = and_parts (is_within d) (bytes_eq (data_text d) bytes) given.0 in
    (subst (λ x. AreWithinLimits (x ∷ [])) given.1 (alone d parts.0), subst (λ x. data_text x ≡ bytes) given.1 ((bytes_eq-Decides (data_text d) bytes).0 parts.1))

all_spelled : (bytes : List ℕ) (ds es : List Data) → all_spelled_by bytes ds ≡ Some es → AreWithinLimits es × (arguments_text es ≡ bytes)
all_spelled bytes ds es h =
    let given = if_given (are_within ds && bytes_eq (arguments_text ds) bytes) ds es h in
    let parts = and_parts (are_within ds) (bytes_eq (arguments_text ds) bytes) given.0 in
    (subst AreWithinLimits given.1 (within_are ds parts.0), subst (λ xs. arguments_text xs ≡ bytes) given.1 ((bytes_eq-Decides (arguments_text ds) bytes).0 parts.1))

pub data_at_gives : (bytes : List ℕ) (d : Data) → data_at bytes ≡ Some d → AreWithinLimits (d ∷ []) × (data_text d ≡ bytes)
unfolding data_at
data_at_gives bytes d h = let one = some_of (datum_in bytes) (spelled_by bytes) d h in spelled bytes one.0 d one.1

pub arguments_at_gives : (bytes : List ℕ) (ds : List Data) → arguments_at bytes ≡ Some ds → AreWithinLimits ds × (arguments_text ds ≡ bytes)
unfolding arguments_at
arguments_at_gives bytes ds h = let one = some_of (list_in bytes) (all_spelled_by bytes) ds h in all_spelled bytes one.0 ds one.1

none_by : {A : Type 0} (o : Option A) → ((x : A) → o ≡ Some x → ⊥) → o ≡ None
none_by None h = refl
none_by (Some x) h = absurd (h x refl)

pub data_at_none : (bytes : List ℕ) → ((d : Data) → AreWithinLimits (d ∷ []) → data_text d ≡ bytes → ⊥) → data_at bytes ≡ None
data_at_none bytes h = none_by (data_at bytes) (λ d e. let given = data_at_gives bytes d e in h d given.0 given.1)

pub arguments_at_none : (bytes : List ℕ) → ((ds : List Data) → AreWithinLimits ds → arguments_text ds ≡ bytes → ⊥) → arguments_at bytes ≡ None
arguments_at_none bytes h = none_by (arguments_at bytes) (λ ds e. let given = arguments_at_gives bytes ds e in h ds given.0 given.1)

-- ---- where the readers refuse

pub data_at_refused : (e : DataRefusal) (bytes : List ℕ) → (MayBeData bytes → Refuses e (datum_in bytes)) → Refuses e (data_at bytes)
data_at_refused NoMemory bytes h = tt
data_at_refused NotData bytes h = data_at_none bytes (λ d within text. let found = datum_found bytes d within text in let none = h found.0 in let some = found.1 in absurd cc)

pub arguments_at_refused : (e : DataRefusal) (bytes : List ℕ) → (MayBeData bytes → Refuses e (list_in bytes)) → Refuses e (arguments_at bytes)
arguments_at_refused NoMemory bytes h = tt
arguments_at_refused NotData bytes h = arguments_at_none bytes (λ ds within text. let found = list_found bytes ds within text in let none = h found.0 in let some = found.1 in absurd cc)

pub no_datum : (bytes : List ℕ) → data_at bytes ≡ None → (d : Data) → AreWithinLimits (d ∷ []) → data_text d ≡ bytes → ⊥
no_datum bytes none d within text = let some = data_at_of bytes d within text in absurd cc

pub no_list : (bytes : List ℕ) → arguments_at bytes ≡ None → (ds : List Data) → AreWithinLimits ds → arguments_text ds ≡ bytes → ⊥
no_list bytes none ds within text = let some = arguments_at_of bytes ds within text in absurd cc
