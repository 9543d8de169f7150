-- The elements and texts that events name.
use Rattle.std.proofs.Common.{◌≡◌, ◌<◌, ◌++◌, ◌==◌, ◌&&◌, ◌-◌, ℕ, suc, Bool, true, false, not, nat_lt, List, [], ◌∷◌, length, get_or, slice_index, chars, encode_utf8_all, IsUtf8, Option, None, Some, option_and_then, sym, refl, ap, ap₂, subst, ◌∙◌, arith, append-nil, eqb-true, if◌then◌else◌}
use Rattle.std.specs.List.{list_all}
use Rattle.std.specs.Str.{is_utf8}
use Rattle.std.proofs.lemmas.Bool.{and_parts, ne_eqb}
use Rattle.std.proofs.lemmas.List.Folds.{list_all-append}
use Rattle.std.proofs.lemmas.Option.{same_Some}
use Rattle.std.proofs.lemmas.Str.{chars-encodes, encodes-chars, scalars-chars, inside_one, is_utf8-from_IsUtf8, IsUtf8-from_is_utf8}
use lib.Utf8.{encode}
use Rattle.serde_json.specs.Data as json
use Rattle.serde_json.specs.Find.{as_str}
use Rattle.serde_json.specs.Read.{read}
use Rattle.mt_tree.specs.declared.event.EventKind.{EventKind}
use Rattle.mt_tree.specs.declared.event.EventKind.TheVariants as kind
use Rattle.mt_tree.specs.declared.event.NodeName.{NodeName}
use Rattle.mt_tree.specs.declared.event.NodeName.TheVariants.{Id, Number}
use Rattle.mt_lines.specs.Number.{number_in}
use Rattle.mt_lines.specs.Words.{before, from, gap, after_spaces}
use Rattle.mt_lines.proofs.Numbers.{number_in-found, number_in-again, decimal-lacks}
use Rattle.mt_lines.proofs.Words.{lacks, starts_without_space}
use Rattle.mt_schedule.specs.declared.command.Command.{Command}
use Rattle.mt_schedule.specs.declared.command.Command.TheVariants.{Event}
use Rattle.mt_schedule.specs.Command.{is_id_character, is_id, IsNodeName, node_text, is_quoted, fits_field, SpellsText, SpellsEvent}
use Rattle.mt_schedule.specs.Reading.{fitting, string_in, text_in, numbered, id_in, node_in, acted, put, put_in, event_of}
use Rattle.mt_schedule.proofs.Cuts.{word-found, word-again, rest-again}

-- ---- elements

id-found : (bytes : List ℕ) (node : NodeName) → id_in bytes ≡ Some node → IsNodeName node × (35 ∷ bytes ≡ node_text node)
id-found bytes node e = at (is_utf8 bytes) (is_id (chars bytes)) refl refl e
  where
    at : (u i : Bool) → is_utf8 bytes ≡ u → is_id (chars bytes) ≡ i → (if u then (if i then Some (Id (chars bytes)) else None) else None) ≡ Some node
        → IsNodeName node × (35 ∷ bytes ≡ node_text node)
    at true true eu ei is =
        let utf8 = IsUtf8-from_is_utf8 bytes eu in
        let P : NodeName → Type 0 = λ n. IsNodeName n × (35 ∷ bytes ≡ node_text n) in
        subst P (same_Some (Id (chars bytes)) node is) ((scalars-chars bytes utf8, ei), ap (λ bs. 35 ∷ bs) (sym (encodes-chars bytes utf8)))
    at true false eu ei is = absurd (cc)
    at false i eu ei is = absurd (cc)

number-found : (bytes : List ℕ) (node : NodeName) → numbered (number_in 4294967295 bytes) ≡ Some node → IsNodeName node × (64 ∷ bytes ≡ node_text node)
number-found bytes node e = at (number_in 4294967295 bytes) refl e
  where
    at : (o : Option ℕ) → number_in 4294967295 bytes ≡ o → numbered o ≡ Some node → IsNodeName node × (64 ∷ bytes ≡ node_text node)
    at None found is = absurd (cc)
    at (Some n) found is =
        let number = number_in-found 4294967295 bytes n found in
        let P : NodeName → Type 0 = λ m. IsNodeName m × (64 ∷ bytes ≡ node_text m) in
        subst P (same_Some (Number n) node is) ((number.0, number.1), ap (λ bs. 64 ∷ bs) number.2)

pub node-found : (word : List ℕ) (node : NodeName) → node_in word ≡ Some node → IsNodeName node × (word ≡ node_text node)
node-found [] node e = absurd (cc)
node-found (sign ∷ bytes) node e = at (sign == 35) (sign == 64) refl refl e
  where
    at : (h n : Bool) → (sign == 35) ≡ h → (sign == 64) ≡ n → (if h then id_in bytes else (if n then numbered (number_in 4294967295 bytes) else None)) ≡ Some node
        → IsNodeName node × (sign ∷ bytes ≡ node_text node)
    at true n eh en is = let found = id-found bytes node is in (found.0, ap (λ s. s ∷ bytes) (eqb-true sign 35 eh) ∙ found.1)
    at false true eh en is = let found = number-found bytes node is in (found.0, ap (λ s. s ∷ bytes) (eqb-true sign 64 en) ∙ found.1)
    at false false eh en is = absurd (cc)

pub node-again : (node : NodeName) → IsNodeName node → node_in (node_text node) ≡ Some node
node-again (Id id) named =
    let utf8 : IsUtf8 (encode_utf8_all id) = (id, (named.0, refl)) in
    let text : is_utf8 (encode_utf8_all id) ≡ true = is_utf8-from_IsUtf8 (encode_utf8_all id) utf8 in
    let same : chars (encode_utf8_all id) ≡ id = chars-encodes id named.0 in
    rw (text, same, named.1) refl
node-again (Number n) named = ap numbered (number_in-again 4294967295 n named.0 named.1 (omega (arith, named.1)))

lacks-each : (bytes : List ℕ) → ((i : ℕ) → i < length bytes → get_or bytes i 0 ≡ 32 → ⊥) → lacks 32 bytes ≡ true
lacks-each [] none = refl
lacks-each (b ∷ bytes) none =
    let first : (b == 32) ≡ false = ne_eqb b 32 (λ e. none 0 (omega arith) e) in
    rw (first, lacks-each bytes (λ i less e. none (suc i) (omega arith) e)) refl

character-lacks : (c : ℕ) → is_id_character c ≡ true → lacks 32 (encode c) ≡ true
character-lacks c fits = lacks-each (encode c) none
  where
    none : (i : ℕ) → i < length (encode c) → get_or (encode c) i 0 ≡ 32 → ⊥
    none i less e =
        let same = inside_one c [] (encode c) i (sym (append-nil (encode c))) less (omega (arith, e)) in
        let space : is_id_character c ≡ is_id_character 32 = ap is_id_character (same ∙ e) in
        cc

id-lacks : (id : List ℕ) → list_all is_id_character id ≡ true → lacks 32 (encode_utf8_all id) ≡ true
id-lacks [] fits = refl
id-lacks (c ∷ id) fits =
    let both = and_parts (is_id_character c) (list_all is_id_character id) fits in
    list_all-append (λ b. not (b == 32)) (encode c) (encode_utf8_all id)
    ∙ ap₂ (λ x y. x && y) (character-lacks c both.0) (id-lacks id both.1)

pub node-lacks : (node : NodeName) → IsNodeName node → lacks 32 (node_text node) ≡ true
node-lacks (Id id) named = id-lacks id (and_parts (nat_lt 0 (length id)) (list_all is_id_character id) named.1).1
node-lacks (Number n) named = decimal-lacks 32 n (omega arith) (omega (arith, named.1))

pub node-starts : (node : NodeName) (more : List ℕ) → starts_without_space (node_text node ++ more) ≡ true
node-starts (Id id) more = refl
node-starts (Number n) more = refl

-- ---- texts

string-found : (bytes spelled : List ℕ) → string_in bytes ≡ Some spelled → read bytes ≡ Some (json.string spelled)
string-found bytes spelled e = at (read bytes) refl e
  where
    at : (o : Option json.Data) → read bytes ≡ o → option_and_then as_str o ≡ Some spelled → read bytes ≡ Some (json.string spelled)
    at None found is = absurd (cc)
    at (Some json.null) found is = absurd (cc)
    at (Some (json.boolean b)) found is = absurd (cc)
    at (Some (json.number n)) found is = absurd (cc)
    at (Some (json.string s)) found is = found ∙ ap (λ t. Some (json.string t)) (same_Some s spelled is)
    at (Some (json.array ds)) found is = absurd (cc)
    at (Some (json.object ms)) found is = absurd (cc)

pub text-found : (bytes text : List ℕ) → text_in bytes ≡ Some text → SpellsText bytes text
text-found bytes text e = at (is_quoted bytes) (is_utf8 bytes) (string_in bytes) refl refl refl e
  where
    at : (q u : Bool) (o : Option (List ℕ)) → is_quoted bytes ≡ q → is_utf8 bytes ≡ u → string_in bytes ≡ o
        → (if q then (if u then fitting o else None) else None) ≡ Some text → SpellsText bytes text
    at true true (Some spelled) eq eu eo is = fit (fits_field (chars spelled)) refl is
      where
        fit : (f : Bool) → fits_field (chars spelled) ≡ f → (if f then Some (chars spelled) else None) ≡ Some text → SpellsText bytes text
        fit true ef same =
            let text_is : chars spelled ≡ text = same_Some (chars spelled) text same in
            record {
              quoted = eq;
              utf8 = IsUtf8-from_is_utf8 bytes eu;
              spelled = spelled;
              string = string-found bytes spelled eo;
              characters = sym text_is;
              fits = ap fits_field (sym text_is) ∙ ef;
            }
        fit false ef same = absurd (cc)
    at true true None eq eu eo is = absurd (cc)
    at true false o eq eu eo is = absurd (cc)
    at false u o eq eu eo is = absurd (cc)

pub text-again : (bytes text : List ℕ) → SpellsText bytes text → text_in bytes ≡ Some text
text-again bytes text spells =
    let utf8 : is_utf8 bytes ≡ true = is_utf8-from_IsUtf8 bytes spells.utf8 in
    let string : string_in bytes ≡ Some spells.spelled = ap (λ o. option_and_then as_str o) spells.string in
    let fits : fits_field (chars spells.spelled) ≡ true = ap fits_field (sym spells.characters) ∙ spells.fits in
    rw (spells.quoted, utf8, string, fits) (ap (λ t. Some t) (sym spells.characters))

quote-starts : (bytes : List ℕ) → is_quoted bytes ≡ true → starts_without_space bytes ≡ true
quote-starts [] e = refl
quote-starts (b ∷ bytes) e =
    let more = and_parts (nat_lt 0 (length (b ∷ bytes))) ((b == 34) && (slice_index (b ∷ bytes) (length (b ∷ bytes) - 1) == 34)) e in
    let first = and_parts (b == 34) (slice_index (b ∷ bytes) (length (b ∷ bytes) - 1) == 34) more.1 in
    rw (eqb-true b 34 first.0) refl

-- ---- events

acted-found : (k : EventKind) (client : ℕ) (rest : List ℕ) (command : Command) → acted k client (node_in rest) ≡ Some command
    → (node : NodeName) × (command ≡ Event client k node None) × IsNodeName node × (rest ≡ node_text node)
acted-found k client rest command e = at (node_in rest) refl e
  where
    at : (o : Option NodeName) → node_in rest ≡ o → acted k client o ≡ Some command
        → (node : NodeName) × (command ≡ Event client k node None) × IsNodeName node × (rest ≡ node_text node)
    at None found is = absurd (cc)
    at (Some node) found is = let named = node-found rest node found in (node, sym (same_Some (Event client k node None) command is), named.0, named.1)

put-found : (client : ℕ) (rest : List ℕ) (command : Command) → put_in client (before 32 rest) (after_spaces (from 32 rest)) ≡ Some command
    → (node : NodeName) × (text : List ℕ) × (command ≡ Event client kind.Input node (Some text)) × SpellsEvent kind.Input node (Some text) rest
put-found client rest command e = at (after_spaces (from 32 rest)) refl e
  where
    at : (o : Option (List ℕ)) → after_spaces (from 32 rest) ≡ o → put_in client (before 32 rest) o ≡ Some command
        → (node : NodeName) × (text : List ℕ) × (command ≡ Event client kind.Input node (Some text)) × SpellsEvent kind.Input node (Some text) rest
    at None found is = absurd (cc)
    at (Some bytes) found is = both (node_in (before 32 rest)) (text_in bytes) refl refl is
      where
        both : (n : Option NodeName) (t : Option (List ℕ)) → node_in (before 32 rest) ≡ n → text_in bytes ≡ t → put client n t ≡ Some command
            → (node : NodeName) × (text : List ℕ) × (command ≡ Event client kind.Input node (Some text)) × SpellsEvent kind.Input node (Some text) rest
        both None t en et same = absurd (cc)
        both (Some node) None en et same = absurd (cc)
        both (Some node) (Some text) en et same =
            let named = node-found (before 32 rest) node en in
            let cut = word-found rest bytes found in (
              node,
              text,
              sym (same_Some (Event client kind.Input node (Some text)) command same),
              (cut.0, bytes, named.0, cut.1 ∙ ap (λ xs. xs ++ (gap cut.0 ++ bytes)) named.1, text-found bytes text et),
            )

pub event-found : (k : EventKind) (client : ℕ) (rest : List ℕ) (command : Command) → event_of k client rest ≡ Some command
    → (node : NodeName) × (text : Option (List ℕ)) × (command ≡ Event client k node text) × SpellsEvent k node text rest
event-found kind.Click client rest command e = let found = acted-found kind.Click client rest command e in (found.0, None, found.1, (found.2, found.3))
event-found kind.Change client rest command e = let found = acted-found kind.Change client rest command e in (found.0, None, found.1, (found.2, found.3))
event-found kind.Input client rest command e = let found = put-found client rest command e in (found.0, Some found.1, found.2, found.3)

pub event-again : (k : EventKind) (client : ℕ) (node : NodeName) (text : Option (List ℕ)) (rest : List ℕ) → SpellsEvent k node text rest
    → event_of k client rest ≡ Some (Event client k node text)
event-again kind.Click client node None rest spells = ap (λ w. acted kind.Click client (node_in w)) spells.1 ∙ ap (acted kind.Click client) (node-again node spells.0)
event-again kind.Click client node (Some text) rest spells = absurd spells
event-again kind.Change client node None rest spells = ap (λ w. acted kind.Change client (node_in w)) spells.1 ∙ ap (acted kind.Change client) (node-again node spells.0)
event-again kind.Change client node (Some text) rest spells = absurd spells
event-again kind.Input client node None rest spells = absurd spells
event-again kind.Input client node (Some text) rest spells =
    let c : ℕ = spells.0 in let bytes : List ℕ = spells.1 in
    let bare = node-lacks node spells.2 in
    let word = word-again (node_text node) c bytes bare in
    let behind = rest-again (node_text node) c bytes bare (quote-starts bytes spells.4.quoted) in
    ap (λ w. put_in client (before 32 w) (after_spaces (from 32 w))) spells.3
    ∙ ap₂ (λ w o. put_in client w o) word behind
    ∙ ap₂ (λ n t. put client n t) (node-again node spells.2) (text-again bytes text spells.4)

pub event-starts : (k : EventKind) (node : NodeName) (text : Option (List ℕ)) (rest : List ℕ) → SpellsEvent k node text rest → starts_without_space rest ≡ true
event-starts kind.Click node None rest spells = ap starts_without_space (spells.1 ∙ sym (append-nil (node_text node))) ∙ node-starts node []
event-starts kind.Click node (Some text) rest spells = absurd spells
event-starts kind.Change node None rest spells = ap starts_without_space (spells.1 ∙ sym (append-nil (node_text node))) ∙ node-starts node []
event-starts kind.Change node (Some text) rest spells = absurd spells
event-starts kind.Input node None rest spells = absurd spells
event-starts kind.Input node (Some text) rest spells = ap starts_without_space spells.3 ∙ node-starts node (gap spells.0 ++ spells.1)
