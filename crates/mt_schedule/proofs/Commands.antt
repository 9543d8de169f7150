-- What is found in a line is what it spells.
use Rattle.std.proofs.Common.{◌≡◌, inl, inr, ◌<◌, ◌≤◌, ◌^◌, ◌++◌, ◌==◌, ℕ, Bool, true, false, List, [], ◌∷◌, drop, codes, decimal, encode_utf8_all, IsUtf8, Option, None, Some, sym, refl, ap, ap₂, subst, ◌∙◌, arith, eq-eqb, eqb-true, if◌then◌else◌}
use Rattle.std.proofs.lemmas.Fmt.{decimal_nonempty}
use Rattle.std.proofs.lemmas.Option.{cond_some, same_Some}
use Rattle.std.proofs.lemmas.Str.{encodes_same, is_utf8-from_IsUtf8, IsUtf8-from_is_utf8}
use Rattle.std.specs.Str.{bytes_eq, is_utf8}
use Rattle.mt_tree.specs.declared.event.EventKind.{EventKind}
use Rattle.mt_tree.specs.declared.event.EventKind.TheVariants as kind
use Rattle.mt_tree.specs.declared.event.NodeName.{NodeName}
use Rattle.mt_http_types.specs.Target.{is_target, IsTarget}
use Rattle.mt_http_types.specs.declared.target.Target.{Target}
use Rattle.mt_http_types.proofs.Targets as targets
use Rattle.mt_lines.specs.Number.{number_in}
use Rattle.mt_lines.specs.Words.{before, from, gap, after_spaces}
use Rattle.mt_lines.proofs.Numbers.{number_in-found, number_in-again, decimal-lacks, decimal-starts}
use Rattle.mt_lines.proofs.Words.{lacks, starts_without_space, same_bytes, before-append, from-append, before-from, from-starts}
use Rattle.mt_schedule.specs.declared.command.Command.{Command}
use Rattle.mt_schedule.specs.declared.command.Command.TheVariants.{Load, Event, Serve, Deliver, Lose}
use Rattle.mt_schedule.specs.declared.keyword.Keyword.{Keyword}
use Rattle.mt_schedule.specs.declared.keyword.Keyword.TheVariants as word
use Rattle.mt_schedule.specs.declared.line_reader.LineKind.{LineKind}
use Rattle.mt_schedule.specs.declared.line_reader.LineKind.TheVariants as line
use Rattle.mt_schedule.specs.Command.{client_limit, IsClient, IsMessageNumber, message_name, kind_word, command_word, SpellsArguments, SpellsCommand, IsSkipped, IsGoodLine}
use Rattle.mt_schedule.specs.Reading.{client_in, load_with, load_in, event_with, event_in, pair_of, message_in, serve_with, deliver_with, lose_with, arguments_in, keyword_in, command_with, command_in, kind_with, kind_of}
use Rattle.mt_schedule.proofs.Cuts.{word-found, word-again, rest-again}
use Rattle.mt_schedule.proofs.Events.{event-found, event-again, event-starts}

limit-small : (version : ℕ) → client_limit version ≤ 512
limit-small version = at (version == 2)
  where
    at : (b : Bool) → (if b then 512 else 64) ≤ 512
    at true = omega arith
    at false = omega arith

client-small : (version k : ℕ) → IsClient version k → k < 2 ^ 64
client-small version k client = omega (arith, client.1, limit-small version)

client-again : (version k : ℕ) → IsClient version k → client_in version (decimal k) ≡ Some k
client-again version k client = number_in-again (client_limit version) k client.0 client.1 (client-small version k client)

client-lacks : (version byte k : ℕ) → byte < 48 → IsClient version k → lacks byte (decimal k) ≡ true
client-lacks version byte k low client = decimal-lacks byte k low (client-small version k client)

-- ---- loads

target-starts : (bytes : List ℕ) → is_target bytes ≡ true → starts_without_space bytes ≡ true
target-starts [] fits = refl
target-starts (b ∷ bytes) fits = at (b == 47) refl fits
  where
    at : (t : Bool) → (b == 47) ≡ t → is_target (b ∷ bytes) ≡ true → starts_without_space (b ∷ bytes) ≡ true
    at true is e = rw (eqb-true b 47 is) refl
    at false is e = let none : is_target (b ∷ bytes) ≡ false = rw is refl in cc

abbrev made : List ℕ → Target
made bytes = record { 0 = bytes }

same-target : (target : Target) → IsTarget target → made (encode_utf8_all target.0) ≡ target
same-target target fits = ap made (encodes_same (encode_utf8_all target.0) target.0 (targets.same_bytes (encode_utf8_all target.0) fits))

load-found : (version : ℕ) (words : List ℕ) (command : Command) → load_in version words ≡ Some command
    → (codes "load" ≡ command_word command) × SpellsArguments version command words
load-found version words command e = at (client_in version (before 32 words)) (after_spaces (from 32 words)) refl refl e
  where
    at : (n : Option ℕ) (t : Option (List ℕ)) → client_in version (before 32 words) ≡ n → after_spaces (from 32 words) ≡ t → load_with n t ≡ Some command
        → (codes "load" ≡ command_word command) × SpellsArguments version command words
    at None t number spaces is = absurd (cc)
    at (Some k) None number spaces is = absurd (cc)
    at (Some k) (Some bytes) number spaces is =
        let client = number_in-found (client_limit version) (before 32 words) k number in
        let cut = word-found words bytes spaces in
        let both = cond_some (is_target bytes) (Load k (made bytes)) command is in
        let plain : encode_utf8_all bytes ≡ bytes = targets.same_bytes bytes both.0 in
        let P : Command → Type 0 = λ c. (codes "load" ≡ command_word c) × SpellsArguments version c words in
        subst P both.1
        (refl, (cut.0, (client.0, client.1), ap is_target plain ∙ both.0, cut.1 ∙ ap₂ (λ xs ys. xs ++ (gap cut.0 ++ ys)) client.2 (sym plain)))

load-again : (version k b : ℕ) (target : Target) → IsClient version k → IsTarget target
    → load_in version (decimal k ++ (gap b ++ encode_utf8_all target.0)) ≡ Some (Load k target)
load-again version k b target client fits =
    let bytes : List ℕ = encode_utf8_all target.0 in
    let bare = client-lacks version 32 k (omega arith) client in
    let number = ap (client_in version) (word-again (decimal k) b bytes bare) ∙ client-again version k client in
    let behind = rest-again (decimal k) b bytes bare (target-starts bytes fits) in
    ap₂ load_with number behind ∙ fit
  where
    fit : load_with (Some k) (Some (encode_utf8_all target.0)) ≡ Some (Load k target)
    fit = rw fits (ap (λ t. Some (Load k t)) (same-target target fits))

-- ---- events

event_in-found : (version : ℕ) (k : EventKind) (words : List ℕ) (command : Command) → event_in version k words ≡ Some command
    → (kind_word k ≡ command_word command) × SpellsArguments version command words
event_in-found version k words command e = at (client_in version (before 32 words)) (after_spaces (from 32 words)) refl refl e
  where
    at : (n : Option ℕ) (t : Option (List ℕ)) → client_in version (before 32 words) ≡ n → after_spaces (from 32 words) ≡ t → event_with k n t ≡ Some command
        → (kind_word k ≡ command_word command) × SpellsArguments version command words
    at None t number spaces is = absurd (cc)
    at (Some client) None number spaces is = absurd (cc)
    at (Some client) (Some rest) number spaces is =
        let digits = number_in-found (client_limit version) (before 32 words) client number in
        let cut = word-found words rest spaces in
        let event = event-found k client rest command is in
        let P : Command → Type 0 = λ c. (kind_word k ≡ command_word c) × SpellsArguments version c words in
        subst P (sym event.2) (refl, (cut.0, rest, (digits.0, digits.1), cut.1 ∙ ap (λ xs. xs ++ (gap cut.0 ++ rest)) digits.2, event.3))

event_in-again : (version : ℕ) (k : EventKind) (client : ℕ) (node : NodeName) (text : Option (List ℕ)) (words : List ℕ)
    → SpellsArguments version (Event client k node text) words → event_in version k words ≡ Some (Event client k node text)
event_in-again version k client node text words spells =
    let b : ℕ = spells.0 in let rest : List ℕ = spells.1 in
    let bare = client-lacks version 32 client (omega arith) spells.2 in
    let number = ap (client_in version) (word-again (decimal client) b rest bare) ∙ client-again version client spells.2 in
    let behind = rest-again (decimal client) b rest bare (event-starts k node text rest spells.4) in
    ap (event_in version k) spells.3 ∙ ap₂ (event_with k) number behind ∙ event-again k client node text rest spells.4

-- ---- messages

message-found : (version : ℕ) (words : List ℕ) (m : ℕ × ℕ) → message_in version words ≡ Some m
    → IsClient version m.0 × IsMessageNumber m.1 × (words ≡ message_name m.0 m.1)
message-found version words m e = at (client_in version (before 46 words)) (number_in 1000000 (drop 1 (from 46 words))) refl refl e
  where
    at : (n o : Option ℕ) → client_in version (before 46 words) ≡ n → number_in 1000000 (drop 1 (from 46 words)) ≡ o → pair_of n o ≡ Some m
        → IsClient version m.0 × IsMessageNumber m.1 × (words ≡ message_name m.0 m.1)
    at (Some client) (Some message) number_k number_m is =
        let k = number_in-found (client_limit version) (before 46 words) client number_k in
        let n = number_in-found 1000000 (drop 1 (from 46 words)) message number_m in
        let tail = from-starts 46 words (decimal message) n.2 (decimal_nonempty message (omega (arith, n.1))) in
        let P : ℕ × ℕ → Type 0 = λ p. IsClient version p.0 × IsMessageNumber p.1 × (words ≡ message_name p.0 p.1) in
        subst P (same_Some (client, message) m is)
        ((k.0, k.1), (n.0, n.1), before-from 46 words ∙ ap₂ (λ xs ys. xs ++ ys) k.2 tail)
    at (Some client) None number_k number_m is = absurd (cc)
    at None o number_k number_m is = absurd (cc)

message-again : (version k m : ℕ) → IsClient version k → IsMessageNumber m → message_in version (message_name k m) ≡ Some (k, m)
message-again version k m client message =
    let bare = client-lacks version 46 k (omega arith) client in
    let digits : before 46 (message_name k m) ≡ decimal k = before-append 46 (decimal k) (decimal m) bare in
    let rest : drop 1 (from 46 (message_name k m)) ≡ decimal m = ap (λ xs. drop 1 xs) (from-append 46 (decimal k) (decimal m) bare) in
    let number_k = ap (client_in version) digits ∙ client-again version k client in
    let number_m = ap (λ xs. number_in 1000000 xs) rest ∙ number_in-again 1000000 m message.0 message.1 (omega (arith, message.1)) in
    ap₂ pair_of number_k number_m

name-starts : (version k m : ℕ) → IsClient version k → starts_without_space (message_name k m) ≡ true
name-starts version k m client = decimal-starts k (46 ∷ decimal m) (client-small version k client)

-- ---- the words behind the first

abbrev pub keyword_for : Command → Keyword
keyword_for (Load k target) = word.Load
keyword_for (Event k kind node text) = word.Event kind
keyword_for (Serve k m) = word.Serve
keyword_for (Deliver k m) = word.Deliver
keyword_for (Lose k m) = word.Lose

abbrev keyword_text : Keyword → List ℕ
keyword_text word.Load = codes "load"
keyword_text (word.Event k) = kind_word k
keyword_text word.Serve = codes "serve"
keyword_text word.Deliver = codes "deliver"
keyword_text word.Lose = codes "lose"

arguments-found : (version : ℕ) (keyword : Keyword) (words : List ℕ) (command : Command) → arguments_in version keyword words ≡ Some command
    → (keyword_text keyword ≡ command_word command) × SpellsArguments version command words
arguments-found version word.Load words command e = load-found version words command e
arguments-found version (word.Event k) words command e = event_in-found version k words command e
arguments-found version word.Serve words command e = at (message_in version words) refl e
  where
    at : (o : Option (ℕ × ℕ)) → message_in version words ≡ o → serve_with o ≡ Some command → (codes "serve" ≡ command_word command) × SpellsArguments version command words
    at None found is = absurd (cc)
    at (Some m) found is =
        let P : Command → Type 0 = λ c. (codes "serve" ≡ command_word c) × SpellsArguments version c words in
        subst P (same_Some (Serve m.0 m.1) command is) (refl, message-found version words m found)
arguments-found version word.Deliver words command e = at (message_in version words) refl e
  where
    at : (o : Option (ℕ × ℕ)) → message_in version words ≡ o → deliver_with o ≡ Some command → (codes "deliver" ≡ command_word command) × SpellsArguments version command words
    at None found is = absurd (cc)
    at (Some m) found is =
        let P : Command → Type 0 = λ c. (codes "deliver" ≡ command_word c) × SpellsArguments version c words in
        subst P (same_Some (Deliver m.0 m.1) command is) (refl, message-found version words m found)
arguments-found version word.Lose words command e = at (message_in version words) refl e
  where
    at : (o : Option (ℕ × ℕ)) → message_in version words ≡ o → lose_with o ≡ Some command → (codes "lose" ≡ command_word command) × SpellsArguments version command words
    at None found is = absurd (cc)
    at (Some m) found is =
        let P : Command → Type 0 = λ c. (codes "lose" ≡ command_word c) × SpellsArguments version c words in
        subst P (same_Some (Lose m.0 m.1) command is) (refl, message-found version words m found)

arguments-again : (version : ℕ) (command : Command) (words : List ℕ) → SpellsArguments version command words → arguments_in version (keyword_for command) words ≡ Some command
arguments-again version (Load k target) words spells = ap (load_in version) spells.3 ∙ load-again version k spells.0 target spells.1 spells.2
arguments-again version (Event client k node text) words spells = event_in-again version k client node text words spells
arguments-again version (Serve k m) words spells = ap (λ w. serve_with (message_in version w)) spells.2 ∙ ap serve_with (message-again version k m spells.0 spells.1)
arguments-again version (Deliver k m) words spells = ap (λ w. deliver_with (message_in version w)) spells.2 ∙ ap deliver_with (message-again version k m spells.0 spells.1)
arguments-again version (Lose k m) words spells = ap (λ w. lose_with (message_in version w)) spells.2 ∙ ap lose_with (message-again version k m spells.0 spells.1)

arguments-start : (version : ℕ) (command : Command) (words : List ℕ) → SpellsArguments version command words → starts_without_space words ≡ true
arguments-start version (Load k target) words spells =
    ap starts_without_space spells.3 ∙ decimal-starts k (gap spells.0 ++ encode_utf8_all target.0) (client-small version k spells.1)
arguments-start version (Event k kind node text) words spells =
    ap starts_without_space spells.3 ∙ decimal-starts k (gap spells.0 ++ spells.1) (client-small version k spells.2)
arguments-start version (Serve k m) words spells = ap starts_without_space spells.2 ∙ name-starts version k m spells.0
arguments-start version (Deliver k m) words spells = ap starts_without_space spells.2 ∙ name-starts version k m spells.0
arguments-start version (Lose k m) words spells = ap starts_without_space spells.2 ∙ name-starts version k m spells.0

-- ---- the first word

keyword-found : (bytes : List ℕ) (keyword : Keyword) → keyword_in bytes ≡ Some keyword → bytes ≡ keyword_text keyword
keyword-found bytes keyword e =
    at (bytes_eq bytes (codes "load")) (bytes_eq bytes (codes "click")) (bytes_eq bytes (codes "input")) (bytes_eq bytes (codes "change")) (bytes_eq bytes (codes "serve"))
    (bytes_eq bytes (codes "deliver")) (bytes_eq bytes (codes "lose")) refl refl refl refl refl refl refl e
  where
    one : (k : Keyword) → bytes_eq bytes (keyword_text k) ≡ true → Some k ≡ Some keyword → bytes ≡ keyword_text keyword
    one k is same = same_bytes bytes (keyword_text k) is ∙ ap keyword_text (same_Some k keyword same)

    at : (a b c d s t u : Bool) → bytes_eq bytes (codes "load") ≡ a → bytes_eq bytes (codes "click") ≡ b → bytes_eq bytes (codes "input") ≡ c → bytes_eq bytes (codes "change") ≡ d
        → bytes_eq bytes (codes "serve") ≡ s → bytes_eq bytes (codes "deliver") ≡ t → bytes_eq bytes (codes "lose") ≡ u
        → (if a then Some word.Load else if b then Some (word.Event kind.Click) else if c then Some (word.Event kind.Input) else if d then Some (word.Event kind.Change)
        else if s then Some word.Serve else if t then Some word.Deliver else if u then Some word.Lose else None) ≡ Some keyword
        → bytes ≡ keyword_text keyword
    at true b c d s t u ea eb ec ed es et eu is = one word.Load ea is
    at false true c d s t u ea eb ec ed es et eu is = one (word.Event kind.Click) eb is
    at false false true d s t u ea eb ec ed es et eu is = one (word.Event kind.Input) ec is
    at false false false true s t u ea eb ec ed es et eu is = one (word.Event kind.Change) ed is
    at false false false false true t u ea eb ec ed es et eu is = one word.Serve es is
    at false false false false false true u ea eb ec ed es et eu is = one word.Deliver et is
    at false false false false false false true ea eb ec ed es et eu is = one word.Lose eu is
    at false false false false false false false ea eb ec ed es et eu is = absurd (cc)

keyword-again : (command : Command) → keyword_in (command_word command) ≡ Some (keyword_for command)
keyword-again (Load k target) = refl
keyword-again (Event k kind.Click node text) = refl
keyword-again (Event k kind.Input node text) = refl
keyword-again (Event k kind.Change node text) = refl
keyword-again (Serve k m) = refl
keyword-again (Deliver k m) = refl
keyword-again (Lose k m) = refl

word-lacks : (command : Command) → lacks 32 (command_word command) ≡ true
word-lacks (Load k target) = refl
word-lacks (Event k kind.Click node text) = refl
word-lacks (Event k kind.Input node text) = refl
word-lacks (Event k kind.Change node text) = refl
word-lacks (Serve k m) = refl
word-lacks (Deliver k m) = refl
word-lacks (Lose k m) = refl

-- ---- a line

command-found : (version : ℕ) (bytes : List ℕ) (command : Command) → command_in version bytes ≡ Some command → SpellsCommand version bytes command
command-found version bytes command e = at (keyword_in (before 32 bytes)) (after_spaces (from 32 bytes)) refl refl e
  where
    at : (k : Option Keyword) (w : Option (List ℕ)) → keyword_in (before 32 bytes) ≡ k → after_spaces (from 32 bytes) ≡ w → command_with version k w ≡ Some command
        → SpellsCommand version bytes command
    at None w ek ew is = absurd (cc)
    at (Some keyword) None ek ew is = absurd (cc)
    at (Some keyword) (Some words) ek ew is =
        let cut = word-found bytes words ew in
        let behind = arguments-found version keyword words command is in
        let first : before 32 bytes ≡ command_word command = keyword-found (before 32 bytes) keyword ek ∙ behind.0 in
        (cut.0, words, cut.1 ∙ ap (λ xs. xs ++ (gap cut.0 ++ words)) first, behind.1)

pub command-again : (version : ℕ) (bytes : List ℕ) (command : Command) → SpellsCommand version bytes command → command_in version bytes ≡ Some command
command-again version bytes command spells =
    let a : ℕ = spells.0 in let words : List ℕ = spells.1 in
    let bare = word-lacks command in
    let first = ap keyword_in (word-again (command_word command) a words bare) ∙ keyword-again command in
    let behind = rest-again (command_word command) a words bare (arguments-start version command words spells.3) in
    ap (command_in version) spells.2 ∙ ap₂ (command_with version) first behind ∙ arguments-again version command words spells.3

-- a command's line begins with the first letter of its word
abbrev first_letter : Command → ℕ
first_letter (Load k target) = 108
first_letter (Event k kind.Click node text) = 99
first_letter (Event k kind.Input node text) = 105
first_letter (Event k kind.Change node text) = 99
first_letter (Serve k m) = 115
first_letter (Deliver k m) = 100
first_letter (Lose k m) = 108

word-starts : (command : Command) (rest : List ℕ) → (more : List ℕ) × (command_word command ++ rest ≡ first_letter command ∷ more)
word-starts (Load k target) rest = (_, refl)
word-starts (Event k kind.Click node text) rest = (_, refl)
word-starts (Event k kind.Input node text) rest = (_, refl)
word-starts (Event k kind.Change node text) rest = (_, refl)
word-starts (Serve k m) rest = (_, refl)
word-starts (Deliver k m) rest = (_, refl)
word-starts (Lose k m) rest = (_, refl)

letter-apart : (command : Command) → (first_letter command == 35) ≡ false
letter-apart (Load k target) = refl
letter-apart (Event k kind.Click node text) = refl
letter-apart (Event k kind.Input node text) = refl
letter-apart (Event k kind.Change node text) = refl
letter-apart (Serve k m) = refl
letter-apart (Deliver k m) = refl
letter-apart (Lose k m) = refl

-- what a line is, as a fact on it
abbrev pub IsKind : ℕ → List ℕ → LineKind → Type 0
IsKind version bytes line.Skipped = IsSkipped bytes
IsKind version bytes (line.Command command) = SpellsCommand version bytes command
IsKind version bytes line.Bad = IsGoodLine version bytes → ⊥

pub kind-skipped : (version : ℕ) (bytes : List ℕ) → IsSkipped bytes → kind_of version bytes ≡ line.Skipped
kind-skipped version [] is = refl
kind-skipped version (byte ∷ bytes) is =
    let hash : (byte == 35) ≡ true = eq-eqb byte 35 is.0 in
    let text : is_utf8 (byte ∷ bytes) ≡ true = is_utf8-from_IsUtf8 (byte ∷ bytes) is.1 in
    rw (hash, text) refl

pub kind-command : (version : ℕ) (bytes : List ℕ) (command : Command) → SpellsCommand version bytes command → kind_of version bytes ≡ line.Command command
kind-command version bytes command spells =
    let starts = word-starts command (gap spells.0 ++ spells.1) in
    let found = command-again version bytes command spells in
    let P : List ℕ → Type 0 = λ xs. command_in version xs ≡ Some command → kind_of version xs ≡ line.Command command in
    subst P (sym (spells.2 ∙ starts.1)) (λ some. rw (letter-apart command, some) refl) found

pub kind-found : (version : ℕ) (bytes : List ℕ) (k : LineKind) → kind_of version bytes ≡ k → IsKind version bytes k
kind-found version bytes line.Bad is = λ good. elim good [
  | inl skipped ↦ bad-skipped (kind-skipped version bytes skipped)
  | inr spelled ↦ bad-command spelled.0 (kind-command version bytes spelled.0 spelled.1)
]
  where
    bad-skipped : kind_of version bytes ≡ line.Skipped → ⊥
    bad-skipped e = cc

    bad-command : (command : Command) → kind_of version bytes ≡ line.Command command → ⊥
    bad-command command e = cc
kind-found version [] line.Skipped is = tt
kind-found version [] (line.Command command) is = absurd (cc)
kind-found version (byte ∷ bytes) line.Skipped is = at (byte == 35) (is_utf8 (byte ∷ bytes)) (command_in version (byte ∷ bytes)) refl refl is
  where
    at : (h u : Bool) (o : Option Command) → (byte == 35) ≡ h → is_utf8 (byte ∷ bytes) ≡ u → (if h then (if u then line.Skipped else line.Bad) else kind_with o) ≡ line.Skipped
        → (byte ≡ 35) × IsUtf8 (byte ∷ bytes)
    at true true o eh eu e = (eqb-true byte 35 eh, IsUtf8-from_is_utf8 (byte ∷ bytes) eu)
    at true false o eh eu e = absurd (cc)
    at false u None eh eu e = absurd (cc)
    at false u (Some command) eh eu e = absurd (cc)
kind-found version (byte ∷ bytes) (line.Command command) is = at (byte == 35) (is_utf8 (byte ∷ bytes)) (command_in version (byte ∷ bytes)) refl is
  where
    at : (h u : Bool) (o : Option Command) → command_in version (byte ∷ bytes) ≡ o → (if h then (if u then line.Skipped else line.Bad) else kind_with o) ≡ line.Command command
        → SpellsCommand version (byte ∷ bytes) command
    at true true o eo e = absurd (cc)
    at true false o eo e = absurd (cc)
    at false u None eo e = absurd (cc)
    at false u (Some other) eo e = let same : other ≡ command = cc in command-found version (byte ∷ bytes) command (eo ∙ ap (λ c. Some c) same)

-- ---- laws

pub one-command : (version : ℕ) (bytes : List ℕ) (a b : Command) → SpellsCommand version bytes a → SpellsCommand version bytes b → a ≡ b
one-command version bytes a b first second = same_Some a b (sym (command-again version bytes a first) ∙ command-again version bytes b second)

pub skipped-spells-none : (version : ℕ) (bytes : List ℕ) (command : Command) → IsSkipped bytes → SpellsCommand version bytes command → ⊥
skipped-spells-none version bytes command skipped spelled =
    let one = kind-skipped version bytes skipped in
    let other = kind-command version bytes command spelled in
    cc
