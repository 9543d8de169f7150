-- What is found in a line is what it spells.
use Rattle.std.proofs.Common.{◌≡◌, inl, inr, ◌<◌, ◌^◌, ◌++◌, ◌==◌, ℕ, zero, suc, Bool, true, false, List, [], ◌∷◌, drop, codes, decimal, chars, encode_utf8_all, IsUtf8, Option, None, Some, option_and_then, sym, refl, ap, ap₂, subst, ◌∙◌, arith, append_assoc, eq-eqb, eqb-true, if◌then◌else◌}
use Rattle.std.proofs.lemmas.Fmt.{decimal_nonempty}
use Rattle.std.proofs.lemmas.Option.{cond_some, same_Some}
use Rattle.std.proofs.lemmas.Str.{encodes-chars, is_utf8-from_IsUtf8, IsUtf8-from_is_utf8}
use Rattle.std.specs.Str.{is_utf8}
use Rattle.mt_small.specs.declared.command.SmallCommand.{SmallCommand}
use Rattle.mt_small.specs.declared.command.SmallCommand.TheVariants.{Load, Serve, Deliver}
use Rattle.mt_small.specs.declared.command_reader.LineKind.{LineKind}
use Rattle.mt_small.specs.declared.command_reader.LineKind.TheVariants.{Skipped, Command, Bad}
use Rattle.mt_small.specs.CommandReader.{after_word, load_with, load_in, pair_of, message_in, serve_with, deliver_with, command_with, command_in, kind_with, kind_of}
use Rattle.mt_small.specs.Name.{is_target}
use Rattle.mt_small.specs.Number.{number_in}
use Rattle.mt_small.specs.Schedule.{gap, message_name, IsClient, IsMessageNumber, SpellsCommand, IsSkipped, IsGoodLine}
use Rattle.mt_small.specs.Splitting.{before, from, after_front, after_spaces}
use Rattle.mt_small.proofs.Cuts.{starts_without_space, before-append, from-append, before-from, after_front-found, after_front-again, from-starts, after_spaces-found, after_spaces-again}
use Rattle.mt_small.proofs.Numbers.{number_in-found, number_in-again, decimal-lacks, decimal-starts}
use Rattle.mt_small.proofs.Options.{then-found}
use Rattle.mt_small.proofs.PlainText.{target-utf8, target-starts, chars-encode}

pub after_word-found : (word line rest : List ℕ) → after_word word line ≡ Some rest → (a : ℕ) × (line ≡ word ++ gap a ++ rest)
after_word-found word line rest e =
    then-found after_spaces (after_front word line) rest e
    (λ spaces front last.
    let cut = after_spaces-found spaces rest last in
    (cut.0, after_front-found word line spaces front ∙ ap (λ xs. word ++ xs) cut.1 ∙ sym (append_assoc word (gap cut.0) rest)))

pub after_word-again : (word : List ℕ) (a : ℕ) (rest : List ℕ) → starts_without_space rest ≡ true → after_word word (word ++ (gap a ++ rest)) ≡ Some rest
after_word-again word a rest e = ap (λ o. option_and_then after_spaces o) (after_front-again word (gap a ++ rest)) ∙ after_spaces-again a rest e

-- one more space in front
gap-starts : (a : ℕ) (rest : List ℕ) → gap a ++ rest ≡ 32 ∷ drop 1 (gap a ++ rest)
gap-starts zero rest = refl
gap-starts (suc a) rest = refl

load_in-found : (words : List ℕ) (command : SmallCommand) → load_in words ≡ Some command
    → (k : ℕ) × (b : ℕ) × (target : List ℕ) × (words ≡ decimal k ++ gap b ++ target) × IsClient k × (is_target target ≡ true) × (command ≡ Load k (chars target))
load_in-found words command e = at (number_in 64 (before 32 words)) (after_spaces (from 32 words)) refl refl e
  where
    at : (n : Option ℕ) (t : Option (List ℕ)) → number_in 64 (before 32 words) ≡ n → after_spaces (from 32 words) ≡ t → load_with n t ≡ Some command
        → (k : ℕ) × (b : ℕ) × (target : List ℕ) × (words ≡ decimal k ++ gap b ++ target) × IsClient k × (is_target target ≡ true) × (command ≡ Load k (chars target))
    at (Some k) (Some target) number spaces is =
        let found = number_in-found 64 (before 32 words) k number in
        let cut = after_spaces-found (from 32 words) target spaces in
        let both = cond_some (is_target target) (Load k (chars target)) command is in (
          k,
          cut.0,
          target,
          before-from 32 words ∙ ap₂ (λ xs ys. xs ++ ys) found.2 cut.1 ∙ sym (append_assoc (decimal k) (gap cut.0) target),
          (found.0, found.1),
          both.0,
          sym both.1,
        )
    at (Some k) None number spaces is = absurd (cc)
    at None t number spaces is = absurd (cc)

load_in-again : (k b : ℕ) (target : List ℕ) → IsClient k → is_target target ≡ true → load_in (decimal k ++ (gap b ++ target)) ≡ Some (Load k (chars target))
load_in-again k b target client fits =
    let tail : List ℕ = gap b ++ target in
    let small : k < 2 ^ 64 = omega arith in
    let bare = decimal-lacks 32 k (omega arith) small in
    let whole : decimal k ++ tail ≡ decimal k ++ 32 ∷ drop 1 tail = ap (λ xs. decimal k ++ xs) (gap-starts b target) in
    let digits : before 32 (decimal k ++ tail) ≡ decimal k = ap (λ xs. before 32 xs) whole ∙ before-append 32 (decimal k) (drop 1 tail) bare in
    let rest : from 32 (decimal k ++ tail) ≡ tail = ap (λ xs. from 32 xs) whole ∙ from-append 32 (decimal k) (drop 1 tail) bare ∙ sym (gap-starts b target) in
    let number = ap (λ xs. number_in 64 xs) digits ∙ number_in-again 64 k client.0 client.1 small in
    let spaces = ap after_spaces rest ∙ after_spaces-again b target (target-starts target fits) in
    ap₂ load_with number spaces ∙ fit
  where
    fit : load_with (Some k) (Some target) ≡ Some (Load k (chars target))
    fit = rw fits refl

message_in-found : (word : List ℕ) (m : ℕ × ℕ) → message_in word ≡ Some m → (word ≡ message_name m.0 m.1) × IsClient m.0 × IsMessageNumber m.1
message_in-found word m e = at (number_in 64 (before 46 word)) (number_in 1000000 (drop 1 (from 46 word))) refl refl e
  where
    dotted : (xs ys : List ℕ) → xs ++ (46 ∷ ys) ≡ xs ++ codes "." ++ ys
    dotted xs ys = sym (append_assoc xs (codes ".") ys)

    at : (n o : Option ℕ) → number_in 64 (before 46 word) ≡ n → number_in 1000000 (drop 1 (from 46 word)) ≡ o → pair_of n o ≡ Some m
        → (word ≡ message_name m.0 m.1) × IsClient m.0 × IsMessageNumber m.1
    at (Some client) (Some message) number_k number_m is =
        let k = number_in-found 64 (before 46 word) client number_k in
        let n = number_in-found 1000000 (drop 1 (from 46 word)) message number_m in
        let tail = from-starts 46 word (decimal message) n.2 (decimal_nonempty message (omega arith)) in
        let P : ℕ × ℕ → Type 0 = λ p. (word ≡ message_name p.0 p.1) × IsClient p.0 × IsMessageNumber p.1 in
        subst P (same_Some (client, message) m is)
        (before-from 46 word ∙ ap₂ (λ xs ys. xs ++ ys) k.2 tail ∙ dotted (decimal client) (decimal message), (k.0, k.1), (n.0, n.1))
    at (Some client) None number_k number_m is = absurd (cc)
    at None o number_k number_m is = absurd (cc)

message_in-again : (k m : ℕ) → IsClient k → IsMessageNumber m → message_in (message_name k m) ≡ Some (k, m)
message_in-again k m client message =
    let small : k < 2 ^ 64 = omega arith in
    let small_m : m < 2 ^ 64 = omega arith in
    let bare = decimal-lacks 46 k (omega arith) small in
    let whole : message_name k m ≡ decimal k ++ 46 ∷ decimal m = append_assoc (decimal k) (codes ".") (decimal m) in
    let digits : before 46 (message_name k m) ≡ decimal k = ap (λ xs. before 46 xs) whole ∙ before-append 46 (decimal k) (decimal m) bare in
    let rest : drop 1 (from 46 (message_name k m)) ≡ decimal m = ap (λ xs. drop 1 (from 46 xs)) whole ∙ ap (λ xs. drop 1 xs) (from-append 46 (decimal k) (decimal m) bare) in
    let number_k = ap (λ xs. number_in 64 xs) digits ∙ number_in-again 64 k client.0 client.1 small in
    let number_m = ap (λ xs. number_in 1000000 xs) rest ∙ number_in-again 1000000 m message.0 message.1 small_m in
    ap₂ pair_of number_k number_m

name-starts : (k m : ℕ) → IsClient k → starts_without_space (message_name k m) ≡ true
name-starts k m client = ap starts_without_space (append_assoc (decimal k) (codes ".") (decimal m)) ∙ decimal-starts k (codes "." ++ decimal m) (omega arith)

served : (word : List ℕ) (command : SmallCommand) → serve_with (message_in word) ≡ Some command → (m : ℕ × ℕ) × (message_in word ≡ Some m) × (command ≡ Serve m.0 m.1)
served word command e = at (message_in word) refl e
  where
    at : (o : Option (ℕ × ℕ)) → message_in word ≡ o → serve_with o ≡ Some command → (m : ℕ × ℕ) × (message_in word ≡ Some m) × (command ≡ Serve m.0 m.1)
    at None found is = absurd (cc)
    at (Some m) found is = (m, found, sym (same_Some (Serve m.0 m.1) command is))

delivered : (word : List ℕ) (command : SmallCommand) → deliver_with (message_in word) ≡ Some command → (m : ℕ × ℕ) × (message_in word ≡ Some m) × (command ≡ Deliver m.0 m.1)
delivered word command e = at (message_in word) refl e
  where
    at : (o : Option (ℕ × ℕ)) → message_in word ≡ o → deliver_with o ≡ Some command → (m : ℕ × ℕ) × (message_in word ≡ Some m) × (command ≡ Deliver m.0 m.1)
    at None found is = absurd (cc)
    at (Some m) found is = (m, found, sym (same_Some (Deliver m.0 m.1) command is))

regroup : (a k b : ℕ) (target : List ℕ) → codes "load" ++ gap a ++ decimal k ++ gap b ++ target ≡ codes "load" ++ gap a ++ (decimal k ++ (gap b ++ target))
regroup a k b target = append_assoc (codes "load" ++ gap a ++ decimal k) (gap b) target ∙ append_assoc (codes "load" ++ gap a) (decimal k) (gap b ++ target)

pub command_in-found : (line : List ℕ) (command : SmallCommand) → command_in line ≡ Some command → SpellsCommand line command
command_in-found line command e = at (after_word (codes "load") line) (after_word (codes "serve") line) (after_word (codes "deliver") line) refl refl refl e
  where
    at : (l s d : Option (List ℕ)) → after_word (codes "load") line ≡ l → after_word (codes "serve") line ≡ s → after_word (codes "deliver") line ≡ d
        → command_with l s d ≡ Some command → SpellsCommand line command
    at (Some words) s d el es ed is =
        let word = after_word-found (codes "load") line words el in
        let load = load_in-found words command is in
        let k : ℕ = load.0 in let b : ℕ = load.1 in let target : List ℕ = load.2 in
        let bytes : encode_utf8_all (chars target) ≡ target = encodes-chars target (target-utf8 target load.5) in
        subst (SpellsCommand line) (sym load.6) (
          word.0,
          b,
          word.1 ∙ ap (λ xs. codes "load" ++ gap word.0 ++ xs) (load.3 ∙ append_assoc (decimal k) (gap b) target) ∙ sym (regroup word.0 k b target)
              ∙ ap (λ xs. codes "load" ++ gap word.0 ++ decimal k ++ gap b ++ xs) (sym bytes),
          load.4,
          ap is_target bytes ∙ load.5,
        )
    at None (Some word) d el es ed is =
        let front = after_word-found (codes "serve") line word es in
        let serve = served word command is in
        let name = message_in-found word serve.0 serve.1 in
        subst (SpellsCommand line) (sym serve.2) (front.0, front.1 ∙ ap (λ xs. codes "serve" ++ gap front.0 ++ xs) name.0, name.1, name.2)
    at None None (Some word) el es ed is =
        let front = after_word-found (codes "deliver") line word ed in
        let deliver = delivered word command is in
        let name = message_in-found word deliver.0 deliver.1 in
        subst (SpellsCommand line) (sym deliver.2) (front.0, front.1 ∙ ap (λ xs. codes "deliver" ++ gap front.0 ++ xs) name.0, name.1, name.2)
    at None None None el es ed is = absurd (cc)

-- a command's line begins with the first letter of its word
abbrev first_letter : SmallCommand → ℕ
first_letter (Load k target) = 108
first_letter (Serve k m) = 115
first_letter (Deliver k m) = 100

line-starts : (line : List ℕ) (command : SmallCommand) → SpellsCommand line command → (more : List ℕ) × (line ≡ first_letter command ∷ more)
line-starts line (Load k target) spells = (_, spells.2)
line-starts line (Serve k m) spells = (_, spells.1)
line-starts line (Deliver k m) spells = (_, spells.1)

pub command_in-again : (line : List ℕ) (command : SmallCommand) → SpellsCommand line command → command_in line ≡ Some command
command_in-again line (Load k target) spells =
    let a : ℕ = spells.0 in let b : ℕ = spells.1 in let bytes : List ℕ = encode_utf8_all target in
    let words : List ℕ = decimal k ++ (gap b ++ bytes) in
    let whole : codes "load" ++ gap a ++ decimal k ++ gap b ++ bytes ≡ codes "load" ++ (gap a ++ words) =
    append_assoc (codes "load" ++ gap a ++ decimal k) (gap b) bytes ∙ append_assoc (codes "load" ++ gap a) (decimal k) (gap b ++ bytes)
    ∙ append_assoc (codes "load") (gap a) words in
    let word = after_word-again (codes "load") a words (decimal-starts k (gap b ++ bytes) (omega arith)) in
    ap command_in (spells.2 ∙ whole) ∙ ap (λ o. command_with o (after_word (codes "serve") (codes "load" ++ (gap a ++ words))) (after_word (codes "deliver") (codes "load" ++ (gap a ++ words)))) word
    ∙ load_in-again k b bytes spells.3 spells.4 ∙ ap (λ t. Some (Load k t)) (chars-encode target (target-utf8 bytes spells.4))
command_in-again line (Serve k m) spells =
    let a : ℕ = spells.0 in
    let whole : codes "serve" ++ gap a ++ message_name k m ≡ codes "serve" ++ (gap a ++ message_name k m) = append_assoc (codes "serve") (gap a) (message_name k m) in
    let word = after_word-again (codes "serve") a (message_name k m) (name-starts k m spells.2) in
    ap command_in (spells.1 ∙ whole) ∙ ap (λ o. command_with None o None) word ∙ ap serve_with (message_in-again k m spells.2 spells.3)
command_in-again line (Deliver k m) spells =
    let a : ℕ = spells.0 in
    let whole : codes "deliver" ++ gap a ++ message_name k m ≡ codes "deliver" ++ (gap a ++ message_name k m) = append_assoc (codes "deliver") (gap a) (message_name k m) in
    let word = after_word-again (codes "deliver") a (message_name k m) (name-starts k m spells.2) in
    ap command_in (spells.1 ∙ whole) ∙ ap (λ o. command_with None None o) word ∙ ap deliver_with (message_in-again k m spells.2 spells.3)

-- what a line is, as a fact on it
abbrev pub IsKind : List ℕ → LineKind → Type 0
IsKind line Skipped = IsSkipped line
IsKind line (Command command) = SpellsCommand line command
IsKind line Bad = IsGoodLine line → ⊥

pub kind-skipped : (line : List ℕ) → IsSkipped line → kind_of line ≡ Skipped
kind-skipped [] is = refl
kind-skipped (byte ∷ bytes) is =
    let hash : (byte == 35) ≡ true = eq-eqb byte 35 is.0 in
    let text : is_utf8 (byte ∷ bytes) ≡ true = is_utf8-from_IsUtf8 (byte ∷ bytes) is.1 in
    rw (hash, text) refl

letter-apart : (command : SmallCommand) → (first_letter command == 35) ≡ false
letter-apart (Load k target) = refl
letter-apart (Serve k m) = refl
letter-apart (Deliver k m) = refl

pub kind-command : (line : List ℕ) (command : SmallCommand) → SpellsCommand line command → kind_of line ≡ Command command
kind-command line command spells =
    let starts = line-starts line command spells in
    let found = command_in-again line command spells in
    let P : List ℕ → Type 0 = λ xs. command_in xs ≡ Some command → kind_of xs ≡ Command command in
    subst P (sym starts.1) (λ some. rw (letter-apart command, some) refl) found

pub kind-found : (line : List ℕ) (kind : LineKind) → kind_of line ≡ kind → IsKind line kind
kind-found line Bad is = λ good. elim good [ inl skipped ↦ bad-skipped (kind-skipped line skipped) | inr spelled ↦ bad-command spelled.0 (kind-command line spelled.0 spelled.1) ]
  where
    bad-skipped : kind_of line ≡ Skipped → ⊥
    bad-skipped e = cc

    bad-command : (command : SmallCommand) → kind_of line ≡ Command command → ⊥
    bad-command command e = cc
kind-found [] Skipped is = tt
kind-found [] (Command command) is = absurd (cc)
kind-found (byte ∷ bytes) Skipped is = at (byte == 35) (is_utf8 (byte ∷ bytes)) (command_in (byte ∷ bytes)) refl refl is
  where
    at : (h u : Bool) (o : Option SmallCommand) → (byte == 35) ≡ h → is_utf8 (byte ∷ bytes) ≡ u → (if h then (if u then Skipped else Bad) else kind_with o) ≡ Skipped
        → (byte ≡ 35) × IsUtf8 (byte ∷ bytes)
    at true true o eh eu e = (eqb-true byte 35 eh, IsUtf8-from_is_utf8 (byte ∷ bytes) eu)
    at true false o eh eu e = absurd (cc)
    at false u None eh eu e = absurd (cc)
    at false u (Some command) eh eu e = absurd (cc)
kind-found (byte ∷ bytes) (Command command) is = at (byte == 35) (is_utf8 (byte ∷ bytes)) (command_in (byte ∷ bytes)) refl is
  where
    at : (h u : Bool) (o : Option SmallCommand) → command_in (byte ∷ bytes) ≡ o → (if h then (if u then Skipped else Bad) else kind_with o) ≡ Command command
        → SpellsCommand (byte ∷ bytes) command
    at true true o eo e = absurd (cc)
    at true false o eo e = absurd (cc)
    at false u None eo e = absurd (cc)
    at false u (Some other) eo e = let same : other ≡ command = cc in command_in-found (byte ∷ bytes) command (eo ∙ ap (λ c. Some c) same)
