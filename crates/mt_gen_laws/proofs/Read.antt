-- The generated lines, as a schedule's lines are read.
use Rattle.std.proofs.Common.{◌≡◌, ◌≤◌, ◌<◌, ◌+◌, ◌-◌, ◌*◌, ◌^◌, ◌++◌, ◌==◌, ◌&&◌, not, All, inr, ℕ, zero, suc, true, false, List, [], ◌∷◌, length, map, reverse, codes, decimal, encode_utf8_all, sym, refl, ap, ap₂, subst, ◌∙◌, arith, append_assoc, length-append}
use Rattle.std.specs.List.{flat_map, range_with_len, AllByRecursion}
use Rattle.std.proofs.lemmas.Bool.{and_parts, ne_eqb}
use Rattle.std.proofs.lemmas.List.{get_or-reverse, length-map, length-reverse}
use Rattle.std.proofs.lemmas.List.Elements.{recursion_from_All, All-from_recursion}
use Rattle.std.proofs.lemmas.List.Folds.{list_all-append}
use Rattle.std.proofs.lemmas.List.FromFn.{length-range_with_len}
use Rattle.std.proofs.lemmas.Nat.{mod_below, div_below}
use Rattle.std.proofs.lemmas.Str.{encodes-IsAscii}
use Rattle.std.proofs.lemmas.Str.Ascii.{IsAscii-cons, IsAscii-nil}
use Rattle.mt_gen.specs.Schedule.{Step, load, click, serve, deliver, line, lines as written, up_to, clients, opening, client_of, message_of, turn, steps, schedule_text}
use Rattle.mt_http_types.specs.Target.{is_target}
use Rattle.mt_http_types.proofs.Targets as target
use Rattle.mt_lines.proofs.Lines.{ended-line}
use Rattle.mt_lines.proofs.Numbers.{decimal-lacks}
use Rattle.mt_lines.proofs.Words.{lacks}
use Rattle.mt_schedule.specs.Command.{IsClient, IsMessageNumber, SpellsCommand}
use Rattle.mt_schedule.specs.Schedule.{lines, begins_with_heading, version_of, body, line_limit, SpellsCommands, SpellsSchedule}
use Rattle.mt_gen_laws.specs.Commands.{command_of}

-- ---- a step

-- a step that a schedule of version 1 can ask for
abbrev IsStep : Step → Type 0
IsStep (load k) = IsClient 1 k
IsStep (click k) = IsClient 1 k
IsStep (serve k m) = IsClient 1 k × IsMessageNumber m
IsStep (deliver k m) = IsClient 1 k × IsMessageNumber m

-- its line without the line feed
abbrev bare : Step → List ℕ
bare (load k) = codes "load " ++ (decimal k ++ codes " /hop/main")
bare (click k) = codes "click " ++ (decimal k ++ codes " #b")
bare (serve k m) = codes "serve " ++ (decimal k ++ 46 ∷ decimal m)
bare (deliver k m) = codes "deliver " ++ (decimal k ++ 46 ∷ decimal m)

joined : (first second third : List ℕ) → (first ++ second) ++ (third ++ 10 ∷ []) ≡ (first ++ (second ++ third)) ++ 10 ∷ []
joined first second third =
    append_assoc first second (third ++ 10 ∷ []) ∙ ap (λ xs. first ++ xs) (sym (append_assoc second third (10 ∷ []))) ∙ sym (append_assoc first (second ++ third) (10 ∷ []))

named : (first : List ℕ) (k m : ℕ) → first ++ decimal k ++ codes "." ++ decimal m ++ 10 ∷ [] ≡ (first ++ (decimal k ++ 46 ∷ decimal m)) ++ 10 ∷ []
named first k m = ap (λ xs. xs ++ 10 ∷ []) (append_assoc (first ++ decimal k) (codes ".") (decimal m) ∙ append_assoc first (decimal k) (46 ∷ decimal m))

line-is : (s : Step) → line s ≡ bare s ++ 10 ∷ []
line-is (load k) = joined (codes "load ") (decimal k) (codes " /hop/main")
line-is (click k) = joined (codes "click ") (decimal k) (codes " #b")
line-is (serve k m) = named (codes "serve ") k m
line-is (deliver k m) = named (codes "deliver ") k m

-- ---- bytes that a line lacks

lacks-both : (byte : ℕ) (xs ys : List ℕ) → lacks byte xs ≡ true → lacks byte ys ≡ true → lacks byte (xs ++ ys) ≡ true
lacks-both byte xs ys first second = list_all-append (λ b. not (b == byte)) xs ys ∙ ap₂ (λ p q. p && q) first second

client-small : (k : ℕ) → IsClient 1 k → k < 2 ^ 64
client-small k client = omega (arith, client.1)

-- a byte below the digits that no line holds beside its own words
lacks-name : (byte k m : ℕ) → byte < 46 → IsClient 1 k → IsMessageNumber m → lacks byte (decimal k ++ 46 ∷ decimal m) ≡ true
lacks-name byte k m low client message =
    lacks-both byte (decimal k) (46 ∷ decimal m) (decimal-lacks byte k (omega arith) (client-small k client))
    (lacks-both byte (46 ∷ []) (decimal m) dot (decimal-lacks byte m (omega arith) (omega (arith, message.1))))
  where
    dot : lacks byte (46 ∷ []) ≡ true
    dot = let other : (46 == byte) ≡ false = ne_eqb 46 byte (λ e. omega (arith, e)) in rw other refl

-- a client between two words
lacks-client : (byte : ℕ) (first last : List ℕ) (k : ℕ) → byte < 48 → IsClient 1 k → lacks byte first ≡ true → lacks byte last ≡ true
    → lacks byte (first ++ (decimal k ++ last)) ≡ true
lacks-client byte first last k low client bare_first bare_last =
    lacks-both byte first (decimal k ++ last) bare_first
    (lacks-both byte (decimal k) last (decimal-lacks byte k low (client-small k client)) bare_last)

bare-lacks-feed : (s : Step) → IsStep s → lacks 10 (bare s) ≡ true
bare-lacks-feed (load k) is = lacks-client 10 (codes "load ") (codes " /hop/main") k (omega arith) is refl refl
bare-lacks-feed (click k) is = lacks-client 10 (codes "click ") (codes " #b") k (omega arith) is refl refl
bare-lacks-feed (serve k m) is = lacks-both 10 (codes "serve ") (decimal k ++ 46 ∷ decimal m) refl (lacks-name 10 k m (omega arith) is.0 is.1)
bare-lacks-feed (deliver k m) is = lacks-both 10 (codes "deliver ") (decimal k ++ 46 ∷ decimal m) refl (lacks-name 10 k m (omega arith) is.0 is.1)

bare-lacks-return : (s : Step) → IsStep s → lacks 13 (bare s) ≡ true
bare-lacks-return (load k) is = lacks-client 13 (codes "load ") (codes " /hop/main") k (omega arith) is refl refl
bare-lacks-return (click k) is = lacks-client 13 (codes "click ") (codes " #b") k (omega arith) is refl refl
bare-lacks-return (serve k m) is = lacks-both 13 (codes "serve ") (decimal k ++ 46 ∷ decimal m) refl (lacks-name 13 k m (omega arith) is.0 is.1)
bare-lacks-return (deliver k m) is = lacks-both 13 (codes "deliver ") (decimal k ++ 46 ∷ decimal m) refl (lacks-name 13 k m (omega arith) is.0 is.1)

no-return : (bytes : List ℕ) → lacks 13 bytes ≡ true → (front : List ℕ) → bytes ≡ front ++ 13 ∷ [] → ⊥
no-return bytes whole front is =
    let split = sym (list_all-append (λ b. not (b == 13)) front (13 ∷ [])) ∙ ap (lacks 13) (sym is) ∙ whole in
    let last : false ≡ true = (and_parts (lacks 13 front) false split).1 in
    cc

-- ---- lines

lines-written : (ss : List Step) → AllByRecursion IsStep ss → lines (written ss) ≡ map bare ss
lines-written [] all = refl
lines-written (s ∷ ss) all =
    ap lines (ap (λ l. l ++ written ss) (line-is s) ∙ append_assoc (bare s) (10 ∷ []) (written ss))
    ∙ ended-line (bare s) (written ss) (bare-lacks-feed s all.0) (no-return (bare s) (bare-lacks-return s all.0))
    ∙ ap (λ ls. bare s ∷ ls) (lines-written ss all.1)

no-heading : (ss : List Step) → begins_with_heading (map bare ss) ≡ false
no-heading [] = refl
no-heading (load k ∷ ss) = refl
no-heading (click k ∷ ss) = refl
no-heading (serve k m ∷ ss) = refl
no-heading (deliver k m ∷ ss) = refl

bare-spells : (s : Step) → IsStep s → SpellsCommand 1 (bare s) (command_of s)
bare-spells (load k) is =
    let path : List ℕ = codes "/hop/main" in
    let plain : encode_utf8_all path ≡ path = target.same_bytes path refl in (
      0,
      decimal k ++ (32 ∷ encode_utf8_all path),
      ap (λ xs. codes "load " ++ (decimal k ++ 32 ∷ xs)) (sym plain),
      (0, is, ap is_target plain, refl),
    )
bare-spells (click k) is =
    let name : List ℕ = codes "b" in
    let plain : encode_utf8_all name ≡ name = encodes-IsAscii name (IsAscii-cons 98 [] (omega arith) IsAscii-nil) in (
      0,
      decimal k ++ (32 ∷ 35 ∷ encode_utf8_all name),
      ap (λ xs. codes "click " ++ (decimal k ++ 32 ∷ 35 ∷ xs)) (sym plain),
      (0, 35 ∷ encode_utf8_all name, is, refl, ((refl, refl), refl)),
    )
bare-spells (serve k m) is = (0, decimal k ++ 46 ∷ decimal m, refl, (is.0, is.1, refl))
bare-spells (deliver k m) is = (0, decimal k ++ 46 ∷ decimal m, refl, (is.0, is.1, refl))

all-spell : (ss : List Step) → AllByRecursion IsStep ss → SpellsCommands 1 (map bare ss) (map command_of ss)
all-spell [] all = refl
all-spell (s ∷ ss) all = inr (command_of s, map command_of ss, refl, bare-spells s all.0, all-spell ss all.1)

-- ---- the steps

both-all : (xs ys : List Step) → AllByRecursion IsStep xs → AllByRecursion IsStep ys → AllByRecursion IsStep (xs ++ ys)
both-all [] ys first second = second
both-all (x ∷ xs) ys first second = (first.0, both-all xs ys first.1 second)

all-map : (f : ℕ → Step) (ks : List ℕ) → AllByRecursion (λ k. IsStep (f k)) ks → AllByRecursion IsStep (map f ks)
all-map f [] all = tt
all-map f (k ∷ ks) all = (all.0, all-map f ks all.1)

all-range : (P : ℕ → Type 0) (a n : ℕ) → ((k : ℕ) → a ≤ k → k < a + n → P k) → AllByRecursion P (range_with_len a n)
all-range P a zero each = tt
all-range P a (suc n) each = (each a (omega arith) (omega arith), all-range P (a + 1) n (λ k low high. each k (omega arith) (omega arith)))

all-reverse : (P : ℕ → Type 0) (ks : List ℕ) → AllByRecursion P ks → AllByRecursion P (reverse ks)
all-reverse P ks all = recursion_from_All P (reverse ks) indexed
  where
    indexed : All P (reverse ks)
    indexed i d less =
        let inside : i < length ks = omega (arith, length-reverse ks) in
        subst P (sym (get_or-reverse ks i d inside)) (All-from_recursion P ks all (length ks - 1 - i) d (omega arith))

clients-fit : (c : ℕ) → c ≤ 64 → AllByRecursion (IsClient 1) (up_to c)
clients-fit c few = all-range (IsClient 1) 1 c (λ k low high. (low, omega arith))

first-fits : IsMessageNumber 1
first-fits = (omega arith, omega arith)

with-first : (ks : List ℕ) → AllByRecursion (IsClient 1) ks → AllByRecursion (λ k. IsClient 1 k × IsMessageNumber 1) ks
with-first [] all = tt
with-first (k ∷ ks) all = ((all.0, first-fits), with-first ks all.1)

opening-fits : (c : ℕ) → c ≤ 64 → AllByRecursion IsStep (opening c)
opening-fits c few =
    let fit = clients-fit c few in
    both-all (map load (up_to c) ++ map (λ k. serve k 1) (reverse (up_to c))) (map (λ k. deliver k 1) (up_to c))
    (both-all (map load (up_to c)) (map (λ k. serve k 1) (reverse (up_to c))) (all-map load (up_to c) fit)
    (all-map (λ k. serve k 1) (reverse (up_to c)) (with-first (reverse (up_to c)) (all-reverse (IsClient 1) (up_to c) fit))))
    (all-map (λ k. deliver k 1) (up_to c) (with-first (up_to c) fit))

client-fits : (c j : ℕ) → 0 < c → c ≤ 64 → IsClient 1 (client_of c j)
client-fits c j some few = let low = mod_below (j - 1) c some in (omega arith, omega (arith, low))

message-fits : (c j : ℕ) → 0 < c → j ≤ 6000 → IsMessageNumber (message_of c j)
message-fits c j some few = let below = div_below (j - 1) c 6001 some more in (omega arith, omega (arith, below))
  where
    more : j - 1 < 6001 * c
    more = omega (arith, some, few)

turns-fit : (c a n : ℕ) → 0 < c → c ≤ 64 → a + n ≤ 6001 → AllByRecursion IsStep (flat_map (turn c) (range_with_len a n))
turns-fit c a zero some few short = tt
turns-fit c a (suc n) some few short =
    let client = client-fits c a some few in let message = message-fits c a some (omega arith) in
    (client, ((client, message), ((client, message), turns-fit c (a + 1) n some few (omega arith))))

length-turns : (c a n : ℕ) → length (flat_map (turn c) (range_with_len a n)) ≡ 3 * n
length-turns c a zero = refl
length-turns c a (suc n) = omega (arith, length-turns c (a + 1) n)

length-opening : (c : ℕ) → length (opening c) ≡ 3 * c
length-opening c =
    omega (
      arith,
      length-append (map load (up_to c) ++ map (λ k. serve k 1) (reverse (up_to c))) (map (λ k. deliver k 1) (up_to c)),
      length-append (map load (up_to c)) (map (λ k. serve k 1) (reverse (up_to c))),
      length-map (up_to c) load,
      length-map (reverse (up_to c)) (λ k. serve k 1),
      length-map (up_to c) (λ k. deliver k 1),
      length-reverse (up_to c),
      length-range_with_len 1 c,
    )

few-clients : (n : ℕ) → 1 ≤ n → (0 < clients n) × (clients n ≤ 64)
few-clients n some = (omega arith, omega arith)

steps-fit : (n : ℕ) → 1 ≤ n → n ≤ 6000 → AllByRecursion IsStep (steps n)
steps-fit n some few =
    let c = few-clients n some in
    both-all (opening (clients n)) (flat_map (turn (clients n)) (up_to n)) (opening-fits (clients n) c.1) (turns-fit (clients n) 1 n c.0 c.1 (omega arith))

steps-few : (n : ℕ) → 1 ≤ n → n ≤ 6000 → length (steps n) ≤ 20000
steps-few n some few =
    omega (arith, length-append (opening (clients n)) (flat_map (turn (clients n)) (up_to n)), length-opening (clients n), length-turns (clients n) 1 n, (few-clients n some).1)

-- ---- the schedule

read-of : (ss : List Step) → AllByRecursion IsStep ss → length ss ≤ 20000 → SpellsSchedule (written ss) (map command_of ss)
read-of ss all few = (short, subst (λ v. SpellsCommands v (body (written ss)) (map command_of ss)) (sym version) spelled)
  where
    are : lines (written ss) ≡ map bare ss
    are = lines-written ss all

    plain : begins_with_heading (lines (written ss)) ≡ false
    plain = ap begins_with_heading are ∙ no-heading ss

    version : version_of (written ss) ≡ 1
    version = rw plain refl

    behind : body (written ss) ≡ map bare ss
    behind = rw plain are

    spelled : SpellsCommands 1 (body (written ss)) (map command_of ss)
    spelled = subst (λ ls. SpellsCommands 1 ls (map command_of ss)) (sym behind) (all-spell ss all)

    short : length (lines (written ss)) ≤ line_limit (version_of (written ss))
    short = rw version (omega (arith, ap length are, length-map ss bare, few))

pub schedule-read : (n : ℕ) → 1 ≤ n → n ≤ 6000 → SpellsSchedule (schedule_text n) (map command_of (steps n))
schedule-read n some few = read-of (steps n) (steps-fit n some few) (steps-few n some few)
