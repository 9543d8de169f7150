-- What follows an escape or a reference stands further on in the text.
use Rattle.std.proofs.Common.{◌≡◌, ℕ, zero, suc, Bool, true, false, eqb, List, [], ◌∷◌, map, Option, Some, None, refl, ap, subst}
use Rattle.std.specs.Prelude.{nat_eq, option_map, if◌then◌else◌}
use Rattle.std.specs.Option.{option_or}
use Rattle.mt_lexer.specs.declared.character.SourceChar.{SourceChar}
use Rattle.mt_lexer.specs.Character.{Chars, between}
use Rattle.mt_lexer.specs.Escape.{is_simple_escape, simple_escape, is_hex, hex_more, is_high, is_low, is_character, digits, code_point, in_braces, low_digits, second_unit, paired, pair_of, of_unit, unicode, escape}
use Rattle.mt_parser_marks.specs.Values.{unplaced, values, behind, named}

-- the second list is the end of the first
pub data Ends {X : Type 0} : List X → List X → Type 0 where
  all : {xs : List X} → Ends xs xs
  past : {x : X} {xs rest : List X} → Ends xs rest → Ends (x ∷ xs) rest

pub onward : {X : Type 0} {xs mid rest : List X} → Ends xs mid → Ends mid rest → Ends xs rest
onward all e = e
onward (past d) e = past (onward d e)

-- ---- escapes

abbrev pub Left : Option (ℕ × Chars) → Chars → Type 0
Left None cs = Unit {0}
Left (Some r) cs = Ends cs r.1

pick : (t : Bool) (u v : Option (ℕ × Chars)) (cs : Chars) → Left u cs → Left v cs → Left (if t then u else v) cs
pick true u v cs h g = h
pick false u v cs h g = g

before : (x : SourceChar) (cs : Chars) (u : Option (ℕ × Chars)) → Left u cs → Left u (x ∷ cs)
before x cs None h = tt
before x cs (Some r) h = past h

digits_left : (n v : ℕ) (cs : Chars) → Left (digits n v cs) cs
digits_left zero v cs = all
digits_left (suc n) v [] = tt
digits_left (suc n) v (x ∷ cs) = let u = digits n (hex_more v x.value) cs in pick (is_hex x.value) u None (x ∷ cs) (before x cs u (digits_left n (hex_more v x.value) cs)) tt

scalar_left : (v : ℕ) (x : SourceChar) (cs : Chars) → Left (if is_character v then Some (v, cs) else None) (x ∷ cs)
scalar_left v x cs = pick (is_character v) (Some (v, cs)) None (x ∷ cs) (past all) tt

code_point_left : (n v : ℕ) (cs : Chars) → Left (code_point n v cs) cs
code_point_left zero v [] = tt
code_point_left (suc n) v [] = tt
code_point_left zero v (x ∷ cs) = pick (nat_eq x.value 125) (if is_character v then Some (v, cs) else None) None (x ∷ cs) (scalar_left v x cs) tt
code_point_left (suc n) v (x ∷ cs) =
    let u = code_point n (hex_more v x.value) cs in
    pick (nat_eq x.value 125) (if is_character v then Some (v, cs) else None) (if is_hex x.value then u else None) (x ∷ cs) (scalar_left v x cs)
    (pick (is_hex x.value) u None (x ∷ cs) (before x cs u (code_point_left n (hex_more v x.value) cs)) tt)

low_digits_left : (cs : Chars) → Left (low_digits cs) cs
low_digits_left [] = tt
low_digits_left (x ∷ cs) = let u = digits 4 0 cs in pick (nat_eq x.value 117) u None (x ∷ cs) (before x cs u (digits_left 4 0 cs)) tt

second_left : (cs : Chars) → Left (second_unit cs) cs
second_left [] = tt
second_left (x ∷ cs) = let u = low_digits cs in pick (nat_eq x.value 92) u None (x ∷ cs) (before x cs u (low_digits_left cs)) tt

paired_left : (high : ℕ) (u : Option (ℕ × Chars)) (cs : Chars) → Left u cs → Left (paired high u) cs
paired_left high None cs h = tt
paired_left high (Some u) cs h = pick (is_low u.0) (Some (pair_of high u.0, u.1)) None cs h tt

ends_left : (cs mid : Chars) (u : Option (ℕ × Chars)) → Ends cs mid → Left u mid → Left u cs
ends_left cs mid None h g = tt
ends_left cs mid (Some r) h g = onward h g

unit_left : (u : Option (ℕ × Chars)) (cs : Chars) → Left u cs → Left (of_unit u) cs
unit_left None cs h = tt
unit_left (Some u) cs h =
    let v = paired u.0 (second_unit u.1) in
    pick (is_high u.0) v (if is_low u.0 then None else Some u) cs (ends_left cs u.1 v h (paired_left u.0 (second_unit u.1) u.1 (second_left u.1))) (pick (is_low u.0) None (Some u) cs tt h)

braces_left : (cs : Chars) → Left (in_braces cs) cs
braces_left [] = tt
braces_left (x ∷ cs) = let u = code_point 5 (hex_more 0 x.value) cs in pick (is_hex x.value) u None (x ∷ cs) (before x cs u (code_point_left 5 (hex_more 0 x.value) cs)) tt

unicode_left : (cs : Chars) → Left (unicode cs) cs
unicode_left [] = tt
unicode_left (x ∷ cs) =
    let u = in_braces cs in let v = of_unit (digits 4 0 (x ∷ cs)) in
    pick (nat_eq x.value 123) u v (x ∷ cs) (before x cs u (braces_left cs)) (unit_left (digits 4 0 (x ∷ cs)) (x ∷ cs) (digits_left 4 0 (x ∷ cs)))

-- an escape has a character at least
pub escape_left : (x : SourceChar) (cs : Chars) → Left (escape (x ∷ cs)) cs
escape_left x cs =
    let v : Option (ℕ × Chars) = Some (simple_escape x.value, cs) in
    pick (is_simple_escape x.value) v (if nat_eq x.value 117 then unicode cs else None) cs all (pick (nat_eq x.value 117) (unicode cs) None cs (unicode_left cs) tt)

-- ---- what is read off a list, and the rest

-- the rest stands further on
abbrev pub Further : List ℕ → List ℕ → Type 0
Further [] rest = ⊥
Further (c ∷ cs) rest = Ends cs rest

abbrev pub Follows : Option (ℕ × List ℕ) → List ℕ → Type 0
Follows None cs = Unit {0}
Follows (Some r) cs = Further cs r.1

ends_map : {X Y : Type 0} (f : X → Y) {xs rest : List X} → Ends xs rest → Ends (map f xs) (map f rest)
ends_map f all = all
ends_map f (past d) = past (ends_map f d)

pub values-unplaced : (cs : List ℕ) → values (unplaced cs) ≡ cs
values-unplaced [] = refl
values-unplaced (c ∷ cs) = ap (λ (cs : List ℕ). c ∷ cs) (values-unplaced cs)

-- an escape, as it is read off a list
abbrev pub escape_at : List ℕ → Option (ℕ × List ℕ)
escape_at cs = option_map (λ (r : ℕ × Chars). (r.0, values r.1)) (escape (unplaced cs))

pub escape_follows : (cs : List ℕ) → Follows (escape_at cs) cs
escape_follows [] = tt
escape_follows (c ∷ cs) = further (escape (unplaced (c ∷ cs))) (escape_left (record { value = c; span = between 0 0 }) (unplaced cs))
  where
    further : (o : Option (ℕ × Chars)) → Left o (unplaced cs) → Follows (option_map (λ (r : ℕ × Chars). (r.0, values r.1)) o) (c ∷ cs)
    further None h = tt
    further (Some r) h = subst (λ (l : List ℕ). Ends l (values r.1)) (values-unplaced cs) (ends_map (λ (x : SourceChar). x.value) h)

abbrev Rest : Option (List ℕ) → List ℕ → Type 0
Rest None cs = Unit {0}
Rest (Some rest) cs = Ends cs rest

behind_rest : (front cs : List ℕ) → Rest (behind front cs) cs
behind_rest [] cs = all
behind_rest (x ∷ xs) [] = tt
behind_rest (x ∷ xs) (c ∷ cs) = chosen (eqb x c) (behind xs cs) (behind_rest xs cs)
  where
    chosen : (t : Bool) (o : Option (List ℕ)) → Rest o cs → Rest (if t then o else None) (c ∷ cs)
    chosen true None h = tt
    chosen true (Some rest) h = past h
    chosen false o h = tt

-- no row is empty
abbrev pub Begun : List (List ℕ × ℕ) → Type 0
Begun [] = Unit {0}
Begun (([], v) ∷ rows) = ⊥
Begun ((x ∷ xs, v) ∷ rows) = Begun rows

pub named_follows : (rows : List (List ℕ × ℕ)) (cs : List ℕ) → Begun rows → Follows (named rows cs) cs
named_follows [] cs h = tt
named_follows (([], v) ∷ rows) cs h = absurd h
named_follows ((x ∷ xs, v) ∷ rows) [] h = named_follows rows [] h
named_follows ((x ∷ xs, v) ∷ rows) (c ∷ cs) h = chosen (eqb x c) (behind xs cs) (behind_rest xs cs) (named_follows rows (c ∷ cs) h)
  where
    chosen : (t : Bool) (o : Option (List ℕ)) → Rest o cs → Follows (named rows (c ∷ cs)) (c ∷ cs)
        → Follows (option_or (option_map (λ (rest : List ℕ). (v, rest)) (if t then o else None)) (named rows (c ∷ cs))) (c ∷ cs)
    chosen true None h g = g
    chosen true (Some rest) h g = h
    chosen false o h g = g
