-- What functions keep of an environment is all that they look at.
use Rattle.std.proofs.Common.{◌≡◌, ℕ, List, [], ◌∷◌, ◌++◌, map, Option, Some, Bool, true, false, cond, ◌||◌, refl, sym, ap, ◌∙◌}
use Rattle.std.proofs.lemmas.Slice.Eq.{bytes_eq-Decides}
use Rattle.mt_eval_meaning.specs.Free.{Names, has, without, cut}
use Rattle.mt_eval_meaning.specs.Names.{Binding, Environment, find}
use Rattle.mt_value.specs.Names.{is_same}

pub same_name : (y x : List ℕ) → is_same y x ≡ true → y ≡ x
same_name y x e = (bytes_eq-Decides y x).0 e

pub name_same : (x : List ℕ) → is_same x x ≡ true
name_same x = (bytes_eq-Decides x x).1 refl

-- ---- membership

head_at : (b r : Bool) → b ≡ true → (b || r) ≡ true
head_at true r e = refl
head_at false r e = cc

tail_at : (b r : Bool) → r ≡ true → (b || r) ≡ true
tail_at true r e = refl
tail_at false r e = e

pub has_here : (x : List ℕ) (xs : Names) (y : List ℕ) → is_same y x ≡ true → has (x ∷ xs) y ≡ true
has_here x xs y e = head_at (is_same y x) (has xs y) e

pub has_there : (x : List ℕ) (xs : Names) (y : List ℕ) → has xs y ≡ true → has (x ∷ xs) y ≡ true
has_there x xs y e = tail_at (is_same y x) (has xs y) e

left_at : (b r r' : Bool) → (r ≡ true → r' ≡ true) → (b || r) ≡ true → (b || r') ≡ true
left_at true r r' h e = refl
left_at false r r' h e = h e

pub has_left : (xs ys : Names) (y : List ℕ) → has xs y ≡ true → has (xs ++ ys) y ≡ true
has_left [] ys y e = cc
has_left (x ∷ xs) ys y e = left_at (is_same y x) (has xs y) (has (xs ++ ys) y) (has_left xs ys y) e

pub has_right : (xs ys : Names) (y : List ℕ) → has ys y ≡ true → has (xs ++ ys) y ≡ true
has_right [] ys y e = e
has_right (x ∷ xs) ys y e = has_there x (xs ++ ys) y (has_right xs ys y e)

split_at : (b r r' : Bool) → (r ≡ true → r' ≡ true) → (b || r) ≡ true → (b || r') ≡ true
split_at true r r' h e = refl
split_at false r r' h e = h e

-- what is in both lists, and not in the second, is in the first
pub has_split : (xs ys : Names) (y : List ℕ) → has (xs ++ ys) y ≡ true → has ys y ≡ false → has xs y ≡ true
has_split [] ys y h n = let clash : true ≡ false = sym h ∙ n in cc
has_split (x ∷ xs) ys y h n = split_at (is_same y x) (has (xs ++ ys) y) (has xs y) (λ k. has_split xs ys y k n) h

pub false_by : (b : Bool) → (b ≡ true → ⊥) → b ≡ false
false_by true h = absurd (h refl)
false_by false h = refl

pub clash : (b : Bool) → b ≡ true → b ≡ false → ⊥
clash b h k = cc

-- ---- a name that is not among some is kept

kept_at : (some : Names) (x y : List ℕ) (b : Bool) → has some x ≡ b → is_same y x ≡ true → has some y ≡ false → b ≡ false
kept_at some x y false h e n = refl
kept_at some x y true h e n = let clash : has some y ≡ true = ap (has some) (same_name y x e) ∙ h in cc

without_at : (some xs : Names) (x y : List ℕ) (b c : Bool) → is_same y x ≡ b → has some x ≡ c → has some y ≡ false → (has xs y ≡ true → has (without some xs) y ≡ true) → (b || has xs y) ≡ true
    → has (cond {A = Names} c (without some xs) (x ∷ without some xs)) y ≡ true
without_at some xs x y true true p q n k h = let f = kept_at some x y true q p n in cc
without_at some xs x y true false p q n k h = has_here x (without some xs) y p
without_at some xs x y false true p q n k h = k h
without_at some xs x y false false p q n k h = has_there x (without some xs) y (k h)

pub has_without : (some xs : Names) (y : List ℕ) → has some y ≡ false → has xs y ≡ true → has (without some xs) y ≡ true
has_without some [] y n e = cc
has_without some (x ∷ xs) y n e = without_at some xs x y (is_same y x) (has some x) refl refl n (has_without some xs y n) e

-- and only such
only_at : (some xs : Names) (x y : List ℕ) (b c : Bool) → is_same y x ≡ b → has some x ≡ c → (has (without some xs) y ≡ true → (has xs y ≡ true) × (has some y ≡ false)) → has (cond {A = Names} c (without some xs) (x ∷ without some xs)) y ≡ true
    → ((b || has xs y) ≡ true) × (has some y ≡ false)
only_at some xs x y true true p q k h = (refl, (k h).1)
only_at some xs x y true false p q k h = (refl, ap (has some) (same_name y x p) ∙ q)
only_at some xs x y false true p q k h = k h
only_at some xs x y false false p q k h = let e : (false || has (without some xs) y) ≡ true = sym (ap (λ b. b || has (without some xs) y) p) ∙ h in k e

pub only_without : (some xs : Names) (y : List ℕ) → has (without some xs) y ≡ true → (has xs y ≡ true) × (has some y ≡ false)
only_without some [] y h = cc
only_without some (x ∷ xs) y h = only_at some xs x y (is_same y x) (has some x) refl refl (only_without some xs y) h

other : (x y : List ℕ) (some : Names) (b : Bool) → is_same y x ≡ b → has some y ≡ true → has some x ≡ false → has (x ∷ []) y ≡ false
other x y some true e h n = let same : has some y ≡ has some x = ap (has some) (same_name y x e) in cc
other x y some false e h n = ap (λ b. b || false) e

-- ---- what a function keeps

abbrev pub kept : Names → Environment → Environment
kept free environment = cut (λ b. b.name) free environment

hit_at : (b : Bool) (a : Binding) (r r' : Option Binding) → (b ≡ false → r ≡ r') → cond {A = Option Binding} b (Some a) r ≡ cond {A = Option Binding} b (Some a) r'
hit_at true a r r' h = refl
hit_at false a r r' h = h refl

missed : (b : Bool) (a : Binding) (r : Option Binding) → (b || false) ≡ false → r ≡ cond {A = Option Binding} b (Some a) r
missed true a r k = cc
missed false a r k = refl

looked_at : (some : Names) (env : Environment) (e : Binding) (x : List ℕ) (b : Bool) → has some e.name ≡ b → has some x ≡ true → ((more : Names) → has more x ≡ true → find x (kept more env) ≡ find x env)
    → find x (cond {A = Environment} b (e ∷ kept (without (e.name ∷ []) some) env) (kept some env)) ≡ cond {A = Option Binding} (is_same x e.name) (Some e) (find x env)
looked_at some env e x true p h k =
    hit_at (is_same x e.name) e (find x (kept (without (e.name ∷ []) some) env)) (find x env) (λ n. k (without (e.name ∷ []) some) (has_without (e.name ∷ []) some x (ap (λ b. b || false) n) h))
looked_at some env e x false p h k = k some h ∙ missed (is_same x e.name) e (find x env) (other e.name x some (is_same x e.name) refl h p)

pub find_kept : (some : Names) (env : Environment) (x : List ℕ) → has some x ≡ true → find x (kept some env) ≡ find x env
find_kept some [] x h = refl
find_kept some (e ∷ env) x h = looked_at some env e x (has some e.name) refl h (λ more k. find_kept more env x k)

kept_twice_at : (free some : Names) (env : Environment) (e : Binding) (b c : Bool) → has free e.name ≡ b → has some e.name ≡ c → ((y : List ℕ) → has some y ≡ true → has free y ≡ true)
    → ((free some : Names) → ((y : List ℕ) → has some y ≡ true → has free y ≡ true) → kept some (kept free env) ≡ kept some env)
    → kept some (cond {A = Environment} b (e ∷ kept (without (e.name ∷ []) free) env) (kept free env)) ≡ cond {A = Environment} c (e ∷ kept (without (e.name ∷ []) some) env) (kept some env)
kept_twice_at free some env e true true p q h k =
    ap (λ c. cond {A = Environment} c (e ∷ kept (without (e.name ∷ []) some) (kept (without (e.name ∷ []) free) env)) (kept some (kept (without (e.name ∷ []) free) env))) q
    ∙ ap (λ (es : Environment). e ∷ es) (k (without (e.name ∷ []) free) (without (e.name ∷ []) some) (λ y i. let o = only_without (e.name ∷ []) some y i in has_without (e.name ∷ []) free y o.1 (h y o.0)))
kept_twice_at free some env e true false p q h k =
    ap (λ c. cond {A = Environment} c (e ∷ kept (without (e.name ∷ []) some) (kept (without (e.name ∷ []) free) env)) (kept some (kept (without (e.name ∷ []) free) env))) q
    ∙ k (without (e.name ∷ []) free) some (λ y i. has_without (e.name ∷ []) free y (other e.name y some (is_same y e.name) refl i q) (h y i))
kept_twice_at free some env e false true p q h k = let i = h e.name q in cc
kept_twice_at free some env e false false p q h k = k free some h

pub kept_twice : (free some : Names) (env : Environment) → ((y : List ℕ) → has some y ≡ true → has free y ≡ true) → kept some (kept free env) ≡ kept some env
kept_twice free some [] h = refl
kept_twice free some (e ∷ env) h = kept_twice_at free some env e (has free e.name) (has some e.name) refl refl h (λ f s i. kept_twice f s env i)

-- ---- environments that coincide on what is free, but for some names, which come next

pub record Coincide (names free : Names) (env env' : Environment) : Type 0 where
  pub cuts : (some : Names) → ((y : List ℕ) → has some y ≡ true → (has free y ≡ true) × (has names y ≡ false)) → kept some env' ≡ kept some env

pub coincide_same : (names free : Names) (env : Environment) → Coincide names free env env
coincide_same names free env = record { cuts = λ some h. refl }

pub coincide_kept : (free : Names) (env : Environment) → Coincide [] free env (kept free env)
coincide_kept free env = record { cuts = λ some h. kept_twice free some env (λ y k. (h y k).0) }

one_name : (free : Names) (x y : List ℕ) (names : Names) (b : Bool) → is_same y x ≡ b → has free x ≡ true → has names x ≡ false → (b || false) ≡ true → (has free y ≡ true) × (has names y ≡ false)
one_name free x y names true e h n k = let same = same_name y x e in (ap (has free) same ∙ h, ap (has names) same ∙ n)
one_name free x y names false e h n k = cc

pub coincide_find : (names free : Names) (env env' : Environment) (x : List ℕ) → Coincide names free env env' → has free x ≡ true → has names x ≡ false → find x env' ≡ find x env
coincide_find names free env env' x a h n =
    let here : has (x ∷ []) x ≡ true = has_here x [] x (name_same x) in
    sym (find_kept (x ∷ []) env' x here) ∙ (ap (λ (es : Environment). find x es) (a.cuts (x ∷ []) (λ y k. one_name free x y names (is_same y x) refl h n k)) ∙ find_kept (x ∷ []) env x here)

apart : (x y : List ℕ) (names : Names) (b : Bool) → is_same y x ≡ b → has (x ∷ []) y ≡ false → has names y ≡ false → (b || has names y) ≡ false
apart x y names true e n k = let clash : (true || false) ≡ false = sym (ap (λ b. b || false) e) ∙ n in cc
apart x y names false e n k = k

more_at : (b : Binding) (names free some : Names) (env env' : Environment) → Coincide (b.name ∷ names) free env env' → ((y : List ℕ) → has some y ≡ true → (has free y ≡ true) × (has names y ≡ false)) → (c : Bool) → has some b.name ≡ c
    → cond {A = Environment} c (b ∷ kept (without (b.name ∷ []) some) env') (kept some env') ≡ cond {A = Environment} c (b ∷ kept (without (b.name ∷ []) some) env) (kept some env)
more_at b names free some env env' g h true p =
    ap (λ (es : Environment). b ∷ es) (g.cuts (without (b.name ∷ []) some) (λ y k. let o = only_without (b.name ∷ []) some y k in let i = h y o.0 in (i.0, apart b.name y names (is_same y b.name) refl o.1 i.1)))
more_at b names free some env env' g h false p = g.cuts some (λ y k. let i = h y k in (i.0, apart b.name y names (is_same y b.name) refl (other b.name y some (is_same y b.name) refl k p) i.1))

-- under one more binding
pub coincide_more : (b : Binding) (names free : Names) (env env' : Environment) → Coincide (b.name ∷ names) free env env' → Coincide names free (b ∷ env) (b ∷ env')
coincide_more b names free env env' g = record { cuts = λ some h. more_at b names free some env env' g h (has some b.name) refl }

-- ---- agreement on less

pub coincide_less : (names free less : Names) (env env' : Environment) → ((y : List ℕ) → has less y ≡ true → has free y ≡ true) → Coincide names free env env' → Coincide names less env env'
coincide_less names free less env env' h a = record { cuts = λ some k. a.cuts some (λ y i. let j = k y i in (h y j.0, j.1)) }

pub coincide_left : (xs ys : Names) (env env' : Environment) → Coincide [] (xs ++ ys) env env' → Coincide [] xs env env'
coincide_left xs ys env env' a = coincide_less [] (xs ++ ys) xs env env' (λ y h. has_left xs ys y h) a

pub coincide_right : (xs ys : Names) (env env' : Environment) → Coincide [] (xs ++ ys) env env' → Coincide [] ys env env'
coincide_right xs ys env env' a = coincide_less [] (xs ++ ys) ys env env' (λ y h. has_right xs ys y h) a

-- names that come next may be any
pub coincide_names : (names more free : Names) (env env' : Environment) → ((y : List ℕ) → has more y ≡ false → has names y ≡ false) → Coincide names free env env' → Coincide more free env env'
coincide_names names more free env env' h a = record { cuts = λ some k. a.cuts some (λ y i. let j = k y i in (j.0, h y j.1)) }

pub coincide_without : (some free : Names) (env env' : Environment) → Coincide [] (without some free) env env' → Coincide some free env env'
coincide_without some free env env' a = record { cuts = λ names k. a.cuts names (λ y i. let j = k y i in (has_without some free y j.1 j.0, refl)) }

-- the names that come next may count as free
pub coincide_bound : (names free : Names) (env env' : Environment) → Coincide names free env env' → Coincide names (free ++ names) env env'
coincide_bound names free env env' a = record { cuts = λ some k. a.cuts some (λ y i. let j = k y i in (has_split free names y j.0 j.1, j.1)) }

-- under a whole scope
abbrev pub names_in : Environment → Names
names_in scope = map (λ b. b.name) scope

pub in_neither : (xs ys : Names) (y : List ℕ) → has (xs ++ ys) y ≡ false → (has xs y ≡ false) × (has ys y ≡ false)
in_neither xs ys y h = (false_by (has xs y) (λ k. clash (has (xs ++ ys) y) (has_left xs ys y k) h), false_by (has ys y) (λ k. clash (has (xs ++ ys) y) (has_right xs ys y k) h))

none_of : (b r : Bool) → b ≡ false → r ≡ false → (b || r) ≡ false
none_of b true e n = cc
none_of true r e n = cc
none_of false false e n = refl

first_last : (x : List ℕ) (xs ys : Names) (y : List ℕ) → has (xs ++ x ∷ ys) y ≡ false → has (x ∷ (xs ++ ys)) y ≡ false
first_last x xs ys y h =
    let n = in_neither xs (x ∷ ys) y h in
    let head : is_same y x ≡ false = false_by (is_same y x) (λ e. clash (has (x ∷ ys) y) (has_here x ys y e) n.1) in
    let tail : has ys y ≡ false = false_by (has ys y) (λ e. clash (has (x ∷ ys) y) (has_there x ys y e) n.1) in
    none_of (is_same y x) (has (xs ++ ys) y) head (in_none xs ys y n.0 tail)
  where
    in_none : (xs ys : Names) (y : List ℕ) → has xs y ≡ false → has ys y ≡ false → has (xs ++ ys) y ≡ false
    in_none xs ys y h k = false_by (has (xs ++ ys) y) (λ e. clash (has xs y) (has_split xs ys y e k) h)

pub coincide_scope : (scope : Environment) (names free : Names) (env env' : Environment) → Coincide (names_in scope ++ names) free env env' → Coincide names free (scope ++ env) (scope ++ env')
coincide_scope [] names free env env' a = a
coincide_scope (b ∷ scope) names free env env' a =
    coincide_more b names free (scope ++ env) (scope ++ env')
    (coincide_scope scope (b.name ∷ names) free env env' (coincide_names (b.name ∷ (names_in scope ++ names)) (names_in scope ++ b.name ∷ names) free env env' (λ y h. first_last b.name (names_in scope) names y h) a))
