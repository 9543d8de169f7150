-- What the table of a scope tells of its declarations.
use Rattle.std.proofs.Common.{◌≡◌, ℕ, Bool, true, false, ◌&&◌, ◌||◌, List, [], ◌∷◌, ◌++◌, sym, ap, ◌∙◌, refl}
use Rattle.std.specs.Prelude.{if◌then◌else◌}
use Rattle.std.specs.List.{list_any}
use Rattle.std.proofs.lemmas.List.Folds.{list_any-append}
use Rattle.std.proofs.lemmas.Slice.Eq.{bytes_eq-Decides}
use Rattle.mt_syntax.specs.First.{first_of, earlier_of}
use Rattle.mt_syntax.proofs.Order.{first_of_lists}
use Rattle.mt_stage_declared.specs.Clashes.{all_kinds, has, no_kinds, with_kind, rivals}
use Rattle.mt_stage_declared.specs.Names.{is_same, Entries, kinds_of, assigned}
use Rattle.mt_stage_declared.specs.Repeated.{is_kind, clash, clashes_with, repeated, twice_at, where_clashing}
use Rattle.mt_stage_declared.specs.Scopes.{Tells, declares, is_of}
use Rattle.mt_stage_declared.proofs.Repeats.{repeated_more}
use Rattle.mt_stage_declared.proofs.Words.{alike}
use Rattle.mt_stage_declared.specs.declared.declaration.Declaration.{Declaration}
use Rattle.mt_stage_declared.specs.declared.declaration.DeclarationKind.{DeclarationKind}
use Rattle.mt_stage_declared.specs.declared.declaration.DeclarationKind.TheVariants as kind
use Rattle.mt_stage_declared.specs.declared.kinds.Kinds.{Kinds}

-- ---- one more declaration

has_none : (k : DeclarationKind) → has k no_kinds ≡ false
has_none kind.Parameter = refl
has_none kind.Lexical = refl
has_none kind.Variable = refl
has_none kind.Nested = refl
has_none kind.Function = refl
has_none kind.Service = refl
has_none kind.Catch = refl

has_with : (k l : DeclarationKind) (ks : Kinds) → has k (with_kind l ks) ≡ (is_kind k l || has k ks)
has_with kind.Parameter kind.Parameter ks = refl
has_with kind.Lexical kind.Lexical ks = refl
has_with kind.Variable kind.Variable ks = refl
has_with kind.Nested kind.Nested ks = refl
has_with kind.Function kind.Function ks = refl
has_with kind.Service kind.Service ks = refl
has_with kind.Catch kind.Catch ks = refl
has_with k l ks = refl

same_itself : (name : List ℕ) → is_same name name ≡ true
same_itself name = (bytes_eq-Decides name name).1 refl

same_is : (a b : List ℕ) → is_same a b ≡ true → a ≡ b
same_is a b h = (bytes_eq-Decides a b).0 h

same_order : (a b : List ℕ) → is_same a b ≡ is_same b a
same_order a b =
    alike (is_same a b) (is_same b a) (λ h. (bytes_eq-Decides b a).1 (sym (same_is a b h))) (λ h. (bytes_eq-Decides a b).1 (sym (same_is b a h)))

-- what is found of a name after another was entered
other_kinds : (name word : List ℕ) (ks : Kinds) (es : Entries) → is_same name word ≡ false → kinds_of name (assigned word ks es) ≡ kinds_of name es
other_kinds name word ks [] f = rw f refl
other_kinds name word ks (e ∷ es) f = by (is_same word e.0) (is_same name e.0) refl refl (other_kinds name word ks es f)
  where
    by : (w n : Bool) → is_same word e.0 ≡ w → is_same name e.0 ≡ n → kinds_of name (assigned word ks es) ≡ kinds_of name es
        → kinds_of name (assigned word ks (e ∷ es)) ≡ kinds_of name (e ∷ es)
    by true true p q rest = absurd (cc (f, same_order name word, same_is word e.0 p, same_is name e.0 q, same_itself e.0))
    by true false p q rest = rw (p, q) refl
    by false true p q rest = rw (p, q) refl
    by false false p q rest = rw (p, q) rest

own_kinds : (word : List ℕ) (ks : Kinds) (es : Entries) → kinds_of word (assigned word ks es) ≡ ks
own_kinds word ks [] = rw (same_itself word) refl
own_kinds word ks (e ∷ es) = by (is_same word e.0) refl (own_kinds word ks es)
  where
    by : (w : Bool) → is_same word e.0 ≡ w → kinds_of word (assigned word ks es) ≡ ks → kinds_of word (assigned word ks (e ∷ es)) ≡ ks
    by true p rest = rw (p, p) refl
    by false p rest = rw (p, p) rest

or_swap : (a b : Bool) → (a || b) ≡ (b || (a || false))
or_swap true true = refl
or_swap true false = refl
or_swap false true = refl
or_swap false false = refl

or_false : (a : Bool) → a ≡ (a || false)
or_false true = refl
or_false false = refl

pub tells_none : Tells [] []
tells_none = record { kinds = λ name k. has_none k }

pub tells_more : (es : Entries) (ds : List Declaration) (d : Declaration) → Tells es ds
    → Tells (assigned d.name.name (with_kind d.kind (kinds_of d.name.name es)) es) (ds ++ d ∷ [])
tells_more es ds d t = record { kinds = λ name k. by name k (is_same name d.name.name) refl }
  where
    word : List ℕ
    word = d.name.name

    ks : Kinds
    ks = with_kind d.kind (kinds_of d.name.name es)

    last : (name : List ℕ) (k : DeclarationKind) → list_any (is_of name k) (ds ++ d ∷ []) ≡ (list_any (is_of name k) ds || (is_of name k d || false))
    last name k = list_any-append (is_of name k) ds (d ∷ [])

    by : (name : List ℕ) (k : DeclarationKind) (s : Bool) → is_same name d.name.name ≡ s
        → has k (kinds_of name (assigned d.name.name (with_kind d.kind (kinds_of d.name.name es)) es)) ≡ list_any (is_of name k) (ds ++ d ∷ [])
    by name k true p =
        let own = ap (λ n. has k (kinds_of n (assigned word ks es))) (same_is name word p) ∙ ap (has k) (own_kinds word ks es) ∙ has_with k d.kind (kinds_of word es) in
        let told = ap (λ b. is_kind k d.kind || b) (ap (λ n. has k (kinds_of n es)) (sym (same_is name word p)) ∙ t.kinds name k) in
        own ∙ told ∙ or_swap (is_kind k d.kind) (list_any (is_of name k) ds) ∙ ap (λ s. list_any (is_of name k) ds || ((s && is_kind k d.kind) || false)) (sym p) ∙ sym (last name k)
    by name k false p =
        ap (has k) (other_kinds name word ks es p) ∙ t.kinds name k ∙ or_false (list_any (is_of name k) ds)
        ∙ ap (λ s. list_any (is_of name k) ds || ((s && is_kind k d.kind) || false)) (sym p) ∙ sym (last name k)

-- ---- clashes

none_any : {A : Type 0} (xs : List A) → list_any (λ x. false) xs ≡ false
none_any [] = refl
none_any (x ∷ xs) = none_any xs

or_four : (a b c d : Bool) → ((a || b) || (c || d)) ≡ ((a || c) || (b || d))
or_four true b c d = refl
or_four false true true d = refl
or_four false true false d = refl
or_four false false c d = refl

either_any : {A : Type 0} (p q : A → Bool) (xs : List A) → list_any (λ x. p x || q x) xs ≡ (list_any p xs || list_any q xs)
either_any p q [] = refl
either_any p q (x ∷ xs) = ap (λ b. (p x || q x) || b) (either_any p q xs) ∙ or_four (p x) (q x) (list_any p xs) (list_any q xs)

both_any : {A : Type 0} (s : Bool) (p : A → Bool) (xs : List A) → list_any (λ x. s && p x) xs ≡ (s && list_any p xs)
both_any true p xs = refl
both_any false p xs = none_any xs

clashing_kinds : (name : List ℕ) (ks : List DeclarationKind) (ds : List Declaration)
    → list_any (λ k. list_any (is_of name k) ds) ks ≡ list_any (λ e. is_same name e.name.name && list_any (λ k. is_kind k e.kind) ks) ds
clashing_kinds name ks [] = none_any ks
clashing_kinds name ks (e ∷ ds) =
    either_any (λ k. is_of name k e) (λ k. list_any (is_of name k) ds) ks
    ∙ (λ i. both_any (is_same name e.name.name) (λ k. is_kind k e.kind) ks i || clashing_kinds name ks ds i)

clash_told : (es : Entries) (ds : List Declaration) (d : Declaration) → Tells es ds → clashes_with es d ≡ list_any (clash d) ds
clash_told es ds d t = ap (λ f. list_any f (rivals d.kind)) (λ i k. t.kinds d.name.name k i) ∙ clashing_kinds d.name.name (rivals d.kind) ds

pub first_more : (es : Entries) (ds : List Declaration) (d : Declaration) → Tells es ds
    → earlier_of (first_of (repeated ds)) (first_of (if clashes_with es d then twice_at d.name ∷ [] else [])) ≡ first_of (repeated (ds ++ d ∷ []))
first_more es ds d t =
    ap (λ b. earlier_of (first_of (repeated ds)) (first_of (if b then twice_at d.name ∷ [] else []))) (clash_told es ds d t)
    ∙ sym (first_of_lists (repeated ds) (where_clashing d ds)) ∙ ap first_of (sym (repeated_more ds d))

-- ---- a name

any_of_all : (e : DeclarationKind) → true ≡ list_any (λ k. is_kind k e) all_kinds
any_of_all kind.Parameter = refl
any_of_all kind.Lexical = refl
any_of_all kind.Variable = refl
any_of_all kind.Nested = refl
any_of_all kind.Function = refl
any_of_all kind.Service = refl
any_of_all kind.Catch = refl

and_true : (a : Bool) → a ≡ (a && true)
and_true true = refl
and_true false = refl

of_some_kind : (name : List ℕ) (ds : List Declaration) → declares name ds ≡ list_any (λ e. is_same name e.name.name && list_any (λ k. is_kind k e.kind) all_kinds) ds
of_some_kind name [] = refl
of_some_kind name (e ∷ ds) = λ i. (and_true (is_same name e.name.name) ∙ ap (λ b. is_same name e.name.name && b) (any_of_all e.kind)) i || of_some_kind name ds i

pub declares_told : (es : Entries) (ds : List Declaration) (name : List ℕ) → Tells es ds → list_any (λ k. has k (kinds_of name es)) all_kinds ≡ declares name ds
declares_told es ds name t =
    ap (λ f. list_any f all_kinds) (λ i k. t.kinds name k i) ∙ clashing_kinds name all_kinds ds ∙ sym (of_some_kind name ds)
