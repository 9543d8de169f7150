-- What resolving gives, from any functions that are there: claims on the functions and the table of what their numbers stand for, which
-- hold before and after a step.
use Rattle.std.proofs.Common.{◌≡◌, ℕ, zero, suc, ◌+◌, ◌++◌, ◌⊎◌, inl, inr, List, [], ◌∷◌, length, map, Option, Some, None, refl, sym, ap, ◌∙◌, subst, arith, append_assoc, length-append}
use Rattle.std.proofs.lemmas.List.{append-nil}
use Rattle.std.specs.Prelude.{slice_get}
use Rattle.mt_eval_meaning.specs.Code.{AllStand, OptionalStands, CodeStands}
use Rattle.mt_eval_meaning.specs.States.{Numbered}
use Rattle.mt_eval_meaning.specs.Names.{Surroundings}
use Rattle.mt_eval_meaning.specs.Runs.{Ran, gives, leaves, and_then, all_behind, all}
use Rattle.mt_resolve.specs.Resolved.{AreNumbered, Extends}
use Rattle.mt_resolve.specs.Resolving.{M, add, optional}
use Rattle.mt_resolve.proofs.Growth.{all_kept, optional_kept, code_kept}
use Rattle.mt_eval_meaning.specs.declared.function.Function.{Function}

abbrev pub Claim : Type 1
Claim = List Function → List Numbered → Type 0

abbrev pub Always : Claim
Always units table = Unit {0}

-- a claim that goes on to hold as functions are added
pub record Stable (claim : Claim) : Type 0 where
  pub keeps : (units : List Function) (table : List Numbered) (units' : List Function) (table' : List Numbered) → Extends units table units' table' → claim units table → claim units' table'

pub same : (units : List Function) (table : List Numbered) → Extends units table units table
same units table = record { code = λ n f h. h; entry = λ n e h. h }

pub then_more : (units : List Function) (table : List Numbered) (units' : List Function) (table' : List Numbered) (units'' : List Function) (table'' : List Numbered)
    → Extends units table units' table' → Extends units' table' units'' table'' → Extends units table units'' table''
then_more units table units' table' units'' table'' a b = record { code = λ n f h. b.code n f (a.code n f h); entry = λ n e h. b.entry n e (a.entry n e h) }

pub stable_both : (p q : Claim) → Stable p → Stable q → Stable (λ u t. p u t × q u t)
stable_both p q a b = record { keeps = λ u t u' t' m h. (a.keeps u t u' t' m h.0, b.keeps u t u' t' m h.1) }

get_kept : {A : Type 0} (xs ys : List A) (n : ℕ) (x : A) → slice_get xs n ≡ Some x → slice_get (xs ++ ys) n ≡ Some x
get_kept [] ys n x h = cc
get_kept (z ∷ xs) ys zero x h = h
get_kept (z ∷ xs) ys (suc n) x h = get_kept xs ys n x h

get_end : {A : Type 0} (xs : List A) (x : A) → slice_get (xs ++ x ∷ []) (length xs) ≡ Some x
get_end [] x = refl
get_end (z ∷ xs) x = get_end xs x

get_last : {A : Type 0} (xs : List A) (x y : A) (n : ℕ) → slice_get (xs ++ x ∷ []) n ≡ Some y → (slice_get xs n ≡ Some y) ⊎ ((n ≡ length xs) × (x ≡ y))
get_last [] x y zero h = inr (refl, cc)
get_last [] x y (suc n) h = cc
get_last (z ∷ xs) x y zero h = inl h
get_last (z ∷ xs) x y (suc n) h = elim (get_last xs x y n h) [ inl p ↦ inl p | inr q ↦ inr (ap suc q.0, q.1) ]

-- The functions `old` are there before; the state lists the new ones.
module _ (around : Surroundings) (old : List Function) where
  pub record Reached (units : List Function) (table : List Numbered) (units' : List Function) (claim : Claim) : Type 0 where
    pub table' : List Numbered
    pub more : Extends units table units' table'
    pub good : AreNumbered around units' table'
    pub holds : claim units' table'

  abbrev pub Post : {A : Type 0} → List Function → List Numbered → (A → Claim) → Ran (List Function) A → Type 0
  Post new table post (gives a new') = Reached (old ++ new) table (old ++ new') (post a)
  Post new table post (leaves x new') = Unit {0}

  pub record Triple {A : Type 0} (pre : Claim) (m : M A) (post : A → Claim) : Type 0 where
    pub run : (new : List Function) (table : List Numbered) → AreNumbered around (old ++ new) table → pre (old ++ new) table → Post new table post (m new)

  widen : {A : Type 0} (post : A → Claim) (units : List Function) (table : List Numbered) (new : List Function) (table' : List Numbered) (r : Ran (List Function) A)
      → Extends (old ++ units) table (old ++ new) table' → Post new table' post r → Post units table post r
  widen post units table new table' (gives a new') m p =
      record { table' = p.table'; more = then_more (old ++ units) table (old ++ new) table' (old ++ new') p.table' m p.more; good = p.good; holds = p.holds }
  widen post units table new table' (leaves x new') m p = tt

  bind_at : {A B : Type 0} (mid : A → Claim) (post : B → Claim) (f : A → M B) (new : List Function) (table : List Numbered) (r : Ran (List Function) A)
      → Post new table mid r → ((a : A) → Triple (mid a) (f a) post) → Post new table post (and_then r f)
  bind_at mid post f new table (gives a new') p h = widen post new table new' p.table' (f a new') p.more ((h a).run new' p.table' p.good p.holds)
  bind_at mid post f new table (leaves x new') p h = tt

  pub triple_bind : {A B : Type 0} {pre : Claim} {m : M A} {f : A → M B} {mid : A → Claim} {post : B → Claim} → Triple pre m mid → ((a : A) → Triple (mid a) (f a) post) → Triple pre (λ s. and_then (m s) f) post
  triple_bind {m = m} {f = f} {mid = mid} {post = post} k h = record { run = λ new table good p. bind_at mid post f new table (m new) (k.run new table good p) h }

  pub triple_pure : {A : Type 0} {pre : Claim} {post : A → Claim} (a : A) → ((units : List Function) (table : List Numbered) → pre units table → post a units table) → Triple pre (λ s. gives a s) post
  triple_pure a h = record { run = λ new table good p. record { table' = table; more = same (old ++ new) table; good = good; holds = h (old ++ new) table p } }

  pub triple_pre : {A : Type 0} {pre : Claim} {m : M A} {post : A → Claim} (pre' : Claim) → ((units : List Function) (table : List Numbered) → pre' units table → pre units table) → Triple pre m post → Triple pre' m post
  triple_pre pre' h k = record { run = λ new table good p. k.run new table good (h (old ++ new) table p) }

  post_at : {A : Type 0} (post post' : A → Claim) (new : List Function) (table : List Numbered) (r : Ran (List Function) A)
      → ((a : A) (units : List Function) (table : List Numbered) → post a units table → post' a units table) → Post new table post r → Post new table post' r
  post_at post post' new table (gives a new') h p = record { table' = p.table'; more = p.more; good = p.good; holds = h a (old ++ new') p.table' p.holds }
  post_at post post' new table (leaves x new') h p = tt

  pub triple_post : {A : Type 0} {pre : Claim} {m : M A} {post post' : A → Claim} → Triple pre m post → ((a : A) (units : List Function) (table : List Numbered) → post a units table → post' a units table) → Triple pre m post'
  triple_post {m = m} {post = post} {post' = post'} k h = record { run = λ new table good p. post_at post post' new table (m new) h (k.run new table good p) }

  frame_at : {A : Type 0} (claim : Claim) (post : A → Claim) (new : List Function) (table : List Numbered) (r : Ran (List Function) A)
      → Stable claim → claim (old ++ new) table → Post new table post r → Post new table (λ a u t. claim u t × post a u t) r
  frame_at claim post new table (gives a new') s c p =
      record { table' = p.table'; more = p.more; good = p.good; holds = (s.keeps (old ++ new) table (old ++ new') p.table' p.more c, p.holds) }
  frame_at claim post new table (leaves x new') s c p = tt

  -- what holds before, and goes on to hold
  pub frame : {A : Type 0} {claim : Claim} {m : M A} {post : A → Claim} → Stable claim → Triple Always m post → Triple claim m (λ a u t. claim u t × post a u t)
  frame {claim = claim} {m = m} {post = post} s k = record { run = λ new table good p. frame_at claim post new table (m new) s p (k.run new table good tt) }

  -- ---- one more function

  module _ (f : Function) (e : Numbered) where
    one_more : (units : List Function) (table : List Numbered) → Extends units table (units ++ f ∷ []) (table ++ e ∷ [])
    one_more units table = record { code = λ n g h. get_kept units (f ∷ []) n g h; entry = λ n g h. get_kept table (e ∷ []) n g h }

    found : (units : List Function) (table : List Numbered) → AreNumbered around units table → CodeStands around units table f e → (n : ℕ) (e' : Numbered) → (slice_get table n ≡ Some e') ⊎ ((n ≡ length table) × (e ≡ e'))
        → (g : Function) × (slice_get (units ++ f ∷ []) n ≡ Some g) × CodeStands around (units ++ f ∷ []) (table ++ e ∷ []) g e'
    found units table good h n e' (inl p) =
        let known = good.stands.code n e' p in
        (known.0, get_kept units (f ∷ []) n known.0 known.1, code_kept around units table (units ++ f ∷ []) (table ++ e ∷ []) (one_more units table) known.0 e' known.2)
    found units table good h n e' (inr q) = (
      f,
      subst (λ k. slice_get (units ++ f ∷ []) k ≡ Some f) (good.count ∙ sym q.0) (get_end units f),
      subst (λ z. CodeStands around (units ++ f ∷ []) (table ++ e ∷ []) f z) q.1 (code_kept around units table (units ++ f ∷ []) (table ++ e ∷ []) (one_more units table) f e h),
    )

    added : (units : List Function) (table : List Numbered) → AreNumbered around units table → CodeStands around units table f e → Reached units table (units ++ f ∷ []) (λ u t. (slice_get u (length units) ≡ Some f) × (slice_get t (length units) ≡ Some e))
    added units table good h =
        let l = good.count in
        record {
          table' = table ++ e ∷ [];
          more = one_more units table;
          good = record {
            count = omega (arith, l, length-append units (f ∷ []), length-append table (e ∷ []));
            stands = record { code = λ n e' is. found units table good h n e' (get_last table e e' n is) };
          };
          holds = (get_end units f, subst (λ k. slice_get (table ++ e ∷ []) k ≡ Some e) (sym l) (get_end table e));
        }

    pub triple_add : (first : ℕ) → first ≡ length old → Triple (λ units table. CodeStands around units table f e) (add first f) (λ n units table. (slice_get units n ≡ Some f) × (slice_get table n ≡ Some e))
    unfolding add
    triple_add first is = record {
      run = λ new table good h.
          let count : length (old ++ new) ≡ first + length new = length-append old new ∙ ap (λ k. k + length new) (sym is) in
          subst (λ units. Reached (old ++ new) table units (λ u t. (slice_get u (first + length new) ≡ Some f) × (slice_get t (first + length new) ≡ Some e))) (append_assoc old new (f ∷ []))
          (subst (λ k. Reached (old ++ new) table ((old ++ new) ++ f ∷ []) (λ u t. (slice_get u k ≡ Some f) × (slice_get t k ≡ Some e))) count (added (old ++ new) table good h));
    }

  -- ---- steps one after another

  module _ {A B : Type 0} (P : List Function → List Numbered → B → A → Type 0) (stable : (b : B) (a : A) → Stable (λ units table. P units table b a)) where
    pub stable_all : (bs : List B) (xs : List A) → Stable (λ units table. AllStand (P units table) bs xs)
    stable_all bs xs = record { keeps = λ u t u' t' m h. all_kept (λ b a k. (stable b a).keeps u t u' t' m k) bs xs h }

    pub stable_optional : (b : Option B) (x : Option A) → Stable (λ units table. OptionalStands (P units table) b x)
    stable_optional b x = record { keeps = λ u t u' t' m h. optional_kept (λ b a k. (stable b a).keeps u t u' t' m k) b x h }

    pub all_end : (units : List Function) (table : List Numbered) (bs : List B) (xs : List A) (b : B) (x : A) → AllStand (P units table) bs xs → P units table b x → AllStand (P units table) (bs ++ b ∷ []) (xs ++ x ∷ [])
    all_end units table [] [] b x h k = (k, tt)
    all_end units table (c ∷ bs) (y ∷ xs) b x h k = (h.0, all_end units table bs xs b x h.1 k)
    all_end units table [] (y ∷ xs) b x h k = absurd h
    all_end units table (c ∷ bs) [] b x h k = absurd h

    module _ (r : A → M B) (made : (a : A) → Triple Always (r a) (λ b units table. P units table b a)) where
      made_from : (done : List B) (ds xs : List A) → Triple (λ units table. AllStand (P units table) done ds) (all_behind done (map r xs)) (λ bs units table. AllStand (P units table) bs (ds ++ xs))
      made_from done ds [] = triple_pure done (λ units table h. subst (λ z. AllStand (P units table) done z) (sym (append-nil ds)) h)
      made_from done ds (x ∷ xs) =
          triple_bind (frame (stable_all done ds) (made x)) (λ b.
          triple_post (triple_pre (λ units table. AllStand (P units table) done ds × P units table b x) (λ units table h. all_end units table done ds b x h.0 h.1) (made_from (done ++ b ∷ []) (ds ++ x ∷ []) xs))
          (λ bs units table h. subst (λ z. AllStand (P units table) bs z) (append_assoc ds (x ∷ []) xs) h))

      pub all_made : (xs : List A) → Triple Always (all (map r xs)) (λ bs units table. AllStand (P units table) bs xs)
      all_made xs = triple_pre Always (λ units table h. tt) (made_from [] [] xs)

      pub optional_made : (x : Option A) → Triple Always (optional r x) (λ b units table. OptionalStands (P units table) b x)
      optional_made None = triple_pure None (λ units table h. tt)
      optional_made (Some x) = triple_bind (made x) (λ b. triple_pure (Some b) (λ units table h. h))
