-- The links of nodes in which trees stand: each leads to a node that leads back. So a node is taken out by its own links alone.
use Rattle.std.proofs.Common.{◌≡◌, ◌≢◌, ◌<◌, ◌≤◌, ◌-◌, ◌==◌, ℕ, zero, suc, Bool, true, false, List, refl, sym, ap, ◌∙◌, subst, arith, if◌then◌else◌, Option, None, Some, ◌⊎◌, inl, inr, slice_get}
use Rattle.std.proofs.lemmas.Bool.Decides.{eqb_tells}
use Rattle.mt_dom_nodes.specs.declared.content.Content.{Content}
use Rattle.mt_dom_nodes.specs.declared.node.Node.{Node}
use Rattle.mt_dom_nodes.specs.Trees.{Trees, none, tree, head, count}
use Rattle.mt_dom_nodes.specs.Standing.{Stands, node_at, last_from, parent_link, previous_link, next_link, first_link, last_link, changed, followed, preceded}
use Rattle.mt_dom_nodes.proofs.Standing.{count-self, nat_at, skip, skip-same, skip-taken, passed, told, last-stands}

pub some-is : (m n : ℕ) → Some m ≡ Some n → m ≡ n
some-is m n e = cc

-- the first and the last of a list of trees
pub head-stands : (look : ℕ → Option Node) (p v : Option ℕ) (t : Trees) (k : ℕ) → Stands look p v t → head t ≡ Some k → (previous_link (look k) ≡ v) × (parent_link (look k) ≡ p) × (0 < count k t)
head-stands look p v none k s h = absurd (cc)
head-stands look p v (tree m x b a) k s h = (
  ap (λ i. previous_link (look i)) (sym (some-is m k h)) ∙ ap previous_link s.0,
  ap (λ i. parent_link (look i)) (sym (some-is m k h)) ∙ ap parent_link s.0,
  subst (λ i. 0 < count i (tree m x b a)) (some-is m k h) (count-self m x b a),
)

pub end-stands : (look : ℕ → Option Node) (p : Option ℕ) (t : Trees) (k : ℕ) → Stands look p None t → last_from None t ≡ Some k → (next_link (look k) ≡ None) × (parent_link (look k) ≡ p) × (0 < count k t)
end-stands look p t k s h = elim (last-stands look p None t k s h) [
  | inl w ↦ absurd (let e = w.0 in cc)
  | inr w ↦ w
]

pub last-some : (k : ℕ) (t : Trees) → last_from (Some k) t ≢ None
last-some k none e = cc
last-some k (tree m x b a) e = last-some m a e

pub head-empty : (t : Trees) → last_from None t ≡ None → head t ≡ None
head-empty none e = refl
head-empty (tree m x b a) e = absurd (last-some m a e)

pub end-empty : (t : Trees) → head t ≡ None → last_from None t ≡ None
end-empty none e = refl
end-empty (tree m x b a) e = absurd (cc)

pub end-alone : (n : ℕ) (t : Trees) → head t ≡ None → last_from (Some n) t ≡ Some n
end-alone n none e = refl
end-alone n (tree m x b a) e = absurd (cc)

-- where the links of a node lead, other links lead back
pub record Linked (look : ℕ → Option Node) (p v : Option ℕ) (t : Trees) (m : ℕ) : Type 0 where
  pub next : (k : ℕ) → next_link (look m) ≡ Some k → (previous_link (look k) ≡ Some m) × (0 < count k t)
  pub first : (k : ℕ) → first_link (look m) ≡ Some k → (previous_link (look k) ≡ None) × (parent_link (look k) ≡ Some m)
  pub last : (k : ℕ) → last_link (look m) ≡ Some k → (next_link (look k) ≡ None) × (parent_link (look k) ≡ Some m) × (0 < count k t)
  pub empty : last_link (look m) ≡ None → first_link (look m) ≡ None
  pub full : first_link (look m) ≡ None → last_link (look m) ≡ None
  pub previous : (k : ℕ) → previous_link (look m) ≡ Some k → ((v ≡ Some k) × (head t ≡ Some m)) ⊎ ((next_link (look k) ≡ Some m) × (0 < count k t))
  pub parent : (q : ℕ) → parent_link (look m) ≡ Some q → (p ≡ Some q) ⊎ (0 < count q t)
  pub begins : previous_link (look m) ≡ None → (q : ℕ) → parent_link (look m) ≡ Some q → (first_link (look q) ≡ Some m) ⊎ ((p ≡ Some q) × (v ≡ None) × (head t ≡ Some m))
  pub ends : next_link (look m) ≡ None → (q : ℕ) → parent_link (look m) ≡ Some q → (last_link (look q) ≡ Some m) ⊎ ((p ≡ Some q) × (last_from v t ≡ Some m))

module _ (look : ℕ → Option Node) (p v : Option ℕ) (n : ℕ) (x : Content) (b a : Trees) (s : Stands look p v (tree n x b a)) where
  root : Linked look p v (tree n x b a) n
  root = record {
    next = λ k e. let w = head-stands look p (Some n) a k s.2 (sym (ap next_link s.0) ∙ e) in (w.0, (let le = w.2 in omega arith));
    first = λ k e. let w = head-stands look (Some n) None b k s.1 (sym (ap first_link s.0) ∙ e) in (w.0, w.1);
    last = λ k e. let w = end-stands look (Some n) b k s.1 (sym (ap last_link s.0) ∙ e) in (w.0, w.1, (let le = w.2 in omega arith));
    parent = λ q e. inl (sym (ap parent_link s.0) ∙ e);
    empty = λ e. ap first_link s.0 ∙ head-empty b (sym (ap last_link s.0) ∙ e);
    full = λ e. ap last_link s.0 ∙ end-empty b (sym (ap first_link s.0) ∙ e);
    previous = λ k e. inl (sym (ap previous_link s.0) ∙ e, refl);
    begins = λ e q f. inr (sym (ap parent_link s.0) ∙ f, sym (ap previous_link s.0) ∙ e, refl);
    ends = λ e q f. inr (sym (ap parent_link s.0) ∙ f, end-alone n a (sym (ap next_link s.0) ∙ e));
  }

  below : (m : ℕ) → Linked look (Some n) None b m → Linked look p v (tree n x b a) m
  below m f = record {
    next = λ k e. let w = f.next k e in (w.0, (let le = w.1 in omega arith));
    first = f.first;
    last = λ k e. let w = f.last k e in (w.0, w.1, (let le = w.2 in omega arith));
    empty = f.empty;
    full = f.full;
    previous = λ k e. elim (f.previous k e) [ inl h ↦ absurd (let w = h.0 in cc) | inr h ↦ inr (h.0, (let le = h.1 in omega arith)) ];
    parent = λ q e. elim (f.parent q e) [
      | inl h ↦ inr (subst (λ i. 0 < count i (tree n x b a)) (some-is n q h) (count-self n x b a))
      | inr h ↦ inr (omega arith)
    ];
    begins = λ e q g. elim (f.begins e q g) [
      | inl h ↦ inl h
      | inr h ↦ inl (ap (λ i. first_link (look i)) (sym (some-is n q h.0)) ∙ ap first_link s.0 ∙ h.2)
    ];
    ends = λ e q g. elim (f.ends e q g) [
      | inl h ↦ inl h
      | inr h ↦ inl (ap (λ i. last_link (look i)) (sym (some-is n q h.0)) ∙ ap last_link s.0 ∙ h.1)
    ];
  }

  beside : (m : ℕ) → Linked look p (Some n) a m → Linked look p v (tree n x b a) m
  beside m f = record {
    next = λ k e. let w = f.next k e in (w.0, (let le = w.1 in omega arith));
    first = f.first;
    last = λ k e. let w = f.last k e in (w.0, w.1, (let le = w.2 in omega arith));
    empty = f.empty;
    full = f.full;
    previous = λ k e. elim (f.previous k e) [
      | inl h ↦ inr (
        ap (λ i. next_link (look i)) (sym (some-is n k h.0)) ∙ ap next_link s.0 ∙ h.1,
        subst (λ i. 0 < count i (tree n x b a)) (some-is n k h.0) (count-self n x b a),
      )
      | inr h ↦ inr (h.0, (let le = h.1 in omega arith))
    ];
    parent = λ q e. elim (f.parent q e) [ inl h ↦ inl h | inr h ↦ inr (omega arith) ];
    begins = λ e q g. elim (f.begins e q g) [ inl h ↦ inl h | inr h ↦ absurd (let w = h.1 in cc) ];
    ends = λ e q g. elim (f.ends e q g) [ inl h ↦ inl h | inr h ↦ inr (h.0, h.1) ];
  }

pub linked : (look : ℕ → Option Node) (p v : Option ℕ) (t : Trees) (m : ℕ) → Stands look p v t → 0 < count m t → Linked look p v t m
linked look p v none m s h = absurd (omega arith)
linked look p v (tree n x b a) m s h = at (eqb_tells n m) (nat_at 0 (count m b)) (linked look (Some n) None b m s.1) (linked look p (Some n) a m s.2) where
  at : ((n == m) ≡ true × (n ≡ m)) ⊎ ((n == m) ≡ false × (n ≢ m)) → (0 < count m b) ⊎ (count m b ≤ 0)
      → (0 < count m b → Linked look (Some n) None b m) → (0 < count m a → Linked look p (Some n) a m) → Linked look p v (tree n x b a) m
  at (inl e) o first rest = subst (λ k. Linked look p v (tree n x b a) k) e.1 (root look p v n x b a s)
  at (inr e) (inl o) first rest = below look p v n x b a s m (first o)
  at (inr e) (inr o) first rest = beside look p v n x b a s m (rest (let h' = rw e.0 at h in omega arith))

-- at the top, where no tree has a parent or one before it
module _ (look : ℕ → Option Node) (t : Trees) (m : ℕ) (f : Linked look None None t m) where
  pub previous-back : (k : ℕ) → previous_link (look m) ≡ Some k → (next_link (look k) ≡ Some m) × (0 < count k t)
  previous-back k e = elim (f.previous k e) [ inl h ↦ absurd (let w = h.0 in cc) | inr h ↦ h ]

  pub parent-back : (q : ℕ) → parent_link (look m) ≡ Some q → 0 < count q t
  parent-back q e = elim (f.parent q e) [ inl h ↦ absurd (let w = h in cc) | inr h ↦ h ]

  pub begins-back : (q : ℕ) → previous_link (look m) ≡ None → parent_link (look m) ≡ Some q → first_link (look q) ≡ Some m
  begins-back q e g = elim (f.begins e q g) [ inl h ↦ h | inr h ↦ absurd (let w = h.0 in cc) ]

  pub ends-back : (q : ℕ) → next_link (look m) ≡ None → parent_link (look m) ≡ Some q → last_link (look q) ≡ Some m
  ends-back q e g = elim (f.ends e q g) [ inl h ↦ h | inr h ↦ absurd (let w = h.0 in cc) ]

-- whether a link leads to a node, and whether it is the parent where nothing stands between
abbrev pub leads : Option ℕ → ℕ → Bool
leads None m = false
leads (Some v) m = m == v

abbrev pub borders : Option ℕ → Option ℕ → ℕ → Bool
borders p None m = leads p m
borders p (Some v) m = false

pub leads-true : (o : Option ℕ) (m : ℕ) → leads o m ≡ true → o ≡ Some m
leads-true None m e = absurd (cc)
leads-true (Some v) m e = elim (eqb_tells m v) [ inl h ↦ ap (λ i. Some i) (sym h.1) | inr h ↦ absurd (let f = h.0 in cc) ]

pub leads-self : (o : Option ℕ) (m : ℕ) → o ≡ Some m → leads o m ≡ true
leads-self o m e = rw e (elim (eqb_tells m m) [ inl h ↦ h.0 | inr h ↦ absurd (h.1 refl) ])

pub borders-true : (p o : Option ℕ) (m : ℕ) → borders p o m ≡ true → (p ≡ Some m) × (o ≡ None)
borders-true p None m e = (leads-true p m e, refl)
borders-true p (Some v) m e = absurd (cc)

pub borders-self : (p o : Option ℕ) (m : ℕ) → p ≡ Some m → o ≡ None → borders p o m ≡ true
borders-self p o m e f = rw f (leads-self p m e)

-- what a change of links does to one node
pub changed-at : (n : ℕ) (f : Option Node → Option Node) (look : ℕ → Option Node) (m : ℕ) → changed n f look m ≡ (if m == n then f (look m) else look m)
changed-at n f look m = refl

pub followed-is : (p v l : Option ℕ) (look : ℕ → Option Node) (m : ℕ) (d : Node) → look m ≡ Some d
    → followed p v l look m ≡ Some (record d { next = told (leads v m) l d.next; first = told (borders p v m) l d.first })
followed-is p (Some v) l look m d e = elim (eqb_tells m v) [ inl h ↦ rw (h.0, e) refl | inr h ↦ rw (h.0, e) refl ]
followed-is (Some q) None l look m d e = elim (eqb_tells m q) [ inl h ↦ rw (h.0, e) refl | inr h ↦ rw (h.0, e) refl ]
followed-is None None l look m d e = e

pub preceded-is : (p w l : Option ℕ) (look : ℕ → Option Node) (m : ℕ) (d : Node) → look m ≡ Some d
    → preceded p w l look m ≡ Some (record d { previous = told (leads w m) l d.previous; last = told (borders p w m) l d.last })
preceded-is p (Some w) l look m d e = elim (eqb_tells m w) [ inl h ↦ rw (h.0, e) refl | inr h ↦ rw (h.0, e) refl ]
preceded-is (Some q) None l look m d e = elim (eqb_tells m q) [ inl h ↦ rw (h.0, e) refl | inr h ↦ rw (h.0, e) refl ]
preceded-is None None l look m d e = e

pub told-skip : (b : Bool) (c : ℕ) (l o : Option ℕ) → (b ≡ true → o ≡ Some c) → (o ≡ Some c → b ≡ true) → told b l o ≡ skip c l o
told-skip true c l o f g = sym (ap (skip c l) (f refl) ∙ skip-taken c l)
told-skip false c l o f g = sym (skip-same c l o (λ e. let w = g e in cc))

-- a node taken out by its own links is passed by
module _ (look : ℕ → Option Node) (t : Trees) (s : Stands look None None t) (c : ℕ) (here : 0 < count c t) where
  own : Linked look None None t c
  own = linked look None None t c s here

  pub passes : (m : ℕ) (d : Node) → 0 < count m t → look m ≡ Some d
      → preceded (parent_link (look c)) (next_link (look c)) (previous_link (look c)) (followed (parent_link (look c)) (previous_link (look c)) (next_link (look c)) look) m
      ≡ Some (passed c (next_link (look c)) (previous_link (look c)) d)
  passes m d hm e =
      preceded-is (parent_link (look c)) (next_link (look c)) (previous_link (look c)) (followed (parent_link (look c)) (previous_link (look c)) (next_link (look c)) look) m _
      (followed-is (parent_link (look c)) (previous_link (look c)) (next_link (look c)) look m d e)
      ∙ rw (nexts, firsts, previouses, lasts) refl where
        other : Linked look None None t m
        other = linked look None None t m s hm

        nexts : told (leads (previous_link (look c)) m) (next_link (look c)) d.next ≡ skip c (next_link (look c)) d.next
        nexts = told-skip (leads (previous_link (look c)) m) c (next_link (look c)) d.next
            (λ h. sym (ap next_link e) ∙ (previous-back look t c own m (leads-true (previous_link (look c)) m h)).0)
            (λ h. leads-self (previous_link (look c)) m (other.next c (ap next_link e ∙ h)).0)

        firsts : told (borders (parent_link (look c)) (previous_link (look c)) m) (next_link (look c)) d.first ≡ skip c (next_link (look c)) d.first
        firsts = told-skip (borders (parent_link (look c)) (previous_link (look c)) m) c (next_link (look c)) d.first
            (λ h. let w = borders-true (parent_link (look c)) (previous_link (look c)) m h in sym (ap first_link e) ∙ begins-back look t c own m w.1 w.0)
            (λ h. let w = other.first c (ap first_link e ∙ h) in borders-self (parent_link (look c)) (previous_link (look c)) m w.1 w.0)

        previouses : told (leads (next_link (look c)) m) (previous_link (look c)) d.previous ≡ skip c (previous_link (look c)) d.previous
        previouses = told-skip (leads (next_link (look c)) m) c (previous_link (look c)) d.previous
            (λ h. sym (ap previous_link e) ∙ (own.next m (leads-true (next_link (look c)) m h)).0)
            (λ h. leads-self (next_link (look c)) m (previous-back look t m other c (ap previous_link e ∙ h)).0)

        lasts : told (borders (parent_link (look c)) (next_link (look c)) m) (previous_link (look c)) d.last ≡ skip c (previous_link (look c)) d.last
        lasts = told-skip (borders (parent_link (look c)) (next_link (look c)) m) c (previous_link (look c)) d.last
            (λ h. let w = borders-true (parent_link (look c)) (next_link (look c)) m h in sym (ap last_link e) ∙ ends-back look t c own m w.1 w.0)
            (λ h. let w = other.last c (ap last_link e ∙ h) in borders-self (parent_link (look c)) (next_link (look c)) m w.1 w.0)

-- one node of a vector is changed, by its place
pub at-changed : (old new : List Node) (v : ℕ) (f : Option Node → Option Node) → 0 < v
    → slice_get new (v - 1) ≡ f (slice_get old (v - 1)) → ((m : ℕ) → m ≢ v - 1 → slice_get new m ≡ slice_get old m)
    → (m : ℕ) → node_at new m ≡ changed v f (node_at old) m
at-changed old new v f some here others zero = elim (eqb_tells 0 v) [ inl h ↦ absurd (let e = h.1 in omega arith) | inr h ↦ rw h.0 refl ]
at-changed old new v f some here others (suc k) = elim (eqb_tells (suc k) v) [
  | inl h ↦ rw h.0 (let e : v - 1 ≡ k = (let s = h.1 in omega arith) in subst (λ i. slice_get new i ≡ f (slice_get old i)) e here)
  | inr h ↦ rw h.0 (others k (λ e. h.1 (omega arith)))
]

-- the node of a number is at the place before it
pub node_at-place : (nodes : List Node) (n : ℕ) → 0 < n → node_at nodes n ≡ slice_get nodes (n - 1)
node_at-place nodes zero h = absurd (omega arith)
node_at-place nodes (suc k) h = let e : suc k - 1 ≡ k = omega arith in rw e refl
