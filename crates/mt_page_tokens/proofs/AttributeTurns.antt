-- The loop over attributes.
use Rattle.std.proofs.Common.{◌≡◌, ℕ, zero, suc, ◌+◌, ◌-◌, ◌<◌, ◌≤◌, List, [], ◌∷◌, ◌++◌, length, Option, Some, None, refl, sym, ap, ◌∙◌, append_assoc, arith}
use Rattle.std.proofs.lemmas.List.{append-nil}
use Rattle.mt_tree.specs.declared.html.Attribute.{Attribute}
use Rattle.mt_syntax.specs.declared.program.Code.{Code}
use Rattle.mt_page_tokens.specs.declared.refusal.ReadRefusal.{ReadRefusal}
use Rattle.mt_page_tokens.specs.declared.refusal.ReadRefusal.TheVariants as refusal
use Rattle.mt_page_tokens.specs.Reading.{◌>>=◌, Refuses, attribute_at, attributes_by}

abbrev pub A : Type 0
A = Attribute Code

abbrev pub with_front : List A → Option (List A) → Option (List A)
with_front front read = read >>= λ more. Some (front ++ more)

abbrev pub SoFar : ℕ → List A → List ℕ → Option (List A) → Type 0
SoFar n front rest total = with_front front (attributes_by n rest) ≡ total

regroup : (front : List A) (a : A) (read : Option (List A)) → with_front front (read >>= λ more. Some (a ∷ more)) ≡ with_front (front ++ a ∷ []) read
regroup front a (Some x) = ap (λ (ns : List A). Some ns) (simp append_assoc)
regroup front a None = refl

no_more : (n : ℕ) (rest : List ℕ) → length rest ≡ 0 → attributes_by n rest ≡ Some []
unfolding attributes_by
no_more n [] e = refl
no_more n (b ∷ bs) e = absurd (omega arith)

pub one_more : (n : ℕ) (rest after : List ℕ) (a : A) → (length rest ≡ 0 → ⊥) → attribute_at rest ≡ Some (a, after) → attributes_by (suc n) rest ≡ (attributes_by n after >>= λ more. Some (a ∷ more))
unfolding attributes_by
one_more n [] after a ne e = absurd (ne refl)
one_more n (b ∷ bs) after a ne e = rw e refl

broken : (n : ℕ) (rest : List ℕ) → (length rest ≡ 0 → ⊥) → attribute_at rest ≡ None → attributes_by (suc n) rest ≡ None
unfolding attributes_by
broken n [] ne e = absurd (ne refl)
broken n (b ∷ bs) ne e = rw e refl

too_many : (rest : List ℕ) → (length rest ≡ 0 → ⊥) → attributes_by zero rest ≡ None
unfolding attributes_by
too_many [] ne = absurd (ne refl)
too_many (b ∷ bs) ne = refl

pub begins : (n : ℕ) (bytes : List ℕ) → SoFar n [] bytes (attributes_by n bytes)
begins n bytes = same (attributes_by n bytes) where
  same : (read : Option (List A)) → with_front [] read ≡ read
  same (Some x) = refl
  same None = refl

pub stops : (front : List A) (n : ℕ) (rest : List ℕ) (total : Option (List A)) → length rest ≡ 0 → SoFar n front rest total → total ≡ Some front
stops front n rest total e so_far =
    let one : with_front front (attributes_by n rest) ≡ Some front = rw (no_more n rest e) (ap (λ (ns : List A). Some ns) (append-nil front)) in
    sym so_far ∙ one

pub goes : (front : List A) (count i : ℕ) (rest after : List ℕ) (a : A) (total : Option (List A)) → i < count → (length rest ≡ 0 → ⊥) → attribute_at rest ≡ Some (a, after)
    → SoFar (count - i) front rest total → SoFar (count - (i + 1)) (front ++ a ∷ []) after total
goes front count i rest after a total lt ne h so_far =
    let k : count - i ≡ suc (count - (i + 1)) = omega arith in
    let one : with_front front (attributes_by (count - i) rest) ≡ with_front (front ++ a ∷ []) (attributes_by (count - (i + 1)) after) = rw (k, one_more (count - (i + 1)) rest after a ne h) (regroup front a (attributes_by (count - (i + 1)) after)) in
    sym one ∙ so_far

pub fails : (e : ReadRefusal) (front : List A) (count i : ℕ) (rest : List ℕ) (total : Option (List A)) → i < count → (length rest ≡ 0 → ⊥) → Refuses e (attribute_at rest)
    → SoFar (count - i) front rest total → Refuses e total
fails refusal.NoMemory front count i rest total lt ne h so_far = tt
fails refusal.NotPage front count i rest total lt ne h so_far =
    let k : count - i ≡ suc (count - (i + 1)) = omega arith in
    let one : with_front front (attributes_by (count - i) rest) ≡ None = rw (k, broken (count - (i + 1)) rest ne h) refl in
    sym so_far ∙ one

pub ends : (front : List A) (count i : ℕ) (rest : List ℕ) (total : Option (List A)) → count ≤ i → (length rest ≡ 0 → ⊥) → SoFar (count - i) front rest total → total ≡ None
ends front count i rest total le ne so_far =
    let k : count - i ≡ 0 = omega arith in
    let one : with_front front (attributes_by (count - i) rest) ≡ None = rw (k, too_many rest ne) refl in
    sym so_far ∙ one
