-- The counts of faults of files in memory, by name.
use Rattle.std.proofs.Common.{◌≡◌, ◌<◌, ◌≤◌, ℕ, suc, zero, Bool, true, false, ◌||◌, List, [], ◌∷◌, length, set, replicate, refl, sym, ap, ◌∙◌, arith, if◌then◌else◌, None, Some}
use Rattle.std.specs.Str.{bytes_eq}
use Rattle.std.specs.Option.{is_none}
use Rattle.std.proofs.lemmas.Slice.Eq.{bytes_eq-Decides}
use Rattle.mt_outside.specs.declared.memory_files.FileEntry.{FileEntry}
use Rattle.mt_outside.specs.Calls.{next_count}
use Rattle.mt_outside.specs.Entries.{content_of, count_of, place_in_names}
use Rattle.mt_outside.specs.Files.{shares_count}
use Rattle.mt_outside.proofs.Named.{content-none}

same_name : (a b : List ℕ) → bytes_eq a b ≡ true → a ≡ b
same_name a b e = (bytes_eq-Decides a b).0 e

-- before any call each count is 0
pub count-fresh : (es : List FileEntry) (n : ℕ) (name : List ℕ) → count_of es (replicate n 0) 0 name ≡ 0
count-fresh [] n name = refl
count-fresh (e ∷ es) zero name = refl
count-fresh (e ∷ es) (suc n) name = at (bytes_eq e.name name) (count-fresh es n name) where
  at : (b : Bool) → count_of es (replicate n 0) 0 name ≡ 0 → (if b then 0 else count_of es (replicate n 0) 0 name) ≡ 0
  at true rest = refl
  at false rest = rest

-- a count set at the place of a name is read by that name alone
count-set : (name other : List ℕ) (es : List FileEntry) (ns : List ℕ) (v m : ℕ) → length ns ≡ length es → place_in_names name es < length es
    → count_of es (set ns (place_in_names name es) v) m other ≡ (if bytes_eq name other then v else count_of es ns m other)
count-set name other [] ns v m same inside = absurd (omega arith)
count-set name other (e ∷ es) [] v m same inside = absurd (omega arith)
count-set name other (e ∷ es) (n ∷ ns) v m same inside =
    at (bytes_eq e.name name) (bytes_eq name other) refl refl (count-set name other es ns v m (omega arith)) where
      at : (b t : Bool) → bytes_eq e.name name ≡ b → bytes_eq name other ≡ t
          → (place_in_names name es < length es → count_of es (set ns (place_in_names name es) v) m other ≡ (if bytes_eq name other then v else count_of es ns m other))
          → count_of (e ∷ es) (set (n ∷ ns) (place_in_names name (e ∷ es)) v) m other ≡ (if bytes_eq name other then v else count_of (e ∷ es) (n ∷ ns) m other)
      at true true here there rest =
          let through : bytes_eq e.name other ≡ true = ap (λ l. bytes_eq l other) (same_name e.name name here) ∙ there in
          rw (here, there, through) refl
      at true false here there rest =
          let past : bytes_eq e.name other ≡ false = ap (λ l. bytes_eq l other) (same_name e.name name here) ∙ there in
          rw (here, there, past) refl
      at false true here there rest =
          let past : bytes_eq e.name other ≡ false = ap (bytes_eq e.name) (sym (same_name name other there)) ∙ here in
          let more = rest (let within = rw here at inside in omega arith) in
          rw (here, there, past) (rw there at more)
      at false false here there rest =
          let more = rest (let within = rw here at inside in omega arith) in
          rw (here, there) (either (bytes_eq e.name other) (rw there at more)) where
            either : (b : Bool) → count_of es (set ns (place_in_names name es) v) m other ≡ count_of es ns m other
                → (if b then n else count_of es (set ns (place_in_names name es) v) m other) ≡ (if b then n else count_of es ns m other)
            either true e = refl
            either false e = e

-- the count of the missing names is read by each of them, and by no other
count-missing : (es : List FileEntry) (ns : List ℕ) (m m' : ℕ) (other : List ℕ) → length ns ≡ length es
    → count_of es ns m' other ≡ (if is_none (content_of es other) then m' else count_of es ns m other)
count-missing [] ns m m' other same = refl
count-missing (e ∷ es) [] m m' other same = absurd (omega arith)
count-missing (e ∷ es) (n ∷ ns) m m' other same = at (bytes_eq e.name other) (count-missing es ns m m' other (omega arith)) where
  at : (b : Bool) → count_of es ns m' other ≡ (if is_none (content_of es other) then m' else count_of es ns m other)
      → (if b then n else count_of es ns m' other)
      ≡ (if is_none (if b then Some e.bytes else content_of es other) then m' else (if b then n else count_of es ns m other))
  at true rest = refl
  at false rest = rest

-- a fault at a name that is there
pub counts_there : (name other : List ℕ) (es : List FileEntry) (ns : List ℕ) (v m : ℕ) (content : List ℕ)
    → length ns ≡ length es → place_in_names name es < length es → content_of es name ≡ Some content → v ≡ next_count (count_of es ns m name)
    → count_of es (set ns (place_in_names name es) v) m other
    ≡ (if shares_count (content_of es) name other then next_count (count_of es ns m other) else count_of es ns m other)
counts_there name other es ns v m content same inside told is =
    count-set name other es ns v m same inside ∙ at (bytes_eq name other) refl where
      at : (b : Bool) → bytes_eq name other ≡ b → (if bytes_eq name other then v else count_of es ns m other)
          ≡ (if shares_count (content_of es) name other then next_count (count_of es ns m other) else count_of es ns m other)
      at true e = rw e (is ∙ ap (λ l. next_count (count_of es ns m l)) (same_name name other e))
      at false e = rw (e, told) refl

-- a fault at a name that is missing
pub counts_missing : (name other : List ℕ) (es : List FileEntry) (ns : List ℕ) (m m' : ℕ)
    → length ns ≡ length es → length es ≤ place_in_names name es → m' ≡ next_count m
    → count_of es ns m' other
    ≡ (if shares_count (content_of es) name other then next_count (count_of es ns m other) else count_of es ns m other)
counts_missing name other es ns m m' same past is =
    at (bytes_eq name other) (is_none (content_of es other)) refl refl where
      absent : content_of es name ≡ None
      absent = content-none name es past

      at : (b t : Bool) → bytes_eq name other ≡ b → is_none (content_of es other) ≡ t → count_of es ns m' other
          ≡ (if shares_count (content_of es) name other then next_count (count_of es ns m other) else count_of es ns m other)
      at b true e none =
          let new = rw none at (count-missing es ns m m' other same) in
          let old = rw none at (count-missing es ns m m other same) in
          rw (absent, none, either b e) (new ∙ is ∙ ap next_count (sym old)) where
            either : (b : Bool) → bytes_eq name other ≡ b → (bytes_eq name other || true) ≡ true
            either true e = rw e refl
            either false e = rw e refl
      at true false e some =
          let missing : is_none (content_of es other) ≡ true = ap is_none (ap (content_of es) (sym (same_name name other e)) ∙ absent) in
          absurd (cc)
      at false false e some = rw (absent, e, some) (rw some at (count-missing es ns m m' other same))
