-- Files in memory, by the place of a name.
use Rattle.std.proofs.Common.{◌≡◌, ◌<◌, ◌≤◌, ℕ, suc, zero, Bool, true, false, List, [], ◌∷◌, length, get_or, set, refl, arith, if◌then◌else◌, None, Some}
use Rattle.std.specs.Str.{bytes_eq}
use Rattle.mt_outside.specs.declared.memory_files.FileEntry.{FileEntry}
use Rattle.mt_outside.specs.Entries.{content_of, count_of, place_in_names}

pub content-place : (name : List ℕ) (es : List FileEntry) (d : FileEntry)
    → place_in_names name es < length es → content_of es name ≡ Some (get_or es (place_in_names name es) d).bytes
content-place name [] d inside = absurd (omega arith)
content-place name (e ∷ es) d inside = at (bytes_eq e.name name) refl (content-place name es d) where
  at : (b : Bool) → bytes_eq e.name name ≡ b → (place_in_names name es < length es → content_of es name ≡ Some (get_or es (place_in_names name es) d).bytes)
      → content_of (e ∷ es) name ≡ Some (get_or (e ∷ es) (place_in_names name (e ∷ es)) d).bytes
  at true eq rest = rw eq refl
  at false eq rest = rw eq (rest (let within = rw eq at inside in omega arith))

-- a name that is there has a content
pub content-found : (name : List ℕ) (es : List FileEntry) → place_in_names name es < length es → (content : List ℕ) × (content_of es name ≡ Some content)
content-found name [] inside = absurd (omega arith)
content-found name (e ∷ es) inside = at (bytes_eq e.name name) refl (content-found name es) where
  at : (b : Bool) → bytes_eq e.name name ≡ b → (place_in_names name es < length es → (content : List ℕ) × (content_of es name ≡ Some content))
      → (content : List ℕ) × (content_of (e ∷ es) name ≡ Some content)
  at true eq rest = (e.bytes, rw eq refl)
  at false eq rest = rw eq (rest (let within = rw eq at inside in omega arith))

pub content-none : (name : List ℕ) (es : List FileEntry) → length es ≤ place_in_names name es → content_of es name ≡ None
content-none name [] past = refl
content-none name (e ∷ es) past = at (bytes_eq e.name name) refl (content-none name es) where
  at : (b : Bool) → bytes_eq e.name name ≡ b → (length es ≤ place_in_names name es → content_of es name ≡ None) → content_of (e ∷ es) name ≡ None
  at true eq rest = absurd (let here = rw eq at past in omega arith)
  at false eq rest = rw eq (rest (let behind = rw eq at past in omega arith))

pub count-missing_later : (es : List FileEntry) (ns : List ℕ) (m m' : ℕ) (other : List ℕ) → m ≤ m' → count_of es ns m other ≤ count_of es ns m' other
count-missing_later [] ns m m' other le = le
count-missing_later (e ∷ es) [] m m' other le = le
count-missing_later (e ∷ es) (n ∷ ns) m m' other le = at (bytes_eq e.name other) (count-missing_later es ns m m' other le) where
  at : (b : Bool) → count_of es ns m other ≤ count_of es ns m' other → (if b then n else count_of es ns m other) ≤ (if b then n else count_of es ns m' other)
  at true rest = omega arith
  at false rest = rest

pub count-none : (name : List ℕ) (es : List FileEntry) (ns : List ℕ) (m : ℕ) → length es ≤ place_in_names name es → count_of es ns m name ≡ m
count-none name [] ns m past = refl
count-none name (e ∷ es) [] m past = refl
count-none name (e ∷ es) (n ∷ ns) m past = at (bytes_eq e.name name) refl (count-none name es ns m) where
  at : (b : Bool) → bytes_eq e.name name ≡ b → (length es ≤ place_in_names name es → count_of es ns m name ≡ m) → count_of (e ∷ es) (n ∷ ns) m name ≡ m
  at true eq rest = absurd (let here = rw eq at past in omega arith)
  at false eq rest = rw eq (rest (let behind = rw eq at past in omega arith))

pub count-set_later : (es : List FileEntry) (ns : List ℕ) (i v m : ℕ) (other : List ℕ) → get_or ns i 0 ≤ v → count_of es ns m other ≤ count_of es (set ns i v) m other
count-set_later [] ns i v m other le = omega arith
count-set_later (e ∷ es) [] i v m other le = omega arith
count-set_later (e ∷ es) (n ∷ ns) zero v m other le = at (bytes_eq e.name other) where
  at : (b : Bool) → (if b then n else count_of es ns m other) ≤ (if b then v else count_of es ns m other)
  at true = le
  at false = omega arith
count-set_later (e ∷ es) (n ∷ ns) (suc i) v m other le = at (bytes_eq e.name other) (count-set_later es ns i v m other le) where
  at : (b : Bool) → count_of es ns m other ≤ count_of es (set ns i v) m other → (if b then n else count_of es ns m other) ≤ (if b then n else count_of es (set ns i v) m other)
  at true rest = omega arith
  at false rest = rest

-- the count of a name that is there
pub count-place : (name : List ℕ) (es : List FileEntry) (ns : List ℕ) (m : ℕ) → length ns ≡ length es → place_in_names name es < length es
    → count_of es ns m name ≡ get_or ns (place_in_names name es) 0
count-place name [] ns m same inside = absurd (omega arith)
count-place name (e ∷ es) [] m same inside = absurd (omega arith)
count-place name (e ∷ es) (n ∷ ns) m same inside = at (bytes_eq e.name name) refl (count-place name es ns m (omega arith)) where
  at : (b : Bool) → bytes_eq e.name name ≡ b → (place_in_names name es < length es → count_of es ns m name ≡ get_or ns (place_in_names name es) 0)
      → count_of (e ∷ es) (n ∷ ns) m name ≡ get_or (n ∷ ns) (place_in_names name (e ∷ es)) 0
  at true eq rest = rw eq refl
  at false eq rest = rw eq (rest (let within = rw eq at inside in omega arith))
