-- The bytes that the machine holds, apart from its tree.
use Rattle.std.proofs.Common.{◌≡◌, ℕ, suc, ◌+◌, ◌≤◌, List, [], ◌∷◌, ◌++◌, length, refl, sym, ap, ◌∙◌, append_assoc, arith}
use Rattle.std.proofs.lemmas.List.{append-nil, length-append}
use Rattle.std.specs.Prelude.{Bool, true, false, ◌==◌, if◌then◌else◌, codes}
use Rattle.std.specs.Str.{bytes_eq}
use Rattle.mt_page_read.specs.declared.machine.Machine.{Machine}
use Rattle.mt_page_read.specs.declared.machine.Mode.{Mode}
use Rattle.mt_page_read.specs.declared.machine.Mode.TheVariants as mode
use Rattle.mt_page_read.specs.declared.tree.Growing.{Growing}
use Rattle.mt_page_read.specs.Machine.{step, run, start, reader, after, worded, tagged, scripted}

-- in which kind of token the bytes end, and the bytes held
abbrev pub Cut : Type 0
Cut = Mode × List ℕ

abbrev pub cut_by : ℕ → Mode → List ℕ → Cut
cut_by b mode.Words held = if b == 60 then (mode.Tag, b ∷ []) else (mode.Words, held ++ b ∷ [])
cut_by b mode.Tag held = if b == 62
    then (if bytes_eq (codes "<script") held then (mode.Script, held ++ b ∷ []) else (mode.Words, []))
    else (mode.Tag, held ++ b ∷ [])
cut_by b mode.Script held = (if b == 60 then mode.Less else mode.Script, held ++ b ∷ [])
cut_by b mode.Less held = (if b == 47 then mode.Slash else (if b == 60 then mode.Less else mode.Script), held ++ b ∷ [])
cut_by b mode.Slash held = if b == 62 then (mode.Words, []) else (mode.Slash, held ++ b ∷ [])

abbrev pub cuts : List ℕ → Cut → Cut
cuts [] c = c
cuts (b ∷ bs) c = cuts bs (cut_by b c.0 c.1)

abbrev pub cut_of : Machine → Cut
cut_of r = (r.mode, r.held)

after_cut : (b : ℕ) (m : Mode) (held : List ℕ) (g : Growing) → cut_of (after b m held g) ≡ cut_by b m held
after_cut b mode.Words held g = by (b == 60) where
  by : (x : Bool) → cut_of (if x then reader mode.Tag (b ∷ []) (worded held g) else reader mode.Words (held ++ b ∷ []) g) ≡ (if x then (mode.Tag, b ∷ []) else (mode.Words, held ++ b ∷ []))
  by true = refl
  by false = refl
after_cut b mode.Tag held g = by (b == 62) (bytes_eq (codes "<script") held) where
  by : (x y : Bool) → cut_of (if x then (if y then reader mode.Script (held ++ b ∷ []) g else reader mode.Words [] (tagged held g)) else reader mode.Tag (held ++ b ∷ []) g)
      ≡ (if x then (if y then (mode.Script, held ++ b ∷ []) else (mode.Words, [])) else (mode.Tag, held ++ b ∷ []))
  by true true = refl
  by true false = refl
  by false y = refl
after_cut b mode.Script held g = refl
after_cut b mode.Less held g = refl
after_cut b mode.Slash held g = by (b == 62) where
  by : (x : Bool) → cut_of (if x then reader mode.Words [] (scripted held g) else reader mode.Slash (held ++ b ∷ []) g) ≡ (if x then (mode.Words, []) else (mode.Slash, held ++ b ∷ []))
  by true = refl
  by false = refl

step_cut : (b : ℕ) (r : Machine) → cut_of (step b r) ≡ cut_by b r.mode r.held
unfolding step
step_cut b r = after_cut b r.mode r.held r.tree

pub run_cut : (bs : List ℕ) (r : Machine) → cut_of (run bs r) ≡ cuts bs (cut_of r)
run_cut [] r = refl
run_cut (b ∷ bs) r = run_cut bs (step b r) ∙ ap (cuts bs) (step_cut b r)

pub start_cut : (whole : Bool) (fed : List ℕ) → (run fed (start whole)).held ≡ (cuts fed (mode.Words, [])).1
start_cut true fed = ap (λ (c : Cut). c.1) (run_cut fed (start true))
start_cut false fed = ap (λ (c : Cut). c.1) (run_cut fed (start false))

pub cuts-append : (xs ys : List ℕ) (c : Cut) → cuts (xs ++ ys) c ≡ cuts ys (cuts xs c)
cuts-append [] ys c = refl
cuts-append (x ∷ xs) ys c = cuts-append xs ys (cut_by x c.0 c.1)

-- ---- what loses no byte at the end has lost none before

length-one : (held : List ℕ) (b : ℕ) → length (held ++ b ∷ []) ≡ suc (length held)
length-one [] b = refl
length-one (x ∷ held) b = ap suc (length-one held b)

-- a byte more: it stands behind those held, or these are gone
abbrev OneMore : ℕ → List ℕ → List ℕ → Type 0
OneMore b held new = (length new ≤ suc (length held)) × (suc (length held) ≤ length new → new ≡ held ++ b ∷ [])

pushed : (b : ℕ) (held : List ℕ) → OneMore b held (held ++ b ∷ [])
pushed b held = (omega (arith, length-one held b), λ le. refl)

emptied : (b : ℕ) (held : List ℕ) → OneMore b held []
emptied b held = (omega arith, λ le. absurd (omega (arith, le)))

begun : (b : ℕ) (held : List ℕ) → OneMore b held (b ∷ [])
begun b [] = (omega arith, λ le. refl)
begun b (x ∷ held) = (omega arith, λ le. absurd (omega (arith, le)))

one_more : (b : ℕ) (m : Mode) (held : List ℕ) → OneMore b held (cut_by b m held).1
one_more b mode.Words held = by (b == 60) where
  by : (x : Bool) → OneMore b held (if◌then◌else◌ {A = Cut} x (mode.Tag, b ∷ []) (mode.Words, held ++ b ∷ [])).1
  by true = begun b held
  by false = pushed b held
one_more b mode.Tag held = by (b == 62) (bytes_eq (codes "<script") held) where
  by : (x y : Bool) → OneMore b held (if◌then◌else◌ {A = Cut} x (if y then (mode.Script, held ++ b ∷ []) else (mode.Words, [])) (mode.Tag, held ++ b ∷ [])).1
  by true true = pushed b held
  by true false = emptied b held
  by false y = pushed b held
one_more b mode.Script held = pushed b held
one_more b mode.Less held = pushed b held
one_more b mode.Slash held = by (b == 62) where
  by : (x : Bool) → OneMore b held (if◌then◌else◌ {A = Cut} x (mode.Words, []) (mode.Slash, held ++ b ∷ [])).1
  by true = emptied b held
  by false = pushed b held

no_more : (xs : List ℕ) (m : Mode) (held : List ℕ) → length (cuts xs (m, held)).1 ≤ length held + length xs
no_more [] m held = omega arith
no_more (x ∷ xs) m held =
    let c = cut_by x m held in
    let one = one_more x m held in
    omega (arith, no_more xs c.0 c.1, one.0)

all_held : (xs : List ℕ) (m : Mode) (held : List ℕ) → length held + length xs ≤ length (cuts xs (m, held)).1 → (cuts xs (m, held)).1 ≡ held ++ xs
all_held [] m held le = sym (append-nil held)
all_held (x ∷ xs) m held le =
    let c = cut_by x m held in
    let one = one_more x m held in
    let most = no_more xs c.0 c.1 in
    let full : suc (length held) ≤ length c.1 = omega (arith, most, le) in
    let here : c.1 ≡ held ++ x ∷ [] = one.1 full in
    let rest : length c.1 + length xs ≤ length (cuts xs (c.0, c.1)).1 = omega (arith, one.0, le) in
    all_held xs c.0 c.1 rest ∙ ap (λ ys. ys ++ xs) here ∙ append_assoc held (x ∷ []) xs

pub held_before : (xs ys : List ℕ) (m : Mode) (held : List ℕ) → (cuts (xs ++ ys) (m, held)).1 ≡ held ++ (xs ++ ys) → (cuts xs (m, held)).1 ≡ held ++ xs
held_before xs ys m held e =
    let c = cuts xs (m, held) in
    let most = no_more ys c.0 c.1 in
    let whole : length (cuts ys (c.0, c.1)).1 ≡ length held + (length xs + length ys) =
    ap (λ (x : Cut). length x.1) (sym (cuts-append xs ys (m, held))) ∙ ap length e ∙ length-append held (xs ++ ys) ∙ ap (λ (n : ℕ). length held + n) (length-append xs ys) in
    all_held xs m held (omega (arith, most, whole))
