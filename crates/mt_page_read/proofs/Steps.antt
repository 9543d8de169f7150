-- What the machine makes of a whole token.
use Rattle.std.proofs.Common.{◌≡◌, ℕ, Bool, true, false, not, ◌||◌, ◌==◌, List, [], ◌∷◌, ◌++◌, refl, sym, ap, ◌∙◌, append_assoc, arith, codes, inl, inr}
use Rattle.std.proofs.lemmas.Bool.{and_parts, both_ways, eqb-true, ne_eqb, not-true, or_cases}
use Rattle.std.proofs.lemmas.List.{append-nil}
use Rattle.std.specs.Str.{bytes_eq}
use Rattle.mt_page_read.specs.declared.tree.Growing.{Growing}
use Rattle.mt_page_read.specs.declared.machine.Mode.{Mode}
use Rattle.mt_page_read.specs.declared.machine.Mode.TheVariants as mode
use Rattle.mt_page_read.specs.declared.machine.Machine.{Machine}
use Rattle.mt_page_read.specs.Machine.{reader, after, step, run, worded, tagged, scripted}
use Rattle.mt_syntax_laws.specs.Openings.{begins_harmlessly, opens_nothing}
use Rattle.mt_page_tokens.proofs.Lacking.{lacks}
use Rattle.mt_page_read.proofs.Runs.{run-append}

pub step_is : (b : ℕ) (r : Machine) → step b r ≡ after b r.mode r.held r.tree
unfolding step
step_is b r = refl

push : (held bs : List ℕ) (b : ℕ) → (held ++ b ∷ []) ++ bs ≡ held ++ b ∷ bs
push held bs b = append_assoc held (b ∷ []) bs

pub in_tag : (bytes held : List ℕ) (g : Growing) → lacks 62 bytes ≡ true → run bytes (reader mode.Tag held g) ≡ reader mode.Tag (held ++ bytes) g
in_tag [] held g l = ap (λ ys. reader mode.Tag ys g) (sym (append-nil held))
in_tag (b ∷ bs) held g l =
    let h = and_parts (not (b == 62)) (lacks 62 bs) l in
    ap (run bs) (step_is b (reader mode.Tag held g) ∙ rw (not-true (b == 62) h.0) refl) ∙ in_tag bs (held ++ b ∷ []) g h.1 ∙ ap (λ ys. reader mode.Tag ys g) (push held bs b)

pub in_words : (bytes held : List ℕ) (g : Growing) → lacks 60 bytes ≡ true → run bytes (reader mode.Words held g) ≡ reader mode.Words (held ++ bytes) g
in_words [] held g l = ap (λ ys. reader mode.Words ys g) (sym (append-nil held))
in_words (b ∷ bs) held g l =
    let h = and_parts (not (b == 60)) (lacks 60 bs) l in
    ap (run bs) (step_is b (reader mode.Words held g) ∙ rw (not-true (b == 60) h.0) refl) ∙ in_words bs (held ++ b ∷ []) g h.1 ∙ ap (λ ys. reader mode.Words ys g) (push held bs b)

harmless : (b c : ℕ) → ((b == 32) || (b == 61)) ≡ true → (32 ≡ c → ⊥) → (61 ≡ c → ⊥) → (b == c) ≡ false
harmless b c h s e = elim (or_cases (b == 32) (b == 61) h) [
  | inl is ↦ ne_eqb b c (λ same. s (sym (eqb-true b 32 is) ∙ same))
  | inr is ↦ ne_eqb b c (λ same. e (sym (eqb-true b 61 is) ∙ same))
]

-- code in a script stays in it: behind a `<` in it stands a space or `=`
abbrev in_code : Bool → Mode
in_code true = mode.Less
in_code false = mode.Script

abbrev Stays : Bool → List ℕ → Type 0
Stays false bytes = opens_nothing bytes ≡ true
Stays true bytes = (begins_harmlessly bytes ≡ true) × (opens_nothing bytes ≡ true)

pushed : (b : ℕ) (bs held : List ℕ) (g : Growing) (m : Mode) → run bs (reader m (held ++ b ∷ []) g) ≡ reader mode.Script ((held ++ b ∷ []) ++ bs) g → run bs (reader m (held ++ b ∷ []) g) ≡ reader mode.Script (held ++ b ∷ bs) g
pushed b bs held g m h = h ∙ ap (λ ys. reader mode.Script ys g) (push held bs b)

in_code_all : (bytes held : List ℕ) (g : Growing) (less : Bool) → Stays less bytes → run bytes (reader (in_code less) held g) ≡ reader mode.Script (held ++ bytes) g
in_code_all [] held g true s = absurd (both_ways false refl s.0)
in_code_all [] held g false s = ap (λ ys. reader mode.Script ys g) (sym (append-nil held))
in_code_all (b ∷ bs) held g true s =
    let one : ((b == 32) || (b == 61)) ≡ true = s.0 in
    let rest = and_parts (not (b == 60) || begins_harmlessly bs) (opens_nothing bs) s.1 in
    let no_slash : (b == 47) ≡ false = harmless b 47 one (λ e. omega (arith, e)) (λ e. omega (arith, e)) in
    let no_less : (b == 60) ≡ false = harmless b 60 one (λ e. omega (arith, e)) (λ e. omega (arith, e)) in
    ap (run bs) (step_is b (reader mode.Less held g) ∙ rw (no_slash, no_less) refl) ∙ pushed b bs held g mode.Script (in_code_all bs (held ++ b ∷ []) g false rest.1)
in_code_all (b ∷ bs) held g false s = by (b == 60) refl (λ less h. in_code_all bs (held ++ b ∷ []) g less h) where
  rest : ((not (b == 60) || begins_harmlessly bs) ≡ true) × (opens_nothing bs ≡ true)
  rest = and_parts (not (b == 60) || begins_harmlessly bs) (opens_nothing bs) s

  by : (less : Bool) → (b == 60) ≡ less → ((at : Bool) → Stays at bs → run bs (reader (in_code at) (held ++ b ∷ []) g) ≡ reader mode.Script ((held ++ b ∷ []) ++ bs) g)
      → run (b ∷ bs) (reader mode.Script held g) ≡ reader mode.Script (held ++ b ∷ bs) g
  by true e more =
      let begins : begins_harmlessly bs ≡ true = rw e at rest.0 in
      ap (run bs) (step_is b (reader mode.Script held g) ∙ rw e refl) ∙ pushed b bs held g mode.Less (more true (begins, rest.1))
  by false e more = ap (run bs) (step_is b (reader mode.Script held g) ∙ rw e refl) ∙ pushed b bs held g mode.Script (more false rest.1)

pub in_script : (bytes held : List ℕ) (g : Growing) → opens_nothing bytes ≡ true → run bytes (reader mode.Script held g) ≡ reader mode.Script (held ++ bytes) g
in_script bytes held g h = in_code_all bytes held g false h

pub nothing_worded : (g : Growing) → worded [] g ≡ g
unfolding worded
nothing_worded g = refl

-- a text ends at the <
pub begins_tag : (held : List ℕ) (g : Growing) → step 60 (reader mode.Words held g) ≡ reader mode.Tag (60 ∷ []) (worded held g)
begins_tag held g = step_is 60 (reader mode.Words held g)

pub ends_tag : (held : List ℕ) (g : Growing) → bytes_eq (codes "<script") held ≡ false → step 62 (reader mode.Tag held g) ≡ reader mode.Words [] (tagged held g)
ends_tag held g n = step_is 62 (reader mode.Tag held g) ∙ rw n refl

-- a tag, whole
pub past_tag : (bytes held rest : List ℕ) (g : Growing) → lacks 62 bytes ≡ true → bytes_eq (codes "<script") (60 ∷ bytes) ≡ false
    → run (60 ∷ bytes ++ 62 ∷ rest) (reader mode.Words held g) ≡ run rest (reader mode.Words [] (tagged (60 ∷ bytes) (worded held g)))
past_tag bytes held rest g l n =
    ap (run (bytes ++ 62 ∷ rest)) (begins_tag held g) ∙ run-append bytes (62 ∷ rest) (reader mode.Tag (60 ∷ []) (worded held g))
    ∙ ap (run (62 ∷ rest)) (in_tag bytes (60 ∷ []) (worded held g) l) ∙ ap (run rest) (ends_tag (60 ∷ bytes) (worded held g) n)

-- a script, whole
begins_script : (held : List ℕ) (g : Growing) → run (codes "<script>") (reader mode.Words held g) ≡ reader mode.Script (codes "<script>") (worded held g)
unfolding step
begins_script held g = refl

ends_script : (held rest : List ℕ) (g : Growing) → run (codes "</script" ++ 62 ∷ rest) (reader mode.Script held g) ≡ run rest (reader mode.Words [] (scripted (held ++ codes "</script") g))
unfolding step
ends_script held rest g = ap (λ ys. run rest (reader mode.Words [] (scripted ys g))) (simp append_assoc refl)

pub past_script : (code held rest : List ℕ) (g : Growing) → opens_nothing code ≡ true
    → run ((codes "<script>" ++ code ++ codes "</script") ++ 62 ∷ rest) (reader mode.Words held g) ≡ run rest (reader mode.Words [] (scripted (codes "<script>" ++ code ++ codes "</script") (worded held g)))
past_script code held rest g l =
    ap (λ ys. run ys (reader mode.Words held g)) (append_assoc (codes "<script>" ++ code) (codes "</script") (62 ∷ rest) ∙ append_assoc (codes "<script>") code (codes "</script" ++ 62 ∷ rest))
    ∙ run-append (codes "<script>") (code ++ (codes "</script" ++ 62 ∷ rest)) (reader mode.Words held g)
    ∙ ap (run (code ++ (codes "</script" ++ 62 ∷ rest))) (begins_script held g)
    ∙ run-append code (codes "</script" ++ 62 ∷ rest) (reader mode.Script (codes "<script>") (worded held g))
    ∙ ap (run (codes "</script" ++ 62 ∷ rest)) (in_script code (codes "<script>") (worded held g) l)
    ∙ ends_script (codes "<script>" ++ code) rest (worded held g)
