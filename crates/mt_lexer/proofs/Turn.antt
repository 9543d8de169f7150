-- One character of a text, as the loop reads it.
use Rattle.std.proofs.Common.{◌≡◌, ℕ, suc, ◌+◌, ◌<◌, ◌≤◌, drop_of_length-le, List, [], ◌∷◌, ◌++◌, length, get_or, drop, drop-cons, length-append, add-one, refl, sym, ap, ◌∙◌, subst, arith}
use Rattle.std.specs.Char.{encode_utf8}
use Rattle.std.specs.Str.{encode_utf8_all}
use Rattle.mt_lexer.specs.declared.character.SourceChar.{SourceChar}
use Rattle.mt_lexer.specs.declared.character.Class.{Class}
use Rattle.mt_lexer.specs.declared.character.Class.TheVariants as c
use Rattle.mt_lexer.specs.declared.mode.Mode.{Mode}
use Rattle.mt_lexer.specs.declared.mode.Before.{Before}
use Rattle.mt_lexer.specs.declared.reading.Ending.{Ending}
use Rattle.mt_lexer.specs.declared.part.Part.{Part}
use Rattle.mt_lexer.specs.Character.{located, characters_from, class_of}
use Rattle.mt_lexer.specs.Spelling.{Outcome, token}
use Rattle.mt_lexer.specs.Tokens.{Mark, Spelled, with_marks}
use Rattle.mt_lexer.specs.Machine.{Next, step_by, ends, follows, end_mark, lexed}
use Rattle.mt_lexer.specs.Steps.{then}
use Rattle.mt_lexer.specs.Ending.{front, Ends}

front-append : (xs ys : List Mark) (o : Outcome) → front (xs ++ ys) o ≡ front xs (front ys o)
front-append [] ys o = refl
front-append (t ∷ xs) ys o = ap (token t.kind t.span) (front-append xs ys o)

follows-then : (ts : List Mark) (n : Next) (f : List Mode → Before → Part → Outcome) → follows f (then ts n) ≡ front ts (follows f n)
follows-then [] n f = refl
follows-then (t ∷ ts) n f = ap (token t.kind t.span) (follows-then ts n f)

ends-then : (ts : List Mark) (n : Next) → ends (then ts n) ≡ front ts (ends n)
ends-then [] n = refl
ends-then (t ∷ ts) n = ap (token t.kind t.span) (ends-then ts n)

-- these tokens stand at the end now
abbrev pub Emits : Spelled → Spelled → Next → Next → Type 0
Emits old new s n = (ts : List Mark) × (new ≡ with_marks old ts) × (s ≡ then ts n)

cut : (xs : List ℕ) (i x : ℕ) → (i < length xs) × (x ≡ get_or xs i x) → drop i xs ≡ x ∷ drop (i + 1) xs
cut xs i x h = drop-cons xs i x h.0 ∙ ap (λ (y : ℕ). y ∷ drop (suc i) xs) (sym h.1) ∙ ap (λ (j : ℕ). x ∷ drop j xs) (sym (add-one i))

-- the bytes that the character takes of those that are left
pub room : (xs : List ℕ) (at i x n : ℕ) → (i < length xs) × (x ≡ get_or xs i x) → at + length (encode_utf8_all (drop i xs)) ≡ n
    → at + length (encode_utf8 x) + length (encode_utf8_all (drop (i + 1) xs)) ≡ n
room xs at i x n h e =
    let k : length (encode_utf8_all (drop i xs)) ≡ length (encode_utf8 x) + length (encode_utf8_all (drop (i + 1) xs)) =
    ap (λ (l : List ℕ). length (encode_utf8_all l)) (cut xs i x h) ∙ length-append (encode_utf8 x) (encode_utf8_all (drop (i + 1) xs)) in
    omega (arith, k, e)

module _ (source : List ℕ) (old new : Spelled) (same : old.source ≡ source) (ms : List Mode) (b : Before) (w : Part) (n : Next) (total : Outcome) where
  pub one_turn : (xs : List ℕ) (at i x : ℕ) (y : Class) (g : SourceChar) → (i < length xs) × (x ≡ get_or xs i x) → g ≡ located x at → y ≡ class_of x → Emits old new (step_by old.source g w y b ms) n
      → front old.marks (lexed source (characters_from at (drop i xs)) ms b w) ≡ total
      → front new.marks (follows (lexed source (characters_from (at + length (encode_utf8 x)) (drop (i + 1) xs))) n) ≡ total
  one_turn xs at i x y g h is cl st so_far =
      let rest = characters_from (at + length (encode_utf8 x)) (drop (i + 1) xs) in
      let f = lexed source rest in
      let s : step_by source (located x at) w (class_of x) b ms ≡ then st.0 n =
      ap (λ (l : List ℕ). step_by l (located x at) w (class_of x) b ms) (sym same) ∙ ap (λ (q : SourceChar). step_by old.source q w (class_of x) b ms) (sym is)
      ∙ ap (λ (z : Class). step_by old.source g w z b ms) (sym cl) ∙ st.2 in
      ap (λ (s : Spelled). front s.marks (follows f n)) st.1 ∙ front-append old.marks st.0 (follows f n) ∙ ap (front old.marks) (sym (follows-then st.0 n f)) ∙ ap (λ (m : Next). front old.marks (follows f m)) (sym s)
      ∙ ap (λ (l : List ℕ). front old.marks (lexed source (characters_from at l) ms b w)) (sym (cut xs i x h)) ∙ so_far

-- at the end of the source
pub at_end : (old new : Spelled) (g : SourceChar) (ms : List Mode) (b : Before) (w : Part) (n : Next) → g ≡ end_mark old.source → Emits old new (step_by old.source g w c.End b ms) n
    → front new.marks (ends n) ≡ front old.marks (lexed old.source [] ms b w)
at_end old new g ms b w n is st =
    let s : step_by old.source (end_mark old.source) w c.End b ms ≡ then st.0 n = ap (λ (q : SourceChar). step_by old.source q w c.End b ms) (sym is) ∙ st.2 in
    ap (λ (s : Spelled). front s.marks (ends n)) st.1 ∙ front-append old.marks st.0 (ends n) ∙ ap (front old.marks) (sym (ends-then st.0 n)) ∙ ap (λ (m : Next). front old.marks (ends m)) (sym s)

-- behind the last character
pub after_last : (e : Ending) (marks : List Mark) (source : List ℕ) (old : Spelled) (xs : List ℕ) (at i : ℕ) (ms : List Mode) (b : Before) (w : Part) (total : Outcome) → old.source ≡ source → length xs ≤ i
    → Ends e marks (front old.marks (lexed old.source [] ms b w)) → front old.marks (lexed source (characters_from at (drop i xs)) ms b w) ≡ total → Ends e marks total
after_last e marks source old xs at i ms b w total same h given so_far =
    let none : drop i xs ≡ [] = drop_of_length-le xs h in
    subst (λ (o : Outcome). Ends e marks o)
    (ap (λ (l : List ℕ). front old.marks (lexed l [] ms b w)) same ∙ ap (λ (l : List ℕ). front old.marks (lexed source (characters_from at l) ms b w)) (sym none) ∙ so_far) given
