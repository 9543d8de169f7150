-- Bytes and the characters that they spell.
use Rattle.std.proofs.Common.{◌≡◌, ℕ, ◌-◌, Bool, true, false, List, [], ◌∷◌, ◌++◌, length, take, drop, Option, Some, None, refl, sym, ap, ◌∙◌, subst, append-nil, length-append, arith}
use Rattle.std.specs.Prelude.{if◌then◌else◌}
use Rattle.std.specs.Str.{chars, is_utf8, IsUtf8}
use Rattle.std.specs.Str.Iter.{chars_rest, chars_steps, chars_steps_back}
use Rattle.std.specs.declared.str.Chars.{Chars}
use Rattle.std.proofs.lemmas.List.{take_at, drop_at}
use Rattle.std.proofs.lemmas.Str.{chars-nil, chars-append, chars_past_char, IsUtf8-past_char, IsUtf8-drop, IsCharBoundary-from_take, is_utf8-from_IsUtf8, IsUtf8-from_is_utf8}
use lib.Utf8.{encode}
use Rattle.mt_parser_marks.specs.Values.{decoded}

chosen : (b : Bool) (xs : List ℕ) → (b ≡ true → ⊥) → (if b then xs else []) ≡ []
chosen true xs h = absurd (h refl)
chosen false xs h = refl

pub decoded_some : (bs ds : List ℕ) → ds ≡ bs → IsUtf8 bs → chars ds ≡ decoded bs
unfolding decoded
decoded_some bs ds same u = ap chars same ∙ sym (ap (λ (b : Bool). if b then chars bs else []) (is_utf8-from_IsUtf8 bs u))

pub decoded_none : (bs : List ℕ) → ¬ (IsUtf8 bs) → chars [] ≡ decoded bs
unfolding decoded
decoded_none bs u = chars-nil ∙ sym (chosen (is_utf8 bs) (chars bs) (λ e. u (IsUtf8-from_is_utf8 bs e)))

-- ---- a text without its first or its last character

chars_none : (bs : List ℕ) → length bs ≡ 0 → chars bs ≡ []
chars_none [] h = chars-nil
chars_none (b ∷ bs) h = absurd (omega arith)

pub next_drops : (s t : Chars) (r : Option ℕ) → IsUtf8 (chars_rest s) → chars_steps s r t → (chars (chars_rest t) ≡ drop 1 (chars (chars_rest s))) × IsUtf8 (chars_rest t)
next_drops s t None u h =
    let none = chars_none (chars_rest s) h.0.0 in
    (ap (λ (s : Chars). chars (chars_rest s)) h.0.1 ∙ none ∙ sym (ap (λ (cs : List ℕ). drop 1 cs) none), subst (λ (s : Chars). IsUtf8 (chars_rest s)) (sym h.0.1) u)
next_drops s t (Some c) u h =
    (sym (ap (λ (cs : List ℕ). drop 1 cs) (chars_past_char (chars_rest s) (chars_rest t) c u h.0)), IsUtf8-past_char (chars_rest s) (chars_rest t) c u h.0)

behind_front : (xs ys : List ℕ) → IsUtf8 (xs ++ ys) → IsUtf8 xs → IsUtf8 ys
behind_front xs ys u v =
    let n = length-append xs ys in
    let front = subst IsUtf8 (sym (take_at xs ys (length xs) refl)) v in
    subst IsUtf8 (drop_at xs ys (length xs) refl) (IsUtf8-drop (xs ++ ys) (length xs) u (IsCharBoundary-from_take (xs ++ ys) (length xs) u (omega arith) front))

-- a character more
pub pushed : (done more : List ℕ) (c : ℕ) → IsUtf8 done → IsUtf8 more → more ≡ done ++ encode c → chars more ≡ chars done ++ c ∷ []
pushed done more c u v h =
    let last = behind_front done (encode c) (subst IsUtf8 h v) u in
    let one = chars_past_char (encode c) [] c last (sym (append-nil (encode c))) ∙ ap (λ (cs : List ℕ). c ∷ cs) chars-nil in
    ap chars h ∙ chars-append done (encode c) u ∙ ap (λ (cs : List ℕ). chars done ++ cs) one

front_of : (cs xs : List ℕ) (c : ℕ) → cs ≡ xs ++ c ∷ [] → xs ≡ take (length cs - 1) cs
front_of cs xs c e =
    let n = length-append xs (c ∷ []) in let k : length xs ≡ length (xs ++ c ∷ []) - 1 = omega arith in
    sym (take_at xs (c ∷ []) (length (xs ++ c ∷ []) - 1) k) ∙ ap (λ (cs : List ℕ). take (length cs - 1) cs) (sym e)

pub next_back_takes : (s t : Chars) (r : Option ℕ) → IsUtf8 (chars_rest s) → IsUtf8 (chars_rest t) → chars_steps_back s r t
    → chars (chars_rest t) ≡ take (length (chars (chars_rest s)) - 1) (chars (chars_rest s))
next_back_takes s t None u v h =
    let none = chars_none (chars_rest s) h.0 in
    ap (λ (s : Chars). chars (chars_rest s)) h.1 ∙ none ∙ sym (ap (λ (cs : List ℕ). take (length cs - 1) cs) none)
next_back_takes s t (Some c) u v h =
    front_of (chars (chars_rest s)) (chars (chars_rest t)) c (pushed (chars_rest t) (chars_rest s) c v u h)
