-- What the loops of the code keep.
use Rattle.std.proofs.Common.{◌≡◌, ℕ, ◌+◌, ◌<◌, ◌≤◌, List, [], ◌∷◌, ◌++◌, length, get_or, take, drop, Some, None, refl, sym, ap, ◌∙◌, append_assoc, eq-eqb}
use Rattle.std.proofs.lemmas.List.{append-nil, take_more, drop_more, take_all, drop_all}
use Rattle.std.proofs.lemmas.Bool.{false_from_ne_true, ne_eqb}
use Rattle.std.specs.Str.{chars, is_utf8, IsUtf8}
use Rattle.std.proofs.lemmas.Str.{IsUtf8-from_is_utf8, is_utf8-from_IsUtf8}
use Rattle.mt_page_tokens.specs.Reading.{upto, past, text_at}

-- ---- up to a stop

upto_stop : (stop b : ℕ) (bs : List ℕ) → b ≡ stop → upto stop (b ∷ bs) ≡ []
upto_stop stop b bs e = rw (eq-eqb b stop e) refl

past_stop : (stop b : ℕ) (bs : List ℕ) → b ≡ stop → past stop (b ∷ bs) ≡ bs
past_stop stop b bs e = rw (eq-eqb b stop e) refl

upto_on : (stop b : ℕ) (bs : List ℕ) → (b ≡ stop → ⊥) → upto stop (b ∷ bs) ≡ b ∷ upto stop bs
upto_on stop b bs e = rw (ne_eqb b stop e) refl

past_on : (stop b : ℕ) (bs : List ℕ) → (b ≡ stop → ⊥) → past stop (b ∷ bs) ≡ past stop bs
past_on stop b bs e = rw (ne_eqb b stop e) refl

abbrev pub Cuts : ℕ → List ℕ → ℕ → Type 0
Cuts stop bytes i = (take i bytes ++ upto stop (drop i bytes) ≡ upto stop bytes) × (past stop (drop i bytes) ≡ past stop bytes)

pub cut_found : (stop : ℕ) (bytes : List ℕ) (i : ℕ) → i < length bytes → get_or bytes i 0 ≡ stop → Cuts stop bytes i → (take i bytes ≡ upto stop bytes) × (drop (i + 1) bytes ≡ past stop bytes)
cut_found stop bytes i lt e h =
    let d = drop_more bytes i 0 lt in (
      sym (append-nil (take i bytes)) ∙ ap (λ ys. take i bytes ++ ys) (sym (ap (upto stop) d ∙ upto_stop stop _ _ e)) ∙ h.0,
      sym (ap (past stop) d ∙ past_stop stop _ _ e) ∙ h.1,
    )

pub cut_goes : (stop : ℕ) (bytes : List ℕ) (i : ℕ) → i < length bytes → (get_or bytes i 0 ≡ stop → ⊥) → Cuts stop bytes i → Cuts stop bytes (i + 1)
cut_goes stop bytes i lt e h =
    let d = drop_more bytes i 0 lt in (
      ap (λ ys. ys ++ upto stop (drop (i + 1) bytes)) (take_more bytes i 0 lt) ∙ append_assoc (take i bytes) (get_or bytes i 0 ∷ []) (upto stop (drop (i + 1) bytes))
          ∙ ap (λ ys. take i bytes ++ ys) (sym (ap (upto stop) d ∙ upto_on stop _ _ e)) ∙ h.0,
      sym (ap (past stop) d ∙ past_on stop _ _ e) ∙ h.1,
    )

pub cut_ends : (stop : ℕ) (bytes : List ℕ) (i : ℕ) → length bytes ≤ i → Cuts stop bytes i → (bytes ≡ upto stop bytes) × ([] ≡ past stop bytes)
cut_ends stop bytes i le h =
    let d = drop_all i bytes le in (
      sym (ap (λ ys. ys ++ upto stop (drop i bytes)) (take_all i bytes le) ∙ ap (λ ys. bytes ++ upto stop ys) d ∙ append-nil bytes) ∙ h.0,
      sym (ap (past stop) d) ∙ h.1,
    )

-- ---- texts

pub text_read : (bytes : List ℕ) → IsUtf8 bytes → text_at bytes ≡ Some (chars bytes)
unfolding text_at
text_read bytes utf8 = rw (is_utf8-from_IsUtf8 bytes utf8) refl

pub text_refused : (bytes : List ℕ) → (IsUtf8 bytes → ⊥) → text_at bytes ≡ None
unfolding text_at
text_refused bytes broken = rw (false_from_ne_true (is_utf8 bytes) (λ h. broken (IsUtf8-from_is_utf8 bytes h))) refl
