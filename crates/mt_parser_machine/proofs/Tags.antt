-- The longest front of the bytes of a tag's name, byte by byte.
use Rattle.std.proofs.Common.{◌≡◌, ℕ, suc, ◌+◌, ◌<◌, ◌≤◌, true, false, List, [], ◌∷◌, ◌++◌, length, get_or, take, drop, drop-cons, drop_of_length-le, cond, add-one, append_assoc, sym, ap, ◌∙◌}
use Rattle.std.proofs.Math.Seq.{take-suc}
use Rattle.std.proofs.lemmas.List.{append-nil, take_all}
use Rattle.mt_grammar.specs.Token.{is_tag_byte, tag_bytes}

one : (b : ℕ) (bs : List ℕ) → is_tag_byte b ≡ true → tag_bytes (b ∷ bs) ≡ b ∷ tag_bytes bs
unfolding tag_bytes
one b bs e = ap (λ y. cond y (b ∷ tag_bytes bs) []) e

none : (b : ℕ) (bs : List ℕ) → is_tag_byte b ≡ false → tag_bytes (b ∷ bs) ≡ []
unfolding tag_bytes
none b bs e = ap (λ y. cond y (b ∷ tag_bytes bs) []) e

pub one_more : (bs : List ℕ) (i d : ℕ) → i < length bs → is_tag_byte (get_or bs i d) ≡ true → tag_bytes bs ≡ take i bs ++ tag_bytes (drop i bs) → tag_bytes bs ≡ take (i + 1) bs ++ tag_bytes (drop (i + 1) bs)
one_more bs i d h e so_far =
    let b = get_or bs i d in
    so_far ∙ ap (λ r. take i bs ++ tag_bytes r) (drop-cons bs i d h) ∙ ap (λ r. take i bs ++ r) (one b (drop (suc i) bs) e)
    ∙ sym (append_assoc (take i bs) (b ∷ []) (tag_bytes (drop (suc i) bs))) ∙ ap (λ r. r ++ tag_bytes (drop (suc i) bs)) (sym (take-suc bs i d h))
    ∙ ap (λ j. take j bs ++ tag_bytes (drop j bs)) (sym (add-one i))

pub ends_here : (bs : List ℕ) (i d : ℕ) → i < length bs → is_tag_byte (get_or bs i d) ≡ false → tag_bytes bs ≡ take i bs ++ tag_bytes (drop i bs) → tag_bytes bs ≡ take i bs
ends_here bs i d h e so_far =
    so_far ∙ ap (λ r. take i bs ++ tag_bytes r) (drop-cons bs i d h) ∙ ap (λ r. take i bs ++ r) (none (get_or bs i d) (drop (suc i) bs) e) ∙ append-nil (take i bs)

pub all_of_them : (bs : List ℕ) (i : ℕ) → length bs ≤ i → tag_bytes bs ≡ take i bs ++ tag_bytes (drop i bs) → tag_bytes bs ≡ bs
unfolding tag_bytes
all_of_them bs i h so_far = so_far ∙ ap (λ r. take i bs ++ tag_bytes r) (drop_of_length-le bs h) ∙ append-nil (take i bs) ∙ take_all i bs h

pub nothing_left : (bs : List ℕ) (n : ℕ) → length bs ≤ n → [] ≡ tag_bytes (drop n bs)
unfolding tag_bytes
nothing_left bs n h = ap tag_bytes (sym (drop_of_length-le bs h))
