-- What is found is what the text spells.
use Rattle.std.proofs.Common.{◌≡◌, ◌⊎◌, inl, inr, ◌&&◌, ◌++◌, ℕ, true, List, [], ◌∷◌, codes, encode_utf8_all, Option, None, Some, unwrap_or, option_map, option_and_then, drop, sym, refl, ap, ap₂, subst, subst₂, ◌∙◌, arith, append_assoc}
use mathlib.Core.Bool.{Bool-set}
use Rattle.std.proofs.lemmas.Bool.{and_parts}
use Rattle.std.proofs.lemmas.List.{same_from_push}
use Rattle.std.proofs.lemmas.Option.{cond_some, some_pair_parts}
use Rattle.std.proofs.lemmas.Str.{encodes_same}
use Rattle.mt_small.specs.declared.application.Small.{Small}
use Rattle.mt_small.specs.Application.{IsSmall, Spells, front, middle, back}
use Rattle.mt_small.specs.ApplicationReader.{without_line_feed, text_from, named_from, parts_in, fitting, small_in}
use Rattle.mt_small.specs.Name.{is_service_name}
use Rattle.mt_small.specs.Paragraph.{is_paragraph}
use Rattle.mt_small.specs.Splitting.{before, from, after_front, before_back}
use Rattle.mt_small.proofs.Cuts.{lacks, before-append, from-append, before-from, after_front-found, after_front-again, before_back-found, before_back-again}
use Rattle.mt_small.proofs.Options.{then-found, map-found}
use Rattle.mt_small.proofs.PlainText.{service-lacks}

abbrev spelled : List ℕ → List ℕ → List ℕ
spelled service text = front ++ service ++ middle ++ text ++ back

abbrev pub IsSpelled : List ℕ → List ℕ → List ℕ → Type 0
IsSpelled bytes service text = (bytes ≡ spelled service text) ⊎ (bytes ≡ spelled service text ++ 10 ∷ [])

grouped : (service text : List ℕ) → front ++ (service ++ (middle ++ (text ++ back))) ≡ spelled service text
grouped service text =
    sym (append_assoc (front ++ service ++ middle) text back ∙ append_assoc (front ++ service) middle (text ++ back) ∙ append_assoc front service (middle ++ (text ++ back)))

line_feed-found : (bytes whole : List ℕ) → without_line_feed bytes ≡ whole → (bytes ≡ whole) ⊎ (bytes ≡ whole ++ 10 ∷ [])
line_feed-found bytes whole e = at (before_back (10 ∷ []) bytes) refl e
  where
    at : (o : Option (List ℕ)) → before_back (10 ∷ []) bytes ≡ o → unwrap_or o bytes ≡ whole → (bytes ≡ whole) ⊎ (bytes ≡ whole ++ 10 ∷ [])
    at None none is = inl is
    at (Some text) some is = inr (before_back-found (10 ∷ []) bytes text some ∙ ap (λ xs. xs ++ 10 ∷ []) is)

text_from-found : (bytes text : List ℕ) → text_from bytes ≡ Some text → bytes ≡ middle ++ (text ++ back)
text_from-found bytes text e =
    then-found (before_back back) (after_front middle bytes) text e
    (λ rest front last. after_front-found middle bytes rest front ∙ ap (λ xs. middle ++ xs) (before_back-found back rest text last))

named_from-found : (bytes service text : List ℕ) → named_from bytes ≡ Some (service, text) → bytes ≡ service ++ (middle ++ (text ++ back))
named_from-found bytes service text e =
    map-found (λ found. (before 40 bytes, found)) (text_from (from 40 bytes)) (service, text) e
    (λ found some is.
    before-from 40 bytes ∙ ap (λ p. p.0 ++ from 40 bytes) is ∙ ap (λ xs. service ++ xs) (text_from-found (from 40 bytes) found some)
    ∙ ap (λ p. service ++ (middle ++ (p.1 ++ back))) is)

parts_in-found : (bytes service text : List ℕ) → parts_in bytes ≡ Some (service, text) → IsSpelled bytes service text
parts_in-found bytes service text e =
    then-found named_from (after_front front (without_line_feed bytes)) (service, text) e
    (λ rest first named.
    line_feed-found bytes (spelled service text)
    (after_front-found front (without_line_feed bytes) rest first ∙ ap (λ xs. front ++ xs) (named_from-found rest service text named) ∙ grouped service text))

pub small_in-found : (bytes service text : List ℕ) → small_in bytes ≡ Some (service, text)
    → (is_service_name service ≡ true) × (is_paragraph text ≡ true) × IsSpelled bytes service text
small_in-found bytes service text e =
    then-found fitting (parts_in bytes) (service, text) e
    (λ parts found fits.
    let both = cond_some (is_service_name parts.0 && is_paragraph parts.1) parts (service, text) fits in
    let names = and_parts (is_service_name parts.0) (is_paragraph parts.1) both.0 in (
      sym (ap (λ p. is_service_name p.0) both.1) ∙ names.0,
      sym (ap (λ p. is_paragraph p.1) both.1) ∙ names.1,
      parts_in-found bytes service text (found ∙ ap (λ p. Some p) both.1),
    ))

text_from-again : (text : List ℕ) → text_from (middle ++ (text ++ back)) ≡ Some text
text_from-again text = ap (λ o. option_and_then (before_back back) o) (after_front-again middle (text ++ back)) ∙ before_back-again back text

opens : (xs : List ℕ) → middle ++ xs ≡ 40 ∷ drop 1 (middle ++ xs)
unfolding middle
opens xs = refl

named_from-again : (service text : List ℕ) → lacks 40 service ≡ true → named_from (service ++ (middle ++ (text ++ back))) ≡ Some (service, text)
named_from-again service text e =
    let tail : List ℕ = middle ++ (text ++ back) in
    let whole : service ++ tail ≡ service ++ 40 ∷ drop 1 tail = ap (λ xs. service ++ xs) (opens (text ++ back)) in
    let name : before 40 (service ++ tail) ≡ service = ap (λ xs. before 40 xs) whole ∙ before-append 40 service (drop 1 tail) e in
    let rest : from 40 (service ++ tail) ≡ tail = ap (λ xs. from 40 xs) whole ∙ from-append 40 service (drop 1 tail) e ∙ sym (opens (text ++ back)) in
    ap₂ (λ b f. option_map (λ found. (b, found)) (text_from f)) name rest ∙ ap (λ o. option_map (λ found. (service, found)) o) (text_from-again text)

last-byte : (xs : List ℕ) → xs ++ back ≡ (xs ++ codes "</p>; ") ++ 125 ∷ []
unfolding back
last-byte xs = sym (append_assoc xs (codes "</p>; ") (125 ∷ []))

closes : (xs ys : List ℕ) → xs ++ back ≡ ys ++ 10 ∷ [] → ⊥
closes xs ys e = let last = same_from_push (xs ++ codes "</p>; ") ys 125 10 (sym (last-byte xs) ∙ e) in absurd (omega (arith, last.1))

line_feed-again : (bytes xs : List ℕ) → (bytes ≡ xs ++ back) ⊎ (bytes ≡ (xs ++ back) ++ 10 ∷ []) → without_line_feed bytes ≡ xs ++ back
line_feed-again bytes xs (inr is) = ap without_line_feed is ∙ ap (λ o. unwrap_or o ((xs ++ back) ++ 10 ∷ [])) (before_back-again (10 ∷ []) (xs ++ back))
line_feed-again bytes xs (inl is) = ap without_line_feed is ∙ at (before_back (10 ∷ []) (xs ++ back)) refl
  where
    at : (o : Option (List ℕ)) → before_back (10 ∷ []) (xs ++ back) ≡ o → unwrap_or o (xs ++ back) ≡ xs ++ back
    at None none = refl
    at (Some ys) some = absurd (closes xs ys (before_back-found (10 ∷ []) (xs ++ back) ys some))

pub small_in-again : (bytes service text : List ℕ) → is_service_name service ≡ true → is_paragraph text ≡ true → IsSpelled bytes service text
    → small_in bytes ≡ Some (service, text)
small_in-again bytes service text name paragraph is =
    let tail : List ℕ = service ++ (middle ++ (text ++ back)) in
    let first : after_front front (without_line_feed bytes) ≡ Some tail =
    ap (λ xs. after_front front xs) (line_feed-again bytes (front ++ service ++ middle ++ text) is ∙ sym (grouped service text)) ∙ after_front-again front tail in
    let parts : parts_in bytes ≡ Some (service, text) =
    ap (λ o. option_and_then named_from o) first ∙ named_from-again service text (service-lacks service name) in
    ap (λ o. option_and_then fitting o) parts ∙ fits
  where
    fits : fitting (service, text) ≡ Some (service, text)
    fits = rw (name, paragraph) refl

pub small-again : (bytes : List ℕ) (small : Small) → IsSmall small → Spells bytes small
    → small_in bytes ≡ Some (encode_utf8_all small.service, encode_utf8_all small.text)
small-again bytes small is spells = small_in-again bytes (encode_utf8_all small.service) (encode_utf8_all small.text) is.service is.text spells

pub small-spelled : (bytes : List ℕ) (small : Small) (service text : List ℕ) → encode_utf8_all small.service ≡ service → encode_utf8_all small.text ≡ text
    → IsSpelled bytes service text → Spells bytes small
small-spelled bytes small service text is_service is_text spells =
    let P : List ℕ → List ℕ → Type 0 = λ s t. IsSpelled bytes s t in
    subst₂ P (sym is_service) (sym is_text) spells

-- the name and the text make the application
abbrev small_with : (service text : List ℕ) → is_service_name (encode_utf8_all service) ≡ true → is_paragraph (encode_utf8_all text) ≡ true → Small
small_with service text service_fits text_fits = record { service = service; text = text; service_fits = service_fits; text_fits = text_fits }

same-parts : (a b : Small) → a.service ≡ b.service → a.text ≡ b.text → a ≡ b
same-parts a b service text =
    let P : List ℕ → Type 0 = λ s. (fits : is_service_name (encode_utf8_all s) ≡ true) → a ≡ small_with s a.text fits a.text_fits in
    let Q : List ℕ → Type 0 = λ t. (fits : is_paragraph (encode_utf8_all t) ≡ true) → small_with b.service a.text b.service_fits a.text_fits ≡ small_with b.service t b.service_fits fits in
    let first = subst P service (λ fits. ap (λ f. small_with a.service a.text f a.text_fits) (Bool-set _ _ a.service_fits fits)) in
    let second = subst Q text (λ fits. ap (λ f. small_with b.service a.text b.service_fits f) (Bool-set _ _ a.text_fits fits)) in
    first b.service_fits ∙ second b.text_fits

pub one-application : (bytes : List ℕ) (a b : Small) → IsSmall a → IsSmall b → Spells bytes a → Spells bytes b → a ≡ b
one-application bytes a b is_a is_b spells_a spells_b =
    let both = some_pair_parts _ _ _ _ (sym (small-again bytes a is_a spells_a) ∙ small-again bytes b is_b spells_b) in
    same-parts a b (encodes_same a.service b.service both.0) (encodes_same a.text b.text both.1)
