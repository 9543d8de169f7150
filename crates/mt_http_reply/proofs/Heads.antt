-- Heads of replies: no two have one text, none is a proper prefix of another, and each is short and ends in an empty line.
use Rattle.std.proofs.Common.{◌≡◌, ◌≤◌, ◌<◌, ◌+◌, ◌-◌, ◌^◌, ℕ, true, List, ◌∷◌, ◌++◌, length, take, drop, get_or, decimal, refl, sym, ap, ◌∙◌, subst, arith, append_assoc, codes}
use Rattle.std.proofs.lemmas.Bool.{eqb-true}
use Rattle.std.proofs.lemmas.Fmt.{length-decimal-le}
use Rattle.std.proofs.lemmas.List.{append_cancel_left, length-append}
use Rattle.mt_http_types.specs.declared.reply.Content.{Content}
use Rattle.mt_http_types.specs.declared.reply.Content.TheVariants.{Html, Json, Plain}
use Rattle.mt_http_types.specs.declared.reply.ReplyHead.{ReplyHead}
use Rattle.mt_http_types.specs.Lines.{crlf}
use Rattle.mt_http_types.proofs.Runs.{same_number}
use Rattle.mt_http_reply.specs.ReplyText.{failure_statuses, is_status_of, phrase, media_type, head_start, head_end, head_text, IsReplyHead}
use Rattle.mt_http_reply.proofs.Phrases.{of_each, phrase_is_known}

-- ---- one head

abbrev pub type_start : List ℕ
type_start = codes "Content-Type: "

abbrev pub length_start : List ℕ
length_start = codes "Content-Length: "

-- what stands behind the status of a head
abbrev behind_status : ℕ → Content → List ℕ → List ℕ
behind_status status content more = phrase status ++ (crlf ++ (type_start ++ (media_type content ++ (crlf ++ (length_start ++ more)))))

start_parts : (status : ℕ) (content : Content) (more : List ℕ)
    → head_start status content ++ more ≡ codes "HTTP/1.1 " ++ (decimal status ++ 32 ∷ behind_status status content more)
unfolding head_start
start_parts status content more = simp append_assoc

-- what stands behind the length of a head
abbrev pub behind_length : ℕ → List ℕ → List ℕ
behind_length status more = drop 1 (head_end status) ++ more

end_parts : (status : ℕ) (more : List ℕ) → head_end status ++ more ≡ 13 ∷ behind_length status more
unfolding head_end
end_parts status more = refl

abbrev pub behind_type : ReplyHead → List ℕ → List ℕ
behind_type head more = crlf ++ (length_start ++ (decimal head.length ++ 13 ∷ behind_length head.status more))

pub head_parts : (head : ReplyHead) (more : List ℕ)
    → head_text head ++ more ≡ codes "HTTP/1.1 " ++ (decimal head.status ++ 32 ∷ (phrase head.status ++ (crlf ++ (type_start ++ (media_type head.content ++ behind_type head more)))))
head_parts head more =
    append_assoc (head_start head.status head.content) (decimal head.length ++ head_end head.status) more
    ∙ ap (λ (l : List ℕ). head_start head.status head.content ++ l) (append_assoc (decimal head.length) (head_end head.status) more ∙ ap (λ (l : List ℕ). decimal head.length ++ l) (end_parts head.status more))
    ∙ start_parts head.status head.content (decimal head.length ++ 13 ∷ behind_length head.status more)

-- no two of the types begin alike
same_type : (a b : Content) (us vs : List ℕ) → media_type a ++ us ≡ media_type b ++ vs → (a ≡ b) × (us ≡ vs)
same_type Html Html us vs same = (refl, append_cancel_left (media_type Html) us vs same)
same_type Json Json us vs same = (refl, append_cancel_left (media_type Json) us vs same)
same_type Plain Plain us vs same = (refl, append_cancel_left (media_type Plain) us vs same)
same_type Html Json us vs same = absurd (let e : 116 ≡ 97 = ap (λ (l : List ℕ). get_or l 0 0) same in omega arith)
same_type Json Html us vs same = absurd (let e : 97 ≡ 116 = ap (λ (l : List ℕ). get_or l 0 0) same in omega arith)
same_type Plain Json us vs same = absurd (let e : 116 ≡ 97 = ap (λ (l : List ℕ). get_or l 0 0) same in omega arith)
same_type Json Plain us vs same = absurd (let e : 97 ≡ 116 = ap (λ (l : List ℕ). get_or l 0 0) same in omega arith)
same_type Html Plain us vs same = absurd (let e : 104 ≡ 112 = ap (λ (l : List ℕ). get_or l 5 0) same in omega arith)
same_type Plain Html us vs same = absurd (let e : 112 ≡ 104 = ap (λ (l : List ℕ). get_or l 5 0) same in omega arith)

same_type_and_length : (status : ℕ) (a b : Content) (m n : ℕ) (us vs : List ℕ) → m < 2 ^ 64 → n < 2 ^ 64
    → media_type a ++ (crlf ++ (length_start ++ (decimal m ++ 13 ∷ behind_length status us))) ≡ media_type b ++ (crlf ++ (length_start ++ (decimal n ++ 13 ∷ behind_length status vs)))
    → (a ≡ b) × (m ≡ n) × (us ≡ vs)
same_type_and_length status a b m n us vs small_m small_n same =
    let kinds = same_type a b _ _ same in
    let digits = append_cancel_left (crlf ++ length_start) (decimal m ++ 13 ∷ behind_length status us) (decimal n ++ 13 ∷ behind_length status vs) kinds.1 in
    let numbers = same_number 13 refl m n (behind_length status us) (behind_length status vs) small_m small_n digits in
    (kinds.0, numbers.0, append_cancel_left (drop 1 (head_end status)) us vs numbers.1)

pub one_head : (a b : ReplyHead) (us vs : List ℕ) → IsReplyHead a → IsReplyHead b → head_text a ++ us ≡ head_text b ++ vs → (a ≡ b) × (us ≡ vs)
one_head a b us vs first second same =
    let known_a = phrase_is_known a.content a.status first.status in
    let known_b = phrase_is_known b.content b.status second.status in
    let whole = sym (head_parts a us) ∙ same ∙ head_parts b vs in
    let statuses = same_number 32 refl a.status b.status _ _ (omega arith) (omega arith) (append_cancel_left (codes "HTTP/1.1 ") _ _ whole) in
    let rest : phrase a.status ++ (crlf ++ (type_start ++ (media_type a.content ++ (crlf ++ (length_start ++ (decimal a.length ++ 13 ∷ behind_length a.status us))))))
    ≡ phrase a.status ++ (crlf ++ (type_start ++ (media_type b.content ++ (crlf ++ (length_start ++ (decimal b.length ++ 13 ∷ behind_length a.status vs)))))) =
    statuses.1 ∙ ap (λ (s : ℕ). phrase s ++ (crlf ++ (type_start ++ (media_type b.content ++ (crlf ++ (length_start ++ (decimal b.length ++ 13 ∷ behind_length s vs))))))) (sym statuses.0) in
    let types = append_cancel_left (crlf ++ type_start) _ _ (append_cancel_left (phrase a.status) _ _ rest) in
    let parts = same_type_and_length a.status a.content b.content a.length b.length us vs (omega (arith, first.length)) (omega (arith, second.length)) types in
    let with : ℕ → Content → ℕ → ReplyHead = λ s c n. record { status = s; content = c; length = n } in (
      ap (λ (s : ℕ). with s a.content a.length) statuses.0 ∙ ap (λ (c : Content). with b.status c a.length) parts.0 ∙ ap (λ (n : ℕ). with b.status b.content n) parts.1,
      parts.2,
    )

-- ---- how long a head is

abbrev IsShortWith : ℕ → Type 0
IsShortWith status = length (phrase status) + length (head_end status) ≤ 60

short_with : (content : Content) (status : ℕ) → is_status_of content status ≡ true → IsShortWith status
unfolding head_end
short_with Html status e = subst IsShortWith (sym (eqb-true status 200 e)) (omega arith)
short_with Json status e = subst IsShortWith (sym (eqb-true status 200 e)) (omega arith)
short_with Plain status e =
    of_each IsShortWith failure_statuses status
    (omega arith, (omega arith, (omega arith, (omega arith, (omega arith, (omega arith, (omega arith, (omega arith, tt)))))))) e

short_type : (content : Content) → length (media_type content) ≤ 25
short_type Html = omega arith
short_type Json = omega arith
short_type Plain = omega arith

start_size : (status : ℕ) (content : Content) → length (head_start status content) ≡ length (decimal status) + length (phrase status) + length (media_type content) + 44
unfolding head_start
start_size status content = simp length-append (omega arith)

pub head_size : (head : ReplyHead) → IsReplyHead head → length (head_text head) ≤ 150
head_size head good =
    let known = phrase_is_known head.content head.status good.status in
    let short = short_with head.content head.status good.status in
    let kind = short_type head.content in
    let start = start_size head.status head.content in
    let code = length-decimal-le 3 head.status (omega arith) (omega arith) (omega arith) in
    let digits = length-decimal-le 7 head.length (omega arith) (omega (arith, good.length)) (omega (arith, good.length)) in
    let whole : length (head_text head) ≡ length (head_start head.status head.content) + (length (decimal head.length) + length (head_end head.status)) =
    length-append (head_start head.status head.content) (decimal head.length ++ head_end head.status)
    ∙ ap (λ (n : ℕ). length (head_start head.status head.content) + n) (length-append (decimal head.length) (head_end head.status)) in
    omega arith

-- ---- a head ends in an empty line

abbrev before_end : ℕ → List ℕ
before_end status = take (length (head_end status) - 4) (head_end status)

ends_with_status : (content : Content) (status : ℕ) → is_status_of content status ≡ true → head_end status ≡ before_end status ++ (crlf ++ crlf)
unfolding head_end
ends_with_status Html status e = subst (λ s. head_end s ≡ before_end s ++ (crlf ++ crlf)) (sym (eqb-true status 200 e)) refl
ends_with_status Json status e = subst (λ s. head_end s ≡ before_end s ++ (crlf ++ crlf)) (sym (eqb-true status 200 e)) refl
ends_with_status Plain status e =
    of_each (λ s. head_end s ≡ before_end s ++ (crlf ++ crlf)) failure_statuses status
    (refl, (refl, (refl, (refl, (refl, (refl, (refl, (refl, tt)))))))) e

pub head_ends : (head : ReplyHead) → IsReplyHead head → (front : List ℕ) × (head_text head ≡ front ++ (crlf ++ crlf))
head_ends head good =
    let start = head_start head.status head.content in
    let digits = decimal head.length in
    let last = ends_with_status head.content head.status good.status in (
      start ++ (digits ++ before_end head.status),
      ap (λ (l : List ℕ). start ++ (digits ++ l)) last ∙ simp append_assoc,
    )
