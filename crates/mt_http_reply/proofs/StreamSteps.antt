-- What holds of the bytes that were fed, step by step.
use Rattle.std.proofs.Common.{◌≡◌, ◌≤◌, ◌<◌, ◌-◌, ℕ, true, false, nat_eq, List, [], ◌∷◌, ◌++◌, length, take, drop, refl, sym, ap, ◌∙◌, subst, arith, append_assoc, inl, inr}
use Rattle.std.proofs.Math.Seq.{take-append-add, take-length}
use Rattle.std.proofs.lemmas.List.{append-nil, length-append, drop_at, nil_from_length, take-append-le, take_all}
use Rattle.std.proofs.lemmas.Bool.{cases_lt}
use Rattle.std.specs.Cmp.Lexicographic.{pointwise}
use Rattle.std.specs.List.{ends_with}
use Rattle.mt_http_types.specs.Lines.{crlf}
use Rattle.mt_http_types.specs.declared.reply.Reply.{Reply}
use Rattle.mt_http_types.specs.declared.reply.ReplyHead.{ReplyHead}
use Rattle.mt_http_reply.specs.ReplyText.{head_of, head_text, reply_text, IsReply, IsReplyHead}
use Rattle.mt_http_reply.specs.Reading.{ReadsHead, HasNoHead, HasBody, BeginsNoReply, IsNoHead, IsNoReply, IsReplyWith}
use Rattle.mt_http_reply.specs.Stream.{IsMissing, IsPast, IsLost}
use Rattle.mt_http_reply.proofs.Heads.{head_parts, head_ends, head_size, one_head}

-- ---- heads

longer_front : (xs ys us vs : List ℕ) → xs ++ us ≡ ys ++ vs → length ys ≤ length xs → xs ≡ ys ++ drop (length ys) xs
longer_front xs [] us vs same le = refl
longer_front [] (y ∷ ys) us vs same le = absurd (omega arith)
longer_front (x ∷ xs) (y ∷ ys) us vs same le =
    let first : x ≡ y = cc in
    let tail : xs ++ us ≡ ys ++ vs = cc in
    let rest = longer_front xs ys us vs tail (omega arith) in
    ap (λ (l : List ℕ). x ∷ l) rest ∙ ap (λ (h : ℕ). h ∷ (ys ++ drop (length ys) xs)) first

-- a head that is whole in more bytes is whole in these, where it is no longer
within : (fed more : List ℕ) (head : ReplyHead) (rest : List ℕ) → ReadsHead (fed ++ more) head rest → length (head_text head) ≤ length fed
    → ReadsHead fed head (drop (length (head_text head)) fed)
within fed more head rest is short = (is.0, longer_front fed (head_text head) more rest is.1 short)

pub no_head_at_first : HasNoHead []
no_head_at_first head rest is = absurd (let e = is.1 ∙ head_parts head rest in cc)

pub no_head_after : (fed : List ℕ) (byte : ℕ) → HasNoHead fed → IsNoHead (fed ++ byte ∷ []) → HasNoHead (fed ++ byte ∷ [])
no_head_after fed byte before not head rest is =
    elim (cases_lt (length fed) (length (head_text head))) [
      | inl long ↦
          let none : length rest ≡ 0 = omega (arith, ap length is.1, length-append fed (byte ∷ []), length-append (head_text head) rest) in
          not head is.0 (sym (is.1 ∙ ap (λ (l : List ℕ). head_text head ++ l) (nil_from_length rest none) ∙ append-nil (head_text head)))
      | inr short ↦ before head (drop (length (head_text head)) fed) (within fed (byte ∷ []) head rest is short)
    ]

pub none_follows : (fed : List ℕ) → HasNoHead fed → 150 ≤ length fed → IsLost fed
none_follows fed before long more head rest is =
    let short = head_size head is.0 in
    before head (drop (length (head_text head)) fed) (within fed more head rest is (omega arith))

pub lost_more : (fed rest : List ℕ) → IsLost fed → IsLost (fed ++ rest)
lost_more fed rest lost more head behind is = lost (rest ++ more) head behind (is.0, sym (append_assoc fed rest more) ∙ is.1)

pub lost_now : (fed : List ℕ) → IsLost fed → HasNoHead fed
lost_now fed lost head rest is = lost [] head rest (is.0, append-nil fed ∙ is.1)

-- ---- an empty line

abbrev empty_line : List ℕ
empty_line = crlf ++ crlf

pub ends_otherwise : (bytes : List ℕ) → ends_with nat_eq bytes (13 ∷ 10 ∷ 13 ∷ 10 ∷ []) ≡ false → IsNoHead bytes
ends_otherwise bytes other head good is =
    let ends = head_ends head good in
    let front = ends.0 in
    let size : length (front ++ empty_line) - 4 ≡ length front = simp length-append (omega arith) in
    let itself : ends_with nat_eq (front ++ empty_line) empty_line ≡ true =
    ap (λ (n : ℕ). pointwise nat_eq empty_line (drop n (front ++ empty_line))) size ∙ ap (pointwise nat_eq empty_line) (drop_at front empty_line (length front) refl) in
    let same : bytes ≡ front ++ empty_line = sym is ∙ ends.1 in
    let said : ends_with nat_eq bytes empty_line ≡ true = ap (λ (l : List ℕ). ends_with nat_eq l empty_line) same ∙ itself in
    absurd (let both : true ≡ false = sym said ∙ other in cc)

-- ---- bodies

pub no_body : (fed body : List ℕ) → HasNoHead fed → HasBody fed body → body ≡ []
no_body fed body none (inl x) = x.1
no_body fed body none (inr x) = absurd (none x.0 x.1 x.2)

pub body_with : (fed body : List ℕ) (head : ReplyHead) (rest : List ℕ) → ReadsHead fed head rest → HasBody fed body → body ≡ take head.length rest
body_with fed body head rest is (inl x) = absurd (x.0 head rest is)
body_with fed body head rest is (inr x) =
    let same = one_head x.0 head x.1 rest x.2.0 is.0 (sym x.2.1 ∙ is.1) in
    x.3 ∙ ap (λ (h : ReplyHead). take h.length x.1) same.0 ∙ ap (take head.length) same.1

pub nothing_of_it : (fed : List ℕ) → HasNoHead fed → HasBody fed []
nothing_of_it fed none = inl (none, refl)

pub much_of_it : (fed body : List ℕ) (head : ReplyHead) (rest : List ℕ) → ReadsHead fed head rest → body ≡ take head.length rest → HasBody fed body
much_of_it fed body head rest is e = inr (head, rest, is, e)

pub reads_more : (fed more : List ℕ) (head : ReplyHead) (rest : List ℕ) → ReadsHead fed head rest → ReadsHead (fed ++ more) head (rest ++ more)
reads_more fed more head rest is = (is.0, ap (λ (l : List ℕ). l ++ more) is.1 ∙ append_assoc (head_text head) rest more)

-- the head is over with these bytes
pub head_over : (fed : List ℕ) (head : ReplyHead) → IsReplyHead head → head_text head ≡ fed → ReadsHead fed head []
head_over fed head good is = (good, sym is ∙ sym (append-nil (head_text head)))

pub missing_at_first : (fed : List ℕ) (head : ReplyHead) → IsReplyHead head → head_text head ≡ fed → IsMissing head head.length fed
missing_at_first fed head good is = ([], head_over fed head good is, omega arith)

-- some of the body comes
pub missing_less : (fed rest : List ℕ) (head : ReplyHead) (missing : ℕ) → length rest ≤ missing → IsMissing head missing fed → IsMissing head (missing - length rest) (fed ++ rest)
missing_less fed rest head missing le is =
    (is.0 ++ rest, reads_more fed rest head is.0 is.1, (let whole = is.2 in simp length-append (omega arith)))

pub body_grows : (fed rest body : List ℕ) (head : ReplyHead) (missing : ℕ) → length rest ≤ missing → IsMissing head missing fed → HasBody fed body → HasBody (fed ++ rest) (body ++ take (length rest) rest)
body_grows fed rest body head missing le is has =
    let whole = is.2 in
    let now : body ≡ is.0 = body_with fed body head is.0 is.1 has ∙ take_all head.length is.0 (omega arith) in
    let fits : length (is.0 ++ rest) ≤ head.length = simp length-append (omega arith) in
    much_of_it (fed ++ rest) (body ++ take (length rest) rest) head (is.0 ++ rest) (reads_more fed rest head is.0 is.1)
    (ap (λ (l : List ℕ). l ++ take (length rest) rest) now ∙ ap (λ (l : List ℕ). is.0 ++ l) (take-length rest) ∙ sym (take_all head.length (is.0 ++ rest) fits))

-- more than the body comes
pub past_more : (fed rest : List ℕ) (head : ReplyHead) (missing : ℕ) → missing < length rest → IsMissing head missing fed → IsPast head (fed ++ rest)
past_more fed rest head missing lt is =
    (is.0 ++ rest, reads_more fed rest head is.0 is.1, (let whole = is.2 in simp length-append (omega arith)))

pub body_ends : (fed rest body : List ℕ) (head : ReplyHead) (missing : ℕ) → IsMissing head missing fed → HasBody fed body → HasBody (fed ++ rest) (body ++ take missing rest)
body_ends fed rest body head missing is has =
    let whole = is.2 in
    let now : body ≡ is.0 = body_with fed body head is.0 is.1 has ∙ take_all head.length is.0 (omega arith) in
    much_of_it (fed ++ rest) (body ++ take missing rest) head (is.0 ++ rest) (reads_more fed rest head is.0 is.1)
    (ap (λ (l : List ℕ). l ++ take missing rest) now ∙ sym (take-append-add is.0 rest missing) ∙ ap (λ (n : ℕ). take n (is.0 ++ rest)) whole)

-- the body was there before
pub past_again : (fed rest : List ℕ) (head : ReplyHead) → IsPast head fed → IsPast head (fed ++ rest)
past_again fed rest head is =
    (is.0 ++ rest, reads_more fed rest head is.0 is.1, (let longer = is.2 in simp length-append (omega arith)))

pub body_stays : (fed rest body : List ℕ) (head : ReplyHead) → IsPast head fed → HasBody fed body → HasBody (fed ++ rest) (body ++ [])
body_stays fed rest body head is has =
    let longer = is.2 in
    much_of_it (fed ++ rest) (body ++ []) head (is.0 ++ rest) (reads_more fed rest head is.0 is.1)
    (append-nil body ∙ body_with fed body head is.0 is.1 has ∙ sym (take-append-le head.length is.0 rest (omega arith)))

-- there is none
pub body_never : (fed rest body : List ℕ) → IsLost fed → HasBody fed body → HasBody (fed ++ rest) (body ++ [])
body_never fed rest body lost has =
    let none = lost_now (fed ++ rest) (lost_more fed rest lost) in
    inl (none, append-nil body ∙ no_body fed body (lost_now fed lost) has)

-- ---- whole replies

text_reads : (fed more : List ℕ) (reply : Reply) → IsReply reply → reply_text reply ≡ fed ++ more → ReadsHead (fed ++ more) (head_of reply) reply.body
text_reads fed more reply good is = (good, sym is)

pub past_is_none : (fed : List ℕ) (head : ReplyHead) → IsPast head fed → BeginsNoReply fed
past_is_none fed head is reply more good text =
    let same = one_head (head_of reply) head reply.body (is.0 ++ more) good is.1.0 (text ∙ (reads_more fed more head is.0 is.1).1) in
    let longer = is.2 in
    let sizes : length reply.body ≡ length (is.0 ++ more) = ap length same.1 in
    let counts : length reply.body ≡ head.length = ap (λ (h : ReplyHead). h.length) same.0 in
    absurd (let both = simp length-append at sizes in omega arith)

pub lost_is_none : (fed : List ℕ) → IsLost fed → BeginsNoReply fed
lost_is_none fed lost reply more good text = lost more (head_of reply) reply.body (good, sym text)

pub no_head_is_none : (fed : List ℕ) → HasNoHead fed → IsNoReply fed
no_head_is_none fed none reply good text = none (head_of reply) reply.body (good, sym text)

pub begins_is_none : (fed : List ℕ) → BeginsNoReply fed → IsNoReply fed
begins_is_none fed none reply good text = none reply [] good (text ∙ sym (append-nil fed))

pub missing_is_none : (fed : List ℕ) (head : ReplyHead) (missing : ℕ) → 0 < missing → IsMissing head missing fed → IsNoReply fed
missing_is_none fed head missing some is reply good text =
    let same = one_head (head_of reply) head reply.body is.0 good is.1.0 (text ∙ is.1.1) in
    let whole = is.2 in
    let sizes : length reply.body ≡ length is.0 = ap length same.1 in
    let counts : length reply.body ≡ head.length = ap (λ (h : ReplyHead). h.length) same.0 in
    absurd (omega arith)

pub whole_is_reply : (fed : List ℕ) (head : ReplyHead) → IsMissing head 0 fed → IsReplyWith fed head
whole_is_reply fed head is =
    let size : length is.0 ≡ head.length = omega (arith, is.2) in
    let reply : Reply = record { status = head.status; content = head.content; body = is.0 } in
    let same : head_of reply ≡ head = ap (λ (n : ℕ). record { status = head.status; content = head.content; length = n }) size in
    (reply, subst IsReplyHead (sym same) is.1.0, ap (λ (h : ReplyHead). head_text h ++ is.0) same ∙ sym is.1.1, same)

pub reader_found : (fed body : List ℕ) (head : ReplyHead) → IsReplyWith fed head → HasBody fed body
    → (let reply : Reply = record { status = head.status; content = head.content; body = body } in IsReply reply × (reply_text reply ≡ fed))
reader_found fed body head is has =
    let found = is.0 in
    let reads : ReadsHead fed head found.body = (subst IsReplyHead is.3 is.1, sym is.2 ∙ ap (λ (h : ReplyHead). head_text h ++ found.body) is.3) in
    let size : length found.body ≡ head.length = ap (λ (h : ReplyHead). h.length) is.3 in
    let now : body ≡ found.body = body_with fed body head found.body reads has ∙ take_all head.length found.body (omega arith) in
    let whole : found ≡ record { status = head.status; content = head.content; body = body } =
    ap (λ (h : ReplyHead). record { status = h.status; content = h.content; body = found.body }) is.3
    ∙ ap (λ (l : List ℕ). record { status = head.status; content = head.content; body = l }) (sym now) in
    subst (λ (r : Reply). IsReply r × (reply_text r ≡ fed)) whole (is.1, is.2)
