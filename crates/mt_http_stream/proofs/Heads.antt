-- A whole head at the front of bytes, as they grow.
use Rattle.std.proofs.Common.{◌≡◌, ◌≤◌, ◌+◌, ℕ, Bool, true, false, List, [], ◌∷◌, ◌++◌, length, take, drop, Some, None, refl, sym, ap, ◌∙◌, subst, arith, append_assoc, inl, inr}
use Rattle.std.proofs.lemmas.Bool.{and_parts, cases_lt}
use Rattle.std.specs.List.{list_all}
use Rattle.std.proofs.lemmas.List.{append-nil, length-append, nil_from_length, take-append-le, take-append-drop, take_at}
use Rattle.httparse.specs.Grammar.{RequestHead, ReadsRequest, HasNoRequest, NeverHasRequest, print_blank, print_end, print_request, print_section, print_version}
use Rattle.httparse.proofs.GrammarLemmas.{ReadsRequest-append, print_request-append, request_unique}
use Rattle.mt_http_head.proofs.Deciding.{fields_fit}
use Rattle.mt_http_stream.specs.Progress.{ends_line}
use Rattle.mt_http_stream.specs.Settling.{Found, IsFound, IsNoHead, head_limit}

-- a head that is whole in more bytes is whole in these, where it is no longer
pub cut_head : (fed more : List ℕ) (head : RequestHead) (rest : List ℕ) → ReadsRequest (fed ++ more) head rest → length (print_request head) ≤ length fed
    → ReadsRequest fed head (drop (length (print_request head)) fed)
cut_head fed more head rest is short =
    let size = length (print_request head) in
    let front : take size fed ≡ print_request head =
    sym (take-append-le size fed more short) ∙ ap (take size) is.1 ∙ take_at (print_request head) rest size refl in
    (is.0, sym (take-append-drop size fed) ∙ ap (λ (l : List ℕ). l ++ drop size fed) front)

-- what comes with the byte that ends a head
pub whole_head : (fed : List ℕ) (byte : ℕ) (head : RequestHead) (rest : List ℕ) → HasNoRequest fed → ReadsRequest (fed ++ byte ∷ []) head rest
    → (rest ≡ []) × (length (print_request head) ≡ length fed + 1)
whole_head fed byte head rest none is =
    let sizes = ap length is.1 in
    let a = length-append fed (byte ∷ []) in
    let b = length-append (print_request head) rest in
    elim (cases_lt (length fed) (length (print_request head))) [
      | inl long ↦ (nil_from_length rest (omega (arith, sizes, a, b, long)), omega (arith, sizes, a, b, long))
      | inr short ↦ absurd (none head (drop (length (print_request head)) fed) (cut_head fed (byte ∷ []) head rest is short))
    ]

pub none_after : (fed : List ℕ) (byte : ℕ) → HasNoRequest fed → IsNoHead (fed ++ byte ∷ []) → HasNoRequest (fed ++ byte ∷ [])
none_after fed byte before not head rest is =
    let whole = whole_head fed byte head rest before is in
    not head (subst (λ (r : List ℕ). ReadsRequest (fed ++ byte ∷ []) head r) whole.0 is)

pub none_at_first : HasNoRequest []
none_at_first head rest is =
    let sizes = ap length is.1 in
    let a = length-append (print_request head) rest in
    let b = fields_fit head in
    omega (arith, sizes, a, b)

-- ---- before the request line

behind_all : (test : ℕ → Bool) (front rest : List ℕ) → list_all test (front ++ rest) ≡ true → list_all test rest ≡ true
behind_all test [] rest all = all
behind_all test (b ∷ front) rest all = behind_all test front rest (and_parts (test b) (list_all test (front ++ rest)) all).1

-- a head has a space
pub none_in_line_ends : (fed : List ℕ) → list_all ends_line fed ≡ true → HasNoRequest fed
none_in_line_ends fed all head rest is =
    let version = print_version head.minor ++ (print_end head.line_end ++ (print_section head.fields head.last ++ rest)) in
    let target = head.target ++ 32 ∷ version in
    let whole : fed ≡ print_blank head.blank ++ (head.method ++ 32 ∷ target) = is.1 ∙ print_request-append head rest in
    let spread : list_all ends_line (print_blank head.blank ++ (head.method ++ 32 ∷ target)) ≡ true = sym (ap (list_all ends_line) whole) ∙ all in
    let space : list_all ends_line (32 ∷ target) ≡ true = behind_all ends_line head.method (32 ∷ target) (behind_all ends_line (print_blank head.blank) (head.method ++ 32 ∷ target) spread) in
    let no : false ≡ true = space in
    absurd cc

pub none_now : (fed : List ℕ) → NeverHasRequest fed → HasNoRequest fed
none_now fed never = subst HasNoRequest (append-nil fed) (never [])

pub never_after : (fed more : List ℕ) → NeverHasRequest fed → NeverHasRequest (fed ++ more)
never_after fed more never later head rest is = never (more ++ later) head rest (is.0, sym (append_assoc fed more later) ∙ is.1)

-- none is found where none is whole
pub none_found : (fed : List ℕ) → HasNoRequest fed → IsFound fed None
none_found fed none head rest is = absurd (none head rest is)

pub found_once : (bytes : List ℕ) (a b : Found) → IsFound bytes a → IsFound bytes b → a ≡ b
found_once bytes None None first second = refl
found_once bytes None (Some q) first second = absurd (let long = first q.0 q.1 second.0 in let short = second.1 in omega (arith, long, short))
found_once bytes (Some p) None first second = absurd (let long = second p.0 p.1 first.0 in let short = first.1 in omega (arith, long, short))
found_once bytes (Some p) (Some q) first second =
    let same = request_unique bytes p.0 q.0 p.1 q.1 first.0 second.0 in
    λ i. Some (same.0 i, same.1 i)

-- the same head is found in more bytes
pub found_more : (bytes more : List ℕ) (head : RequestHead) (rest : List ℕ) → IsFound bytes (Some (head, rest)) → IsFound (bytes ++ more) (Some (head, rest ++ more))
found_more bytes more head rest found = (ReadsRequest-append bytes head rest more found.0, found.1)

-- none is found in more bytes, where none is in so many
pub none_more : (bytes more : List ℕ) → head_limit ≤ length bytes → IsFound bytes None → IsFound (bytes ++ more) None
none_more bytes more many none head rest is =
    elim (cases_lt head_limit (length (print_request head))) [
      | inl long ↦ long
      | inr short ↦
          let cut = cut_head bytes more head rest is (omega (arith, short, many)) in
          none head (drop (length (print_request head)) bytes) cut
    ]
