-- No two requests have one text, and none's text is a proper prefix of another's.
use Rattle.std.proofs.Common.{◌≡◌, ◌≤◌, ◌<◌, ◌+◌, ◌/◌, ◌%◌, ◌^◌, ℕ, Bool, true, false, ◌==◌, ◌&&◌, nat_le, ltb, List, [], ◌∷◌, ◌++◌, length, take, drop, get_or, decimal, codes, encode_utf8_all, All, refl, sym, ap, ◌∙◌, subst, arith, append_assoc}
use lib.Utf8.{encode, scalar}
use Rattle.std.proofs.lemmas.Bool.{and_parts, and_from, cond_both, eqb-true, ltb-true}
use Rattle.std.proofs.lemmas.Bool.Decides.{nat_tests}
use Rattle.std.proofs.lemmas.List.{append_cancel_left, append-nil, take_at, drop_at}
use Rattle.std.proofs.lemmas.List.Elements.{All-nil, All-cons, All-append}
use Rattle.std.proofs.lemmas.Str.{encodes_same}
use Rattle.std.specs.List.{list_all}
use Rattle.std.specs.Str.{all_scalars}
use Rattle.percent_encoding.specs.Percent.{percent_decode}
use Rattle.percent_encoding.proofs.PercentLemmas.{IsByte}
use Rattle.mt_tree.specs.declared.data.Data.{Data}
use Rattle.mt_syntax.specs.Data.{is_data}
use Rattle.mt_syntax.specs.DataText.{arguments_text}
use Rattle.mt_json.proofs.Arguments.{one_list_text}
use Rattle.mt_http_types.specs.Target.{is_target, is_target_byte}
use Rattle.mt_http_types.specs.declared.request.Call.{Call}
use Rattle.mt_http_types.specs.declared.request.Request.{Request}
use Rattle.mt_http_types.specs.declared.request.Request.TheVariants.{Load, Post}
use Rattle.mt_http_types.specs.declared.target.Target.{Target}
use Rattle.mt_http_types.proofs.Runs.{same_run, same_number}
use Rattle.mt_http_request.specs.Escapes.{escaped}
use Rattle.mt_http_request.specs.RequestText.{load_end, load_text, post_middle, post_end, post_head, post_text, request_text, IsCall, IsRequest}
use Rattle.mt_http_request.proofs.Escaping.{escaped_bytes, is_escaped_byte, read_again}

-- ---- loads

target_bytes : (target : List ℕ) → is_target target ≡ true → list_all is_target_byte target ≡ true
target_bytes [] e = refl
target_bytes (b ∷ bs) e =
    let first = and_parts (b == 47) (nat_le (length bs) 8191 && list_all is_target_byte bs) e in
    let rest = and_parts (nat_le (length bs) 8191) (list_all is_target_byte bs) first.1 in
    let slash : is_target_byte b ≡ true = ap is_target_byte (eqb-true b 47 first.0) in
    and_from (is_target_byte b) (list_all is_target_byte bs) slash rest.1

load_starts : (more : List ℕ) → load_end ++ more ≡ 32 ∷ (drop 1 load_end ++ more)
unfolding load_end
load_starts more = refl

load_parts : (target more : List ℕ) → load_text target ++ more ≡ codes "GET " ++ (target ++ 32 ∷ (drop 1 load_end ++ more))
load_parts target more =
    append_assoc (codes "GET ") (target ++ load_end) more
    ∙ ap (λ (l : List ℕ). codes "GET " ++ l) (append_assoc target load_end more)
    ∙ ap (λ (l : List ℕ). codes "GET " ++ (target ++ l)) (load_starts more)

same_load : (a b us vs : List ℕ) → is_target a ≡ true → is_target b ≡ true → load_text a ++ us ≡ load_text b ++ vs → (a ≡ b) × (us ≡ vs)
same_load a b us vs first second same =
    let behind = append_cancel_left (codes "GET ") _ _ (sym (load_parts a us) ∙ same ∙ load_parts b vs) in
    let parts = same_run is_target_byte 32 refl a b (drop 1 load_end ++ us) (drop 1 load_end ++ vs) (target_bytes a first) (target_bytes b second) behind in
    (parts.0, append_cancel_left (drop 1 load_end) us vs parts.1)

-- ---- calls

middle_starts : (more : List ℕ) → post_middle ++ more ≡ 32 ∷ (drop 1 post_middle ++ more)
unfolding post_middle
middle_starts more = refl

end_starts : (more : List ℕ) → post_end ++ more ≡ 13 ∷ (drop 1 post_end ++ more)
unfolding post_end
end_starts more = refl

abbrev behind_size : List ℕ → List ℕ
behind_size more = drop 1 post_end ++ more

abbrev behind_path : ℕ → List ℕ → List ℕ
behind_path size more = drop 1 post_middle ++ (decimal size ++ 13 ∷ behind_size more)

post_parts : (service : List ℕ) (size : ℕ) (more : List ℕ)
    → post_head service size ++ more ≡ codes "POST /hop/" ++ (escaped (encode_utf8_all service) ++ 32 ∷ behind_path size more)
post_parts service size more =
    let flat : post_head service size ++ more ≡ codes "POST /hop/" ++ (escaped (encode_utf8_all service) ++ (post_middle ++ (decimal size ++ (post_end ++ more)))) = simp append_assoc in
    flat
    ∙ ap (λ (l : List ℕ). codes "POST /hop/" ++ (escaped (encode_utf8_all service) ++ (post_middle ++ (decimal size ++ l)))) (end_starts more)
    ∙ ap (λ (l : List ℕ). codes "POST /hop/" ++ (escaped (encode_utf8_all service) ++ l)) (middle_starts (decimal size ++ 13 ∷ behind_size more))

-- ---- the bytes of characters are bytes

one_byte : (x : ℕ) → x < 256 → (xs : List ℕ) → All IsByte xs → All IsByte (x ∷ xs)
one_byte x small xs rest = All-cons IsByte x xs small rest

small_character : (c : ℕ) → c < 1114112 → All IsByte (encode c)
unfolding encode
small_character c low =
    cond_both (ltb c 128) _ _ (All IsByte)
    (λ e. let small = ltb-true c 128 e in one_byte c (omega arith) [] (All-nil IsByte))
    (λ e. cond_both (ltb c 2048) _ _ (All IsByte)
    (λ f. let small = ltb-true c 2048 f in
    one_byte (192 + c / 64) (omega arith) ((128 + c % 64) ∷ []) (one_byte (128 + c % 64) (omega arith) [] (All-nil IsByte)))
    (λ f. cond_both (ltb c 65536) _ _ (All IsByte)
    (λ g. let small = ltb-true c 65536 g in
    one_byte (224 + c / 4096) (omega arith) ((128 + c / 64 % 64) ∷ (128 + c % 64) ∷ [])
    (one_byte (128 + c / 64 % 64) (omega arith) ((128 + c % 64) ∷ []) (one_byte (128 + c % 64) (omega arith) [] (All-nil IsByte))))
    (λ g.
    one_byte (240 + c / 262144) (omega arith) ((128 + c / 4096 % 64) ∷ (128 + c / 64 % 64) ∷ (128 + c % 64) ∷ [])
    (one_byte (128 + c / 4096 % 64) (omega arith) ((128 + c / 64 % 64) ∷ (128 + c % 64) ∷ [])
    (one_byte (128 + c / 64 % 64) (omega arith) ((128 + c % 64) ∷ []) (one_byte (128 + c % 64) (omega arith) [] (All-nil IsByte)))))))

scalar_small : (c : ℕ) → scalar c ≡ true → c < 1114112
scalar_small c e = grind (arith, nat_tests)

pub small_bytes : (cs : List ℕ) → all_scalars cs ≡ true → All IsByte (encode_utf8_all cs)
small_bytes [] e = All-nil IsByte
small_bytes (c ∷ cs) e =
    let both = and_parts (scalar c) (all_scalars cs) e in
    All-append IsByte (encode c) (encode_utf8_all cs) (small_character c (scalar_small c both.0)) (small_bytes cs both.1)

same_service : (a b : List ℕ) → all_scalars a ≡ true → all_scalars b ≡ true → escaped (encode_utf8_all a) ≡ escaped (encode_utf8_all b) → a ≡ b
same_service a b first second same =
    encodes_same a b (sym (read_again (encode_utf8_all a) (small_bytes a first)) ∙ ap percent_decode same ∙ read_again (encode_utf8_all b) (small_bytes b second))

-- two lists of one length, each with something behind it
same_front : (xs ys us vs : List ℕ) → length xs ≡ length ys → xs ++ us ≡ ys ++ vs → (xs ≡ ys) × (us ≡ vs)
same_front xs ys us vs sizes same = (
  sym (take_at xs us (length xs) refl) ∙ ap (take (length xs)) same ∙ take_at ys vs (length xs) (sym sizes),
  sym (drop_at xs us (length xs) refl) ∙ ap (drop (length xs)) same ∙ drop_at ys vs (length xs) (sym sizes),
)

same_head : (a b : List ℕ) (m n : ℕ) (us vs : List ℕ) → all_scalars a ≡ true → all_scalars b ≡ true → m < 2 ^ 64 → n < 2 ^ 64
    → post_head a m ++ us ≡ post_head b n ++ vs → (a ≡ b) × (m ≡ n) × (us ≡ vs)
same_head a b m n us vs first second small_m small_n same =
    let behind = append_cancel_left (codes "POST /hop/") _ _ (sym (post_parts a m us) ∙ same ∙ post_parts b n vs) in
    let paths = same_run is_escaped_byte 32 refl (escaped (encode_utf8_all a)) (escaped (encode_utf8_all b)) (behind_path m us) (behind_path n vs)
    (escaped_bytes (encode_utf8_all a)) (escaped_bytes (encode_utf8_all b)) behind in
    let digits = append_cancel_left (drop 1 post_middle) (decimal m ++ 13 ∷ behind_size us) (decimal n ++ 13 ∷ behind_size vs) paths.1 in
    let sizes = same_number 13 refl m n (behind_size us) (behind_size vs) small_m small_n digits in
    (same_service a b first second paths.0, sizes.0, append_cancel_left (drop 1 post_end) us vs sizes.1)

same_post : (a b : Call) (us vs : List ℕ) → IsCall a → IsCall b → post_text a.service a.arguments ++ us ≡ post_text b.service b.arguments ++ vs → (a ≡ b) × (us ≡ vs)
same_post a b us vs first second same =
    let text_a = arguments_text a.arguments in
    let text_b = arguments_text b.arguments in
    let whole = sym (append_assoc (post_head a.service (length text_a)) text_a us) ∙ same ∙ append_assoc (post_head b.service (length text_b)) text_b vs in
    let heads = same_head a.service b.service (length text_a) (length text_b) (text_a ++ us) (text_b ++ vs) first.service second.service (omega (arith, first.size)) (omega (arith, second.size)) whole in
    let bodies = same_front text_a text_b us vs heads.1 heads.2 in
    let arguments = one_list_text a.arguments b.arguments first.arguments second.arguments bodies.0 in (
      ap (λ (s : List ℕ). record { service = s; arguments = a.arguments }) heads.0 ∙ ap (λ (ds : List Data). record { service = b.service; arguments = ds }) arguments,
      bodies.1,
    )

-- ---- requests

same_target : (a b : Target) → encode_utf8_all a.0 ≡ encode_utf8_all b.0 → a ≡ b
same_target a b same = ap (λ (cs : List ℕ). record { 0 = cs }) (encodes_same a.0 b.0 same)

pub same_request : (a b : Request) (us vs : List ℕ) → IsRequest a → IsRequest b → request_text a ++ us ≡ request_text b ++ vs → (a ≡ b) × (us ≡ vs)
same_request (Load a) (Load b) us vs first second same =
    let parts = same_load (encode_utf8_all a.0) (encode_utf8_all b.0) us vs first second same in
    (ap Load (same_target a b parts.0), parts.1)
same_request (Post a) (Post b) us vs first second same = let parts = same_post a b us vs first second same in (ap Post parts.0, parts.1)
same_request (Load a) (Post b) us vs first second same = absurd (let e : 71 ≡ 80 = ap (λ (l : List ℕ). get_or l 0 0) same in omega arith)
same_request (Post a) (Load b) us vs first second same = absurd (let e : 80 ≡ 71 = ap (λ (l : List ℕ). get_or l 0 0) same in omega arith)

pub one_text : (a b : Request) (more : List ℕ) → IsRequest a → IsRequest b → request_text b ≡ request_text a ++ more → (a ≡ b) × (more ≡ [])
one_text a b more first second same = let parts = same_request a b more [] first second (sym same ∙ sym (append-nil (request_text b))) in (parts.0, parts.1)
