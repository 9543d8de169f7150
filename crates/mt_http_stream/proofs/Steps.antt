-- What holds of the bytes that a stream was fed, step by step.
use Rattle.std.proofs.Common.{◌≡◌, ◌≤◌, ◌<◌, ◌+◌, ℕ, true, false, nat_lt, List, [], ◌∷◌, ◌++◌, length, take, get_or, Option, Some, None, refl, sym, ap, ◌∙◌, subst, arith, append_assoc, ⊎_elim}
use Rattle.std.proofs.lemmas.Bool.{cases_Bool, cond-true, cond-false}
use Rattle.std.proofs.lemmas.Bool.Decides.{nat_tests}
use Rattle.std.proofs.lemmas.List.{append-nil, length-append, take-append-le, take_all, take_more}
use Rattle.std.specs.List.{list_all}
use Rattle.httparse.specs.Grammar.{RequestHead, ReadsRequest, HasNoRequest, NeverHasRequest, print_request}
use Rattle.httparse.proofs.GrammarLemmas.{ReadsRequest-append}
use Rattle.mt_http_types.proofs.Runs.{all_of_both}
use Rattle.mt_http_head.specs.Parsed.{IsDecided}
use Rattle.mt_http_head.specs.Points.{decision, head_of}
use Rattle.mt_http_head.specs.declared.decision.Decision.{Decision}
use Rattle.mt_http_head.specs.declared.decision.Decision.TheVariants as decided
use Rattle.mt_http_head.specs.declared.decision.HeadStatus.TheVariants as status
use Rattle.mt_http_stream.specs.Progress.{IsFed, ends_line}
use Rattle.mt_http_stream.specs.Settling.{Begins, Found, IsFound, IsNoHead, Settles, head_limit, settled_behind, settled_by}
use Rattle.mt_http_stream.specs.declared.progress.Progress.{Progress}
use Rattle.mt_http_stream.specs.declared.progress.Progress.TheVariants.{Blank, Head, Invalid, Body, Over}
use Rattle.mt_http_stream.specs.declared.settled.Settled.{Settled}
use Rattle.mt_http_stream.specs.declared.settled.Settled.TheVariants.{Refused, Load, Post}
use Rattle.mt_http_stream.proofs.Heads.{found_more, found_once, never_after, none_after, none_found, none_in_line_ends, none_more, none_now, whole_head}

test_lt : (a b : ℕ) → a < b → nat_lt a b ≡ true
test_lt a b lt = grind (arith, nat_tests)

test_ge : (a b : ℕ) → b ≤ a → nat_lt a b ≡ false
test_ge a b ge = grind (arith, nat_tests)

-- ---- behind a head

settles_with : (services : List (List ℕ)) (fed : List ℕ) (made : Decision) (settled : Option Settled) → Begins services fed made → settled_behind made [] ≡ settled
    → Settles services fed settled
settles_with services fed made settled begins is =
    (Some (begins.0, []), (begins.1, begins.2), ap (λ (d : Decision). settled_behind d []) (sym begins.3) ∙ is)

pub over_refused : (services : List (List ℕ)) (fed : List ℕ) (status : ℕ) → Begins services fed (decided.Refused status) → IsFed services (Over (Refused status)) fed
over_refused services fed status begins = settles_with services fed (decided.Refused status) (Some (Refused status)) begins refl

pub over_load : (services : List (List ℕ)) (fed service text : List ℕ) → Begins services fed (decided.Load service text) → IsFed services (Over (Load service text)) fed
over_load services fed service text begins = settles_with services fed (decided.Load service text) (Some (Load service text)) begins refl

pub over_post : (services : List (List ℕ)) (fed service : List ℕ) (size : ℕ) → size ≡ 0 → Begins services fed (decided.Post service size) → IsFed services (Over (Post service [])) fed
over_post services fed service size none begins =
    settles_with services fed (decided.Post service size) (Some (Post service [])) begins (ap (λ (n : ℕ). settled_behind (decided.Post service n) []) none)

pub body_first : (services : List (List ℕ)) (fed service : List ℕ) (size : ℕ) → 0 < size → Begins services fed (decided.Post service size) → IsFed services (Body service size []) fed
body_first services fed service size some begins = (begins.0, begins.1, begins.2, sym begins.3, some)

-- ---- where no head is whole

pub full_none : (services : List (List ℕ)) (fed : List ℕ) → HasNoRequest fed → head_limit ≤ length fed → IsFed services (Over (Refused 431)) fed
full_none services fed none full = (None, none_found fed none, cond-false _ _ _ (test_ge (length fed) head_limit full))

pub full_never : (services : List (List ℕ)) (fed : List ℕ) → NeverHasRequest fed → head_limit ≤ length fed → IsFed services (Over (Refused 431)) fed
full_never services fed never full = full_none services fed (none_now fed never) full

-- ---- in a body

pub body_whole : (services : List (List ℕ)) (fed service body : List ℕ) (size : ℕ) (head : RequestHead) → ReadsRequest fed head body → length (print_request head) ≤ head_limit
    → decision services (head_of head) ≡ decided.Post service size → size ≤ length body → length body ≤ size → IsFed services (Over (Post service body)) fed
body_whole services fed service body size head is fits made whole short =
    let all : take size body ≡ body = take_all size body short in (
      Some (head, body),
      (is, fits),
      ap (λ (d : Decision). settled_behind d body) made ∙ cond-false _ _ _ (test_ge (length body) size whole)
          ∙ ap (λ (l : List ℕ). Some (Post service l)) all,
    )

-- one byte more of a body
pub body_more : (services : List (List ℕ)) (fed service body gathered : List ℕ) (size byte : ℕ) (next : Progress)
    → ((services : List (List ℕ)) (fed : List ℕ) (head : RequestHead) → ReadsRequest fed head gathered → length (print_request head) ≤ head_limit
    → decision services (head_of head) ≡ decided.Post service size → length gathered ≤ size → IsFed services next fed)
    → gathered ≡ body ++ byte ∷ [] → IsFed services (Body service size body) fed → IsFed services next (fed ++ byte ∷ [])
body_more services fed service body gathered size byte next gives grown kept =
    let longer = length-append body (byte ∷ []) in
    let reads = ReadsRequest-append fed kept.0 body (byte ∷ []) kept.1 in
    let short = kept.4 in
    let sizes = ap length grown in
    gives services (fed ++ byte ∷ []) kept.0 (subst (λ (l : List ℕ). ReadsRequest (fed ++ byte ∷ []) kept.0 l) (sym grown) reads) kept.2 kept.3 (omega (arith, longer, short, sizes))

-- ---- before the request line

pub blank_at_first : (services : List (List ℕ)) → IsFed services (Blank []) []
blank_at_first services = (refl, refl, omega arith)

-- one line end more
pub blank_more : (services : List (List ℕ)) (fed bytes gathered : List ℕ) (byte : ℕ) (next : Progress) → ends_line byte ≡ true
    → gathered ≡ bytes ++ byte ∷ [] → IsFed services (Blank bytes) fed
    → ((services : List (List ℕ)) → list_all ends_line gathered ≡ true → length gathered ≤ head_limit → IsFed services next gathered) → IsFed services next (fed ++ byte ∷ [])
blank_more services fed bytes gathered byte next ends grown kept gives =
    let same : gathered ≡ fed ++ byte ∷ [] = grown ∙ ap (λ (l : List ℕ). l ++ byte ∷ []) kept.0 in
    let short = kept.2 in
    let sizes = ap length same in
    let longer = length-append fed (byte ∷ []) in
    let last : list_all ends_line (byte ∷ []) ≡ true = rw ends refl in
    let all : list_all ends_line gathered ≡ true = ap (list_all ends_line) same ∙ all_of_both ends_line fed (byte ∷ []) kept.1 last in
    subst (IsFed services next) same (gives services all (omega (arith, short, sizes, longer)))

-- a stream before the request line is one in a head, none of which is whole
pub blank_is_head : (services : List (List ℕ)) (fed bytes : List ℕ) → IsFed services (Blank bytes) fed → IsFed services (Head bytes) fed
blank_is_head services fed bytes kept = (kept.0, none_in_line_ends fed kept.1, kept.2)

pub full_blank : (services : List (List ℕ)) (fed : List ℕ) → list_all ends_line fed ≡ true → head_limit ≤ length fed → IsFed services (Over (Refused 431)) fed
full_blank services fed all full = full_none services fed (none_in_line_ends fed all) full

pub blank_settles_none : (services : List (List ℕ)) (fed bytes : List ℕ) → IsFed services (Blank bytes) fed → Settles services fed None
blank_settles_none services fed bytes kept = (None, none_found fed (none_in_line_ends fed kept.1), cond-true _ _ _ (test_lt (length fed) head_limit kept.2))

-- ---- in a head

-- the head is whole with this byte
pub head_ends : (services : List (List ℕ)) (fed bytes gathered : List ℕ) (byte : ℕ) (made : Decision) (next : Progress) → IsDecided services gathered (status.Complete made)
    → gathered ≡ bytes ++ byte ∷ [] → IsFed services (Head bytes) fed
    → ((services : List (List ℕ)) (fed : List ℕ) → Begins services fed made → IsFed services next fed) → IsFed services next (fed ++ byte ∷ [])
head_ends services fed bytes gathered byte made next found grown kept gives =
    let same : gathered ≡ fed ++ byte ∷ [] = grown ∙ ap (λ (l : List ℕ). l ++ byte ∷ []) kept.0 in
    let reads = subst (λ (l : List ℕ). ReadsRequest l found.0 found.1) same found.2 in
    let whole = whole_head fed byte found.0 found.1 kept.1 reads in
    let size = whole.1 in
    let short = kept.2 in
    gives services (fed ++ byte ∷ [])
    (found.0, subst (λ (r : List ℕ). ReadsRequest (fed ++ byte ∷ []) found.0 r) whole.0 reads, omega (arith, size, short), found.3)

-- it isn't
pub head_goes_on : (services : List (List ℕ)) (fed bytes gathered : List ℕ) (byte : ℕ) (next : Progress) → HasNoRequest gathered
    → gathered ≡ bytes ++ byte ∷ [] → IsFed services (Head bytes) fed
    → ((services : List (List ℕ)) → HasNoRequest gathered → length gathered ≤ head_limit → IsFed services next gathered) → IsFed services next (fed ++ byte ∷ [])
head_goes_on services fed bytes gathered byte next none grown kept gives =
    let same : gathered ≡ fed ++ byte ∷ [] = grown ∙ ap (λ (l : List ℕ). l ++ byte ∷ []) kept.0 in
    let short = kept.2 in
    let sizes = ap length same in
    let longer = length-append fed (byte ∷ []) in
    subst (IsFed services next) same (gives services none (omega (arith, short, sizes, longer)))

-- no head begins with these bytes
pub head_is_lost : (services : List (List ℕ)) (fed bytes gathered : List ℕ) (byte count : ℕ) (next : Progress) → NeverHasRequest gathered
    → gathered ≡ bytes ++ byte ∷ [] → count ≡ length gathered → IsFed services (Head bytes) fed
    → ((services : List (List ℕ)) (fed : List ℕ) → count ≡ length fed → NeverHasRequest fed → length fed ≤ head_limit → IsFed services next fed) → IsFed services next (fed ++ byte ∷ [])
head_is_lost services fed bytes gathered byte count next never grown counted kept gives =
    let same : gathered ≡ fed ++ byte ∷ [] = grown ∙ ap (λ (l : List ℕ). l ++ byte ∷ []) kept.0 in
    let short = kept.2 in
    let sizes = ap length same in
    let longer = length-append fed (byte ∷ []) in
    subst (IsFed services next) same (gives services gathered counted never (omega (arith, short, sizes, longer)))

-- nor with one more
pub lost_goes_on : (services : List (List ℕ)) (fed : List ℕ) (byte count more : ℕ) (next : Progress) → (count < head_limit → more ≡ count + 1) → IsFed services (Invalid count) fed
    → ((services : List (List ℕ)) (fed : List ℕ) → more ≡ length fed → NeverHasRequest fed → length fed ≤ head_limit → IsFed services next fed) → IsFed services next (fed ++ byte ∷ [])
lost_goes_on services fed byte count more next added kept gives =
    let counted = kept.0 in
    let short = kept.2 in
    let longer = length-append fed (byte ∷ []) in
    let one = added (omega (arith, counted, short)) in
    gives services (fed ++ byte ∷ []) (omega (arith, counted, one, longer)) (never_after fed (byte ∷ []) kept.1) (omega (arith, short, longer))

-- what the bytes of a head say where the last line isn't empty
pub none_yet : (services : List (List ℕ)) (bytes before : List ℕ) (byte : ℕ) → IsNoHead bytes → HasNoRequest before → bytes ≡ before ++ byte ∷ [] → HasNoRequest bytes
none_yet services bytes before byte not none is = subst HasNoRequest (sym is) (none_after before byte none (subst IsNoHead is not))

-- ---- behind the byte that decided

behind_more : (made : Decision) (rest more : List ℕ) (settled : Settled) → settled_behind made rest ≡ Some settled → settled_behind made (rest ++ more) ≡ Some settled
behind_more (decided.Refused status) rest more settled is = is
behind_more (decided.Load service text) rest more settled is = is
behind_more (decided.Post service size) rest more settled is =
    ⊎_elim
    (λ (e : nat_lt (length rest) size ≡ true). absurd (let no : None ≡ Some settled = sym (cond-true _ _ _ e) ∙ is in cc))
    (λ (e : nat_lt (length rest) size ≡ false).
    let whole : size ≤ length rest = grind (arith, nat_tests) in
    let longer = length-append rest more in
    cond-false _ _ _ (test_ge (length (rest ++ more)) size (omega (arith, whole, longer)))
    ∙ ap (λ (l : List ℕ). Some (Post service l)) (take-append-le size rest more whole)
    ∙ sym (cond-false _ _ _ e) ∙ is)
    (cases_Bool (nat_lt (length rest) size))

pub settled_more : (services : List (List ℕ)) (fed more : List ℕ) (settled : Settled) → Settles services fed (Some settled) → Settles services (fed ++ more) (Some settled)
settled_more services fed more settled settles = step settles.0 settles.1 settles.2
  where
    step : (found : Found) → IsFound fed found → settled_by services (length fed) found ≡ Some settled → Settles services (fed ++ more) (Some settled)
    step (Some found) is said =
        (Some (found.0, found.1 ++ more), found_more fed more found.0 found.1 is, behind_more (decision services (head_of found.0)) found.1 more settled said)
    step None is said =
        ⊎_elim
        (λ (e : nat_lt (length fed) head_limit ≡ true). absurd (let no : None ≡ Some settled = sym (cond-true _ _ _ e) ∙ said in cc))
        (λ (e : nat_lt (length fed) head_limit ≡ false).
        let full : head_limit ≤ length fed = grind (arith, nat_tests) in
        let longer = length-append fed more in (
          None,
          none_more fed more full is,
          cond-false _ _ _ (test_ge (length (fed ++ more)) head_limit (omega (arith, full, longer))) ∙ sym (cond-false _ _ _ e) ∙ said,
        ))
        (cases_Bool (nat_lt (length fed) head_limit))

pub over_more : (services : List (List ℕ)) (fed : List ℕ) (byte : ℕ) (settled : Settled) → IsFed services (Over settled) fed → IsFed services (Over settled) (fed ++ byte ∷ [])
over_more services fed byte settled kept = settled_more services fed (byte ∷ []) settled kept

pub settled_once : (services : List (List ℕ)) (bytes : List ℕ) (a b : Option Settled) → Settles services bytes a → Settles services bytes b → a ≡ b
settled_once services bytes a b first second =
    sym first.2 ∙ ap (settled_by services (length bytes)) (found_once bytes first.0 second.0 first.1 second.1) ∙ second.2

-- ---- what the stream tells

pub head_settles_none : (services : List (List ℕ)) (fed bytes : List ℕ) → IsFed services (Head bytes) fed → Settles services fed None
head_settles_none services fed bytes kept = (None, none_found fed kept.1, cond-true _ _ _ (test_lt (length fed) head_limit kept.2))

pub invalid_settles_none : (services : List (List ℕ)) (fed : List ℕ) (count : ℕ) → IsFed services (Invalid count) fed → Settles services fed None
invalid_settles_none services fed count kept = (None, none_found fed (none_now fed kept.1), cond-true _ _ _ (test_lt (length fed) head_limit kept.2))

pub body_settles_none : (services : List (List ℕ)) (fed service body : List ℕ) (size : ℕ) → IsFed services (Body service size body) fed → Settles services fed None
body_settles_none services fed service body size kept =
    (Some (kept.0, body), (kept.1, kept.2), ap (λ (d : Decision). settled_behind d body) kept.3 ∙ cond-true _ _ _ (test_lt (length body) size kept.4))

-- ---- a piece of bytes

-- from one place to another by these bytes
abbrev pub Leads : List (List ℕ) → Progress → List ℕ → Progress → Type 0
Leads services old bytes new = (fed : List ℕ) → IsFed services old fed → IsFed services new (fed ++ bytes)

pub leads_first : (services : List (List ℕ)) (old : Progress) → Leads services old [] old
leads_first services old fed kept = subst (IsFed services old) (sym (append-nil fed)) kept

pub leads_more : (services : List (List ℕ)) (old now next : Progress) (piece : List ℕ) (i : ℕ) → i < length piece → Leads services old (take i piece) now
    → ((fed : List ℕ) → IsFed services now fed → IsFed services next (fed ++ get_or piece i 0 ∷ [])) → Leads services old (take (i + 1) piece) next
leads_more services old now next piece i inside before step fed kept =
    let after = step (fed ++ take i piece) (before fed kept) in
    subst (IsFed services next) (append_assoc fed (take i piece) (get_or piece i 0 ∷ []) ∙ ap (λ (l : List ℕ). fed ++ l) (sym (take_more piece i 0 inside))) after

pub leads_all : (services : List (List ℕ)) (old new : Progress) (piece : List ℕ) (i : ℕ) → length piece ≤ i → Leads services old (take i piece) new → Leads services old piece new
leads_all services old new piece i whole before = subst (λ (l : List ℕ). Leads services old l new) (take_all i piece whole) before
