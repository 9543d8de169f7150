-- How a stream moves on.
use Rattle.std.proofs.Common.{true, ◌≡◌, ◌≤◌, ◌<◌, ◌+◌, ◌-◌, ℕ, List, [], ◌∷◌, ◌++◌, length, take, drop, get_or, refl, sym, ap, ◌∙◌, subst, arith, append_assoc}
use Rattle.std.proofs.Math.Seq.{drop-length}
use Rattle.std.proofs.lemmas.List.{append-nil, length-drop, take-append-drop, take_all, take_more}
use Rattle.std.specs.List.{AllByRecursion}
use Rattle.mt_http_types.specs.declared.reply.Content.{Content}
use Rattle.mt_http_types.specs.declared.reply.Content.TheVariants.{Plain}
use Rattle.mt_http_types.specs.declared.reply.ReplyHead.{ReplyHead}
use Rattle.mt_http_reply.specs.declared.progress.Progress.{Progress}
use Rattle.mt_http_reply.specs.declared.progress.Progress.TheVariants.{Head, Body, Past, Lost}
use Rattle.mt_http_reply.specs.declared.progress.Taken.{Taken}
use Rattle.mt_http_reply.specs.Reading.{HasNoHead, HasBody, HasNoHeadOf, HasNoHeadWith}
use Rattle.mt_http_reply.specs.ReplyText.{failure_statuses, is_status_of}
use Rattle.mt_http_reply.proofs.Phrases.{of_each}
use Rattle.mt_http_reply.specs.Stream.{IsFed, IsBehind, EndsHead, PassesHead, TakesBody}
use Rattle.mt_http_reply.proofs.StreamSteps.{no_body, nothing_of_it, missing_less, body_grows, past_more, body_ends, past_again, body_stays, body_never, lost_more}

-- what holds of this step holds of each that is the same
pub stays : (P : Taken → Type 0) (p : Progress) (taken : Taken) → taken.progress ≡ p → taken.count ≡ 0 → P (record { progress = p; count = 0 }) → P taken
stays P p taken e f it =
    subst (λ (n : ℕ). P (record { progress = taken.progress; count = n })) (sym f)
    (subst (λ (q : Progress). P (record { progress = q; count = 0 })) (sym e) it)

-- ---- past the head

-- the bytes of the piece go on after those before
joined : (bytes piece gathered new : List ℕ) (at byte : ℕ) → at < length piece → byte ≡ get_or piece at 0 → gathered ≡ bytes ++ take at piece
    → new ≡ gathered ++ byte ∷ [] → new ≡ bytes ++ take (at + 1) piece
joined bytes piece gathered new at byte inside is before after =
    after ∙ ap (λ (l : List ℕ). l ++ byte ∷ []) before ∙ append_assoc bytes (take at piece) (byte ∷ [])
    ∙ ap (λ (b : ℕ). bytes ++ (take at piece ++ b ∷ [])) is ∙ ap (λ (l : List ℕ). bytes ++ l) (sym (take_more piece at 0 inside))

pub goes_on : (bytes piece gathered new : List ℕ) (at byte : ℕ) → at < length piece → byte ≡ get_or piece at 0
    → (gathered ≡ bytes ++ take at piece) × (HasNoHead bytes → HasNoHead gathered)
    → new ≡ gathered ++ byte ∷ [] → (HasNoHead gathered → HasNoHead new)
    → (new ≡ bytes ++ take (at + 1) piece) × (HasNoHead bytes → HasNoHead new)
goes_on bytes piece gathered new at byte inside is before after next =
    (joined bytes piece gathered new at byte inside is before.0 after, λ none. next (before.1 none))

pub ends : (bytes piece gathered new : List ℕ) (at byte : ℕ) (progress : Progress) → at < length piece → byte ≡ get_or piece at 0
    → (gathered ≡ bytes ++ take at piece) × (HasNoHead bytes → HasNoHead gathered)
    → new ≡ gathered ++ byte ∷ [] → (HasNoHead gathered → EndsHead new progress) → ((rest : List ℕ) → IsBehind progress rest)
    → PassesHead (Head bytes) piece (record { progress = progress; count = at + 1 })
ends bytes piece gathered new at byte progress inside is before after next behind =
    let now = joined bytes piece gathered new at byte inside is before.0 after in
    let over : HasNoHead bytes → EndsHead (bytes ++ take (at + 1) piece) progress = λ none. subst (λ (l : List ℕ). EndsHead l progress) now (next (before.1 none)) in
    record {
      count = omega arith;
      fed = λ fed kept. subst (λ (l : List ℕ). IsFed progress (l ++ take (at + 1) piece)) kept.0 (over (subst HasNoHead (sym kept.0) kept.1)).fed;
      body = λ fed body kept has.
          subst (λ (b : List ℕ). HasBody (fed ++ take (at + 1) piece) b) (sym (no_body fed body kept.1 has))
          (subst (λ (l : List ℕ). HasBody (l ++ take (at + 1) piece) []) kept.0 (over (subst HasNoHead (sym kept.0) kept.1)).body);
      behind = behind (drop (at + 1) piece);
    }

pub all_of_it : (bytes piece gathered : List ℕ) (at : ℕ) → at ≡ length piece → (gathered ≡ bytes ++ take at piece) × (HasNoHead bytes → HasNoHead gathered)
    → PassesHead (Head bytes) piece (record { progress = Head gathered; count = length piece })
all_of_it bytes piece gathered at whole before =
    let now : gathered ≡ bytes ++ take (length piece) piece = before.0 ∙ ap (λ (n : ℕ). bytes ++ take n piece) whole in
    let none : HasNoHead bytes → HasNoHead (bytes ++ take (length piece) piece) = λ n. subst HasNoHead now (before.1 n) in
    record {
      count = omega arith;
      fed = λ fed kept. (
        now ∙ ap (λ (l : List ℕ). l ++ take (length piece) piece) kept.0,
        subst (λ (l : List ℕ). HasNoHead (l ++ take (length piece) piece)) kept.0 (none (subst HasNoHead (sym kept.0) kept.1)),
      );
      body = λ fed body kept has.
          subst (λ (b : List ℕ). HasBody (fed ++ take (length piece) piece) b) (sym (no_body fed body kept.1 has))
          (nothing_of_it (fed ++ take (length piece) piece) (subst (λ (l : List ℕ). HasNoHead (l ++ take (length piece) piece)) kept.0 (none (subst HasNoHead (sym kept.0) kept.1))));
      behind = drop-length piece;
    }

-- no byte is of the head
pub past_before : (p : Progress) (piece : List ℕ) → ((rest : List ℕ) → IsBehind p rest) → PassesHead p piece (record { progress = p; count = 0 })
past_before p piece behind = record {
  count = omega arith;
  fed = λ fed kept. subst (IsFed p) (sym (append-nil fed)) kept;
  body = λ fed body kept has. subst (λ (l : List ℕ). HasBody l body) (sym (append-nil fed)) has;
  behind = behind piece;
}

-- ---- past the body

pub less : (head : ReplyHead) (missing size : ℕ) → size ≤ missing → TakesBody (Body head missing) size (record { progress = Body head (missing - size); count = size })
less head missing size le = record {
  count = omega arith;
  fed = λ fed rest whole behind kept.
      subst (λ (n : ℕ). IsFed (Body head (missing - n)) (fed ++ rest)) whole (missing_less fed rest head missing (omega arith) kept);
  body = λ fed body rest whole behind kept has.
      subst (λ (n : ℕ). HasBody (fed ++ rest) (body ++ take n rest)) whole (body_grows fed rest body head missing (omega arith) kept has);
}

pub over : (head : ReplyHead) (missing size : ℕ) → missing < size → TakesBody (Body head missing) size (record { progress = Past head; count = missing })
over head missing size lt = record {
  count = omega arith;
  fed = λ fed rest whole behind kept. past_more fed rest head missing (omega arith) kept;
  body = λ fed body rest whole behind kept has. body_ends fed rest body head missing kept has;
}

pub nothing_yet : (bytes : List ℕ) (size : ℕ) → TakesBody (Head bytes) size (record { progress = Head bytes; count = 0 })
nothing_yet bytes size = record {
  count = omega arith;
  fed = λ fed rest whole behind kept. subst (λ (l : List ℕ). IsFed (Head bytes) (fed ++ l)) (sym behind) (subst (IsFed (Head bytes)) (sym (append-nil fed)) kept);
  body = λ fed body rest whole behind kept has.
      subst (λ (l : List ℕ). HasBody (fed ++ l) (body ++ [])) (sym behind)
      (subst (λ (l : List ℕ). HasBody l (body ++ [])) (sym (append-nil fed)) (subst (λ (l : List ℕ). HasBody fed l) (sym (append-nil body)) has));
}

pub nothing_more : (head : ReplyHead) (size : ℕ) → TakesBody (Past head) size (record { progress = Past head; count = 0 })
nothing_more head size = record {
  count = omega arith;
  fed = λ fed rest whole behind kept. past_again fed rest head kept;
  body = λ fed body rest whole behind kept has. body_stays fed rest body head kept has;
}

pub nothing_ever : (size : ℕ) → TakesBody Lost size (record { progress = Lost; count = 0 })
nothing_ever size = record {
  count = omega arith;
  fed = λ fed rest whole behind kept. lost_more fed rest kept;
  body = λ fed body rest whole behind kept has. body_never fed rest body kept has;
}

-- ---- a whole piece

pub record Moves (old : Progress) (piece : List ℕ) (new : Progress) (part : List ℕ) : Type 0 where
  pub fed : (fed : List ℕ) → IsFed old fed → IsFed new (fed ++ piece)
  pub body : (fed body : List ℕ) → IsFed old fed → HasBody fed body → HasBody (fed ++ piece) (body ++ part)

pub moves : (old : Progress) (piece : List ℕ) (head body : Taken) (rest : List ℕ) → rest ≡ drop head.count piece → PassesHead old piece head
    → TakesBody head.progress (length rest) body → Moves old piece body.progress (take body.count rest)
moves old piece head body rest is first second =
    let joins : (fed : List ℕ) → (fed ++ take head.count piece) ++ rest ≡ fed ++ piece =
    λ fed. append_assoc fed (take head.count piece) rest ∙ ap (λ (l : List ℕ). fed ++ (take head.count piece ++ l)) is ∙ ap (λ (l : List ℕ). fed ++ l) (take-append-drop head.count piece) in
    let behind : IsBehind head.progress rest = subst (IsBehind head.progress) (sym is) first.behind in
    record {
      fed = λ fed kept. subst (IsFed body.progress) (joins fed) (second.fed (fed ++ take head.count piece) rest refl behind (first.fed fed kept));
      body = λ fed b kept has.
          subst (λ (l : List ℕ). HasBody l (b ++ take body.count rest)) (joins fed)
          (second.body (fed ++ take head.count piece) b rest refl behind (first.fed fed kept) (first.body fed b kept has));
    }

pub rest_of : (piece : List ℕ) (count : ℕ) → take (length piece - count) (drop count piece) ≡ drop count piece
rest_of piece count = take_all (length piece - count) (drop count piece) (omega (arith, length-drop count piece))

-- ---- a list of statuses

pub each_and : (P : ℕ → Type 0) (xs : List ℕ) (x : ℕ) → AllByRecursion P xs → P x → AllByRecursion P (xs ++ x ∷ [])
each_and P [] x all one = (one, tt)
each_and P (y ∷ ys) x all one = (all.0, each_and P ys x all.1 one)

pub each_more : (P : ℕ → Type 0) (xs : List ℕ) (i : ℕ) → i < length xs → AllByRecursion P (take i xs) → P (get_or xs i 0) → AllByRecursion P (take (i + 1) xs)
each_more P xs i inside all one = subst (AllByRecursion P) (sym (take_more xs i 0 inside)) (each_and P (take i xs) (get_or xs i 0) all one)

pub no_failure : (bytes : List ℕ) (i : ℕ) → 8 ≤ i → AllByRecursion (λ status. HasNoHeadWith Plain status bytes) (take i failure_statuses) → HasNoHeadOf Plain bytes
no_failure bytes i whole some head good plain text =
    let all = subst (AllByRecursion (λ status. HasNoHeadWith Plain status bytes)) (take_all i failure_statuses whole) some in
    let failure : is_status_of Plain head.status ≡ true = subst (λ (c : Content). is_status_of c head.status ≡ true) plain good.status in
    of_each (λ status. HasNoHeadWith Plain status bytes) failure_statuses head.status all failure head good plain refl text
