-- The phrase of each status is the one that its code has in the standard.
use Rattle.std.proofs.Common.{◌≡◌, ◌≤◌, ◌<◌, ℕ, true, false, ◌==◌, List, [], ◌∷◌, refl, sym, subst, ⊎_elim, arith}
use Rattle.std.specs.Prelude.{Some}
use Rattle.std.proofs.lemmas.Bool.{cases_Bool, eqb-true}
use Rattle.std.specs.List.{list_any, AllByRecursion}
use Rattle.http.specs.StatusCode.{reason_phrase}
use Rattle.mt_http_types.specs.declared.reply.Content.{Content}
use Rattle.mt_http_types.specs.declared.reply.Content.TheVariants.{Html, Json, Plain}
use Rattle.mt_http_reply.specs.ReplyText.{failure_statuses, is_status_of, phrase}

-- what holds of each of the numbers holds of one among them
pub of_each : (P : ℕ → Type 0) (xs : List ℕ) (n : ℕ) → AllByRecursion P xs → list_any (λ x. x == n) xs ≡ true → P n
of_each P [] n all among = absurd (cc)
of_each P (x ∷ xs) n all among =
    ⊎_elim
    (λ (e : (x == n) ≡ true). subst P (eqb-true x n e) all.0)
    (λ (e : (x == n) ≡ false). of_each P xs n all.1 (rw e at among))
    (cases_Bool (x == n))

abbrev pub IsKnown : ℕ → Type 0
IsKnown status = (reason_phrase status ≡ Some (phrase status)) × ((100 ≤ status) × (status < 1000))

known_by : (status : ℕ) → 100 ≤ status → status < 1000 → reason_phrase status ≡ Some (phrase status) → IsKnown status
known_by status low high e = (e, (low, high))

known : (status : ℕ) → (status == 200) ≡ true → IsKnown status
known status e = subst IsKnown (sym (eqb-true status 200 e)) (refl, (omega arith, omega arith))

pub phrase_is_known : (content : Content) (status : ℕ) → is_status_of content status ≡ true → IsKnown status
phrase_is_known Html status e = known status e
phrase_is_known Json status e = known status e
phrase_is_known Plain status e =
    of_each IsKnown failure_statuses status (
      known_by 400 (omega arith) (omega arith) refl,
      (
        known_by 404 (omega arith) (omega arith) refl,
        (
          known_by 405 (omega arith) (omega arith) refl,
          (
            known_by 411 (omega arith) (omega arith) refl,
            (known_by 413 (omega arith) (omega arith) refl, (known_by 431 (omega arith) (omega arith) refl, (known_by 500 (omega arith) (omega arith) refl, (known_by 501 (omega arith) (omega arith) refl, tt)))),
          ),
        ),
      ),
    )
    e
