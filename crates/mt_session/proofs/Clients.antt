-- Which messages were sent, and on which a side has acted, after each command.
use Rattle.std.proofs.Common.{◌≡◌, ℕ, ◌+◌, true, false, ◌||◌, List, [], ◌∷◌, refl, sym, ap, ◌∙◌, Option, None, Some}
use Rattle.std.specs.Option.{is_some}
use Rattle.mt_outside.specs.declared.wire.Slot.{Slot}
use Rattle.mt_outside.specs.Message.{is_slot}
use Rattle.mt_small.specs.declared.application.Small.{Small}
use Rattle.mt_small.specs.declared.command.SmallCommand.{SmallCommand}
use Rattle.mt_small.specs.declared.command.SmallCommand.TheVariants.{Load, Serve, Deliver}
use Rattle.mt_session.specs.declared.party.Party.{Party}
use Rattle.mt_session.specs.declared.party.Standing.{Standing}
use Rattle.mt_session.specs.declared.party.Standing.TheVariants.{Asked, Answered, Over}
use Rattle.mt_session.specs.Parties.{standing_of, message_count, with_request, with_standing, is_sent, is_acted, sent_by, acted_by}
use Rattle.mt_session.specs.Sides.{side_step, parties_from}
use Rattle.mt_session.specs.Step.{slot_of, Readings, step, serve_step, deliver_step}
use Rattle.mt_session.specs.Transcript.{pages_in}
use Rattle.mt_session.proofs.StandingsAfter.{standing_of-with_standing_same, standing_of-with_standing_other, standing_of-with_request_same, standing_of-with_request_other, standing_of-fresh}
use Rattle.mt_session.proofs.Slots.{slot-refl}
use Rattle.mt_session.proofs.Fitting.{by_slot, differ, apart-slot, or-true, or-false}

-- ---- what was sent

pub sent-load : (k : ℕ) (ps : List Party) (t : Slot) → (is_sent ps t || is_slot t (slot_of k (message_count k ps + 1) false)) ≡ is_sent (with_request k ps) t
sent-load k ps =
    let m = message_count k ps + 1 in
    let now = standing_of-with_request_same k ps in
    let before = standing_of-fresh k ps in
    by_slot (λ t. (is_sent ps t || is_slot t (slot_of k m false)) ≡ is_sent (with_request k ps) t) k m
    (ap (λ o. sent_by true o || is_slot (slot_of k m true) (slot_of k m false)) before ∙ differ k m true false refl ∙ sym (ap (sent_by true) now))
    (ap (λ b. is_sent ps (slot_of k m false) || b) (slot-refl (slot_of k m false)) ∙ or-true (is_sent ps (slot_of k m false)) ∙ sym (ap (sent_by false) now))
    (λ t apart. ap (λ b. is_sent ps t || b) (apart-slot t k m false apart) ∙ or-false (is_sent ps t)
    ∙ sym (ap (sent_by t.reply) (standing_of-with_request_other k t.client t.message ps apart)))

pub sent-serve : (k m : ℕ) (ps : List Party) → standing_of k m ps ≡ Some Asked → (t : Slot)
    → (is_sent ps t || is_slot t (slot_of k m true)) ≡ is_sent (with_standing k m Answered 0 ps) t
sent-serve k m ps asked =
    let now = standing_of-with_standing_same k m Answered 0 ps (ap is_some asked) in
    by_slot (λ t. (is_sent ps t || is_slot t (slot_of k m true)) ≡ is_sent (with_standing k m Answered 0 ps) t) k m
    (ap (λ b. is_sent ps (slot_of k m true) || b) (slot-refl (slot_of k m true)) ∙ or-true (is_sent ps (slot_of k m true)) ∙ sym (ap (sent_by true) now))
    (ap (λ o. sent_by false o || is_slot (slot_of k m false) (slot_of k m true)) asked ∙ sym (ap (sent_by false) now))
    (λ t apart. ap (λ b. is_sent ps t || b) (apart-slot t k m true apart) ∙ or-false (is_sent ps t)
    ∙ sym (ap (sent_by t.reply) (standing_of-with_standing_other k m t.client t.message Answered 0 ps apart)))

pub sent-deliver : (k m more : ℕ) (ps : List Party) → standing_of k m ps ≡ Some Answered → (t : Slot) → is_sent ps t ≡ is_sent (with_standing k m Over more ps) t
sent-deliver k m more ps answered =
    let now = standing_of-with_standing_same k m Over more ps (ap is_some answered) in
    by_slot (λ t. is_sent ps t ≡ is_sent (with_standing k m Over more ps) t) k m
    (ap (sent_by true) answered ∙ sym (ap (sent_by true) now))
    (ap (sent_by false) answered ∙ sym (ap (sent_by false) now))
    (λ t apart. sym (ap (sent_by t.reply) (standing_of-with_standing_other k m t.client t.message Over more ps apart)))

-- ---- a slot on which a side has acted stays so

acted-load : (k : ℕ) (ps : List Party) (t : Slot) → is_acted ps t ≡ true → is_acted (with_request k ps) t ≡ true
acted-load k ps = by_slot (λ t. is_acted ps t ≡ true → is_acted (with_request k ps) t ≡ true) k (message_count k ps + 1)
    (λ acted. absurd (let e = ap (acted_by true) (standing_of-fresh k ps) in cc))
    (λ acted. absurd (let e = ap (acted_by false) (standing_of-fresh k ps) in cc))
    (λ t apart acted. ap (acted_by t.reply) (standing_of-with_request_other k t.client t.message ps apart) ∙ acted)

acted-serve : (k m : ℕ) (ps : List Party) → standing_of k m ps ≡ Some Asked → (t : Slot) → is_acted ps t ≡ true → is_acted (with_standing k m Answered 0 ps) t ≡ true
acted-serve k m ps asked = by_slot (λ t. is_acted ps t ≡ true → is_acted (with_standing k m Answered 0 ps) t ≡ true) k m
    (λ acted. absurd (let e = ap (acted_by true) asked in cc))
    (λ acted. absurd (let e = ap (acted_by false) asked in cc))
    (λ t apart acted. ap (acted_by t.reply) (standing_of-with_standing_other k m t.client t.message Answered 0 ps apart) ∙ acted)

acted-deliver : (k m more : ℕ) (ps : List Party) → standing_of k m ps ≡ Some Answered → (t : Slot) → is_acted ps t ≡ true → is_acted (with_standing k m Over more ps) t ≡ true
acted-deliver k m more ps answered = by_slot (λ t. is_acted ps t ≡ true → is_acted (with_standing k m Over more ps) t ≡ true) k m
    (λ acted. absurd (let e = ap (acted_by true) answered in cc))
    (λ acted. ap (acted_by false) (standing_of-with_standing_same k m Over more ps (ap is_some answered)))
    (λ t apart acted. ap (acted_by t.reply) (standing_of-with_standing_other k m t.client t.message Over more ps apart) ∙ acted)

pub acted-step : (small : Small) (command : SmallCommand) (ps : List Party) (readings : Readings) (t : Slot) → is_acted ps t ≡ true
    → is_acted (step small command ps readings).parties t ≡ true
acted-step small (Load k target) ps readings t acted = acted-load k ps t acted
acted-step small (Serve k m) ps readings t acted = at (standing_of k m ps) refl where
  at : (o : Option Standing) → standing_of k m ps ≡ o → is_acted (serve_step small k m o ps (readings.asked (slot_of k m false))).parties t ≡ true
  at (Some Asked) e = acted-serve k m ps e t acted
  at (Some Answered) e = acted
  at (Some Over) e = acted
  at None e = acted
acted-step small (Deliver k m) ps readings t acted = at (standing_of k m ps) refl where
  at : (o : Option Standing) → standing_of k m ps ≡ o → is_acted (deliver_step k m o ps (readings.replied (slot_of k m true))).parties t ≡ true
  at (Some Answered) e = acted-deliver k m (pages_in (readings.replied (slot_of k m true))) ps e t acted
  at (Some Asked) e = acted
  at (Some Over) e = acted
  at None e = acted

pub acted-stays : (small : Small) (commands : List SmallCommand) (ps : List Party) (given : Slot → List ℕ) (t : Slot) → is_acted ps t ≡ true
    → is_acted (parties_from small commands ps given) t ≡ true
acted-stays small [] ps given t acted = acted
acted-stays small (command ∷ commands) ps given t acted =
    let o = side_step small command ps given in
    acted-stays small commands o.parties given t (acted-step small command ps _ t acted)
