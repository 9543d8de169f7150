-- The same of a wire that may not tell its messages.
use Rattle.std.proofs.Common.{◌≡◌, ℕ, ◌+◌, Bool, true, false, List, ◌++◌, length, refl, ap, ◌∙◌, Option, None, Some, encode_utf8_all, Result, Ok, Err, OnOk}
use Rattle.std.specs.Option.{option_map, ForSome}
use Rattle.mt_outside.specs.declared.wire.Slot.{Slot}
use Rattle.mt_outside.specs.Message.{Message, with_given, with_send, was_sent, TookSome}
use Rattle.mt_outside.proofs.Given.{was_sent-with_given, sends_of-with_given}
use Rattle.mt_small.specs.declared.application.Small.{Small}
use Rattle.mt_small.specs.declared.command.SmallCommand.{SmallCommand}
use Rattle.mt_small.specs.declared.command.SmallCommand.TheVariants.{Load, Serve, Deliver}
use Rattle.mt_small.specs.declared.message.Reply.{Reply}
use Rattle.mt_small.specs.Wire.{load_wire, reply_wire}
use Rattle.mt_small.specs.Reading.{reads_request, reads_reply, server_job}
use Rattle.mt_session.specs.declared.party.Party.{Party}
use Rattle.mt_session.specs.declared.party.Standing.{Standing}
use Rattle.mt_session.specs.declared.party.Standing.TheVariants.{Asked, Answered, Over}
use Rattle.mt_session.specs.Parties.{standing_of, message_count, with_request, with_standing, is_sent, is_acted, has_party}
use Rattle.mt_session.specs.Step.{slot_of, load_step, serve_step, deliver_step, skipped}
use Rattle.mt_session.specs.Transcript.{echo, skip_line, pages_in}
use Rattle.mt_session.specs.Sides.{side_step}
use Rattle.mt_session.specs.WireFits.{WireFits, IfBothTell, table, take_limit}
use Rattle.mt_session.specs.Command.{CommandDone, CommandFailed}
use Rattle.mt_session.proofs.Slots.{given_of-with_given_other, ended_of-with_given_other}
use Rattle.mt_session.proofs.Fitting.{not-fresh}
use Rattle.mt_session.proofs.Steps.{done-load, done-serve, done-deliver, done-skip}

-- a message that was not sent still is not, whatever was given
pub still-unsent : (t slot : Slot) (old new : Option (List Message)) (xs : List ℕ) (a : Bool)
    → new ≡ option_map (with_given slot xs a) old → ForSome old (λ ms. was_sent t ms ≡ false) → ForSome new (λ ms. was_sent t ms ≡ false)
still-unsent t slot None new xs a is unsent ms told = absurd (cc)
still-unsent t slot (Some before) new xs a is unsent ms told =
    let same : ms ≡ with_given slot xs a before = cc in
    rw (same, was_sent-with_given t slot xs a before) (unsent before refl)

-- what the clients say of a slot is what the wire says
pub sent-told : (slot : Slot) (sent : Bool) (ps : List Party) (old : Option (List Message)) → ForSome old (WireFits ps) → is_sent ps slot ≡ sent
    → ForSome old (λ ms. was_sent slot ms ≡ sent)
sent-told slot sent ps old fits is ms told = (fits ms told).sent slot ∙ is

pub failed-same : (old new : Option (List Message)) (ps : List Party) → new ≡ old → IfBothTell old new (CommandFailed ps)
failed-same None new ps same = rw same tt
failed-same (Some ms) new ps same = rw same record { sends = refl; kept = record { given = λ slot acted. refl; ended = λ slot acted. refl } }

pub failed-took : (slot : Slot) (old new : Option (List Message)) (ps : List Party) → TookSome slot old new → is_acted ps slot ≡ false → IfBothTell old new (CommandFailed ps)
failed-took slot None new ps some fresh = rw some.took tt
failed-took slot (Some ms) new ps some fresh = rw some.took record {
  sends = sends_of-with_given slot some.bytes some.ended ms;
  kept = record {
    given = λ t acted. given_of-with_given_other t slot some.bytes some.ended ms (not-fresh t slot ps acted fresh);
    ended = λ t acted. ended_of-with_given_other t slot some.bytes some.ended ms (not-fresh t slot ps acted fresh);
  };
}

pub told-load : (small : Small) (k : ℕ) (target : List ℕ) (ps new_ps : List Party) (out new_out : List ℕ) (old new : Option (List Message))
    → ForSome old (WireFits ps) → new_ps ≡ with_request k ps → new_out ≡ out ++ (load_step k target ps).lines
    → new ≡ option_map (with_send (slot_of k (message_count k ps + 1) false) (load_wire (encode_utf8_all target))) old
    → IfBothTell old new (CommandDone small (Load k target) ps new_ps out new_out)
told-load small k target ps new_ps out new_out None new fits parties lines is = rw is tt
told-load small k target ps new_ps out new_out (Some ms) new fits parties lines is =
    rw (is, parties, lines) (done-load small k target ps out ms (fits ms refl))

pub told-serve : (small : Small) (k m : ℕ) (bytes : List ℕ) (ended : Bool) (ps new_ps : List Party) (out new_out : List ℕ) (old new : Option (List Message))
    → ForSome old (WireFits ps) → standing_of k m ps ≡ Some Asked → (ended ≡ false → length bytes ≡ take_limit)
    → new_ps ≡ with_standing k m Answered 0 ps → new_out ≡ out ++ (serve_step small k m (Some Asked) ps (reads_request small bytes)).lines
    → new ≡ option_map (with_send (slot_of k m true) (reply_wire (server_job small (reads_request small bytes)))) (option_map (with_given (slot_of k m false) bytes ended) old)
    → IfBothTell old new (CommandDone small (Serve k m) ps new_ps out new_out)
told-serve small k m bytes ended ps new_ps out new_out None new fits asked whole parties lines is = rw is tt
told-serve small k m bytes ended ps new_ps out new_out (Some ms) new fits asked whole parties lines is =
    rw (is, parties, lines) (done-serve small k m bytes ended ps out ms (fits ms refl) asked whole)

pub told-deliver : (small : Small) (k m : ℕ) (bytes : List ℕ) (ended : Bool) (ps new_ps : List Party) (out new_out : List ℕ) (old new : Option (List Message))
    → ForSome old (WireFits ps) → standing_of k m ps ≡ Some Answered → (ended ≡ false → length bytes ≡ take_limit)
    → new_ps ≡ with_standing k m Over (pages_in (reads_reply bytes)) ps → new_out ≡ out ++ (deliver_step k m (Some Answered) ps (reads_reply bytes)).lines
    → new ≡ option_map (with_given (slot_of k m true) bytes ended) old
    → IfBothTell old new (CommandDone small (Deliver k m) ps new_ps out new_out)
told-deliver small k m bytes ended ps new_ps out new_out None new fits answered whole parties lines is = rw is tt
told-deliver small k m bytes ended ps new_ps out new_out (Some ms) new fits answered whole parties lines is =
    rw (is, parties, lines) (done-deliver small k m bytes ended ps out ms (fits ms refl) answered whole)

pub told-skip : (small : Small) (command : SmallCommand) (k : ℕ) (ps new_ps : List Party) (out new_out : List ℕ) (old new : Option (List Message))
    → ForSome old (WireFits ps) → ((ms : List Message) → side_step small command ps (table ms) ≡ skipped k command ps)
    → new_ps ≡ ps → new_out ≡ out ++ (echo command ++ skip_line (has_party k ps)) → new ≡ old
    → IfBothTell old new (CommandDone small command ps new_ps out new_out)
told-skip small command k ps new_ps out new_out None new fits skip parties lines is = rw is tt
told-skip small command k ps new_ps out new_out (Some ms) new fits skip parties lines is =
    rw (is, parties, lines) (done-skip small command ps out ms (fits ms refl) k (skip ms))

-- two clauses at `Ok` give a third
pub OnOk-two : {T E P Q S : Type 0} (r : Result T E) → (P → Q → S) → OnOk r P → OnOk r Q → OnOk r S
OnOk-two (Ok x) f p q = f p q
OnOk-two (Err e) f p q = tt

-- a reply that can't be taken now
pub told-undelivered : (small : Small) (k m : ℕ) (o : Option Standing) (ps : List Party) (out new_out : List ℕ) (old : Option (List Message))
    → ForSome old (WireFits ps) → standing_of k m ps ≡ o → ((reply : Option Reply) → deliver_step k m o ps reply ≡ skipped k (Deliver k m) ps)
    → new_out ≡ out ++ (echo (Deliver k m) ++ skip_line (has_party k ps))
    → IfBothTell old old (CommandDone small (Deliver k m) ps ps out new_out)
told-undelivered small k m o ps out new_out old fits stands skips lines =
    told-skip small (Deliver k m) k ps ps out new_out old old fits
    (λ ms. ap (λ o. deliver_step k m o ps (reads_reply (table ms (slot_of k m true)))) stands ∙ skips (reads_reply (table ms (slot_of k m true))))
    refl lines refl
