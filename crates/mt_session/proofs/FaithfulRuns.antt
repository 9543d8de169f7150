-- The laws of a run over a faithful wire.
use Rattle.std.proofs.Common.{◌≡◌, ℕ, true, false, List, [], ◌++◌, length, refl, sym, ap, ◌∙◌, append-nil, Option, None, Some}
use Rattle.std.specs.List.{AllByRecursion}
use Rattle.mt_outside.specs.declared.wire.Slot.{Slot}
use Rattle.mt_outside.specs.Message.{Message, IsFaithful, sends_of}
use Rattle.mt_small.specs.declared.application.Small.{Small}
use Rattle.mt_small.specs.declared.command.SmallCommand.{SmallCommand}
use Rattle.mt_small.specs.Readable.{AsksForTarget}
use Rattle.mt_small.specs.Reading.{request_in, understood, reads_request, reads_reply}
use Rattle.mt_small.specs.Wire as small_wire
use Rattle.mt_small.specs.Wire.{load_back, page_front, page_middle, not_found_wire, bad_request_wire}
use Rattle.mt_session.specs.declared.party.Party.{Party}
use Rattle.mt_session.specs.Corresponds.{Corresponds, machine_after, bytes_at}
use Rattle.mt_session.specs.Machine.{Machine, message_at, asked_by, replied_by, machine_lines, machine_transcript, at_start}
use Rattle.mt_session.specs.Sides.{lines_from, parties_from, sends_from, wired, transcript}
use Rattle.mt_session.specs.Step.{slot_of}
use Rattle.mt_session.specs.Transcript.{end_line}
use Rattle.mt_session.specs.WireFits.{table, ActedAreTaken}
use Rattle.mt_session.proofs.Correspondence.{Agree, RunsAlike, runs_alike, asked_as_meant, replied_as_meant}
use Rattle.mt_session.proofs.MessageAt.{bytes_at-some, bytes_at-none}

at_first : Agree [] []
at_first = record { clients = refl; bytes = refl; sent = λ t. refl; readable = λ t message found. absurd (cc) }

so_far : (small : Small) (commands : List SmallCommand) (ms : List Message) (more : List (Slot × List ℕ)) → AllByRecursion AsksForTarget commands → IsFaithful ms
    → sends_of ms ≡ sends_from small commands [] (table ms) ++ more → ActedAreTaken (parties_from small commands [] (table ms)) ms
    → RunsAlike small commands [] [] (table ms)
so_far small commands ms more asks faithful sends taken = runs_alike small ms faithful more commands asks [] [] at_first sends taken

after_all : (small : Small) (commands : List SmallCommand) (ms : List Message) → AllByRecursion AsksForTarget commands → IsFaithful ms
    → sends_of ms ≡ sends_from small commands [] (table ms) → ActedAreTaken (parties_from small commands [] (table ms)) ms
    → RunsAlike small commands [] [] (table ms)
after_all small commands ms asks faithful sends taken =
    so_far small commands ms [] asks faithful (sends ∙ sym (append-nil (sends_from small commands [] (table ms)))) taken

pub transcript_is_machine_transcript : (small : Small) (commands : List SmallCommand) (ms : List Message) → AllByRecursion AsksForTarget commands → IsFaithful ms
    → sends_of ms ≡ sends_from small commands [] (table ms) → ActedAreTaken (parties_from small commands [] (table ms)) ms
    → transcript small commands (table ms) ≡ machine_transcript small commands
transcript_is_machine_transcript small commands ms asks faithful sends taken =
    ap (λ (l : List ℕ). l ++ end_line (length commands)) (after_all small commands ms asks faithful sends taken).lines

pub sends_are_machine_messages : (small : Small) (commands : List SmallCommand) (ms : List Message) → AllByRecursion AsksForTarget commands → IsFaithful ms
    → sends_of ms ≡ sends_from small commands [] (table ms) → ActedAreTaken (parties_from small commands [] (table ms)) ms
    → sends_of ms ≡ wired (machine_after small commands at_start).messages
sends_are_machine_messages small commands ms asks faithful sends taken =
    sends ∙ sym (after_all small commands ms asks faithful sends taken).after.bytes

pub states_correspond : (small : Small) (commands : List SmallCommand) (ms : List Message) (more : List (Slot × List ℕ)) → AllByRecursion AsksForTarget commands → IsFaithful ms
    → sends_of ms ≡ sends_from small commands [] (table ms) ++ more → ActedAreTaken (parties_from small commands [] (table ms)) ms
    → Corresponds (machine_after small commands at_start) (parties_from small commands [] (table ms)) (sends_from small commands [] (table ms))
states_correspond small commands ms more asks faithful sends taken = (so_far small commands ms more asks faithful sends taken).after

pub lines_are_machine_lines : (small : Small) (commands : List SmallCommand) (ms : List Message) (more : List (Slot × List ℕ)) → AllByRecursion AsksForTarget commands → IsFaithful ms
    → sends_of ms ≡ sends_from small commands [] (table ms) ++ more → ActedAreTaken (parties_from small commands [] (table ms)) ms
    → lines_from small commands [] (table ms) ≡ machine_lines small commands at_start
lines_are_machine_lines small commands ms more asks faithful sends taken = (so_far small commands ms more asks faithful sends taken).lines

-- ---- the bytes that were sent read as the messages

-- no bytes are no request and no reply
no_reply : reads_reply [] ≡ None
unfolding not_found_wire bad_request_wire page_front page_middle
no_reply = refl

no_request : request_in [] ≡ None
unfolding load_back
no_request = refl

pub requests_read_alike : (small : Small) (machine : Machine) (parties : List Party) (sends : List (Slot × List ℕ)) (k m : ℕ) → Corresponds machine parties sends
    → reads_request small (bytes_at (slot_of k m false) sends) ≡ asked_by small (message_at (slot_of k m false) machine.messages)
requests_read_alike small machine parties sends k m alike =
    ap (λ (l : List (Slot × List ℕ)). reads_request small (bytes_at t l)) (sym alike.bytes) ∙ at (message_at t machine.messages) refl where
      t : Slot
      t = slot_of k m false

      at : (o : Option small_wire.Message) → message_at t machine.messages ≡ o → reads_request small (bytes_at t (wired machine.messages)) ≡ asked_by small (message_at t machine.messages)
      at (Some message) e =
          ap (reads_request small) (bytes_at-some t machine.messages message e) ∙ asked_as_meant small message (alike.readable t message e) ∙ ap (asked_by small) (sym e)
      at None e = ap (reads_request small) (bytes_at-none t machine.messages e) ∙ ap (understood small) no_request ∙ ap (asked_by small) (sym e)

pub replies_read_alike : (machine : Machine) (parties : List Party) (sends : List (Slot × List ℕ)) (k m : ℕ) → Corresponds machine parties sends
    → reads_reply (bytes_at (slot_of k m true) sends) ≡ replied_by (message_at (slot_of k m true) machine.messages)
replies_read_alike machine parties sends k m alike =
    ap (λ (l : List (Slot × List ℕ)). reads_reply (bytes_at t l)) (sym alike.bytes) ∙ at (message_at t machine.messages) refl where
      t : Slot
      t = slot_of k m true

      at : (o : Option small_wire.Message) → message_at t machine.messages ≡ o → reads_reply (bytes_at t (wired machine.messages)) ≡ replied_by (message_at t machine.messages)
      at (Some message) e =
          ap reads_reply (bytes_at-some t machine.messages message e) ∙ replied_as_meant message (alike.readable t message e) ∙ ap replied_by (sym e)
      at None e = ap reads_reply (bytes_at-none t machine.messages e) ∙ no_reply ∙ ap replied_by (sym e)
