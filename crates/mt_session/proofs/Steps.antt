-- What each command does to the clients and to a wire that tells its messages.
use Rattle.std.proofs.Common.{◌≡◌, ℕ, ◌+◌, Bool, true, false, List, [], ◌∷◌, ◌++◌, length, refl, sym, ap, ◌∙◌, Some, append-nil, encode_utf8_all}
use Rattle.mt_outside.specs.Message.{Message, with_given, with_send, sends_of}
use Rattle.mt_outside.proofs.Given.{sends_of-with_given}
use Rattle.mt_small.specs.declared.application.Small.{Small}
use Rattle.mt_small.specs.declared.command.SmallCommand.{SmallCommand}
use Rattle.mt_small.specs.declared.command.SmallCommand.TheVariants.{Load, Serve, Deliver}
use Rattle.mt_small.specs.Wire.{load_wire, reply_wire}
use Rattle.mt_small.specs.Reading.{reads_request, reads_reply, server_job}
use Rattle.mt_session.specs.declared.party.Party.{Party}
use Rattle.mt_session.specs.declared.party.Standing.TheVariants.{Asked, Answered}
use Rattle.mt_session.specs.Parties.{standing_of, message_count, has_party, is_sent, is_acted, sent_by, acted_by}
use Rattle.mt_session.specs.Step.{slot_of, load_step, serve_step, deliver_step, skipped}
use Rattle.mt_session.specs.Transcript.{echo, skip_line, pages_in}
use Rattle.mt_session.specs.Sides.{side_step, wired}
use Rattle.mt_session.specs.WireFits.{WireFits, table, take_limit}
use Rattle.mt_session.specs.Command.{CommandDone}
use Rattle.mt_session.proofs.Slots.{given_of-with_send, ended_of-with_send, sends_of-with_send, given_of-with_given_other, ended_of-with_given_other}
use Rattle.mt_session.proofs.Fitting.{first-given, not-fresh, load-fits, load-acts, serve-fits, serve-taken, deliver-fits, deliver-taken}

pub done-load : (small : Small) (k : ℕ) (target : List ℕ) (ps : List Party) (out : List ℕ) (ms : List Message) → WireFits ps ms
    → let outcome = load_step k target ps in
    CommandDone small (Load k target) ps outcome.parties out (out ++ outcome.lines) ms
    (with_send (slot_of k (message_count k ps + 1) false) (load_wire (encode_utf8_all target)) ms)
done-load small k target ps out ms fits =
    let s = slot_of k (message_count k ps + 1) false in
    let bytes = load_wire (encode_utf8_all target) in
    record {
      parties = refl;
      lines = refl;
      sends = sends_of-with_send s bytes ms;
      fits = load-fits k bytes ps ms fits;
      kept = record {
        given = λ slot acted. given_of-with_send slot s bytes ms;
        ended = λ slot acted. ended_of-with_send slot s bytes ms;
      };
      taken = λ slot fresh acted. absurd (let e = sym fresh ∙ load-acts k ps slot acted in cc);
    }

pub done-serve : (small : Small) (k m : ℕ) (bytes : List ℕ) (ended : Bool) (ps : List Party) (out : List ℕ) (ms : List Message) → WireFits ps ms
    → standing_of k m ps ≡ Some Asked → (ended ≡ false → length bytes ≡ take_limit)
    → let outcome = serve_step small k m (Some Asked) ps (reads_request small bytes) in
    CommandDone small (Serve k m) ps outcome.parties out (out ++ outcome.lines) ms
    (with_send (slot_of k m true) (reply_wire (server_job small (reads_request small bytes))) (with_given (slot_of k m false) bytes ended ms))
done-serve small k m bytes ended ps out ms fits asked whole =
    let request_slot = slot_of k m false in
    let reply_slot = slot_of k m true in
    let reply = reply_wire (server_job small (reads_request small bytes)) in
    let mid = with_given request_slot bytes ended ms in
    let new = with_send reply_slot reply mid in
    let was_requested : is_sent ps request_slot ≡ true = ap (sent_by false) asked in
    let not_served : is_acted ps request_slot ≡ false = ap (acted_by false) asked in
    let given : table new request_slot ≡ bytes = given_of-with_send request_slot reply_slot reply mid ∙ first-given request_slot bytes ended ps ms fits not_served was_requested in
    let same : side_step small (Serve k m) ps (table new) ≡ serve_step small k m (Some Asked) ps (reads_request small bytes) =
    ap (λ o. serve_step small k m o ps (reads_request small (table new request_slot))) asked
    ∙ ap (λ b. serve_step small k m (Some Asked) ps (reads_request small b)) given in
    record {
      parties = sym (ap (λ t. t.parties) same);
      lines = ap (λ l. out ++ l) (sym (ap (λ t. t.lines) same));
      sends = sends_of-with_send reply_slot reply mid ∙ ap (λ l. l ++ (reply_slot, reply) ∷ []) (sends_of-with_given request_slot bytes ended ms)
          ∙ ap (λ l. sends_of ms ++ l) (sym (ap (λ t. wired t.sends) same));
      fits = serve-fits k m reply bytes ended ps ms fits asked;
      kept = record {
        given = λ slot acted. given_of-with_send slot reply_slot reply mid
            ∙ given_of-with_given_other slot request_slot bytes ended ms (not-fresh slot request_slot ps acted not_served);
        ended = λ slot acted. ended_of-with_send slot reply_slot reply mid
            ∙ ended_of-with_given_other slot request_slot bytes ended ms (not-fresh slot request_slot ps acted not_served);
      };
      taken = serve-taken k m reply bytes ended ps ms fits asked whole;
    }

pub done-deliver : (small : Small) (k m : ℕ) (bytes : List ℕ) (ended : Bool) (ps : List Party) (out : List ℕ) (ms : List Message) → WireFits ps ms
    → standing_of k m ps ≡ Some Answered → (ended ≡ false → length bytes ≡ take_limit)
    → let outcome = deliver_step k m (Some Answered) ps (reads_reply bytes) in
    CommandDone small (Deliver k m) ps outcome.parties out (out ++ outcome.lines) ms (with_given (slot_of k m true) bytes ended ms)
done-deliver small k m bytes ended ps out ms fits answered whole =
    let reply_slot = slot_of k m true in
    let new = with_given reply_slot bytes ended ms in
    let was_answered : is_sent ps reply_slot ≡ true = ap (sent_by true) answered in
    let not_taken : is_acted ps reply_slot ≡ false = ap (acted_by true) answered in
    let given : table new reply_slot ≡ bytes = first-given reply_slot bytes ended ps ms fits not_taken was_answered in
    let same : side_step small (Deliver k m) ps (table new) ≡ deliver_step k m (Some Answered) ps (reads_reply bytes) =
    ap (λ o. deliver_step k m o ps (reads_reply (table new reply_slot))) answered ∙ ap (λ b. deliver_step k m (Some Answered) ps (reads_reply b)) given in
    record {
      parties = sym (ap (λ t. t.parties) same);
      lines = ap (λ l. out ++ l) (sym (ap (λ t. t.lines) same));
      sends = sends_of-with_given reply_slot bytes ended ms ∙ sym (append-nil (sends_of ms)) ∙ ap (λ l. sends_of ms ++ l) (sym (ap (λ t. wired t.sends) same));
      fits = deliver-fits k m (pages_in (reads_reply bytes)) bytes ended ps ms fits answered;
      kept = record {
        given = λ slot acted. given_of-with_given_other slot reply_slot bytes ended ms (not-fresh slot reply_slot ps acted not_taken);
        ended = λ slot acted. ended_of-with_given_other slot reply_slot bytes ended ms (not-fresh slot reply_slot ps acted not_taken);
      };
      taken = deliver-taken k m (pages_in (reads_reply bytes)) bytes ended ps ms fits answered whole;
    }

-- a command that finds nothing to act on
pub done-skip : (small : Small) (command : SmallCommand) (ps : List Party) (out : List ℕ) (ms : List Message) → WireFits ps ms
    → (k : ℕ) → side_step small command ps (table ms) ≡ skipped k command ps
    → CommandDone small command ps ps out (out ++ (echo command ++ skip_line (has_party k ps))) ms ms
done-skip small command ps out ms fits k same = record {
  parties = sym (ap (λ t. t.parties) same);
  lines = ap (λ l. out ++ l) (sym (ap (λ t. t.lines) same));
  sends = sym (append-nil (sends_of ms)) ∙ ap (λ l. sends_of ms ++ l) (sym (ap (λ t. wired t.sends) same));
  fits = fits;
  kept = record { given = λ slot acted. refl; ended = λ slot acted. refl };
  taken = λ slot fresh acted. absurd (cc);
}
