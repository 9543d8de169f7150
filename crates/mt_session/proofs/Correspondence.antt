-- Each command keeps the correspondence of a run over bytes and the run of the machine.
use Rattle.std.proofs.Common.{◌≡◌, ◌<◌, ◌+◌, ℕ, Bool, true, false, ◌||◌, List, [], ◌∷◌, ◌++◌, length, refl, sym, ap, ◌∙◌, subst, append_assoc, append-nil, is_some, Option, None, Some}
use Rattle.std.specs.List.{AllByRecursion}
use Rattle.mt_outside.specs.declared.wire.Slot.{Slot}
use Rattle.mt_outside.specs.Message as outside
use Rattle.mt_outside.specs.Message.{IsFaithful, is_slot, given_of, sends_of}
use Rattle.mt_small.specs.declared.application.Small.{Small}
use Rattle.mt_small.specs.declared.command.SmallCommand.{SmallCommand}
use Rattle.mt_small.specs.declared.command.SmallCommand.TheVariants.{Load, Serve, Deliver}
use Rattle.mt_small.specs.Readable.{IsReadable, AsksForTarget}
use Rattle.mt_small.specs.Reading.{reads_request, reads_reply, server_job}
use Rattle.mt_small.specs.Wire.{Message, request, answer, wire, reply_wire}
use Rattle.mt_small.proofs.Messages.{texts_are_short, requests_read_as_meant, answers_are_readable}
use Rattle.mt_small.proofs.Replies.{reads_reply_is}
use Rattle.mt_session.specs.declared.party.Party.{Party}
use Rattle.mt_session.specs.declared.party.Standing.{Standing}
use Rattle.mt_session.specs.declared.party.Standing.TheVariants.{Asked, Answered, Over}
use Rattle.mt_session.specs.Corresponds.{Corresponds, IsReadableAs, machine_after}
use Rattle.mt_session.specs.Machine.{Machine, message_at, asked_by, replied_by, understandings, machine_lines}
use Rattle.mt_session.specs.Parties.{standing_of, message_count, with_request, with_standing, is_sent, is_acted, sent_by, acted_by}
use Rattle.mt_session.specs.Sides.{readings, side_step, lines_from, parties_from, sends_from, wired}
use Rattle.mt_session.specs.Step.{slot_of, Readings, Outcome, step, serve_step, deliver_step}
use Rattle.mt_session.specs.Transcript.{pages_in}
use Rattle.mt_session.specs.WireFits.{take_limit, table, IsTaken, ActedAreTaken}
use Rattle.mt_session.proofs.Clients.{sent-load, sent-serve, sent-deliver, acted-stays}
use Rattle.mt_session.proofs.MessageAt.{wired-append, is_message_at-push, message_at-push, given_whole}
use Rattle.mt_session.proofs.Slots.{slot-equal}
use Rattle.mt_session.proofs.StandingsAfter.{standing_of-with_standing_same}

abbrev state : List Party → List (Slot × Message) → Machine
state ps messages = record { parties = ps; messages = messages }

-- the machine in this state, and the run that it corresponds to
abbrev pub Agree : List Party → List (Slot × Message) → Type 0
Agree ps messages = Corresponds (state ps messages) ps (wired messages)

-- ---- a message is read as it was meant

is_readable : (reply : Bool) (message : Message) → IsReadableAs reply message → IsReadable message
is_readable false (request target) good = good
is_readable false (answer r) good = absurd good
is_readable true (request target) good = absurd good
is_readable true (answer r) good = good

short_message : (reply : Bool) (message : Message) → IsReadableAs reply message → length (wire message) < take_limit
short_message reply message good = texts_are_short message (is_readable reply message good)

pub asked_as_meant : (small : Small) (message : Message) → IsReadableAs false message → reads_request small (wire message) ≡ asked_by small (Some message)
asked_as_meant small (request target) good = requests_read_as_meant small target good
asked_as_meant small (answer r) good = absurd good

pub replied_as_meant : (message : Message) → IsReadableAs true message → reads_reply (wire message) ≡ replied_by (Some message)
replied_as_meant (request target) good = absurd good
replied_as_meant (answer r) good = (reads_reply_is (reply_wire r) r).1 (good, refl)

-- ---- one more message

agree-send : (ps new_ps : List Party) (messages : List (Slot × Message)) (slot : Slot) (message : Message) → Agree ps messages
    → ((t : Slot) → (is_sent ps t || is_slot t slot) ≡ is_sent new_ps t) → IsReadableAs slot.reply message
    → Agree new_ps (messages ++ (slot, message) ∷ [])
agree-send ps new_ps messages slot message agree sent good = record {
  clients = refl;
  bytes = refl;
  sent = λ t. is_message_at-push t messages (slot, message) ∙ ap (λ (b : Bool). b || is_slot t slot) (agree.sent t) ∙ sent t;
  readable = λ t other found. message_at-push t messages (slot, message) other (IsReadableAs t.reply other) found
      (λ before. agree.readable t other before)
      (λ here same. subst (λ (x : Message). IsReadableAs t.reply x) same
      (subst (λ (s : Slot). IsReadableAs s.reply message) (sym (slot-equal t slot here)) good));
}

agree-silent : (ps new_ps : List Party) (messages : List (Slot × Message)) → Agree ps messages → ((t : Slot) → is_sent ps t ≡ is_sent new_ps t)
    → Agree new_ps (messages ++ [])
agree-silent ps new_ps messages agree sent = rw (append-nil messages) record {
  clients = refl;
  bytes = refl;
  sent = λ t. agree.sent t ∙ sent t;
  readable = agree.readable;
}

-- whatever each side understands
agree-step : (small : Small) → (command : SmallCommand) → AsksForTarget command → (ps : List Party) (messages : List (Slot × Message)) (readings : Readings)
    → Agree ps messages → let o = step small command ps readings in Agree o.parties (messages ++ o.sends)
agree-step small (Load k target) asks ps messages readings agree =
    agree-send ps (with_request k ps) messages (slot_of k (message_count k ps + 1) false) (request target) agree (sent-load k ps) asks
agree-step small (Serve k m) asks ps messages readings agree = at (standing_of k m ps) refl where
  at : (o : Option Standing) → standing_of k m ps ≡ o
      → let s = serve_step small k m o ps (readings.asked (slot_of k m false)) in Agree s.parties (messages ++ s.sends)
  at (Some Asked) e =
      let said = server_job small (readings.asked (slot_of k m false)) in
      agree-send ps (with_standing k m Answered 0 ps) messages (slot_of k m true) (answer said) agree (sent-serve k m ps e)
      (answers_are_readable small (readings.asked (slot_of k m false)))
  at (Some Answered) e = agree-silent ps ps messages agree (λ t. refl)
  at (Some Over) e = agree-silent ps ps messages agree (λ t. refl)
  at None e = agree-silent ps ps messages agree (λ t. refl)
agree-step small (Deliver k m) asks ps messages readings agree = at (standing_of k m ps) refl where
  at : (o : Option Standing) → standing_of k m ps ≡ o
      → let s = deliver_step k m o ps (readings.replied (slot_of k m true)) in Agree s.parties (messages ++ s.sends)
  at (Some Answered) e =
      let more = pages_in (readings.replied (slot_of k m true)) in
      agree-silent ps (with_standing k m Over more ps) messages agree (sent-deliver k m more ps e)
  at (Some Asked) e = agree-silent ps ps messages agree (λ t. refl)
  at (Some Over) e = agree-silent ps ps messages agree (λ t. refl)
  at None e = agree-silent ps ps messages agree (λ t. refl)

-- ---- both understand the same where a side acts

same_step : (small : Small) (command : SmallCommand) (ps : List Party) (one other : Readings)
    → ((k m : ℕ) → is_sent ps (slot_of k m false) ≡ true → is_acted (step small command ps one).parties (slot_of k m false) ≡ true
    → one.asked (slot_of k m false) ≡ other.asked (slot_of k m false))
    → ((k m : ℕ) → is_sent ps (slot_of k m true) ≡ true → is_acted (step small command ps one).parties (slot_of k m true) ≡ true
    → one.replied (slot_of k m true) ≡ other.replied (slot_of k m true))
    → step small command ps one ≡ step small command ps other
same_step small (Load k target) ps one other asked replied = refl
same_step small (Serve k m) ps one other asked replied = at (standing_of k m ps) refl (asked k m) where
  at : (o : Option Standing) → standing_of k m ps ≡ o
      → (is_sent ps (slot_of k m false) ≡ true → is_acted (serve_step small k m o ps (one.asked (slot_of k m false))).parties (slot_of k m false) ≡ true
      → one.asked (slot_of k m false) ≡ other.asked (slot_of k m false))
      → serve_step small k m o ps (one.asked (slot_of k m false)) ≡ serve_step small k m o ps (other.asked (slot_of k m false))
  at (Some Asked) e same = ap (serve_step small k m (Some Asked) ps)
      (same (ap (sent_by false) e) (ap (acted_by false) (standing_of-with_standing_same k m Answered 0 ps (ap is_some e))))
  at (Some Answered) e same = refl
  at (Some Over) e same = refl
  at None e same = refl
same_step small (Deliver k m) ps one other asked replied = at (standing_of k m ps) refl (replied k m) where
  at : (o : Option Standing) → standing_of k m ps ≡ o
      → (is_sent ps (slot_of k m true) ≡ true → is_acted (deliver_step k m o ps (one.replied (slot_of k m true))).parties (slot_of k m true) ≡ true
      → one.replied (slot_of k m true) ≡ other.replied (slot_of k m true))
      → deliver_step k m o ps (one.replied (slot_of k m true)) ≡ deliver_step k m o ps (other.replied (slot_of k m true))
  at (Some Answered) e same = ap (deliver_step k m (Some Answered) ps)
      (same (ap (sent_by true) e)
      (ap (acted_by true) (standing_of-with_standing_same k m Over (pages_in (one.replied (slot_of k m true))) ps (ap is_some e))))
  at (Some Asked) e same = refl
  at (Some Over) e same = refl
  at None e same = refl

-- a message that was sent is there
sent_message : (o : Option Message) → is_some o ≡ true → (message : Message) × (o ≡ Some message)
sent_message (Some message) some = (message, refl)
sent_message None some = absurd (cc)

-- a message that was sent and taken was given as it was meant
given_as_meant : (ps : List Party) (messages : List (Slot × Message)) (ms : List outside.Message) (more : List (Slot × List ℕ)) → Agree ps messages → IsFaithful ms
    → sends_of ms ≡ wired messages ++ more → (t : Slot) → is_sent ps t ≡ true → IsTaken t ms
    → (message : Message) × (message_at t messages ≡ Some message) × IsReadableAs t.reply message × (given_of t ms ≡ wire message)
given_as_meant ps messages ms more agree faithful sends t sent taken =
    let found = sent_message (message_at t messages) (agree.sent t ∙ sent) in
    let good = agree.readable t found.0 found.1 in
    (found.0, found.1, good, given_whole t messages found.0 ms more faithful sends found.1 (short_message t.reply found.0 good) taken)

pub understood_alike : (small : Small) (command : SmallCommand) (ps : List Party) (messages : List (Slot × Message)) (ms : List outside.Message) (more : List (Slot × List ℕ))
    → Agree ps messages → IsFaithful ms → sends_of ms ≡ wired messages ++ more
    → ((t : Slot) → is_acted (side_step small command ps (table ms)).parties t ≡ true → IsTaken t ms)
    → side_step small command ps (table ms) ≡ step small command ps (understandings small messages)
understood_alike small command ps messages ms more agree faithful sends taken =
    same_step small command ps (readings small (table ms)) (understandings small messages)
    (λ k m sent acted.
    let t = slot_of k m false in
    let meant = given_as_meant ps messages ms more agree faithful sends t sent (taken t acted) in
    ap (reads_request small) meant.3 ∙ asked_as_meant small meant.0 meant.2 ∙ ap (asked_by small) (sym meant.1))
    (λ k m sent acted.
    let t = slot_of k m true in
    let meant = given_as_meant ps messages ms more agree faithful sends t sent (taken t acted) in
    ap reads_reply meant.3 ∙ replied_as_meant meant.0 meant.2 ∙ ap replied_by (sym meant.1))

-- ---- a list of commands

pub record RunsAlike (small : Small) (commands : List SmallCommand) (ps : List Party) (messages : List (Slot × Message)) (given : Slot → List ℕ) : Type 0 where
  pub lines : lines_from small commands ps given ≡ machine_lines small commands (state ps messages)
  pub after : Corresponds (machine_after small commands (state ps messages)) (parties_from small commands ps given) (wired messages ++ sends_from small commands ps given)

-- whatever was sent after them
pub runs_alike : (small : Small) → (ms : List outside.Message) → IsFaithful ms → (more : List (Slot × List ℕ)) → (commands : List SmallCommand)
    → AllByRecursion AsksForTarget commands → (ps : List Party) (messages : List (Slot × Message)) → Agree ps messages
    → sends_of ms ≡ wired messages ++ (sends_from small commands ps (table ms) ++ more)
    → ActedAreTaken (parties_from small commands ps (table ms)) ms
    → RunsAlike small commands ps messages (table ms)
runs_alike small ms faithful more [] asks ps messages agree sends taken = record {
  lines = refl;
  after = rw (append-nil (wired messages)) agree;
}
runs_alike small ms faithful more (command ∷ commands) asks ps messages agree sends taken =
    let given = table ms in
    let o = side_step small command ps given in
    let rest = sends_from small commands o.parties given in
    let joined : sends_of ms ≡ wired messages ++ (wired o.sends ++ (rest ++ more)) = sends ∙ ap (λ (l : List (Slot × List ℕ)). wired messages ++ l) (append_assoc (wired o.sends) rest more) in
    let same : o ≡ step small command ps (understandings small messages) =
    understood_alike small command ps messages ms (wired o.sends ++ (rest ++ more)) agree faithful joined
    (λ t acted. taken t (acted-stays small commands o.parties given t acted)) in
    let now : Agree o.parties (messages ++ o.sends) = agree-step small command asks.0 ps messages (readings small given) agree in
    let next : RunsAlike small commands o.parties (messages ++ o.sends) given =
    runs_alike small ms faithful more commands asks.1 o.parties (messages ++ o.sends) now
    (joined ∙ sym (append_assoc (wired messages) (wired o.sends) (rest ++ more))
    ∙ ap (λ (l : List (Slot × List ℕ)). l ++ (rest ++ more)) (sym (wired-append messages o.sends)))
    taken in
    record {
      lines = ap (λ (l : List ℕ). o.lines ++ l) next.lines
          ∙ ap (λ (u : Outcome). u.lines ++ machine_lines small commands (state u.parties (messages ++ u.sends))) same;
      after = subst (λ (u : Outcome). Corresponds (machine_after small commands (state u.parties (messages ++ u.sends))) (parties_from small commands o.parties given)
          (wired messages ++ (wired o.sends ++ sends_from small commands o.parties given))) same
          (subst (λ (l : List (Slot × List ℕ)). Corresponds (machine_after small commands (state o.parties (messages ++ o.sends))) (parties_from small commands o.parties given) l)
          (ap (λ (l : List (Slot × List ℕ)). l ++ sends_from small commands o.parties given) (wired-append messages o.sends)
          ∙ append_assoc (wired messages) (wired o.sends) (sends_from small commands o.parties given))
          next.after);
    }
