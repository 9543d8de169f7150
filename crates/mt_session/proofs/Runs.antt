-- A run goes on by one command.
use Rattle.std.proofs.Common.{◌≡◌, ℕ, Bool, true, false, List, ◌∷◌, ◌++◌, refl, sym, ap, ◌∙◌, subst, length, Option, None, Some, append_assoc}
use Rattle.std.specs.Option.{is_some}
use Rattle.std.specs.Io.KnownBytes.{append_known}
use Rattle.mt_outside.specs.declared.wire.Slot.{Slot}
use Rattle.mt_outside.specs.Message.{Message, given_of, sends_of}
use Rattle.mt_outside.proofs.Known.{append_known-append}
use Rattle.mt_small.specs.declared.application.Small.{Small}
use Rattle.mt_small.specs.declared.command.SmallCommand.{SmallCommand}
use Rattle.mt_small.specs.declared.command.SmallCommand.TheVariants.{Load, Serve, Deliver}
use Rattle.mt_small.specs.Reading.{reads_request, reads_reply}
use Rattle.mt_session.specs.declared.party.Party.{Party}
use Rattle.mt_session.specs.declared.party.Standing.{Standing}
use Rattle.mt_session.specs.declared.party.Standing.TheVariants.{Asked, Answered, Over}
use Rattle.mt_session.specs.Parties.{standing_of, is_acted, acted_by}
use Rattle.mt_session.specs.Step.{slot_of, serve_step, deliver_step}
use Rattle.mt_session.specs.Sides.{readings, side_step, wired, lines_from, parties_from, sends_from}
use Rattle.mt_session.specs.WireFits.{IsTaken, table}
use Rattle.mt_session.specs.Command.{CommandWritten}
use Rattle.mt_session.specs.Progress.{AgreesOnActed, Progress}
use Rattle.mt_session.proofs.StandingsAfter.{standing_of-with_standing_same}
use Rattle.mt_session.proofs.Clients.{acted-step}

-- two tables that agree on what was acted on give the same step
step-agrees : (small : Small) (c : SmallCommand) (ps : List Party) (ms : List Message) (given : Slot → List ℕ)
    → AgreesOnActed (side_step small c ps (table ms)).parties ms given → side_step small c ps given ≡ side_step small c ps (table ms)
step-agrees small (Load k target) ps ms given agrees = refl
step-agrees small (Serve k m) ps ms given agrees = at (standing_of k m ps) refl agrees where
  at : (o : Option Standing) → standing_of k m ps ≡ o
      → AgreesOnActed (serve_step small k m o ps (reads_request small (given_of (slot_of k m false) ms))).parties ms given
      → serve_step small k m o ps (reads_request small (given (slot_of k m false)))
      ≡ serve_step small k m o ps (reads_request small (given_of (slot_of k m false) ms))
  at (Some Asked) e agrees = ap (λ bytes. serve_step small k m (Some Asked) ps (reads_request small bytes))
      (agrees (slot_of k m false) (ap (acted_by false) (standing_of-with_standing_same k m Answered 0 ps (ap is_some e))))
  at (Some Answered) e agrees = refl
  at (Some Over) e agrees = refl
  at None e agrees = refl
step-agrees small (Deliver k m) ps ms given agrees = at (standing_of k m ps) refl agrees where
  at : (o : Option Standing) → standing_of k m ps ≡ o
      → AgreesOnActed (deliver_step k m o ps (reads_reply (given_of (slot_of k m true) ms))).parties ms given
      → deliver_step k m o ps (reads_reply (given (slot_of k m true))) ≡ deliver_step k m o ps (reads_reply (given_of (slot_of k m true) ms))
  at (Some Answered) e agrees = ap (λ bytes. deliver_step k m (Some Answered) ps (reads_reply bytes))
      (agrees (slot_of k m true) (ap (acted_by true) (standing_of-with_standing_same k m Over _ ps (ap is_some e))))
  at (Some Asked) e agrees = refl
  at (Some Over) e agrees = refl
  at None e agrees = refl

pub progress-more : (small : Small) (all rest : List SmallCommand) (c : SmallCommand) (ps new_ps : List Party) (before held new_held : Option (List ℕ)) (old new : List Message)
    → Progress small all (c ∷ rest) ps before held old → CommandWritten small c ps new_ps held new_held old new → Progress small all rest new_ps before new_held new
progress-more small all rest c ps new_ps before held new_held old new progress command =
    let t = side_step small c ps (table new) in
    let sends = wired t.sends in
    let same = λ (g : Slot → List ℕ) (agrees : AgreesOnActed new_ps new g).
    step-agrees small c ps new g (subst (λ p. AgreesOnActed p new g) command.parties agrees) in
    let stays = λ (slot : Slot) (acted : is_acted ps slot ≡ true).
    ap (λ p. is_acted p slot) command.parties ∙ acted-step small c ps (readings small (table new)) slot acted in
    let back = λ (g : Slot → List ℕ) (agrees : AgreesOnActed new_ps new g) (slot : Slot) (acted : is_acted ps slot ≡ true).
    agrees slot (stays slot acted) ∙ command.kept.given slot acted in
    record {
      written = progress.written ++ t.lines;
      held = command.held ∙ ap (λ h. append_known h t.lines) progress.held ∙ append_known-append before progress.written t.lines;
      lines = λ g agrees.
          append_assoc progress.written t.lines (lines_from small rest new_ps g)
          ∙ ap (λ p. progress.written ++ (t.lines ++ lines_from small rest p g)) command.parties
          ∙ ap (λ u. progress.written ++ (u.lines ++ lines_from small rest u.parties g)) (sym (same g agrees))
          ∙ progress.lines g (back g agrees);
      sends = λ g agrees.
          ap (λ l. l ++ sends_from small rest new_ps g) command.sends
          ∙ append_assoc (sends_of old) sends (sends_from small rest new_ps g)
          ∙ ap (λ p. sends_of old ++ (sends ++ sends_from small rest p g)) command.parties
          ∙ ap (λ u. sends_of old ++ (wired u.sends ++ sends_from small rest u.parties g)) (sym (same g agrees))
          ∙ progress.sends g (back g agrees);
      parties_then = λ g agrees.
          ap (λ p. parties_from small rest p g) command.parties
          ∙ ap (λ u. parties_from small rest u.parties g) (sym (same g agrees))
          ∙ progress.parties_then g (back g agrees);
      fits = command.fits;
      taken = λ slot acted. taken_at slot acted (is_acted ps slot) refl;
    }
  where
    taken_at : (slot : Slot) → is_acted new_ps slot ≡ true → (b : Bool) → is_acted ps slot ≡ b → IsTaken slot new
    taken_at slot acted true e =
        λ not_ended. ap length (command.kept.given slot e) ∙ progress.taken slot e (sym (command.kept.ended slot e) ∙ not_ended)
    taken_at slot acted false e = command.taken slot e acted
