-- The run of a schedule over a wire that may not tell its messages.
use Rattle.std.proofs.Common.{◌≡◌, ℕ, List, [], ◌∷◌, ◌++◌, length, refl, sym, ap, ◌∙◌, subst, Option, None, Some, append_assoc, append-nil}
use Rattle.std.specs.Option.{is_some, ForSome, IfSome}
use Rattle.std.specs.Io.KnownBytes.{append_known}
use Rattle.mt_outside.specs.Message.{Message, sends_of}
use Rattle.mt_outside.specs.Sink.{GrewByPrefix}
use Rattle.mt_outside.proofs.Known.{append_known-nil, append_known-append, GrewByPrefix-then, GrewByPrefix-more}
use Rattle.mt_small.specs.declared.application.Small.{Small}
use Rattle.mt_small.specs.declared.command.SmallCommand.{SmallCommand}
use Rattle.mt_session.specs.declared.party.Party.{Party}
use Rattle.mt_session.specs.Transcript.{end_line}
use Rattle.mt_session.specs.Sides.{side_step, wired, lines_from, parties_from, sends_from, transcript}
use Rattle.mt_session.specs.WireFits.{WireFits, ActedAreTaken, IfBothTell, table}
use Rattle.mt_session.specs.Command.{IsFront, CommandDone, CommandFailed, CommandWritten, CommandInterrupted}
use Rattle.mt_session.specs.Progress.{Progress}
use Rattle.mt_session.proofs.Runs.{progress-more}

-- what is known at the end of a run that was not broken off
pub record Ended (small : Small) (all : List SmallCommand) (before now : Option (List ℕ)) (ms : List Message) : Type 0 where
  pub transcript : now ≡ append_known before (transcript small all (table ms))
  pub sends : sends_of ms ≡ sends_from small all [] (table ms)
  pub fits : WireFits (parties_from small all [] (table ms)) ms
  pub taken : ActedAreTaken (parties_from small all [] (table ms)) ms

-- and of one that was
pub record BrokenOff (small : Small) (all : List SmallCommand) (before now : Option (List ℕ)) (ms : List Message) : Type 0 where
  pub prefix : GrewByPrefix before now (transcript small all (table ms))
  pub sends : IsFront (sends_of ms) (sends_from small all [] (table ms))

pub start : (small : Small) (all : List SmallCommand) (held : Option (List ℕ)) (ps : List Party) (told : Option (List Message))
    → ForSome told (λ ms. ms ≡ []) → ps ≡ [] → IfSome told (Progress small all all ps held held)
start small all held ps None empty none = tt
start small all held ps (Some ms) empty none = rw (empty ms refl, none) record {
  written = [];
  held = sym (append_known-nil held);
  lines = λ g agrees. refl;
  sends = λ g agrees. refl;
  parties_then = λ g agrees. refl;
  fits = record {
    sent = λ slot. refl;
    fresh = λ slot fresh. refl;
  };
  taken = λ slot acted not_ended. absurd (cc);
}

pub more : (small : Small) (all rest left : List SmallCommand) (c : SmallCommand) (ps new_ps : List Party) (before held new_held : Option (List ℕ)) (old new : Option (List Message))
    → left ≡ c ∷ rest → IfSome old (Progress small all left ps before held)
    → IfBothTell old new (CommandWritten small c ps new_ps held new_held) → IfSome new (Progress small all rest new_ps before new_held)
more small all rest left c ps new_ps before held new_held None None is progress command = tt
more small all rest left c ps new_ps before held new_held None (Some new) is progress command = absurd command
more small all rest left c ps new_ps before held new_held (Some old) None is progress command = absurd command
more small all rest left c ps new_ps before held new_held (Some old) (Some new) is progress command =
    progress-more small all rest c ps new_ps before held new_held old new (subst (λ l. Progress small all l ps before held old) is progress) command

pub fits-then : (small : Small) (all left : List SmallCommand) (ps : List Party) (before held : Option (List ℕ)) (told : Option (List Message))
    → IfSome told (Progress small all left ps before held) → ForSome told (WireFits ps)
fits-then small all left ps before held None progress ms e = absurd (cc)
fits-then small all left ps before held (Some old) progress ms e = let same : old ≡ ms = cc in subst (WireFits ps) same progress.fits

-- a wire tells after a command exactly where it told before
pub tells-same : (old new : Option (List Message)) (P : List Message → List Message → Type 0) → IfBothTell old new P → is_some new ≡ is_some old
tells-same None None P both = refl
tells-same None (Some new) P both = absurd both
tells-same (Some old) None P both = absurd both
tells-same (Some old) (Some new) P both = refl

all-written : (small : Small) (all : List SmallCommand) (ps : List Party) (before held : Option (List ℕ)) (ms : List Message)
    → (progress : Progress small all [] ps before held ms) → progress.written ≡ lines_from small all [] (table ms)
all-written small all ps before held ms progress = sym (append-nil progress.written) ∙ progress.lines (table ms) (λ slot acted. refl)

all-sent : (small : Small) (all : List SmallCommand) (ps : List Party) (before held : Option (List ℕ)) (ms : List Message)
    → Progress small all [] ps before held ms → sends_of ms ≡ sends_from small all [] (table ms)
all-sent small all ps before held ms progress = sym (append-nil (sends_of ms)) ∙ progress.sends (table ms) (λ slot acted. refl)

-- the last line was written too
pub ended : (small : Small) (all left : List SmallCommand) (ps : List Party) (before held now : Option (List ℕ)) (told : Option (List Message))
    → left ≡ [] → IfSome told (Progress small all left ps before held) → now ≡ append_known held (end_line (length all))
    → IfSome told (Ended small all before now)
ended small all left ps before held now None none progress last = tt
ended small all left ps before held now (Some ms) none progress last =
    let at = subst (λ l. Progress small all l ps before held ms) none progress in
    let parties = at.parties_then (table ms) (λ slot acted. refl) in
    record {
      transcript = last ∙ ap (λ h. append_known h (end_line (length all))) at.held ∙ append_known-append before at.written (end_line (length all))
          ∙ ap (λ l. append_known before (l ++ end_line (length all))) (all-written small all ps before held ms at);
      sends = all-sent small all ps before held ms at;
      fits = subst (λ p. WireFits p ms) parties at.fits;
      taken = subst (λ p. ActedAreTaken p ms) parties at.taken;
    }

-- it was written in part
pub ended-short : (small : Small) (all left : List SmallCommand) (ps : List Party) (before held now : Option (List ℕ)) (told : Option (List Message))
    → left ≡ [] → IfSome told (Progress small all left ps before held) → GrewByPrefix held now (end_line (length all))
    → IfSome told (BrokenOff small all before now)
ended-short small all left ps before held now None none progress grew = tt
ended-short small all left ps before held now (Some ms) none progress grew =
    let at = subst (λ l. Progress small all l ps before held ms) none progress in
    record {
      prefix = subst (GrewByPrefix before now) (ap (λ l. l ++ end_line (length all)) (all-written small all ps before held ms at))
          (GrewByPrefix-then before held now at.written (end_line (length all)) at.held grew);
      sends = record { rest = []; joined = sym (all-sent small all ps before held ms at) ∙ sym (append-nil (sends_of ms)) };
    }

-- a whole is a beginning of itself
pub prefix-whole : (small : Small) (all : List SmallCommand) (before now : Option (List ℕ)) (told : Option (List Message))
    → IfSome told (λ ms. now ≡ append_known before (transcript small all (table ms))) → IfSome told (λ ms. GrewByPrefix before now (transcript small all (table ms)))
prefix-whole small all before now None whole = tt
prefix-whole small all before now (Some ms) whole =
    record { front = transcript small all (table ms); is_prefix = ([], sym (append-nil (transcript small all (table ms)))); grew = whole }

-- ---- a run that breaks off in a command

broken-in : (small : Small) (all rest : List SmallCommand) (c : SmallCommand) (ps : List Party) (before held now : Option (List ℕ)) (old new : List Message)
    → Progress small all (c ∷ rest) ps before held old → CommandInterrupted small c ps held now old new → BrokenOff small all before now new
broken-in small all rest c ps before held now old new progress command =
    let t = side_step small c ps (table new) in
    let sends = wired t.sends in
    let lines_after = lines_from small rest t.parties (table new) in
    let sends_after = sends_from small rest t.parties (table new) in
    let front = command.sent in
    let part = GrewByPrefix-more before now (progress.written ++ t.lines) (lines_after ++ end_line (length all))
    (GrewByPrefix-then before held now progress.written t.lines progress.held command.grew) in
    let whole : (progress.written ++ t.lines) ++ (lines_after ++ end_line (length all)) ≡ transcript small all (table new) =
    sym (append_assoc (progress.written ++ t.lines) lines_after (end_line (length all)))
    ∙ ap (λ l. l ++ end_line (length all)) (append_assoc progress.written t.lines lines_after ∙ progress.lines (table new) command.kept.given) in
    record {
      prefix = subst (GrewByPrefix before now) whole part;
      sends = record {
        rest = command.within.rest ++ sends_after;
        joined = sym (progress.sends (table new) command.kept.given)
            ∙ ap (λ l. sends_of old ++ (l ++ sends_after)) command.within.joined
            ∙ ap (λ l. sends_of old ++ l) (append_assoc front command.within.rest sends_after)
            ∙ sym (append_assoc (sends_of old) front (command.within.rest ++ sends_after))
            ∙ ap (λ l. l ++ (command.within.rest ++ sends_after)) (sym command.sends);
      };
    }

pub broken : (small : Small) (all rest left : List SmallCommand) (c : SmallCommand) (ps : List Party) (before held now : Option (List ℕ)) (old new : Option (List Message))
    → left ≡ c ∷ rest → IfSome old (Progress small all left ps before held) → IfBothTell old new (CommandInterrupted small c ps held now)
    → IfSome new (BrokenOff small all before now)
broken small all rest left c ps before held now None None is progress command = tt
broken small all rest left c ps before held now None (Some new) is progress command = absurd command
broken small all rest left c ps before held now (Some old) None is progress command = absurd command
broken small all rest left c ps before held now (Some old) (Some new) is progress command =
    broken-in small all rest c ps before held now old new (subst (λ l. Progress small all l ps before held old) is progress) command

-- ---- one command, whose lines go to a sink

pub written : (small : Small) (c : SmallCommand) (ps new_ps : List Party) (out new_out : List ℕ) (held now : Option (List ℕ)) (old new : Option (List Message))
    → out ≡ [] → IfBothTell old new (CommandDone small c ps new_ps out new_out) → now ≡ append_known held new_out
    → IfBothTell old new (CommandWritten small c ps new_ps held now)
written small c ps new_ps out new_out held now None None none done sunk = tt
written small c ps new_ps out new_out held now None (Some new) none done sunk = absurd done
written small c ps new_ps out new_out held now (Some old) None none done sunk = absurd done
written small c ps new_ps out new_out held now (Some old) (Some new) none done sunk = record {
  parties = done.parties;
  held = sunk ∙ ap (append_known held) (done.lines ∙ ap (λ l. l ++ (side_step small c ps (table new)).lines) none);
  sends = done.sends;
  fits = done.fits;
  kept = done.kept;
  taken = done.taken;
}

-- the sink failed after the command
pub interrupted-after : (small : Small) (c : SmallCommand) (ps new_ps : List Party) (out new_out : List ℕ) (held now : Option (List ℕ)) (old new : Option (List Message))
    → out ≡ [] → IfBothTell old new (CommandDone small c ps new_ps out new_out) → GrewByPrefix held now new_out
    → IfBothTell old new (CommandInterrupted small c ps held now)
interrupted-after small c ps new_ps out new_out held now None None none done grew = tt
interrupted-after small c ps new_ps out new_out held now None (Some new) none done grew = absurd done
interrupted-after small c ps new_ps out new_out held now (Some old) None none done grew = absurd done
interrupted-after small c ps new_ps out new_out held now (Some old) (Some new) none done grew =
    let sends = wired (side_step small c ps (table new)).sends in
    record {
      sent = sends;
      sends = done.sends;
      within = record { rest = []; joined = sym (append-nil sends) };
      grew = subst (GrewByPrefix held now) (done.lines ∙ ap (λ l. l ++ (side_step small c ps (table new)).lines) none) grew;
      kept = done.kept;
    }

-- the command was given up
pub interrupted-before : (small : Small) (c : SmallCommand) (ps : List Party) (held now : Option (List ℕ)) (old new : Option (List Message))
    → IfBothTell old new (CommandFailed ps) → now ≡ held → IfBothTell old new (CommandInterrupted small c ps held now)
interrupted-before small c ps held now None None failed same = tt
interrupted-before small c ps held now None (Some new) failed same = absurd failed
interrupted-before small c ps held now (Some old) None failed same = absurd failed
interrupted-before small c ps held now (Some old) (Some new) failed same = record {
  sent = [];
  sends = failed.sends ∙ sym (append-nil (sends_of old));
  within = record { rest = wired (side_step small c ps (table new)).sends; joined = refl };
  grew = record { front = []; is_prefix = ((side_step small c ps (table new)).lines, refl); grew = same ∙ sym (append_known-nil held) };
  kept = failed.kept;
}
