-- From what a status says of the commands to what it says of their texts, of the files and of the words.
use Rattle.std.proofs.Common.{◌≡◌, ℕ, List, [], ◌∷◌, length, codes, Option, None, Some, IfSome, arith, sym, ap, ◌∙◌}
use Rattle.std.specs.List.{AllByRecursion}
use Rattle.mt_outside.specs.Message.{Message, IsFaithful}
use Rattle.mt_small.specs.declared.application.Small.{Small}
use Rattle.mt_small.specs.declared.command.SmallCommand.{SmallCommand}
use Rattle.mt_small.specs.Application.{IsSmall, Spells}
use Rattle.mt_small.specs.Readable.{AsksForTarget}
use Rattle.mt_small.specs.Schedule.{SpellsSchedule}
use Rattle.mt_top.specs.declared.status.Status.{Status}
use Rattle.mt_top.specs.declared.status.Status.TheVariants.{Done, Refused, Usage, BadSchedule, FileFault, SinkFault, WireFault, NoMemory, TooLong, StartFailed, DoorFault}
use Rattle.mt_top.specs.Words.{check, start, replay, Asks}
use Rattle.mt_top.specs.Texts.{FilesSeen, IsRead}
use Rattle.mt_top.specs.Meaning.{SinkSeen, WireSeen, BothRead, StatusMeans, CheckMeans, StartMeans, TextStarts, ReplayMeans, TextsMean, CommandsMean}

-- where the commands ask for targets
pub with_targets : (commands : List SmallCommand) (messages : Option (List Message)) (X : Type 0) → AllByRecursion AsksForTarget commands
    → IfSome messages (λ ms. AllByRecursion AsksForTarget commands → IsFaithful ms → X) → IfSome messages (λ ms. IsFaithful ms → X)
with_targets commands None X asks holds = holds
with_targets commands (Some ms) X asks holds = holds asks

pub of_texts : (sink : SinkSeen) (wire : WireSeen) (application schedule : List ℕ) (small : Small) (commands : List SmallCommand) (status : Status)
    → IsSmall small → Spells application small → SpellsSchedule schedule commands
    → CommandsMean sink wire small commands status → TextsMean sink wire application schedule status
of_texts sink wire a s small commands Done fits app_is sched_is means = record { small = small; commands = commands; fits = fits; application_is = app_is; schedule_is = sched_is; holds = means }
of_texts sink wire a s small commands WireFault fits app_is sched_is means = record { small = small; commands = commands; fits = fits; application_is = app_is; schedule_is = sched_is; holds = means }
of_texts sink wire a s small commands SinkFault fits app_is sched_is means = means
of_texts sink wire a s small commands NoMemory fits app_is sched_is means = means
of_texts sink wire a s small commands Refused fits app_is sched_is means = absurd means
of_texts sink wire a s small commands Usage fits app_is sched_is means = absurd means
of_texts sink wire a s small commands BadSchedule fits app_is sched_is means = absurd means
of_texts sink wire a s small commands FileFault fits app_is sched_is means = absurd means
of_texts sink wire a s small commands TooLong fits app_is sched_is means = absurd means
of_texts sink wire a s small commands StartFailed fits app_is sched_is means = absurd means
of_texts sink wire a s small commands DoorFault fits app_is sched_is means = absurd means

both_read : (files : FilesSeen) (sink : SinkSeen) (wire : WireSeen) (a s application schedule : List ℕ) (status : Status)
    → IsRead files a application → IsRead files s schedule → TextsMean sink wire application schedule status
    → BothRead files a s (λ x y. TextsMean sink wire x y status)
both_read files sink wire a s application schedule status read_a read_s means =
    record { application = application; schedule = schedule; application_read = read_a; schedule_read = read_s; holds = means }

pub of_files : (files : FilesSeen) (sink : SinkSeen) (wire : WireSeen) (a s application schedule : List ℕ) (status : Status)
    → IsRead files a application → IsRead files s schedule → TextsMean sink wire application schedule status → ReplayMeans files sink wire a s status
of_files files sink wire a s x y Done read_a read_s means = both_read files sink wire a s x y Done read_a read_s means
of_files files sink wire a s x y Refused read_a read_s means = both_read files sink wire a s x y Refused read_a read_s means
of_files files sink wire a s x y BadSchedule read_a read_s means = both_read files sink wire a s x y BadSchedule read_a read_s means
of_files files sink wire a s x y WireFault read_a read_s means = both_read files sink wire a s x y WireFault read_a read_s means
of_files files sink wire a s x y SinkFault read_a read_s means = means
of_files files sink wire a s x y NoMemory read_a read_s means = means
of_files files sink wire a s x y Usage read_a read_s means = absurd means
of_files files sink wire a s x y FileFault read_a read_s means = absurd means
of_files files sink wire a s x y TooLong read_a read_s means = absurd means
of_files files sink wire a s x y StartFailed read_a read_s means = absurd means
of_files files sink wire a s x y DoorFault read_a read_s means = absurd means

pub of_replay : (files : FilesSeen) (sink : SinkSeen) (wire : WireSeen) (words : List (List ℕ)) (a s : List ℕ) (status : Status)
    → Asks words (replay a s) → ReplayMeans files sink wire a s status → StatusMeans files sink wire words status
of_replay files sink wire words a s SinkFault asks means = means
of_replay files sink wire words a s NoMemory asks means = tt
of_replay files sink wire words a s Usage asks means = absurd means
of_replay files sink wire words a s Done asks means = (replay a s, asks, means)
of_replay files sink wire words a s Refused asks means = (replay a s, asks, means)
of_replay files sink wire words a s BadSchedule asks means = (replay a s, asks, means)
of_replay files sink wire words a s FileFault asks means = (replay a s, asks, means)
of_replay files sink wire words a s WireFault asks means = (replay a s, asks, means)
of_replay files sink wire words a s TooLong asks means = (replay a s, asks, means)
of_replay files sink wire words a s StartFailed asks means = absurd means
of_replay files sink wire words a s DoorFault asks means = absurd means

pub of_check : (files : FilesSeen) (sink : SinkSeen) (wire : WireSeen) (words : List (List ℕ)) (a : List ℕ) (status : Status)
    → Asks words (check a) → CheckMeans files sink a status → StatusMeans files sink wire words status
of_check files sink wire words a SinkFault asks means = means
of_check files sink wire words a NoMemory asks means = tt
of_check files sink wire words a Done asks means = (check a, asks, means)
of_check files sink wire words a Refused asks means = (check a, asks, means)
of_check files sink wire words a FileFault asks means = (check a, asks, means)
of_check files sink wire words a TooLong asks means = (check a, asks, means)
of_check files sink wire words a Usage asks means = absurd means
of_check files sink wire words a BadSchedule asks means = absurd means
of_check files sink wire words a WireFault asks means = absurd means
of_check files sink wire words a StartFailed asks means = absurd means
of_check files sink wire words a DoorFault asks means = absurd means

pub of_start : (files : FilesSeen) (sink : SinkSeen) (wire : WireSeen) (words : List (List ℕ)) (a : List ℕ) (status : Status)
    → Asks words (start a) → StartMeans files sink a status → StatusMeans files sink wire words status
of_start files sink wire words a SinkFault asks means = means
of_start files sink wire words a NoMemory asks means = tt
of_start files sink wire words a Done asks means = (start a, asks, means)
of_start files sink wire words a Refused asks means = (start a, asks, means)
of_start files sink wire words a FileFault asks means = (start a, asks, means)
of_start files sink wire words a TooLong asks means = (start a, asks, means)
of_start files sink wire words a StartFailed asks means = (start a, asks, means)
of_start files sink wire words a Usage asks means = absurd means
of_start files sink wire words a BadSchedule asks means = absurd means
of_start files sink wire words a WireFault asks means = absurd means
of_start files sink wire words a DoorFault asks means = absurd means

-- what a status says of the start of a text that was read
pub of_started : (files : FilesSeen) (sink : SinkSeen) (a text : List ℕ) (status : Status)
    → IsRead files a text → TextStarts sink text status → StartMeans files sink a status
of_started files sink a text Done read means = (text, read, means)
of_started files sink a text StartFailed read means = (text, read, means)
of_started files sink a text Refused read means = (text, read, means)
of_started files sink a text SinkFault read means = means
of_started files sink a text NoMemory read means = tt
of_started files sink a text Usage read means = absurd means
of_started files sink a text BadSchedule read means = absurd means
of_started files sink a text FileFault read means = absurd means
of_started files sink a text WireFault read means = absurd means
of_started files sink a text TooLong read means = absurd means
of_started files sink a text DoorFault read means = absurd means

-- words that ask for a start ask for no replay
pub not_start : (words : List (List ℕ)) (a b s : List ℕ) → Asks words (start a) → Asks words (replay b s) → ⊥
not_start words a b s p q =
    let e : length (codes "start" ∷ a ∷ []) ≡ length (codes "replay" ∷ b ∷ s ∷ []) = ap length (sym p.0 ∙ q.0) in omega (arith, e)

-- words that ask for a check ask for no replay
pub not_both : (words : List (List ℕ)) (a b s : List ℕ) → Asks words (check a) → Asks words (replay b s) → ⊥
not_both words a b s p q =
    let e : length (codes "check" ∷ a ∷ []) ≡ length (codes "replay" ∷ b ∷ s ∷ []) = ap length (sym p.0 ∙ q.0) in omega (arith, e)
