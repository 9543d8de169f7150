-- What each status of a run says of its words, its files and what it wrote.
use Rattle.std.specs.Prelude.{◌≡◌, ◌⊎◌, ◌++◌, ℕ, Bool, false, List, [], Option, None, Some, IfSome, ⊤}
use Rattle.std.specs.Str.{chars}
use Rattle.std.specs.Io.KnownBytes.{append_known}
use Rattle.mt_outside.specs.Cause.{Rose}
use Rattle.mt_outside.specs.Message.{Message, IsFaithful, sends_of}
use Rattle.mt_small.specs.declared.application.Small.{Small}
use Rattle.mt_small.specs.declared.command.SmallCommand.{SmallCommand}
use Rattle.mt_small.specs.Application.{IsSmall, Spells}
use Rattle.mt_small.specs.Schedule.{SpellsSchedule, IsFirstBad}
use Rattle.mt_session.specs.Machine.{machine_transcript}
use Rattle.mt_session.specs.Sides.{transcript, parties_from, sends_from}
use Rattle.mt_session.specs.WireFits.{ActedAreTaken, table}
use Rattle.mt_top.specs.declared.status.Status.{Status}
use Rattle.mt_top.specs.declared.status.Status.TheVariants.{Done, Refused, Usage, BadSchedule, FileFault, SinkFault, WireFault, NoMemory, TooLong, StartFailed, DoorFault}
use Rattle.mt_top.specs.Words.{Asked, check, start, replay, Asks, AsksNothing}
use Rattle.mt_top.specs.Lines.{usage_text, accepted_line, failed_line, file_fault_line, started_line, too_long_line, bad_line}
use Rattle.mt_top.specs.Texts.{FilesSeen, IsRead, IsTooLong, IsSmallText, IsNotSmallText, IsNotScheduleText}
use Rattle.mt_source.specs.Sources.{IsAcceptedText, IsNotAcceptedText}
use Rattle.mt_top.specs.Refusals.{IsRefusalLine, IsUnplayedLine, IsUnstartedLine}
use Rattle.mt_start.specs.Starts.{StartsAs, started, failed, unbuilt}

-- the sink of a run: what it holds and its count of faults, before and after
pub record SinkSeen : Type 0 where
  pub held : Option (List ℕ)
  pub held_after : Option (List ℕ)
  pub faults : ℕ
  pub faults_after : ℕ

-- the wire of a run: what it tells after it, and its count of faults before and after
pub record WireSeen : Type 0 where
  pub messages : Option (List Message)
  pub faults : ℕ
  pub faults_after : ℕ

-- the sink holds these bytes in addition
abbrev pub Wrote : SinkSeen → List ℕ → Type 0
Wrote sink bytes = sink.held_after ≡ append_known sink.held bytes

-- the sink holds in addition why the text is not accepted
abbrev pub WroteRefusal : SinkSeen → List ℕ → Type 0
WroteRefusal sink text = (line : List ℕ) × IsRefusalLine text line × Wrote sink line

-- the sink holds in addition why the text is not played
abbrev pub WroteUnplayed : SinkSeen → List ℕ → Type 0
WroteUnplayed sink text = (line : List ℕ) × IsUnplayedLine text line × Wrote sink line

-- the sink holds in addition why the text is not started
abbrev pub WroteUnstarted : SinkSeen → List ℕ → Type 0
WroteUnstarted sink text = (line : List ℕ) × IsUnstartedLine text line × Wrote sink line

-- The schedule was played to its end. Where the wire tells its lists, the transcript and what was sent are those of server and clients
-- for the bytes that the wire gave, and each message on which a side acted was taken to its end, or to 65,537 bytes.
-- Over a wire that gives each message as it was sent, the transcript is the machine's, in which nothing is written or read between them.
pub record IsPlayed (sink : SinkSeen) (wire : WireSeen) (small : Small) (commands : List SmallCommand) : Type 0 where
  pub transcript_is : IfSome wire.messages (λ messages. Wrote sink (transcript small commands (table messages)))
  pub sends_are : IfSome wire.messages (λ messages. sends_of messages ≡ sends_from small commands [] (table messages))
  pub taken : IfSome wire.messages (λ messages. ActedAreTaken (parties_from small commands [] (table messages)) messages)
  pub machine_is : IfSome wire.messages (λ messages. IsFaithful messages → Wrote sink (machine_transcript small commands))

-- what a status says of a small application and the commands of its schedule
abbrev pub CommandsMean : SinkSeen → WireSeen → Small → List SmallCommand → Status → Type 0
CommandsMean sink wire small commands Done = IsPlayed sink wire small commands
CommandsMean sink wire small commands SinkFault = Rose sink.faults sink.faults_after
CommandsMean sink wire small commands WireFault = Rose wire.faults wire.faults_after
CommandsMean sink wire small commands NoMemory = ⊤
CommandsMean sink wire small commands Refused = ⊥
CommandsMean sink wire small commands Usage = ⊥
CommandsMean sink wire small commands BadSchedule = ⊥
CommandsMean sink wire small commands FileFault = ⊥
CommandsMean sink wire small commands TooLong = ⊥
CommandsMean sink wire small commands StartFailed = ⊥
CommandsMean sink wire small commands DoorFault = ⊥

-- the texts are a small application and its schedule, of which this holds
pub record BothSpelled (application schedule : List ℕ) (P : Small → List SmallCommand → Type 0) : Type 0 where
  pub small : Small
  pub commands : List SmallCommand
  pub fits : IsSmall small
  pub application_is : Spells application small
  pub schedule_is : SpellsSchedule schedule commands
  pub holds : P small commands

-- what a status says of the texts of the application and of the schedule
abbrev pub TextsMean : SinkSeen → WireSeen → List ℕ → List ℕ → Status → Type 0
TextsMean sink wire application schedule Done = BothSpelled application schedule (λ small commands. CommandsMean sink wire small commands Done)
TextsMean sink wire application schedule Refused = IsNotSmallText application × WroteUnplayed sink application
TextsMean sink wire application schedule BadSchedule =
    IsSmallText application × IsNotScheduleText schedule × (number : ℕ) × IsFirstBad schedule number × Wrote sink (bad_line number)
TextsMean sink wire application schedule SinkFault = Rose sink.faults sink.faults_after
TextsMean sink wire application schedule WireFault = BothSpelled application schedule (λ small commands. CommandsMean sink wire small commands WireFault)
TextsMean sink wire application schedule NoMemory = ⊤
TextsMean sink wire application schedule Usage = ⊥
TextsMean sink wire application schedule FileFault = ⊥
TextsMean sink wire application schedule TooLong = ⊥
TextsMean sink wire application schedule StartFailed = ⊥
TextsMean sink wire application schedule DoorFault = ⊥

-- the count of faults of a name rose
abbrev pub HasFailed : FilesSeen → List ℕ → Type 0
HasFailed files name = Rose (files.faults (chars name)) (files.faults_after (chars name))

-- what a status says of a check of this text
abbrev pub TextMeans : SinkSeen → List ℕ → Status → Type 0
TextMeans sink text Done = IsAcceptedText text × Wrote sink accepted_line
TextMeans sink text Refused = IsNotAcceptedText text × WroteRefusal sink text
TextMeans sink text SinkFault = Rose sink.faults sink.faults_after
TextMeans sink text NoMemory = ⊤
TextMeans sink text Usage = ⊥
TextMeans sink text BadSchedule = ⊥
TextMeans sink text FileFault = ⊥
TextMeans sink text WireFault = ⊥
TextMeans sink text TooLong = ⊥
TextMeans sink text StartFailed = ⊥
TextMeans sink text DoorFault = ⊥

-- what a status says of a check of this file
abbrev pub CheckMeans : FilesSeen → SinkSeen → List ℕ → Status → Type 0
CheckMeans files sink name Done = (text : List ℕ) × IsRead files name text × IsAcceptedText text × Wrote sink accepted_line
CheckMeans files sink name Refused = (text : List ℕ) × IsRead files name text × IsNotAcceptedText text × WroteRefusal sink text
CheckMeans files sink name FileFault = HasFailed files name × Wrote sink file_fault_line
CheckMeans files sink name TooLong = IsTooLong files name × Wrote sink too_long_line
CheckMeans files sink name SinkFault = Rose sink.faults sink.faults_after
CheckMeans files sink name NoMemory = ⊤
CheckMeans files sink name Usage = ⊥
CheckMeans files sink name BadSchedule = ⊥
CheckMeans files sink name WireFault = ⊥
CheckMeans files sink name StartFailed = ⊥
CheckMeans files sink name DoorFault = ⊥

-- the text is not accepted, or it makes at its start what is not built
abbrev pub IsUnstartedText : List ℕ → Type 0
IsUnstartedText text = IsNotAcceptedText text ⊎ StartsAs text unbuilt

-- what a status says of the start of this text
abbrev pub TextStarts : SinkSeen → List ℕ → Status → Type 0
TextStarts sink text Done = (log : List ℕ) × StartsAs text (started log) × Wrote sink (log ++ started_line)
TextStarts sink text StartFailed = (error : List ℕ) × StartsAs text (failed error) × Wrote sink (failed_line error)
TextStarts sink text Refused = IsUnstartedText text × WroteUnstarted sink text
TextStarts sink text SinkFault = Rose sink.faults sink.faults_after
TextStarts sink text NoMemory = ⊤
TextStarts sink text Usage = ⊥
TextStarts sink text BadSchedule = ⊥
TextStarts sink text FileFault = ⊥
TextStarts sink text WireFault = ⊥
TextStarts sink text TooLong = ⊥
TextStarts sink text DoorFault = ⊥

-- what a status says of the start of this file
abbrev pub StartMeans : FilesSeen → SinkSeen → List ℕ → Status → Type 0
StartMeans files sink name Done = (text : List ℕ) × IsRead files name text × TextStarts sink text Done
StartMeans files sink name StartFailed = (text : List ℕ) × IsRead files name text × TextStarts sink text StartFailed
StartMeans files sink name Refused = (text : List ℕ) × IsRead files name text × TextStarts sink text Refused
StartMeans files sink name FileFault = HasFailed files name × Wrote sink file_fault_line
StartMeans files sink name TooLong = IsTooLong files name × Wrote sink too_long_line
StartMeans files sink name SinkFault = Rose sink.faults sink.faults_after
StartMeans files sink name NoMemory = ⊤
StartMeans files sink name Usage = ⊥
StartMeans files sink name BadSchedule = ⊥
StartMeans files sink name WireFault = ⊥
StartMeans files sink name DoorFault = ⊥

-- both files were read whole
pub record BothRead (files : FilesSeen) (application_name schedule_name : List ℕ) (P : List ℕ → List ℕ → Type 0) : Type 0 where
  pub application : List ℕ
  pub schedule : List ℕ
  pub application_read : IsRead files application_name application
  pub schedule_read : IsRead files schedule_name schedule
  pub holds : P application schedule

-- one of two files is too long, the first of which is read first
abbrev pub IsOneTooLong : FilesSeen → List ℕ → List ℕ → Type 0
IsOneTooLong files first second = IsTooLong files first ⊎ ((bytes : List ℕ) × IsRead files first bytes × IsTooLong files second)

-- one of two files failed
abbrev pub HasOneFailed : FilesSeen → List ℕ → List ℕ → Type 0
HasOneFailed files first second = HasFailed files first ⊎ HasFailed files second

-- what a status says of a replay of these files
abbrev pub ReplayMeans : FilesSeen → SinkSeen → WireSeen → List ℕ → List ℕ → Status → Type 0
ReplayMeans files sink wire a s FileFault = HasOneFailed files a s × Wrote sink file_fault_line
ReplayMeans files sink wire a s TooLong = IsOneTooLong files a s × Wrote sink too_long_line
ReplayMeans files sink wire a s Done = BothRead files a s (λ application schedule. TextsMean sink wire application schedule Done)
ReplayMeans files sink wire a s Refused = BothRead files a s (λ application schedule. TextsMean sink wire application schedule Refused)
ReplayMeans files sink wire a s BadSchedule = BothRead files a s (λ application schedule. TextsMean sink wire application schedule BadSchedule)
ReplayMeans files sink wire a s WireFault = BothRead files a s (λ application schedule. TextsMean sink wire application schedule WireFault)
ReplayMeans files sink wire a s SinkFault = Rose sink.faults sink.faults_after
ReplayMeans files sink wire a s NoMemory = ⊤
ReplayMeans files sink wire a s Usage = ⊥
ReplayMeans files sink wire a s StartFailed = ⊥
ReplayMeans files sink wire a s DoorFault = ⊥

-- what a status says of a run that carries out what was asked
abbrev pub AskedMeans : FilesSeen → SinkSeen → WireSeen → Asked → Status → Type 0
AskedMeans files sink wire (check application) status = CheckMeans files sink application status
AskedMeans files sink wire (start application) status = StartMeans files sink application status
AskedMeans files sink wire (replay application schedule) status = ReplayMeans files sink wire application schedule status

-- what a status says of a run of these words: they ask for nothing, and the usage was written, or they ask for this
abbrev pub StatusMeans : FilesSeen → SinkSeen → WireSeen → List (List ℕ) → Status → Type 0
StatusMeans files sink wire words Usage = AsksNothing words × Wrote sink usage_text
StatusMeans files sink wire words SinkFault = Rose sink.faults sink.faults_after
StatusMeans files sink wire words NoMemory = ⊤
StatusMeans files sink wire words status = (asked : Asked) × Asks words asked × AskedMeans files sink wire asked status

-- what a status says where a line could not be written
abbrev pub IsOutputFault : ℕ → ℕ → Status → Type 0
IsOutputFault before after SinkFault = Rose before after
IsOutputFault before after NoMemory = ⊤
IsOutputFault before after status = ⊥

-- the wire of a replay is begun where the status is Done, never with loopback, and not at all where the words, a file or a text is at fault
abbrev pub ModeIsFor : Option Bool → Status → Type 0
ModeIsFor None Done = ⊥
ModeIsFor None status = ⊤
ModeIsFor (Some loopback) Usage = ⊥
ModeIsFor (Some loopback) Refused = ⊥
ModeIsFor (Some loopback) BadSchedule = ⊥
ModeIsFor (Some loopback) FileFault = ⊥
ModeIsFor (Some loopback) TooLong = ⊥
ModeIsFor (Some loopback) status = loopback ≡ false
