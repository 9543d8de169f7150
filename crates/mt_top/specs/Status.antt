-- The numbers of the statuses, with which the program ends.
use Rattle.std.specs.Prelude.{ℕ}
use Rattle.mt_top.specs.declared.status.Status.{Status}
use Rattle.mt_top.specs.declared.status.Status.TheVariants.{Done, Refused, Usage, BadSchedule, FileFault, SinkFault, WireFault, NoMemory, TooLong, StartFailed, DoorFault}

abbrev pub number_of : Status → ℕ
number_of Done = 0
number_of Refused = 1
number_of Usage = 2
number_of BadSchedule = 3
number_of FileFault = 4
number_of SinkFault = 5
number_of WireFault = 6
number_of NoMemory = 7
number_of TooLong = 8
number_of StartFailed = 9
number_of DoorFault = 10
