-- What a function that reads has returned, beside what there is to read.
use Rattle.std.specs.Prelude.{◌≡◌, Option, None, Some, Result, Ok, Err}
use Rattle.mt_json.specs.declared.refusal.DataRefusal.{DataRefusal}
use Rattle.mt_json.specs.declared.refusal.DataRefusal.TheVariants as refusal

abbrev pub Refuses : {X : Type 0} → DataRefusal → Option X → Type 0
Refuses refusal.NoMemory read = Unit {0}
Refuses refusal.NotData read = read ≡ None

-- What was returned is what there is to read, unless memory ran out.
abbrev pub Gives : {X : Type 0} → Result X DataRefusal → Option X → Type 0
Gives (Ok x) read = read ≡ Some x
Gives (Err e) read = Refuses e read
