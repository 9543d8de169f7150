-- What a function that reads has returned, beside what there is to read.
use Rattle.std.specs.Prelude.{◌≡◌, Option, None, Some, Result, Ok, Err}
use Rattle.mt_script_words.specs.declared.refusal.CodeRefusal.{CodeRefusal}
use Rattle.mt_script_words.specs.declared.refusal.CodeRefusal.TheVariants as refusal

abbrev pub Refuses : {Y : Type 0} → CodeRefusal → Option Y → Type 0
Refuses refusal.NoMemory read = Unit {0}
Refuses refusal.NotCode read = read ≡ None

-- What was returned, seen by view, is what there is to read, unless memory ran out.
abbrev pub Gives : {X Y : Type 0} → (X → Y) → Result X CodeRefusal → Option Y → Type 0
Gives view (Ok x) read = read ≡ Some (view x)
Gives view (Err e) read = Refuses e read
