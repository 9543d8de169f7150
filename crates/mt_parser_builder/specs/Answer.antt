-- How a call's answer stands for what a definition gives: none where the nodes are malformed. Want of memory says nothing.
use Rattle.std.specs.Prelude.{◌≡◌, List, Option, None, Some, Result, Ok, Err, Vec}
use Rattle.std.specs.Global.{Global}
use Rattle.mt_parser_builder.specs.declared.fault.Fault.{Fault}
use Rattle.mt_parser_builder.specs.declared.fault.Fault.TheVariants as fault

abbrev pub Gives : {X : Type 0} → Result X Fault → Option X → Type 0
Gives (Ok x) given = given ≡ Some x
Gives (Err fault.Malformed) given = given ≡ None
Gives (Err fault.NoMemory) given = Unit {0}

-- with what is left, or what was found
abbrev pub GivesWith : {X S : Type 0} → Result X Fault → S → Option (X × S) → Type 0
GivesWith (Ok x) s given = given ≡ Some (x, s)
GivesWith (Err fault.Malformed) s given = given ≡ None
GivesWith (Err fault.NoMemory) s given = Unit {0}

abbrev pub on_both : {X S Y : Type 0} → Option (X × S) → (X → S → Option Y) → Option Y
on_both None f = None
on_both (Some r) f = f r.0 r.1

-- a vector of them
abbrev pub GivesItems : {X S : Type 0} → Result (Vec X Global) Fault → S → Option (List X × S) → Type 0
GivesItems (Ok xs) s given = given ≡ Some (xs.items, s)
GivesItems (Err fault.Malformed) s given = given ≡ None
GivesItems (Err fault.NoMemory) s given = Unit {0}

abbrev pub GivesList : {X : Type 0} → Result (Vec X Global) Fault → Option (List X) → Type 0
GivesList (Ok xs) given = given ≡ Some xs.items
GivesList (Err fault.Malformed) given = given ≡ None
GivesList (Err fault.NoMemory) given = Unit {0}

-- what a call makes of something
abbrev pub Changes : {S : Type 0} → Result (Unit {0}) Fault → S → Option S → Type 0
Changes (Ok _) s given = given ≡ Some s
Changes (Err fault.Malformed) s given = given ≡ None
Changes (Err fault.NoMemory) s given = Unit {0}
