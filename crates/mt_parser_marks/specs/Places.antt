-- Places in a part of a text.
use Rattle.std.specs.Prelude.{◌+◌, ◌-◌, ◌==◌, if◌then◌else◌}
use Rattle.mt_tree.specs.declared.place.Place.{Place}

-- where a character stands that has the place `inner` in a text whose first character stands at `outer`
abbrev pub placed : Place → Place → Place
placed outer inner =
    if inner.line == 1 then record { line = outer.line; column = outer.column + inner.column - 1 }
    else record { line = outer.line + inner.line - 1; column = inner.column }
