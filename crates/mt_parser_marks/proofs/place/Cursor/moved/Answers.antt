use Rattle.std.proofs.Common.{◌≤◌, ◌-◌, ℕ, List, length, take, drop, ap, sym, ◌∙◌, length-take, length-drop, arith}
use Rattle.std.proofs.lemmas.List.{take_all}
use Rattle.mt_tree.specs.declared.place.Place.{Place}
use Rattle.mt_tree.specs.Place.{first_place, place_after, place_of}
use Rattle.mt_parser_marks.specs.Places.{placed}
use Rattle.mt_parser_marks.proofs.Places.{line_of-le, column_of-le, line_of-first, column_of-first, place_of-onward, place_of-min}
use Rattle.mt_parser_marks.proofs.place.Cursor.moved.Goals as goal

-- the bytes between are no more than all
passed-le : (bs : List ℕ) (i n : ℕ) → length (take n (drop i bs)) ≤ length bs
passed-le bs i n = omega (arith, length-take n (drop i bs), length-drop i bs)

pub place_in-requires-clause-line : goal.place_in-requires-clause-line
place_in-requires-clause-line c =
    let bs = c.args.source.now in let passed = take (c.min-at.result - c.args.self.at) (drop c.args.self.at bs) in
    let e = ap (λ (p : Place). p.line) c.requires.stands in let f = ap (λ (p : Place). p.line) c.of-end.ensures.bytes in
    omega (arith, line_of-le bs c.args.self.at, line_of-le passed (length passed), passed-le bs c.args.self.at (c.min-at.result - c.args.self.at))

pub place_in-requires-clause-column : goal.place_in-requires-clause-column
place_in-requires-clause-column c =
    let bs = c.args.source.now in let passed = take (c.min-at.result - c.args.self.at) (drop c.args.self.at bs) in
    let e = ap (λ (p : Place). p.column) c.requires.stands in let f = ap (λ (p : Place). p.column) c.of-end.ensures.bytes in
    omega (arith, column_of-le bs c.args.self.at, column_of-le passed (length passed), passed-le bs c.args.self.at (c.min-at.result - c.args.self.at))

pub place_in-requires-clause-first_line : goal.place_in-requires-clause-first_line
place_in-requires-clause-first_line c =
    let passed = take (c.min-at.result - c.args.self.at) (drop c.args.self.at c.args.source.now) in
    let f = ap (λ (p : Place). p.line) c.of-end.ensures.bytes in omega (arith, line_of-first passed (length passed))

pub place_in-requires-clause-first_column : goal.place_in-requires-clause-first_column
place_in-requires-clause-first_column c =
    let passed = take (c.min-at.result - c.args.self.at) (drop c.args.self.at c.args.source.now) in
    let f = ap (λ (p : Place). p.column) c.of-end.ensures.bytes in omega (arith, column_of-first passed (length passed))

pub returns-clause-stands : goal.returns-clause-stands
returns-clause-stands c =
    let bs = c.args.source.now in let passed = take (c.min-at.result - c.args.self.at) (drop c.args.self.at bs) in
    c.place_in.ensures ∙ ap (λ (p : Place). placed p c.of-end.result) c.requires.stands
    ∙ ap (placed (place_of bs c.args.self.at)) (c.of-end.ensures.bytes ∙ ap (place_after first_place) (take_all (length passed) passed (omega arith)))
    ∙ sym (place_of-onward bs c.args.self.at c.min-at.result c.if-at-self.false)

pub returns-clause-there : goal.returns-clause-there
returns-clause-there c = returns-clause-stands c ∙ ap (place_of c.args.source.now) c.min-at.ensures ∙ place_of-min c.args.source.now c.args.at
