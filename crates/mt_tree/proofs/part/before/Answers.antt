use Rattle.std.proofs.Common.{Some, ap, sym, ◌∙◌}
use Rattle.std.specs.Str.{chars}
use Rattle.mt_tree.proofs.Cuts.{Front, front_of, before-none, front-le, front-boundary, front-is}
use Rattle.mt_tree.proofs.part.before.Goals as goal

front : (c : goal.In-Some) → Front c.args.text.now c.in-Some.rest.now c.args.units
front c = front_of c.args.text.now c.in-Some.rest.now c.args.units c.utf8.text c.in-Some.ensures.text c.in-Some.ensures.rest

pub overflow_sub-text : goal.overflow_sub-text
overflow_sub-text c = front-le c.args.text.now c.in-Some.rest.now c.args.units (front c)

pub split_at-requires : goal.split_at-requires
split_at-requires c = front-boundary c.args.text.now c.in-Some.rest.now c.args.units (front c) c.in-Some.ensures.text

pub returns-in-None : goal.returns-in-None
returns-in-None c = sym (before-none c.args.text.now c.args.units c.in-None.ensures.rest)

pub returns-in-Some : goal.returns-in-Some
returns-in-Some c =
    let text = c.args.text.now in
    let rest = c.in-Some.rest.now in
    let parts = front_of text rest c.args.units c.utf8.text c.in-Some.ensures.text c.in-Some.ensures.rest in
    ap (λ bs. Some (chars bs)) c.split_at.ensures.front ∙ front-is text rest c.args.units parts
