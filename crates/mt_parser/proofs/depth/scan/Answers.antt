use Rattle.std.proofs.Common.{◌≡◌, ◌+◌, ◌-◌, [], None, arith, ap, ◌∙◌}
use Rattle.mt_grammar.specs.Depth.{scan}
use Rattle.mt_parser.specs.Levels.{levels_of}
use Rattle.mt_parser.proofs.Scanning.{all_left, stepped}
use Rattle.mt_parser.proofs.depth.scan.Goals as goal

pub loop-left-init : goal.loop-left-init
loop-left-init c =
    (omega (arith), c.new-levels.ensures.top, rw c.new-levels.ensures.levels (ap (λ xs. scan c.args.top xs [] None) (all_left c.args.nodes.now)))

pub loop-left-preserved : goal.loop-left-preserved
loop-left-preserved c =
    let less : c.loop-left.left - 1 + 1 ≡ c.loop-left.left = omega (arith, c.loop-left-test.true) in
    let next = stepped c.args.top c.args.nodes.now c.loop-left.left (c.loop-left.left - 1) _ (levels_of c.loop-left.levels.runs.items) c.loop-left.found _ less c.loop-left.invariant.0 c.loop-left.invariant.2 in (
      omega (arith, c.loop-left.invariant.0),
      c.in_ok-add.ensures.top ∙ c.in_ok-level.ensures.top ∙ c.loop-left.invariant.1,
      rw (c.in_ok-add.ensures.added, c.inside.ensures, c.level_within.ensures, c.found_at-found.ensures, c.in_ok-level.ensures.later, c.in_ok-level.ensures.first, c.loop-left.invariant.1, c.counted_place-place.ensures) next,
    )
