use Rattle.std.proofs.Common.{◌≡◌, ◌≤◌, [], None, length, reverse}
use Rattle.mt_grammar.specs.Depth.{scan}
use Rattle.mt_parser_marks.specs.NodeViews.{nodes_of}
use Rattle.mt_parser.specs.Levels.{levels_of}
use Rattle.mt_parser.proofs.Scanning.{left_nodes}
use Rattle.mt_parser.proofs.depth.scan.Given as goal

abbrev pub invariant-loop-left : goal.invariant-loop-left
invariant-loop-left l =
    (l.left ≤ length l.nodes) × (l.levels.top ≡ l.top)
    × (scan l.top (left_nodes l.nodes l.left) (levels_of l.levels.runs.items) l.found ≡ scan l.top (reverse (nodes_of l.nodes)) [] None)

abbrev pub decreases-loop-left : goal.decreases-loop-left
decreases-loop-left l = l.left
