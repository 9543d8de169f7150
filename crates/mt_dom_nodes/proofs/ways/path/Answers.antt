use Rattle.std.proofs.Common.{◌++◌, sym, ap, ◌∙◌, arith, append_assoc}
use Rattle.mt_dom_nodes.specs.Standing.{parent_link}
use Rattle.mt_dom_nodes.proofs.Upward.{onward}
use Rattle.mt_dom_nodes.proofs.ways.path.Goals as goal

pub up-smaller : goal.up-smaller
up-smaller c =
    let inside = rw c.in-Some.is at c.up.invariant.inside in
    let o = onward c.args.nodes.now c.requires.kept c.in-Some.m inside in
    let parent = ap parent_link c.node.ensures in
    let along = rw parent at o.along in
    rw (c.in-Some.is, along) (omega arith)

pub up-preserved : goal.up-preserved
up-preserved c =
    let inside = rw c.in-Some.is at c.up.invariant.inside in
    let o = onward c.args.nodes.now c.requires.kept c.in-Some.m inside in
    let parent = ap parent_link c.node.ensures in
    let along = rw parent at o.along in
    let before = rw c.in-Some.is at c.up.invariant.whole in
    record {
      inside = rw parent at o.inside;
      whole = rw (c.in_ok-push.ensures.ok, append_assoc) (ap (λ w. c.up.made.items ++ w) (sym along) ∙ before);
    }
