use Rattle.std.proofs.Common.{sym, ap, ◌∙◌, arith}
use Rattle.mt_dom_nodes.specs.Trees.{is_in}
use Rattle.mt_dom_nodes.specs.Standing.{parent_link}
use Rattle.mt_dom_nodes.proofs.Upward.{onward, is_in-here, is_in-other}
use Rattle.mt_dom_nodes.proofs.ways.is_above.Goals as goal

pub returns-then-m-c : goal.returns-then-m-c
returns-then-m-c c =
    let inside = rw c.in-Some.is at c.up.invariant.inside in
    let o = onward c.args.nodes.now c.requires.kept c.in-Some.m inside in
    let left = rw c.in-Some.is at c.up.invariant.left in
    sym (left ∙ ap (is_in c.args.c) o.along ∙ is_in-here c.args.c c.in-Some.m _ c.if-m-c.true)

pub up-smaller : goal.up-smaller
up-smaller c =
    let inside = rw c.in-Some.is at c.up.invariant.inside in
    let o = onward c.args.nodes.now c.requires.kept c.in-Some.m inside in
    let parent = ap parent_link c.node.ensures in
    let along = rw parent at o.along in
    rw (c.in-Some.is, along) (omega arith)

pub up-preserved : goal.up-preserved
up-preserved c =
    let inside = rw c.in-Some.is at c.up.invariant.inside in
    let o = onward c.args.nodes.now c.requires.kept c.in-Some.m inside in
    let parent = ap parent_link c.node.ensures in
    let along = rw parent at o.along in
    let left = rw c.in-Some.is at c.up.invariant.left in
    record {
      inside = rw parent at o.inside;
      left = left ∙ ap (is_in c.args.c) along ∙ is_in-other c.args.c c.in-Some.m _ c.if-m-c.false;
    }
