use Rattle.std.proofs.Common.{arith}
use Rattle.keep_while.proofs.Gathering.{goes-more, goes-none, near-more, near-none}
use Rattle.keep_while.proofs.Noting.{keeps-more, keeps-none, near-all, stands-more, stands-none, walks-more}
use Rattle.keep_while.proofs.gather.changed_by.Goals as goal

pub loop-top-init : goal.loop-top-init
loop-top-init g c =
    let T = c.args.draft.now.tree in
    let tops = c.args.tops.now in
    record {
      near = near-none T tops c.new-set.result.keys;
      left = goes-none tops c.args.out.now.left.keys;
      gone = goes-none tops c.args.out.now.gone.keys;
      only = stands-none T tops c.new-set.result.keys c.new-set.ensures.empty;
      keeps_left = keeps-none T tops c.args.out.now.left.keys;
      keeps_gone = keeps-none T tops c.args.out.now.gone.keys;
      cost = omega arith;
      risen = omega arith;
    }

pub loop-top-preserved : goal.loop-top-preserved
loop-top-preserved g c =
    let T = c.args.draft.now.tree in
    let tops = c.args.tops.now in
    let i = c.loop-top.top-index in
    let top = c.top-item.result in
    let was = c.loop-top.invariant in
    let above = c.in_ok-add_above.ensures in
    let below = c.in_ok-add_below.ensures in
    record {
      near = near-more T tops i top c.loop-top.set.keys c.add_above.new.set.keys c.add_below.new.set.keys (omega arith) c.top-item.is was.near above.stays above.above below.stays below.below;
      left = goes-more tops i top c.args.out.now.left.keys c.loop-top.out.left.keys c.add_below.new.out.left.keys (omega arith) c.top-item.is was.left below.left;
      gone = goes-more tops i top c.args.out.now.gone.keys c.loop-top.out.gone.keys c.add_below.new.out.gone.keys (omega arith) c.top-item.is was.gone below.gone;
      only = stands-more T tops i top c.loop-top.set.keys c.add_above.new.set.keys c.add_below.new.set.keys c.nodes-nodes.ensures.tree (omega arith) c.top-item.is was.only above.only below.only;
      keeps_left = keeps-more T tops i top c.args.out.now.left.keys c.loop-top.out.left.keys c.add_below.new.out.left.keys (omega arith) c.top-item.is was.keeps_left below.out.0;
      keeps_gone = keeps-more T tops i top c.args.out.now.gone.keys c.loop-top.out.gone.keys c.add_below.new.out.gone.keys (omega arith) c.top-item.is was.keeps_gone below.out.1;
      cost = omega (arith, was.cost, below.cost, walks-more T tops i top (omega arith) c.top-item.is);
      risen = omega (arith, was.risen, c.add_below.ensures.risen);
    }

pub returns-clause-only : goal.returns-clause-only
returns-clause-only g c = near-all c.args.draft.now.tree c.args.tops.now c.loop-top.top-index c.loop-top.set.keys (omega (arith, c.loop-top-test.false, c.loop-top.auto.top-index-end)) c.loop-top.invariant.only
