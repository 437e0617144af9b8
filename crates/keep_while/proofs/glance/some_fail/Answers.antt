use Rattle.std.proofs.Common.{◌∙◌, sym, arith}
use Rattle.keep_while.proofs.Glancing.{none-begins, none-more}
use Rattle.keep_while.proofs.glance.some_fail.Goals as goal

pub loop-node-init : goal.loop-node-init
loop-node-init g c = record {
  none = none-begins c.args.draft.now.tree c.args.paths.now;
  cost = omega arith;
  risen = omega arith;
}

pub loop-node-preserved : goal.loop-node-preserved
loop-node-preserved g c =
    let was = c.loop-node.invariant in
    record {
      none = none-more c.args.draft.now.tree c.args.paths.now c.loop-node.node-index c.node-item.result (omega arith) c.node-item.is was.none (sym c.fails.ensures.at ∙ c.if-fails.false);
      cost = omega (arith, was.cost, c.fails.ensures.cost);
      risen = omega (arith, was.risen, c.fails.ensures.risen);
    }
