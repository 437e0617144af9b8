use Rattle.std.proofs.Common.{arith}
use Rattle.draft_scene.proofs.Picking.{noted}
use Rattle.draft_scene.proofs.unmet.in_order.Goals as goal

pub loop-path-preserved : goal.loop-path-preserved
loop-path-preserved c = λ q. noted c.args.written.now c.loop-path.path-index c.path-item.result c.loop-path.set.keys c.add.new.set.keys (omega arith) c.path-item.is c.loop-path.invariant c.in_ok-add.ensures q
