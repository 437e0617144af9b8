use Rattle.std.proofs.Common.{arith}
use Rattle.khepri_machine.proofs.Following.{follows-more, follows-none}
use Rattle.khepri_machine.proofs.follow.follow.Goals as goal

pub loop-path-init : goal.loop-path-init
loop-path-init g c = record { follows = follows-none c.args.tree.now c.args.paths.now c.args.watchers.now }

pub loop-path-preserved : goal.loop-path-preserved
loop-path-preserved g c = record {
  follows = follows-more c.args.tree.now c.args.paths.now c.loop-path.path-index c.path-item.result c.args.watchers.now c.loop-path.watchers c.relink.new.watchers (omega arith) c.path-item.is c.loop-path.invariant.follows c.in_ok-relink.ensures.here c.in_ok-relink.ensures.others;
}
