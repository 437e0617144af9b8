use Rattle.std.proofs.Common.{arith}
use Rattle.keep_while.proofs.Gathering.{within-more, within-on}
use Rattle.keep_while.proofs.Noting.{only-begins, only-more}
use Rattle.keep_while.proofs.gather.note_all.Goals as goal

pub loop-path-init : goal.loop-path-init
loop-path-init c = record {
  these = λ q h. absurd cc;
  stays = λ q h. h;
  only = only-begins c.args.left.now.keys c.args.paths.now c.args.set.now.keys;
}

pub loop-path-preserved : goal.loop-path-preserved
loop-path-preserved c = record {
  these = within-more c.args.left.now.keys c.args.paths.now c.loop-path.path-index c.path-item.result c.loop-path.set.keys c.note_one.new.set.keys (omega arith) c.path-item.is c.loop-path.invariant.these c.in_ok-note_one.ensures.stays c.in_ok-note_one.ensures.itself;
  stays = within-on c.args.set.now.keys c.loop-path.set.keys c.note_one.new.set.keys c.loop-path.invariant.stays c.in_ok-note_one.ensures.stays;
  only = only-more c.args.left.now.keys c.args.paths.now c.loop-path.path-index c.path-item.result c.args.set.now.keys c.loop-path.set.keys c.note_one.new.set.keys (omega arith) c.path-item.is c.loop-path.invariant.only c.in_ok-note_one.ensures.only;
}
