use Rattle.std.proofs.Common.{◌≡◌, take}
use Rattle.khepri_types.proofs.script_copy.+block_copying.Given as goal

abbrev pub invariant-copy_block-loop-one : goal.invariant-copy_block-loop-one
invariant-copy_block-loop-one l = l.all ≡ take l.one-index l.block
