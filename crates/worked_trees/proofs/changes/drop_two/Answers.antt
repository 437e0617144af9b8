use Rattle.std.proofs.Common.{◌∙◌, arith}
use Rattle.worked_trees.proofs.Sparing.{both_below_root}
use Rattle.worked_trees.proofs.changes.drop_two.Goals as goal

pub drop_all-requires : goal.drop_all-requires
drop_all-requires g c = record {
  below = both_below_root c.args.first c.args.second c.as_slice.result.now (c.as_slice.ensures.value ∙ c.in_ok-paths.ensures.items) (omega arith) (omega arith);
}
