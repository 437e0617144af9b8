use Rattle.std.proofs.Common.{◌∙◌, arith}
use Rattle.worked_trees.proofs.Sparing.{below_root}
use Rattle.worked_trees.proofs.settling.plain_del.Goals as goal

pub drop_all-requires : goal.drop_all-requires
drop_all-requires g c = record {
  below = below_root c.args.path c.as_slice.result.now (c.as_slice.ensures.value ∙ c.in_ok-paths.ensures.items) (omega arith);
}
