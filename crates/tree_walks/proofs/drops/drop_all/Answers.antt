use Rattle.std.proofs.Common.{ap, arith}
use Rattle.std.specs.FinMap.{len}
use Rattle.khepri_types.proofs.Dropping.{len-drop}
use Rattle.tree_walks.proofs.Dropping.{drop-tree, touches-drop}
use Rattle.tree_walks.proofs.drops.drop_all.Goals as goal

pub overflow_sub-result : goal.overflow_sub-result
overflow_sub-result c =
    let T = c.args.draft.now.tree in
    let all = drop-tree T c.drop_each.new.draft.tree c.args.paths.now c.in_ok-drop_each.ensures.tree in
    omega (arith, c.nodes-before.ensures.count, c.nodes.ensures.count, ap len all, len-drop T c.args.paths.now)

pub returns-clause-tree : goal.returns-clause-tree
returns-clause-tree c = drop-tree c.args.draft.now.tree c.drop_each.new.draft.tree c.args.paths.now c.in_ok-drop_each.ensures.tree

pub returns-clause-touches : goal.returns-clause-touches
returns-clause-touches c = touches-drop c.args.draft.now.tree c.drop_each.new.draft.tree c.args.paths.now c.args.draft.now.touched c.drop_each.new.draft.touched c.in_ok-drop_each.ensures.tree c.in_ok-drop_each.ensures.touched
