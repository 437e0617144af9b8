use Rattle.tree_nodes.proofs.Walking.{walk-begins, walk-goes_on, walk-ends, walk-root, walk-parent}
use Rattle.tree_nodes.proofs.walk.walks_go_over_all.Goals as goal

pub returns-clause-begins : goal.returns-clause-begins
returns-clause-begins c = walk-begins

pub returns-clause-goes_on : goal.returns-clause-goes_on
returns-clause-goes_on c = walk-goes_on

pub returns-clause-ends : goal.returns-clause-ends
returns-clause-ends c = walk-ends

pub returns-clause-root : goal.returns-clause-root
returns-clause-root c = walk-root

pub returns-clause-parent : goal.returns-clause-parent
returns-clause-parent c = walk-parent
