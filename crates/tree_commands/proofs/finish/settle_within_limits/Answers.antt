use Rattle.tree_commands.proofs.Settled.{settled_stable}
use Rattle.tree_commands.proofs.finish.settle_within_limits.Goals as goal

pub returns-clause-settled : goal.returns-clause-settled
returns-clause-settled g c = λ _. settled_stable c.args.draft.now.tree c.settle.new.draft.tree c.in_ok-gone.ensures.tree
