use Rattle.std.proofs.Common.{refl, ap}
use Rattle.khepri_types.specs.Exec.{run_node}
use Rattle.keep_while.proofs.Failures.{none-seen}
use Rattle.tree_commands.proofs.run.script_at.Goals as goal

pub returns-in_default : goal.returns-in_default
returns-in_default g c = (refl, λ S args at. ap (run_node S args at) (none-seen c.args.draft.now.tree c.args.path.now c.in_default.ensures.node))
