-- The end of the second run is reached from the start; all else is computed.
use Rattle.std.proofs.Common.{rules, refl}
use Rattle.raft_spine.specs.Runs.{three, decide_moves, after_decide, succeed_moves}
use Rattle.raft_spine.proofs.Run.{reached_more}
use Rattle.raft_spine.proofs.spine_runs.Goals as goal

pub returns-clause-reached : goal.returns-clause-reached
returns-clause-reached c = reached_more three after_decide (record { start = search rules; moves = decide_moves; can = search rules; is = refl }) succeed_moves (search rules)
