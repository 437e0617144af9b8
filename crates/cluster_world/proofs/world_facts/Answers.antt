-- By the lemmas.
use Rattle.raft_spine.specs.Start.{Start}
use Rattle.raft_spine.specs.Spine.{begin}
use Rattle.std.proofs.Common.{ℕ, List}
use Rattle.cluster_world.specs.World.{Machine, begin_world}
use Rattle.cluster_world.specs.Events.{Event, run}
use Rattle.cluster_world.specs.Facts.{IsFit, WorldFacts}
use Rattle.cluster_world.proofs.Runs.{holds_run, led_once, history_longer, history_from, facts}
use Rattle.cluster_world.proofs.Whole.{stands_for_whole}
use Rattle.cluster_world.proofs.world_facts.Goals as goal

of_run : (b : Start) (m : Machine) (count : ℕ) (es : List Event) → IsFit b m → WorldFacts b (run b m (begin_world b count) es)
of_run b m count es fit = facts b m (run b m (begin_world b count) es) (holds_run b m fit count es).kept

pub returns-clause-one_leader : goal.returns-clause-one_leader
returns-clause-one_leader c = λ b m count es fit. (of_run b m count es fit).one_leader

pub returns-clause-logs_match : goal.returns-clause-logs_match
returns-clause-logs_match c = λ b m count es fit. (of_run b m count es fit).logs_match

pub returns-clause-one_history : goal.returns-clause-one_history
returns-clause-one_history c = λ b m count es fit. (of_run b m count es fit).one_history

pub returns-clause-leaders_have : goal.returns-clause-leaders_have
returns-clause-leaders_have c = λ b m count es fit. (of_run b m count es fit).leaders_have

pub returns-clause-stands_for_whole : goal.returns-clause-stands_for_whole
returns-clause-stands_for_whole c = λ b m count es fit. stands_for_whole b m fit (run b m (begin_world b count) es) (holds_run b m fit count es).kept

pub returns-clause-led_once : goal.returns-clause-led_once
returns-clause-led_once c = λ b m count fit. led_once b m fit count

pub returns-clause-takes_differ : goal.returns-clause-takes_differ
returns-clause-takes_differ c = λ b m count es fit. (holds_run b m fit count es).differ

pub returns-clause-history_is_longer : goal.returns-clause-history_is_longer
returns-clause-history_is_longer c = λ b m count es fit. history_longer b m (begin b) (run b m (begin_world b count) es) (holds_run b m fit count es) (of_run b m count es fit).one_history

pub returns-clause-comes_from : goal.returns-clause-comes_from
returns-clause-comes_from c = λ b m count es fit. history_from b m (begin b) (run b m (begin_world b count) es) (holds_run b m fit count es)
