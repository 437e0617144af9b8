-- The laws are those of the lemmas.
use Rattle.raft_spine.proofs.Laws.{reached_one_leader, reached_logs_match, reached_one_history, reached_leaders_have, reached_for_good}
use Rattle.raft_spine.proofs.spine_laws.Goals as goal

pub returns-clause-one_leader : goal.returns-clause-one_leader
returns-clause-one_leader c = reached_one_leader

pub returns-clause-logs_match : goal.returns-clause-logs_match
returns-clause-logs_match c = reached_logs_match

pub returns-clause-one_history : goal.returns-clause-one_history
returns-clause-one_history c = reached_one_history

pub returns-clause-leaders_have : goal.returns-clause-leaders_have
returns-clause-leaders_have c = reached_leaders_have

pub returns-clause-for_good : goal.returns-clause-for_good
returns-clause-for_good c = reached_for_good
