use Rattle.khepri_types.proofs.Matching.{matched_find, matched_sorted, matched_stands, root_alone, never_root}
use Rattle.khepri_types.proofs.laws.matching_is_exact.Goals as goal

pub returns-clause-nodes : goal.returns-clause-nodes
returns-clause-nodes c = matched_find

pub returns-clause-ordered : goal.returns-clause-ordered
returns-clause-ordered c = matched_sorted

pub returns-clause-standing : goal.returns-clause-standing
returns-clause-standing c = matched_stands

pub returns-clause-root_alone : goal.returns-clause-root_alone
returns-clause-root_alone c = root_alone

pub returns-clause-never_root : goal.returns-clause-never_root
returns-clause-never_root c = never_root
