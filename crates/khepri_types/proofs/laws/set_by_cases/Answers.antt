use Rattle.khepri_types.proofs.Growing.{set-there}
use Rattle.khepri_types.proofs.Longest.{longest, set-kept, set-raised, set-made, set-new}
use Rattle.khepri_types.proofs.laws.set_by_cases.Goals as goal

pub returns-clause-standing : goal.returns-clause-standing
returns-clause-standing c = λ T p x n tree is. set-there T p x n tree is

pub returns-clause-front : goal.returns-clause-front
returns-clause-front c = longest

pub returns-clause-kept : goal.returns-clause-kept
returns-clause-kept c = set-kept

pub returns-clause-new_child : goal.returns-clause-new_child
returns-clause-new_child c = set-raised

pub returns-clause-made : goal.returns-clause-made
returns-clause-made c = set-made

pub returns-clause-at_path : goal.returns-clause-at_path
returns-clause-at_path c = set-new
