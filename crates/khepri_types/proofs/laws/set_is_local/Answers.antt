use Rattle.khepri_types.proofs.Trees.{set-at_path, set-on_the_way, set-elsewhere}
use Rattle.khepri_types.proofs.laws.set_is_local.Goals as goal

pub returns-clause-at_path : goal.returns-clause-at_path
returns-clause-at_path c = set-at_path

pub returns-clause-on_the_way : goal.returns-clause-on_the_way
returns-clause-on_the_way c = set-on_the_way

pub returns-clause-elsewhere : goal.returns-clause-elsewhere
returns-clause-elsewhere c = set-elsewhere
