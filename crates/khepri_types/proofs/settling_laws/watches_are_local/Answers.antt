use Rattle.khepri_types.proofs.Watched.{set_watched-at_path, set_watched-elsewhere}
use Rattle.khepri_types.proofs.settling_laws.watches_are_local.Goals as goal

pub returns-clause-at_path : goal.returns-clause-at_path
returns-clause-at_path c = set_watched-at_path

pub returns-clause-elsewhere : goal.returns-clause-elsewhere
returns-clause-elsewhere c = set_watched-elsewhere
