use Rattle.khepri_types.proofs.GlobLaws.{literal_unlike, literal_same, literal_longer, star_left}
use Rattle.khepri_types.proofs.glob.begin.Goals as goal

pub returns-in_default : goal.returns-in_default
returns-in_default c = literal_unlike _ _ (c.in_default.ensures)

pub returns-in-empty-rest : goal.returns-in-empty-rest
returns-in-empty-rest c = literal_same _ _ _ _ (c.in-Some.ensures) c.in-empty.len_below c.in-empty-rest.len_below

pub returns-in-len1-up-rest : goal.returns-in-len1-up-rest
returns-in-len1-up-rest c = literal_longer _ _ _ _ c.in-Some.ensures c.in-empty.len_below c.in-len1-up-rest.len_at_least

pub returns-in-len1-up : goal.returns-in-len1-up
returns-in-len1-up c = star_left _ _ c.in-Some.left.now _ c.in-Some.ensures c.in-len1-up.len_at_least
