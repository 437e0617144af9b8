use Rattle.khepri_types.proofs.Rounds.{settle-ends, settle-tree, settle-stable, stable-settled, settle-round, settle-any_number, settle-counted, settle-fits}
use Rattle.khepri_types.proofs.Remaining.{remains-settle, rest, within-remains}
use Rattle.khepri_types.specs.Settling.{settle}
use Rattle.khepri_types.proofs.settling_laws.settling_ends.Goals as goal

pub returns-clause-ends : goal.returns-clause-ends
returns-clause-ends c = settle-ends

pub returns-clause-tree : goal.returns-clause-tree
returns-clause-tree c = settle-tree

pub returns-clause-within : goal.returns-clause-within
returns-clause-within c = λ T. within-remains T (settle T) (remains-settle T)

pub returns-clause-left : goal.returns-clause-left
returns-clause-left c = λ T q n e. let r = rest T (settle T) (remains-settle T) q n e in (r.old, r.stood, r.payload, r.pv, r.watches)

pub returns-clause-unchanged : goal.returns-clause-unchanged
returns-clause-unchanged c = λ T. (stable-settled T, settle-stable T)

pub returns-clause-round : goal.returns-clause-round
returns-clause-round c = settle-round

pub returns-clause-any_number : goal.returns-clause-any_number
returns-clause-any_number c = settle-any_number

pub returns-clause-counted : goal.returns-clause-counted
returns-clause-counted c = settle-counted

pub returns-clause-fitting : goal.returns-clause-fitting
returns-clause-fitting c = settle-fits
