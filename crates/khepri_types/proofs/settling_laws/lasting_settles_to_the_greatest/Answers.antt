use Rattle.khepri_types.proofs.Needing.{lasting-needed}
use Rattle.khepri_types.proofs.Supporting.{settled-supported, supported-settled}
use Rattle.khepri_types.proofs.settling_laws.lasting_settles_to_the_greatest.Goals as goal

pub returns-clause-is_one : goal.returns-clause-is_one
returns-clause-is_one c = settled-supported

pub returns-clause-greatest : goal.returns-clause-greatest
returns-clause-greatest c = λ T keep tree. supported-settled T keep

pub returns-clause-not_of_all : goal.returns-clause-not_of_all
returns-clause-not_of_all c = lasting-needed
