use Rattle.std.proofs.lemmas.Result.{IfOk-weaker}
use Rattle.khepri_terms.proofs.Longest.{only_is, no_rec_is}
use Rattle.khepri_terms.proofs.rec.Rec.read.Goals as goal

pub returns-clause-only : goal.returns-clause-only
returns-clause-only c = IfOk-weaker c.read_rec.result _ _ (λ x e. only_is c.args.text.now x.0 x.1.now e) c.read_rec.ensures.value

pub returns-clause-none : goal.returns-clause-none
returns-clause-none c = λ h. no_rec_is c.args.text.now (c.read_rec.ensures.bad h)
