use Rattle.std.proofs.lemmas.Result.{IfOk-weaker}
use Rattle.khepri_terms.proofs.Longest.{longest_is, no_path_is}
use Rattle.khepri_terms.proofs.path.Path.read.Goals as goal

pub returns-clause-longest : goal.returns-clause-longest
returns-clause-longest c = IfOk-weaker c.read_path.result _ _ (λ x e. longest_is c.args.text.now x.0 x.1.now e) c.read_path.ensures.value

pub returns-clause-none : goal.returns-clause-none
returns-clause-none c = λ h. no_path_is c.args.text.now (c.read_path.ensures.bad h)
