use Rattle.std.proofs.Common.{ap, ◌∙◌, arith, Option}
use Rattle.std.specs.Prelude.{is_some}
use Rattle.std.specs.Option.{option_map}
use Rattle.khepri_types.specs.declared.node.Node.{Node}
use Rattle.khepri_types.specs.declared.watch.Watch.{Watch}
use Rattle.khepri_types.specs.Watching.{unmet_of}
use Rattle.keep_while.proofs.Failures.{copied-some, unmet-fails}
use Rattle.plain_rounds.proofs.rounds.fails.Goals as goal

pub returns-clause-fails : goal.returns-clause-fails
returns-clause-fails g c = λ n at.
    let T = c.args.draft.now.tree in
    c.is_some.ensures ∙ (copied-some c.first_unmet.result ∙ (ap is_some c.first_unmet.ensures.unmet ∙ (ap (λ (o : Option Node). is_some (option_map (λ (w : Watch). w.target) (unmet_of T o))) at ∙ unmet-fails T c.args.path.now n (omega arith))))
