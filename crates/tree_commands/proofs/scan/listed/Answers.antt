use Rattle.std.proofs.Common.{◌∙◌}
use Rattle.khepri_types.specs.Views.{as_seen}
use Rattle.tree_commands.proofs.Seeing.{seen_listed}
use Rattle.tree_commands.proofs.scan.listed.Goals as goal

pub returns : goal.returns
returns c = λ T n is seen.
    let node = c.args.node.now in
    (λ i. record { path = c.args.path; pv = node.pv; cv = node.cv; kids = node.kids; payload = c.in_ok-copy.ensures i })
    ∙ seen_listed T c.args.path n (as_seen node) is seen
