use Rattle.std.proofs.Common.{◌≡◌, ap, sym, ◌∙◌}
use Rattle.std.specs.Prelude.{is_some}
use Rattle.khepri_terms.specs.Lengths.{capped}
use Rattle.khepri_types.specs.declared.node.Node.{Node}
use Rattle.khepri_types.specs.Sizes.{node_bytes}
use Rattle.khepri_types.specs.Views.{node_of}
use Rattle.tree_overlay.proofs.Seeing.{node_same, seen-kids, unseen}
use Rattle.tree_overlay.proofs.draft.Draft.measure.Goals as goal

pub returns-in_default-clause-stands : goal.returns-in_default-clause-stands
returns-in_default-clause-stands c = sym (ap is_some (unseen c.args.self.now.tree c.args.path.now c.in_default.ensures.node))

pub returns-clause-stands : goal.returns-clause-stands
returns-clause-stands c = sym (ap is_some c.in-Some.ensures.watches)

pub returns-clause-measures : goal.returns-clause-measures
returns-clause-measures c =
    let p = c.args.path.now in
    (λ n at. c.node_len.ensures ∙ ap (λ (m : Node). capped (node_bytes (p, m))) (node_same (sym c.in-Some.ensures.watches ∙ at)), seen-kids c.args.self.now.tree p c.in-Some.node c.in-Some.ensures.node c.in-Some.ensures.watches)
