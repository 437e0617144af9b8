use Rattle.std.proofs.Common.{sym, ap, ◌∙◌, []}
use Rattle.khepri_types.specs.Sizes.{kids}
use Rattle.khepri_types.specs.Tree.{Tree}
use Rattle.nested_nodes.specs.Nests.{children}
use Rattle.tree_overlay.proofs.Applying.{with_nil}
use Rattle.tree_overlay.proofs.Counting.{kids-rows, childless}
use Rattle.tree_overlay.proofs.tree.Tree.kids.Goals as goal

pub returns-in-Some : goal.returns-in-Some
returns-in-Some c =
    let ps = c.self.inside.root in
    c.kids.ensures
    ∙ (c.in-Some.ensures.some.kids []
    ∙ (ap (children ps) (with_nil c.names.result.now ∙ c.names.ensures)
    ∙ (sym (kids-rows ps c.args.path.now c.self.invariant.0) ∙ ap (λ (T : Tree). kids T c.args.path.now) c.self.view_is)))

pub returns-in-None : goal.returns-in-None
returns-in-None c =
    let ps = c.self.inside.root in
    sym (childless ps c.names.result.now c.self.invariant.0 c.in-None.ensures.stands)
    ∙ (ap (children ps) c.names.ensures
    ∙ (sym (kids-rows ps c.args.path.now c.self.invariant.0) ∙ ap (λ (T : Tree). kids T c.args.path.now) c.self.view_is))
