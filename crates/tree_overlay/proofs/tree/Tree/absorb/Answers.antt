use Rattle.std.proofs.Common.{◌≡◌, List, length, sym, ap, subst, ◌∙◌}
use Rattle.std.specs.FinMap.{from_sorted, len}
use Rattle.khepri_terms.specs.Terms.{NameText}
use Rattle.khepri_terms.specs.Order.{path_cmp}
use Rattle.khepri_types.specs.declared.node.Node.{Node}
use Rattle.khepri_types.specs.declared.node.Payload.TheVariants.{Empty}
use Rattle.khepri_types.specs.Sizes.{bytes}
use Rattle.khepri_types.specs.Tree.{Tree, fresh, opening_tree}
use Rattle.khepri_types.proofs.Fitting.{opening_bytes}
use Rattle.nested_nodes.proofs.Named.{leaf_is_nest}
use Rattle.tree_overlay.specs.Over.{Drafted, IsShallow, over}
use Rattle.tree_overlay.proofs.Applying.{len-rows, ok_of}
use Rattle.tree_overlay.proofs.Shallow.{shallow-opening}
use Rattle.tree_overlay.proofs.tree.Tree.absorb.Goals as goal

pub invariant_of-self-2 : goal.invariant_of-self-2
invariant_of-self-2 c =
    let d = c.changes.inside in
    let base = c.self.view_is ∙ (c.requires.same ∙ sym (ap (λ (e : Drafted). e.base) c.changes.view_is)) in
    let now = ok_of c.apply.result _ c.apply.ensures.tree (sym c.is_err.ensures.value ∙ c.if-is_err.false) in
    let all : from_sorted {R = path_cmp} c.apply.new.root ≡ over d.base.value d.changed.entries = now ∙ ap (λ (B : Tree). over B d.changed.entries) base in
    (c.apply.ensures.nest, c.changes.invariant.1 ∙ (sym (ap len all) ∙ len-rows c.apply.new.root c.apply.ensures.nest), c.changes.invariant.2 ∙ sym (ap bytes all), subst IsShallow (sym all) c.changes.invariant.3)

pub invariant_of-self : goal.invariant_of-self
invariant_of-self c =
    let same : opening_tree ≡ from_sorted {R = path_cmp} c.empty.result = ap (λ (ps : List (List NameText × Node)). from_sorted {R = path_cmp} ps) (sym c.empty.ensures) in
    (leaf_is_nest c.empty.result (fresh Empty, c.empty.ensures), sym (ap length c.empty.ensures), sym opening_bytes ∙ ap bytes same, subst IsShallow same shallow-opening)
