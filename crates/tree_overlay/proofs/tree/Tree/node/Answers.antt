use Rattle.std.proofs.Common.{◌≡◌, sym, ap, ◌∙◌, arith, length, Option, Some}
use Rattle.std.specs.FinMap.{get}
use Rattle.khepri_types.specs.declared.node.Node.{Node}
use Rattle.khepri_types.specs.Tree.{Tree}
use Rattle.tree_overlay.proofs.Seeing.{root-get, root-seen, below-get, below-seen, below-none, below-not, seen-not}
use Rattle.tree_overlay.proofs.tree.Tree.node.Goals as goal

pub returns-in_default-clause-node : goal.returns-in_default-clause-node
returns-in_default-clause-node c =
    root-seen c.self.inside.root c.args.self.now c.args.path.now c.node.result.now c.kids.result _ c.self.view_is c.self.invariant.0 (omega (arith, c.in_default.ensures.cases, ap length c.names.ensures)) c.node.ensures.node c.kids.ensures c.shown.ensures.seen

pub returns-in_default-clause-watches : goal.returns-in_default-clause-watches
returns-in_default-clause-watches c =
    sym (ap (λ (T : Tree). get T c.args.path.now) c.self.view_is)
    ∙ (root-get c.self.inside.root c.args.path.now c.node.result.now c.self.invariant.0 (omega (arith, c.in_default.ensures.cases, ap length c.names.ensures)) c.node.ensures.node ∙ ap (λ (n : Node). Some n) (sym c.shown.ensures.node))

pub returns-in_default-seek-clause-node : goal.returns-in_default-seek-clause-node
returns-in_default-seek-clause-node c =
    let ps = c.self.inside.root in
    seen-not c.args.self.now c.args.path.now (sym (ap (λ (T : Tree). get T c.args.path.now) c.self.view_is)
    ∙ below-none ps c.args.path.now c.names.result.now c.in-Some.above.now c.in-Some.last.now c.self.invariant.0 c.names.ensures c.in-Some.ensures.cases.0 c.in_default-seek.ensures.stands)

pub returns-in_default-kid-clause-node : goal.returns-in_default-kid-clause-node
returns-in_default-kid-clause-node c =
    let ps = c.self.inside.root in
    seen-not c.args.self.now c.args.path.now (sym (ap (λ (T : Tree). get T c.args.path.now) c.self.view_is)
    ∙ below-not ps c.in-Some-seek.parent.now c.args.path.now c.names.result.now c.in-Some.above.now c.in-Some.last.now c.self.invariant.0 c.names.ensures c.in-Some.ensures.cases.0 c.in-Some-seek.ensures.some c.in_default-kid.ensures.stands)

pub returns-clause-node : goal.returns-clause-node
returns-clause-node c =
    below-seen c.self.inside.root c.in-Some-seek.parent.now c.in-Some-kid.nest.now c.args.self.now c.args.path.now c.names.result.now c.in-Some.above.now c.in-Some.last.now c.in-Some-kid.name.now c.node-2.result.now c.kids-2.result _
    c.self.view_is c.self.invariant.0 c.names.ensures c.in-Some.ensures.cases.0 c.in-Some-kid.ensures.name c.in-Some-seek.ensures.some c.in-Some-kid.ensures.some c.node-2.ensures.node c.kids-2.ensures c.shown-2.ensures.seen

pub returns-clause-watches : goal.returns-clause-watches
returns-clause-watches c =
    sym (ap (λ (T : Tree). get T c.args.path.now) c.self.view_is)
    ∙ (below-get c.self.inside.root c.in-Some-seek.parent.now c.in-Some-kid.nest.now c.args.path.now c.names.result.now c.in-Some.above.now c.in-Some.last.now c.node-2.result.now c.self.invariant.0 c.names.ensures c.in-Some.ensures.cases.0
    c.in-Some-seek.ensures.some c.in-Some-kid.ensures.some c.node-2.ensures.node ∙ ap (λ (n : Node). Some n) (sym c.shown-2.ensures.node))
