use Rattle.std.proofs.Common.{sym, ap, ◌∙◌, Option}
use Rattle.khepri_terms.specs.Lengths.{capped}
use Rattle.khepri_types.specs.declared.node.Node.{Node}
use Rattle.khepri_types.specs.Exec.{pv_of}
use Rattle.khepri_types.specs.Sizes.{node_bytes}
use Rattle.khepri_types.specs.Views.{node_of}
use Rattle.tree_overlay.proofs.Seeing.{unseen}
use Rattle.tree_walks.proofs.Raising.{some_same}
use Rattle.tree_walks.proofs.Sweeping.{same-stays}
use Rattle.tree_walks.proofs.Touching.{set-same, touches-same, set-written, version-written, touches-written, touched-stays}
use Rattle.tree_walks.proofs.grow.set.Goals as goal

pub grow-requires-clause-absent : goal.grow-requires-clause-absent
grow-requires-clause-absent c = unseen c.args.draft.now.tree c.args.path.now c.in_default.ensures.node

pub rewrite-requires-clause-was : goal.rewrite-requires-clause-was
rewrite-requires-clause-was c = λ n at. c.node_len-was.ensures ∙ ap (λ (m : Node). capped (node_bytes (c.args.path.now, m))) (some_same (sym c.in-Some.ensures.watches ∙ at))

pub returns-then-is_same-clause-tree : goal.returns-then-is_same-clause-tree
returns-then-is_same-clause-tree c =
    set-same c.args.draft.now.tree c.args.path.now c.args.payload.now (node_of c.in-Some.node) c.nodes-nodes.ensures.tree c.in-Some.ensures.watches (sym c.is_same.ensures ∙ c.if-is_same.true)

pub returns-then-is_same-clause-version : goal.returns-then-is_same-clause-version
returns-then-is_same-clause-version c = sym (ap pv_of c.in-Some.ensures.watches)

pub returns-then-is_same-clause-touches : goal.returns-then-is_same-clause-touches
returns-then-is_same-clause-touches c =
    touches-same c.args.draft.now.tree c.args.path.now c.args.payload.now (node_of c.in-Some.node) c.args.draft.now.touched c.nodes-nodes.ensures.tree c.in-Some.ensures.watches (sym c.is_same.ensures ∙ c.if-is_same.true)

pub returns-clause-tree : goal.returns-clause-tree
returns-clause-tree c =
    set-written c.args.draft.now.tree c.rewrite.new.self.tree c.args.path.now c.args.payload.now (node_of c.in-Some.node) c.in_ok-written.written c.nodes-nodes.ensures.tree c.in-Some.ensures.watches c.in_ok-written.ensures c.in_ok-rewrite.ensures.tree

pub returns-clause-version : goal.returns-clause-version
returns-clause-version c = version-written c.args.draft.now.tree c.rewrite.new.self.tree c.args.path.now c.in_ok-written.written c.in_ok-rewrite.ensures.tree

pub returns-clause-touches : goal.returns-clause-touches
returns-clause-touches c =
    touches-written c.args.draft.now.tree c.rewrite.new.self.tree c.args.path.now c.args.payload.now (node_of c.in-Some.node) c.args.draft.now.touched c.rewrite.new.self.touched c.nodes-nodes.ensures.tree c.in-Some.ensures.watches
    (sym c.is_same.ensures ∙ c.if-is_same.false)
    (set-written c.args.draft.now.tree c.rewrite.new.self.tree c.args.path.now c.args.payload.now (node_of c.in-Some.node) c.in_ok-written.written c.nodes-nodes.ensures.tree c.in-Some.ensures.watches c.in_ok-written.ensures c.in_ok-rewrite.ensures.tree)
    c.in_ok-rewrite.ensures.touched

pub returns-clause-stays : goal.returns-clause-stays
returns-clause-stays c = touched-stays c.args.path.now c.args.draft.now.touched c.rewrite.new.self.touched c.in_ok-rewrite.ensures.touched

pub returns-in_err-rewrite-clause-stays : goal.returns-in_err-rewrite-clause-stays
returns-in_err-rewrite-clause-stays c = same-stays c.args.draft.now.touched c.args.draft.now c.rewrite.new.self (λ q h. h) c.in_err-rewrite.ensures.kept
