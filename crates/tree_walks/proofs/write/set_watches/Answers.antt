use Rattle.std.proofs.Common.{sym, ap, ◌∙◌, Option}
use Rattle.std.specs.FinMap.{insert}
use Rattle.khepri_terms.specs.Lengths.{capped}
use Rattle.khepri_types.specs.declared.node.Node.{Node}
use Rattle.khepri_types.specs.Sizes.{node_bytes}
use Rattle.khepri_types.specs.Watching.{given_watches}
use Rattle.tree_overlay.proofs.Seeing.{stands_seen}
use Rattle.tree_walks.proofs.Raising.{some_same}
use Rattle.tree_walks.proofs.Sweeping.{same-stays}
use Rattle.tree_walks.proofs.Touching.{touched-stays}
use Rattle.tree_walks.proofs.write.set_watches.Goals as goal

pub unreachable-requires : goal.unreachable-requires
unreachable-requires c = stands_seen c.args.draft.now.tree c.args.path.now c.requires.stands c.in_default.ensures.node

pub returns-clause-tree : goal.returns-clause-tree
returns-clause-tree c =
    let T = c.args.draft.now.tree in
    let p = c.args.path.now in
    c.in_ok-rewrite.ensures.tree ∙ (ap (insert T p) c.in_ok-watched.ensures ∙ sym (ap (given_watches T p c.args.watches.now) c.in-Some.ensures.watches))

pub returns-clause-stays : goal.returns-clause-stays
returns-clause-stays c = touched-stays c.args.path.now c.args.draft.now.touched c.rewrite.new.self.touched c.in_ok-rewrite.ensures.touched

pub returns-in_err-rewrite-clause-stays : goal.returns-in_err-rewrite-clause-stays
returns-in_err-rewrite-clause-stays c = same-stays c.args.draft.now.touched c.args.draft.now c.rewrite.new.self (λ q h. h) c.in_err-rewrite.ensures.kept

pub rewrite-requires-clause-was : goal.rewrite-requires-clause-was
rewrite-requires-clause-was c = λ n at. c.node_len-was.ensures ∙ ap (λ (m : Node). capped (node_bytes (c.args.path.now, m))) (some_same (sym c.in-Some.ensures.watches ∙ at))
