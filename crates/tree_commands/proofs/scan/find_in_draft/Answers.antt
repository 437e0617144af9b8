use Rattle.std.proofs.Common.{◌≡◌, ◌<◌, ◌∙◌, List, get_or, take, length, sym, ap, subst}
use Rattle.khepri_terms.specs.Terms.{NameText}
use Rattle.khepri_types.specs.declared.node.Node.{Node}
use Rattle.khepri_types.specs.Patterns.{matching, matching_nodes}
use Rattle.khepri_types.specs.Views.{node_of}
use Rattle.keep_while.proofs.Failures.{none-seen}
use Rattle.tree_commands.specs.Listing.{Lists}
use Rattle.tree_commands.proofs.Gathering.{Entry}
use Rattle.tree_commands.proofs.Listing.{never_absent, nodes_more}
use Rattle.tree_commands.proofs.scan.find_in_draft.Goals as goal

pub unreachable-requires : goal.unreachable-requires
unreachable-requires g c =
    let parts = c.args.pattern.now in
    let T = c.args.draft.now.tree in
    let i = c.each.path-index in
    let x = c.path-item.result in
    let all : c.deref-path-items.result.now ≡ matching parts T = c.deref-path-items.ensures.value ∙ c.in_ok-paths.ensures in
    never_absent T parts i x (subst (λ (ps : List (List NameText)). i < length ps) all c.each-test.true) (c.path-item.is ∙ ap (λ (ps : List (List NameText)). get_or ps i x) all)
    (none-seen T x c.in_default.ensures.node)

pub each-preserved : goal.each-preserved
each-preserved g c =
    let parts = c.args.pattern.now in
    let T = c.args.draft.now.tree in
    let i = c.each.path-index in
    let x = c.path-item.result in
    let n : Node = node_of c.in-Some.node in
    let all : c.deref-path-items.result.now ≡ matching parts T = c.deref-path-items.ensures.value ∙ c.in_ok-paths.ensures in
    let more = nodes_more T parts i x n (subst (λ (ps : List (List NameText)). i < length ps) all c.each-test.true) (c.path-item.is ∙ ap (λ (ps : List (List NameText)). get_or ps i x) all) c.in-Some.ensures.watches in
    record {
      lists = subst (λ (es : List Entry). Lists T c.args.limit es c.add_at.new.self) (sym more)
          (c.in_ok-add_at.ensures T (take i (matching_nodes parts T)) n c.in-Some.ensures.watches c.in-Some.ensures.node c.each.invariant.lists);
    }
