use Rattle.std.proofs.Common.{◌≡◌, ◌-◌, ◌∙◌, suc, List, [], length, sym, subst, arith, Option, Some}
use Rattle.std.specs.Option.{option_copied}
use Rattle.khepri_terms.specs.Terms.{NameText}
use Rattle.khepri_types.specs.declared.view.NodeView.{NodeView}
use Rattle.khepri_types.specs.Conditions.{seen_at}
use Rattle.khepri_types.specs.Views.{as_seen, seen_of}
use Rattle.pattern_match.specs.Masks.{AreMasks}
use Rattle.tree_nodes.specs.Next.{IsNextNode}
use Rattle.tree_nodes.proofs.Walking.{walk-goes_on}
use Rattle.draft_scene.specs.Scans.{path_or_root}
use Rattle.draft_scene.proofs.Masking.{as_many, below_last, entered_next, none_next, root_first, seen_there}
use Rattle.draft_scene.proofs.matching.visit.Goals as goal

pub unreachable-requires : goal.unreachable-requires
unreachable-requires g c =
    let T = c.args.draft.now.tree in
    let last = option_copied c.args.last in
    none_next T last c.requires.more (subst (λ (o : Option (List NameText)). IsNextNode T last o) c.in_default.is c.in_ok-path.ensures.next)

pub returns-then-names-eq0-clause-next : goal.returns-then-names-eq0-clause-next
returns-then-names-eq0-clause-next g c =
    let T = c.args.draft.now.tree in
    let last = option_copied c.args.last in
    walk-goes_on T last c.in-Some.path (subst (λ (o : Option (List NameText)). IsNextNode T last o) c.in-Some.is c.in_ok-path.ensures.next)

pub returns-then-names-eq0-clause-masks : goal.returns-then-names-eq0-clause-masks
returns-then-names-eq0-clause-masks g c =
    let T = c.args.draft.now.tree in
    let last = option_copied c.args.last in
    let next : IsNextNode T last (Some c.in-Some.path) = subst (λ (o : Option (List NameText)). IsNextNode T last o) c.in-Some.is c.in_ok-path.ensures.next in
    let same = root_first T last c.in-Some.path (sym c.len-names.ensures ∙ c.if-names-eq0.true) next in
    subst (λ (p : List NameText). AreMasks c.args.pattern.now T [] p c.args.masks.now) same c.requires.behind

pub unreachable-requires-in_default-node : goal.unreachable-requires-in_default-node
unreachable-requires-in_default-node g c =
    let T = c.args.draft.now.tree in
    let last = option_copied c.args.last in
    let path = c.in-Some.path in
    let next : IsNextNode T last (Some path) = subst (λ (o : Option (List NameText)). IsNextNode T last o) c.in-Some.is c.in_ok-path.ensures.next in
    seen_there T path (subst (λ (o : Option NodeView). seen_of o ≡ seen_at T path) c.in_default-node.is c.node.ensures.node) next.0

pub climb-requires-clause-within : goal.climb-requires-clause-within
climb-requires-clause-within g c =
    let T = c.args.draft.now.tree in
    let last = option_copied c.args.last in
    let path = c.in-Some.path in
    let next : IsNextNode T last (Some path) = subst (λ (o : Option (List NameText)). IsNextNode T last o) c.in-Some.is c.in_ok-path.ensures.next in
    let below = below_last T last path (c.len-names.result - 1) c.nodes-nodes.ensures.tree (omega (arith, c.len-names.ensures)) next in
    omega (arith, below.within, c.names_of-from.ensures)

pub climb-requires-clause-len : goal.climb-requires-clause-len
climb-requires-clause-len g c =
    omega (arith, as_many c.args.pattern.now c.args.draft.now.tree (path_or_root (option_copied c.args.last)) c.args.masks.now c.requires.behind, c.names_of-from.ensures)

pub returns-clause-next : goal.returns-clause-next
returns-clause-next g c =
    let T = c.args.draft.now.tree in
    let last = option_copied c.args.last in
    walk-goes_on T last c.in-Some.path (subst (λ (o : Option (List NameText)). IsNextNode T last o) c.in-Some.is c.in_ok-path.ensures.next)

pub returns-clause-masks : goal.returns-clause-masks
returns-clause-masks g c =
    let T = c.args.draft.now.tree in
    let parts = c.args.pattern.now in
    let last = option_copied c.args.last in
    let path = c.in-Some.path in
    let next : IsNextNode T last (Some path) = subst (λ (o : Option (List NameText)). IsNextNode T last o) c.in-Some.is c.in_ok-path.ensures.next in
    let long : length path ≡ suc (c.len-names.result - 1) = omega (arith, c.len-names.ensures) in
    let below = below_last T last path (c.len-names.result - 1) c.nodes-nodes.ensures.tree long next in
    entered_next parts T (path_or_root last) path (c.len-names.result - 1) (as_seen c.in-Some-node.node) c.climb.new.masks c.enter.new.self long below.front c.in-Some-node.ensures.node
    (c.climb.ensures.masks parts T (path_or_root last) (sym c.names_of-from.ensures) c.requires.behind)
    c.enter.ensures.masks
