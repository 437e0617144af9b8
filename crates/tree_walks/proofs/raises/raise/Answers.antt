use Rattle.std.proofs.Common.{◌≡◌, Bool, false, true, ◌&&◌, ◌||◌, sym, ap, ◌∙◌}
use Rattle.std.specs.Ordering.{is_eq}
use Rattle.std.specs.FinMap.{insert}
use Rattle.khepri_terms.specs.Order.{path_cmp}
use Rattle.khepri_terms.specs.Lengths.{capped}
use Rattle.khepri_types.specs.declared.node.Node.{Node}
use Rattle.khepri_types.specs.Sizes.{kids, node_bytes}
use Rattle.khepri_types.specs.Tree.{Tree, raised_children}
use Rattle.khepri_types.specs.Views.{node_of}
use Rattle.tree_overlay.specs.Over.{is_touched}
use Rattle.tree_overlay.proofs.Counting.{kids-old}
use Rattle.tree_overlay.proofs.Seeing.{seen-kids, stands_seen}
use Rattle.tree_walks.specs.Notes.{rises}
use Rattle.tree_walks.proofs.Raising.{raised-low, some_same}
use Rattle.tree_walks.proofs.raises.raise.Goals as goal

pub unreachable-requires : goal.unreachable-requires
unreachable-requires c = stands_seen c.args.draft.now.tree c.args.path.now c.requires.stands c.in_default.ensures.node

pub returns-then-not-can_rise-clause-tree : goal.returns-then-not-can_rise-clause-tree
returns-then-not-can_rise-clause-tree c = λ n at.
    let same : node_of c.in-Some.node ≡ n = some_same (sym c.in-Some.ensures.watches ∙ at) in
    raised-low c.args.draft.now.tree c.args.path.now n at (ap rises (sym same) ∙ (sym c.can_rise.ensures ∙ c.if-not-can_rise.true))

pub returns-then-not-can_rise-clause-touched : goal.returns-then-not-can_rise-clause-touched
returns-then-not-can_rise-clause-touched c = λ n at q.
    let same : node_of c.in-Some.node ≡ n = some_same (sym c.in-Some.ensures.watches ∙ at) in
    let low : rises n ≡ false = ap rises (sym same) ∙ (sym c.can_rise.ensures ∙ c.if-not-can_rise.true) in
    sym (ap (λ (b : Bool). (b && is_eq (path_cmp c.args.path.now q)) || is_touched c.args.draft.now.touched q) low)

pub returns-clause-tree : goal.returns-clause-tree
returns-clause-tree c = λ n at.
    let same : node_of c.in-Some.node ≡ n = some_same (sym c.in-Some.ensures.watches ∙ at) in
    c.in_ok-rewrite.ensures.tree ∙ ap (insert c.args.draft.now.tree c.args.path.now) (c.in_ok-raised.ensures ∙ ap raised_children same)

pub returns-clause-touched : goal.returns-clause-touched
returns-clause-touched c = λ n at q.
    let same : node_of c.in-Some.node ≡ n = some_same (sym c.in-Some.ensures.watches ∙ at) in
    let high : rises n ≡ true = ap rises (sym same) ∙ (sym c.can_rise.ensures ∙ c.if-not-can_rise.false) in
    c.in_ok-rewrite.ensures.touched q ∙ sym (ap (λ (b : Bool). (b && is_eq (path_cmp c.args.path.now q)) || is_touched c.args.draft.now.touched q) high)

pub rewrite-requires-clause-was : goal.rewrite-requires-clause-was
rewrite-requires-clause-was c = λ n at. c.node_len-was.ensures ∙ ap (λ (m : Node). capped (node_bytes (c.args.path.now, m))) (some_same (sym c.in-Some.ensures.watches ∙ at))

pub returns-then-not-can_rise-clause-count : goal.returns-then-not-can_rise-clause-count
returns-then-not-can_rise-clause-count c = seen-kids c.args.draft.now.tree c.args.path.now c.in-Some.node c.in-Some.ensures.node c.in-Some.ensures.watches

pub returns-clause-count : goal.returns-clause-count
returns-clause-count c = seen-kids c.args.draft.now.tree c.args.path.now c.in-Some.node c.in-Some.ensures.node c.in-Some.ensures.watches

pub returns-clause-kids : goal.returns-clause-kids
returns-clause-kids c = λ q.
    ap (λ (T : Tree). kids T q) c.in_ok-rewrite.ensures.tree ∙ kids-old c.args.draft.now.tree c.args.path.now c.in_ok-raised.raised (node_of c.in-Some.node) q c.in-Some.ensures.watches
