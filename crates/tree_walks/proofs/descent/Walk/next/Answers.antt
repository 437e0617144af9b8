use Rattle.std.proofs.Common.{◌≡◌, ◌∙◌, ◌∷◌, ◌++◌, List, [], take, sym, ap, subst, Some}
use Rattle.khepri_types.specs.declared.node.Node.{Node}
use Rattle.tree_walks.specs.declared.descent.Turn.{Turn}
use Rattle.tree_walks.specs.Turns.{turned}
use Rattle.tree_walks.proofs.Descending.{begin-next, begin-seen, begin-got, go-seen, go-got}
use Rattle.tree_walks.proofs.descent.Walk.next.Goals as goal

pub returns-then-not-self-clause-next : goal.returns-then-not-self-clause-next
returns-then-not-self-clause-next c =
    let s = c.self.inside in
    let f = c.if-not-self.true in
    begin-next s.root.now c.args.self.now s.begun s.way.items c.self.invariant.0 c.self.view_is f (c.self.invariant.4 f)

pub returns-then-not-self-clause-node : goal.returns-then-not-self-clause-node
returns-then-not-self-clause-node c =
    let s = c.self.inside in
    let f = c.if-not-self.true in
    begin-seen s.root.now c.args.self.now s.begun s.way.items c.node.result.now c.kids.result _ c.self.invariant.0 c.self.view_is (c.self.invariant.4 f) c.node.ensures.node c.kids.ensures c.shown.ensures.seen

pub returns-then-not-self-clause-watches : goal.returns-then-not-self-clause-watches
returns-then-not-self-clause-watches c =
    let s = c.self.inside in
    let f = c.if-not-self.true in
    begin-got s.root.now c.args.self.now s.begun s.way.items c.node.result.now c.self.invariant.0 c.self.view_is (c.self.invariant.4 f) c.node.ensures.node ∙ ap (λ (n : Node). Some n) (sym c.shown.ensures.node)

pub returns-clause-node : goal.returns-clause-node
returns-clause-node c =
    let s = c.self.inside in
    let way = c.as_slice.result.now in
    let turn = c.in-Some.turn in
    let now : c.push_reserved.new.self.items ≡ turned way (c.in-Some.len, turn) = c.push_reserved.ensures.items ∙ ap (λ (a : List Turn). a ++ turn ∷ []) (c.truncate.ensures.items ∙ ap (take c.in-Some.len) (sym c.as_slice.ensures.value)) in
    go-seen s.root.now c.args.self.now s.begun way s.way.items c.push_reserved.new.self.items (c.in-Some.len, turn) c.node-2.result.now c.kids-2.result _ c.self.invariant.0 c.self.view_is c.if-not-self.false now
    c.in-Some.ensures.leads c.node-2.ensures.node c.kids-2.ensures c.shown-2.ensures.seen

pub returns-clause-watches : goal.returns-clause-watches
returns-clause-watches c =
    let s = c.self.inside in
    let way = c.as_slice.result.now in
    let turn = c.in-Some.turn in
    let now : c.push_reserved.new.self.items ≡ turned way (c.in-Some.len, turn) = c.push_reserved.ensures.items ∙ ap (λ (a : List Turn). a ++ turn ∷ []) (c.truncate.ensures.items ∙ ap (take c.in-Some.len) (sym c.as_slice.ensures.value)) in
    go-got s.root.now c.args.self.now s.begun way s.way.items c.push_reserved.new.self.items (c.in-Some.len, turn) c.node-2.result.now c.self.invariant.0 c.self.view_is c.if-not-self.false now
    c.in-Some.ensures.leads c.node-2.ensures.node ∙ ap (λ (n : Node). Some n) (sym c.shown-2.ensures.node)
