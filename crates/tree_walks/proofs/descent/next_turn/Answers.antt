use Rattle.std.proofs.Common.{◌∷◌, [], length, subst, refl, Some, None}
use Rattle.std.specs.Prelude.{IsTrue, is_some}
use Rattle.std.specs.FinMap.{find}
use Rattle.khepri_terms.specs.Order.{name_cmp, path_cmp}
use Rattle.khepri_types.specs.declared.node.Node.{Node}
use Rattle.nested_nodes.specs.Nests.{IsSub}
use Rattle.nested_nodes.specs.Next.{IsNext}
use Rattle.nested_nodes.proofs.Named.{Rows}
use Rattle.tree_walks.specs.declared.descent.Turn.{Turn}
use Rattle.tree_walks.specs.Turns.{IsLeaf}
use Rattle.tree_walks.proofs.Descending.{first-leads, first-next}
use Rattle.tree_walks.proofs.descent.next_turn.Goals as goal

pub returns-in-Some-clause-leads : goal.returns-in-Some-clause-leads
returns-in-Some-clause-leads c =
    let u : Turn = record { name = c.in-Some.name; nest = c.in-Some.nest } in
    first-leads c.args.root.now c.args.way.now u c.requires.leads (subst (λ (rs : Rows Node). IsSub (u.name.now ∷ []) rs u.nest.now) c.end_of.ensures c.in-Some.ensures.some)

pub returns-in-Some-clause-next : goal.returns-in-Some-clause-next
returns-in-Some-clause-next c =
    let u : Turn = record { name = c.in-Some.name; nest = c.in-Some.nest } in
    first-next c.args.root.now c.args.way.now u c.requires.nest c.requires.leads
    (subst (λ (rs : Rows Node). IsNext name_cmp (λ n. IsTrue (is_some (find path_cmp (n ∷ []) rs))) None (Some u.name.now)) c.end_of.ensures c.in-Some.ensures.next)

pub turn_beside-requires-clause-leaf : goal.turn_beside-requires-clause-leaf
turn_beside-requires-clause-leaf c = λ n there.
    subst (λ (rs : Rows Node). IsNext name_cmp (λ n. IsTrue (is_some (find path_cmp (n ∷ []) rs))) None None) c.end_of.ensures c.in_default.ensures.next n there refl
