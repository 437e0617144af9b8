use Rattle.std.proofs.Common.{List, Option, Some, sym, ap, subst, ◌∙◌, []}
use Rattle.std.specs.Prelude.{IsTrue}
use Rattle.std.specs.Option.{option_copied}
use Rattle.khepri_terms.specs.Terms.{NameText}
use Rattle.khepri_terms.specs.Order.{path_cmp}
use Rattle.khepri_types.specs.Paths.{is_front}
use Rattle.khepri_types.specs.Tree.{stands}
use Rattle.nested_nodes.specs.Next.{IsNext}
use Rattle.tree_walks.specs.Under.{IsUnder}
use Rattle.tree_walks.proofs.Betweens.{front_joined, next_all, root_next}
use Rattle.tree_walks.proofs.walk.path_after.Goals as goal

pub returns-in_default : goal.returns-in_default
returns-in_default c =
    subst (λ (r : List NameText). IsNext path_cmp (λ q. IsTrue (stands c.args.draft.now.tree q)) (option_copied c.args.after) (Some r)) (sym c.root-root.ensures)
    (rw c.in_default.is (root_next c.args.draft.now.tree c.nodes-nodes.ensures.tree))

pub next_under-requires : goal.next_under-requires
next_under-requires c = record { under = ap (λ (r : List NameText). is_front r c.in-Some.at.now) c.root-root.ensures ∙ front_joined [] c.in-Some.at.now }

pub returns : goal.returns
returns c =
    let T = c.args.draft.now.tree in
    rw c.in-Some.is (next_all T (Some c.in-Some.at.now) c.in_ok-next.next (subst (λ (r : List NameText). IsNext path_cmp (IsUnder T r) (Some c.in-Some.at.now) c.in_ok-next.next) c.root-root.ensures c.in_ok-next.ensures))
