use Rattle.std.proofs.Common.{Bool, ap, subst, ◌∙◌, ◌++◌, ◌∷◌, [], not, ◌&&◌}
use Rattle.std.specs.Prelude.{IsTrue}
use Rattle.std.specs.Option.{option_copied}
use Rattle.khepri_terms.specs.Terms.{NameText}
use Rattle.khepri_terms.specs.Order.{name_cmp}
use Rattle.khepri_types.specs.Tree.{stands}
use Rattle.nested_nodes.specs.Marks.{is_gone, is_here}
use Rattle.nested_nodes.specs.Next.{IsNext}
use Rattle.nested_nodes.proofs.Marked.{next_either}
use Rattle.tree_overlay.specs.Over.{Drafted, over}
use Rattle.tree_overlay.proofs.Keeping.{kept-base}
use Rattle.tree_overlay.proofs.Hatching.{either_stands, same_stands}
use Rattle.tree_overlay.proofs.draft.Draft.child_over.Goals as goal

pub returns-in-None : goal.returns-in-None
returns-in-None c =
    let s = c.self.inside in
    subst (λ (f : NameText → Bool). IsNext name_cmp (λ n. IsTrue (f n)) (option_copied c.args.after) (option_copied c.next_name.result))
    (λ i n. (same_stands s.base.now (over s.base.now s.changed.entries) s.broods s.nodes c.args.path.now c.self.invariant.0 c.in-None.ensures.value n ∙ ap (λ (d : Drafted). stands d.tree (c.args.path.now ++ n ∷ [])) c.self.view_is) i) (c.next_name.ensures s.base.now c.args.path.now c.nodes-nodes.ensures.tree (kept-base _ c.args.self.now c.args.path.now (option_copied c.args.nest) c.self.view_is c.requires.kept))

pub returns-in-Some : goal.returns-in-Some
returns-in-Some c =
    let s = c.self.inside in
    let marks = c.in-Some.brood.now.names.entries in
    subst (λ (f : NameText → Bool). IsNext name_cmp (λ n. IsTrue (f n)) (option_copied c.args.after) (option_copied c.lesser.result))
    (λ i n. (either_stands s.base.now (over s.base.now s.changed.entries) s.broods s.nodes c.args.path.now c.in-Some.brood.now c.self.invariant.0 c.in-Some.ensures.value n ∙ ap (λ (d : Drafted). stands d.tree (c.args.path.now ++ n ∷ [])) c.self.view_is) i)
    (rw c.lesser.ensures (next_either (λ n. stands s.base.now (c.args.path.now ++ n ∷ []) && not (is_gone marks n)) (is_here marks) (option_copied c.args.after) (option_copied c.left_name.result) (option_copied c.first_here.result) (c.left_name.ensures s.base.now c.args.path.now c.nodes-nodes.ensures.tree (kept-base _ c.args.self.now c.args.path.now (option_copied c.args.nest) c.self.view_is c.requires.kept)) c.first_here.ensures))
