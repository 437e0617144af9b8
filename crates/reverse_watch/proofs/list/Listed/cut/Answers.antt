use Rattle.std.proofs.Common.{List, ◌≡◌, ◌&&◌, not, ap, ◌∙◌, sym, subst}
use Rattle.std.specs.List.{remove}
use Rattle.std.specs.Ordering.{is_eq}
use Rattle.khepri_terms.specs.Order.{path_cmp}
use Rattle.worklist_laws.specs.Candidates.{is_in}
use Rattle.reverse_watch.specs.Listing.{Rises}
use Rattle.reverse_watch.proofs.Moves.{Path}
use Rattle.reverse_watch.proofs.Sorting.{rises-cut, in_cut, none_cut, searchable}
use Rattle.reverse_watch.proofs.list.Listed.cut.Goals as goal

pub invariant_of-self : goal.invariant_of-self
invariant_of-self c = subst (λ (xs : List Path). Rises xs) (sym c.remove.ensures.items) (rises-cut c.self.inside.items.items c.in-Ok.i c.self.invariant)

pub returns-in-Ok : goal.returns-in-Ok
returns-in-Ok c = λ p.
    ap (λ (xs : List Path). is_in xs p) c.remove.ensures.items
    ∙ (subst (λ (xs : List Path). is_in (remove xs c.in-Ok.i) p ≡ (is_in xs p && not (is_eq (path_cmp p c.args.node.now)))) c.as_slice.ensures.value (in_cut c.as_slice.result.now c.in-Ok.i c.args.node.now p (subst (λ (xs : List Path). Rises xs) (sym c.as_slice.ensures.value) c.self.invariant) c.in-Ok.ensures.bound c.in-Ok.ensures.ok)
    ∙ ap (λ (xs : List Path). is_in xs p && not (is_eq (path_cmp p c.args.node.now))) c.self.view_is)

pub returns-in_default : goal.returns-in_default
returns-in_default c =
    let same : c.as_slice.result.now ≡ c.args.self.now = c.as_slice.ensures.value ∙ c.self.view_is in
    λ p. subst (λ (xs : List Path). is_in xs p ≡ (is_in xs p && not (is_eq (path_cmp p c.args.node.now)))) same
    (none_cut c.as_slice.result.now c.in_default.field-0 c.args.node.now p (c.in_default.ensures.position (searchable c.as_slice.result.now c.args.node.now (subst (λ (xs : List Path). Rises xs) (sym c.as_slice.ensures.value) c.self.invariant))))
