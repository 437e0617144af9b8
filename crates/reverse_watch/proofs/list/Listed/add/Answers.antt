use Rattle.std.proofs.Common.{List, ◌≡◌, ◌≤◌, length, ◌||◌, sym, ap, subst, ◌∙◌}
use Rattle.std.specs.Ordering.{is_eq}
use Rattle.khepri_terms.specs.Order.{path_cmp}
use Rattle.worklist_laws.specs.Candidates.{is_in}
use Rattle.worklist_laws.proofs.Among.{tied}
use Rattle.reverse_watch.proofs.Moves.{Path}
use Rattle.reverse_watch.proofs.Sorting.{at_in, or_stays, in_put, rises-put, searchable, Parts}
use Rattle.reverse_watch.specs.Listing.{Rises}
use Rattle.reverse_watch.proofs.list.Listed.add.Goals as goal

pub invariant_of-self : goal.invariant_of-self
invariant_of-self c =
    let ps : List Path = c.self.inside.items.items in
    let same : c.as_slice.result.now ≡ ps = c.as_slice.ensures.value in
    subst (λ (xs : List Path). Rises xs) (sym c.in_ok-insert.ensures.items)
    (rises-put ps c.in-Err.i c.args.node c.self.invariant
    (subst (λ (xs : List Path). c.in-Err.i ≤ length xs) same c.in-Err.ensures.bound)
    (subst (λ (xs : List Path). Parts xs c.args.node c.in-Err.i) same (c.in-Err.ensures.position (searchable c.as_slice.result.now c.args.node (subst (λ (xs : List Path). Rises xs) (sym same) c.self.invariant)))))

pub returns-in_ok-insert-clause-ok : goal.returns-in_ok-insert-clause-ok
returns-in_ok-insert-clause-ok c = λ p. ap (λ (xs : List Path). is_in xs p) c.in_ok-insert.ensures.items ∙ (in_put c.self.inside.items.items c.in-Err.i c.args.node p ∙ ap (λ (xs : List Path). is_in xs p || is_eq (path_cmp p c.args.node)) c.self.view_is)

pub returns-in_default-clause-ok : goal.returns-in_default-clause-ok
returns-in_default-clause-ok c =
    let same : c.as_slice.result.now ≡ c.args.self.now = c.as_slice.ensures.value ∙ c.self.view_is in
    λ p. or_stays (is_in c.args.self.now p) (is_eq (path_cmp p c.args.node)) (λ x. ap (λ (r : Path). is_in c.args.self.now r) (tied p c.args.node x)
    ∙ (ap (λ (xs : List Path). is_in xs c.args.node) (sym same) ∙ at_in c.as_slice.result.now c.in_default.field-0 c.args.node c.in_default.ensures.bound c.in_default.ensures.ok))
