use Rattle.std.proofs.Common.{Bool, cond, Some, refl, not, ◌&&◌, ◌≡◌, sym, ap, ◌∙◌, Option, None, List, [], ◌∷◌}
use Rattle.std.proofs.lemmas.Bool.{false≢true}
use Rattle.std.specs.Prelude.{is_some}
use Rattle.std.specs.Option.{option_copied_mut}
use Rattle.std.specs.FinMap.{find}
use Rattle.std.specs.Ordering.{is_eq}
use Rattle.khepri_terms.specs.Order.{path_cmp}
use Rattle.worklist_laws.specs.Candidates.{is_in}
use Rattle.worklist_laws.specs.Links.{targets_at}
use Rattle.reverse_watch.specs.Listing.{Lists, has, is_link}
use Rattle.reverse_watch.proofs.Moves.{Path, Map, moved, and_none, find_lookup, absent, found_now}
use Rattle.worklist_laws.proofs.Among.{tie}
use Rattle.reverse_watch.proofs.change.cut_from.Goals as goal

pub returns-in_default-clause-others : goal.returns-in_default-clause-others
returns-in_default-clause-others c = λ q k.
    ap (λ m. has m.entries q k) c.get_mut.follows.holds-at-none
    ∙ absent c.args.target.now c.args.node.now c.args.lists.now.entries (find_lookup c.args.target.now c.args.lists.now.entries ∙ sym (sym (ap option_copied_mut c.in_default.is) ∙ c.get_mut.ensures.value)) q k

pub returns-clause-others : goal.returns-clause-others
returns-clause-others c =
    let w : List Path = c.cut.new.self in
    moved (λ (a x : Bool). a && not x) and_none c.args.target.now c.args.node.now c.args.lists.now (c.get_mut.follows.lender w) w
    ((c.get_mut.follows.holds w).3 (ap is_some (sym c.in-Some.ensures.value)))
    (λ k. c.cut.ensures k ∙ ap (λ (o : Option (List Path)). is_in (targets_at o) k && not (is_eq (path_cmp k c.args.node.now))) (c.in-Some.ensures.value ∙ sym (find_lookup c.args.target.now c.args.lists.now.entries)))

pub returns-in_default-clause-emptied : goal.returns-in_default-clause-emptied
returns-in_default-clause-emptied c = λ h. absurd (false≢true h)

pub returns-clause-emptied : goal.returns-clause-emptied
returns-clause-emptied c = λ empty.
    found_now c.args.target.now c.args.lists.now (c.get_mut.follows.lender c.cut.new.self) (Some c.cut.new.self) ((c.get_mut.follows.holds c.cut.new.self).3 (ap is_some (sym c.in-Some.ensures.value))) c.args.target.now
    ∙ (ap (λ (b : Bool). cond b (Some c.cut.new.self) (find path_cmp c.args.target.now c.args.lists.now.entries)) (tie c.args.target.now c.args.target.now refl) ∙ ap (λ (xs : List Path). Some xs) (c.is_empty.ensures empty))
