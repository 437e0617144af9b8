use Rattle.std.proofs.Common.{◌≡◌, ◌||◌, List}
use Rattle.std.specs.Ordering.{is_eq}
use Rattle.std.proofs.lemmas.Result.{on_ok_weaker}
use Rattle.khepri_terms.specs.Terms.{NameText}
use Rattle.khepri_terms.specs.Order.{path_cmp}
use Rattle.worklist_laws.specs.Candidates.{is_in}
use Rattle.keep_while.proofs.Noting.{above-only}
use Rattle.keep_while.proofs.gather.add_above.Goals as goal

pub returns-in-Some-clause-only : goal.returns-in-Some-clause-only
returns-in-Some-clause-only c =
    let parent = c.in-Some.parent in
    let old = c.args.set.now.keys in
    let new = c.note.new.set.keys in
    on_ok_weaker c.note.result (λ (f : (q : List NameText) → is_in new q ≡ (is_eq (path_cmp parent q) || is_in old q)). above-only c.args.path.now parent old new (c.in_ok-parent.ensures.child parent c.in-Some.is) f) c.note.ensures.adds
