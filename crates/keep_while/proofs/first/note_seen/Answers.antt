use Rattle.std.proofs.Common.{◌≡◌, ◌||◌, List}
use Rattle.std.specs.Ordering.{is_eq}
use Rattle.std.proofs.lemmas.Result.{on_ok_weaker}
use Rattle.khepri_terms.specs.Terms.{NameText}
use Rattle.khepri_terms.specs.Order.{path_cmp}
use Rattle.worklist_laws.specs.Candidates.{is_in}
use Rattle.keep_while.proofs.Firsts.{anew-none, anew-one}
use Rattle.keep_while.proofs.first.note_seen.Goals as goal

pub returns-then-not-is_seen_anew-clause-only : goal.returns-then-not-is_seen_anew-clause-only
returns-then-not-is_seen_anew-clause-only g c = anew-none c.args.draft.now.base c.args.draft.now.tree c.args.changed.now.keys

pub returns-clause-only : goal.returns-clause-only
returns-clause-only g c =
    let x = c.args.path.now in
    let B = c.args.draft.now.base in
    let D = c.args.draft.now.tree in
    let old = c.args.changed.now.keys in
    let new = c.note.new.set.keys in
    on_ok_weaker c.note.result (λ (f : (q : List NameText) → is_in new q ≡ (is_eq (path_cmp x q) || is_in old q)). anew-one B D x old new (c.is_seen_anew.ensures.differs c.if-not-is_seen_anew.false) f) c.note.ensures.adds
