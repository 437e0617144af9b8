use Rattle.std.proofs.Common.{◌≡◌, ◌||◌, List, inl, inr}
use Rattle.std.specs.Ordering.{is_eq}
use Rattle.std.proofs.lemmas.Result.{on_ok_weaker}
use Rattle.khepri_terms.specs.Terms.{NameText}
use Rattle.khepri_terms.specs.Order.{path_cmp}
use Rattle.worklist_laws.specs.Candidates.{is_in}
use Rattle.keep_while.proofs.Firsts.{anew-none, anew-one}
use Rattle.keep_while.proofs.Gathering.{added-one, added-stays}
use Rattle.keep_while.proofs.glance.note_asked.Goals as goal

pub returns-then-not-is_asked-clause-asked : goal.returns-then-not-is_asked-clause-asked
returns-then-not-is_asked-clause-asked g c = λ anew. inr (c.is_asked.ensures.none c.if-not-is_asked.true anew)

pub returns-then-not-is_asked-clause-only : goal.returns-then-not-is_asked-clause-only
returns-then-not-is_asked-clause-only g c = anew-none c.args.draft.now.base c.args.draft.now.tree c.args.above.now.keys

pub returns-clause-stays : goal.returns-clause-stays
returns-clause-stays g c =
    let x = c.args.path in
    let old = c.args.above.now.keys in
    let new = c.put.new.set.keys in
    on_ok_weaker c.put.result (λ (f : (q : List NameText) → is_in new q ≡ (is_eq (path_cmp x q) || is_in old q)). added-stays x old new f) c.put.ensures

pub returns-clause-asked : goal.returns-clause-asked
returns-clause-asked g c =
    let x = c.args.path in
    let old = c.args.above.now.keys in
    let new = c.put.new.set.keys in
    on_ok_weaker c.put.result (λ (f : (q : List NameText) → is_in new q ≡ (is_eq (path_cmp x q) || is_in old q)). λ anew. inl (added-one x old new f)) c.put.ensures

pub returns-clause-only : goal.returns-clause-only
returns-clause-only g c =
    let x = c.args.path in
    let old = c.args.above.now.keys in
    let new = c.put.new.set.keys in
    on_ok_weaker c.put.result (λ (f : (q : List NameText) → is_in new q ≡ (is_eq (path_cmp x q) || is_in old q)).
    anew-one c.args.draft.now.base c.args.draft.now.tree x old new (c.is_asked.ensures.anew c.if-not-is_asked.false) f) c.put.ensures
