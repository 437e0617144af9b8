use Rattle.std.proofs.Common.{◌≡◌, ◌∙◌, ◌||◌, List, sym}
use Rattle.std.specs.Ordering.{is_eq}
use Rattle.std.proofs.lemmas.Result.{on_ok_weaker}
use Rattle.khepri_terms.specs.Terms.{NameText}
use Rattle.khepri_terms.specs.Order.{path_cmp}
use Rattle.worklist_laws.specs.Candidates.{is_in}
use Rattle.keep_while.proofs.Noting.{only-none, only-one}
use Rattle.keep_while.proofs.gather.note_one.Goals as goal

pub returns-then-contains-clause-only : goal.returns-then-contains-clause-only
returns-then-contains-clause-only c = only-none c.args.left.now.keys c.args.set.now.keys c.args.path.now

pub returns-clause-only : goal.returns-clause-only
returns-clause-only c =
    let x = c.args.path.now in
    let old = c.args.set.now.keys in
    let new = c.note.new.set.keys in
    on_ok_weaker c.note.result (λ (f : (q : List NameText) → is_in new q ≡ (is_eq (path_cmp x q) || is_in old q)). only-one c.args.left.now.keys old new x (sym c.contains.ensures ∙ c.if-contains.false) f) c.note.ensures.adds
