use Rattle.std.proofs.Common.{sym, ap, ◌∙◌}
use Rattle.std.specs.FinMap.{get}
use Rattle.khepri_types.proofs.Growing.{get_some}
use Rattle.tree_walks.specs.Notes.{rises}
use Rattle.tree_walks.proofs.Raising.{lost_same, lost_untouched, lost_listed, lost_first, lost_noted}
use Rattle.tree_walks.proofs.Sweeping.{same-stays}
use Rattle.tree_walks.proofs.Touching.{adds-stays}
use Rattle.tree_walks.proofs.drops.lose.Goals as goal

pub returns-then-contains-clause-tree : goal.returns-then-contains-clause-tree
returns-then-contains-clause-tree c = λ q. lost_same c.args.draft.now.tree c.args.path c.args.losers.now.keys q (sym c.contains.ensures ∙ c.if-contains.true)

pub returns-then-contains-clause-touched : goal.returns-then-contains-clause-touched
returns-then-contains-clause-touched c = λ q. lost_untouched c.args.draft.now.tree c.args.path c.args.losers.now.keys c.args.draft.now.touched q (sym c.contains.ensures ∙ c.if-contains.true)

pub returns-then-contains-clause-losers : goal.returns-then-contains-clause-losers
returns-then-contains-clause-losers c = λ q. lost_listed c.args.path c.args.losers.now.keys q (sym c.contains.ensures ∙ c.if-contains.true)

pub returns-clause-tree : goal.returns-clause-tree
returns-clause-tree c =
    let T = c.args.draft.now.tree in
    let n = get_some (get T c.args.path) c.requires.stands in
    lost_first T c.raise.new.draft.tree c.args.path n.0 c.args.losers.now.keys (sym c.contains.ensures ∙ c.if-contains.false) n.1 (c.in_ok-count.ensures.tree n.0 n.1)

pub returns-clause-touched : goal.returns-clause-touched
returns-clause-touched c =
    let T = c.args.draft.now.tree in
    let n = get_some (get T c.args.path) c.requires.stands in
    lost_noted T c.args.path n.0 c.args.losers.now.keys c.args.draft.now.touched c.raise.new.draft.touched (sym c.contains.ensures ∙ c.if-contains.false) n.1 (c.in_ok-count.ensures.touched n.0 n.1)

pub returns-clause-stays : goal.returns-clause-stays
returns-clause-stays c =
    let n = get_some (get c.args.draft.now.tree c.args.path) c.requires.stands in
    adds-stays (rises n.0) c.args.path c.args.draft.now.touched c.raise.new.draft.touched (c.in_ok-count.ensures.touched n.0 n.1)

pub returns-in_err-insert-clause-stays : goal.returns-in_err-insert-clause-stays
returns-in_err-insert-clause-stays c =
    let n = get_some (get c.args.draft.now.tree c.args.path) c.requires.stands in
    adds-stays (rises n.0) c.args.path c.args.draft.now.touched c.raise.new.draft.touched (c.in_ok-count.ensures.touched n.0 n.1)

pub returns-in_err-count-clause-stays : goal.returns-in_err-count-clause-stays
returns-in_err-count-clause-stays c = same-stays c.args.draft.now.touched c.args.draft.now c.raise.new.draft (λ q h. h) c.in_err-count.ensures.kept
