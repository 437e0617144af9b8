use Rattle.std.proofs.Common.{◌∙◌, sym}
use Rattle.worklist_laws.proofs.Among.{not_both}
use Rattle.khepri_types.specs.Tree.{same_payload}
use Rattle.keep_while.proofs.Looking.{payload-same, same-payload}
use Rattle.keep_while.proofs.first.shows_else.Goals as goal

pub returns-clause-same : goal.returns-clause-same
returns-clause-same c = λ h. (same-payload c.args.old.now.payload.now c.args.new.now.payload.now (sym c.is_same.ensures ∙ c.if-not-is_same.false), c.if-old-new.false, c.if-old-new-2.false, c.if-old-new-3.false)

pub returns-then-not-is_same-clause-differs : goal.returns-then-not-is_same-clause-differs
returns-then-not-is_same-clause-differs c = λ h same.
    let x = c.args.old.now.payload.now in
    let y = c.args.new.now.payload.now in
    not_both (same_payload x y) (payload-same x y same.0) (sym c.is_same.ensures ∙ c.if-not-is_same.true)
