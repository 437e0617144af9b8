use Rattle.std.proofs.Common.{ap, Some}
use Rattle.khepri_terms.proofs.Cases.{some_is}
use Rattle.khepri_types.specs.Paths.{is_child}
use Rattle.std.proofs.Common.{subst, ◌≡◌, List, true}
use Rattle.khepri_terms.specs.Terms.{NameText}
use Rattle.keep_while.proofs.Beginnings.{parent_child, parent_none, parent_one}
use Rattle.keep_while.proofs.gather.parent.Goals as goal

pub returns-then-names-eq0-clause-parent : goal.returns-then-names-eq0-clause-parent
returns-then-names-eq0-clause-parent c = λ r child. absurd (parent_none c.args.path.now c.len-names.result c.len-names.ensures c.if-names-eq0.true r child)

pub returns-clause-parent : goal.returns-clause-parent
returns-clause-parent c = λ r child. ap Some (parent_one c.args.path.now c.len-names.result c.len-names.ensures c.in_ok-front.field-0 c.in_ok-front.ensures r child)

pub returns-clause-child : goal.returns-clause-child
returns-clause-child c = λ r e. subst (λ (x : List NameText). is_child x c.args.path.now ≡ true) (some_is _ _ e) (parent_child c.args.path.now c.len-names.result c.len-names.ensures c.if-names-eq0.false c.in_ok-front.field-0 c.in_ok-front.ensures)
