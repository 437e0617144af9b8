use Rattle.std.proofs.Common.{◌≡◌, ◌-◌, refl, sym, ap, subst, ◌∙◌, arith, Some}
use Rattle.khepri_terms.specs.Terms.{NameText}
use Rattle.khepri_types.specs.Tree.{stands}
use Rattle.tree_walks.proofs.Sweeping.{Clearing, clearing-init, clearing-step, clearing-next, clearing-alone, clearing-stays, cleared-stands, cleared-bytes, cleared-siblings, gone-tree, gone-touched, gone-kids, gone-stays, same-stays, name_is, next_is, next_not, child_siblings, child_long, child_shallow}
use Rattle.tree_walks.proofs.Touching.{stays-on}
use Rattle.tree_walks.proofs.sweeps.+sweep.Goals as goal

pub children-init : goal.children-init
children-init n c = clearing-init c.args.path.now c.args.seen.kids c.args.draft.now c.requires.seen.1

pub unreachable-requires : goal.unreachable-requires
unreachable-requires n c =
    clearing-next c.args.path.now c.children.last c.children.left c.args.draft.now c.children.draft c.children.invariant c.nodes-nodes.ensures.tree (omega (arith, c.children-test.true))
    (next_not c.children.draft.tree c.args.path.now _ c.children.last _ c.as_ref.ensures.value c.in_ok-child.ensures c.in_default.is)

pub sweep-requires : goal.sweep-requires
sweep-requires n c =
    let D = c.children.draft.tree in
    let p = c.args.path.now in
    let child = c.in-Some.child in
    let x = next_is c.children.draft.tree c.args.path.now _ c.children.last _ (c.in-Some.child, c.in-Some.below) c.as_ref.ensures.value c.in_ok-child.ensures c.in-Some.is in
    let long = child_long p child x.0 x.1 in
    let low = child_shallow D p child x.0 x.1 c.nodes-nodes.ensures.shallow x.2.0 in
    (omega (arith, c.decreases, long, low), (omega (arith, long), (ap (stands D) x.1 ∙ x.2.0, (x.3, child_siblings D p child x.0 c.children.left x.1 c.children.invariant.rest))))

pub name-requires : goal.name-requires
name-requires n c =
    let x = next_is c.children.draft.tree c.args.path.now _ c.children.last _ (c.in-Some.child, c.in-Some.below) c.as_ref.ensures.value c.in_ok-child.ensures c.in-Some.is in
    omega (arith, child_long c.args.path.now c.in-Some.child x.0 x.1, c.len.ensures)

pub children-preserved : goal.children-preserved
children-preserved n c =
    let p = c.args.path.now in
    let x = next_is c.children.draft.tree c.args.path.now _ c.children.last _ (c.in-Some.child, c.in-Some.below) c.as_ref.ensures.value c.in_ok-child.ensures c.in-Some.is in
    let same = c.in_ok-copy.ensures ∙ name_is p c.in-Some.child x.0 c.name.result.now c.len.result x.1 c.len.ensures c.name.ensures in
    subst (λ (k : NameText). Clearing p (Some k) (c.children.left - 1) c.args.draft.now c.sweep.new.draft) (sym same)
    (clearing-step p c.in-Some.child x.0 c.children.last c.children.left c.args.draft.now c.children.draft c.sweep.new.draft c.children.invariant x.1 x.2 c.sweep.ensures.base c.in_ok-sweep.ensures.tree c.in_ok-sweep.ensures.touched c.in_ok-sweep.ensures.kids)

pub unmake-requires-clause-stands : goal.unmake-requires-clause-stands
unmake-requires-clause-stands n c = cleared-stands c.args.path.now c.children.last c.children.left c.args.draft.now c.children.draft c.children.invariant c.requires.stands

pub unmake-requires-clause-alone : goal.unmake-requires-clause-alone
unmake-requires-clause-alone n c = clearing-alone c.args.path.now c.children.last c.children.left c.args.draft.now c.children.draft c.children.invariant (omega (arith, c.children-test.false))

pub unmake-requires-clause-was : goal.unmake-requires-clause-was
unmake-requires-clause-was n c = cleared-bytes c.args.path.now c.children.last c.children.left c.args.seen.bytes c.args.draft.now c.children.draft c.children.invariant c.requires.seen.0

pub unmake-requires-clause-before : goal.unmake-requires-clause-before
unmake-requires-clause-before n c = cleared-siblings c.args.path.now c.children.last c.children.left c.args.before c.args.draft.now c.children.draft c.requires.below c.children.invariant c.requires.before

pub returns-clause-tree : goal.returns-clause-tree
returns-clause-tree n c =
    gone-tree c.args.path.now c.children.last c.children.left c.args.draft.now c.children.draft c.unmake.new.self c.children.invariant c.nodes-nodes-3.ensures.tree c.requires.stands c.unmake.ensures.base c.in_ok-unmake.ensures.tree c.in_ok-unmake.ensures.touched

pub returns-clause-touched : goal.returns-clause-touched
returns-clause-touched n c =
    gone-touched c.args.path.now c.children.last c.children.left c.args.draft.now c.children.draft c.unmake.new.self c.children.invariant c.nodes-nodes-3.ensures.tree c.requires.stands c.unmake.ensures.base c.in_ok-unmake.ensures.tree c.in_ok-unmake.ensures.touched

pub returns-clause-kids : goal.returns-clause-kids
returns-clause-kids n c = gone-kids c.args.path.now c.children.last c.children.left c.args.draft.now c.children.draft c.unmake.new.self c.children.invariant c.requires.stands c.in_ok-unmake.ensures.tree

pub returns-clause-base : goal.returns-clause-base
returns-clause-base n c = c.unmake.ensures.base ∙ c.children.invariant.sweeping.base

pub returns-clause-stays : goal.returns-clause-stays
returns-clause-stays n c = gone-stays c.args.path.now c.children.last c.children.left c.args.draft.now c.children.draft c.unmake.new.self c.children.invariant c.in_ok-unmake.ensures.touched

pub returns-in_err-child-clause-stays : goal.returns-in_err-child-clause-stays
returns-in_err-child-clause-stays n c = clearing-stays c.args.path.now c.children.last c.children.left c.args.draft.now c.children.draft c.children.invariant

pub returns-in_err-sweep-clause-stays : goal.returns-in_err-sweep-clause-stays
returns-in_err-sweep-clause-stays n c =
    stays-on c.args.draft.now.touched c.children.draft.touched c.sweep.new.draft.touched (clearing-stays c.args.path.now c.children.last c.children.left c.args.draft.now c.children.draft c.children.invariant) c.sweep.ensures.stays

pub returns-in_err-copy-clause-stays : goal.returns-in_err-copy-clause-stays
returns-in_err-copy-clause-stays n c =
    stays-on c.args.draft.now.touched c.children.draft.touched c.sweep.new.draft.touched (clearing-stays c.args.path.now c.children.last c.children.left c.args.draft.now c.children.draft c.children.invariant) c.sweep.ensures.stays

pub returns-in_err-unmake-clause-stays : goal.returns-in_err-unmake-clause-stays
returns-in_err-unmake-clause-stays n c =
    same-stays c.args.draft.now.touched c.children.draft c.unmake.new.self (clearing-stays c.args.path.now c.children.last c.children.left c.args.draft.now c.children.draft c.children.invariant) c.in_err-unmake.ensures.kept
