use Rattle.std.proofs.Common.{refl, sym, ap, ◌∙◌, arith, take}
use Rattle.std.specs.Prelude.{is_some}
use Rattle.std.specs.FinMap.{get}
use Rattle.khepri_types.proofs.Growing.{get_none, get_some}
use Rattle.tree_walks.proofs.Dropping.{named, dropped-init, dropped-skip, dropped-more, dropped-end, dropped-stays, lost-other, lost-measures, lost-siblings, parent_stands}
use Rattle.tree_walks.proofs.Touching.{stays-on}
use Rattle.tree_walks.proofs.drops.drop_each.Goals as goal

pub paths-init : goal.paths-init
paths-init c = record { base = refl; dropped = dropped-init c.args.draft.now.tree c.new-losers.result.keys c.args.draft.now.touched c.new-losers.ensures.empty }

pub paths-preserved-in_default : goal.paths-preserved-in_default
paths-preserved-in_default c = record {
  base = c.paths.invariant.base;
  dropped = dropped-skip c.args.paths.now c.paths.losers.keys c.paths.path-index c.path-item.result c.args.draft.now.tree c.paths.draft.tree c.args.draft.now.touched c.paths.draft.touched c.paths.invariant.dropped (omega arith) c.path-item.is
      c.nodes-nodes.ensures.tree (get_none (get c.paths.draft.tree c.path-item.result) (sym c.in_default.ensures.stands));
}

pub parent_of-requires : goal.parent_of-requires
parent_of-requires c = record { below = named c.args.paths.now c.paths.path-index c.path-item.result c.requires.below (omega arith) c.path-item.is }

pub lose-requires : goal.lose-requires
lose-requires c = record { stands = parent_stands c.paths.draft.tree c.path-item.result c.in_ok-above.above c.nodes-nodes.ensures.tree (sym c.in-Some.ensures.stands) c.in_ok-above.ensures }

pub sweep-requires-clause-below : goal.sweep-requires-clause-below
sweep-requires-clause-below c = named c.args.paths.now c.paths.path-index c.path-item.result c.requires.below (omega arith) c.path-item.is

pub sweep-requires-clause-stands : goal.sweep-requires-clause-stands
sweep-requires-clause-stands c =
    let p = c.path-item.result in
    let long = named c.args.paths.now c.paths.path-index p c.requires.below (omega arith) c.path-item.is in
    ap is_some (lost-other c.paths.draft.tree c.lose.new.draft.tree p c.in_ok-above.above c.paths.losers.keys long c.in_ok-above.ensures c.in_ok-before.ensures.tree) ∙ sym c.in-Some.ensures.stands

pub sweep-requires-clause-seen : goal.sweep-requires-clause-seen
sweep-requires-clause-seen c =
    let p = c.path-item.result in
    let long = named c.args.paths.now c.paths.path-index p c.requires.below (omega arith) c.path-item.is in
    lost-measures c.paths.draft.tree c.lose.new.draft.tree p c.in-Some.seen (lost-other c.paths.draft.tree c.lose.new.draft.tree p c.in_ok-above.above c.paths.losers.keys long c.in_ok-above.ensures c.in_ok-before.ensures.tree)
    c.in_ok-before.ensures.kids c.in-Some.ensures.measures

pub sweep-requires-clause-before : goal.sweep-requires-clause-before
sweep-requires-clause-before c = lost-siblings c.paths.draft.tree c.lose.new.draft.tree c.path-item.result c.in_ok-above.above c.in_ok-before.before c.in_ok-above.ensures c.in_ok-before.ensures.kids c.in_ok-before.ensures.count

pub paths-preserved : goal.paths-preserved
paths-preserved c =
    let p = c.path-item.result in
    let long = named c.args.paths.now c.paths.path-index p c.requires.below (omega arith) c.path-item.is in
    let x = get_some (get c.paths.draft.tree p) (sym c.in-Some.ensures.stands) in
    record {
      base = c.sweep.ensures.base ∙ (c.lose.ensures.base ∙ c.paths.invariant.base);
      dropped = dropped-more c.args.paths.now c.paths.losers.keys c.lose.new.losers.keys c.paths.path-index p c.in_ok-above.above x.0 c.args.draft.now.tree c.paths.draft.tree c.lose.new.draft.tree c.sweep.new.draft.tree
          c.args.draft.now.touched c.paths.draft.touched c.lose.new.draft.touched c.sweep.new.draft.touched c.paths.invariant.dropped (omega arith) c.path-item.is long x.1 c.in_ok-above.ensures c.in_ok-before.ensures.tree
          c.in_ok-before.ensures.touched c.in_ok-before.ensures.losers c.in_ok-sweep.ensures.tree c.in_ok-sweep.ensures.touched;
    }

pub returns-clause-tree : goal.returns-clause-tree
returns-clause-tree c =
    (dropped-end c.args.paths.now c.paths.losers.keys c.paths.path-index c.args.draft.now.tree c.paths.draft.tree c.args.draft.now.touched c.paths.draft.touched c.paths.invariant.dropped (omega (arith, c.paths-test.false, c.paths.auto.path-index-end))).tree

pub returns-clause-touched : goal.returns-clause-touched
returns-clause-touched c =
    (dropped-end c.args.paths.now c.paths.losers.keys c.paths.path-index c.args.draft.now.tree c.paths.draft.tree c.args.draft.now.touched c.paths.draft.touched c.paths.invariant.dropped (omega (arith, c.paths-test.false, c.paths.auto.path-index-end))).touched

pub returns-clause-stays : goal.returns-clause-stays
returns-clause-stays c = dropped-stays (take c.paths.path-index c.args.paths.now) c.paths.losers.keys c.args.draft.now.tree c.paths.draft.tree c.args.draft.now.touched c.paths.draft.touched c.paths.invariant.dropped

pub returns-in_err-above-clause-stays : goal.returns-in_err-above-clause-stays
returns-in_err-above-clause-stays c = dropped-stays (take c.paths.path-index c.args.paths.now) c.paths.losers.keys c.args.draft.now.tree c.paths.draft.tree c.args.draft.now.touched c.paths.draft.touched c.paths.invariant.dropped

pub returns-in_err-before-clause-stays : goal.returns-in_err-before-clause-stays
returns-in_err-before-clause-stays c =
    stays-on c.args.draft.now.touched c.paths.draft.touched c.lose.new.draft.touched
    (dropped-stays (take c.paths.path-index c.args.paths.now) c.paths.losers.keys c.args.draft.now.tree c.paths.draft.tree c.args.draft.now.touched c.paths.draft.touched c.paths.invariant.dropped) c.lose.ensures.stays

pub returns-in_err-sweep-clause-stays : goal.returns-in_err-sweep-clause-stays
returns-in_err-sweep-clause-stays c =
    stays-on c.args.draft.now.touched c.lose.new.draft.touched c.sweep.new.draft.touched
    (stays-on c.args.draft.now.touched c.paths.draft.touched c.lose.new.draft.touched
    (dropped-stays (take c.paths.path-index c.args.paths.now) c.paths.losers.keys c.args.draft.now.tree c.paths.draft.tree c.args.draft.now.touched c.paths.draft.touched c.paths.invariant.dropped) c.lose.ensures.stays) c.sweep.ensures.stays
