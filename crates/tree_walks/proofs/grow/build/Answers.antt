use Rattle.std.proofs.Common.{◌≡◌, ℕ, ◌+◌, ◌-◌, length, refl, sym, ap, subst, ◌∙◌, arith}
use Rattle.std.proofs.lemmas.List.{take_all}
use Rattle.khepri_types.specs.Tree.{fresh, set_from}
use Rattle.tree_walks.specs.Notes.{NotesWay}
use Rattle.tree_walks.proofs.Ways.{way-begin, way-step, way-done, way-last, way-next, parents_stand, front_size, front_siblings, made_kids}
use Rattle.tree_walks.proofs.Sweeping.{same-stays}
use Rattle.tree_walks.proofs.Touching.{way-none, way-on}
use Rattle.tree_walks.proofs.grow.build.Goals as goal

pub way-init : goal.way-init
way-init c = record {
  base = refl;
  way = way-begin c.args.draft.now.tree c.args.path.now c.args.payload c.args.above (c.len-last.result - 1 - c.args.above) c.nodes-nodes.ensures.tree c.requires.stands c.requires.missing;
  same = refl;
  from = omega arith;
  siblings = c.requires.before;
  noted = way-none c.args.path.now c.args.above c.args.draft.now.touched;
}

pub make-requires-clause-short : goal.make-requires-clause-short
make-requires-clause-short c =
    omega (arith, c.requires.short, front_size c.args.path.now c.in_ok-front.front c.way.len (omega (arith, c.way-test.true, c.len-last.ensures)) c.in_ok-front.ensures, c.way-test.true, c.len-last.ensures)

pub make-requires-clause-below : goal.make-requires-clause-below
make-requires-clause-below c = omega (arith, front_size c.args.path.now c.in_ok-front.front c.way.len (omega (arith, c.way-test.true, c.len-last.ensures)) c.in_ok-front.ensures)

pub make-requires-clause-parent : goal.make-requires-clause-parent
make-requires-clause-parent c = parents_stand c.way.draft.tree c.args.path.now c.in_ok-front.front c.way.len c.nodes-nodes-in-way.ensures.tree c.way.invariant.way.standing (omega (arith, c.way-test.true, c.len-last.ensures)) c.in_ok-front.ensures

pub make-requires-clause-absent : goal.make-requires-clause-absent
make-requires-clause-absent c = way-next c.way.draft.tree c.args.path.now c.in_ok-front.front c.args.payload c.way.len _ _ c.way.invariant.way (omega (arith, c.way-test.true, c.len-last.ensures)) c.in_ok-front.ensures

pub way-preserved : goal.way-preserved
way-preserved c = record {
  base = c.make.ensures.base ∙ c.way.invariant.base;
  way = way-step c.way.draft.tree c.make.new.self.tree c.args.path.now c.in_ok-front.front c.args.payload c.fresh_node.result c.way.len (c.len-last.result - 1 - (c.way.len + 1)) (c.len-last.result - 1 - c.way.len) _ c.way.invariant.way
      (omega (arith, c.way-test.true)) (omega (arith, c.way-test.true, c.len-last.ensures)) c.in_ok-front.ensures c.fresh_node.ensures c.in_ok-make.ensures.tree;
  same = c.way.invariant.same;
  from = omega (arith, c.way.invariant.from);
  siblings = made_kids c.way.draft.tree c.make.new.self.tree c.args.path.now c.in_ok-front.front c.fresh_node.result c.way.len c.nodes-nodes-in-way.ensures.tree
      (way-next c.way.draft.tree c.args.path.now c.in_ok-front.front c.args.payload c.way.len _ _ c.way.invariant.way (omega (arith, c.way-test.true, c.len-last.ensures)) c.in_ok-front.ensures) c.in_ok-make.ensures.tree c.in_ok-front.ensures;
  noted = way-on c.args.path.now c.in_ok-front.front c.args.above c.way.len c.args.draft.now.touched c.way.draft.touched c.make.new.self.touched c.way.invariant.from c.way.invariant.noted c.in_ok-front.ensures c.in_ok-make.ensures.touched;
}

pub make-requires-2-clause-parent : goal.make-requires-2-clause-parent
make-requires-2-clause-parent c =
    let p = c.args.path.now in
    parents_stand c.way.draft.tree p p c.way.len c.nodes-nodes-2.ensures.tree c.way.invariant.way.standing (omega (arith, c.way-test.false, c.way.auto.len-end, c.len-last.ensures, c.requires.within))
    (sym (take_all (c.way.len + 1) p (omega (arith, c.way-test.false, c.way.auto.len-end, c.len-last.ensures, c.requires.within))))

pub make-requires-2-clause-absent : goal.make-requires-2-clause-absent
make-requires-2-clause-absent c = way-last c.way.draft.tree c.args.path.now c.args.payload c.way.len _ _ c.way.invariant.way (omega (arith, c.way-test.false, c.way.auto.len-end, c.len-last.ensures, c.requires.within))

pub returns-clause-tree : goal.returns-clause-tree
returns-clause-tree c =
    let p = c.args.path.now in
    way-done c.way.draft.tree c.make-2.new.self.tree p c.args.payload c.fresh_node-2.result c.way.len _ _ c.way.invariant.way (omega (arith, c.way-test.false)) (omega (arith, c.way-test.false, c.way.auto.len-end, c.len-last.ensures, c.requires.within))
    (c.fresh_node-2.ensures ∙ ap fresh c.way.invariant.same) c.in_ok-make-2.ensures.tree
    ∙ ap (λ (k : ℕ). set_from (k - 1 - c.args.above) (c.args.above + 1) c.args.draft.now.tree p c.args.payload) c.len-last.ensures

pub returns-clause-noted : goal.returns-clause-noted
returns-clause-noted c =
    let p = c.args.path.now in
    let end : c.way.len + 1 ≡ length p = omega (arith, c.way-test.false, c.way.auto.len-end, c.len-last.ensures, c.requires.within) in
    subst (λ (k : ℕ). NotesWay p c.args.above k c.args.draft.now.touched c.make-2.new.self.touched) end
    (way-on p p c.args.above c.way.len c.args.draft.now.touched c.way.draft.touched c.make-2.new.self.touched c.way.invariant.from c.way.invariant.noted (sym (take_all (c.way.len + 1) p (omega (arith, end)))) c.in_ok-make-2.ensures.touched)

pub returns-clause-stays : goal.returns-clause-stays
returns-clause-stays c =
    let p = c.args.path.now in
    let end : c.way.len + 1 ≡ length p = omega (arith, c.way-test.false, c.way.auto.len-end, c.len-last.ensures, c.requires.within) in
    (way-on p p c.args.above c.way.len c.args.draft.now.touched c.way.draft.touched c.make-2.new.self.touched c.way.invariant.from c.way.invariant.noted (sym (take_all (c.way.len + 1) p (omega (arith, end)))) c.in_ok-make-2.ensures.touched).stays

pub returns-in_err-front-clause-stays : goal.returns-in_err-front-clause-stays
returns-in_err-front-clause-stays c = c.way.invariant.noted.stays

pub returns-in_err-make-clause-stays : goal.returns-in_err-make-clause-stays
returns-in_err-make-clause-stays c = same-stays c.args.draft.now.touched c.way.draft c.make.new.self c.way.invariant.noted.stays c.in_err-make.ensures.kept

pub returns-in_err-make-2-clause-stays : goal.returns-in_err-make-2-clause-stays
returns-in_err-make-2-clause-stays c = same-stays c.args.draft.now.touched c.way.draft c.make-2.new.self c.way.invariant.noted.stays c.in_err-make-2.ensures.kept

pub make-requires-clause-before : goal.make-requires-clause-before
make-requires-clause-before c = front_siblings c.way.draft.tree c.args.path.now c.in_ok-front.front c.way.len c.way.siblings (omega (arith, c.way-test.true, c.len-last.ensures)) c.in_ok-front.ensures c.way.invariant.siblings

pub make-requires-2-clause-before : goal.make-requires-2-clause-before
make-requires-2-clause-before c =
    let p = c.args.path.now in
    let end : c.way.len + 1 ≡ length p = omega (arith, c.way-test.false, c.way.auto.len-end, c.len-last.ensures, c.requires.within) in
    front_siblings c.way.draft.tree p p c.way.len c.way.siblings (omega (arith, end)) (sym (take_all (c.way.len + 1) p (omega (arith, end)))) c.way.invariant.siblings
