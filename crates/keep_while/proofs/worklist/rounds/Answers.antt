use Rattle.std.proofs.Common.{◌≡◌, ◌∙◌, ◌+◌, ◌-◌, List, [], length, false, sym, ap, subst, arith}
use Rattle.std.specs.Prelude.{IsTrue}
use Rattle.khepri_terms.specs.Terms.{NameText}
use Rattle.khepri_types.specs.Drop.{drop}
use Rattle.khepri_types.specs.Paths.{is_under}
use Rattle.khepri_types.specs.Settling.{failing}
use Rattle.khepri_types.specs.Tree.{stands}
use Rattle.worklist_laws.specs.Candidates.{is_in, IsWithin, SameBelow}
use Rattle.worklist_laws.specs.Changes.{changed_paths}
use Rattle.worklist_laws.specs.Links.{linked_to}
use Rattle.worklist_laws.proofs.Candidates.{tested-below}
use Rattle.keep_while.specs.Costs.{KeepsUnder, OnlyAsks, walks}
use Rattle.keep_while.specs.Gathering.{asked, GoesUnder, HasNear}
use Rattle.keep_while.proofs.Gathering.{gathered-enough, out-next}
use Rattle.keep_while.proofs.Paying.{asked-less, next-asked, paid-end, paid-round, round-few}
use Rattle.keep_while.proofs.Settled.{working-next, worked, root-left, settled-gone, unsettled}
use Rattle.keep_while.proofs.worklist.rounds.Goals as goal

pub returns-then-len-eq0-clause-tree : goal.returns-then-len-eq0-clause-tree
returns-then-len-eq0-clause-tree g c =
    worked c.args.draft.now c.rounds.draft c.rounds.candidates.keys c.in_ok-tops.tops.items c.rounds.invariant.settling c.rounds.invariant.enough c.in_ok-tops.ensures.tops (omega (arith, c.in_ok-tops.tops.ok.0))

pub returns-then-len-eq0-clause-count : goal.returns-then-len-eq0-clause-count
returns-then-len-eq0-clause-count g c =
    let is = worked c.args.draft.now c.rounds.draft c.rounds.candidates.keys c.in_ok-tops.tops.items c.rounds.invariant.settling c.rounds.invariant.enough c.in_ok-tops.ensures.tops (omega (arith, c.in_ok-tops.tops.ok.0)) in
    (λ i. c.nodes-before.ensures.count i - c.nodes.ensures.count i) ∙ settled-gone c.args.draft.now c.rounds.draft is

pub returns-then-len-eq0-clause-cost : goal.returns-then-len-eq0-clause-cost
returns-then-len-eq0-clause-cost g c = λ start so_far.
    paid-end c.args.draft.now c.rounds.draft.tree c.rounds.candidates.keys start c.rounds.steps c.failing_tops.new.steps (c.rounds.invariant.paid start so_far) c.in_ok-tops.ensures.cost

pub drop_all-requires : goal.drop_all-requires
drop_all-requires g c = record {
  below = subst (λ (paths : List (List NameText)). is_under paths [] ≡ false) (sym c.as_slice-in-rounds.ensures.value) (root-left c.rounds.draft c.rounds.candidates.keys c.in_ok-tops.tops.items c.rounds.invariant.enough c.in_ok-tops.ensures.tops);
}

pub rounds-smaller : goal.rounds-smaller
rounds-smaller g c =
    let tops = c.in_ok-tops.tops.items in
    let some : length tops ≡ 0 → ⊥ = λ e. absurd (omega (arith, e, c.in_ok-tops.tops.ok.0)) in
    let tree : c.drop_all.new.self.tree ≡ drop c.rounds.draft.tree tops = c.in_ok-drop_all.ensures.tree ∙ ap (drop c.rounds.draft.tree) c.as_slice-in-rounds.ensures.value in
    (working-next c.args.draft.now c.rounds.draft c.drop_all.new.self c.rounds.candidates.keys tops c.rounds.invariant.settling c.rounds.invariant.enough c.in_ok-tops.ensures.tops some c.in_ok-drop_all.ensures.base tree).1

pub rounds-preserved : goal.rounds-preserved
rounds-preserved g c =
    let tops = c.in_ok-tops.tops.items in
    let T = c.rounds.draft.tree in
    let U = c.drop_all.new.self.tree in
    let of = linked_to c.args.watchers.now in
    let written = linked_to c.args.written.now in
    let touched = c.args.draft.now.touched in
    let was = c.rounds.invariant in
    let old_left = c.rounds.out.left.keys in
    let old_gone = c.rounds.out.gone.keys in
    let new_left = c.changed_by.new.out.left.keys in
    let new_gone = c.changed_by.new.out.gone.keys in
    let changed = c.in_ok-changed.changed.keys in
    let candidates = c.in_ok-candidates.candidates.keys in
    let slice = c.as_slice.ensures.value in
    let some : length tops ≡ 0 → ⊥ = λ e. absurd (omega (arith, e, c.in_ok-tops.tops.ok.0)) in
    let tree : U ≡ drop T tops = c.in_ok-drop_all.ensures.tree ∙ ap (drop T) c.as_slice-in-rounds.ensures.value in
    let same : SameBelow tops (failing T) = λ q. c.in_ok-tops.ensures.tops q ∙ tested-below T c.rounds.candidates.keys was.enough q in
    let near : HasNear T tops changed = subst (λ (paths : List (List NameText)). HasNear T paths changed) slice c.in_ok-changed.ensures.near in
    let goes : GoesUnder tops old_left new_left = subst (λ (paths : List (List NameText)). GoesUnder paths old_left new_left) slice c.in_ok-changed.ensures.left in
    let went : GoesUnder tops old_gone new_gone = subst (λ (paths : List (List NameText)). GoesUnder paths old_gone new_gone) slice c.in_ok-changed.ensures.gone in
    let keeps_left : KeepsUnder T tops old_left new_left = subst (λ (paths : List (List NameText)). KeepsUnder T paths old_left new_left) slice c.in_ok-changed.ensures.out.0 in
    let keeps_gone : KeepsUnder T tops old_gone new_gone = subst (λ (paths : List (List NameText)). KeepsUnder T paths old_gone new_gone) slice c.in_ok-changed.ensures.out.1 in
    let only : IsWithin changed (changed_paths T tops) = subst (λ (paths : List (List NameText)). ((p : List NameText) → IsTrue (is_in paths p) → IsTrue (stands T p)) → IsWithin changed (changed_paths T paths)) slice c.in_ok-changed.ensures.only c.in_ok-tops.ensures.standing in
    let left = out-next touched T U tops old_left new_left was.left goes tree in
    let gone = out-next [] T U tops old_gone new_gone was.gone went tree in
    let next = gathered-enough T U touched new_left new_gone of written c.rounds.candidates.keys tops changed candidates was.lists was.enough c.in_ok-tops.ensures.tops near left gone c.in_ok-candidates.ensures.asks tree in
    let watch = asked-less T old_left old_gone new_left new_gone of written was.asked keeps_left.0 keeps_gone.0 in
    let asks : OnlyAsks (asked new_left new_gone of written) changed [] candidates = subst (λ (none : List (List NameText)). OnlyAsks (asked new_left new_gone of written) changed none candidates) c.new-none.ensures.empty c.in_ok-candidates.ensures.only in
    let still = next-asked T U tops old_left old_gone new_left new_gone of written was.asked keeps_left keeps_gone tree in
    record {
      settling = (working-next c.args.draft.now c.rounds.draft c.drop_all.new.self c.rounds.candidates.keys tops was.settling was.enough c.in_ok-tops.ensures.tops some c.in_ok-drop_all.ensures.base tree).0;
      enough = next.0;
      lists = next.1;
      left = left;
      gone = gone;
      asked = still;
      paid = λ start so_far. paid-round c.args.draft.now T U tops c.rounds.candidates.keys candidates start c.rounds.steps c.failing_tops.new.steps c.changed_by.new.steps c.drop_all.new.steps (was.paid start so_far) (unsettled c.rounds.draft c.rounds.candidates.keys tops was.enough c.in_ok-tops.ensures.tops some) same tree (record {
        rising = c.in_ok-tops.ensures.rising;
        apart = c.in_ok-tops.ensures.apart;
        standing = c.in_ok-tops.ensures.standing;
        fewer = round-few T tops changed candidates (asked new_left new_gone of written) same watch only asks c.in_ok-candidates.ensures.rising;
        tests = c.in_ok-tops.ensures.cost;
        walks = omega (arith, c.in_ok-changed.ensures.cost, ap (walks T) slice);
        drops = c.in_ok-drop_all.ensures.steps ∙ (λ i. c.changed_by.new.steps + length (c.as_slice-in-rounds.ensures.value i) + c.in_ok-drop_all.ensures.count i);
      });
      before = was.before;
      risen = omega (arith, was.risen, c.failing_tops.ensures.risen, c.changed_by.ensures.risen, c.in_ok-drop_all.ensures.steps);
    }
