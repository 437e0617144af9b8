use Rattle.std.proofs.Common.{◌≡◌, ◌∙◌, ◌++◌, List, [], ◌∷◌, Less, sym, ap, subst, arith}
use Rattle.std.specs.Prelude.{IsTrue}
use Rattle.std.specs.List.Sorted.{IsStrictlySortedBy}
use Rattle.khepri_terms.specs.Terms.{NameText}
use Rattle.khepri_terms.specs.Order.{path_cmp}
use Rattle.khepri_types.specs.Paths.{is_under}
use Rattle.khepri_types.specs.Tree.{stands}
use Rattle.worklist_laws.specs.Candidates.{is_in, IsWithin}
use Rattle.keep_while.specs.Costs.{AreApart, EndsApart}
use Rattle.keep_while.proofs.Gathering.{FailsSoFar, fails-stands, split-more, test-cost, tests-cost, tops-cover, tops-none, tops-push, tops-skip}
use Rattle.keep_while.proofs.Tops.{apart-more, apart-none, in-both, in-more, rises-more, rises-none, split-less, stands-more}
use Rattle.keep_while.proofs.gather.failing_tops.Goals.{else-fails-via-then-fails+else-not-is_covered, else-fails-via-else-fails}
use Rattle.keep_while.proofs.gather.failing_tops.Goals as goal

pub loop-path-init : goal.loop-path-init
loop-path-init g c =
    let T = c.args.draft.now.tree in
    let none = sym c.new-tops.ensures.items in
    record {
      done = [];
      rest = c.into_iter-path-iterator.ensures.into_iter_gives.0;
      tops = subst (FailsSoFar T []) none (tops-none T);
      within = subst (λ (ps : List (List NameText)). IsWithin ps []) none (λ q h. h);
      standing = subst (λ (ps : List (List NameText)). (p : List NameText) → IsTrue (is_in ps p) → IsTrue (stands T p)) none (λ p h. absurd cc);
      rising = subst (IsStrictlySortedBy path_cmp) none rises-none;
      apart = subst AreApart none apart-none;
      cost = omega arith;
      risen = omega arith;
    }

pub loop-path-preserved-then-not-is_covered : goal.loop-path-preserved-then-not-is_covered
loop-path-preserved-then-not-is_covered g c =
    let T = c.args.draft.now.tree in
    let x = c.in-Some.path.now in
    let was = c.loop-path.invariant in
    let done = was.done in
    let tops = c.loop-path.tops.items in
    let new = tops ++ x ∷ [] in
    let items : c.push.new.self.items ≡ new = c.in_ok-push.ensures.items ∙ ap (λ (p : List NameText). tops ++ p ∷ []) c.in_ok-copy.ensures in
    let back = sym items in
    let fails = sym c.fails.ensures.at ∙ c.if-fails.true in
    let keys : c.args.candidates.now.keys ≡ done ++ x ∷ c.next.new.self = sym was.rest ∙ ap (λ (ps : List (List NameText)). done ++ ps) c.in-Some.ensures.steps in
    let rising : IsStrictlySortedBy path_cmp (done ++ x ∷ c.next.new.self) = subst (IsStrictlySortedBy path_cmp) keys c.len-count.ensures.ordered in
    let less : (p : List NameText) → IsTrue (is_in tops p) → path_cmp p x ≡ Less = λ p h. split-less done x c.next.new.self rising p (was.within p h) in
    let ends : EndsApart tops x = subst (λ (ps : List (List NameText)). EndsApart ps x) c.as_slice.ensures.value (c.is_covered.ensures.apart c.if-not-is_covered.true) in
    record {
      done = done ++ x ∷ [];
      rest = split-more done c.loop-path.path-iterator x c.next.new.self c.args.candidates.now.keys was.rest c.in-Some.ensures.steps;
      tops = subst (FailsSoFar T (done ++ x ∷ [])) back (tops-push T done x tops fails was.tops);
      within = subst (λ (ps : List (List NameText)). IsWithin ps (done ++ x ∷ [])) back (in-both done x tops was.within);
      standing = subst (λ (ps : List (List NameText)). (p : List NameText) → IsTrue (is_in ps p) → IsTrue (stands T p)) back (stands-more T tops x was.standing (fails-stands T x fails));
      rising = subst (IsStrictlySortedBy path_cmp) back (rises-more tops x was.rising less);
      apart = subst AreApart back (apart-more tops x was.rising was.apart less ends);
      cost = test-cost done x c.args.steps.now c.loop-path.steps c.fails.new.steps was.cost c.fails.ensures.cost;
      risen = omega (arith, was.risen, c.fails.ensures.risen);
    }

pub loop-path-preserved : goal.loop-path-preserved
loop-path-preserved g c =
    let T = c.args.draft.now.tree in
    let x = c.in-Some.path.now in
    let was = c.loop-path.invariant in
    let done = was.done in
    let tops = c.loop-path.tops.items in
    record {
      done = done ++ x ∷ [];
      rest = split-more done c.loop-path.path-iterator x c.next.new.self c.args.candidates.now.keys was.rest c.in-Some.ensures.steps;
      tops = elim c.else-fails.branch [
        | else-fails-via-then-fails+else-not-is_covered w ↦ tops-cover T done x tops (sym c.fails.ensures.at ∙ w.if-fails.true) (subst (λ (ps : List (List NameText)). IsTrue (is_under ps x)) w.as_slice.ensures.value (w.is_covered.ensures.covered w.if-not-is_covered.false)) was.tops
        | else-fails-via-else-fails w ↦ tops-skip T done x tops (sym c.fails.ensures.at ∙ w.if-fails.false) was.tops
      ];
      within = in-more done x tops was.within;
      standing = was.standing;
      rising = was.rising;
      apart = was.apart;
      cost = test-cost done x c.args.steps.now c.loop-path.steps c.fails.new.steps was.cost c.fails.ensures.cost;
      risen = omega (arith, was.risen, c.fails.ensures.risen);
    }

pub returns-clause-cost : goal.returns-clause-cost
returns-clause-cost g c = tests-cost c.loop-path.invariant.done c.loop-path.path-iterator c.args.candidates.now.keys c.args.steps.now c.loop-path.steps c.loop-path.invariant.rest c.loop-path.invariant.cost
