use Rattle.std.proofs.Common.{List, length, Some, None, sym, ap, subst, arith}
use Rattle.std.specs.List.{filter}
use Rattle.khepri_terms.specs.Terms.{NameText}
use Rattle.khepri_types.specs.Paths.{is_front}
use Rattle.tree_nodes.proofs.Walking.{ahead}
use Rattle.worklist_laws.proofs.Among.{Entry}
use Rattle.keep_while.proofs.Failures.{ahead-less}
use Rattle.keep_while.proofs.Gathering.{Walked, added-one, added-stays, came-under, within-on, under-next, walked-begins, walked-ends, walked-more, goes-begins, goes-one}
use Rattle.keep_while.proofs.Noting.{below-begins, below-one, cost-more}
use Rattle.keep_while.proofs.gather.add_below.Goals as goal

pub walk-init : goal.walk-init
walk-init g c =
    let T = c.args.draft.now.tree in
    let top = c.args.top.now in
    let set = c.note_gone.new.set.keys in
    let left = c.note_gone.new.out.left.keys in
    let gone = c.note_gone.new.out.gone.keys in
    let noted = c.in_ok-note_gone.ensures in
    let here = sym c.in_ok-at.ensures in
    record {
      walked = subst (λ (at : List NameText). Walked T top at set) here (walked-begins T top set (added-one top c.args.set.now.keys set noted.adds));
      walked_left = subst (λ (at : List NameText). Walked T top at left) here (walked-begins T top left (added-one top c.args.out.now.left.keys left noted.left));
      walked_gone = subst (λ (at : List NameText). Walked T top at gone) here (walked-begins T top gone (added-one top c.args.out.now.gone.keys gone noted.gone));
      stays = added-stays top c.args.set.now.keys set noted.adds;
      stays_left = added-stays top c.args.out.now.left.keys left noted.left;
      stays_gone = added-stays top c.args.out.now.gone.keys gone noted.gone;
      left = goes-begins top c.args.out.now.left.keys left noted.left;
      gone = goes-begins top c.args.out.now.gone.keys gone noted.gone;
      only = below-begins T top c.args.set.now.keys set noted.adds;
      cost = omega (arith, ap (λ (at : List NameText). length (filter (λ (e : Entry). is_front top e.0) (ahead T (Some at)))) c.in_ok-at.ensures);
      risen = omega arith;
    }

pub returns-clause-below : goal.returns-clause-below
returns-clause-below g c =
    let T = c.args.draft.now.tree in
    let at = c.walk.at in
    walked-ends T c.args.top.now at c.walk.set.keys c.walk.invariant.walked (came-under T c.args.top.now at c.in_ok-path.field-0 None c.in_default.is c.in_ok-path.ensures.next)

pub returns-clause-out : goal.returns-clause-out
returns-clause-out g c =
    let T = c.args.draft.now.tree in
    let at = c.walk.at in
    let none = came-under T c.args.top.now at c.in_ok-path.field-0 None c.in_default.is c.in_ok-path.ensures.next in
    ((c.walk.invariant.stays_left, walked-ends T c.args.top.now at c.walk.out.left.keys c.walk.invariant.walked_left none), (c.walk.invariant.stays_gone, walked-ends T c.args.top.now at c.walk.out.gone.keys c.walk.invariant.walked_gone none))

pub next_under-requires : goal.next_under-requires
next_under-requires g c = record { under = c.walk.invariant.walked.under }

pub walk-smaller : goal.walk-smaller
walk-smaller g c =
    let T = c.args.draft.now.tree in
    let at = c.walk.at in
    let x = c.in-Some.path in
    ahead-less T (Some at) x (under-next T c.args.top.now at x c.walk.invariant.walked.under (came-under T c.args.top.now at c.in_ok-path.field-0 (Some x) c.in-Some.is c.in_ok-path.ensures.next))

pub walk-preserved : goal.walk-preserved
walk-preserved g c =
    let T = c.args.draft.now.tree in
    let top = c.args.top.now in
    let at = c.walk.at in
    let x = c.in-Some.path in
    let was = c.walk.invariant in
    let came = came-under T top at c.in_ok-path.field-0 (Some x) c.in-Some.is c.in_ok-path.ensures.next in
    let next = under-next T top at x was.walked.under came in
    let under = came.0.1 in
    let noted = c.in_ok-note_gone-2.ensures in
    let set = c.note_gone-in-Some.new.set.keys in
    let left = c.note_gone-in-Some.new.out.left.keys in
    let gone = c.note_gone-in-Some.new.out.gone.keys in
    let stays = added-stays x c.walk.set.keys set noted.adds in
    let stays_left = added-stays x c.walk.out.left.keys left noted.left in
    let stays_gone = added-stays x c.walk.out.gone.keys gone noted.gone in
    record {
      walked = walked-more T top at x c.walk.set.keys set was.walked next under stays (added-one x c.walk.set.keys set noted.adds);
      walked_left = walked-more T top at x c.walk.out.left.keys left was.walked_left next under stays_left (added-one x c.walk.out.left.keys left noted.left);
      walked_gone = walked-more T top at x c.walk.out.gone.keys gone was.walked_gone next under stays_gone (added-one x c.walk.out.gone.keys gone noted.gone);
      stays = within-on c.args.set.now.keys c.walk.set.keys set was.stays stays;
      stays_left = within-on c.args.out.now.left.keys c.walk.out.left.keys left was.stays_left stays_left;
      stays_gone = within-on c.args.out.now.gone.keys c.walk.out.gone.keys gone was.stays_gone stays_gone;
      left = goes-one top x c.args.out.now.left.keys c.walk.out.left.keys left under was.left noted.left;
      gone = goes-one top x c.args.out.now.gone.keys c.walk.out.gone.keys gone under was.gone noted.gone;
      only = below-one T top x c.args.set.now.keys c.walk.set.keys set next.0 under was.only noted.adds;
      cost = omega (arith, was.cost, c.next_under.ensures.steps, cost-more T top at x next under);
      risen = omega (arith, was.risen, c.next_under.ensures.steps);
    }
