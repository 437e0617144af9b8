use Rattle.std.proofs.Common.{arith, []}
use Rattle.std.specs.Option.{option_copied}
use Rattle.worklist_laws.specs.Links.{linked_to}
use Rattle.keep_while.proofs.Firsts.{anew-all, anew-empty, leaves-all, leaves-more, leaves-none, touched-empty, touched-more}
use Rattle.keep_while.proofs.Looking.{looked-none, looked-more, looked-all, touched-less, touched-whole, left-more, gone-more, out-none, within-empty}
use Rattle.keep_while.proofs.first.look_at_all.Goals as goal

pub touched-init : goal.touched-init
touched-init g c =
    let B = c.args.draft.now.base in
    let D = c.args.draft.now.tree in
    let touched = c.args.draft.now.touched in
    record {
      looked = looked-none B D c.args.written.now touched c.args.tests.now.keys c.args.changed.now.keys c.requires.none;
      left = within-empty c.args.out.now.left.keys touched c.requires.out.0;
      gone = out-none [] D c.args.out.now.gone.keys c.requires.out.1;
      tested = within-empty c.args.tests.now.keys touched c.requires.bare.0;
      leaves = leaves-none touched c.args.out.now.left.keys;
      anew = anew-empty B D c.args.changed.now.keys c.requires.bare.1;
      only = touched-empty D touched c.args.written.now c.requires.none;
      cost = omega (arith, touched-whole touched);
      risen = omega arith;
    }

pub touched-smaller : goal.touched-smaller
touched-smaller g c = touched-less c.args.draft.now.touched (option_copied c.touched.after) c.in-Some.path.now c.in-Some.ensures.next

pub touched-preserved : goal.touched-preserved
touched-preserved g c =
    let B = c.args.draft.now.base in
    let D = c.args.draft.now.tree in
    let touched = c.args.draft.now.touched in
    let after = option_copied c.touched.after in
    let x = c.in-Some.path.now in
    let next = c.in-Some.ensures.next in
    let was = c.touched.invariant in
    let look = c.in_ok-look.ensures in
    record {
      looked = looked-more B D c.touched.written c.look.new.written touched c.touched.tests.keys c.look.new.tests.keys c.touched.changed.keys c.look.new.changed.keys
          after x was.looked next look.looks look.tests look.changed look.linked look.others;
      left = left-more touched c.touched.out.left.keys c.look.new.out.left.keys x was.left next.0 look.left;
      gone = gone-more D c.touched.out.gone.keys c.look.new.out.gone.keys was.gone look.gone;
      tested = left-more touched c.touched.tests.keys c.look.new.tests.keys x was.tested next.0 look.tested;
      leaves = leaves-more touched after x c.touched.out.left.keys c.look.new.out.left.keys was.leaves next look.left;
      anew = anew-all B D c.touched.changed.keys c.look.new.changed.keys was.anew look.anew;
      only = touched-more D touched x (linked_to c.touched.written) (linked_to c.look.new.written) was.only next.0 look.only;
      cost = omega (arith, was.cost, c.in-Some.ensures.steps, look.cost, touched-less touched after x next);
      risen = omega (arith, was.risen, c.in-Some.ensures.steps, c.look.ensures.risen);
    }

pub returns-clause-looks : goal.returns-clause-looks
returns-clause-looks g c =
    looked-all c.args.draft.now.base c.args.draft.now.tree c.touched.written c.args.draft.now.touched c.touched.tests.keys c.touched.changed.keys (option_copied c.touched.after) c.touched.invariant.looked c.in_default.ensures.next

pub returns-clause-leaves : goal.returns-clause-leaves
returns-clause-leaves g c = leaves-all c.args.draft.now.touched (option_copied c.touched.after) c.touched.out.left.keys c.touched.invariant.leaves c.in_default.ensures.next

pub returns-clause-cost : goal.returns-clause-cost
returns-clause-cost g c = omega (arith, c.touched.invariant.cost, c.in_default.ensures.steps)
