use Rattle.std.proofs.Common.{◌∙◌, Some, sym, arith}
use Rattle.std.specs.Option.{option_copied}
use Rattle.worklist_laws.specs.Links.{linked_to}
use Rattle.keep_while.proofs.Firsts.{anew-all, anew-empty}
use Rattle.keep_while.proofs.Glancing.{glance-failed, glance-of, glanced-more, glanced-none, passes-all, passes-more, passes-none}
use Rattle.keep_while.proofs.Looking.{touched-less}
use Rattle.keep_while.proofs.glance.touched_fails.Goals as goal

pub touched-init : goal.touched-init
touched-init g c =
    let d = c.args.draft.now in
    record {
      passes = passes-none d.base d.tree (linked_to c.args.watchers.now) d.touched c.args.above.now.keys;
      anew = anew-empty d.base d.tree c.args.above.now.keys c.requires.bare;
      cost = glanced-none d c.args.steps.now;
      risen = omega arith;
    }

pub touched-smaller : goal.touched-smaller
touched-smaller g c = touched-less c.args.draft.now.touched (option_copied c.touched.after) c.in-Some.path.now c.in-Some.ensures.next

pub touched-preserved : goal.touched-preserved
touched-preserved g c =
    let d = c.args.draft.now in
    let after = option_copied c.touched.after in
    let x = c.in-Some.path.now in
    let next = c.in-Some.ensures.next in
    let was = c.touched.invariant in
    let noted = c.in_ok-note_parent.ensures in
    record {
      passes = passes-more d.base d.tree (linked_to c.args.watchers.now) d.touched c.touched.above.keys c.note_parent.new.above.keys after x was.passes next noted.stays
          (sym c.fails.ensures.at ∙ c.if-fails.false) (c.watcher_fails.ensures.none c.if-watcher_fails.false) noted.above;
      anew = anew-all d.base d.tree c.touched.above.keys c.note_parent.new.above.keys was.anew noted.only;
      cost = glanced-more d after x c.args.steps.now c.touched.steps c.fails.new.steps c.watcher_fails.new.steps c.note_parent.new.steps was.cost next
          (omega (arith, c.in-Some.ensures.steps, c.fails.ensures.cost)) c.watcher_fails.ensures.cost c.note_parent.ensures.cost;
      risen = omega (arith, was.risen, c.in-Some.ensures.steps, c.fails.ensures.risen, c.watcher_fails.ensures.risen, c.note_parent.ensures.risen);
    }

pub returns-then-fails-clause-cost : goal.returns-then-fails-clause-cost
returns-then-fails-clause-cost g c =
    glance-failed c.args.draft.now (option_copied c.touched.after) c.in-Some.path.now c.args.steps.now c.touched.steps c.fails.new.steps c.touched.invariant.cost c.in-Some.ensures.next (omega (arith, c.in-Some.ensures.steps, c.fails.ensures.cost))

pub returns-then-watcher_fails-clause-cost : goal.returns-then-watcher_fails-clause-cost
returns-then-watcher_fails-clause-cost g c =
    let d = c.args.draft.now in
    let x = c.in-Some.path.now in
    glance-of d (Some x) c.args.steps.now c.watcher_fails.new.steps c.watcher_fails.new.steps
    (glanced-more d (option_copied c.touched.after) x c.args.steps.now c.touched.steps c.fails.new.steps c.watcher_fails.new.steps c.watcher_fails.new.steps c.touched.invariant.cost c.in-Some.ensures.next
    (omega (arith, c.in-Some.ensures.steps, c.fails.ensures.cost)) c.watcher_fails.ensures.cost (omega arith))
    (omega arith)

pub returns-clause-none : goal.returns-clause-none
returns-clause-none g c = λ _. passes-all c.args.draft.now.base c.args.draft.now.tree (linked_to c.args.watchers.now) c.args.draft.now.touched c.touched.above.keys (option_copied c.touched.after) c.touched.invariant.passes c.in_default.ensures.next

pub returns-clause-cost : goal.returns-clause-cost
returns-clause-cost g c = glance-of c.args.draft.now (option_copied c.touched.after) c.args.steps.now c.touched.steps c.touched_after.new.steps c.touched.invariant.cost (omega (arith, c.in_default.ensures.steps))
