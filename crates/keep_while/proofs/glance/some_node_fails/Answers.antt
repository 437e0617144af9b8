use Rattle.worklist_laws.specs.Links.{linked_to}
use Rattle.worklist_laws.proofs.Indexing.{index-lists}
use Rattle.worklist_laws.proofs.Linking.{holds-lists}
use Rattle.keep_while.proofs.Gathering.{passed-enough}
use Rattle.keep_while.proofs.Glancing.{glance-alone, glance-both}
use Rattle.keep_while.proofs.glance.some_node_fails.Goals as goal

pub returns-then-branch-clause-cost : goal.returns-then-branch-clause-cost
returns-then-branch-clause-cost g c = glance-alone c.args.draft.now c.args.steps.now c.touched_fails.new.steps c.in_ok-touched_fails.ensures.cost

pub returns-clause-none : goal.returns-clause-none
returns-clause-none g c = λ low.
    let d = c.args.draft.now in
    let L = c.args.watchers.now in
    let touched = c.in_ok-touched_fails.ensures in
    passed-enough d.base d.tree (linked_to L) d.touched c.touched_fails.new.above.keys c.requires.settled (index-lists d.base (linked_to L) (holds-lists d.base L c.requires.index))
    touched.covered (touched.none c.if-branch.false) (c.above_fails.ensures.none low)

pub returns-clause-cost : goal.returns-clause-cost
returns-clause-cost g c =
    glance-both c.args.draft.now c.touched_fails.new.above.keys c.args.steps.now c.touched_fails.new.steps c.above_fails.new.steps c.in_ok-touched_fails.ensures.cost c.in_ok-touched_fails.ensures.anew c.len-count.ensures.ordered c.above_fails.ensures.cost
