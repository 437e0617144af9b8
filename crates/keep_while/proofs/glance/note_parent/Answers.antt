use Rattle.std.proofs.Common.{◌∙◌, inr, sym}
use Rattle.std.proofs.lemmas.Result.{on_ok_weaker}
use Rattle.worklist_laws.specs.Links.{linked_to}
use Rattle.keep_while.specs.Gathering.{IsNoted}
use Rattle.keep_while.proofs.Firsts.{anew-none}
use Rattle.keep_while.proofs.Glancing.{none-linked, parent-asked}
use Rattle.keep_while.proofs.glance.note_parent.Goals as goal

pub returns-then-is_empty-clause-above : goal.returns-then-is_empty-clause-above
returns-then-is_empty-clause-above g c = λ r child moved anew. inr (none-linked c.args.draft.now.tree c.args.watchers.now (c.is_empty.ensures.0 c.if-is_empty.true) r)

pub returns-then-is_empty-clause-only : goal.returns-then-is_empty-clause-only
returns-then-is_empty-clause-only g c = anew-none c.args.draft.now.base c.args.draft.now.tree c.args.above.now.keys

pub returns-then-not-came_or_went-clause-above : goal.returns-then-not-came_or_went-clause-above
returns-then-not-came_or_went-clause-above g c = λ r child moved anew. absurd (moved (c.came_or_went.ensures.same c.if-not-came_or_went.true))

pub returns-then-not-came_or_went-clause-only : goal.returns-then-not-came_or_went-clause-only
returns-then-not-came_or_went-clause-only g c = anew-none c.args.draft.now.base c.args.draft.now.tree c.args.above.now.keys

pub returns-in-None-clause-above : goal.returns-in-None-clause-above
returns-in-None-clause-above g c = λ r child moved anew. absurd (cc (sym c.in-None.is ∙ c.in_ok-parent.ensures.parent r child))

pub returns-in-None-clause-only : goal.returns-in-None-clause-only
returns-in-None-clause-only g c = anew-none c.args.draft.now.base c.args.draft.now.tree c.args.above.now.keys

pub returns-in-Some-clause-above : goal.returns-in-Some-clause-above
returns-in-Some-clause-above g c =
    let B = c.args.draft.now.base in
    let D = c.args.draft.now.tree in
    let of = linked_to c.args.watchers.now in
    let new = c.note_asked.new.above.keys in
    on_ok_weaker c.note_asked.result (λ (f : IsNoted B D of c.in-Some.parent new). parent-asked B D of c.args.path.now c.in-Some.parent new c.in_ok-parent.field-0 c.in-Some.is c.in_ok-parent.ensures.parent f) c.note_asked.ensures.asked
