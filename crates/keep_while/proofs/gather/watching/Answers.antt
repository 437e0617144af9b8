use Rattle.worklist_laws.specs.Links.{linked_to}
use Rattle.std.proofs.Common.{◌++◌, [], ◌∷◌}
use Rattle.keep_while.specs.Gathering.{asked}
use Rattle.keep_while.proofs.Gathering.{asks-more, split-more, within-on}
use Rattle.keep_while.proofs.Noting.{asked-more}
use Rattle.keep_while.proofs.gather.watching.Goals as goal

pub loop-path-preserved : goal.loop-path-preserved
loop-path-preserved c =
    let of = asked c.args.out.now.left.keys c.args.out.now.gone.keys (linked_to c.args.watchers.now) (linked_to c.args.written.now) in
    let x = c.in-Some.path.now in
    let done = c.loop-path.invariant.done in
    record {
      done = done ++ x ∷ [];
      rest = split-more done c.loop-path.path-iterator x c.next.new.self c.args.changed.now.keys c.loop-path.invariant.rest c.in-Some.ensures.steps;
      asks = asks-more of done x c.loop-path.set.keys c.note_watchers.new.set.keys c.loop-path.invariant.asks c.in_ok-note_watchers.ensures.stays c.in_ok-note_watchers.ensures.asks;
      stays = within-on c.args.candidates.keys c.loop-path.set.keys c.note_watchers.new.set.keys c.loop-path.invariant.stays c.in_ok-note_watchers.ensures.stays;
      only = asked-more of done x c.args.candidates.keys c.loop-path.set.keys c.note_watchers.new.set.keys c.loop-path.invariant.only c.in_ok-note_watchers.ensures.only;
    }
