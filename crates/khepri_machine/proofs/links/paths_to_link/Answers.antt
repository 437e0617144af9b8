use Rattle.std.specs.Option.{option_copied}
use Rattle.keep_while.proofs.Looking.{touched-less}
use Rattle.khepri_machine.proofs.Following.{noted-all, noted-more, noted-none}
use Rattle.khepri_machine.proofs.links.paths_to_link.Goals as goal

pub touched-init : goal.touched-init
touched-init g c = record { noted = noted-none c.args.draft.now.base c.args.draft.now.tree c.args.draft.now.touched c.new-paths.result.items }

pub touched-smaller : goal.touched-smaller
touched-smaller g c = touched-less c.args.draft.now.touched (option_copied c.touched.after) c.in-Some.path.now c.in-Some.ensures.next

pub touched-preserved : goal.touched-preserved
touched-preserved g c =
    let d = c.args.draft.now in
    let noted = c.in_ok-note_link.ensures in
    record {
      noted = noted-more d.base d.tree d.touched (option_copied c.touched.after) c.in-Some.path.now c.touched.paths.items c.note_link.new.paths.items c.touched.invariant.noted c.in-Some.ensures.next noted.stays noted.noted;
    }

pub returns : goal.returns
returns g c = noted-all c.args.draft.now.base c.args.draft.now.tree c.args.draft.now.touched (option_copied c.touched.after) c.touched.paths.items c.touched.invariant.noted c.in_default.ensures.next c.in_default.ensures.covered
