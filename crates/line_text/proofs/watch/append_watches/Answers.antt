use Rattle.std.proofs.Common.{take, refl}
use Rattle.std.specs.List.{flat_map}
use Rattle.khepri_terms.proofs.Printing.{front_of, front_kept}
use Rattle.khepri_types.specs.Texts.{watch_text}
use Rattle.condition_text.proofs.Loops.{none_yet, one_more, all_done}
use Rattle.line_text.proofs.watch.append_watches.Goals as goal

pub loop-watch-init : goal.loop-watch-init
loop-watch-init c = none_yet watch_text c.args.out.now.items

pub loop-watch-preserved : goal.loop-watch-preserved
loop-watch-preserved c =
    one_more watch_text c.args.watches.now c.loop-watch.watch-index c.watch-item.result c.args.out.now.items c.loop-watch.out.items c.append_watch.new.out.items c.loop-watch-test.true c.watch-item.is c.loop-watch.invariant c.in_ok-append_watch.ensures.ok

pub returns-in_err-append_watch-clause-front : goal.returns-in_err-append_watch-clause-front
returns-in_err-append_watch-clause-front c =
    front_of c.args.out.now.items c.loop-watch.out.items c.append_watch.new.out.items (flat_map watch_text (take c.loop-watch.watch-index c.args.watches.now)) c.loop-watch.invariant c.in_err-append_watch.ensures.front

pub returns-clause-ok : goal.returns-clause-ok
returns-clause-ok c = all_done watch_text c.args.watches.now c.loop-watch.watch-index c.args.out.now.items c.loop-watch.out.items c.loop-watch-test.false c.loop-watch.invariant

pub returns-clause-front : goal.returns-clause-front
returns-clause-front c =
    front_kept c.args.out.now.items c.loop-watch.out.items c.loop-watch.out.items (flat_map watch_text (take c.loop-watch.watch-index c.args.watches.now)) c.loop-watch.invariant refl
