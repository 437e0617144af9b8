use Rattle.std.proofs.Common.{◌≡◌, ◌++◌, take}
use Rattle.std.specs.List.{flat_map}
use Rattle.khepri_types.specs.Texts.{watch_text}
use Rattle.line_text.proofs.watch.append_watches.Given as goal

abbrev pub invariant-loop-watch : goal.invariant-loop-watch
invariant-loop-watch l = l.out.items ≡ l.fn.out.items ++ flat_map watch_text (take l.watch-index l.watches)
