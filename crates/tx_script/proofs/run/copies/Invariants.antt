use Rattle.std.proofs.Common.{◌≡◌, take}
use Rattle.tx_script.proofs.run.copies.Given as goal

abbrev pub invariant-loop-watch : goal.invariant-loop-watch
invariant-loop-watch l = l.all.items ≡ take l.watch-index l.watches
