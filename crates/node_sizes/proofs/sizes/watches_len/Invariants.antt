use Rattle.std.proofs.Common.{◌≡◌, take}
use Rattle.std.specs.List.{sum_by}
use Rattle.khepri_terms.specs.Lengths.{capped}
use Rattle.khepri_types.specs.Sizes.{watch_bytes}
use Rattle.node_sizes.proofs.sizes.watches_len.Given as goal

abbrev pub invariant-loop-watch : goal.invariant-loop-watch
invariant-loop-watch l = l.len ≡ capped (sum_by watch_bytes (take l.watch-index l.watches))
