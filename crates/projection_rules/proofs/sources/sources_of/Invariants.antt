use Rattle.std.proofs.Common.{◌≡◌, drop}
use Rattle.khepri_types.specs.Views.{node_of}
use Rattle.khepri_types.specs.Projecting.{sources}
use Rattle.projection_rules.specs.Sources.{before}
use Rattle.projection_rules.proofs.sources.sources_of.Given as goal

-- the whole list is what was taken so far, before what is left
abbrev pub invariant-origins : goal.invariant-origins
invariant-origins l = sources l.path (node_of l.node) l.origins ≡ before l.all.items (sources l.path (node_of l.node) (drop l.origin-index l.origins))
