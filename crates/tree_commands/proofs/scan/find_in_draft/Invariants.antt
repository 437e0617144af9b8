use Rattle.std.proofs.Common.{take}
use Rattle.khepri_types.specs.Patterns.{matching_nodes}
use Rattle.tree_commands.specs.Listing.{Lists}
use Rattle.tree_commands.proofs.scan.find_in_draft.Given as goal

abbrev pub invariant-each : goal.invariant-each
invariant-each g l = record {
  lists : Lists l.draft.tree l.limit (take l.path-index (matching_nodes l.pattern l.draft.tree)) l.found;
}
