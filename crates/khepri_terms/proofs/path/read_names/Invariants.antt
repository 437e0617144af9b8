use Rattle.std.proofs.Common.{◌≡◌, ◌-◌, ◌≤◌, length}
use Rattle.khepri_terms.specs.Paths.{names_at}
use Rattle.khepri_terms.proofs.Reading.{ahead}
use Rattle.khepri_terms.proofs.path.read_names.Given as goal

abbrev pub invariant-names : goal.invariant-names
invariant-names l = record {
  read : names_at 512 l.text ≡ ahead l.names.items (names_at (512 - length l.names.items) l.rest);
  few : length l.names.items ≤ 512;
}

abbrev pub decreases-names : goal.decreases-names
decreases-names l = 512 - length l.names.items
