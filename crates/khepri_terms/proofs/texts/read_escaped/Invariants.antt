use Rattle.std.proofs.Common.{◌≡◌, ◌-◌, ◌≤◌, length}
use Rattle.khepri_terms.specs.Bytes.{bytes_at}
use Rattle.khepri_terms.proofs.Reading.{ahead}
use Rattle.khepri_terms.proofs.texts.read_escaped.Given as goal

abbrev pub invariant-bytes : goal.invariant-bytes
invariant-bytes l = record {
  read : bytes_at l.max l.text ≡ ahead l.bytes.items (bytes_at (l.max - length l.bytes.items) l.rest);
  few : length l.bytes.items ≤ l.max;
}

abbrev pub decreases-bytes : goal.decreases-bytes
decreases-bytes l = l.max - length l.bytes.items
