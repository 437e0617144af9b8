use Rattle.std.proofs.Common.{◌≡◌, ◌++◌, take, length}
use Rattle.khepri_terms.specs.Bytes.{bytes_text}
use Rattle.khepri_terms.proofs.texts.print_bytes.Given as goal

abbrev pub invariant-runs : goal.invariant-runs
invariant-runs l = record {
  all : l.fn.out.items ++ bytes_text l.bytes ≡ l.out.items ++ bytes_text l.rest;
  front : take (length l.fn.out.items) l.out.items ≡ l.fn.out.items;
}

abbrev pub decreases-runs : goal.decreases-runs
decreases-runs l = length l.rest
