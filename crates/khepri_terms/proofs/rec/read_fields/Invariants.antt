use Rattle.std.proofs.Common.{◌≡◌, ◌-◌, ◌≤◌, length}
use Rattle.khepri_terms.specs.Records.{fields_at}
use Rattle.khepri_terms.proofs.Reading.{beyond}
use Rattle.khepri_terms.proofs.rec.read_fields.Given as goal

abbrev pub invariant-fields : goal.invariant-fields
invariant-fields l = record {
  read : fields_at 64 l.text ≡ beyond l.fields.items (fields_at (64 - length l.fields.items) l.rest);
  few : length l.fields.items ≤ 64;
}

abbrev pub decreases-fields : goal.decreases-fields
decreases-fields l = 64 - length l.fields.items
