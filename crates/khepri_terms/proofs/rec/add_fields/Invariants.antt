use Rattle.std.proofs.Common.{◌≡◌, ◌++◌, take}
use Rattle.khepri_terms.proofs.rec.add_fields.Given as goal

abbrev pub invariant-loop-field : goal.invariant-loop-field
invariant-loop-field l = l.out.items ≡ l.fn.out.items ++ take l.field-index l.fields
