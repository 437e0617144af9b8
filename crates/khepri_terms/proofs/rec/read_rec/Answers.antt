use Rattle.std.proofs.Common.{◌≡◌, ◌≤◌, ◌-◌, true, length, arith}
use Rattle.khepri_terms.specs.Records.{keys_rise}
use Rattle.khepri_terms.proofs.RecordsLaws.{record_is}
use Rattle.khepri_terms.proofs.rec.read_rec.Goals as goal

pub invariant_of-result : goal.invariant_of-result
invariant_of-result c =
    let fs = c.in_ok-fields.fields.items in
    let rises : keys_rise fs ≡ true = cc in
    let short : length c.args.text.now - length c.in_ok-fields.rest.now ≤ 4096 = omega (arith, c.saturating_sub.ensures) in
    record_is c.args.text.now c.in_ok-fields.rest.now fs c.in_ok-fields.ensures.value rises short
