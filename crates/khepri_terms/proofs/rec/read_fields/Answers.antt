use Rattle.std.proofs.Common.{◌-◌, Bool, length, ap, ◌∙◌, Some, Err, arith}
use Rattle.khepri_terms.specs.declared.fault.TextFault.{TextFault}
use Rattle.khepri_terms.specs.declared.fault.TextFault.TheVariants.{Bad}
use Rattle.khepri_terms.proofs.Cases.{err_is}
use Rattle.std.proofs.lemmas.Result.{err_from_is_err_and}
use Rattle.khepri_terms.specs.Records.{fields_at}
use Rattle.khepri_terms.proofs.FieldsReading.{fields_last, fields_on, fields_fail, fields_none, fields_odd, fields_past}
use Rattle.khepri_terms.proofs.rec.read_fields.Goals as goal

pub returns-clause-bad : goal.returns-clause-bad
returns-clause-bad c =
    let k = 64 - length c.fields.fields.items in
    λ _. fields_fail (fields_at 64 c.args.text.now) (fields_at k c.fields.rest.now) c.fields.fields.items (fields_past k c.fields.rest.now (omega arith)) c.fields.invariant.read

pub returns-in_err-field-clause-bad : goal.returns-in_err-field-clause-bad
returns-in_err-field-clause-bad c =
    let k = 64 - length c.fields.fields.items in
    let p = err_from_is_err_and c.from_residual.result c.from_residual.ensures.1 in
    rw (p.1, p.2) (λ h. fields_fail (fields_at 64 c.args.text.now) (fields_at k c.fields.rest.now) c.fields.fields.items (fields_none k c.fields.rest.now (c.in_err-field.ensures.bad (ap (λ (d : TextFault). Err d) (err_is c.in_err-field.field-0.0 Bad h)))) c.fields.invariant.read)

pub returns-in_err-is_last-clause-bad : goal.returns-in_err-is_last-clause-bad
returns-in_err-is_last-clause-bad c =
    let k = 64 - length c.fields.fields.items in
    let p = err_from_is_err_and c.from_residual-in_err-is_last.result c.from_residual-in_err-is_last.ensures.1 in
    rw (p.1, p.2) (λ h. fields_fail (fields_at 64 c.args.text.now) (fields_at k c.fields.rest.now) c.fields.fields.items (fields_odd k c.in_ok-field.field c.fields.rest.now c.in_ok-field.after.now c.in_ok-field.ensures.value (c.in_err-is_last.ensures.bad (ap (λ (d : TextFault). Err d) (err_is c.in_err-is_last.field-0.0 Bad h)))) c.fields.invariant.read)

pub returns-then-is_last-clause-value : goal.returns-then-is_last-clause-value
returns-then-is_last-clause-value c =
    fields_last (fields_at 64 c.args.text.now) c.fields.fields.items c.push.new.self.items c.in_ok-field.field c.fields.rest.now c.in_ok-field.after.now c.in_ok-is_last.next.now (omega arith) c.in_ok-field.ensures.value
    (c.in_ok-is_last.ensures.value ∙ ap (λ (b : Bool). Some (b, c.in_ok-is_last.next.now)) c.if-is_last.true) c.in_ok-push.ensures.items c.fields.invariant.read

pub fields-preserved : goal.fields-preserved
fields-preserved c = record {
  read = fields_on (fields_at 64 c.args.text.now) c.fields.fields.items c.push.new.self.items c.in_ok-field.field c.fields.rest.now c.in_ok-field.after.now c.in_ok-is_last.next.now (omega arith) c.in_ok-field.ensures.value
      (c.in_ok-is_last.ensures.value ∙ ap (λ (b : Bool). Some (b, c.in_ok-is_last.next.now)) c.if-is_last.false) c.in_ok-push.ensures.items c.fields.invariant.read;
  few = omega (arith, c.in_ok-push.ensures.len);
}
