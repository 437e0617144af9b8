use Rattle.std.proofs.Common.{◌≡◌, List, [], ◌++◌, true, subst, sym, ap, ◌∙◌}
use Rattle.khepri_terms.specs.declared.rec.Field.{Field}
use Rattle.khepri_terms.specs.Records.{IsRec, with_field, is_small}
use Rattle.khepri_terms.proofs.Changes.{with_is}
use Rattle.khepri_terms.proofs.rec.Rec.with.Goals as goal

pub invariant_of-result : goal.invariant_of-result
invariant_of-result c =
    let new : Field = record { key = c.args.key.now.bytes; value = c.args.value.now } in
    let old : List Field = c.self.inside.fields.items in
    let key : c.in_ok-from_slice.field-0 ≡ c.args.key.now.bytes = c.in_ok-from_slice.ensures ∙ c.bytes.ensures.value in
    let value : c.in_ok-copy.field-0 ≡ c.args.value.now = c.in_ok-copy.ensures.same in
    let none : c.in_ok-fields.fields.items ≡ [] = c.in_ok-fields.ensures.items in
    let made : c.put_field.new.out.items ≡ with_field new old =
    c.in_ok-put_field.ensures ∙ (λ i. none i ++ with_field (record { key = key i; value = value i }) (c.as_slice.ensures.value i)) in
    let small : is_small (with_field new old) ≡ true = ap is_small (sym (c.as_slice-2.ensures.value ∙ made)) ∙ (sym c.is_small.ensures ∙ c.if-is_small.true) in
    subst IsRec (sym made) (with_is new old c.self.invariant c.bytes.ensures.name c.copy.ensures.value small)
