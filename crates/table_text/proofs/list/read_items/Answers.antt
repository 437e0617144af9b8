use Rattle.std.proofs.Common.{◌-◌, Bool, length, ap, ◌∙◌, Some, Err, arith}
use Rattle.std.proofs.lemmas.Result.{err_from_is_err_and}
use Rattle.khepri_terms.specs.declared.fault.TextFault.{TextFault}
use Rattle.khepri_terms.specs.declared.fault.TextFault.TheVariants.{Bad}
use Rattle.khepri_terms.proofs.Cases.{err_is}
use Rattle.khepri_types.specs.Lists.{items_at}
use Rattle.table_text.proofs.Turns.{items_last, items_on, items_fail, items_none, items_odd, items_past}
use Rattle.table_text.proofs.list.read_items.Goals as goal

pub returns-clause-bad : goal.returns-clause-bad
returns-clause-bad g c =
    let item = g.T.Listed.listed_at in
    let k = c.args.most - length c.items.items.items in
    λ _. items_fail item (items_at item c.args.most c.args.text.now) (items_at item k c.items.rest.now) c.items.items.items (items_past item k c.items.rest.now (omega arith)) c.items.invariant.read

pub returns-in_err-item-clause-bad : goal.returns-in_err-item-clause-bad
returns-in_err-item-clause-bad g c =
    let item = g.T.Listed.listed_at in
    let k = c.args.most - length c.items.items.items in
    let p = err_from_is_err_and c.from_residual.result c.from_residual.ensures.1 in
    rw (p.1, p.2) (λ h. items_fail item (items_at item c.args.most c.args.text.now) (items_at item k c.items.rest.now) c.items.items.items (items_none item k c.items.rest.now (c.in_err-item.ensures.bad (ap (λ (d : TextFault). Err d) (err_is c.in_err-item.field-0.0 Bad h)))) c.items.invariant.read)

pub returns-in_err-is_last-clause-bad : goal.returns-in_err-is_last-clause-bad
returns-in_err-is_last-clause-bad g c =
    let item = g.T.Listed.listed_at in
    let k = c.args.most - length c.items.items.items in
    let p = err_from_is_err_and c.from_residual-in_err-is_last.result c.from_residual-in_err-is_last.ensures.1 in
    rw (p.1, p.2) (λ h. items_fail item (items_at item c.args.most c.args.text.now) (items_at item k c.items.rest.now) c.items.items.items (items_odd item k c.in_ok-item.item c.items.rest.now c.in_ok-item.after.now c.in_ok-item.ensures.value (c.in_err-is_last.ensures.bad (ap (λ (d : TextFault). Err d) (err_is c.in_err-is_last.field-0.0 Bad h)))) c.items.invariant.read)

pub returns-then-is_last-clause-value : goal.returns-then-is_last-clause-value
returns-then-is_last-clause-value g c =
    let item = g.T.Listed.listed_at in
    items_last item (items_at item c.args.most c.args.text.now) c.args.most c.items.items.items c.push.new.self.items c.in_ok-item.item c.items.rest.now c.in_ok-item.after.now c.in_ok-is_last.next.now (omega arith) c.in_ok-item.ensures.value
    (c.in_ok-is_last.ensures.value ∙ ap (λ (b : Bool). Some (b, c.in_ok-is_last.next.now)) c.if-is_last.true) c.in_ok-push.ensures.items c.items.invariant.read

pub items-preserved : goal.items-preserved
items-preserved g c =
    let item = g.T.Listed.listed_at in
    record {
      read = items_on item (items_at item c.args.most c.args.text.now) c.args.most c.items.items.items c.push.new.self.items c.in_ok-item.item c.items.rest.now c.in_ok-item.after.now c.in_ok-is_last.next.now (omega arith) c.in_ok-item.ensures.value
          (c.in_ok-is_last.ensures.value ∙ ap (λ (b : Bool). Some (b, c.in_ok-is_last.next.now)) c.if-is_last.false) c.in_ok-push.ensures.items c.items.invariant.read;
      few = omega (arith, c.in_ok-push.ensures.len);
    }
