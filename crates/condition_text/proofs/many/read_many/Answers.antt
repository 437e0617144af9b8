use Rattle.std.proofs.Common.{◌-◌, length, refl, arith}
use Rattle.khepri_terms.specs.Many.{many}
use Rattle.khepri_terms.proofs.Reading.{many_on, many_done, many-end, many-full}
use Rattle.condition_text.proofs.many.read_many.Goals as goal
use Rattle.condition_text.proofs.many.read_many.Goals.{else-items-test, then-items-test+in-Err-Bad}

pub items-preserved : goal.items-preserved
items-preserved g c =
    let item = g.T.Item.item_at in
    record {
      read = many_on item (many item c.args.most c.args.text.now) c.args.most c.items.items.items c.push.new.self.items c.in-Ok.item c.items.rest.now c.in-Ok.after.now (omega arith) c.in-Ok.ensures.value c.in_ok-push-in-Ok.ensures.items c.items.invariant.read;
      few = omega (arith, c.in_ok-push-in-Ok.ensures.len);
    }

pub returns-clause-value : goal.returns-clause-value
returns-clause-value g c =
    let item = g.T.Item.item_at in
    let k = c.args.most - length c.items.items.items in
    elim c.items-test.branch [
      | else-items-test w ↦ many_done _ _ _ (many item k c.items.rest.now) (many-full item k c.items.rest.now (omega arith)) c.items.invariant.read
      | then-items-test+in-Err-Bad w ↦ many_done _ _ _ (many item k c.items.rest.now) (many-end item k c.items.rest.now ((rw w.in-Err-Bad.field-0-is at w.in-Err-Bad.ensures.bad) refl)) c.items.invariant.read
    ]
