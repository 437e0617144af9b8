use Rattle.std.proofs.Common.{◌≡◌, ◌-◌, ◌≤◌, length}
use Rattle.khepri_terms.specs.Many.{many}
use Rattle.khepri_terms.proofs.Reading.{ahead}
use Rattle.condition_text.proofs.many.read_many.Given as goal

abbrev pub invariant-items : goal.invariant-items
invariant-items g l = record {
  read : many g.T.Item.item_at l.most l.text ≡ ahead l.items.items (many g.T.Item.item_at (l.most - length l.items.items) l.rest);
  few : length l.items.items ≤ l.most;
}

abbrev pub decreases-items : goal.decreases-items
decreases-items g l = l.most - length l.items.items
