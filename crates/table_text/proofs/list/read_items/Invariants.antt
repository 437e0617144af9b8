use Rattle.std.proofs.Common.{◌≡◌, ◌-◌, ◌≤◌, length}
use Rattle.khepri_terms.proofs.Reading.{beyond}
use Rattle.khepri_types.specs.Lists.{items_at}
use Rattle.table_text.proofs.list.read_items.Given as goal

abbrev pub invariant-items : goal.invariant-items
invariant-items g l = record {
  read : items_at g.T.Listed.listed_at l.most l.text ≡ beyond l.items.items (items_at g.T.Listed.listed_at (l.most - length l.items.items) l.rest);
  few : length l.items.items ≤ l.most;
}

abbrev pub decreases-items : goal.decreases-items
decreases-items g l = l.most - length l.items.items
