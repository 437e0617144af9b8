use Rattle.std.specs.Prelude.{IsTrue}
use Rattle.std.specs.FinMap.{is_sorted}
use Rattle.khepri_types.specs.Keys.{key_cmp}
use Rattle.projected_table.specs.Buckets.{Bucketed}
use Rattle.projected_table.proofs.Finding.{Copied}
use Rattle.projected_table.proofs.table.Table.copy.Given as goal

-- what is left and what was copied are all keys with their rows
abbrev pub invariant-loop-key : goal.invariant-loop-key
invariant-loop-key l = record {
  left : IsTrue (is_sorted key_cmp l.key-iterator);
  sorted : IsTrue (is_sorted key_cmp l.rows.entries);
  copied : Copied key_cmp (λ (b : Bucketed). b.cells) l.key-iterator l.rows.entries l.self.rows.entries;
}
