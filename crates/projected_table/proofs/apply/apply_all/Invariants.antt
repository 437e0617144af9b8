use Rattle.std.proofs.Common.{◌≡◌}
use Rattle.std.specs.Vec.Iter.{into_iter_items}
use Rattle.khepri_types.specs.Tables.{changes}
use Rattle.projected_table.specs.Shelves.{AreTables, tables_of, Room, is_row}
use Rattle.std.specs.Prelude.{IsTrue}
use Rattle.std.specs.List.{AllByRecursion}
use Rattle.projected_table.proofs.apply.apply_all.Given as goal

-- what is left, made from here on, comes to all of it
abbrev pub invariant-loop-change : goal.invariant-loop-change
invariant-loop-change l =
    (goal.iterator-loop-change).can_next l.change-iterator × (goal.iterator-loop-change).is_finite l.change-iterator × record {
      rows : AllByRecursion (λ c. IsTrue (is_row c)) (into_iter_items l.change-iterator);
      tables : AreTables l.tables.entries;
      room : Room l.tables.entries (into_iter_items l.change-iterator);
      value : changes (into_iter_items l.change-iterator) (tables_of l.tables.entries) ≡ changes l.fn.changes.items (tables_of l.initial.tables.entries);
    }
