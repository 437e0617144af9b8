use Rattle.std.specs.Prelude.{IsTrue}
use Rattle.std.specs.List.{AllByRecursion}
use Rattle.std.specs.FinMap.{is_sorted}
use Rattle.khepri_terms.specs.Order.{name_cmp}
use Rattle.projected_table.specs.Spreads.{IsTable, table_of}
use Rattle.projected_table.specs.Shelves.{AreTables}
use Rattle.projected_table.proofs.Finding.{Copied}
use Rattle.projected_table.proofs.apply.copy_tables.Given as goal

-- what is left and what was copied are all tables
abbrev pub invariant-loop-name : goal.invariant-loop-name
invariant-loop-name l = record {
  left : IsTrue (is_sorted name_cmp l.name-iterator);
  each : AllByRecursion (λ e. IsTable e.1) l.name-iterator;
  tables : AreTables l.all.entries;
  copied : Copied name_cmp table_of l.name-iterator l.all.entries l.tables.entries;
}
