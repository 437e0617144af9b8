use Rattle.std.proofs.Common.{◌≡◌}
use Rattle.projected_table.specs.Shelves.{AreTables, tables_of}
use Rattle.projected_table.proofs.apply.tidy_all.Given as goal

-- the tables are as they were
abbrev pub invariant-loop-change : goal.invariant-loop-change
invariant-loop-change l = record {
  tables : AreTables l.tables.entries;
  value : tables_of l.tables.entries ≡ tables_of l.initial.tables.entries;
}
