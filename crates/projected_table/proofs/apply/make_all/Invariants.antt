use Rattle.std.proofs.Common.{◌≡◌, drop}
use Rattle.khepri_types.specs.Tables.{changes}
use Rattle.projected_table.specs.Shelves.{AreTables, tables_of}
use Rattle.projected_table.proofs.apply.make_all.Given as goal

-- what is left, made from here on, comes to all of it
abbrev pub invariant-changes : goal.invariant-changes
invariant-changes l = record {
  tables : AreTables l.tables.entries;
  value : changes (drop l.change-index l.changes) (tables_of l.tables.entries) ≡ changes l.changes (tables_of l.initial.tables.entries);
}
