use Rattle.projected_table.proofs.Shelves.{written, is_table, table_same}
use Rattle.projected_table.proofs.apply.tidy_key.Goals as goal

pub tidy-requires : goal.tidy-requires
tidy-requires c = record { table = is_table c.args.name.now c.in-Some.table.now c.in-Some.table.now c.args.tables.now (c.get_mut.follows.lender c.in-Some.table.now) c.requires.tables c.in-Some.ensures.value (c.get_mut.follows.holds c.in-Some.table.now) }

pub returns-clause-tables : goal.returns-clause-tables
returns-clause-tables c = written c.args.name.now c.in-Some.table.now c.tidy.new.self c.args.tables.now (c.get_mut.follows.lender c.tidy.new.self) c.requires.tables c.in-Some.ensures.value (c.get_mut.follows.holds c.tidy.new.self) c.tidy.ensures.table

pub returns-clause-value : goal.returns-clause-value
returns-clause-value c = table_same c.args.name.now c.in-Some.table.now c.tidy.new.self c.args.tables.now (c.get_mut.follows.lender c.tidy.new.self) c.requires.tables c.in-Some.ensures.value (c.get_mut.follows.holds c.tidy.new.self) c.tidy.ensures.table c.tidy.ensures.value
