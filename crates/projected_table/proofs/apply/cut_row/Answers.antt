use Rattle.std.proofs.Common.{◌∙◌, sym, ap}
use Rattle.std.specs.Option.{option_copied_mut}
use Rattle.std.specs.FinMap.{remove as without_key}
use Rattle.khepri_types.specs.Tables.{Rows}
use Rattle.projected_table.proofs.Shelves.{written, is_table, names_stay, table_rows, owed_same, absent_rows}
use Rattle.projected_table.proofs.apply.cut_row.Goals as goal

pub returns-in_default-clause-value : goal.returns-in_default-clause-value
returns-in_default-clause-value c = absent_rows c.args.name.now c.args.tables.now c.get_mut.follows.lender-at-none c.requires.tables (sym (ap option_copied_mut c.in_default.is) ∙ c.get_mut.ensures.value) c.get_mut.follows.holds-at-none (λ (rows : Rows). without_key rows (c.args.key.now, c.args.path.now))

pub cut-requires : goal.cut-requires
cut-requires c = record { table = is_table c.args.name.now c.in-Some.table.now c.in-Some.table.now c.args.tables.now (c.get_mut.follows.lender c.in-Some.table.now) c.requires.tables c.in-Some.ensures.value (c.get_mut.follows.holds c.in-Some.table.now) }

pub returns-clause-tables : goal.returns-clause-tables
returns-clause-tables c = written c.args.name.now c.in-Some.table.now c.cut.new.self c.args.tables.now (c.get_mut.follows.lender c.cut.new.self) c.requires.tables c.in-Some.ensures.value (c.get_mut.follows.holds c.cut.new.self) c.cut.ensures.table

pub returns-clause-value : goal.returns-clause-value
returns-clause-value c = table_rows c.args.name.now c.in-Some.table.now c.cut.new.self c.args.tables.now (c.get_mut.follows.lender c.cut.new.self) c.requires.tables c.in-Some.ensures.value (c.get_mut.follows.holds c.cut.new.self) (λ (rows : Rows). without_key rows (c.args.key.now, c.args.path.now)) c.cut.ensures.table c.cut.ensures.value

pub returns-clause-names : goal.returns-clause-names
returns-clause-names c = names_stay c.args.name.now c.in-Some.table.now c.cut.new.self c.args.tables.now (c.get_mut.follows.lender c.cut.new.self) c.requires.tables c.in-Some.ensures.value (c.get_mut.follows.holds c.cut.new.self)

pub returns-clause-owed : goal.returns-clause-owed
returns-clause-owed c = owed_same c.args.name.now c.in-Some.table.now c.cut.new.self c.args.tables.now (c.get_mut.follows.lender c.cut.new.self) c.requires.tables c.in-Some.ensures.value (c.get_mut.follows.holds c.cut.new.self) c.cut.ensures.owed
