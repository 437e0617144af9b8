use Rattle.std.proofs.Common.{ℕ, ◌+◌, ◌∙◌, sym, ap, arith}
use Rattle.std.specs.Option.{option_copied_mut}
use Rattle.std.specs.FinMap.{insert as with_key}
use Rattle.khepri_types.specs.Tables.{Rows}
use Rattle.projected_table.specs.Shelves.{tally}
use Rattle.projected_table.proofs.Shelves.{written, is_table, names_stay, table_rows, owed_less, room_of, absent_rows, absent_owed, absent_tally}
use Rattle.projected_table.proofs.apply.put_row.Goals as goal

pub returns-in_default-clause-value : goal.returns-in_default-clause-value
returns-in_default-clause-value c = absent_rows c.args.name.now c.args.tables.now c.get_mut.follows.lender-at-none c.requires.tables (sym (ap option_copied_mut c.in_default.is) ∙ c.get_mut.ensures.value) c.get_mut.follows.holds-at-none (λ (rows : Rows). with_key rows (c.args.row.key, c.args.row.path) c.args.row.value)

pub returns-in_default-clause-owed : goal.returns-in_default-clause-owed
returns-in_default-clause-owed c = λ n k h. ap (λ (z : ℕ). z + tally c.args.name.now c.args.row.key n k) (absent_owed c.args.name.now c.args.tables.now c.get_mut.follows.lender-at-none c.requires.tables (sym (ap option_copied_mut c.in_default.is) ∙ c.get_mut.ensures.value) c.get_mut.follows.holds-at-none n k) ∙ omega (arith, absent_tally c.args.name.now c.args.tables.now c.get_mut.follows.lender-at-none c.requires.tables (sym (ap option_copied_mut c.in_default.is) ∙ c.get_mut.ensures.value) c.get_mut.follows.holds-at-none c.args.row.key n k h)

pub put-requires-clause-table : goal.put-requires-clause-table
put-requires-clause-table c = is_table c.args.name.now c.in-Some.table.now c.in-Some.table.now c.args.tables.now (c.get_mut.follows.lender c.in-Some.table.now) c.requires.tables c.in-Some.ensures.value (c.get_mut.follows.holds c.in-Some.table.now)

pub put-requires-clause-room : goal.put-requires-clause-room
put-requires-clause-room c = room_of c.args.name.now c.in-Some.table.now c.in-Some.table.now c.args.tables.now (c.get_mut.follows.lender c.in-Some.table.now) c.requires.tables c.in-Some.ensures.value (c.get_mut.follows.holds c.in-Some.table.now) c.args.row.key c.requires.room

pub returns-clause-tables : goal.returns-clause-tables
returns-clause-tables c = written c.args.name.now c.in-Some.table.now c.put.new.self c.args.tables.now (c.get_mut.follows.lender c.put.new.self) c.requires.tables c.in-Some.ensures.value (c.get_mut.follows.holds c.put.new.self) c.put.ensures.table

pub returns-clause-value : goal.returns-clause-value
returns-clause-value c = table_rows c.args.name.now c.in-Some.table.now c.put.new.self c.args.tables.now (c.get_mut.follows.lender c.put.new.self) c.requires.tables c.in-Some.ensures.value (c.get_mut.follows.holds c.put.new.self) (λ (rows : Rows). with_key rows (c.args.row.key, c.args.row.path) c.args.row.value) c.put.ensures.table c.put.ensures.value

pub returns-clause-names : goal.returns-clause-names
returns-clause-names c = names_stay c.args.name.now c.in-Some.table.now c.put.new.self c.args.tables.now (c.get_mut.follows.lender c.put.new.self) c.requires.tables c.in-Some.ensures.value (c.get_mut.follows.holds c.put.new.self)

pub returns-clause-owed : goal.returns-clause-owed
returns-clause-owed c = λ n k s. owed_less c.args.name.now c.in-Some.table.now c.put.new.self c.args.tables.now (c.get_mut.follows.lender c.put.new.self) c.requires.tables c.in-Some.ensures.value (c.get_mut.follows.holds c.put.new.self) c.args.row.key c.put.ensures.owed n k
