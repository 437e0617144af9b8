use Rattle.std.proofs.Common.{◌∙◌, sym, ap, arith}
use Rattle.std.specs.Option.{option_copied_mut}
use Rattle.projected_table.proofs.Finding.{ok-weaker}
use Rattle.projected_table.proofs.Shelves.{written, is_table, names_stay, table_same, owed_more, absent_owed, absent_tally}
use Rattle.projected_table.proofs.apply.claim_row.Goals as goal

pub returns-in_default-clause-owed : goal.returns-in_default-clause-owed
returns-in_default-clause-owed c = λ n k h. absent_owed c.args.name.now c.args.tables.now c.get_mut.follows.lender-at-none c.requires.tables (sym (ap option_copied_mut c.in_default.is) ∙ c.get_mut.ensures.value) c.get_mut.follows.holds-at-none n k ∙ omega (arith, absent_tally c.args.name.now c.args.tables.now c.get_mut.follows.lender-at-none c.requires.tables (sym (ap option_copied_mut c.in_default.is) ∙ c.get_mut.ensures.value) c.get_mut.follows.holds-at-none c.args.key.now n k h)

pub claim-requires : goal.claim-requires
claim-requires c = record { table = is_table c.args.name.now c.in-Some.table.now c.in-Some.table.now c.args.tables.now (c.get_mut.follows.lender c.in-Some.table.now) c.requires.tables c.in-Some.ensures.value (c.get_mut.follows.holds c.in-Some.table.now) }

pub returns-clause-tables : goal.returns-clause-tables
returns-clause-tables c = written c.args.name.now c.in-Some.table.now c.claim.new.self c.args.tables.now (c.get_mut.follows.lender c.claim.new.self) c.requires.tables c.in-Some.ensures.value (c.get_mut.follows.holds c.claim.new.self) c.claim.ensures.table

pub returns-clause-value : goal.returns-clause-value
returns-clause-value c = table_same c.args.name.now c.in-Some.table.now c.claim.new.self c.args.tables.now (c.get_mut.follows.lender c.claim.new.self) c.requires.tables c.in-Some.ensures.value (c.get_mut.follows.holds c.claim.new.self) c.claim.ensures.table c.claim.ensures.value

pub returns-clause-names : goal.returns-clause-names
returns-clause-names c = names_stay c.args.name.now c.in-Some.table.now c.claim.new.self c.args.tables.now (c.get_mut.follows.lender c.claim.new.self) c.requires.tables c.in-Some.ensures.value (c.get_mut.follows.holds c.claim.new.self)

pub returns-clause-owed : goal.returns-clause-owed
returns-clause-owed c = ok-weaker c.claim.result _ _ (λ h n k s. owed_more c.args.name.now c.in-Some.table.now c.claim.new.self c.args.tables.now (c.get_mut.follows.lender c.claim.new.self) c.requires.tables c.in-Some.ensures.value (c.get_mut.follows.holds c.claim.new.self) c.args.key.now h n k) c.claim.ensures.ok
