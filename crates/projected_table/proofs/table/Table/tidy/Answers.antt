use Rattle.std.proofs.Common.{◌≡◌, [], sym, ap, ◌∙◌, arith}
use Rattle.std.specs.Option.{option_copied_mut}
use Rattle.std.specs.FinMap.{entries}
use Rattle.khepri_types.specs.Tables.{rows_at}
use Rattle.projected_table.specs.Spreads.{rows_of}
use Rattle.projected_table.proofs.Buckets.{no_rows}
use Rattle.projected_table.proofs.Named.{sorted_now, bare_rows, same_there, absent_owed, Map}
use Rattle.projected_table.proofs.table.Table.tidy.Goals as goal

pub returns-then-rows-eq0-clause-table : goal.returns-then-rows-eq0-clause-table
returns-then-rows-eq0-clause-table c = sorted_now c.remove.new.self c.remove.ensures.ordered

pub returns-then-rows-eq0-clause-value : goal.returns-then-rows-eq0-clause-value
returns-then-rows-eq0-clause-value c =
    let bare : rows_at c.args.key.now (entries (rows_of c.args.self.now.rows.entries)) ≡ [] = sym c.rows.ensures ∙ no_rows c.rows.result.now (omega (arith, c.if-rows-eq0.true)) in
    λ i. record { bag = c.args.self.now.bag; rows = bare_rows c.args.key.now c.args.self.now.rows c.remove.new.self c.requires.table bare c.remove.ensures.updates c.remove.ensures.ordered i }

pub returns-in-Some-clause-table : goal.returns-in-Some-clause-table
returns-in-Some-clause-table c = let w = c.forgo.new.self in sorted_now (c.get_mut.follows.lender w) (c.get_mut.follows.holds w).4

pub returns-in-Some-clause-value : goal.returns-in-Some-clause-value
returns-in-Some-clause-value c =
    let w = c.forgo.new.self in
    λ i. record { bag = c.args.self.now.bag; rows = same_there c.args.key.now c.in-Some.bucket.now w c.args.self.now.rows (c.get_mut.follows.lender w) c.requires.table c.in-Some.ensures.value (c.get_mut.follows.holds w) c.forgo.ensures.cells i }

pub returns-in_default-clause-room : goal.returns-in_default-clause-room
returns-in_default-clause-room c = absent_owed c.args.key.now c.args.self.now.rows c.get_mut.follows.lender-at-none (sym (ap option_copied_mut c.in_default.is) ∙ c.get_mut.ensures.value) (ap (λ (m : Map). m.entries) c.get_mut.follows.holds-at-none)
