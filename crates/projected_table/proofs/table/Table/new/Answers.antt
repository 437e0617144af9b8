use Rattle.projected_table.proofs.Spreads.{no_spread}
use Rattle.projected_table.proofs.table.Table.new.Goals as goal

pub returns-clause-value : goal.returns-clause-value
returns-clause-value c = λ i. record { bag = c.args.bag; rows = no_spread c.new.result.entries c.new.ensures.empty i }
