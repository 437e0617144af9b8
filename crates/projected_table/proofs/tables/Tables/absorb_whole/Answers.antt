use Rattle.std.proofs.Common.{ap, ◌∙◌}
use Rattle.khepri_types.specs.Tables.{changes}
use Rattle.projected_table.proofs.Shelves.{no_tables}
use Rattle.projected_table.proofs.tables.Tables.absorb_whole.Goals as goal

pub returns-clause-ok : goal.returns-clause-ok
returns-clause-ok c = λ i. record { position = c.args.position; tables = (c.in_ok-make_all.ensures.value ∙ ap (changes c.args.changes.now) (no_tables c.new-tables.result.entries c.new-tables.ensures.empty)) i }
