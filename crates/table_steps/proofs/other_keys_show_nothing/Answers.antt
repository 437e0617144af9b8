use Rattle.table_steps.proofs.Widths.{no_rows}
use Rattle.table_steps.proofs.other_keys_show_nothing.Goals as goal

pub returns : goal.returns
returns c = no_rows
