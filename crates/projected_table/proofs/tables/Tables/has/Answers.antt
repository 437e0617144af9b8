use Rattle.std.proofs.Common.{ap, ◌∙◌}
use Rattle.std.specs.Prelude.{is_some}
use Rattle.std.specs.FinMap.{get}
use Rattle.khepri_types.specs.Tables.{TablesAt}
use Rattle.projected_table.proofs.Shelves.{stands_is}
use Rattle.projected_table.proofs.tables.Tables.has.Goals as goal

pub returns : goal.returns
returns c = c.contains_key.ensures ∙ (stands_is c.self.inside.tables.entries c.self.invariant c.args.name.now ∙ ap (λ (t : TablesAt). is_some (get t.tables c.args.name.now)) c.self.view_is)
