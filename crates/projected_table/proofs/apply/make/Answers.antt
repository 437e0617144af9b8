use Rattle.std.proofs.Common.{sym, ap}
use Rattle.khepri_types.specs.declared.row.Row.{Row}
use Rattle.projected_table.proofs.Shelves.{room_claimed}
use Rattle.projected_table.proofs.apply.make.Goals as goal

pub put_row-requires-clause-room : goal.put_row-requires-clause-room
put_row-requires-clause-room c = room_claimed c.in-PutRow.name c.in-PutRow.row.key c.in_ok-row-in-PutRow.row.key c.args.tables.now.entries c.claim_row.new.tables.entries (sym (ap (λ (r : Row). r.key) c.in_ok-row-in-PutRow.ensures)) c.claim_row.ensures.names c.in_ok-claim_row-in-PutRow.ensures.owed
