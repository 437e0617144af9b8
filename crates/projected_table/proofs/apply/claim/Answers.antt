use Rattle.std.proofs.Common.{◌≡◌, ◌+◌, ◌∙◌, sym, ap, refl, arith}
use Rattle.khepri_types.specs.declared.row.RowChange.{RowChange}
use Rattle.projected_table.specs.Shelves.{put_by, owed_at}
use Rattle.projected_table.proofs.Finding.{ok-weaker}
use Rattle.projected_table.proofs.Shelves.{room_more}
use Rattle.projected_table.proofs.apply.claim.Goals as goal

pub returns-in-PutRow-clause-room : goal.returns-in-PutRow-clause-room
returns-in-PutRow-clause-room c =
    let es = c.args.tables.now.entries in
    ok-weaker c.claim_row.result _ _ (λ h. room_more c.args.change.now es c.claim_row.new.tables.entries c.claim_row.ensures.names (λ n k s. h n k s ∙ ap (λ (d : RowChange). owed_at es n k + put_by d n k) (sym c.in-PutRow.is))) c.claim_row.ensures.owed

pub returns-in-AddTable-clause-room : goal.returns-in-AddTable-clause-room
returns-in-AddTable-clause-room c = room_more c.args.change.now c.args.tables.now.entries c.args.tables.now.entries (λ n. refl) (λ n k h. let e : put_by c.args.change.now n k ≡ 0 = ap (λ (d : RowChange). put_by d n k) c.in-AddTable.is in omega (arith, e))

pub returns-in-DropTable-clause-room : goal.returns-in-DropTable-clause-room
returns-in-DropTable-clause-room c = room_more c.args.change.now c.args.tables.now.entries c.args.tables.now.entries (λ n. refl) (λ n k h. let e : put_by c.args.change.now n k ≡ 0 = ap (λ (d : RowChange). put_by d n k) c.in-DropTable.is in omega (arith, e))

pub returns-in-DropRow-clause-room : goal.returns-in-DropRow-clause-room
returns-in-DropRow-clause-room c = room_more c.args.change.now c.args.tables.now.entries c.args.tables.now.entries (λ n. refl) (λ n k h. let e : put_by c.args.change.now n k ≡ 0 = ap (λ (d : RowChange). put_by d n k) c.in-DropRow.is in omega (arith, e))
