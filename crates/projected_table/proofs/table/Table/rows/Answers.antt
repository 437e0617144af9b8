use Rattle.std.proofs.Common.{[], sym, ap, ◌∙◌, Option}
use Rattle.std.specs.Option.{option_map_or}
use Rattle.std.specs.FinMap.{entries}
use Rattle.khepri_types.specs.Keys.{key_cmp}
use Rattle.projected_table.specs.Buckets.{Bucketed}
use Rattle.projected_table.proofs.Finding.{find_lookup}
use Rattle.projected_table.proofs.Spreads.{rows_at-table}
use Rattle.projected_table.proofs.table.Table.rows.Goals as goal

pub returns-in-Some : goal.returns-in-Some
returns-in-Some c =
    let es = c.args.self.now.rows.entries in
    c.rows.ensures ∙ sym (rows_at-table c.args.key.now es c.requires ∙ ap (λ (o : Option Bucketed). option_map_or (λ (b : Bucketed). entries b.cells) o []) (find_lookup key_cmp c.args.key.now es ∙ sym c.in-Some.ensures.value))

pub returns-in-None : goal.returns-in-None
returns-in-None c =
    let es = c.args.self.now.rows.entries in
    sym (rows_at-table c.args.key.now es c.requires ∙ ap (λ (o : Option Bucketed). option_map_or (λ (b : Bucketed). entries b.cells) o []) (find_lookup key_cmp c.args.key.now es ∙ sym c.in-None.ensures.value))
