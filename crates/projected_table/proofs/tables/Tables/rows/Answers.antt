use Rattle.std.proofs.Common.{Some, None, sym, ap, ◌∙◌}
use Rattle.std.specs.Option.{option_map}
use Rattle.std.specs.FinMap.{entries}
use Rattle.khepri_types.specs.Tables.{TableRows, TablesAt, look_up, rows_at, shown_of}
use Rattle.projected_table.proofs.Shelves.{looked, looked_table}
use Rattle.projected_table.proofs.tables.Tables.rows.Goals as goal

pub shown-requires : goal.shown-requires
shown-requires c = looked_table c.self.inside.tables.entries c.self.invariant c.args.name.now c.in-Some.table.now c.in-Some.ensures.value

pub returns-in-None : goal.returns-in-None
returns-in-None c =
    let found = looked c.self.inside.tables.entries c.self.invariant c.args.name.now None c.in-None.ensures.value in
    sym (ap (λ (t : TablesAt). look_up t.tables c.args.name.now c.args.key.now) (sym c.self.view_is) ∙ ap (option_map (λ (t : TableRows). shown_of t.bag (rows_at c.args.key.now (entries t.rows)))) found)

pub returns-in-Some : goal.returns-in-Some
returns-in-Some c =
    let found = looked c.self.inside.tables.entries c.self.invariant c.args.name.now (Some c.in-Some.table.now) c.in-Some.ensures.value in
    ap Some c.shown.ensures ∙ sym (ap (λ (t : TablesAt). look_up t.tables c.args.name.now c.args.key.now) (sym c.self.view_is) ∙ ap (option_map (λ (t : TableRows). shown_of t.bag (rows_at c.args.key.now (entries t.rows)))) found)
