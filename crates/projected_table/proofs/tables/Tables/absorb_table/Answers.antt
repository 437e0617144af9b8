use Rattle.std.proofs.Common.{◌≡◌, ap, ◌∙◌}
use Rattle.std.specs.Prelude.{is_some}
use Rattle.std.specs.FinMap.{get, remove, empty}
use Rattle.khepri_types.specs.Tables.{AllTables, TableRows, TablesAt}
use Rattle.projected_table.specs.Shelves.{tables_of}
use Rattle.projected_table.proofs.Shelves.{made_and_gone}
use Rattle.projected_table.proofs.tables.Tables.absorb_table.Goals as goal

pub returns-then-is_err-clause-err : goal.returns-then-is_err-clause-err
returns-then-is_err-clause-err c =
    let x = c.args.name.now in
    let ts = tables_of c.self.inside.tables.entries in
    let v : TableRows = record { bag = c.args.bag; rows = empty } in
    let gone : tables_of c.drop_table.new.tables.entries ≡ ts = c.drop_table.ensures.value ∙ (ap (λ (t : AllTables). remove t x) (c.claim_all.ensures.value ∙ c.in_ok-add_table.ensures.value) ∙ made_and_gone ts x v (ap (λ (t : TablesAt). is_some (get t.tables x)) c.self.view_is ∙ c.requires.absent)) in
    (λ i. record { position = c.self.inside.position; tables = gone i }) ∙ c.self.view_is
