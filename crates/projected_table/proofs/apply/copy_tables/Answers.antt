use Rattle.std.proofs.Common.{◌≡◌, List, ◌∷◌, subst}
use Rattle.std.specs.List.{AllByRecursion}
use Rattle.khepri_terms.specs.Terms.{NameText}
use Rattle.khepri_terms.specs.Order.{name_cmp}
use Rattle.khepri_types.proofs.Order.{name_cmp_total}
use Rattle.projected_table.specs.Spreads.{IsTable, table_of}
use Rattle.projected_table.specs.declared.table.Table.{Table}
use Rattle.projected_table.proofs.Finding.{one_copied, all_copied, sorted_rest}
use Rattle.projected_table.proofs.Shelves.{added, updated_copied, same_tables}
use Rattle.projected_table.proofs.apply.copy_tables.Goals as goal

pub loop-name-preserved-in_ok-insert : goal.loop-name-preserved-in_ok-insert
loop-name-preserved-in_ok-insert c =
    let k = c.in-Some.name.now in
    let v : Table = c.in-Some.table.now in
    let left = c.loop-name.name-iterator in
    let rest = c.next.new.self in
    let before = c.loop-name.invariant in
    let front : left ≡ (k, v) ∷ rest = c.in-Some.ensures.steps in
    let all : AllByRecursion (λ (e : NameText × Table). IsTable e.1) ((k, v) ∷ rest) = subst (λ (es : List (NameText × Table)). AllByRecursion (λ (e : NameText × Table). IsTable e.1) es) front before.each in
    record {
      left = sorted_rest name_cmp (k, v) left rest front before.left;
      each = all.1;
      tables = added k c.in_ok-copy.field-0 c.in_ok-copy-2.field-0 c.loop-name.all c.insert-in-loop-name.new.self before.tables c.in_ok-copy.ensures c.in_ok-insert.ensures.updates c.in_ok-insert.ensures.entries c.in_ok-insert.ensures.ordered c.in_ok-copy-2.ensures.table;
      copied = one_copied name_cmp table_of name_cmp_total k v c.in_ok-copy-2.field-0 left rest c.loop-name.all.entries c.insert-in-loop-name.new.self.entries c.args.tables.now.entries front before.left c.in_ok-copy-2.ensures.value (updated_copied k c.in_ok-copy.field-0 c.in_ok-copy-2.field-0 c.loop-name.all c.insert-in-loop-name.new.self c.in_ok-copy.ensures c.in_ok-insert.ensures.updates) before.copied;
    }

pub loop-name-preserved : goal.loop-name-preserved
loop-name-preserved c =
    let k = c.in-Some.name.now in
    let v : Table = c.in-Some.table.now in
    let left = c.loop-name.name-iterator in
    let rest = c.next.new.self in
    let before = c.loop-name.invariant in
    let front : left ≡ (k, v) ∷ rest = c.in-Some.ensures.steps in
    let all : AllByRecursion (λ (e : NameText × Table). IsTable e.1) ((k, v) ∷ rest) = subst (λ (es : List (NameText × Table)). AllByRecursion (λ (e : NameText × Table). IsTable e.1) es) front before.each in
    record {
      left = sorted_rest name_cmp (k, v) left rest front before.left;
      each = all.1;
      tables = added k c.in_ok-copy.field-0 c.in_ok-copy-2.field-0 c.loop-name.all c.insert-in-loop-name.new.self before.tables c.in_ok-copy.ensures c.in_ok-insert.ensures.updates c.in_ok-insert.ensures.entries c.in_ok-insert.ensures.ordered c.in_ok-copy-2.ensures.table;
      copied = one_copied name_cmp table_of name_cmp_total k v c.in_ok-copy-2.field-0 left rest c.loop-name.all.entries c.insert-in-loop-name.new.self.entries c.args.tables.now.entries front before.left c.in_ok-copy-2.ensures.value (updated_copied k c.in_ok-copy.field-0 c.in_ok-copy-2.field-0 c.loop-name.all c.insert-in-loop-name.new.self c.in_ok-copy.ensures c.in_ok-insert.ensures.updates) before.copied;
    }

pub returns-clause-value : goal.returns-clause-value
returns-clause-value c =
    let before = c.loop-name.invariant in
    let es = c.args.tables.now.entries in
    let fs = c.loop-name.all.entries in
    same_tables es fs c.requires.sorted before.tables.sorted (all_copied name_cmp table_of c.loop-name.name-iterator fs es c.in-None.ensures.steps.0 before.copied)
