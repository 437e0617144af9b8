use Rattle.std.proofs.Common.{◌≡◌, ◌∷◌}
use Rattle.khepri_types.specs.Keys.{key_cmp, key_total}
use Rattle.projected_table.specs.Buckets.{Bucketed}
use Rattle.projected_table.proofs.Finding.{one_copied, all_copied, sorted_rest}
use Rattle.projected_table.proofs.Named.{sorted_now, sets_copied}
use Rattle.projected_table.proofs.Spreads.{same_cells}
use Rattle.projected_table.proofs.table.Table.copy.Goals as goal

pub loop-key-preserved-in_ok-insert : goal.loop-key-preserved-in_ok-insert
loop-key-preserved-in_ok-insert c =
    let k = c.in-Some.key.now in
    let v : Bucketed = c.in-Some.bucket.now in
    let left = c.loop-key.key-iterator in
    let rest = c.next.new.self in
    let before = c.loop-key.invariant in
    let front : left ≡ (k, v) ∷ rest = c.in-Some.ensures.steps in
    record {
      left = sorted_rest key_cmp (k, v) left rest front before.left;
      sorted = sorted_now c.insert.new.self c.in_ok-insert.ensures.ordered;
      copied = one_copied key_cmp (λ (b : Bucketed). b.cells) key_total k v c.in_ok-copy-2.field-0 left rest c.loop-key.rows.entries c.insert.new.self.entries c.args.self.now.rows.entries front before.left c.in_ok-copy-2.ensures (sets_copied k c.in_ok-copy.field-0 c.in_ok-copy-2.field-0 c.loop-key.rows c.insert.new.self c.in_ok-copy.ensures c.in_ok-insert.ensures.updates) before.copied;
    }

pub loop-key-preserved : goal.loop-key-preserved
loop-key-preserved c =
    let k = c.in-Some.key.now in
    let v : Bucketed = c.in-Some.bucket.now in
    let left = c.loop-key.key-iterator in
    let rest = c.next.new.self in
    let before = c.loop-key.invariant in
    let front : left ≡ (k, v) ∷ rest = c.in-Some.ensures.steps in
    record {
      left = sorted_rest key_cmp (k, v) left rest front before.left;
      sorted = sorted_now c.insert.new.self c.in_ok-insert.ensures.ordered;
      copied = one_copied key_cmp (λ (b : Bucketed). b.cells) key_total k v c.in_ok-copy-2.field-0 left rest c.loop-key.rows.entries c.insert.new.self.entries c.args.self.now.rows.entries front before.left c.in_ok-copy-2.ensures (sets_copied k c.in_ok-copy.field-0 c.in_ok-copy-2.field-0 c.loop-key.rows c.insert.new.self c.in_ok-copy.ensures c.in_ok-insert.ensures.updates) before.copied;
    }

pub returns-clause-value : goal.returns-clause-value
returns-clause-value c =
    let before = c.loop-key.invariant in
    let es = c.args.self.now.rows.entries in
    let fs = c.loop-key.rows.entries in
    λ i. record { bag = c.args.self.now.bag; rows = same_cells es fs c.requires before.sorted (all_copied key_cmp (λ (b : Bucketed). b.cells) c.loop-key.key-iterator fs es c.in-None.ensures.steps.0 before.copied) i }
