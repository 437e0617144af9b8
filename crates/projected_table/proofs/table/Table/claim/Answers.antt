use Rattle.std.proofs.Common.{ℕ, ◌+◌, cond, ◌∙◌, ap}
use Rattle.std.specs.Ordering.{eq_by_cmp}
use Rattle.khepri_types.specs.Keys.{key_cmp}
use Rattle.projected_table.proofs.Named.{sorted_now, same_there, owed_more}
use Rattle.projected_table.proofs.Finding.{ok-weaker}
use Rattle.projected_table.proofs.table.Table.claim.Goals as goal

pub returns-clause-table : goal.returns-clause-table
returns-clause-table c = let w = c.claim.new.self in sorted_now (c.get_mut.follows.lender w) (c.get_mut.follows.holds w).4

pub returns-clause-value : goal.returns-clause-value
returns-clause-value c =
    let w = c.claim.new.self in
    (λ i. record { bag = c.open.new.self.bag; rows = same_there c.args.key.now c.in-Some.bucket.now w c.open.new.self.rows (c.get_mut.follows.lender w) c.open.ensures.table c.in-Some.ensures.value (c.get_mut.follows.holds w) c.claim.ensures.cells i })
    ∙ c.open.ensures.value

pub returns-clause-ok : goal.returns-clause-ok
returns-clause-ok c =
    let w = c.claim.new.self in
    ok-weaker c.claim.result _ _ (λ h y. owed_more c.args.key.now c.in-Some.bucket.now w c.open.new.self.rows (c.get_mut.follows.lender w) c.open.ensures.table c.in-Some.ensures.value (c.get_mut.follows.holds w) h y ∙ ap (λ (x : ℕ). x + cond (eq_by_cmp key_cmp y c.args.key.now) 1 0) (c.open.ensures.owed y)) c.claim.ensures.ok
