use Rattle.std.proofs.Common.{◌∙◌, ℕ, take, arith, ap}
use Rattle.khepri_terms.specs.Order.{path_cmp}
use Rattle.std.specs.Ordering.{is_eq}
use Rattle.keep_while.proofs.Beginnings.{short_apart, begins_is}
use Rattle.keep_while.proofs.gather.begins.Goals as goal

pub returns-then-len : goal.returns-then-len
returns-then-len c = short_apart c.args.path.now c.args.other.now (omega (arith, c.len.ensures, c.len-2.ensures, c.if-len.true))

pub returns : goal.returns
returns c =
    let p = c.args.path.now in
    let q = c.args.other.now in
    c.is_eq.ensures ∙ (ap is_eq (c.compare_front.ensures ∙ ap (λ (n : ℕ). path_cmp (take n q) p) c.len-3.ensures) ∙ begins_is p q)
