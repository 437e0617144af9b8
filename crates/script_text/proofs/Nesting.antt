-- How deep expressions and blocks stand in one another.
use Rattle.std.proofs.Common.{◌≡◌, ℕ, zero, suc, ◌-◌, ◌<◌, List, refl, ap, arith, None}
use Rattle.khepri_types.specs.Items.{items_at}
use Rattle.khepri_types.specs.ReadingScripts.{layer_expr_at, nested_expr_at, block_at, statement_at}
use Rattle.script_text.specs.Forms.{statement_in, worded_at}

pub nested_none : (n left : ℕ) (text : List ℕ) → n ≡ 0 → nested_expr_at n left text ≡ None
unfolding nested_expr_at
nested_none zero left text e = refl
nested_none (suc n) left text e = absurd (omega arith)

pub left_none : (n left : ℕ) (text : List ℕ) → left ≡ 0 → nested_expr_at n left text ≡ None
unfolding nested_expr_at
left_none zero left text e = refl
left_none (suc n) zero text e = refl
left_none (suc n) (suc left) text e = absurd (omega arith)

pub nested_step : (n left : ℕ) (text : List ℕ) → 0 < n → 0 < left → nested_expr_at n left text ≡ layer_expr_at (nested_expr_at (n - 1)) (left - 1) text
unfolding nested_expr_at
nested_step zero left text p q = absurd (omega arith)
nested_step (suc n) zero text p q = absurd (omega arith)
nested_step (suc n) (suc left) text p q =
    let a : n ≡ suc n - 1 = omega arith in
    let b : left ≡ suc left - 1 = omega arith in
    (λ i. layer_expr_at (nested_expr_at (a i)) (b i) text)

pub block_none : (n close left : ℕ) (text : List ℕ) → n ≡ 0 → block_at n close left text ≡ None
unfolding block_at
block_none zero close left text e = refl
block_none (suc n) close left text e = absurd (omega arith)

pub block_step : (n close left : ℕ) (text : List ℕ) → 0 < n → block_at n close left text ≡ items_at close (statement_in (n - 1)) left text
unfolding block_at
block_step zero close left text p = absurd (omega arith)
block_step (suc n) close left text p =
    let a : n ≡ suc n - 1 = omega arith in
    ap (λ (k : ℕ). items_at close (statement_in k) left text) a

pub statement_none : (n left : ℕ) (text : List ℕ) → left ≡ 0 → statement_in n left text ≡ None
unfolding statement_at
statement_none n zero text e = refl
statement_none n (suc left) text e = absurd (omega arith)

pub statement_step : (n left : ℕ) (text : List ℕ) → 0 < left → statement_in n left text ≡ worded_at n (left - 1) text
unfolding statement_at
statement_step n zero text p = absurd (omega arith)
statement_step n (suc left) text p =
    let a : left ≡ suc left - 1 = omega arith in
    ap (λ (k : ℕ). worded_at n k text) a
