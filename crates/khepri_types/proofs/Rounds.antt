-- Settling, round by round.
use Rattle.std.proofs.Common.{◌≡◌, ℕ, zero, suc, ◌+◌, ◌<◌, ◌≤◌, Bool, true, false, cond, not, refl, sym, ap, subst, ◌∙◌, arith}
use Rattle.std.specs.Prelude.{IsTrue, is_some}
use Rattle.std.specs.FinMap.{entries, len, get-entries, len-entries}
use Rattle.khepri_types.specs.Drop.{drop}
use Rattle.khepri_types.specs.Settling.{failing, stable, rounds, settle, gone}
use Rattle.khepri_types.specs.Sizes.{fits}
use Rattle.khepri_types.specs.Tree.{Tree, IsTree}
use Rattle.khepri_types.proofs.Dropping.{stays, len-left, len-drop}
use Rattle.khepri_types.proofs.Failing.{fewer, unstable, root_spared}
use Rattle.khepri_types.proofs.Fitting.{fits-drop}
use Rattle.khepri_types.proofs.Standing.{tree-drop}

-- the tree after one round
abbrev pub next : Tree → Tree
next T = drop T (failing T)

rounds-zero : (T : Tree) → rounds zero T ≡ T
unfolding rounds
rounds-zero T = refl

rounds-more : (n : ℕ) (T : Tree) → rounds (suc n) T ≡ cond (stable T) T (rounds n (next T))
unfolding rounds
rounds-more n T = refl

settle-is : (T : Tree) → settle T ≡ rounds (len T) T
unfolding settle
settle-is T = refl

-- a round takes a node away
pub next-less : (T : Tree) → stable T ≡ false → len (next T) < len T
next-less T e =
    let r = unstable T e in
    let low : stays (failing T) r.0 ≡ false = ap not r.2 in
    omega (arith, len-left T (failing T), len-entries T, fewer (stays (failing T)) r.0 low (entries T) (sym (ap (λ o. is_some o) (get-entries T r.0)) ∙ r.1))

rounds-stable : (n : ℕ) (T : Tree) → stable T ≡ true → rounds n T ≡ T
rounds-stable zero T e = rounds-zero T
rounds-stable (suc n) T e = rounds-more n T ∙ ap (λ (b : Bool). cond b T (rounds n (next T))) e

rounds-unstable : (n : ℕ) (T : Tree) → stable T ≡ false → rounds (suc n) T ≡ rounds n (next T)
rounds-unstable n T e = rounds-more n T ∙ ap (λ (b : Bool). cond b T (rounds n (next T))) e

-- as many rounds as there are nodes are enough
rounds-same : (n m : ℕ) (T : Tree) → len T ≤ n → len T ≤ m → rounds n T ≡ rounds m T
rounds-same zero m T ln lm = elim (stable T) as (λ b. stable T ≡ b → rounds zero T ≡ rounds m T) [
  | true ↦ λ e. rounds-stable zero T e ∙ sym (rounds-stable m T e)
  | false ↦ λ e. absurd (omega (arith, next-less T e))
] refl
rounds-same (suc n) zero T ln lm = elim (stable T) as (λ b. stable T ≡ b → rounds (suc n) T ≡ rounds zero T) [
  | true ↦ λ e. rounds-stable (suc n) T e ∙ sym (rounds-stable zero T e)
  | false ↦ λ e. absurd (omega (arith, next-less T e))
] refl
rounds-same (suc n) (suc m) T ln lm = elim (stable T) as (λ b. stable T ≡ b → rounds (suc n) T ≡ rounds (suc m) T) [
  | true ↦ λ e. rounds-stable (suc n) T e ∙ sym (rounds-stable (suc m) T e)
  | false ↦ λ e.
      let less : len (next T) < len T = next-less T e in
      rounds-unstable n T e ∙ (rounds-same n m (next T) (omega arith) (omega arith) ∙ sym (rounds-unstable m T e))
] refl

rounds-end : (n : ℕ) (T : Tree) → len T ≤ n → IsTrue (stable (rounds n T))
rounds-end zero T le = elim (stable T) as (λ b. stable T ≡ b → IsTrue (stable (rounds zero T))) [
  | true ↦ λ e. ap stable (rounds-zero T) ∙ e
  | false ↦ λ e. absurd (omega (arith, next-less T e))
] refl
rounds-end (suc n) T le = elim (stable T) as (λ b. stable T ≡ b → IsTrue (stable (rounds (suc n) T))) [
  | true ↦ λ e. ap stable (rounds-stable (suc n) T e) ∙ e
  | false ↦ λ e.
      let less : len (next T) < len T = next-less T e in
      ap stable (rounds-unstable n T e) ∙ rounds-end n (next T) (omega arith)
] refl

-- what holds of a tree and stays over a round
pub record IsRoundly (R : Tree → Type 0) : Type 0 where
  pub stays : (T : Tree) → stable T ≡ false → R T → R (next T)

rounds-keep : (R : Tree → Type 0) → IsRoundly R → (n : ℕ) (T : Tree) → R T → R (rounds n T)
rounds-keep R is zero T h = subst R (sym (rounds-zero T)) h
rounds-keep R is (suc n) T h = elim (stable T) as (λ b. stable T ≡ b → R (rounds (suc n) T)) [
  | true ↦ λ e. subst R (sym (rounds-stable (suc n) T e)) h
  | false ↦ λ e. subst R (sym (rounds-unstable n T e)) (rounds-keep R is n (next T) (is.stays T e h))
] refl

-- ---- settling

-- it holds of the settled tree
pub settle-keeps : (R : Tree → Type 0) → IsRoundly R → (T : Tree) → R T → R (settle T)
settle-keeps R is T h = subst R (sym (settle-is T)) (rounds-keep R is (len T) T h)

pub settle-ends : (T : Tree) → IsTrue (stable (settle T))
settle-ends T = ap stable (settle-is T) ∙ rounds-end (len T) T (omega arith)

pub settle-stable : (T : Tree) → IsTrue (stable T) → settle T ≡ T
settle-stable T e = settle-is T ∙ rounds-stable (len T) T e

pub settle-any_number : (T : Tree) (n : ℕ) → len T ≤ n → rounds n T ≡ settle T
settle-any_number T n le = rounds-same n (len T) T le (omega arith) ∙ sym (settle-is T)

pub settle-round : (T : Tree) → settle T ≡ cond (stable T) T (settle (next T))
settle-round T = elim (stable T) as (λ b. stable T ≡ b → settle T ≡ cond b T (settle (next T))) [
  | true ↦ λ e. settle-stable T e
  | false ↦ λ e.
      let less : len (next T) < len T = next-less T e in
      sym (settle-any_number T (suc (len T)) (omega arith)) ∙ (rounds-unstable (len T) T e ∙ settle-any_number (next T) (len T) (omega arith))
] refl

pub settle-tree : (T : Tree) → IsTree T → IsTree (settle T)
settle-tree T tree = settle-keeps IsTree (record { stays = λ U e t. tree-drop U (failing U) (root_spared U) t }) T tree

pub settle-fits : (T : Tree) → IsTrue (fits T) → IsTrue (fits (settle T))
settle-fits T h = settle-keeps (λ U. IsTrue (fits U)) (record { stays = λ U e f. fits-drop U (failing U) f }) T h

pub settle-len : (T : Tree) → len (settle T) ≤ len T
settle-len T = settle-keeps (λ U. len U ≤ len T) (record { stays = λ U e le. omega (arith, len-drop U (failing U), le) }) T (omega arith)

pub settle-counted : (T : Tree) → len (settle T) + gone T ≡ len T
settle-counted T = omega (arith, settle-len T)

-- a tree settles to itself exactly where it is stable
pub stable-settled : (T : Tree) → settle T ≡ T → IsTrue (stable T)
stable-settled T e = subst (λ (U : Tree). IsTrue (stable U)) e (settle-ends T)
