-- Dead entries: what no majority can come to share stays so for good.
use Rattle.std.proofs.Common.{◌≡◌, ℕ, suc, ◌<◌, ◌≤◌, Bool, true, false, ◌||◌, leb, List, refl, ap, ◌∙◌, arith, ◌⊎◌, inl, inr, ⊎_elim}
use Rattle.std.proofs.lemmas.Bool.{leb-true, le-leb}
use Rattle.raft_types.specs.declared.entry.LogEntry.{LogEntry}
use Rattle.raft_spine.specs.Logs.{SameFirst}
use Rattle.raft_spine.specs.Start.{Start}
use Rattle.raft_spine.proofs.Sound.{could, Dead, Safe}
use Rattle.raft_spine.proofs.Quorum.{quorum_grows}

could_means : (shared : ℕ → ℕ → ℕ) (term : ℕ → ℕ) (t i j : ℕ) → could shared term t i j ≡ true → (i < shared j t) ⊎ (term j ≤ t)
could_means shared term t i j e =
    elim (leb (suc i) (shared j t)) as (λ c. leb (suc i) (shared j t) ≡ c → (c || leb (term j) t) ≡ true → (i < shared j t) ⊎ (term j ≤ t)) [
      | true ↦ λ f g. inl (leb-true (suc i) (shared j t) f)
      | false ↦ λ f g. inr (leb-true (term j) t g)
    ] refl e

-- a node that shares the entry, or is not past its term, is one that could share it
pub means_could : (shared : ℕ → ℕ → ℕ) (term : ℕ → ℕ) (t i j : ℕ) → (i < shared j t) ⊎ (term j ≤ t) → could shared term t i j ≡ true
means_could shared term t i j h = ⊎_elim
    (λ (x : i < shared j t). ap (λ (c : Bool). c || leb (term j) t) (le-leb (suc i) (shared j t) x))
    (λ (y : term j ≤ t).
    ap (λ (c : Bool). leb (suc i) (shared j t) || c) (le-leb (term j) t y) ∙ (elim (leb (suc i) (shared j t)) as (λ c. (c || true) ≡ true) [ true ↦ refl | false ↦ refl ]))
    h

-- a node past the term that could share the entry does share it
pub could_past : (shared : ℕ → ℕ → ℕ) (term : ℕ → ℕ) (t i j : ℕ) → t < term j → could shared term t i j ≡ true → i < shared j t
could_past shared term t i j h e = ⊎_elim (λ (x : i < shared j t). x) (λ (y : term j ≤ t). absurd (omega arith)) (could_means shared term t i j e)

-- the dead stay dead where terms rise, and only a node that is not past a term comes to share more with its leader
dead_stays : (b : Start) (shared shared' : ℕ → ℕ → ℕ) (term term' : ℕ → ℕ) (t i : ℕ)
    → ((j : ℕ) → term j ≤ term' j) → ((j : ℕ) → (shared' j t ≡ shared j t) ⊎ (term j ≤ t))
    → Dead b shared term t i → Dead b shared' term' t i
dead_stays b shared shared' term term' t i up mine d = record {
  none = λ q. d.none (quorum_grows b.members (could shared' term' t i) (could shared term t i)
      (λ j e. means_could shared term t i j (⊎_elim
      (λ (x : i < shared' j t). ⊎_elim (λ (m : shared' j t ≡ shared j t). inl (omega arith)) (λ (m : term j ≤ t). inr m) (mine j))
      (λ (x : term' j ≤ t). let u = up j in inr (omega arith))
      (could_means shared' term' t i j e)))
      q);
}

-- and so what is safe stays safe
pub safe_stays : (b : Start) (shared shared' : ℕ → ℕ → ℕ) (term term' : ℕ → ℕ) (t i : ℕ) (m l : List LogEntry)
    → ((j : ℕ) → term j ≤ term' j) → ((j : ℕ) → (shared' j t ≡ shared j t) ⊎ (term j ≤ t))
    → Safe b shared term t i m l → Safe b shared' term' t i m l
safe_stays b shared shared' term term' t i m l up mine x = ⊎_elim
    (λ (e : SameFirst (suc i) l m). inl e)
    (λ (d : Dead b shared term t i). inr (dead_stays b shared shared' term term' t i up mine d))
    x
