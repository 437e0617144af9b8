-- Functions with one value changed.
use Rattle.std.proofs.Common.{◌≡◌, ◌≢◌, ℕ, Bool, true, false, cond, ◌==◌, refl, ap, ◌∙◌, ◌⊎◌, inl, inr, ⊎_elim}
use Rattle.std.proofs.lemmas.Bool.{eq-eqb, ne_eqb, cases_eq}
use Rattle.raft_spine.specs.Spine.{at, at2}

pub at_same : {A : Type 0} (f : ℕ → A) (k : ℕ) (v : A) → at f k v k ≡ v
at_same f k v = ap (λ (c : Bool). cond c v (f k)) (eq-eqb k k refl)

pub at_other : {A : Type 0} (f : ℕ → A) (k : ℕ) (v : A) (j : ℕ) → j ≢ k → at f k v j ≡ f j
at_other f k v j h = ap (λ (c : Bool). cond c v (f j)) (ne_eqb j k h)

pub at2_same : {A : Type 0} (f : ℕ → ℕ → A) (k t : ℕ) (v : A) → at2 f k t v k t ≡ v
at2_same f k t v = ap (λ (c : Bool). cond c (at (f k) t v) (f k) t) (eq-eqb k k refl) ∙ at_same (f k) t v

pub at2_row : {A : Type 0} (f : ℕ → ℕ → A) (k t : ℕ) (v : A) (j u : ℕ) → j ≢ k → at2 f k t v j u ≡ f j u
at2_row f k t v j u h = ap (λ (c : Bool). cond c (at (f j) t v) (f j) u) (ne_eqb j k h)

pub at2_col : {A : Type 0} (f : ℕ → ℕ → A) (k t : ℕ) (v : A) (j u : ℕ) → u ≢ t → at2 f k t v j u ≡ f j u
at2_col f k t v j u h = elim (j == k) as (λ c. cond c (at (f j) t v) (f j) u ≡ f j u) [ true ↦ at_other (f j) t v u h | false ↦ refl ]

-- a place, or another one
pub place : (j u k t : ℕ) → ((j ≡ k) × (u ≡ t)) ⊎ ((j ≢ k) ⊎ (u ≢ t))
place j u k t = ⊎_elim
    (λ (e : j ≡ k). ⊎_elim (λ (d : u ≡ t). inl (e, d)) (λ (d : u ≢ t). inr (inr d)) (cases_eq u t))
    (λ (e : j ≢ k). inr (inl e))
    (cases_eq j k)

pub at2_other : {A : Type 0} (f : ℕ → ℕ → A) (k t : ℕ) (v : A) (j u : ℕ) → (j ≢ k) ⊎ (u ≢ t) → at2 f k t v j u ≡ f j u
at2_other f k t v j u h = ⊎_elim (λ (x : j ≢ k). at2_row f k t v j u x) (λ (x : u ≢ t). at2_col f k t v j u x) h

pub at2_here : {A : Type 0} (f : ℕ → ℕ → A) (k t : ℕ) (v : A) (j u : ℕ) → (j ≡ k) × (u ≡ t) → at2 f k t v j u ≡ v
at2_here f k t v j u h = ap (λ (x : ℕ). at2 f k t v x u) h.0 ∙ (ap (λ (x : ℕ). at2 f k t v k x) h.1 ∙ at2_same f k t v)
