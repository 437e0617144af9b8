-- What holds of all paths of a tree, where it holds with a path of its fronts.
use Rattle.std.proofs.Common.{inl, inr, ℕ, ◌≤◌, List, length, take, sym, ap, subst, ◌∙◌}
use Rattle.std.specs.Prelude.{IsTrue, is_some}
use Rattle.khepri_terms.specs.Terms.{NameText}
use Rattle.khepri_types.specs.declared.node.Payload.{Payload}
use Rattle.khepri_types.specs.declared.watch.Watching.{Watching}
use Rattle.khepri_types.specs.Tree.{Tree, stands}
use Rattle.khepri_types.specs.Drop.{drop}
use Rattle.khepri_types.specs.Settling.{settle}
use Rattle.khepri_types.specs.Watching.{watch, set_watched}
use Rattle.khepri_types.proofs.Dropping.{stood-drop}
use Rattle.khepri_types.proofs.Growing.{same_or_apart}
use Rattle.khepri_types.proofs.Remaining.{remains-settle, within-remains}
use Rattle.khepri_types.proofs.Standing.{front_or_away}
use Rattle.khepri_types.proofs.Trees.{set-elsewhere}
use Rattle.khepri_types.proofs.Watched.{stood-watch, set_watched-elsewhere}

-- it holds of each path that stands
abbrev pub Everywhere : (List NameText → Type 0) → Tree → Type 0
Everywhere K T = (q : List NameText) → IsTrue (stands T q) → K q

-- it holds with a path of its fronts
pub record IsClosed (K : List NameText → Type 0) : Type 0 where
  pub fronts : (p : List NameText) (i : ℕ) → i ≤ length p → K p → K (take i p)

pub everywhere-set : (K : List NameText → Type 0) → IsClosed K → (T : Tree) (p : List NameText) (x : Payload) (w : Watching) → K p → Everywhere K T → Everywhere K (set_watched T p x w)
everywhere-set K closed T p x w here all q h = elim (front_or_away p q) as (λ _. K q) [
  | inl f ↦ subst K (sym f.is) (closed.fronts p f.long f.within here)
  | inr away ↦ elim (same_or_apart q p) as (λ _. K q) [
    | inl same ↦ subst K (sym same) here
    | inr apart ↦ all q (sym (ap is_some (set_watched-elsewhere T p x w q apart ∙ set-elsewhere T p x q away)) ∙ h)
  ]
]

pub everywhere-watch : (K : List NameText → Type 0) (T : Tree) (p : List NameText) (w : Watching) → Everywhere K T → Everywhere K (watch T p w)
everywhere-watch K T p w all q h = all q (stood-watch T p w q h)

pub everywhere-drop : (K : List NameText → Type 0) (T : Tree) (paths : List (List NameText)) → Everywhere K T → Everywhere K (drop T paths)
everywhere-drop K T paths all q h = let was = (stood-drop T paths q h).1 in all q (ap is_some was.stood)

pub everywhere-settle : (K : List NameText → Type 0) (T : Tree) → Everywhere K T → Everywhere K (settle T)
everywhere-settle K T all q h = all q (within-remains T (settle T) (remains-settle T) q h)
