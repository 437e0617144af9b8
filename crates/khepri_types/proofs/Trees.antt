-- What setting a payload does to each node of a tree.
use Rattle.std.proofs.Common.{◌≡◌, inl, inr, ℕ, zero, suc, ◌+◌, ◌<◌, ◌≤◌, Bool, true, false, cond, List, length, take, refl, sym, ap, subst, ◌∙◌, arith, Option, Some}
use Rattle.std.specs.Prelude.{is_some}
use Rattle.std.specs.Ordering.{is_eq, eq_by_cmp}
use Rattle.std.specs.Cmp.{tied_itself}
use Rattle.std.specs.declared.cmp.Ordering.{Ordering}
use Rattle.std.specs.declared.cmp.Ordering.TheVariants.{Less, Equal, Greater}
use Rattle.std.specs.FinMap.{get, insert, get-insert}
use Rattle.std.proofs.lemmas.List.{take_all, length-take}
use Rattle.std.proofs.Math.Nat.{eq-or-lt_of_le}
use Rattle.khepri_terms.specs.Terms.{NameText}
use Rattle.khepri_terms.specs.Order.{path_cmp}
use Rattle.khepri_types.specs.declared.node.Node.{Node}
use Rattle.khepri_types.specs.declared.node.Payload.{Payload}
use Rattle.khepri_types.specs.Tree.{Tree, stands, end_node, way_node, passed, arrived, set_from, set}
use Rattle.khepri_types.proofs.Order.{path_cmp_total, path_cmp-same}

-- ---- one insertion

-- only equal keys tie
pub tie_is : (o : Ordering) → is_eq o ≡ true → o ≡ Equal
tie_is Less e = absurd cc
tie_is Equal e = refl
tie_is Greater e = absurd cc

no_tie : (q k : List NameText) → (q ≡ k → ⊥) → eq_by_cmp path_cmp q k ≡ false
no_tie q k ne = elim (eq_by_cmp path_cmp q k) as (λ b. eq_by_cmp path_cmp q k ≡ b → b ≡ false) [
  | true ↦ λ e. absurd (ne (path_cmp-same q k (tie_is _ e)))
  | false ↦ λ e. refl
] refl

-- the path where a node is inserted has that node
pub get-inserted : (T : Tree) (k : List NameText) (v : Node) → get (insert T k v) k ≡ Some v
get-inserted T k v = get-insert path_cmp_total T k v k ∙ ap (λ (o : Ordering). cond (is_eq o) (Some v) (get T k)) (tied_itself path_cmp_total k)

-- and another path has what it had
pub get-other : (T : Tree) (k : List NameText) (v : Node) (q : List NameText) → (q ≡ k → ⊥) → get (insert T k v) q ≡ get T q
get-other T k v q ne = get-insert path_cmp_total T k v q ∙ ap (λ (b : Bool). cond b (Some v) (get T q)) (no_tie q k ne)

-- ---- the way to a path

-- two fronts of one path are equal only where they are equally long
pub front-length : (p : List NameText) (i j : ℕ) → i ≤ length p → j ≤ length p → take i p ≡ take j p → i ≡ j
front-length p i j li lj e = omega (arith, length-take i p, length-take j p, ap length e)

apart : (p : List NameText) (i j : ℕ) → i ≤ length p → j ≤ length p → (i ≡ j → ⊥) → take i p ≡ take j p → ⊥
apart p i j li lj ne e = ne (front-length p i j li lj e)

whole : (p : List NameText) (i : ℕ) → i ≡ length p → take i p ≡ p
whole p i e = take_all i p (omega arith)

not_whole : (p : List NameText) (i : ℕ) → i < length p → p ≡ take i p → ⊥
not_whole p i lt e = absurd (omega (arith, length-take i p, ap length e))

pub set_from-end : (i : ℕ) (T : Tree) (p : List NameText) (x : Payload) → set_from zero i T p x ≡ arrived T p x
unfolding set_from
set_from-end i T p x = refl

pub set_from-more : (n i : ℕ) (T : Tree) (p : List NameText) (x : Payload) → set_from (suc n) i T p x ≡ set_from n (i + 1) (passed T p i) p x
unfolding set_from
set_from-more n i T p x = refl

-- one node of the way leaves the fronts that are longer
get-passed : (T : Tree) (p : List NameText) (i j : ℕ) → i < j → j ≤ length p → get (passed T p i) (take j p) ≡ get T (take j p)
get-passed T p i j lt le = get-other T (take i p) (way_node (get T (take i p)) (stands T (take (i + 1) p))) (take j p) (apart p j i le (omega arith) (λ e. omega arith))

from-elsewhere : (n i : ℕ) (T : Tree) (p : List NameText) (x : Payload) (q : List NameText) → n + i ≡ length p
    → ((j : ℕ) → i ≤ j → j ≤ length p → q ≡ take j p → ⊥) → get (set_from n i T p x) q ≡ get T q
from-elsewhere zero i T p x q e away =
    ap (λ (U : Tree). get U q) (set_from-end i T p x)
    ∙ get-other T p (end_node (get T p) x) q (λ is. away (length p) (omega arith) (omega arith) (is ∙ sym (whole p (length p) refl)))
from-elsewhere (suc n) i T p x q e away =
    ap (λ (U : Tree). get U q) (set_from-more n i T p x)
    ∙ (from-elsewhere n (i + 1) (passed T p i) p x q (omega arith) (λ j le top is. away j (omega arith) top is)
    ∙ get-other T (take i p) (way_node (get T (take i p)) (stands T (take (i + 1) p))) q (λ is. away i (omega arith) (omega arith) is))

from-at : (n i : ℕ) (T : Tree) (p : List NameText) (x : Payload) → n + i ≡ length p → get (set_from n i T p x) p ≡ Some (end_node (get T p) x)
from-at zero i T p x e = ap (λ (U : Tree). get U p) (set_from-end i T p x) ∙ get-inserted T p (end_node (get T p) x)
from-at (suc n) i T p x e =
    ap (λ (U : Tree). get U p) (set_from-more n i T p x)
    ∙ (from-at n (i + 1) (passed T p i) p x (omega arith)
    ∙ ap (λ (o : Option Node). Some (end_node o x)) (get-other T (take i p) (way_node (get T (take i p)) (stands T (take (i + 1) p))) p (not_whole p i (omega arith))))

from-on_the_way : (n i : ℕ) (T : Tree) (p : List NameText) (x : Payload) (j : ℕ) → n + i ≡ length p → i ≤ j → j < length p
    → get (set_from n i T p x) (take j p) ≡ Some (way_node (get T (take j p)) (stands T (take (j + 1) p)))
from-on_the_way zero i T p x j e le lt = absurd (omega arith)
from-on_the_way (suc n) i T p x j e le lt =
    ap (λ (U : Tree). get U (take j p)) (set_from-more n i T p x)
    ∙ elim (eq-or-lt_of_le le) as (λ _. get (set_from n (i + 1) (passed T p i) p x) (take j p) ≡ Some (way_node (get T (take j p)) (stands T (take (j + 1) p)))) [
      | inl same ↦
          subst (λ (k : ℕ). get (set_from n (i + 1) (passed T p i) p x) (take k p) ≡ Some (way_node (get T (take k p)) (stands T (take (k + 1) p)))) same
          (from-elsewhere n (i + 1) (passed T p i) p x (take i p) (omega arith) (λ k lek top is. apart p i k (omega arith) top (λ eq. omega arith) is)
          ∙ get-inserted T (take i p) (way_node (get T (take i p)) (stands T (take (i + 1) p))))
      | inr more ↦
          from-on_the_way n (i + 1) (passed T p i) p x j (omega arith) (omega arith) lt
          ∙ (ap (λ (o : Option Node). Some (way_node o (stands (passed T p i) (take (j + 1) p)))) (get-passed T p i j more (omega arith))
          ∙ ap (λ (o : Option Node). Some (way_node (get T (take j p)) (is_some o))) (get-passed T p i (j + 1) (omega arith) (omega arith)))
    ]

-- ---- a payload is set

-- at the path itself
pub set-at_path : (T : Tree) (p : List NameText) (x : Payload) → get (set T p x) p ≡ Some (end_node (get T p) x)
set-at_path T p x = from-at (length p) 0 T p x (omega arith)

-- at its front of i names
pub set-on_the_way : (T : Tree) (p : List NameText) (x : Payload) (i : ℕ) → i < length p
    → get (set T p x) (take i p) ≡ Some (way_node (get T (take i p)) (stands T (take (i + 1) p)))
set-on_the_way T p x i lt = from-on_the_way (length p) 0 T p x i (omega arith) (omega arith) lt

-- at a path that is no front of it
pub set-elsewhere : (T : Tree) (p : List NameText) (x : Payload) (q : List NameText) → ((i : ℕ) → i ≤ length p → q ≡ take i p → ⊥) → get (set T p x) q ≡ get T q
set-elsewhere T p x q away = from-elsewhere (length p) 0 T p x q (omega arith) (λ j le top is. away j top is)
