-- A tree stays a tree.
use Rattle.std.proofs.Common.{◌≡◌, ◌⊎◌, inl, inr, ℕ, zero, suc, ◌≤◌, Bool, true, false, cond, ◌&&◌, ◌||◌, List, [], ◌∷◌, length, take, refl, sym, ap, subst, ◌∙◌, arith, Some, None}
use Rattle.std.specs.Prelude.{IsTrue, is_some}
use Rattle.std.specs.Ordering.{is_eq, eq_by_cmp}
use Rattle.std.specs.Cmp.{tied_itself}
use Rattle.std.specs.FinMap.{get, get-from_sorted}
use Rattle.std.proofs.lemmas.List.{take_all, take-take, length-take, length-take-le}
use Rattle.std.proofs.Math.Seq.{take-nil}
use Rattle.std.proofs.Math.Nat.{eq-or-lt_of_le}
use Rattle.khepri_terms.specs.Terms.{NameText}
use Rattle.khepri_terms.specs.Order.{name_cmp, path_cmp}
use Rattle.khepri_terms.proofs.Cases.{and_true}
use Rattle.khepri_types.specs.declared.node.Payload.{Payload}
use Rattle.khepri_types.specs.declared.node.Payload.TheVariants.{Empty}
use Rattle.khepri_types.specs.Tree.{Tree, IsTree, stands, fresh, set, opening_tree}
use Rattle.khepri_types.specs.Paths.{is_front, is_under}
use Rattle.khepri_types.specs.Drop.{drop}
use Rattle.khepri_types.proofs.Order.{path_cmp_total, path_cmp-same}
use Rattle.khepri_types.proofs.Dropping.{stands-drop, stood-drop}
use Rattle.khepri_types.proofs.Trees.{tie_is, set-at_path, set-on_the_way, set-elsewhere}

-- q is the front of p that has i names
pub record FrontOf (p q : List NameText) : Type 0 where
  pub long : ℕ
  pub within : long ≤ length p
  pub is : q ≡ take long p

abbrev pub Away : List NameText → List NameText → Type 0
Away p q = (i : ℕ) → i ≤ length p → q ≡ take i p → ⊥

pub tied : (q k : List NameText) → q ≡ k → eq_by_cmp path_cmp q k ≡ true
tied q k e = subst (λ (r : List NameText). eq_by_cmp path_cmp q r ≡ true) e (ap is_eq (tied_itself path_cmp_total q))

own_front : (p q : List NameText) (i : ℕ) → i ≤ length p → q ≡ take i p → q ≡ take (length q) p
own_front p q i le e =
    let same : i ≡ length q = sym (ap length e ∙ length-take-le i p le) in
    e ∙ ap (λ (k : ℕ). take k p) same

own_within : (p q : List NameText) → q ≡ take (length q) p → length q ≤ length p
own_within p q e = omega (arith, length-take (length q) p, ap length e)

-- each path is a front of another, or it isn't
pub front_or_away : (p q : List NameText) → FrontOf p q ⊎ Away p q
front_or_away p q = elim (eq_by_cmp path_cmp q (take (length q) p)) as (λ b. eq_by_cmp path_cmp q (take (length q) p) ≡ b → FrontOf p q ⊎ Away p q) [
  | true ↦ λ e.
      let same = path_cmp-same q (take (length q) p) (tie_is _ e) in
      inl (record { long = length q; within = own_within p q same; is = same })
  | false ↦ λ e. inr (λ i le is. absurd (cc (e, tied q (take (length q) p) (own_front p q i le is))))
] refl

-- the way to a path stands once something is set there
pub stands-front : (T : Tree) (p : List NameText) (x : Payload) (i : ℕ) → i ≤ length p → IsTrue (stands (set T p x) (take i p))
stands-front T p x i le = elim (eq-or-lt_of_le le) as (λ _. IsTrue (stands (set T p x) (take i p))) [
  | inl same ↦ ap is_some (ap (get (set T p x)) (take_all i p (omega arith)) ∙ set-at_path T p x)
  | inr less ↦ ap is_some (set-on_the_way T p x i less)
]

-- and what stood stands
pub stands-kept : (T : Tree) (p : List NameText) (x : Payload) (q : List NameText) → IsTrue (stands T q) → IsTrue (stands (set T p x) q)
stands-kept T p x q h = elim (front_or_away p q) as (λ _. IsTrue (stands (set T p x) q)) [
  | inl f ↦ subst (λ (r : List NameText). IsTrue (stands (set T p x) r)) (sym f.is) (stands-front T p x f.long f.within)
  | inr away ↦ ap is_some (set-elsewhere T p x q away) ∙ h
]

fronts-kept : (T : Tree) (p : List NameText) (x : Payload) → IsTree T → (q : List NameText) (i : ℕ) → i ≤ length q → IsTrue (stands (set T p x) q) → IsTrue (stands (set T p x) (take i q))
fronts-kept T p x tree q i le h = elim (front_or_away p q) as (λ _. IsTrue (stands (set T p x) (take i q))) [
  | inl f ↦
      let long : length q ≡ f.long = ap length f.is ∙ length-take-le f.long p f.within in
      let same : take i q ≡ take i p = ap (take i) f.is ∙ take-take i f.long p (omega arith) in
      subst (λ (r : List NameText). IsTrue (stands (set T p x) r)) (sym same) (stands-front T p x i (omega (arith, f.within)))
  | inr away ↦ stands-kept T p x (take i q) (tree.fronts q i le (sym (ap is_some (set-elsewhere T p x q away)) ∙ h))
]

-- a tree stays one
pub tree-set : (T : Tree) (p : List NameText) (x : Payload) → IsTree T → IsTree (set T p x)
tree-set T p x tree = record { root = stands-kept T p x [] tree.root; fronts = fronts-kept T p x tree }

-- ---- the first tree

pub get-opening : (q : List NameText) → get opening_tree q ≡ cond (eq_by_cmp path_cmp q []) (Some (fresh Empty)) None
get-opening q = get-from_sorted path_cmp (([], fresh Empty) ∷ []) q tt

opening_front : (q : List NameText) (i : ℕ) → i ≤ length q → IsTrue (stands opening_tree q) → IsTrue (stands opening_tree (take i q))
opening_front [] i le h = subst (λ (r : List NameText). IsTrue (stands opening_tree r)) (sym (take-nil i)) h
opening_front (n ∷ q) i le h = absurd (cc (sym h ∙ ap is_some (get-opening (n ∷ q))))

pub tree-opening : IsTree opening_tree
tree-opening = record { root = ap is_some (get-opening []); fronts = opening_front }

-- ---- after a drop

-- what begins with a front of a path is a front of the path
front_on : (p q : List NameText) (i : ℕ) → is_front p (take i q) ≡ true → is_front p q ≡ true
unfolding is_front
front_on [] q i h = refl
front_on (n ∷ p) [] i h = absurd (cc (h, ap (is_front (n ∷ p)) (take-nil {A = NameText} i)))
front_on (n ∷ p) (m ∷ q) zero h = absurd cc
front_on (n ∷ p) (m ∷ q) (suc i) h =
    let parts = and_true (is_eq (name_cmp n m)) (is_front p (take i q)) h in
    λ k. parts.0 k && front_on p q i parts.1 k

neither : (a b c d : Bool) → (a ≡ true → b ≡ true) → (d ≡ false → c ≡ false) → (b || d) ≡ false → (a || c) ≡ false
neither true b c d f g h = absurd (cc (h, ap (λ (x : Bool). x || d) (f refl)))
neither false true c d f g h = absurd cc
neither false false c d f g h = g h

under_front : (paths : List (List NameText)) (q : List NameText) (i : ℕ) → is_under paths q ≡ false → is_under paths (take i q) ≡ false
under_front [] q i h = refl
under_front (p ∷ paths) q i h = neither (is_front p (take i q)) (is_front p q) (is_under paths (take i q)) (is_under paths q) (front_on p q i) (under_front paths q i) h

pub not_root : (n : NameText) (p : List NameText) → is_under ((n ∷ p) ∷ []) [] ≡ false
unfolding is_front
not_root n p = refl

-- a drop of paths that aren't the root leaves a tree
pub tree-drop : (T : Tree) (paths : List (List NameText)) → is_under paths [] ≡ false → IsTree T → IsTree (drop T paths)
tree-drop T paths low tree = record {
  root = stands-drop T paths [] low tree.root;
  fronts = λ q i le h.
      let was = (stood-drop T paths q h).1 in
      stands-drop T paths (take i q) (under_front paths q i was.apart) (tree.fronts q i le (ap is_some was.stood));
}
