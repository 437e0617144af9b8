-- What lies between paths, and what comes next under a path.
use Rattle.std.proofs.Common.{◌≡◌, ℕ, zero, suc, ◌≤◌, true, List, [], ◌∷◌, ◌++◌, length, take, refl, sym, ap, subst, ◌∙◌, arith, Option, Some, None, Less, Equal, Greater, ◌&&◌}
use Rattle.std.specs.Prelude.{IsTrue, slice_get}
use Rattle.std.specs.Ordering.{is_eq, is_lt, ordering_then, ordering_reverse}
use Rattle.std.specs.declared.cmp.Ordering.{Ordering}
use Rattle.std.specs.Cmp.{tied_itself}
use Rattle.std.proofs.lemmas.List.{take_all}
use Rattle.khepri_terms.specs.Terms.{NameText}
use Rattle.khepri_terms.specs.Order.{name_cmp, path_cmp}
use Rattle.khepri_types.specs.Paths.{is_front}
use Rattle.khepri_types.specs.Tree.{Tree, IsTree, stands}
use Rattle.khepri_types.proofs.Order.{name_cmp_total, name_cmp-same, path_cmp_total}
use Rattle.khepri_types.proofs.Trees.{tie_is}
use Rattle.khepri_types.proofs.Fronts.{front_itself, front_taken}
use Rattle.nested_nodes.specs.Next.{IsNext}
use Rattle.nested_nodes.proofs.Rows.{and_first, and_second, and_both, lt_less}
use Rattle.tree_overlay.specs.Over.{HasChild}
use Rattle.tree_walks.specs.Under.{IsUnder}

-- what begins with p goes on from there
pub front_split : (p q : List NameText) → is_front p q ≡ true → (r : List NameText) × (q ≡ p ++ r)
unfolding is_front
front_split [] q h = (q, refl)
front_split (n ∷ p) [] h = absurd cc
front_split (n ∷ p) (m ∷ q) h =
    let rest = front_split p q (and_second (is_eq (name_cmp n m)) (is_front p q) h) in
    let same : n ≡ m = name_cmp-same n m (tie_is _ (and_first (is_eq (name_cmp n m)) (is_front p q) h)) in
    (rest.0, λ i. sym same i ∷ rest.1 i)

pub front_joined : (p r : List NameText) → is_front p (p ++ r) ≡ true
unfolding is_front
front_joined [] r = refl
front_joined (n ∷ p) r = and_both (is_eq (name_cmp n n)) (is_front p (p ++ r)) (ap is_eq (tied_itself name_cmp_total n)) (front_joined p r)

pub front_on : (p q r : List NameText) → is_front p q ≡ true → is_front p (q ++ r) ≡ true
unfolding is_front
front_on [] q r h = refl
front_on (n ∷ p) [] r h = absurd cc
front_on (n ∷ p) (m ∷ q) r h = and_both (is_eq (name_cmp n m)) (is_front p (q ++ r)) (and_first (is_eq (name_cmp n m)) (is_front p q) h) (front_on p q r (and_second (is_eq (name_cmp n m)) (is_front p q) h))

-- a longer front has the shorter one as its front
pub front_taken_on : (p q : List NameText) (i : ℕ) → is_front p q ≡ true → length p ≤ i → is_front p (take i q) ≡ true
unfolding is_front
front_taken_on [] q i h le = refl
front_taken_on (n ∷ p) [] i h le = absurd cc
front_taken_on (n ∷ p) (m ∷ q) zero h le = absurd (omega arith)
front_taken_on (n ∷ p) (m ∷ q) (suc i) h le = and_both (is_eq (name_cmp n m)) (is_front p (take i q)) (and_first (is_eq (name_cmp n m)) (is_front p q) h) (front_taken_on p q i (and_second (is_eq (name_cmp n m)) (is_front p q) h) (omega arith))

-- the order of paths with a common front
same_front : (p a b : List NameText) → path_cmp (p ++ a) (p ++ b) ≡ path_cmp a b
same_front [] a b = refl
same_front (n ∷ p) a b = ap (λ (o : Ordering). ordering_then o (path_cmp (p ++ a) (p ++ b))) (tied_itself name_cmp_total n) ∙ same_front p a b

-- what lies between two paths that begin with p begins with p
between : (p x y z : List NameText) → is_front p x ≡ true → is_front p z ≡ true → path_cmp x y ≡ Less → path_cmp y z ≡ Less → is_front p y ≡ true
unfolding is_front
between [] x y z f g h k = refl
between (n ∷ p) [] y z f g h k = absurd cc
between (n ∷ p) (a ∷ x) y [] f g h k = absurd cc
between (n ∷ p) (a ∷ x) [] (b ∷ z) f g h k = absurd cc
between (n ∷ p) (a ∷ x) (m ∷ y) (b ∷ z) f g h k =
    let na : n ≡ a = name_cmp-same n a (tie_is _ (and_first (is_eq (name_cmp n a)) (is_front p x) f)) in
    let nb : n ≡ b = name_cmp-same n b (tie_is _ (and_first (is_eq (name_cmp n b)) (is_front p z) g)) in
    let h' : ordering_then (name_cmp n m) (path_cmp x y) ≡ Less = ap (λ (c : NameText). ordering_then (name_cmp c m) (path_cmp x y)) na ∙ h in
    let k' : ordering_then (name_cmp m n) (path_cmp y z) ≡ Less = ap (λ (c : NameText). ordering_then (name_cmp m c) (path_cmp y z)) nb ∙ k in
    elim (name_cmp n m) as (λ o. name_cmp n m ≡ o → ordering_then o (path_cmp x y) ≡ Less → is_eq o && is_front p y ≡ true) [
      | Less ↦ λ t e. absurd (cc (k', ap (λ (o : Ordering). ordering_then o (path_cmp y z)) (name_cmp_total.antisymm m n ∙ ap ordering_reverse t)))
      | Equal ↦ λ t e. between p x y z (and_second (is_eq (name_cmp n a)) (is_front p x) f) (and_second (is_eq (name_cmp n b)) (is_front p z) g) e
          (sym (ap (λ (o : Ordering). ordering_then o (path_cmp y z)) (name_cmp_total.antisymm m n ∙ ap ordering_reverse t)) ∙ k')
      | Greater ↦ λ t e. absurd cc
    ] refl h'

-- no node under p comes after a
pub NoneAfter : Tree → List NameText → List NameText → Type 0
NoneAfter T p a = (q : List NameText) → IsUnder T p q → path_cmp a q ≡ Less → ⊥

-- a node below p has a child of p above it
child_above : (T : Tree) (p r : List NameText) (m : NameText) → IsTree T → IsTrue (stands T (p ++ m ∷ r)) → HasChild T p m
child_above T p r m tree h =
    subst (λ (q : List NameText). IsTrue (stands T q)) (front_of p m r) (tree.fronts (p ++ m ∷ r) (length (p ++ m ∷ [])) (short p m r) h)
  where
    front_of : (p : List NameText) (m : NameText) (r : List NameText) → take (length (p ++ m ∷ [])) (p ++ m ∷ r) ≡ p ++ m ∷ []
    front_of [] m r = refl
    front_of (n ∷ p) m r = ap (λ (q : List NameText). n ∷ q) (front_of p m r)

    short : (p : List NameText) (m : NameText) (r : List NameText) → length (p ++ m ∷ []) ≤ length (p ++ m ∷ r)
    short [] m r = omega arith
    short (n ∷ p) m r = let rest = short p m r in omega (arith, rest)

nil_on : (a : List NameText) → a ++ [] ≡ a
nil_on [] = refl
nil_on (x ∷ a) = ap (λ (b : List NameText). x ∷ b) (nil_on a)

not_below_root : (r : List NameText) → path_cmp r [] ≡ Less → ⊥
not_below_root [] g = absurd cc
not_below_root (x ∷ r) g = absurd cc

-- a path below m that comes before n comes there by its name
before_by_name : (m n : NameText) (r : List NameText) → ordering_then (name_cmp m n) (path_cmp r []) ≡ Less → name_cmp m n ≡ Less
before_by_name m n r e = elim (name_cmp m n) as (λ o. ordering_then o (path_cmp r []) ≡ Less → o ≡ Less) [
  | Less ↦ λ g. refl
  | Equal ↦ λ g. absurd (not_below_root r g)
  | Greater ↦ λ g. absurd cc
] e

not_itself : (p q : List NameText) → q ≡ p → path_cmp p q ≡ Less → ⊥
not_itself p q is less = absurd (cc (less, ap (path_cmp p) is, tied_itself path_cmp_total p))

-- the first child comes next
pub next_first_child : (T : Tree) (root at : List NameText) (n : NameText) → IsTree T → is_front root at ≡ true → IsNext name_cmp (HasChild T at) None (Some n) → IsNext path_cmp (IsUnder T root) (Some at) (Some (at ++ n ∷ []))
next_first_child T root at n tree under next = (
  (next.0, front_on root at (n ∷ []) under),
  ap is_lt (sym (ap (λ (a : List NameText). path_cmp a (at ++ n ∷ [])) (nil_on at)) ∙ same_front at [] (n ∷ [])),
  λ y there later less.
      let split = front_split at y (between at at y (at ++ n ∷ []) (front_itself at) (front_joined at (n ∷ [])) (lt_less _ later) less) in
      least y split.0 split.1 there.0 (lt_less _ later) less,
)
  where
    least : (y r : List NameText) → y ≡ at ++ r → IsTrue (stands T y) → path_cmp at y ≡ Less → path_cmp y (at ++ n ∷ []) ≡ Less → ⊥
    least y [] is there later less = not_itself at y (is ∙ nil_on at) later
    least y (m ∷ r) is there later less =
        let first : ordering_then (name_cmp m n) (path_cmp r []) ≡ Less = sym (same_front at (m ∷ r) (n ∷ [])) ∙ (ap (λ (q : List NameText). path_cmp q (at ++ n ∷ [])) (sym is) ∙ less) in
        next.2 m (child_above T at r m tree (subst (λ (q : List NameText). IsTrue (stands T q)) is there)) refl (before_by_name m n r first)

-- a path with no child
pub none_init : (T : Tree) (at : List NameText) → IsTree T → IsNext name_cmp (HasChild T at) None None → NoneAfter T (take (length at) at) at
unfolding NoneAfter
none_init T at tree none q under less =
    let split = front_split at q (subst (λ (p : List NameText). is_front p q ≡ true) (take_all (length at) at (omega arith)) under.1) in
    by split.0 split.1
  where
    by : (r : List NameText) → q ≡ at ++ r → ⊥
    by [] is = not_itself at q (is ∙ nil_on at) less
    by (m ∷ r) is = none m (child_above T at r m tree (subst (λ (p : List NameText). IsTrue (stands T p)) is under.0)) refl

-- the path by its name at a place
pub split_at : (at : List NameText) (i : ℕ) (n : NameText) → slice_get at i ≡ Some n → (d : List NameText) × (at ≡ take i at ++ n ∷ d) × (take (suc i) at ≡ take i at ++ n ∷ [])
split_at [] i n h = absurd cc
split_at (x ∷ at) zero n h = let same : x ≡ n = cc in (at, ap (λ (y : NameText). y ∷ at) same, ap (λ (y : NameText). y ∷ []) same)
split_at (x ∷ at) (suc i) n h =
    let rest = split_at at i n h in
    (rest.0, ap (λ (q : List NameText). x ∷ q) rest.1, ap (λ (q : List NameText). x ∷ q) rest.2)

-- how a path lies to the others under its front
lies : (above d r : List NameText) (x m : NameText) (at q : List NameText) → at ≡ above ++ x ∷ d → q ≡ above ++ m ∷ r → path_cmp at q ≡ ordering_then (name_cmp x m) (path_cmp d r)
lies above d r x m at q a b = (λ i. path_cmp (a i) (b i)) ∙ same_front above (x ∷ d) (m ∷ r)

not_before_front : (above d : List NameText) (x : NameText) (at q : List NameText) → at ≡ above ++ x ∷ d → q ≡ above ++ [] → path_cmp at q ≡ Less → ⊥
not_before_front above d x at q a b less = absurd (cc (less, (λ i. path_cmp (a i) (b i)) ∙ same_front above (x ∷ d) []))

-- a node beside or below the child x of a front that the path takes comes not after it
beside : (T : Tree) (at above d : List NameText) (x : NameText) (i : ℕ) (q r : List NameText) (m : NameText) → IsTree T → at ≡ above ++ x ∷ d → take (suc i) at ≡ above ++ x ∷ [] → NoneAfter T (take (suc i) at) at → q ≡ above ++ m ∷ r → IsTrue (stands T q)
    → path_cmp at q ≡ Less → name_cmp x m ≡ Less × HasChild T above m
unfolding NoneAfter
beside T at above d x i q r m tree parts front none is there less = elim (name_cmp x m) as (λ o. name_cmp x m ≡ o → ordering_then o (path_cmp d r) ≡ Less → name_cmp x m ≡ Less × HasChild T above m) [
  | Less ↦ λ t e. (t, child_above T above r m tree (subst (λ (p : List NameText). IsTrue (stands T p)) is there))
  | Equal ↦ λ t e.
      let on : is_front (take (suc i) at) q ≡ true =
      (λ j. is_front (front j) (is j)) ∙ (ap (λ (k : NameText). is_front (above ++ x ∷ []) (above ++ k ∷ r)) (sym (name_cmp-same x m t)) ∙ (ap (is_front (above ++ x ∷ [])) (joined above x r) ∙ front_joined (above ++ x ∷ []) r)) in
      absurd (none q (there, on) less)
  | Greater ↦ λ t e. absurd cc
] refl (sym (lies above d r x m at q parts is) ∙ less)
  where
    joined : (a : List NameText) (y : NameText) (r : List NameText) → a ++ y ∷ r ≡ (a ++ y ∷ []) ++ r
    joined [] y r = refl
    joined (z ∷ a) y r = ap (λ (q : List NameText). z ∷ q) (joined a y r)

-- one front further up
pub none_step : (T : Tree) (at above : List NameText) (x : NameText) (i : ℕ) → IsTree T → above ≡ take i at → slice_get at i ≡ Some x → NoneAfter T (take (suc i) at) at → IsNext name_cmp (HasChild T above) (Some x) None → NoneAfter T (take i at) at
unfolding NoneAfter
none_step T at above x i tree is name none next q under less =
    let parts = split_at at i x name in
    let whole : at ≡ above ++ x ∷ parts.0 = parts.1 ∙ ap (λ (a : List NameText). a ++ x ∷ parts.0) (sym is) in
    let front : take (suc i) at ≡ above ++ x ∷ [] = parts.2 ∙ ap (λ (a : List NameText). a ++ x ∷ []) (sym is) in
    let split = front_split above q (subst (λ (p : List NameText). is_front p q ≡ true) (sym is) under.1) in
    by parts.0 whole front split.0 split.1
  where
    by : (d : List NameText) → at ≡ above ++ x ∷ d → take (suc i) at ≡ above ++ x ∷ [] → (r : List NameText) → q ≡ above ++ r → ⊥
    by d whole front [] e = not_before_front above d x at q whole e less
    by d whole front (m ∷ r) e = let b = beside T at above d x i q r m tree whole front none e under.0 less in next m b.1 (ap is_lt b.0)

-- the next child of a front comes next
pub next_sibling : (T : Tree) (root at above : List NameText) (x n : NameText) (i : ℕ) → IsTree T → is_front root at ≡ true → length root ≤ i → above ≡ take i at → slice_get at i ≡ Some x → NoneAfter T (take (suc i) at) at
    → IsNext name_cmp (HasChild T above) (Some x) (Some n) → IsNext path_cmp (IsUnder T root) (Some at) (Some (above ++ n ∷ []))
next_sibling T root at above x n i tree under long is name none next =
    let parts = split_at at i x name in
    let whole : at ≡ above ++ x ∷ parts.0 = parts.1 ∙ ap (λ (a : List NameText). a ++ x ∷ parts.0) (sym is) in
    let front : take (suc i) at ≡ above ++ x ∷ [] = parts.2 ∙ ap (λ (a : List NameText). a ++ x ∷ []) (sym is) in
    let root_on : is_front root above ≡ true = ap (is_front root) is ∙ front_taken_on root at i under long in
    let on : is_front above at ≡ true = ap (is_front above) whole ∙ front_joined above (x ∷ parts.0) in (
      (next.0, front_on root above (n ∷ []) root_on),
      ap is_lt (lies above parts.0 [] x n at (above ++ n ∷ []) whole refl ∙ ap (λ (o : Ordering). ordering_then o (path_cmp parts.0 [])) (lt_less _ next.1)),
      λ y there later less.
          let split = front_split above y (between above at y (above ++ n ∷ []) on (front_joined above (n ∷ [])) (lt_less _ later) less) in
          least parts.0 whole front y split.0 split.1 there.0 (lt_less _ later) less,
    )
  where
    least : (d : List NameText) → at ≡ above ++ x ∷ d → take (suc i) at ≡ above ++ x ∷ [] → (y r : List NameText) → y ≡ above ++ r → IsTrue (stands T y) → path_cmp at y ≡ Less → path_cmp y (above ++ n ∷ []) ≡ Less → ⊥
    least d whole front y [] e there later less = not_before_front above d x at y whole e later
    least d whole front y (m ∷ r) e there later less =
        let b = beside T at above d x i y r m tree whole front none e there later in
        let first : ordering_then (name_cmp m n) (path_cmp r []) ≡ Less = sym (same_front above (m ∷ r) (n ∷ [])) ∙ (ap (λ (q : List NameText). path_cmp q (above ++ n ∷ [])) (sym e) ∙ less) in
        next.2 m b.1 (ap is_lt b.0) (before_by_name m n r first)

-- at the root of the walk nothing is left
pub none_end : (T : Tree) (root at : List NameText) (i : ℕ) → is_front root at ≡ true → i ≡ length root → NoneAfter T (take i at) at → IsNext path_cmp (IsUnder T root) (Some at) None
unfolding NoneAfter
none_end T root at i under e none = λ y there later.
    none y (subst (λ (p : List NameText). IsUnder T p y) (sym (front_taken root at under) ∙ ap (λ (k : ℕ). take k at) (sym e)) there) (lt_less _ later)

-- ---- all nodes

-- what comes next under the root comes next of all
pub next_all : (T : Tree) (a o : Option (List NameText)) → IsNext path_cmp (IsUnder T []) a o → IsNext path_cmp (λ q. IsTrue (stands T q)) a o
next_all T a None none = λ y there later. none y (there, front_joined [] y) later
next_all T a (Some x) next = (next.0.0, next.1, λ y there later less. next.2 y (there, front_joined [] y) later less)

-- the root comes first
pub root_next : (T : Tree) → IsTree T → IsNext path_cmp (λ q. IsTrue (stands T q)) None (Some [])
root_next T tree = (tree.root, refl, λ y there later less. not_below_root y less)
