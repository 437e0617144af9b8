-- How the fronts and children of a path lie to it.
use Rattle.std.proofs.Common.{◌≡◌, ℕ, zero, suc, ◌<◌, ◌≤◌, Bool, true, false, List, [], ◌∷◌, length, take, refl, sym, ap, ◌∙◌, arith, ◌&&◌}
use Rattle.std.specs.Ordering.{is_eq}
use Rattle.std.specs.Cmp.{tied_itself}
use Rattle.khepri_terms.specs.Terms.{NameText}
use Rattle.khepri_terms.specs.Order.{name_cmp}
use Rattle.khepri_types.specs.Paths.{is_front, is_child}
use Rattle.khepri_types.proofs.Order.{name_cmp_total, name_cmp-same}
use Rattle.khepri_types.proofs.Trees.{tie_is}

left_so : (a b : Bool) → (a && b) ≡ true → a ≡ true
left_so true b h = refl
left_so false b h = h

right_so : (a b : Bool) → (a && b) ≡ true → b ≡ true
right_so true b h = h
right_so false b h = absurd cc

both_so : (a b : Bool) → a ≡ true → b ≡ true → (a && b) ≡ true
both_so true b g h = h
both_so false b g h = absurd cc

name_is : (n m : NameText) → is_eq (name_cmp n m) ≡ true → n ≡ m
name_is n m e = name_cmp-same n m (tie_is _ e)

name_itself : (n : NameText) → is_eq (name_cmp n n) ≡ true
name_itself n = ap is_eq (tied_itself name_cmp_total n)

-- what begins with q has it as its front
pub front_taken : (q p : List NameText) → is_front q p ≡ true → take (length q) p ≡ q
unfolding is_front
front_taken [] p h = refl
front_taken (n ∷ q) [] h = absurd cc
front_taken (n ∷ q) (m ∷ p) h = λ i. sym (name_is n m (left_so (is_eq (name_cmp n m)) (is_front q p) h)) i ∷ front_taken q p (right_so (is_eq (name_cmp n m)) (is_front q p) h) i

pub front_long : (q p : List NameText) → is_front q p ≡ true → length q ≤ length p
unfolding is_front
front_long [] p h = omega arith
front_long (n ∷ q) [] h = absurd cc
front_long (n ∷ q) (m ∷ p) h = let rest = front_long q p (right_so (is_eq (name_cmp n m)) (is_front q p) h) in omega arith

pub front_itself : (p : List NameText) → is_front p p ≡ true
unfolding is_front
front_itself [] = refl
front_itself (n ∷ p) = both_so (is_eq (name_cmp n n)) (is_front p p) (name_itself n) (front_itself p)

-- a child is one name longer, and its parent is its front
pub child_taken : (q p : List NameText) → is_child q p ≡ true → take (length q) p ≡ q
unfolding is_child
child_taken [] p h = refl
child_taken (n ∷ q) [] h = absurd cc
child_taken (n ∷ q) (m ∷ p) h = λ i. sym (name_is n m (left_so (is_eq (name_cmp n m)) (is_child q p) h)) i ∷ child_taken q p (right_so (is_eq (name_cmp n m)) (is_child q p) h) i

pub child_long : (q p : List NameText) → is_child q p ≡ true → length p ≡ suc (length q)
unfolding is_child
child_long [] [] h = absurd cc
child_long [] (m ∷ []) h = refl
child_long [] (m ∷ k ∷ p) h = absurd cc
child_long (n ∷ q) [] h = absurd cc
child_long (n ∷ q) (m ∷ p) h = ap suc (child_long q p (right_so (is_eq (name_cmp n m)) (is_child q p) h))

-- a path has one parent
pub one_parent : (q r p : List NameText) → is_child q p ≡ true → is_child r p ≡ true → q ≡ r
one_parent q r p g h =
    let long : length q ≡ length r = omega (arith, child_long q p g, child_long r p h) in
    sym (child_taken q p g) ∙ (ap (λ (k : ℕ). take k p) long ∙ child_taken r p h)

-- a front is the child of the front before it
pub front_child : (p : List NameText) (i : ℕ) → i < length p → is_child (take i p) (take (suc i) p) ≡ true
unfolding is_child
front_child [] i lt = absurd (omega arith)
front_child (n ∷ p) zero lt = refl
front_child (n ∷ p) (suc i) lt = both_so (is_eq (name_cmp n n)) (is_child (take i p) (take (suc i) p)) (name_itself n) (front_child p i (omega arith))
