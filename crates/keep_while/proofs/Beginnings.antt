-- What begins with a path.
use Rattle.std.proofs.Common.{◌≡◌, ℕ, zero, suc, ◌-◌, ◌<◌, ◌&&◌, Bool, true, false, List, [], ◌∷◌, length, take, refl, sym, ap, ◌∙◌, arith}
use Rattle.std.specs.Ordering.{is_eq}
use Rattle.std.specs.declared.cmp.Ordering.{Ordering}
use Rattle.std.specs.Cmp.{tied_itself}
use Rattle.khepri_terms.specs.Terms.{NameText}
use Rattle.khepri_terms.specs.Order.{name_cmp, path_cmp}
use Rattle.khepri_types.specs.Paths.{is_child, is_front}
use Rattle.khepri_types.proofs.Fronts.{front_taken, front_long, child_taken, child_long}
use Rattle.khepri_types.proofs.Order.{name_cmp_total, path_cmp_total, path_cmp-same}
use Rattle.khepri_types.proofs.Trees.{tie_is}
use Rattle.worklist_laws.proofs.Among.{and_both, test_false}

both_same : (a b : Bool) → (a ≡ true → b ≡ true) → (b ≡ true → a ≡ true) → a ≡ b
both_same true b f g = sym (f refl)
both_same false true f g = g refl
both_same false false f g = refl

front_given : (p q : List NameText) → take (length p) q ≡ p → is_front p q ≡ true
unfolding is_front
front_given [] q e = refl
front_given (n ∷ p) [] e = absurd cc
front_given (n ∷ p) (m ∷ q) e =
    let first : m ≡ n = cc in
    let rest : take (length p) q ≡ p = cc in
    ap (λ (k : NameText). is_eq (name_cmp n k) && is_front p q) first
    ∙ (ap (λ (o : Ordering). is_eq o && is_front p q) (tied_itself name_cmp_total n) ∙ front_given p q rest)

pub short_apart : (p q : List NameText) → length q < length p → false ≡ is_front p q
short_apart p q lt = sym (test_false (is_front p q) (λ h. absurd (omega (arith, lt, front_long p q h))))

pub begins_is : (p q : List NameText) → is_eq (path_cmp (take (length p) q) p) ≡ is_front p q
begins_is p q = both_same (is_eq (path_cmp (take (length p) q) p)) (is_front p q)
    (λ h. front_given p q (path_cmp-same (take (length p) q) p (tie_is _ h)))
    (λ h. ap (λ (r : List NameText). is_eq (path_cmp r p)) (front_taken p q h) ∙ ap is_eq (tied_itself path_cmp_total p))

-- the path without its last name is the parent
child_front : (p : List NameText) (n : ℕ) → suc n ≡ length p → is_child (take n p) p ≡ true
unfolding is_child
child_front [] n e = absurd (omega (arith, e))
child_front (m ∷ []) zero e = refl
child_front (m ∷ []) (suc n) e = absurd (omega (arith, e))
child_front (m ∷ k ∷ p) zero e = absurd (omega (arith, e))
child_front (m ∷ k ∷ p) (suc n) e = and_both (is_eq (name_cmp m m)) (is_child (take n (k ∷ p)) (k ∷ p)) (ap is_eq (tied_itself name_cmp_total m)) (child_front (k ∷ p) n (omega (arith, e)))

pub parent_child : (p : List NameText) (n : ℕ) → n ≡ length p → (n ≡ 0 → ⊥) → (x : List NameText) → x ≡ take (n - 1) p → is_child x p ≡ true
parent_child p zero is some x e = absurd (some refl)
parent_child p (suc n) is some x e = ap (λ (y : List NameText). is_child y p) e ∙ child_front p (suc n - 1) (omega (arith, is))

pub parent_one : (p : List NameText) (n : ℕ) → n ≡ length p → (x : List NameText) → x ≡ take (n - 1) p → (r : List NameText) → is_child r p ≡ true → x ≡ r
parent_one p n is x e r child =
    let long : length r ≡ n - 1 = omega (arith, child_long r p child, is) in
    e ∙ (ap (λ (k : ℕ). take k p) (sym long) ∙ child_taken r p child)

pub parent_none : (p : List NameText) (n : ℕ) → n ≡ length p → n ≡ 0 → (r : List NameText) → is_child r p ≡ true → ⊥
parent_none p n is none r child = absurd (omega (arith, child_long r p child, is, none))
