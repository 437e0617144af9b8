-- The masks of one path after another.
use Rattle.std.proofs.Common.{◌≡◌, ◌≤◌, ◌<◌, ◌+◌, ◌-◌, ℕ, zero, suc, true, List, [], ◌∷◌, ◌++◌, length, take, refl, sym, ap, subst, ◌∙◌, arith, Option, Some, None}
use Rattle.std.specs.Prelude.{IsTrue}
use Rattle.std.proofs.lemmas.List.{take_all, length-take}
use Rattle.khepri_terms.specs.Terms.{NameText}
use Rattle.khepri_terms.specs.Order.{path_cmp}
use Rattle.khepri_types.specs.declared.pattern.PatternPart.{PatternPart}
use Rattle.khepri_types.specs.Conditions.{Seen, seen_at}
use Rattle.khepri_types.specs.Paths.{is_front, is_child}
use Rattle.khepri_types.specs.Tree.{Tree, IsTree, stands}
use Rattle.khepri_types.proofs.Fronts.{front_taken, front_long, front_child}
use Rattle.pattern_match.specs.declared.mask.Mask.{Mask}
use Rattle.pattern_match.specs.Masks.{AreMasks}
use Rattle.tree_nodes.specs.Next.{Ends, GoesOn, IsNext}
use Rattle.tree_nodes.proofs.Walking.{walk-ends, walk-goes_on, walk-root, walk-parent}
use Rattle.tree_commands.specs.Scans.{ahead, ComesNext, Passes, path_or_root}

abbrev Path : Type 0
Path = List NameText

-- ---- up

-- the masks of a path were left for those of its first names, so many
pub record Climbed (from to names : ℕ) (old new : List Mask) : Type 0 where
  pub within : names ≤ from
  pub above : to ≤ names
  pub len : length new ≡ names + 1
  pub masks : (parts : List PatternPart) (T : Tree) (p : Path) → length p ≡ from → AreMasks parts T [] p old → AreMasks parts T [] (take names p) new

taken_one : (p : Path) (k : ℕ) → k < length p → (n : NameText) × (take (suc k) p ≡ take k p ++ n ∷ [])
taken_one [] k l = absurd (omega arith)
taken_one (n ∷ p) zero l = (n, refl)
taken_one (n ∷ p) (suc k) l = let rest = taken_one p k (omega arith) in (rest.0, ap (λ (xs : Path). n ∷ xs) rest.1)

pub climbed_none : (from to : ℕ) (masks : List Mask) → to ≤ from → length masks ≡ from + 1 → Climbed from to from masks masks
climbed_none from to masks le l = record {
  within = omega arith;
  above = le;
  len = l;
  masks = λ parts T p e are. subst (λ (q : Path). AreMasks parts T [] q masks) (sym (take_all from p (omega arith))) are;
}

pub climbed_more : (from to names after : ℕ) (old now new : List Mask) → names ≡ suc after → to < names → Climbed from to names old now → length new ≡ length now - 1
    → ((parts : List PatternPart) (T : Tree) (p : Path) (n : NameText) → AreMasks parts T [] (p ++ n ∷ []) now → AreMasks parts T [] p new) → Climbed from to after old new
climbed_more from to names after old now new e lt c l left = record {
  within = omega (arith, c.within);
  above = omega arith;
  len = omega (arith, c.len);
  masks = λ parts T p long are.
      let one = taken_one p after (omega (arith, c.within)) in
      left parts T (take after p) one.0 (subst (λ (q : Path). AreMasks parts T [] q now) (ap (λ (j : ℕ). take j p) e ∙ one.1) (c.masks parts T p long are));
}

-- ---- the path that comes next

pub none_next : (T : Tree) (last : Option Path) → 0 < length (ahead T last) → Ends T last → ⊥
none_next T last more none = omega (arith, ap length (walk-ends T last none))

-- the root is the first of all
root_first : (T : Tree) (last : Option Path) (q : Path) → length q ≡ 0 → IsNext path_cmp (λ q. IsTrue (stands T q)) last (Some q) → path_or_root last ≡ q
root_first T last (n ∷ q) l next = absurd (omega arith)
root_first T None [] l next = refl
root_first T (Some []) [] l next = refl
root_first T (Some (n ∷ a)) [] l next = absurd (cc (next.1))

-- the parent of any other is a front of the path before it
pub record Below (T : Tree) (last : Option Path) (q : Path) (k : ℕ) : Type 0 where
  pub within : k ≤ length (path_or_root last)
  pub front : take k (path_or_root last) ≡ take k q

below_last : (T : Tree) (last : Option Path) (q : Path) (k : ℕ) → IsTree T → length q ≡ suc k → IsNext path_cmp (λ q. IsTrue (stands T q)) last (Some q) → Below T last q k
below_last T None q k tree l next = absurd (omega (arith, ap length (walk-root T q tree next)))
below_last T (Some a) q k tree l next =
    let c : is_child (take k q) q ≡ true = ap (is_child (take k q)) (sym (take_all (suc k) q (omega arith))) ∙ front_child q k (omega arith) in
    let f : is_front (take k q) a ≡ true = walk-parent T a q (take k q) tree next c in
    let long : length (take k q) ≡ k = omega (arith, length-take k q) in
    record {
      within = omega (arith, front_long (take k q) a f, long);
      front = ap (λ (j : ℕ). take j a) (sym long) ∙ front_taken (take k q) a f;
    }

-- ---- the path that a walk has come to

pub passes : (T : Tree) (last o : Option Path) → GoesOn T last o → Passes T last o
passes T last None next = absurd next
passes T last (Some q) next = walk-goes_on T last q next

pub came : (T : Tree) (last o : Option Path) → Passes T last o → (o ≡ Some (path_or_root o)) × ComesNext T last (path_or_root o)
came T last None next = absurd next
came T last (Some q) next = (refl, next)

pub root_came : (T : Tree) (last o : Option Path) → length (path_or_root o) ≡ 0 → GoesOn T last o → path_or_root last ≡ path_or_root o
root_came T last None l next = absurd next
root_came T last (Some q) l next = root_first T last q l next

pub below_came : (T : Tree) (last o : Option Path) (k : ℕ) → IsTree T → length (path_or_root o) ≡ suc k → GoesOn T last o → Below T last (path_or_root o) k
below_came T last None k tree l next = absurd next
below_came T last (Some q) k tree l next = below_last T last q k tree l next

-- the masks of the next path, from those of its parent
pub entered_next : (parts : List PatternPart) (T : Tree) (a q : Path) (k : ℕ) (s : Seen) (old new : List Mask) → length q ≡ suc k → take k a ≡ take k q → Some s ≡ seen_at T q
    → AreMasks parts T [] (take k a) old
    → ((U : Tree) (p : Path) (n : NameText) → seen_at U (p ++ n ∷ []) ≡ Some s → AreMasks parts U [] p old → AreMasks parts U [] (p ++ n ∷ []) new)
    → AreMasks parts T [] q new
entered_next parts T a q k s old new l front seen are enter =
    let one = taken_one q k (omega arith) in
    let whole : q ≡ take k q ++ one.0 ∷ [] = sym (take_all (suc k) q (omega arith)) ∙ one.1 in
    subst (λ (r : Path). AreMasks parts T [] r new) (sym whole)
    (enter T (take k q) one.0 (ap (seen_at T) (sym whole) ∙ sym seen) (subst (λ (r : Path). AreMasks parts T [] r old) front are))

-- ---- how many there are

masks_long : (parts : List PatternPart) (T : Tree) (q p : Path) (masks : List Mask) → AreMasks parts T q p masks → length masks ≡ length p + 1
masks_long parts T q [] [] are = absurd are
masks_long parts T q [] (m ∷ []) are = refl
masks_long parts T q [] (m ∷ k ∷ masks) are = absurd are
masks_long parts T q (n ∷ p) [] are = absurd are
masks_long parts T q (n ∷ p) (m ∷ masks) are = let l = masks_long parts T (q ++ n ∷ []) p masks are.1 in omega (arith, l)

pub as_many : (parts : List PatternPart) (T : Tree) (p : Path) (masks : List Mask) → AreMasks parts T [] p masks → length masks ≡ length p + 1
as_many parts T p masks are = masks_long parts T [] p masks are
