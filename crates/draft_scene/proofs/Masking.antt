-- The masks of one path after another.
use Rattle.std.proofs.Common.{◌≡◌, ◌≤◌, ◌<◌, ◌+◌, ◌-◌, ℕ, zero, suc, true, List, [], ◌∷◌, ◌++◌, length, take, refl, sym, ap, subst, ◌∙◌, arith, Option, Some, None}
use Rattle.std.specs.Prelude.{IsTrue, is_some}
use Rattle.std.specs.FinMap.{get}
use Rattle.std.proofs.lemmas.List.{take_all, length-take}
use Rattle.khepri_terms.specs.Terms.{NameText}
use Rattle.khepri_types.specs.declared.pattern.PatternPart.{PatternPart}
use Rattle.khepri_types.specs.declared.node.Node.{Node}
use Rattle.khepri_types.specs.Conditions.{Seen, seen_at, seen_node}
use Rattle.khepri_types.specs.Paths.{is_front, is_child}
use Rattle.khepri_types.specs.Tree.{Tree, IsTree, stands}
use Rattle.khepri_types.proofs.Fronts.{front_taken, front_long, front_child}
use Rattle.pattern_match.specs.declared.mask.Mask.{Mask}
use Rattle.pattern_match.specs.Masks.{AreMasks}
use Rattle.tree_nodes.specs.Next.{IsNextNode}
use Rattle.tree_nodes.proofs.Walking.{walk-ends, walk-root, walk-parent}
use Rattle.draft_scene.specs.Scans.{ahead, path_or_root}

abbrev Path : Type 0
Path = List NameText

-- ---- up

-- the masks of a path were left for those of its first names, so many
pub record Climbed (from to names : ℕ) (old new : List Mask) : Type 0 where
  pub within : names ≤ from
  pub above : to ≤ names
  pub len : length new ≡ names + 1
  pub masks : (parts : List PatternPart) (T : Tree) (p : Path) → length p ≡ from → AreMasks parts T [] p old → AreMasks parts T [] (take names p) new

taken_one : (p : Path) (k : ℕ) → k < length p → (n : NameText) × (take (suc k) p ≡ take k p ++ n ∷ [])
taken_one [] k l = absurd (omega arith)
taken_one (n ∷ p) zero l = (n, refl)
taken_one (n ∷ p) (suc k) l = let rest = taken_one p k (omega arith) in (rest.0, ap (λ (xs : Path). n ∷ xs) rest.1)

pub climbed_none : (from to : ℕ) (masks : List Mask) → to ≤ from → length masks ≡ from + 1 → Climbed from to from masks masks
climbed_none from to masks le l = record {
  within = omega arith;
  above = le;
  len = l;
  masks = λ parts T p e are. subst (λ (q : Path). AreMasks parts T [] q masks) (sym (take_all from p (omega arith))) are;
}

pub climbed_more : (from to names after : ℕ) (old now new : List Mask) → names ≡ suc after → to < names → Climbed from to names old now → length new ≡ length now - 1
    → ((parts : List PatternPart) (T : Tree) (p : Path) (n : NameText) → AreMasks parts T [] (p ++ n ∷ []) now → AreMasks parts T [] p new) → Climbed from to after old new
climbed_more from to names after old now new e lt c l left = record {
  within = omega (arith, c.within);
  above = omega arith;
  len = omega (arith, c.len);
  masks = λ parts T p long are.
      let one = taken_one p after (omega (arith, c.within)) in
      left parts T (take after p) one.0 (subst (λ (q : Path). AreMasks parts T [] q now) (ap (λ (j : ℕ). take j p) e ∙ one.1) (c.masks parts T p long are));
}

-- ---- the path that comes next

pub none_next : (T : Tree) (last : Option Path) → 0 < length (ahead T last) → IsNextNode T last None → ⊥
none_next T last more none = omega (arith, ap length (walk-ends T last none))

-- the root is the first of all
pub root_first : (T : Tree) (last : Option Path) (q : Path) → length q ≡ 0 → IsNextNode T last (Some q) → path_or_root last ≡ q
root_first T last (n ∷ q) l next = absurd (omega arith)
root_first T None [] l next = refl
root_first T (Some []) [] l next = refl
root_first T (Some (n ∷ a)) [] l next = absurd (cc (next.1))

-- the parent of any other is a front of the path before it
pub record Below (T : Tree) (last : Option Path) (q : Path) (k : ℕ) : Type 0 where
  pub within : k ≤ length (path_or_root last)
  pub front : take k (path_or_root last) ≡ take k q

pub below_last : (T : Tree) (last : Option Path) (q : Path) (k : ℕ) → IsTree T → length q ≡ suc k → IsNextNode T last (Some q) → Below T last q k
below_last T None q k tree l next = absurd (omega (arith, ap length (walk-root T q tree next)))
below_last T (Some a) q k tree l next =
    let c : is_child (take k q) q ≡ true = ap (is_child (take k q)) (sym (take_all (suc k) q (omega arith))) ∙ front_child q k (omega arith) in
    let f : is_front (take k q) a ≡ true = walk-parent T a q (take k q) tree next c in
    let long : length (take k q) ≡ k = omega (arith, length-take k q) in
    record {
      within = omega (arith, front_long (take k q) a f, long);
      front = ap (λ (j : ℕ). take j a) (sym long) ∙ front_taken (take k q) a f;
    }

-- the masks of the next path, from those of its parent
pub entered_next : (parts : List PatternPart) (T : Tree) (a q : Path) (k : ℕ) (s : Seen) (old new : List Mask) → length q ≡ suc k → take k a ≡ take k q → Some s ≡ seen_at T q
    → AreMasks parts T [] (take k a) old
    → ((U : Tree) (p : Path) (n : NameText) → seen_at U (p ++ n ∷ []) ≡ Some s → AreMasks parts U [] p old → AreMasks parts U [] (p ++ n ∷ []) new)
    → AreMasks parts T [] q new
entered_next parts T a q k s old new l front seen are enter =
    let one = taken_one q k (omega arith) in
    let whole : q ≡ take k q ++ one.0 ∷ [] = sym (take_all (suc k) q (omega arith)) ∙ one.1 in
    subst (λ (r : Path). AreMasks parts T [] r new) (sym whole)
    (enter T (take k q) one.0 (ap (seen_at T) (sym whole) ∙ sym seen) (subst (λ (r : Path). AreMasks parts T [] r old) front are))

-- ---- how many there are

masks_long : (parts : List PatternPart) (T : Tree) (q p : Path) (masks : List Mask) → AreMasks parts T q p masks → length masks ≡ length p + 1
masks_long parts T q [] [] are = absurd are
masks_long parts T q [] (m ∷ []) are = refl
masks_long parts T q [] (m ∷ k ∷ masks) are = absurd are
masks_long parts T q (n ∷ p) [] are = absurd are
masks_long parts T q (n ∷ p) (m ∷ masks) are = let l = masks_long parts T (q ++ n ∷ []) p masks are.1 in omega (arith, l)

pub as_many : (parts : List PatternPart) (T : Tree) (p : Path) (masks : List Mask) → AreMasks parts T [] p masks → length masks ≡ length p + 1
as_many parts T p masks are = masks_long parts T [] p masks are

-- ---- what is seen on the way

none-seen : (T : Tree) (p : Path) (o : Option Node) → None ≡ seen_node T p o → IsTrue (is_some o) → ⊥
none-seen T p None e h = absurd cc
none-seen T p (Some n) e h = absurd cc

-- where a node stands something is seen
pub seen_there : (T : Tree) (p : Path) → None ≡ seen_at T p → IsTrue (stands T p) → ⊥
unfolding seen_at
seen_there T p e h = none-seen T p (get T p) e h
