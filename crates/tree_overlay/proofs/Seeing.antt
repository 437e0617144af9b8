-- What is seen at a path of nested nodes.
use Rattle.std.proofs.Common.{◌≡◌, ℕ, suc, Bool, true, false, List, [], ◌∷◌, ◌++◌, length, refl, sym, ap, subst, ◌∙◌, arith, Option, Some, None}
use Rattle.std.specs.Prelude.{IsTrue, is_some, slice_get}
use Rattle.std.specs.FinMap.{get, find, from_sorted}
use Rattle.khepri_terms.specs.Terms.{NameText}
use Rattle.khepri_terms.specs.Order.{name_cmp, path_cmp}
use Rattle.khepri_types.specs.declared.node.Node.{Node}
use Rattle.khepri_types.specs.declared.view.NodeView.{NodeView}
use Rattle.khepri_types.specs.Conditions.{Seen, last_name, seen_at, seen_node}
use Rattle.khepri_types.specs.Sizes.{kids}
use Rattle.khepri_types.specs.Tree.{Tree, stands}
use Rattle.khepri_types.specs.Views.{as_seen, node_of, seen_of}
use Rattle.khepri_types.proofs.Growing.{get_some}
use Rattle.nested_nodes.specs.Nests.{IsNest, IsSub, children}
use Rattle.nested_nodes.specs.Next.{IsNext}
use Rattle.tree_overlay.specs.Over.{HasChild}
use Rattle.nested_nodes.proofs.Named.{Rows, sub-on}
use Rattle.tree_overlay.proofs.Applying.{get-rows, no_child, with_nil}
use Rattle.tree_overlay.proofs.Counting.{kids-rows}

abbrev pub sight : List NameText → Node → ℕ → Seen
sight p n k = record { name = last_name p; payload = n.payload; pv = n.pv; cv = n.cv; kids = k }

pub seen-there : (T : Tree) (p : List NameText) (n : Node) (k : ℕ) → get T p ≡ Some n → k ≡ kids T p → Some (sight p n k) ≡ seen_at T p
unfolding seen_at
seen-there T p n k found count = ap (λ (m : ℕ). Some (sight p n m)) count ∙ sym (ap (seen_node T p) found)

pub seen-not : (T : Tree) (p : List NameText) → get T p ≡ None → None ≡ seen_at T p
unfolding seen_at
seen-not T p none = sym (ap (seen_node T p) none)

-- a path that stands is seen
pub unseen : (T : Tree) (p : List NameText) → None ≡ seen_at T p → get T p ≡ None
unfolding seen_at
unseen T p none = elim (get T p) as (λ o. get T p ≡ o → o ≡ None) [
  | None ↦ λ h. refl
  | Some n ↦ λ h. absurd (cc (none, ap (seen_node T p) h))
] refl

-- the same node in another tree, with its number of children there
pub seen-moved : (B T : Tree) (p : List NameText) (v : NodeView) (k : ℕ) → get T p ≡ Some (node_of v) → get B p ≡ get T p → Some (as_seen v) ≡ seen_at B p → k ≡ kids T p → Some (record (as_seen v) { kids = k }) ≡ seen_at T p
seen-moved B T p v k found same seen count =
    let there : as_seen v ≡ sight p (node_of v) (kids B p) = some_is (seen ∙ sym (seen-there B p (node_of v) (kids B p) (same ∙ found) refl)) in
    ap (λ (s : Seen). Some (record s { kids = k })) there ∙ seen-there T p (node_of v) k found count
  where
    some_is : {x y : Seen} → Some x ≡ Some y → x ≡ y
    some_is e = cc

-- ---- below a node

last_joined : (a : List NameText) (x : NameText) → last_name (a ++ x ∷ []) ≡ Some x
last_joined [] x = refl
last_joined (y ∷ []) x = refl
last_joined (y ∷ z ∷ a) x = last_joined (z ∷ a) x

pub last_is : (p names above : List NameText) (x y : NameText) → names ≡ p → names ≡ above ++ x ∷ [] → y ≡ x → Some y ≡ last_name p
last_is p names above x y same parts is = ap (λ (k : NameText). Some k) is ∙ (sym (last_joined above x) ∙ ap last_name (sym parts ∙ same))

pub below-get : (ps mid rs : Rows Node) (p names above : List NameText) (x : NameText) (n : Node) → IsNest name_cmp ps → names ≡ p → names ≡ above ++ x ∷ [] → IsSub above ps mid → IsSub (x ∷ []) mid rs → find path_cmp [] rs ≡ Some n
    → get (from_sorted {R = path_cmp} ps) p ≡ Some n
below-get ps mid rs p names above x n nest same parts up down here =
    let whole : (above ++ x ∷ []) ++ [] ≡ p = with_nil (above ++ x ∷ []) ∙ (sym parts ∙ same) in
    get-rows ps p nest ∙ (sym (ap (λ (q : List NameText). find path_cmp q ps) whole) ∙ (sym ((sub-on above (x ∷ []) ps mid rs up down).finds []) ∙ here))

pub below-kids : (ps mid rs : Rows Node) (p names above : List NameText) (x : NameText) (k : ℕ) → IsNest name_cmp ps → names ≡ p → names ≡ above ++ x ∷ [] → IsSub above ps mid → IsSub (x ∷ []) mid rs → k ≡ children rs []
    → k ≡ kids (from_sorted {R = path_cmp} ps) p
below-kids ps mid rs p names above x k nest same parts up down here =
    let whole : (above ++ x ∷ []) ++ [] ≡ p = with_nil (above ++ x ∷ []) ∙ (sym parts ∙ same) in
    here ∙ ((sub-on above (x ∷ []) ps mid rs up down).kids [] ∙ (ap (children ps) whole ∙ sym (kids-rows ps p nest)))

none_is : {X : Type 0} (o : Option X) → (IsTrue (is_some o) → ⊥) → o ≡ None
none_is None h = refl
none_is (Some x) h = absurd (h refl)

-- the node above is missing
pub below-none : (ps : Rows Node) (p names above : List NameText) (x : NameText) → IsNest name_cmp ps → names ≡ p → names ≡ above ++ x ∷ [] → false ≡ is_some (find path_cmp above ps) → get (from_sorted {R = path_cmp} ps) p ≡ None
below-none ps p names above x nest same parts none =
    let whole : above ++ x ∷ [] ≡ p = sym parts ∙ same in
    get-rows ps p nest ∙ (sym (ap (λ (q : List NameText). find path_cmp q ps) whole) ∙ none_is (find path_cmp (above ++ x ∷ []) ps) (no_child ps above x nest none))

-- the child is missing
pub below-not : (ps mid : Rows Node) (p names above : List NameText) (x : NameText) → IsNest name_cmp ps → names ≡ p → names ≡ above ++ x ∷ [] → IsSub above ps mid → false ≡ is_some (find path_cmp (x ∷ []) mid) → get (from_sorted {R = path_cmp} ps) p ≡ None
below-not ps mid p names above x nest same parts up none =
    let whole : above ++ x ∷ [] ≡ p = sym parts ∙ same in
    get-rows ps p nest ∙ (sym (ap (λ (q : List NameText). find path_cmp q ps) whole) ∙ (sym (up.finds (x ∷ [])) ∙ none_is (find path_cmp (x ∷ []) mid) (λ h. absurd (cc (h, none)))))

-- ---- the root

none_last : (p : List NameText) → length p ≡ 0 → None ≡ last_name p
none_last [] e = refl
none_last (x ∷ p) e = absurd (omega (arith, e))

root_path : (p : List NameText) → length p ≡ 0 → [] ≡ p
root_path [] e = refl
root_path (x ∷ p) e = absurd (omega (arith, e))

pub root-get : (ps : Rows Node) (p : List NameText) (n : Node) → IsNest name_cmp ps → length p ≡ 0 → find path_cmp [] ps ≡ Some n → get (from_sorted {R = path_cmp} ps) p ≡ Some n
root-get ps p n nest e here = ap (get (from_sorted {R = path_cmp} ps)) (sym (root_path p e)) ∙ (get-rows ps [] nest ∙ here)

pub root-seen : (ps : Rows Node) (T : Tree) (p : List NameText) (n : Node) (k : ℕ) (s : Seen) → from_sorted {R = path_cmp} ps ≡ T → IsNest name_cmp ps → length p ≡ 0 → find path_cmp [] ps ≡ Some n → k ≡ children ps []
    → s ≡ record { name = None; payload = n.payload; pv = n.pv; cv = n.cv; kids = k } → Some s ≡ seen_at T p
root-seen ps T p n k s is nest e here count seen =
    ap Some (seen ∙ ap (λ (o : Option NameText). record { name = o; payload = n.payload; pv = n.pv; cv = n.cv; kids = k }) (none_last p e))
    ∙ (seen-there (from_sorted ps) p n k (root-get ps p n nest e here) (count ∙ (sym (kids-rows ps [] nest) ∙ ap (kids (from_sorted ps)) (root_path p e))) ∙ ap (λ (U : Tree). seen_at U p) is)

pub below-seen : (ps mid rs : Rows Node) (T : Tree) (p names above : List NameText) (x y : NameText) (n : Node) (k : ℕ) (s : Seen) → from_sorted {R = path_cmp} ps ≡ T → IsNest name_cmp ps → names ≡ p → names ≡ above ++ x ∷ [] → y ≡ x
    → IsSub above ps mid → IsSub (x ∷ []) mid rs → find path_cmp [] rs ≡ Some n → k ≡ children rs [] → s ≡ record { name = Some y; payload = n.payload; pv = n.pv; cv = n.cv; kids = k } → Some s ≡ seen_at T p
below-seen ps mid rs T p names above x y n k s is nest same parts own up down here count seen =
    ap Some (seen ∙ ap (λ (o : Option NameText). record { name = o; payload = n.payload; pv = n.pv; cv = n.cv; kids = k }) (last_is p names above x y same parts own))
    ∙ (seen-there (from_sorted ps) p n k (below-get ps mid rs p names above x n nest same parts up down here) (below-kids ps mid rs p names above x k nest same parts up down count) ∙ ap (λ (U : Tree). seen_at U p) is)

-- where a node stands something is seen
pub stands_seen : (T : Tree) (p : List NameText) → IsTrue (stands T p) → None ≡ seen_at T p → ⊥
stands_seen T p there none = absurd (cc (there, ap is_some (unseen T p none)))

-- the same node, with as many children, in another tree
pub seen-same : (B T : Tree) (p : List NameText) (v : NodeView) → get T p ≡ Some (node_of v) → get B p ≡ get T p → Some (as_seen v) ≡ seen_at B p → kids B p ≡ kids T p → Some (as_seen v) ≡ seen_at T p
seen-same B T p v found same seen count = seen ∙ (sym (seen-there B p (node_of v) (kids B p) (same ∙ found) refl) ∙ seen-there T p (node_of v) (kids B p) found count)

-- something is seen exactly where a node stands
pub seen-stands : (T : Tree) (p : List NameText) (o : Option NodeView) → seen_of o ≡ seen_at T p → is_some o ≡ stands T p
unfolding seen_at
seen-stands T p None seen = sym (ap is_some (unseen T p seen))
seen-stands T p (Some v) seen = elim (get T p) as (λ o. get T p ≡ o → true ≡ is_some o) [
  | None ↦ λ h. absurd (cc (seen, ap (seen_node T p) h))
  | Some n ↦ λ h. refl
] refl

pub node_same : {x y : Node} → Some x ≡ Some y → x ≡ y
node_same e = cc

-- ---- children

-- the child that comes next below a node, as the tree has it
pub child-next : (ps rs : Rows Node) (p : List NameText) (after o : Option NameText) → IsNest name_cmp ps → IsSub p ps rs → IsNext name_cmp (λ n. IsTrue (is_some (find path_cmp (n ∷ []) rs))) after o → IsNext name_cmp (HasChild (from_sorted {R = path_cmp} ps) p) after o
child-next ps rs p after o nest sub next =
    subst (λ (f : NameText → Bool). IsNext name_cmp (λ n. IsTrue (f n)) after o)
    (λ i n. (ap is_some (sub.finds (n ∷ []) ∙ sym (get-rows ps (p ++ n ∷ []) nest))) i) next

-- the number of children that is seen
pub seen-kids : (T : Tree) (p : List NameText) (v : NodeView) → Some (as_seen v) ≡ seen_at T p → get T p ≡ Some (node_of v) → v.kids ≡ kids T p
seen-kids T p v seen found =
    let there : as_seen v ≡ sight p (node_of v) (kids T p) = some_is (seen ∙ sym (seen-there T p (node_of v) (kids T p) found refl)) in
    ap (λ (s : Seen). s.kids) there
  where
    some_is : {x y : Seen} → Some x ≡ Some y → x ≡ y
    some_is e = cc
