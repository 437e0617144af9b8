-- The children of each path of a draft.
use Rattle.std.proofs.Common.{◌≡◌, inl, inr, ℕ, zero, suc, ◌+◌, ◌<◌, Bool, true, false, cond, not, List, [], ◌∷◌, ◌++◌, length, length-append, take, refl, sym, ap, subst, ◌∙◌, arith, Option, Some, None, ◌&&◌, ◌||◌}
use Rattle.std.specs.Prelude.{IsTrue, is_some}
use Rattle.std.specs.Map.{lookup}
use Rattle.std.specs.BTreeMap.{BTreeMap, UpdatesBy, is_at}
use Rattle.std.specs.Ordering.{is_eq, eq_by_cmp}
use Rattle.std.specs.declared.cmp.Ordering.{Ordering}
use Rattle.std.specs.Cmp.{tied_itself}
use Rattle.std.specs.FinMap.{get, len, insert, remove, find, get-insert, get-remove, len-insert}
use Rattle.std.proofs.Math.Nat.{eq-or-lt_of_le}
use Rattle.std.proofs.lemmas.List.{take_all}
use Rattle.khepri_terms.specs.Terms.{NameText}
use Rattle.khepri_terms.specs.Order.{name_cmp, path_cmp}
use Rattle.khepri_types.specs.declared.node.Node.{Node}
use Rattle.khepri_types.specs.Sizes.{kids}
use Rattle.khepri_types.specs.Tree.{Tree, IsTree, stands}
use Rattle.khepri_types.specs.Paths.{is_child}
use Rattle.khepri_types.proofs.Order.{name_cmp_total, name_cmp-same, path_cmp_total, path_cmp-same}
use Rattle.khepri_types.proofs.Fronts.{child_long, child_taken, one_parent}
use Rattle.khepri_types.proofs.Trees.{tie_is}
use Rattle.khepri_types.proofs.Growing.{get_some, tree-insert}
use Rattle.nested_nodes.specs.Marks.{told, is_gone, is_here}
use Rattle.nested_nodes.proofs.Rows.{find_lookup}
use Rattle.tree_overlay.specs.declared.brood.Brood.{Brood}
use Rattle.tree_overlay.specs.Over.{over}
use Rattle.tree_overlay.specs.Broods.{marks_of, count_of, look, IsDrafted, SameLooks, SameCounts, Marks}
use Rattle.tree_overlay.proofs.Overlay.{Map, over-put}
use Rattle.tree_overlay.proofs.Applying.{take_front}
use Rattle.tree_overlay.proofs.Counting.{flag, kids-new, kids-none, kids-old, kids-gone, len-gone}

abbrev pub Brooding : Type 0
Brooding = BTreeMap (List NameText) Brood

-- ---- what is read

-- a draft that is the tree itself
pub drafted-none : (B : Tree) (nodes : ℕ) → IsTree B → nodes ≡ len B → IsDrafted B B [] nodes
drafted-none B nodes tree count = record { tree = tree; counted = count; names = λ p m. refl; kids = λ p. refl }

pub brood_there : (m : Brooding) (p : List NameText) (b : Brood) → Some b ≡ lookup (is_at (path_cmp p)) m.entries → find path_cmp p m.entries ≡ Some b
brood_there m p b there = find_lookup path_cmp p m.entries ∙ sym there

pub brood_not : (m : Brooding) (p : List NameText) → None ≡ lookup (is_at (path_cmp p)) m.entries → find path_cmp p m.entries ≡ None
brood_not m p none = find_lookup path_cmp p m.entries ∙ sym none

told_is : (o : Option Bool) (s : Bool) → ((s && not (not (told o true))) || told o false) ≡ told o s
told_is None true = refl
told_is None false = refl
told_is (Some true) true = refl
told_is (Some true) false = refl
told_is (Some false) true = refl
told_is (Some false) false = refl

-- a child stands that was there and has not gone, and one that came
pub either_stands : (B T : Tree) (m : Brooding) (nodes : ℕ) (p : List NameText) (b : Brood) → IsDrafted B T m.entries nodes → Some b ≡ lookup (is_at (path_cmp p)) m.entries
    → (n : NameText) → ((stands B (p ++ n ∷ []) && not (is_gone b.names.entries n)) || is_here b.names.entries n) ≡ stands T (p ++ n ∷ [])
either_stands B T m nodes p b d there n =
    told_is (find name_cmp n b.names.entries) (stands B (p ++ n ∷ []))
    ∙ sym (d.names p n ∙ ap (λ (o : Option Brood). told (find name_cmp n (marks_of o)) (stands B (p ++ n ∷ []))) (brood_there m p b there))

-- with no marks the children are those of the tree
pub same_stands : (B T : Tree) (m : Brooding) (nodes : ℕ) (p : List NameText) → IsDrafted B T m.entries nodes → None ≡ lookup (is_at (path_cmp p)) m.entries
    → (n : NameText) → stands B (p ++ n ∷ []) ≡ stands T (p ++ n ∷ [])
same_stands B T m nodes p d none n = sym (d.names p n ∙ ap (λ (o : Option Brood). told (find name_cmp n (marks_of o)) (stands B (p ++ n ∷ []))) (brood_not m p none))

pub count_there : (B T : Tree) (m : Brooding) (nodes : ℕ) (p : List NameText) (b : Brood) → IsDrafted B T m.entries nodes → Some b ≡ lookup (is_at (path_cmp p)) m.entries → b.count ≡ kids T p
count_there B T m nodes p b d there = sym (ap (count_of B p) (brood_there m p b there)) ∙ d.kids p

pub count_not : (B T : Tree) (m : Brooding) (nodes : ℕ) (p : List NameText) → IsDrafted B T m.entries nodes → None ≡ lookup (is_at (path_cmp p)) m.entries → kids B p ≡ kids T p
count_not B T m nodes p d none = sym (ap (count_of B p) (brood_not m p none)) ∙ d.kids p

-- ---- another node at a standing path

stands-old : (T : Tree) (p : List NameText) (x : Node) (q : List NameText) → IsTrue (stands T p) → stands (insert T p x) q ≡ stands T q
stands-old T p x q there = ap is_some (get-insert path_cmp_total T p x q) ∙ elim (eq_by_cmp path_cmp q p) as (λ b. eq_by_cmp path_cmp q p ≡ b → is_some (cond b (Some x) (get T q)) ≡ stands T q) [
  | true ↦ λ t. sym (ap (stands T) (path_cmp-same q p (tie_is _ t)) ∙ there)
  | false ↦ λ t. refl
] refl

pub drafted-old : (B : Tree) (m n : Map) (bs : List (List NameText × Brood)) (p : List NameText) (x : Node) (nodes : ℕ) → IsDrafted B (over B m.entries) bs nodes → IsTrue (stands (over B m.entries) p) → UpdatesBy path_cmp (path_cmp p) m n (Some (Some x))
    → IsDrafted B (over B n.entries) bs nodes
drafted-old B m n bs p x nodes d there up =
    let T = over B m.entries in
    let w = get_some (get T p) there in
    subst (λ (U : Tree). IsDrafted B U bs nodes) (sym (over-put B m n p (Some x) up))
    (record {
      tree = tree-insert T p x d.tree (λ i lt. d.tree.fronts p i (omega (arith, lt)) there);
      counted = d.counted ∙ sym (len-insert path_cmp_total T p x ∙ ap (λ (b : Bool). cond b (len T) (len T + 1)) there);
      names = λ q k. stands-old T p x (q ++ k ∷ []) there ∙ d.names q k;
      kids = λ q. d.kids q ∙ sym (kids-old T p x w.0 q w.1);
    })

-- ---- a node at a missing path

-- the marks say the same, so what is known stays known
pub drafted-alike : (B T : Tree) (bs cs : List (List NameText × Brood)) (nodes : ℕ) → IsDrafted B T bs nodes → SameLooks bs cs → SameCounts B bs cs → IsDrafted B T cs nodes
drafted-alike B T bs cs nodes d looks counts = record {
  tree = d.tree;
  counted = d.counted;
  names = λ p m. d.names p m ∙ ap (λ (o : Option Bool). told o (stands B (p ++ m ∷ []))) (sym (looks p m));
  kids = λ p. counts p ∙ d.kids p;
}

both_eq : (a b : Bool) → (a && b) ≡ true → (a ≡ true) × (b ≡ true)
both_eq true b h = (refl, h)
both_eq false b h = absurd cc

-- a mark that tells what is so
pub drafted-marked : (B T : Tree) (bs cs : List (List NameText × Brood)) (nodes : ℕ) (above : List NameText) (x : NameText) (here : Bool) → IsDrafted B T bs nodes → stands T (above ++ x ∷ []) ≡ here → Marks above x here bs cs → SameCounts B bs cs → IsDrafted B T cs nodes
drafted-marked B T bs cs nodes above x here d so marks counts = record {
  tree = d.tree;
  counted = d.counted;
  names = λ q m. elim (is_eq (path_cmp above q) && is_eq (name_cmp x m)) as (λ t. (is_eq (path_cmp above q) && is_eq (name_cmp x m)) ≡ t → stands T (q ++ m ∷ []) ≡ told (cond t (Some here) (look bs q m)) (stands B (q ++ m ∷ []))) [
    | true ↦ λ t.
        let e = both_eq (is_eq (path_cmp above q)) (is_eq (name_cmp x m)) t in
        ap (stands T) (λ i. sym (path_cmp-same above q (tie_is _ e.0)) i ++ sym (name_cmp-same x m (tie_is _ e.1)) i ∷ []) ∙ so
    | false ↦ λ t. d.names q m
  ] refl ∙ ap (λ (o : Option Bool). told o (stands B (q ++ m ∷ []))) (sym (marks q m));
  kids = λ q. counts q ∙ d.kids q;
}

-- one path is one parent's child
snoc_same : (p q : List NameText) (m n : NameText) → p ++ m ∷ [] ≡ q ++ n ∷ [] → (p ≡ q) × (m ≡ n)
snoc_same [] [] m n e = (refl, cc)
snoc_same [] (y ∷ []) m n e = absurd cc
snoc_same [] (y ∷ z ∷ q) m n e = absurd cc
snoc_same (x ∷ []) [] m n e = absurd cc
snoc_same (x ∷ z ∷ p) [] m n e = absurd cc
snoc_same (x ∷ p) (y ∷ q) m n e =
    let first : x ≡ y = cc in
    let rest : p ++ m ∷ [] ≡ q ++ n ∷ [] = cc in
    let both = snoc_same p q m n rest in
    ((λ i. first i ∷ both.0 i), both.1)

pub child_of : (p : List NameText) (n : NameText) → is_child p (p ++ n ∷ []) ≡ true
unfolding is_child
child_of [] n = refl
child_of (x ∷ p) n = ap (λ (r : Ordering). is_eq r && is_child p (p ++ n ∷ [])) (tied_itself name_cmp_total x) ∙ child_of p n

not_child : (q p : List NameText) (n : NameText) → (q ≡ p → ⊥) → is_child q (p ++ n ∷ []) ≡ false
not_child q p n ne = elim (is_child q (p ++ n ∷ [])) as (λ t. is_child q (p ++ n ∷ []) ≡ t → t ≡ false) [
  | true ↦ λ t. absurd (ne (one_parent q p (p ++ n ∷ []) t (child_of p n)))
  | false ↦ λ t. refl
] refl

tied_path : (p : List NameText) → is_eq (path_cmp p p) ≡ true
tied_path p = ap is_eq (tied_itself path_cmp_total p)

other_mark : (above : List NameText) (x : NameText) (p q : List NameText) (k : NameText) → p ≡ above ++ x ∷ [] → eq_by_cmp path_cmp (q ++ k ∷ []) p ≡ false → (is_eq (path_cmp above q) && is_eq (name_cmp x k)) ≡ false
other_mark above x p q k parts t = elim (is_eq (path_cmp above q) && is_eq (name_cmp x k)) as (λ b. (is_eq (path_cmp above q) && is_eq (name_cmp x k)) ≡ b → b ≡ false) [
  | true ↦ λ e.
      let s = both_eq (is_eq (path_cmp above q)) (is_eq (name_cmp x k)) e in
      let is : q ++ k ∷ [] ≡ p = (λ i. sym (path_cmp-same above q (tie_is _ s.0)) i ++ sym (name_cmp-same x k (tie_is _ s.1)) i ∷ []) ∙ sym parts in
      absurd (cc (t, ap (λ (r : List NameText). eq_by_cmp path_cmp r p) is, tied_path p))
  | false ↦ λ e. refl
] refl

-- a child came, and is marked and counted
pub drafted-new : (B : Tree) (m n : Map) (bs cs : List (List NameText × Brood)) (above : List NameText) (x : NameText) (p : List NameText) (v : Node) (nodes count : ℕ) → p ≡ above ++ x ∷ [] → IsDrafted B (over B m.entries) bs nodes
    → ((i : ℕ) → i < length p → IsTrue (stands (over B m.entries) (take i p))) → get (over B m.entries) p ≡ None → UpdatesBy path_cmp (path_cmp p) m n (Some (Some v))
    → Marks above x true bs cs → ((q : List NameText) → count_of B q (find path_cmp q cs) ≡ cond (is_eq (path_cmp above q)) count (count_of B q (find path_cmp q bs))) → count ≡ kids (over B m.entries) above + 1
    → IsDrafted B (over B n.entries) cs (nodes + 1)
drafted-new B m n bs cs above x p v nodes count parts d fronts none up marks counts more =
    let T = over B m.entries in
    subst (λ (U : Tree). IsDrafted B U cs (nodes + 1)) (sym (over-put B m n p (Some v) up))
    (record {
      tree = tree-insert T p v d.tree fronts;
      counted = ap (λ (k : ℕ). k + 1) d.counted ∙ sym (len-insert path_cmp_total T p v ∙ ap (λ (o : Option Node). cond (is_some o) (len T) (len T + 1)) none);
      names = λ q k. ap is_some (get-insert path_cmp_total T p v (q ++ k ∷ [])) ∙ (elim (eq_by_cmp path_cmp (q ++ k ∷ []) p) as (λ t. eq_by_cmp path_cmp (q ++ k ∷ []) p ≡ t → is_some (cond t (Some v) (get T (q ++ k ∷ []))) ≡ told (cond (is_eq (path_cmp above q) && is_eq (name_cmp x k)) (Some true) (look bs q k)) (stands B (q ++ k ∷ []))) [
        | true ↦ λ t.
            let same = snoc_same q above k x (path_cmp-same (q ++ k ∷ []) p (tie_is _ t) ∙ parts) in
            sym (ap (λ (b : Bool). told (cond b (Some true) (look bs q k)) (stands B (q ++ k ∷ [])))
            ((λ i. is_eq (path_cmp above (same.0 i)) && is_eq (name_cmp x (same.1 i))) ∙ (λ i. tied_path above i && is_eq (tied_itself name_cmp_total x i))))
        | false ↦ λ t.
            d.names q k ∙ sym (ap (λ (b : Bool). told (cond b (Some true) (look bs q k)) (stands B (q ++ k ∷ []))) (other_mark above x p q k parts t))
      ] refl ∙ ap (λ (o : Option Bool). told o (stands B (q ++ k ∷ []))) (sym (marks q k)));
      kids = λ q. counts q ∙ (elim (is_eq (path_cmp above q)) as (λ t. is_eq (path_cmp above q) ≡ t → cond t count (count_of B q (find path_cmp q bs)) ≡ kids T q + flag q (p, v)) [
        | true ↦ λ t.
            let same = path_cmp-same above q (tie_is _ t) in
            more ∙ ((λ i. kids T (same i) + 1) ∙ sym (ap {B = ℕ} (λ (b : Bool). kids T q + cond b 1 0) ((λ i. is_child (sym same i) (parts i)) ∙ child_of above x)))
        | false ↦ λ t.
            d.kids q ∙ sym (ap {B = ℕ} (λ (b : Bool). kids T q + cond b 1 0) (ap (is_child q) parts ∙ not_child q above x (λ e. absurd (cc (t, ap (λ (r : List NameText). is_eq (path_cmp above r)) e, tied_path above)))) ∙ omega arith)
      ] refl ∙ sym (kids-new T p v q none));
    })

-- the path, from its last name and what is above
pub parts_of : (p names a above : List NameText) (x : NameText) (n : ℕ) → names ≡ p → names ≡ a ++ x ∷ [] → length a + 1 ≡ length names → above ≡ take n p → n + 1 ≡ length p → p ≡ above ++ x ∷ []
parts_of p names a above x n same parts long front e =
    let whole : p ≡ a ++ x ∷ [] = sym same ∙ parts in
    let much : n ≡ length a = omega (arith, e, long, ap length same) in
    let is : above ≡ a = front ∙ ((λ i. take (much i) (whole i)) ∙ take_front a (x ∷ [])) in
    whole ∙ ap (λ (b : List NameText). b ++ x ∷ []) (sym is)

-- the child that was marked has a mark
pub marked_there : (p : List NameText) (x : NameText) (here : Bool) (bs cs : List (List NameText × Brood)) → Marks p x here bs cs → IsTrue (is_some (look cs p x))
marked_there p x here bs cs marks = ap is_some (marks p x ∙ (λ i. cond (tied_path p i && is_eq (tied_itself name_cmp_total x i)) (Some here) (look bs p x)))

-- a draft once a missing child of a path is marked as such
pub drafted-ready : (B T : Tree) (bs cs ds : List (List NameText × Brood)) (nodes count : ℕ) (above p : List NameText) (x : NameText) → p ≡ above ++ x ∷ [] → IsDrafted B T bs nodes → get T p ≡ None → count ≡ kids T above
    → SameLooks bs cs → ((C : Tree) → count ≡ count_of C above (find path_cmp above bs) → SameCounts C bs cs) → Marks above x false cs ds → ((C : Tree) → SameCounts C cs ds) → IsDrafted B T ds nodes
drafted-ready B T bs cs ds nodes count above p x parts d none known looks counts marks more =
    drafted-marked B T cs ds nodes above x false (drafted-alike B T bs cs nodes d looks (counts B (known ∙ sym (d.kids above)))) (ap (stands T) (sym parts) ∙ ap is_some none) marks (more B)

-- ---- a node goes

next_name : (q : List NameText) (i : ℕ) → i < length q → (m : NameText) × (take (suc i) q ≡ take i q ++ m ∷ [])
next_name [] i lt = absurd (omega arith)
next_name (x ∷ q) zero lt = (x, refl)
next_name (x ∷ q) (suc i) lt = let rest = next_name q i (omega (arith, lt)) in (rest.0, ap (λ (r : List NameText). x ∷ r) rest.1)

-- what stands once a path is taken out
pub stands-gone : (T : Tree) (p q : List NameText) → stands (remove T p) q ≡ cond (eq_by_cmp path_cmp q p) false (stands T q)
stands-gone T p q = ap is_some (get-remove path_cmp_total T p q) ∙ elim (eq_by_cmp path_cmp q p) as (λ b. is_some (cond b None (get T q)) ≡ cond b false (stands T q)) [ true ↦ refl | false ↦ refl ]

pub stays-other : (T : Tree) (p q : List NameText) → IsTrue (stands T q) → (q ≡ p → ⊥) → IsTrue (stands (remove T p) q)
stays-other T p q there ne = stands-gone T p q ∙ elim (eq_by_cmp path_cmp q p) as (λ b. eq_by_cmp path_cmp q p ≡ b → cond b false (stands T q) ≡ true) [
  | true ↦ λ t. absurd (ne (path_cmp-same q p (tie_is _ t)))
  | false ↦ λ t. there
] refl

pub stood : (T : Tree) (p q : List NameText) → IsTrue (stands (remove T p) q) → IsTrue (stands T q) × (q ≡ p → ⊥)
stood T p q h = elim (eq_by_cmp path_cmp q p) as (λ b. eq_by_cmp path_cmp q p ≡ b → cond b false (stands T q) ≡ true → IsTrue (stands T q) × (q ≡ p → ⊥)) [
  | true ↦ λ t g. absurd cc
  | false ↦ λ t g. (g, λ e. absurd (cc (t, ap (λ (r : List NameText). eq_by_cmp path_cmp r p) e, tied_path p)))
] refl (sym (stands-gone T p q) ∙ h)

-- without a path that has no child it is a tree still
pub tree-gone : (T : Tree) (p : List NameText) → IsTree T → 0 < length p → ((m : NameText) → stands T (p ++ m ∷ []) ≡ false) → IsTree (remove T p)
tree-gone T p tree below alone = record {
  root = stays-other T p [] tree.root (λ e. absurd (omega (arith, below, ap length e)));
  fronts = λ q i le h.
      let was = stood T p q h in
      stays-other T p (take i q) (tree.fronts q i le was.0) (λ e. elim (eq-or-lt_of_le le) as (λ _. ⊥) [
        | inl same ↦ was.1 (sym (take_all i q (omega (arith, same))) ∙ e)
        | inr less ↦
            let next = next_name q i less in
            absurd (cc (tree.fronts q (suc i) (omega (arith, less)) was.0, ap (stands T) (next.1 ∙ ap (λ (r : List NameText). r ++ next.0 ∷ []) e), alone next.0))
      ]);
}

-- the child is marked as gone, and counted no more
pub drafted-gone : (B : Tree) (m n : Map) (bs cs : List (List NameText × Brood)) (above : List NameText) (x : NameText) (p : List NameText) (w : Node) (nodes count : ℕ) → p ≡ above ++ x ∷ [] → IsDrafted B (over B m.entries) bs (nodes + 1)
    → 0 < length p → ((k : NameText) → stands (over B m.entries) (p ++ k ∷ []) ≡ false) → get (over B m.entries) p ≡ Some w → UpdatesBy path_cmp (path_cmp p) m n (Some None)
    → Marks above x false bs cs → ((q : List NameText) → count_of B q (find path_cmp q cs) ≡ cond (is_eq (path_cmp above q)) count (count_of B q (find path_cmp q bs))) → count + 1 ≡ kids (over B m.entries) above
    → IsDrafted B (over B n.entries) cs nodes
drafted-gone B m n bs cs above x p w nodes count parts d below alone some up marks counts less =
    let T = over B m.entries in
    subst (λ (U : Tree). IsDrafted B U cs nodes) (sym (over-put B m n p None up))
    (record {
      tree = tree-gone T p d.tree below alone;
      counted = omega (arith, d.counted, len-gone T p w some);
      names = λ q k. stands-gone T p (q ++ k ∷ []) ∙ (elim (eq_by_cmp path_cmp (q ++ k ∷ []) p) as (λ t. eq_by_cmp path_cmp (q ++ k ∷ []) p ≡ t → cond t false (stands T (q ++ k ∷ [])) ≡ told (cond (is_eq (path_cmp above q) && is_eq (name_cmp x k)) (Some false) (look bs q k)) (stands B (q ++ k ∷ []))) [
        | true ↦ λ t.
            let same = snoc_same q above k x (path_cmp-same (q ++ k ∷ []) p (tie_is _ t) ∙ parts) in
            sym (ap (λ (b : Bool). told (cond b (Some false) (look bs q k)) (stands B (q ++ k ∷ [])))
            ((λ i. is_eq (path_cmp above (same.0 i)) && is_eq (name_cmp x (same.1 i))) ∙ (λ i. tied_path above i && is_eq (tied_itself name_cmp_total x i))))
        | false ↦ λ t.
            d.names q k ∙ sym (ap (λ (b : Bool). told (cond b (Some false) (look bs q k)) (stands B (q ++ k ∷ []))) (other_mark above x p q k parts t))
      ] refl ∙ ap (λ (o : Option Bool). told o (stands B (q ++ k ∷ []))) (sym (marks q k)));
      kids = λ q. counts q ∙ elim (is_eq (path_cmp above q)) as (λ t. is_eq (path_cmp above q) ≡ t → cond t count (count_of B q (find path_cmp q bs)) ≡ kids (remove T p) q) [
        | true ↦ λ t.
            let same = path_cmp-same above q (tie_is _ t) in
            let one : flag q (p, w) ≡ 1 = ap {B = ℕ} (λ (b : Bool). cond b 1 0) ((λ i. is_child (sym same i) (parts i)) ∙ child_of above x) in
            let all : kids T above ≡ kids T q = ap (kids T) same in
            omega (arith, less, all, one, kids-gone T p w q some)
        | false ↦ λ t.
            let none : flag q (p, w) ≡ 0 = ap {B = ℕ} (λ (b : Bool). cond b 1 0) (ap (is_child q) parts ∙ not_child q above x (λ e. absurd (cc (t, ap (λ (r : List NameText). is_eq (path_cmp above r)) e, tied_path above)))) in
            omega (arith, d.kids q, none, kids-gone T p w q some)
      ] refl;
    })

-- a standing child of a path is one of its children
pub some_kids : (T : Tree) (above p : List NameText) (x : NameText) (w : Node) → p ≡ above ++ x ∷ [] → get T p ≡ Some w → 0 < kids T above
some_kids T above p x w parts some =
    let one : flag above (p, w) ≡ 1 = ap {B = ℕ} (λ (b : Bool). cond b 1 0) (ap (is_child above) parts ∙ child_of above x) in
    omega (arith, one, kids-gone T p w above some)

-- a draft once a standing child of a path is marked as such
pub drafted-known : (B T : Tree) (bs cs ds : List (List NameText × Brood)) (nodes count : ℕ) (above p : List NameText) (x : NameText) → p ≡ above ++ x ∷ [] → IsDrafted B T bs nodes → IsTrue (stands T p) → count ≡ kids T above
    → SameLooks bs cs → ((C : Tree) → count ≡ count_of C above (find path_cmp above bs) → SameCounts C bs cs) → Marks above x true cs ds → ((C : Tree) → SameCounts C cs ds) → IsDrafted B T ds nodes
drafted-known B T bs cs ds nodes count above p x parts d there known looks counts marks more =
    drafted-marked B T cs ds nodes above x true (drafted-alike B T bs cs nodes d looks (counts B (known ∙ sym (d.kids above)))) (ap (stands T) (sym parts) ∙ there) marks (more B)

-- a child is the path and one name more
child_name : (p q : List NameText) → is_child p q ≡ true → (m : NameText) × (q ≡ p ++ m ∷ [])
child_name p q t =
    let next = next_name q (length p) (omega (arith, child_long p q t)) in
    (next.0, sym (take_all (suc (length p)) q (omega (arith, child_long p q t))) ∙ (next.1 ∙ ap (λ (r : List NameText). r ++ next.0 ∷ []) (child_taken p q t)))

-- a path of which no child stands has none
pub no_kids : (T : Tree) (p : List NameText) → ((m : NameText) → IsTrue (stands T (p ++ m ∷ [])) → ⊥) → kids T p ≡ 0
no_kids T p none = kids-none T p (λ q h. elim (is_child p q) as (λ t. is_child p q ≡ t → t ≡ false) [
  | true ↦ λ t. let n = child_name p q t in absurd (none n.0 (sym (ap (stands T) n.1) ∙ h))
  | false ↦ λ t. refl
] refl)

-- a path at which no node stands has none
pub missing_kids : (T : Tree) (p : List NameText) → IsTree T → get T p ≡ None → kids T p ≡ 0
missing_kids T p tree none = no_kids T p (λ m h. absurd (cc (none, tree.fronts (p ++ m ∷ []) (length p) (omega (arith, length-append p (m ∷ []))) h, ap (stands T) (take_front p (m ∷ [])))))
