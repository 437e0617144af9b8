-- The way to a missing path, made node by node.
use Rattle.std.proofs.Common.{◌≡◌, inl, inr, ℕ, suc, ◌+◌, ◌-◌, ◌<◌, ◌≤◌, cond, Bool, true, false, List, [], ◌∷◌, length, take, refl, sym, ap, subst, arith, ◌∙◌, Option, Some, None}
use Rattle.std.specs.Prelude.{IsTrue, is_some}
use Rattle.std.specs.FinMap.{get, insert}
use Rattle.std.proofs.lemmas.List.{take_all, take-take, length-take-le}
use Rattle.khepri_terms.specs.Terms.{NameText}
use Rattle.khepri_types.specs.declared.node.Node.{Node}
use Rattle.khepri_types.specs.declared.node.Payload.{Payload}
use Rattle.khepri_types.specs.declared.node.Payload.TheVariants.{Empty}
use Rattle.khepri_types.specs.Exec.{pv_of}
use Rattle.khepri_types.specs.Paths.{is_child}
use Rattle.khepri_types.specs.Sizes.{kids}
use Rattle.khepri_types.specs.Tree.{Tree, IsTree, stands, fresh, raised_children, way_node, end_node, set_from, set}
use Rattle.khepri_types.proofs.Trees.{get-inserted, get-other, front-length, set_from-end, set_from-more, set-at_path}
use Rattle.khepri_types.proofs.Fronts.{child_long}
use Rattle.khepri_types.proofs.Growing.{Missing, get_none, passed-missing, missing-passed, set_from-skip}
use Rattle.tree_overlay.specs.Measures.{HasSiblings}
use Rattle.tree_overlay.proofs.Counting.{kids-new}
use Rattle.tree_overlay.proofs.Hatching.{missing_kids}

-- a missing front has no longer one that stands
pub missing_on : (T : Tree) (p : List NameText) (i : ℕ) → IsTree T → get T (take i p) ≡ None → Missing T p i
missing_on T p i tree none j le top = get_none (get T (take j p)) (elim (stands T (take j p)) as (λ b. stands T (take j p) ≡ b → stands T (take j p) ≡ false) [
  | true ↦ λ h. absurd (cc (subst (λ (q : List NameText). IsTrue (stands T q)) (take-take i j p le) (tree.fronts (take j p) i (omega (arith, length-take-le j p top)) h), ap is_some none))
  | false ↦ λ h. h
] refl)

-- where the root stands, a missing path has a name
pub absent_below : (T : Tree) (p : List NameText) → IsTree T → get T p ≡ None → 0 < length p
absent_below T [] tree none = absurd (cc (tree.root, ap is_some none))
absent_below T (n ∷ p) tree none = omega arith

-- all fronts of a standing front stand
pub fronts_stand : (T : Tree) (p : List NameText) (i j : ℕ) → IsTree T → j ≤ i → i ≤ length p → IsTrue (stands T (take i p)) → IsTrue (stands T (take j p))
fronts_stand T p i j tree le top h = subst (λ (q : List NameText). IsTrue (stands T q)) (take-take j i p le) (tree.fronts (take i p) j (omega (arith, le, length-take-le i p top)) h)

-- the fronts of the next path that is made stand
pub parents_stand : (T : Tree) (p q : List NameText) (k : ℕ) → IsTree T → IsTrue (stands T (take k p)) → k < length p → q ≡ take (k + 1) p → (i : ℕ) → i < length q → IsTrue (stands T (take i q))
parents_stand T p q k tree there lt is i less =
    let long : length q ≡ k + 1 = ap length is ∙ length-take-le (k + 1) p (omega (arith, lt)) in
    let same : take i q ≡ take i p = ap (take i) is ∙ take-take i (k + 1) p (omega (arith, less, long)) in
    subst (λ (r : List NameText). IsTrue (stands T r)) (sym same) (fronts_stand T p k i tree (omega (arith, less, long)) (omega (arith, lt)) there)

pub front_size : (p q : List NameText) (k : ℕ) → k < length p → q ≡ take (k + 1) p → length q ≡ k + 1
front_size p q k lt is = ap length is ∙ length-take-le (k + 1) p (omega (arith, lt))

-- from the standing front of i names, n more fronts are made empty and then p itself: then the tree is the whole one
pub record Way (T : Tree) (p : List NameText) (x : Payload) (i n : ℕ) (whole : Tree) : Type 0 where
  pub standing : IsTrue (stands T (take i p))
  pub missing : Missing T p (i + 1)
  pub same : set_from n (i + 1) T p x ≡ whole

pub way-begin : (T : Tree) (p : List NameText) (x : Payload) (i n : ℕ) → IsTree T → IsTrue (stands T (take i p)) → get T (take (i + 1) p) ≡ None → Way T p x i n (set_from n (i + 1) T p x)
way-begin T p x i n tree there none = record { standing = there; missing = missing_on T p (i + 1) tree none; same = refl }

pub way-step : (T U : Tree) (p q : List NameText) (x : Payload) (v : Node) (i n m : ℕ) (whole : Tree) → Way T p x i m whole → m ≡ suc n → m + i + 1 ≡ length p → q ≡ take (i + 1) p → v ≡ fresh Empty → U ≡ insert T q v → Way U p x (i + 1) n whole
way-step T U p q x v i n m whole w more e is new made =
    let r : List NameText = take (i + 1) p in
    let none : get T r ≡ None = w.missing (i + 1) (omega arith) (omega (arith, e)) in
    let tree : U ≡ insert T r (fresh Empty) = made ∙ (λ j. insert T (is j) (new j)) in
    record {
      standing = ap (λ (V : Tree). stands V r) tree ∙ ap is_some (get-inserted T r (fresh Empty));
      missing = subst (λ (V : Tree). Missing V p (i + 1 + 1)) (sym tree) (missing-passed T p (i + 1) (fresh Empty) (omega (arith, e, more)) w.missing);
      same = ap (λ (V : Tree). set_from n (i + 1 + 1) V p x) tree
          ∙ (sym (ap (λ (k : ℕ). set_from k (i + 1) T p x) more ∙ (set_from-more n (i + 1) T p x ∙ ap (λ (V : Tree). set_from n (i + 1 + 1) V p x) (passed-missing T p (i + 1) none))) ∙ w.same);
    }

pub way-done : (T U : Tree) (p : List NameText) (x : Payload) (v : Node) (i m : ℕ) (whole : Tree) → Way T p x i m whole → m ≡ 0 → i + 1 ≡ length p → v ≡ fresh x → U ≡ insert T p v → U ≡ whole
way-done T U p x v i m whole w end e new made =
    let all : take (i + 1) p ≡ p = take_all (i + 1) p (omega (arith, e)) in
    let none : get T p ≡ None = sym (ap (get T) all) ∙ w.missing (i + 1) (omega arith) (omega (arith, e)) in
    made ∙ (ap (insert T p) new ∙ (sym (ap (λ (k : ℕ). set_from k (i + 1) T p x) end ∙ (set_from-end (i + 1) T p x ∙ ap (λ (o : Option Node). insert T p (end_node o x)) none)) ∙ w.same))

-- the last one is missing
pub way-last : (T : Tree) (p : List NameText) (x : Payload) (i m : ℕ) (whole : Tree) → Way T p x i m whole → i + 1 ≡ length p → get T p ≡ None
way-last T p x i m whole w e = sym (ap (get T) (take_all (i + 1) p (omega (arith, e)))) ∙ w.missing (i + 1) (omega arith) (omega (arith, e))

-- and so is the next one
pub way-next : (T : Tree) (p q : List NameText) (x : Payload) (i m : ℕ) (whole : Tree) → Way T p x i m whole → i + 1 ≤ length p → q ≡ take (i + 1) p → get T q ≡ None
way-next T p q x i m whole w le is = ap (get T) is ∙ w.missing (i + 1) (omega arith) le

-- the tree once the longest standing front was told
pub start_tree : (T : Tree) (p : List NameText) (x : Payload) (k n : ℕ) (m : Node) → IsTree T → n + k + 1 ≡ length p → get T (take k p) ≡ Some m → get T (take (k + 1) p) ≡ None
    → set_from n (k + 1) (insert T (take k p) (raised_children m)) p x ≡ set T p x
start_tree T p x k n m tree e here none =
    sym (ap (λ (j : ℕ). set_from j 0 T p x) {x = length p} {y = k + suc n} (omega (arith, e))
    ∙ (set_from-skip k (suc n) 0 T p x (omega (arith, e)) (λ j le. fronts_stand T p k j tree (omega (arith, le)) (omega (arith, e)) (ap is_some here))
    ∙ (ap (λ (j : ℕ). set_from (suc n) j T p x) {y = k} (omega arith)
    ∙ (set_from-more n k T p x
    ∙ ap (λ (U : Tree). set_from n (k + 1) U p x)
    (ap (λ (o : Option Node). insert T (take k p) (way_node o (stands T (take (k + 1) p)))) here ∙ ap (λ (b : Bool). insert T (take k p) (way_node (Some m) b)) (ap is_some none))))))

-- what stands and what is missing once it was told
pub told_stands : (T U : Tree) (p q : List NameText) (k : ℕ) (v : Node) → q ≡ take k p → U ≡ insert T q v → IsTrue (stands U (take k p))
told_stands T U p q k v is made = ap (λ (V : Tree). stands V (take k p)) (made ∙ ap (λ (r : List NameText). insert T r v) is) ∙ ap is_some (get-inserted T (take k p) v)

pub told_missing : (T U : Tree) (p q : List NameText) (k : ℕ) (v : Node) → k < length p → q ≡ take k p → U ≡ insert T q v → get T (take (k + 1) p) ≡ None → get U (take (k + 1) p) ≡ None
told_missing T U p q k v lt is made none =
    ap (λ (V : Tree). get V (take (k + 1) p)) made ∙ (get-other T q v (take (k + 1) p) (λ e. absurd (omega (arith, front-length p (k + 1) k (omega (arith, lt)) (omega (arith, lt)) (e ∙ is)))) ∙ none)

-- the whole change
pub grown_tree : (T U V : Tree) (p q : List NameText) (x y : Payload) (k n : ℕ) (m : Node) → IsTree T → n + k + 1 ≡ length p → q ≡ take k p → get T (take k p) ≡ Some m → get T (take (k + 1) p) ≡ None → U ≡ insert T q (raised_children m) → y ≡ x
    → V ≡ set_from n (k + 1) U p y → V ≡ set T p x
grown_tree T U V p q x y k n m tree e is here none told same made =
    made ∙ ((λ i. set_from n (k + 1) ((told ∙ ap (λ (r : List NameText). insert T r (raised_children m)) is) i) p (same i)) ∙ start_tree T p x k n m tree e here none)

-- a node that is made has version 1
pub version_made : (T U : Tree) (p : List NameText) (x : Payload) → get T p ≡ None → U ≡ set T p x → 1 ≡ pv_of (get U p)
version_made T U p x none built = sym (ap (λ (V : Tree). pv_of (get V p)) built ∙ (ap pv_of (set-at_path T p x) ∙ ap (λ (o : Option Node). pv_of (Some (end_node o x))) none))

-- ---- how many children the last one on the way has

-- the node on the way under which the next one is made
pub front_siblings : (T : Tree) (p q : List NameText) (k before : ℕ) → k < length p → q ≡ take (k + 1) p → before ≡ kids T (take k p) → HasSiblings T q before
front_siblings T p q k before lt is count =
    let long : length q ≡ k + 1 = front_size p q k lt is in
    let same : take (length q - 1) q ≡ take k p = (λ i. take (length q - 1) (is i)) ∙ (ap (λ (j : ℕ). take j (take (k + 1) p)) {x = length q - 1} {y = k} (omega (arith, long)) ∙ take-take k (k + 1) p (omega arith)) in
    count ∙ ap (kids T) (sym same)

-- no path is its own child
pub no_own_child : (q : List NameText) → is_child q q ≡ false
no_own_child q = elim (is_child q q) as (λ b. is_child q q ≡ b → b ≡ false) [
  | true ↦ λ t. absurd (omega (arith, child_long q q t))
  | false ↦ λ t. refl
] refl

-- a node that was made has no child
pub made_kids : (T U : Tree) (p q : List NameText) (v : Node) (k : ℕ) → IsTree T → get T q ≡ None → U ≡ insert T q v → q ≡ take (k + 1) p → 0 ≡ kids U (take (k + 1) p)
made_kids T U p q v k tree none made is =
    let off : is_child q q ≡ false = no_own_child q in
    let flag : cond (is_child q q) 1 0 ≡ 0 = ap {B = ℕ} (λ (b : Bool). cond b 1 0) off in
    let here : kids U q ≡ kids (insert T q v) q = ap (λ (V : Tree). kids V q) made in
    let there : kids U q ≡ kids U (take (k + 1) p) = ap (kids U) is in
    omega (arith, here, there, kids-new T q v q none, flag, missing_kids T q tree none)
