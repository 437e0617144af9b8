-- What setting a payload does to a tree and to its size, where the path stands and where it is missing.
use Rattle.std.proofs.Common.{◌≡◌, ◌⊎◌, inl, inr, ℕ, zero, suc, ◌+◌, ◌<◌, ◌≤◌, Bool, true, false, cond, List, [], ◌∷◌, length, take, refl, sym, ap, subst, ◌∙◌, arith, Option, Some, None}
use Rattle.std.specs.Prelude.{IsTrue, is_some}
use Rattle.std.specs.List.{sum_by}
use Rattle.std.specs.Ordering.{is_eq, eq_by_cmp}
use Rattle.std.specs.declared.cmp.Ordering.TheVariants.{Less, Equal, Greater}
use Rattle.std.specs.FinMap.{get, insert, entries, len, find, put, same_map, get-entries, entries-insert, len-insert}
use Rattle.std.specs.FinMap.Entries.{by_order}
use Rattle.std.proofs.lemmas.List.{take_all, length-take}
use Rattle.std.proofs.lemmas.List.Sums.{sum_by-cons, sum-map}
use Rattle.std.proofs.Math.Nat.{eq-or-lt_of_le}
use Rattle.khepri_terms.specs.Terms.{NameText}
use Rattle.khepri_terms.specs.Order.{path_cmp}
use Rattle.khepri_types.specs.declared.node.Node.{Node}
use Rattle.khepri_types.specs.declared.node.Payload.{Payload}
use Rattle.khepri_types.specs.declared.node.Payload.TheVariants.{Empty}
use Rattle.khepri_types.specs.Sizes.{node_bytes, bytes}
use Rattle.khepri_types.specs.Growth.{way_bytes}
use Rattle.khepri_types.specs.Tree.{Tree, IsTree, stands, fresh, written, end_node, way_node, passed, set_from, set}
use Rattle.khepri_types.proofs.Order.{path_cmp_total, path_cmp-same}
use Rattle.khepri_types.proofs.Trees.{tie_is, get-inserted, get-other, front-length, set_from-end, set_from-more, set-at_path, set-on_the_way, set-elsewhere}
use Rattle.khepri_types.proofs.Standing.{front_or_away, tied}

-- ---- what stands

pub get_some : (o : Option Node) → IsTrue (is_some o) → (n : Node) × (o ≡ Some n)
get_some None h = absurd cc
get_some (Some n) h = (n, refl)

pub get_none : (o : Option Node) → is_some o ≡ false → o ≡ None
get_none None h = refl
get_none (Some n) h = absurd cc

-- each path is this one, or another
pub same_or_apart : (q k : List NameText) → (q ≡ k) ⊎ (q ≡ k → ⊥)
same_or_apart q k = elim (eq_by_cmp path_cmp q k) as (λ b. eq_by_cmp path_cmp q k ≡ b → (q ≡ k) ⊎ (q ≡ k → ⊥)) [
  | true ↦ λ e. inl (path_cmp-same q k (tie_is _ e))
  | false ↦ λ e. inr (λ is. absurd (cc (e, tied q k is)))
] refl

-- an inserted node leaves what stood
pub stands-insert : (T : Tree) (k : List NameText) (v : Node) (q : List NameText) → IsTrue (stands T q) → IsTrue (stands (insert T k v) q)
stands-insert T k v q h = elim (same_or_apart q k) as (λ _. IsTrue (stands (insert T k v) q)) [
  | inl same ↦ subst (λ (r : List NameText). IsTrue (stands (insert T k v) r)) (sym same) (ap is_some (get-inserted T k v))
  | inr apart ↦ ap is_some (get-other T k v q apart) ∙ h
]

-- a tree stays one where a node is put below a standing one
pub tree-insert : (T : Tree) (k : List NameText) (v : Node) → IsTree T → ((i : ℕ) → i < length k → IsTrue (stands T (take i k))) → IsTree (insert T k v)
tree-insert T k v tree above = record {
  root = stands-insert T k v [] tree.root;
  fronts = λ q i le h. elim (same_or_apart q k) as (λ _. IsTrue (stands (insert T k v) (take i q))) [
    | inl same ↦ subst (λ (r : List NameText). IsTrue (stands (insert T k v) (take i r))) (sym same) (elim (eq-or-lt_of_le (subst (λ (r : List NameText). i ≤ length r) same le)) as (λ _. IsTrue (stands (insert T k v) (take i k))) [
      | inl all ↦ ap is_some (ap (get (insert T k v)) (take_all i k (omega arith)) ∙ get-inserted T k v)
      | inr less ↦ stands-insert T k v (take i k) (above i less)
    ])
    | inr apart ↦ stands-insert T k v (take i q) (tree.fronts q i le (sym (ap is_some (get-other T k v q apart)) ∙ h))
  ];
}

-- a node that is put in its own place changes nothing
pub insert-same : (T : Tree) (k : List NameText) (v : Node) → get T k ≡ Some v → insert T k v ≡ T
insert-same T k v is = same_map path_cmp_total path_cmp-same (insert T k v) T (λ q. elim (same_or_apart q k) as (λ _. get (insert T k v) q ≡ get T q) [
  | inl same ↦ subst (λ (r : List NameText). get (insert T k v) r ≡ get T r) (sym same) (get-inserted T k v ∙ sym is)
  | inr apart ↦ get-other T k v q apart
])

not_front : (p : List NameText) (i : ℕ) → i < length p → take i p ≡ p → ⊥
not_front p i lt e = absurd (omega (arith, length-take i p, ap length e))

-- a payload that is set at a standing path changes the node there and no other
pub set-there : (T : Tree) (p : List NameText) (x : Payload) (n : Node) → IsTree T → get T p ≡ Some n → set T p x ≡ insert T p (written n x)
set-there T p x n tree is = same_map path_cmp_total path_cmp-same (set T p x) (insert T p (written n x)) (λ q. elim (front_or_away p q) as (λ _. get (set T p x) q ≡ get (insert T p (written n x)) q) [
  | inl f ↦ subst (λ (r : List NameText). get (set T p x) r ≡ get (insert T p (written n x)) r) (sym f.is) (elim (eq-or-lt_of_le f.within) as (λ _. get (set T p x) (take f.long p) ≡ get (insert T p (written n x)) (take f.long p)) [
    | inl all ↦ subst (λ (r : List NameText). get (set T p x) r ≡ get (insert T p (written n x)) r) (sym (take_all f.long p (omega arith)))
        (set-at_path T p x ∙ (ap (λ (o : Option Node). Some (end_node o x)) is ∙ sym (get-inserted T p (written n x))))
    | inr less ↦
        let there : IsTrue (stands T p) = ap is_some is in
        let m = get_some (get T (take f.long p)) (tree.fronts p f.long f.within there) in
        let below : stands T (take (f.long + 1) p) ≡ true = tree.fronts p (f.long + 1) (omega (arith, less)) there in
        set-on_the_way T p x f.long less
        ∙ (ap (λ (b : Bool). Some (way_node (get T (take f.long p)) b)) below
        ∙ (ap (λ (o : Option Node). Some (way_node o true)) m.1
        ∙ (sym m.1 ∙ sym (get-other T p (written n x) (take f.long p) (not_front p f.long less)))))
  ])
  | inr away ↦ set-elsewhere T p x q away ∙ sym (get-other T p (written n x) q (λ same. away (length p) (omega arith) (same ∙ sym (take_all (length p) p (omega arith)))))
])

-- ---- sizes

sum-put : (k : List NameText) (v : Node) (es : List (List NameText × Node)) → find path_cmp k es ≡ None → sum_by node_bytes (put path_cmp k v es) ≡ sum_by node_bytes es + node_bytes (k, v)
sum-put k v [] h = sum_by-cons node_bytes (k, v) [] ∙ omega arith
sum-put k v (e ∷ es) h = elim (path_cmp k e.0) as (λ o. cond (is_eq o) (Some e.1) (find path_cmp k es) ≡ None → sum_by node_bytes (by_order o ((k, v) ∷ e ∷ es) ((e.0, v) ∷ es) (e ∷ put path_cmp k v es)) ≡ sum_by node_bytes (e ∷ es) + node_bytes (k, v)) [
  | Less ↦ λ none. sum_by-cons node_bytes (k, v) (e ∷ es) ∙ omega arith
  | Equal ↦ λ none. absurd cc
  | Greater ↦ λ none. omega (arith, sum_by-cons node_bytes e (put path_cmp k v es), sum_by-cons node_bytes e es, sum-put k v es none)
] h

pub bytes-insert : (T : Tree) (k : List NameText) (v : Node) → get T k ≡ None → bytes (insert T k v) ≡ bytes T + node_bytes (k, v)
bytes-insert T k v none =
    sum-map node_bytes (entries (insert T k v))
    ∙ (ap (sum_by node_bytes) (entries-insert path_cmp_total T k v)
    ∙ (sum-put k v (entries T) (sym (get-entries T k) ∙ none) ∙ ap (λ (s : ℕ). s + node_bytes (k, v)) (sym (sum-map node_bytes (entries T)))))

pub len-new : (T : Tree) (k : List NameText) (v : Node) → get T k ≡ None → len (insert T k v) ≡ len T + 1
len-new T k v none = len-insert path_cmp_total T k v ∙ ap (λ (o : Option Node). cond (is_some o) (len T) (len T + 1)) none

-- no front of p from the one of i names on stands
abbrev pub Missing : Tree → List NameText → ℕ → Type 0
Missing T p i = (j : ℕ) → i ≤ j → j ≤ length p → get T (take j p) ≡ None

-- a missing front is made empty
pub passed-missing : (T : Tree) (p : List NameText) (i : ℕ) → get T (take i p) ≡ None → passed T p i ≡ insert T (take i p) (fresh Empty)
passed-missing T p i none = ap (λ (o : Option Node). insert T (take i p) (way_node o (stands T (take (i + 1) p)))) none

pub missing-passed : (T : Tree) (p : List NameText) (i : ℕ) (v : Node) → i < length p → Missing T p i → Missing (insert T (take i p) v) p (i + 1)
missing-passed T p i v lt missing j le top =
    get-other T (take i p) v (take j p) (λ same. absurd (omega (arith, front-length p j i top (omega arith) same))) ∙ missing j (omega arith) top

-- the tree that has all of them
pub record Grown (T U : Tree) (n b : ℕ) : Type 0 where
  pub count : len U ≡ len T + n
  pub bytes : bytes U ≡ bytes T + b

pub set_from-grown : (n i : ℕ) (T : Tree) (p : List NameText) (x : Payload) → n + i ≡ length p → Missing T p i → Grown T (set_from n i T p x) (n + 1) (way_bytes n i p x)
set_from-grown zero i T p x e missing =
    let none : get T p ≡ None = sym (ap (get T) (take_all (length p) p (omega arith))) ∙ missing (length p) (omega arith) (omega arith) in
    let is : set_from zero i T p x ≡ insert T p (fresh x) = set_from-end i T p x ∙ ap (λ (o : Option Node). insert T p (end_node o x)) none in
    record { count = ap len is ∙ len-new T p (fresh x) none; bytes = ap bytes is ∙ bytes-insert T p (fresh x) none }
set_from-grown (suc n) i T p x e missing =
    let none : get T (take i p) ≡ None = missing i (omega arith) (omega arith) in
    let U : Tree = insert T (take i p) (fresh Empty) in
    let is : set_from (suc n) i T p x ≡ set_from n (i + 1) U p x = set_from-more n i T p x ∙ ap (λ (V : Tree). set_from n (i + 1) V p x) (passed-missing T p i none) in
    let rest = set_from-grown n (i + 1) U p x (omega arith) (missing-passed T p i (fresh Empty) (omega arith) missing) in
    record {
      count = ap len is ∙ omega (arith, rest.count, len-new T (take i p) (fresh Empty) none);
      bytes = ap bytes is ∙ omega (arith, rest.bytes, bytes-insert T (take i p) (fresh Empty) none);
    }

-- fronts that stand, each with the next one, are left as they are
pub set_from-skip : (k n i : ℕ) (T : Tree) (p : List NameText) (x : Payload) → k + n + i ≡ length p → ((j : ℕ) → j ≤ i + k → IsTrue (stands T (take j p))) → set_from (k + n) i T p x ≡ set_from n (i + k) T p x
set_from-skip zero n i T p x e standing = ap (λ (m : ℕ). set_from m i T p x) {y = n} (omega arith) ∙ ap (λ (j : ℕ). set_from n j T p x) (omega arith)
set_from-skip (suc k) n i T p x e standing =
    let m = get_some (get T (take i p)) (standing i (omega arith)) in
    let same : passed T p i ≡ T =
    ap (λ (o : Option Node). insert T (take i p) (way_node o (stands T (take (i + 1) p)))) m.1
    ∙ (ap (λ (b : Bool). insert T (take i p) (way_node (Some m.0) b)) (standing (i + 1) (omega arith))
    ∙ insert-same T (take i p) m.0 m.1) in
    ap (λ (j : ℕ). set_from j i T p x) {y = suc (k + n)} (omega arith)
    ∙ (set_from-more (k + n) i T p x
    ∙ (ap (λ (U : Tree). set_from (k + n) (i + 1) U p x) same
    ∙ (set_from-skip k n (i + 1) T p x (omega arith) (λ j le. standing j (omega arith)) ∙ ap (λ (j : ℕ). set_from n j T p x) (omega arith))))
