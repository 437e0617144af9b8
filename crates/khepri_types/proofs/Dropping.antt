-- What dropping paths does to each node of a tree, and to its size.
use Rattle.std.proofs.Common.{◌≡◌, ◌≤◌, Bool, true, false, cond, not, List, [], ◌∷◌, length, map, refl, sym, ap, subst, ◌∙◌, arith, Option, Some, None, ◌&&◌}
use Rattle.std.specs.Prelude.{IsTrue, is_some, T as Holds}
use Rattle.std.specs.List.{sum, sum_by}
use Rattle.std.specs.Option.{option_map}
use Rattle.std.specs.Ordering.{is_lt, eq_by_cmp}
use Rattle.std.specs.FinMap.{get, entries, len, find, is_sorted, get-entries, get-from_sorted, entries-from_sorted, entries_sorted, len-entries}
use Rattle.std.specs.FinMap.Entries.{below_all, where_key, is_sorted-where_key, find-where_key}
use Rattle.std.proofs.lemmas.List.{length-map}
use Rattle.std.proofs.lemmas.List.Sums.{sum-map, length-filter, count_by-le-length}
use Rattle.std.proofs.lemmas.List.Filters.{sum_by-filter_both}
use Rattle.khepri_terms.specs.Terms.{NameText}
use Rattle.khepri_terms.specs.Order.{path_cmp}
use Rattle.khepri_types.specs.declared.node.Node.{Node}
use Rattle.khepri_types.specs.Paths.{is_under}
use Rattle.khepri_types.specs.Drop.{loses_child, left_nodes, drop}
use Rattle.khepri_types.specs.Sizes.{node_bytes, bytes}
use Rattle.khepri_types.specs.Tree.{Tree, stands, raised_children}
use Rattle.khepri_types.proofs.Order.{path_cmp-same}
use Rattle.khepri_types.proofs.Trees.{tie_is}

abbrev Entry : Type 0
Entry = List NameText × Node

-- ---- other nodes at the same paths

abbrev pub mapped : (List NameText → Node → Node) → List Entry → List Entry
mapped f es = map (λ e. (e.0, f e.0 e.1)) es

pub find-mapped : (f : List NameText → Node → Node) (q : List NameText) (es : List Entry) → find path_cmp q (mapped f es) ≡ option_map (f q) (find path_cmp q es)
find-mapped f q [] = refl
find-mapped f q (e ∷ es) = elim (eq_by_cmp path_cmp q e.0) as (λ b. eq_by_cmp path_cmp q e.0 ≡ b → cond b (Some (f e.0 e.1)) (find path_cmp q (mapped f es)) ≡ option_map (f q) (cond b (Some e.1) (find path_cmp q es))) [
  | true ↦ λ t. ap (λ (k : List NameText). Some (f k e.1)) (sym (path_cmp-same q e.0 (tie_is _ t)))
  | false ↦ λ t. find-mapped f q es
] refl

below-mapped : (f : List NameText → Node → Node) (x : List NameText) (es : List Entry) → below_all path_cmp x (mapped f es) ≡ below_all path_cmp x es
below-mapped f x [] = refl
below-mapped f x (e ∷ es) = ap (λ (b : Bool). is_lt (path_cmp x e.0) && b) (below-mapped f x es)

sorted-mapped : (f : List NameText → Node → Node) (es : List Entry) → is_sorted path_cmp (mapped f es) ≡ is_sorted path_cmp es
sorted-mapped f [] = refl
sorted-mapped f (e ∷ es) = λ i. below-mapped f e.0 es i && sorted-mapped f es i

bytes-mapped : (f : List NameText → Node → Node) → ((q : List NameText) (n : Node) → node_bytes (q, f q n) ≡ node_bytes (q, n)) → (es : List Entry) → map node_bytes (mapped f es) ≡ map node_bytes es
bytes-mapped f same [] = refl
bytes-mapped f same (e ∷ es) = λ i. same e.0 e.1 i ∷ bytes-mapped f same es i

-- ---- what is left

abbrev pub stays : List (List NameText) → List NameText → Bool
stays paths k = not (is_under paths k)

-- a node that is left, as it is then
abbrev pub left_node : List Entry → List (List NameText) → List NameText → Node → Node
left_node nodes paths q n = cond (loses_child nodes paths q) (raised_children n) n

sorted_left : (T : Tree) (paths : List (List NameText)) → Holds (is_sorted path_cmp (left_nodes (entries T) paths))
sorted_left T paths =
    subst Holds (sym (sorted-mapped (left_node (entries T) paths) (where_key path_cmp (stays paths) (entries T)))) (is_sorted-where_key path_cmp (stays paths) (entries T) (entries_sorted T))

-- the entries of the tree that is left
pub entries-drop : (T : Tree) (paths : List (List NameText)) → entries (drop T paths) ≡ left_nodes (entries T) paths
entries-drop T paths = entries-from_sorted path_cmp (left_nodes (entries T) paths) (sorted_left T paths)

-- a path below a dropped one has no node, and another has its own
pub get-drop : (T : Tree) (paths : List (List NameText)) (q : List NameText) → get (drop T paths) q ≡ cond (is_under paths q) None (option_map (left_node (entries T) paths q) (get T q))
get-drop T paths q =
    let f = left_node (entries T) paths in
    get-from_sorted path_cmp (left_nodes (entries T) paths) q (sorted_left T paths)
    ∙ (find-mapped f q (where_key path_cmp (stays paths) (entries T))
    ∙ (ap (option_map (f q)) (find-where_key path_cmp (stays paths) q (λ x tie. ap (stays paths) (sym (path_cmp-same q x tie))) (entries T))
    ∙ elim (is_under paths q) as (λ b. option_map (f q) (cond (not b) (find path_cmp q (entries T)) None) ≡ cond b None (option_map (f q) (get T q))) [
      | true ↦ refl
      | false ↦ ap (option_map (f q)) (sym (get-entries T q))
    ]))

-- a node that is left stood before
pub record Left (T : Tree) (paths : List (List NameText)) (q : List NameText) (n : Node) : Type 0 where
  pub old : Node
  pub stood : get T q ≡ Some old
  pub apart : is_under paths q ≡ false
  pub is : n ≡ left_node (entries T) paths q old

left-of : (T : Tree) (paths : List (List NameText)) (q : List NameText) (n : Node) (b : Bool) (o : Option Node) → is_under paths q ≡ b → get T q ≡ o
    → cond b None (option_map (left_node (entries T) paths q) o) ≡ Some n → Left T paths q n
left-of T paths q n true o u g e = absurd cc
left-of T paths q n false None u g e = absurd cc
left-of T paths q n false (Some m) u g e = record { old = m; stood = g; apart = u; is = cc }

pub left : (T : Tree) (paths : List (List NameText)) (q : List NameText) (n : Node) → get (drop T paths) q ≡ Some n → Left T paths q n
left T paths q n e = left-of T paths q n (is_under paths q) (get T q) refl refl (sym (get-drop T paths q) ∙ e)

-- ---- which paths stand

pub stands-drop : (T : Tree) (paths : List (List NameText)) (q : List NameText) → is_under paths q ≡ false → IsTrue (stands T q) → IsTrue (stands (drop T paths) q)
stands-drop T paths q apart h = elim (get T q) as (λ o. get T q ≡ o → IsTrue (is_some o) → IsTrue (stands (drop T paths) q)) [
  | None ↦ λ e g. absurd cc
  | Some n ↦ λ e g.
      let is : get (drop T paths) q ≡ Some (left_node (entries T) paths q n) =
      get-drop T paths q ∙ (ap (λ (b : Bool). cond b None (option_map (left_node (entries T) paths q) (get T q))) apart ∙ ap (option_map (left_node (entries T) paths q)) e) in
      ap is_some is
] refl h

pub stood-drop : (T : Tree) (paths : List (List NameText)) (q : List NameText) → IsTrue (stands (drop T paths) q) → (n : Node) × Left T paths q n
stood-drop T paths q h = elim (get (drop T paths) q) as (λ o. get (drop T paths) q ≡ o → IsTrue (is_some o) → (n : Node) × Left T paths q n) [
  | None ↦ λ e g. absurd cc
  | Some n ↦ λ e g. (n, left T paths q n e)
] refl h

-- ---- the size

same_bytes : (nodes : List Entry) (paths : List (List NameText)) (q : List NameText) (n : Node) → node_bytes (q, left_node nodes paths q n) ≡ node_bytes (q, n)
same_bytes nodes paths q n = elim (loses_child nodes paths q) as (λ b. node_bytes (q, cond b (raised_children n) n) ≡ node_bytes (q, n)) [ true ↦ refl | false ↦ refl ]

-- as many nodes are left as there are entries below no dropped path
pub len-left : (T : Tree) (paths : List (List NameText)) → len (drop T paths) ≡ length (where_key path_cmp (stays paths) (entries T))
len-left T paths =
    let kept = where_key path_cmp (stays paths) (entries T) in
    len-entries (drop T paths) ∙ (ap length (entries-drop T paths) ∙ length-map kept (λ (e : Entry). (e.0, left_node (entries T) paths e.0 e.1)))

-- a drop leaves no more nodes
pub len-drop : (T : Tree) (paths : List (List NameText)) → len (drop T paths) ≤ len T
len-drop T paths =
    omega (arith, len-left T paths, length-filter (λ (e : Entry). stays paths e.0) (entries T), count_by-le-length (λ (e : Entry). stays paths e.0) (entries T), len-entries T)

-- and no more bytes
pub bytes-drop : (T : Tree) (paths : List (List NameText)) → bytes (drop T paths) ≤ bytes T
bytes-drop T paths =
    let kept = where_key path_cmp (stays paths) (entries T) in
    let whole : bytes (drop T paths) ≡ sum_by node_bytes kept =
    ap (λ (es : List Entry). sum (map node_bytes es)) (entries-drop T paths)
    ∙ (ap sum (bytes-mapped (left_node (entries T) paths) (same_bytes (entries T) paths) kept) ∙ sum-map node_bytes kept) in
    omega (arith, whole, sum_by-filter_both (λ (e : Entry). stays paths e.0) (λ (e : Entry). not (stays paths e.0)) (λ e. refl) node_bytes (entries T), sum-map node_bytes (entries T))
