-- Nodes that are laid over the root alone, in order of path.
use Rattle.std.proofs.Common.{◌≡◌, inl, inr, ℕ, zero, suc, ◌+◌, ◌<◌, ◌≤◌, Bool, true, false, cond, List, [], ◌∷◌, ◌++◌, length, take, drop, map, get_or, refl, sym, ap, subst, ◌∙◌, arith, Option, Some, None, Less, Equal, Greater, ◌&&◌}
use Rattle.std.specs.Prelude.{IsTrue, is_some, T as Holds}
use Rattle.std.specs.Ordering.{is_eq, is_lt, eq_by_cmp, ordering_then}
use Rattle.std.specs.declared.cmp.Ordering.{Ordering}
use Rattle.std.specs.Cmp.{tied_itself}
use Rattle.std.specs.FinMap.{get, find, from_sorted, insert, is_sorted, same_map, get-insert, get-from_sorted}
use Rattle.std.specs.FinMap.Entries.{below_all}
use Rattle.std.proofs.lemmas.List.{take_all}
use Rattle.khepri_terms.specs.Terms.{NameText}
use Rattle.khepri_terms.specs.Order.{name_cmp, path_cmp}
use Rattle.khepri_types.specs.declared.limits.TheConstants.{MAX_PATH_NAMES}
use Rattle.khepri_types.specs.declared.node.Node.{Node}
use Rattle.khepri_types.specs.declared.node.NodePart.{NodePart}
use Rattle.khepri_types.specs.Tree.{Tree, IsTree, stands, opening_tree}
use Rattle.khepri_types.proofs.Order.{name_cmp_total, path_cmp_total, path_cmp-same}
use Rattle.khepri_types.proofs.Growing.{get_none}
use Rattle.khepri_types.proofs.Standing.{get-opening}
use Rattle.tree_overlay.specs.Over.{IsShallow}
use Rattle.tree_overlay.proofs.Shallow as overlay
use Rattle.tree_nodes.specs.Parts.{entry_of, tree_of}
use Rattle.tree_nodes.proofs.Sorted.{Entry, IsSorted, first_true, second_true, head_sorted, tail_sorted, head_below, tail_below, below-all, find-above, turned}

-- the first found, or else the second
abbrev pub or_else : Option Node → Option Node → Option Node
or_else None o = o
or_else (Some n) o = Some n

-- the draft has the first i nodes over the root alone
abbrev pub Laid : List NodePart → ℕ → Tree → Type 0
Laid parts i D = (q : List NameText) → get D q ≡ or_else (find path_cmp q (map entry_of (take i parts))) (get opening_tree q)

pub laid-init : (parts : List NodePart) (D : Tree) → D ≡ opening_tree → Laid parts 0 D
laid-init parts D is q = ap (λ (T : Tree). get T q) is

held : (b : Bool) → IsTrue b → Holds b
held true h = tt
held false h = absurd cc

-- ---- one more

find-snoc : (q p : List NameText) (v : Node) (es : List Entry) → find path_cmp q (es ++ (p, v) ∷ []) ≡ or_else (find path_cmp q es) (cond (eq_by_cmp path_cmp q p) (Some v) None)
find-snoc q p v [] = elim (eq_by_cmp path_cmp q p) as (λ b. cond b (Some v) None ≡ cond b (Some v) None) [ true ↦ refl | false ↦ refl ]
find-snoc q p v (e ∷ es) = elim (eq_by_cmp path_cmp q e.0) as (λ b. cond b (Some e.1) (find path_cmp q (es ++ (p, v) ∷ [])) ≡ or_else (cond b (Some e.1) (find path_cmp q es)) (cond (eq_by_cmp path_cmp q p) (Some v) None)) [
  | true ↦ refl
  | false ↦ find-snoc q p v es
]

take_more : (parts : List NodePart) (i : ℕ) (x : NodePart) → i < length parts → x ≡ get_or parts i x → map entry_of (take (i + 1) parts) ≡ map entry_of (take i parts) ++ entry_of x ∷ []
take_more parts i x lt is = ap (λ (k : ℕ). map entry_of (take k parts)) {y = suc i} (omega arith) ∙ more parts i lt is
  where
    more : (ps : List NodePart) (i : ℕ) → i < length ps → x ≡ get_or ps i x → map entry_of (take (suc i) ps) ≡ map entry_of (take i ps) ++ entry_of x ∷ []
    more [] i lt is = absurd (omega (arith, lt))
    more (y ∷ ps) zero lt is = ap (λ (z : NodePart). entry_of z ∷ []) (sym is)
    more (y ∷ ps) (suc i) lt is = ap (λ (es : List Entry). entry_of y ∷ es) (more ps i (omega (arith, lt)) is)

-- where the parts stand in order, none of the first i has the path of the next one, and all that come before it are among them
record Amid (parts : List NodePart) (i : ℕ) (p : List NameText) : Type 0 where
  absent : find path_cmp p (map entry_of (take i parts)) ≡ None
  before : (q : List NameText) → path_cmp q p ≡ Less → find path_cmp q (map entry_of parts) ≡ find path_cmp q (map entry_of (take i parts))

amid : (parts : List NodePart) (i : ℕ) (x : NodePart) → IsSorted (map entry_of parts) → i < length parts → x ≡ get_or parts i x → Amid parts i x.path
amid [] i x sorted lt is = absurd (omega (arith, lt))
amid (y ∷ parts) zero x sorted lt is =
    let same : y ≡ x = sym is in
    record {
      absent = refl;
      before = λ q less.
          let first : path_cmp q y.path ≡ Less = ap (λ (z : NodePart). path_cmp q z.path) same ∙ less in
          ap (λ (o : Ordering). cond (is_eq o) (Some (entry_of y).1) (find path_cmp q (map entry_of parts))) first
          ∙ find-above q (map entry_of parts) (below-all q y.path (map entry_of parts) first (head_sorted (entry_of y) (map entry_of parts) sorted));
    }
amid (y ∷ parts) (suc i) x sorted lt is =
    let rest = amid parts i x (tail_sorted (entry_of y) (map entry_of parts) sorted) (omega (arith, lt)) is in
    let less : path_cmp y.path x.path ≡ Less = below_part y.path parts i x (omega (arith, lt)) is (head_sorted (entry_of y) (map entry_of parts) sorted) in
    let more : path_cmp x.path y.path ≡ Greater = turned y.path x.path Less less in
    record {
      absent = ap (λ (o : Ordering). cond (is_eq o) (Some (entry_of y).1) (find path_cmp x.path (map entry_of (take i parts)))) more ∙ rest.absent;
      before = λ q low. ap (cond (eq_by_cmp path_cmp q y.path) (Some (entry_of y).1)) (rest.before q low);
    }
  where
    below_part : (q : List NameText) (ps : List NodePart) (i : ℕ) (x : NodePart) → i < length ps → x ≡ get_or ps i x → IsTrue (below_all path_cmp q (map entry_of ps)) → path_cmp q x.path ≡ Less
    below_part q [] i x lt is h = absurd (omega (arith, lt))
    below_part q (z ∷ ps) zero x lt is h = ap (λ (w : NodePart). path_cmp q w.path) is ∙ head_below q (entry_of z) (map entry_of ps) h
    below_part q (z ∷ ps) (suc i) x lt is h = below_part q ps i x (omega (arith, lt)) is (tail_below q (entry_of z) (map entry_of ps) h)

pub laid-more : (parts : List NodePart) (i : ℕ) (x : NodePart) (v : Node) (D E : Tree) → IsSorted (map entry_of parts) → i < length parts → x ≡ get_or parts i x → v ≡ (entry_of x).1 → Laid parts i D → E ≡ insert D x.path v → Laid parts (i + 1) E
laid-more parts i x v D E sorted lt is new laid made q =
    let a = amid parts i x sorted lt is in
    let es : List Entry = map entry_of (take i parts) in
    ap (λ (T : Tree). get T q) made
    ∙ (get-insert path_cmp_total D x.path v q
    ∙ ((λ j. cond (eq_by_cmp path_cmp q x.path) (Some (new j)) (laid q j))
    ∙ (elim (eq_by_cmp path_cmp q x.path) as (λ b. eq_by_cmp path_cmp q x.path ≡ b → cond b (Some (entry_of x).1) (or_else (find path_cmp q es) (get opening_tree q)) ≡ or_else (or_else (find path_cmp q es) (cond b (Some (entry_of x).1) None)) (get opening_tree q)) [
      | true ↦ λ t.
          let none : find path_cmp q es ≡ None = ap (λ (r : List NameText). find path_cmp r es) (path_cmp-same q x.path (tie_of _ t)) ∙ a.absent in
          sym (ap (λ (o : Option Node). or_else (or_else o (Some (entry_of x).1)) (get opening_tree q)) none)
      | false ↦ λ t. sym (ap (λ (o : Option Node). or_else o (get opening_tree q)) (no_more (find path_cmp q es)))
    ] refl
    ∙ sym (ap (λ (fs : List Entry). or_else (find path_cmp q fs) (get opening_tree q)) (take_more parts i x lt is) ∙ ap (λ (o : Option Node). or_else o (get opening_tree q)) (find-snoc q x.path (entry_of x).1 es)))))
  where
    tie_of : (o : Ordering) → is_eq o ≡ true → o ≡ Equal
    tie_of Less e = absurd cc
    tie_of Equal e = refl
    tie_of Greater e = absurd cc

    no_more : (o : Option Node) → or_else o None ≡ o
    no_more None = refl
    no_more (Some n) = refl

-- ---- what is needed of the next one

get-parts : (parts : List NodePart) (q : List NameText) → IsSorted (map entry_of parts) → get (tree_of parts) q ≡ find path_cmp q (map entry_of parts)
get-parts parts q sorted = get-from_sorted path_cmp (map entry_of parts) q (held _ sorted)

part_found : (parts : List NodePart) (i : ℕ) (x : NodePart) → i < length parts → x ≡ get_or parts i x → IsTrue (is_some (find path_cmp x.path (map entry_of parts)))
part_found [] i x lt is = absurd (omega (arith, lt))
part_found (y ∷ parts) zero x lt is = ap (λ (b : Bool). is_some (cond b (Some (entry_of y).1) (find path_cmp x.path (map entry_of parts)))) (ap (λ (z : NodePart). eq_by_cmp path_cmp x.path z.path) (sym is) ∙ ap is_eq (tied_itself path_cmp_total x.path))
part_found (y ∷ parts) (suc i) x lt is = elim (eq_by_cmp path_cmp x.path y.path) as (λ b. is_some (cond b (Some (entry_of y).1) (find path_cmp x.path (map entry_of parts))) ≡ true) [
  | true ↦ refl
  | false ↦ part_found parts i x (omega (arith, lt)) is
]

pub part_stands : (parts : List NodePart) (i : ℕ) (x : NodePart) → IsSorted (map entry_of parts) → i < length parts → x ≡ get_or parts i x → IsTrue (stands (tree_of parts) x.path)
part_stands parts i x sorted lt is = ap is_some (get-parts parts x.path sorted) ∙ part_found parts i x lt is

front_less : (p : List NameText) (k : ℕ) → k < length p → path_cmp (take k p) p ≡ Less
front_less [] k lt = absurd (omega (arith, lt))
front_less (x ∷ p) zero lt = refl
front_less (x ∷ p) (suc k) lt = ap (λ (o : Ordering). ordering_then o (path_cmp (take k p) p)) (tied_itself name_cmp_total x) ∙ front_less p k (omega (arith, lt))

some_else : (o w : Option Node) → IsTrue (is_some o) → IsTrue (is_some (or_else o w))
some_else None w h = absurd cc
some_else (Some n) w h = refl

-- its fronts were laid before it
pub part_fronts : (parts : List NodePart) (i : ℕ) (x : NodePart) (D : Tree) → IsSorted (map entry_of parts) → IsTree (tree_of parts) → i < length parts → x ≡ get_or parts i x → Laid parts i D → (k : ℕ) → k < length x.path → IsTrue (stands D (take k x.path))
part_fronts parts i x D sorted tree lt is laid k less =
    let q : List NameText = take k x.path in
    let a = amid parts i x sorted lt is in
    let whole : IsTrue (is_some (find path_cmp q (map entry_of parts))) = sym (ap is_some (get-parts parts q sorted)) ∙ tree.fronts x.path k (omega (arith, less)) (part_stands parts i x sorted lt is) in
    ap is_some (laid q) ∙ some_else (find path_cmp q (map entry_of (take i parts))) (get opening_tree q) (sym (ap is_some (a.before q (front_less x.path k less))) ∙ whole)

-- a path that is missing where the root stands has a name
pub missing_named : (D : Tree) (p : List NameText) → IsTree D → stands D p ≡ false → 0 < length p
missing_named D [] tree none = absurd (cc (tree.root, none))
missing_named D (n ∷ p) tree none = omega arith

-- ---- all of them

pub laid-end : (parts : List NodePart) (i : ℕ) (D : Tree) → IsSorted (map entry_of parts) → IsTree (tree_of parts) → i ≡ length parts → Laid parts i D → D ≡ tree_of parts
laid-end parts i D sorted tree end laid = same_map path_cmp_total path_cmp-same D (tree_of parts) (λ q.
    laid q
    ∙ (ap (λ (ps : List NodePart). or_else (find path_cmp q (map entry_of ps)) (get opening_tree q)) (take_all i parts (omega (arith, end)))
    ∙ (none_else q ∙ sym (get-parts parts q sorted))))
  where
    no_opening : (n : NameText) (q : List NameText) → get opening_tree (n ∷ q) ≡ None
    no_opening n q = get-opening (n ∷ q)

    by_some : (o w : Option Node) → IsTrue (is_some o) → or_else o w ≡ o
    by_some None w h = absurd cc
    by_some (Some n) w h = refl

    by_none : (o w : Option Node) → w ≡ None → or_else o w ≡ o
    by_none None w h = h
    by_none (Some n) w h = refl

    none_else : (q : List NameText) → or_else (find path_cmp q (map entry_of parts)) (get opening_tree q) ≡ find path_cmp q (map entry_of parts)
    none_else [] = by_some (find path_cmp [] (map entry_of parts)) (get opening_tree []) (sym (ap is_some (get-parts parts [] sorted)) ∙ tree.root)
    none_else (n ∷ q) = by_none (find path_cmp (n ∷ q) (map entry_of parts)) (get opening_tree (n ∷ q)) (no_opening n q)

pub shallow-opening : IsShallow opening_tree
shallow-opening = overlay.shallow-opening
