-- The nodes in order of path, one after another.
use Rattle.std.proofs.Common.{◌≡◌, Bool, true, false, cond, List, [], ◌∷◌, length, refl, sym, ap, subst, ◌∙◌, arith, Option, Some, None, Less, Equal, Greater, ◌&&◌}
use Rattle.std.specs.Prelude.{IsTrue, is_some, T as Holds}
use Rattle.std.specs.List.{filter}
use Rattle.std.specs.Ordering.{is_eq, is_lt, ordering_reverse, ordering_then}
use Rattle.std.specs.Cmp.{tied_itself}
use Rattle.std.specs.declared.cmp.Ordering.{Ordering}
use Rattle.std.specs.FinMap.{get, entries, find, is_sorted, get-entries, entries_sorted}
use Rattle.std.specs.FinMap.Entries.{below_all, is_sorted-where_key, find-where_key}
use Rattle.khepri_terms.specs.Terms.{NameText}
use Rattle.khepri_terms.specs.Order.{name_cmp, path_cmp}
use Rattle.khepri_types.specs.declared.node.Node.{Node}
use Rattle.khepri_types.specs.Paths.{is_front, is_child}
use Rattle.khepri_types.specs.Tree.{Tree, IsTree, stands}
use Rattle.khepri_types.proofs.Order.{name_cmp_total, path_cmp_total, name_cmp-same, path_cmp-same}
use Rattle.khepri_types.proofs.Trees.{tie_is}
use Rattle.khepri_types.proofs.Fronts.{child_taken, child_long}
use Rattle.tree_nodes.specs.Next.{IsNext, follows}
use Rattle.tree_nodes.proofs.Sorted.{Entry, IsSorted, first_true, second_true, both_true, head_sorted, below-all, find-above, turned}

abbrev Path : Type 0
Path = List NameText

-- those whose paths come after
abbrev pub later : Option Path → List Entry → List Entry
later after es = filter (λ e. follows path_cmp after e.0) es

is_less : (o : Ordering) → IsTrue (is_lt o) → o ≡ Less
is_less Less h = refl
is_less Equal h = absurd cc
is_less Greater h = absurd cc

follows-on : (after : Option Path) (x y : Path) → IsTrue (follows path_cmp after x) → path_cmp x y ≡ Less → IsTrue (follows path_cmp after y)
follows-on None x y f less = refl
follows-on (Some a) x y f less = ap is_lt (path_cmp_total.trans a x y (is_less (path_cmp a x) f) less)

-- what stands above one that comes after comes after too
all_follow : (after : Option Path) (q : Path) (es : List Entry) → IsTrue (follows path_cmp after q) → IsTrue (below_all path_cmp q es) → later after es ≡ es
all_follow after q [] f h = refl
all_follow after q (e ∷ es) f h =
    let less : path_cmp q e.0 ≡ Less = is_less (path_cmp q e.0) (first_true (is_lt (path_cmp q e.0)) (below_all path_cmp q es) h) in
    ap (λ (b : Bool). cond b (e ∷ later after es) (later after es)) (follows-on after q e.0 f less)
    ∙ ap (λ (xs : List Entry). e ∷ xs) (all_follow after q es f (second_true (is_lt (path_cmp q e.0)) (below_all path_cmp q es) h))

all_above : (q : Path) (es : List Entry) → IsTrue (below_all path_cmp q es) → later (Some q) es ≡ es
all_above q [] h = refl
all_above q (e ∷ es) h =
    ap (λ (b : Bool). cond b (e ∷ later (Some q) es) (later (Some q) es)) (first_true (is_lt (path_cmp q e.0)) (below_all path_cmp q es) h)
    ∙ ap (λ (xs : List Entry). e ∷ xs) (all_above q es (second_true (is_lt (path_cmp q e.0)) (below_all path_cmp q es) h))

pub all_none : (es : List Entry) → later None es ≡ es
all_none [] = refl
all_none (e ∷ es) = ap (λ (xs : List Entry). e ∷ xs) (all_none es)

-- ---- the first of those that come after

find-first : (e : Entry) (es : List Entry) → find path_cmp e.0 (e ∷ es) ≡ Some e.1
find-first e es = ap (λ (o : Ordering). cond (is_eq o) (Some e.1) (find path_cmp e.0 es)) (tied_itself path_cmp_total e.0)

find-later : (after : Option Path) (es : List Entry) (q : Path) → find path_cmp q (later after es) ≡ cond (follows path_cmp after q) (find path_cmp q es) None
find-later after es q = find-where_key path_cmp (follows path_cmp after) q (λ x tie. ap (follows path_cmp after) (sym (path_cmp-same q x tie))) es

held : (b : Bool) → IsTrue b → Holds b
held true h = tt
held false h = absurd cc

told : (b : Bool) → Holds b → IsTrue b
told true h = refl
told false h = absurd h

sorted-later : (after : Option Path) (es : List Entry) → IsSorted es → IsSorted (later after es)
sorted-later after es h = told (is_sorted path_cmp (later after es)) (is_sorted-where_key path_cmp (follows path_cmp after) es (held (is_sorted path_cmp es) h))

-- e is the first of those that come after, and the others stand above it
record First (after : Option Path) (es : List Entry) (e : Entry) (rest : List Entry) : Type 0 where
  found : find path_cmp e.0 es ≡ Some e.1
  comes : IsTrue (follows path_cmp after e.0)
  above : IsTrue (below_all path_cmp e.0 rest)

first-of : (after : Option Path) (es : List Entry) (e : Entry) (rest : List Entry) (b : Bool) → follows path_cmp after e.0 ≡ b → cond b (find path_cmp e.0 es) None ≡ Some e.1
    → IsTrue (below_all path_cmp e.0 rest) → First after es e rest
first-of after es e rest true f at above = record { found = at; comes = f; above = above }
first-of after es e rest false f at above = absurd cc

first : (after : Option Path) (es : List Entry) (e : Entry) (rest : List Entry) → IsSorted es → later after es ≡ e ∷ rest → First after es e rest
first after es e rest sorted is =
    first-of after es e rest (follows path_cmp after e.0) refl (sym (find-later after es e.0) ∙ (ap (find path_cmp e.0) is ∙ find-first e rest))
    (head_sorted e rest (subst IsSorted is (sorted-later after es sorted)))

-- what is found and comes after is found among those that come after
found-later : (after : Option Path) (es : List Entry) (q : Path) → IsTrue (is_some (find path_cmp q es)) → IsTrue (follows path_cmp after q) → IsTrue (is_some (find path_cmp q (later after es)))
found-later after es q h f = ap is_some (find-later after es q ∙ ap (λ (b : Bool). cond b (find path_cmp q es) None) f) ∙ h

-- a path at which an entry is found
abbrev pub Found : List Entry → Path → Type 0
Found es q = IsTrue (is_some (find path_cmp q es))

pub next-none : (after : Option Path) (es : List Entry) → later after es ≡ [] → IsNext path_cmp (Found es) after None
next-none after es none = λ q h f. absurd (cc (found-later after es q h f, ap (λ (xs : List Entry). is_some (find path_cmp q xs)) none))

pub next-some : (after : Option Path) (es : List Entry) (e : Entry) (rest : List Entry) → IsSorted es → later after es ≡ e ∷ rest → IsNext path_cmp (Found es) after (Some e.0)
next-some after es e rest sorted is =
    let one = first after es e rest sorted is in (
      ap is_some one.found,
      one.comes,
      λ q h f less.
          let at : IsTrue (is_some (find path_cmp q (e ∷ rest))) = ap (λ (xs : List Entry). is_some (find path_cmp q xs)) (sym is) ∙ found-later after es q h f in
          let behind : find path_cmp q (e ∷ rest) ≡ find path_cmp q rest = ap (λ (o : Ordering). cond (is_eq o) (Some e.1) (find path_cmp q rest)) less in
          let none : find path_cmp q rest ≡ None = find-above q rest (below-all q e.0 rest less one.above) in
          absurd (cc (at, ap is_some (behind ∙ none))),
    )

-- ---- a walk over all nodes of a tree

-- a path at which a node stands
abbrev pub Stands : Tree → Path → Type 0
Stands T q = IsTrue (stands T q)

-- those of the tree that come after
abbrev pub ahead : Tree → Option Path → List Entry
ahead T after = later after (entries T)

stands-found : (T : Tree) (q : Path) → Found (entries T) q → Stands T q
stands-found T q h = ap is_some (get-entries T q) ∙ h

found-stands : (T : Tree) (q : Path) → Stands T q → Found (entries T) q
found-stands T q h = ap is_some (sym (get-entries T q)) ∙ h

sorted-entries : (T : Tree) → IsSorted (entries T)
sorted-entries T = told (is_sorted path_cmp (entries T)) (entries_sorted T)

-- before the first step all nodes are ahead
pub walk-begins : (T : Tree) → ahead T None ≡ entries T
walk-begins T = all_none (entries T)

-- where no node comes next, none is ahead
pub walk-ends : (T : Tree) (after : Option Path) → IsNext path_cmp (Stands T) after None → ahead T after ≡ []
walk-ends T after none = elim (ahead T after) as (λ xs. ahead T after ≡ xs → xs ≡ []) [
  | [] ↦ λ is. refl
  | e ∷ rest ↦ λ is.
      let one = first after (entries T) e rest (sorted-entries T) is in
      absurd (none e.0 (stands-found T e.0 (ap is_some one.found)) one.comes)
] refl

-- what comes after one that comes after
onward : (after : Option Path) (q : Path) (es : List Entry) → IsTrue (follows path_cmp after q) → later (Some q) (later after es) ≡ later (Some q) es
onward after q [] f = refl
onward after q (x ∷ es) f =
    let rest = onward after q es f in
    elim (is_lt (path_cmp q x.0)) as (λ b. is_lt (path_cmp q x.0) ≡ b → later (Some q) (cond (follows path_cmp after x.0) (x ∷ later after es) (later after es)) ≡ cond b (x ∷ later (Some q) es) (later (Some q) es)) [
      | true ↦ λ t.
          ap (λ (b : Bool). later (Some q) (cond b (x ∷ later after es) (later after es))) (follows-on after q x.0 f (is_less (path_cmp q x.0) t))
          ∙ (ap (λ (b : Bool). cond b (x ∷ later (Some q) (later after es)) (later (Some q) (later after es))) t ∙ ap (λ (xs : List Entry). x ∷ xs) rest)
      | false ↦ λ t. elim (follows path_cmp after x.0) as (λ b. later (Some q) (cond b (x ∷ later after es) (later after es)) ≡ later (Some q) es) [
        | true ↦ ap (λ (b : Bool). cond b (x ∷ later (Some q) (later after es)) (later (Some q) (later after es))) t ∙ rest
        | false ↦ rest
      ]
    ] refl

same_path : (x y : Path) → (path_cmp x y ≡ Less → ⊥) → (path_cmp y x ≡ Less → ⊥) → x ≡ y
same_path x y nl ng = elim (path_cmp x y) as (λ o. path_cmp x y ≡ o → x ≡ y) [
  | Less ↦ λ e. absurd (nl e)
  | Equal ↦ λ e. path_cmp-same x y e
  | Greater ↦ λ e. absurd (ng (turned x y Greater e))
] refl

-- the node that comes next is the first of those ahead, and the others are ahead of it
pub walk-goes_on : (T : Tree) (after : Option Path) (x : Path) → IsNext path_cmp (Stands T) after (Some x) → (n : Node) × (get T x ≡ Some n) × (ahead T after ≡ (x, n) ∷ ahead T (Some x))
walk-goes_on T after x next = elim (ahead T after) as (λ xs. ahead T after ≡ xs → (n : Node) × (get T x ≡ Some n) × (xs ≡ (x, n) ∷ ahead T (Some x))) [
  | [] ↦ λ is. absurd (next-none after (entries T) is x (found-stands T x next.0) next.1)
  | e ∷ rest ↦ λ is.
      let one = first after (entries T) e rest (sorted-entries T) is in
      let least = next-some after (entries T) e rest (sorted-entries T) is in
      let same : e.0 ≡ x = same_path e.0 x (next.2 e.0 (stands-found T e.0 (ap is_some one.found)) one.comes) (least.2 x (found-stands T x next.0) next.1) in
      let behind : ahead T (Some e.0) ≡ rest =
      sym (onward after e.0 (entries T) one.comes)
      ∙ (ap (later (Some e.0)) is
      ∙ (ap (λ (o : Ordering). cond (is_lt o) (e ∷ later (Some e.0) rest) (later (Some e.0) rest)) (tied_itself path_cmp_total e.0)
      ∙ all_above e.0 rest one.above)) in
      (e.1, ap (get T) (sym same) ∙ (get-entries T e.0 ∙ one.found), ap (λ (xs : List Entry). e ∷ xs) (sym behind) ∙ ap (λ (k : Path). (k, e.1) ∷ ahead T (Some k)) same)
] refl

-- the walk begins at the root
pub walk-root : (T : Tree) (x : Path) → IsTree T → IsNext path_cmp (Stands T) None (Some x) → x ≡ []
walk-root T [] tree next = refl
walk-root T (n ∷ x) tree next = absurd (next.2 [] tree.root refl refl)

name_is : (n m : NameText) → is_eq (name_cmp n m) ≡ true → n ≡ m
name_is n m e = name_cmp-same n m (tie_is (name_cmp n m) e)

-- a parent comes before its child
parent_before : (p x : Path) → is_child p x ≡ true → path_cmp p x ≡ Less
unfolding is_child
parent_before [] [] c = absurd cc
parent_before [] (m ∷ x) c = refl
parent_before (n ∷ p) [] c = absurd cc
parent_before (n ∷ p) (m ∷ x) c =
    ap (λ (o : Ordering). ordering_then o (path_cmp p x)) (tie_is (name_cmp n m) (first_true (is_eq (name_cmp n m)) (is_child p x) c))
    ∙ parent_before p x (second_true (is_eq (name_cmp n m)) (is_child p x) c)

-- what lies between a path and its child begins with the path
between : (p x a : Path) → is_child p x ≡ true → (path_cmp a p ≡ Less → ⊥) → path_cmp a x ≡ Less → is_front p a ≡ true
unfolding is_child is_front
between [] x a c above below = refl
between (m ∷ p) [] a c above below = absurd cc
between (m ∷ p) (k ∷ x) [] c above below = absurd (above refl)
between (m ∷ p) (k ∷ x) (b ∷ a) c above below =
    let same : name_cmp b k ≡ name_cmp b m = ap (name_cmp b) (sym (name_is m k (first_true (is_eq (name_cmp m k)) (is_child p x) c))) in
    let rest : (path_cmp a p ≡ Less → ⊥) → path_cmp a x ≡ Less → is_front p a ≡ true = between p x a (second_true (is_eq (name_cmp m k)) (is_child p x) c) in
    elim (name_cmp b m) as (λ o. name_cmp b m ≡ o → (ordering_then o (path_cmp a p) ≡ Less → ⊥) → ordering_then o (path_cmp a x) ≡ Less → (is_eq (name_cmp m b) && is_front p a) ≡ true) [
      | Less ↦ λ e up low. absurd (up refl)
      | Equal ↦ λ e up low. both_true (is_eq (name_cmp m b)) (is_front p a) (ap is_eq (name_cmp_total.antisymm m b ∙ ap ordering_reverse e)) (rest up low)
      | Greater ↦ λ e up low. absurd cc
    ] refl above (ap (λ (o : Ordering). ordering_then o (path_cmp a x)) (sym same) ∙ below)

-- in a tree the parent of the node that comes next is a front of the one before it
pub walk-parent : (T : Tree) (a x p : Path) → IsTree T → IsNext path_cmp (Stands T) (Some a) (Some x) → is_child p x ≡ true → is_front p a ≡ true
walk-parent T a x p tree next c =
    let up : Stands T p = subst (Stands T) (child_taken p x c) (tree.fronts x (length p) (omega (arith, child_long p x c)) next.0) in
    between p x a c (λ less. next.2 p up (ap is_lt less) (parent_before p x c)) (is_less (path_cmp a x) next.1)
