-- What setting the watches of a node does to a tree.
use Rattle.std.proofs.Common.{◌≡◌, inl, inr, ℕ, zero, suc, ◌+◌, ◌≤◌, true, false, cond, List, [], length, take, refl, sym, ap, subst, ◌∙◌, arith, Option, Some, None}
use Rattle.std.specs.Prelude.{IsTrue, is_some}
use Rattle.std.specs.FinMap.{get, insert, len, len-insert}
use Rattle.khepri_terms.specs.Terms.{NameText}
use Rattle.khepri_terms.proofs.Cases.{some_is}
use Rattle.khepri_types.specs.declared.node.Node.{Node}
use Rattle.khepri_types.specs.declared.node.Payload.{Payload}
use Rattle.khepri_types.specs.declared.watch.Watch.{Watch}
use Rattle.khepri_types.specs.declared.watch.Watching.{Watching}
use Rattle.khepri_types.specs.declared.watch.Watching.TheVariants.{Stay, Free, While}
use Rattle.khepri_types.specs.Exec.{pv_of}
use Rattle.khepri_types.specs.Tree.{Tree, IsTree, stands, end_node, way_node, passed, set_from, set}
use Rattle.khepri_types.specs.Watching.{watches_after, given_watches, watch, set_watched}
use Rattle.khepri_types.proofs.Order.{path_cmp_total}
use Rattle.khepri_types.proofs.Trees.{get-inserted, get-other, set_from-end, set_from-more, set-at_path}
use Rattle.khepri_types.proofs.Standing.{tree-set}
use Rattle.khepri_types.proofs.Growing.{same_or_apart, tree-insert, get_some, set-there}
use Rattle.khepri_types.proofs.Each.{Each}

-- ---- its nodes

each-given : (P Q : Node → Type 0) (T : Tree) (p : List NameText) (watches : List Watch) (o : Option Node) → get T p ≡ o → ((n : Node) → P n → Q n) → ((n : Node) → P n → Q (record n { watches = watches })) → Each P T → Each Q (given_watches T p watches o)
each-given P Q T p watches None e kept given all q n is = kept n (all q n is)
each-given P Q T p watches (Some m) e kept given all q n is = elim (same_or_apart q p) as (λ _. Q n) [
  | inl same ↦
      let here : get (insert T p (record m { watches = watches })) p ≡ Some n = subst (λ (r : List NameText). get (insert T p (record m { watches = watches })) r ≡ Some n) same is in
      subst Q (some_is (record m { watches = watches }) n (sym (get-inserted T p (record m { watches = watches })) ∙ here)) (given m (all p m e))
  | inr apart ↦ kept n (all q n (sym (get-other T p (record m { watches = watches }) q apart) ∙ is))
]

-- what holds of a node with each of its watches
pub record AnyWatches (P Q : Node → Type 0) (w : Watching) : Type 0 where
  pub kept : (n : Node) → P n → Q n
  pub free : (n : Node) → P n → Q (record n { watches = [] })
  pub given : (n : Node) (watches : List Watch) → w ≡ While watches → P n → Q (record n { watches = watches })

pub each-watch : (P Q : Node → Type 0) (T : Tree) (p : List NameText) (w : Watching) → AnyWatches P Q w → Each P T → Each Q (watch T p w)
each-watch P Q T p Stay any all = λ q n is. any.kept n (all q n is)
each-watch P Q T p Free any all = each-given P Q T p [] (get T p) refl any.kept any.free all
each-watch P Q T p (While watches) any all = each-given P Q T p watches (get T p) refl any.kept (λ n h. any.given n watches refl h) all

-- ---- a tree

tree-given : (T : Tree) (p : List NameText) (watches : List Watch) (o : Option Node) → get T p ≡ o → IsTree T → IsTree (given_watches T p watches o)
tree-given T p watches None e tree = tree
tree-given T p watches (Some m) e tree = tree-insert T p (record m { watches = watches }) tree (λ i less. tree.fronts p i (omega (arith, less)) (ap is_some e))

pub tree-watch : (T : Tree) (p : List NameText) (w : Watching) → IsTree T → IsTree (watch T p w)
tree-watch T p Stay tree = tree
tree-watch T p Free tree = tree-given T p [] (get T p) refl tree
tree-watch T p (While watches) tree = tree-given T p watches (get T p) refl tree

pub tree-set_watched : (T : Tree) (p : List NameText) (x : Payload) (w : Watching) → IsTree T → IsTree (set_watched T p x w)
tree-set_watched T p x w tree = tree-watch (set T p x) p w (tree-set T p x tree)

-- it stands where it stood
stood-given : (T : Tree) (p : List NameText) (watches : List Watch) (o : Option Node) → get T p ≡ o → (q : List NameText) → IsTrue (stands (given_watches T p watches o) q) → IsTrue (stands T q)
stood-given T p watches None e q h = h
stood-given T p watches (Some m) e q h = elim (same_or_apart q p) as (λ _. IsTrue (stands T q)) [
  | inl same ↦ subst (λ (r : List NameText). IsTrue (stands T r)) (sym same) (ap is_some e)
  | inr apart ↦ ap is_some (sym (get-other T p (record m { watches = watches }) q apart)) ∙ h
]

pub stood-watch : (T : Tree) (p : List NameText) (w : Watching) (q : List NameText) → IsTrue (stands (watch T p w) q) → IsTrue (stands T q)
stood-watch T p Stay q h = h
stood-watch T p Free q h = stood-given T p [] (get T p) refl q h
stood-watch T p (While watches) q h = stood-given T p watches (get T p) refl q h

-- ---- its size

len-standing : (T : Tree) (k : List NameText) (v n : Node) → get T k ≡ Some n → len (insert T k v) ≡ len T
len-standing T k v n is = len-insert path_cmp_total T k v ∙ ap (λ (o : Option Node). cond (is_some o) (len T) (len T + 1)) is

len-insert-le : (T : Tree) (k : List NameText) (v : Node) → len (insert T k v) ≤ len T + 1
len-insert-le T k v = elim (is_some (get T k)) as (λ b. len (insert T k v) ≡ cond b (len T) (len T + 1) → len (insert T k v) ≤ len T + 1) [
  | true ↦ λ e. omega (arith, e)
  | false ↦ λ e. omega (arith, e)
] (len-insert path_cmp_total T k v)

len-given : (T : Tree) (p : List NameText) (watches : List Watch) (o : Option Node) → get T p ≡ o → len (given_watches T p watches o) ≡ len T
len-given T p watches None e = refl
len-given T p watches (Some m) e = len-standing T p (record m { watches = watches }) m e

pub len-watch : (T : Tree) (p : List NameText) (w : Watching) → len (watch T p w) ≡ len T
len-watch T p Stay = refl
len-watch T p Free = len-given T p [] (get T p) refl
len-watch T p (While watches) = len-given T p watches (get T p) refl

pub len-set_from : (n i : ℕ) (T : Tree) (p : List NameText) (x : Payload) → len (set_from n i T p x) ≤ len T + n + 1
len-set_from zero i T p x = omega (arith, ap len (set_from-end i T p x), len-insert-le T p (end_node (get T p) x))
len-set_from (suc n) i T p x =
    omega (arith, ap len (set_from-more n i T p x), len-set_from n (i + 1) (passed T p i) p x, len-insert-le T (take i p) (way_node (get T (take i p)) (stands T (take (i + 1) p))))

-- at most one node a name of the path is made, and that of the path itself
pub len-set_watched : (T : Tree) (p : List NameText) (x : Payload) (w : Watching) → len (set_watched T p x w) ≤ len T + length p + 1
len-set_watched T p x w = omega (arith, len-watch (set T p x) p w, len-set_from (length p) 0 T p x)

-- and none where the path stands
pub len-set_there : (T : Tree) (p : List NameText) (x : Payload) (w : Watching) → IsTree T → IsTrue (stands T p) → len (set_watched T p x w) ≡ len T
len-set_there T p x w tree h =
    let m = get_some (get T p) h in
    len-watch (set T p x) p w ∙ (ap len (set-there T p x m.0 tree m.1) ∙ len-standing T p _ m.0 m.1)

-- ---- its version

pv-given : (T : Tree) (p : List NameText) (watches : List Watch) (o : Option Node) → get T p ≡ o → pv_of (get (given_watches T p watches o) p) ≡ pv_of o
pv-given T p watches None e = ap pv_of e
pv-given T p watches (Some m) e = ap pv_of (get-inserted T p (record m { watches = watches }))

pv-watch : (T : Tree) (p : List NameText) (w : Watching) → pv_of (get (watch T p w) p) ≡ pv_of (get T p)
pv-watch T p Stay = refl
pv-watch T p Free = pv-given T p [] (get T p) refl
pv-watch T p (While watches) = pv-given T p watches (get T p) refl

-- watches change no version
pub pv-set_watched : (T : Tree) (p : List NameText) (x : Payload) (w : Watching) → pv_of (get (set_watched T p x w) p) ≡ (end_node (get T p) x).pv
pv-set_watched T p x w = pv-watch (set T p x) p w ∙ ap pv_of (set-at_path T p x)

-- ---- node by node

given-other : (T : Tree) (p : List NameText) (watches : List Watch) (o : Option Node) (q : List NameText) → (q ≡ p → ⊥) → get (given_watches T p watches o) q ≡ get T q
given-other T p watches None q apart = refl
given-other T p watches (Some m) q apart = get-other T p (record m { watches = watches }) q apart

watch-other : (T : Tree) (p : List NameText) (w : Watching) (q : List NameText) → (q ≡ p → ⊥) → get (watch T p w) q ≡ get T q
watch-other T p Stay q apart = refl
watch-other T p Free q apart = given-other T p [] (get T p) q apart
watch-other T p (While watches) q apart = given-other T p watches (get T p) q apart

pub set_watched-elsewhere : (T : Tree) (p : List NameText) (x : Payload) (w : Watching) (q : List NameText) → (q ≡ p → ⊥) → get (set_watched T p x w) q ≡ get (set T p x) q
set_watched-elsewhere T p x w q apart = watch-other (set T p x) p w q apart

given-here : (T : Tree) (p : List NameText) (watches : List Watch) (n : Node) → get T p ≡ Some n → get (given_watches T p watches (get T p)) p ≡ Some (record n { watches = watches })
given-here T p watches n is = ap (λ (o : Option Node). get (given_watches T p watches o) p) is ∙ get-inserted T p (record n { watches = watches })

watch-here : (T : Tree) (p : List NameText) (w : Watching) (n : Node) → get T p ≡ Some n → get (watch T p w) p ≡ Some (record n { watches = watches_after w n.watches })
watch-here T p Stay n is = is
watch-here T p Free n is = given-here T p [] n is
watch-here T p (While watches) n is = given-here T p watches n is

pub set_watched-at_path : (T : Tree) (p : List NameText) (x : Payload) (w : Watching) → get (set_watched T p x w) p ≡ Some (record (end_node (get T p) x) { watches = watches_after w (end_node (get T p) x).watches })
set_watched-at_path T p x w = watch-here (set T p x) p w (end_node (get T p) x) (set-at_path T p x)
