-- What stands at a path of a tree with changes over it.
use Rattle.std.proofs.Common.{◌≡◌, Bool, true, false, cond, List, [], ◌∷◌, refl, sym, ap, ◌∙◌, Option, Some, None, ◌||◌}
use Rattle.std.specs.Prelude.{is_some}
use Rattle.std.specs.Map.{keys_of, lookup}
use Rattle.std.specs.BTreeMap.{BTreeMap, UpdatesBy, is_at}
use Rattle.std.specs.Ordering.{is_eq, eq_by_cmp}
use Rattle.std.specs.Cmp.{eq_by_cmp_equiv}
use Rattle.std.specs.FinMap.{get, find, get-insert, get-remove, same_map}
use Rattle.std.specs.FinMap.Entries.{is_some-find}
use Rattle.khepri_terms.specs.Terms.{NameText}
use Rattle.khepri_terms.specs.Order.{path_cmp}
use Rattle.khepri_types.specs.declared.node.Node.{Node}
use Rattle.khepri_types.specs.Tree.{Tree}
use Rattle.khepri_types.proofs.Order.{path_cmp_total, path_cmp-same}
use Rattle.nested_nodes.proofs.Rows.{find_lookup}
use Rattle.tree_overlay.specs.Over.{Drafted, changed_at, over, is_touched}

abbrev pub Map : Type 0
Map = BTreeMap (List NameText) (Option Node)

get-changed : (T : Tree) (p : List NameText) (c : Option Node) (q : List NameText) → get (changed_at T p c) q ≡ cond (eq_by_cmp path_cmp q p) c (get T q)
get-changed T p None q = get-remove path_cmp_total T p q
get-changed T p (Some n) q = get-insert path_cmp_total T p n q

-- a change in place of what stood there
abbrev pub patched : Option (Option Node) → Option Node → Option Node
patched None o = o
patched (Some c) o = c

pub get-over : (T : Tree) (cs : List (List NameText × Option Node)) (q : List NameText) → get (over T cs) q ≡ patched (find path_cmp q cs) (get T q)
get-over T [] q = refl
get-over T (e ∷ cs) q = get-changed (over T cs) e.0 e.1 q ∙ elim (eq_by_cmp path_cmp q e.0) as (λ b. cond b e.1 (get (over T cs) q) ≡ patched (cond b (Some e.1) (find path_cmp q cs)) (get T q)) [
  | true ↦ refl
  | false ↦ get-over T cs q
]

-- what is found once a change is noted
found-put : (m n : Map) (p : List NameText) (c : Option Node) → UpdatesBy path_cmp (path_cmp p) m n (Some c) → (q : List NameText) → find path_cmp q n.entries ≡ cond (is_eq (path_cmp p q)) (Some c) (find path_cmp q m.entries)
found-put m n p c up q = find_lookup path_cmp q n.entries ∙ (up.0 q ∙ ap (cond (is_eq (path_cmp p q)) (Some c)) (sym (find_lookup path_cmp q m.entries)))

-- to note a change is to change the tree
pub over-put : (T : Tree) (m n : Map) (p : List NameText) (c : Option Node) → UpdatesBy path_cmp (path_cmp p) m n (Some c) → over T n.entries ≡ changed_at (over T m.entries) p c
over-put T m n p c up = same_map path_cmp_total path_cmp-same _ _ (λ q.
    get-over T n.entries q
    ∙ (ap (λ (o : Option (Option Node)). patched o (get T q)) (found-put m n p c up q)
    ∙ (elim (is_eq (path_cmp p q)) as (λ b. patched (cond b (Some c) (find path_cmp q m.entries)) (get T q) ≡ cond b c (patched (find path_cmp q m.entries) (get T q))) [ true ↦ refl | false ↦ refl ]
    ∙ ((λ i. cond ((eq_by_cmp_equiv path_cmp_total).symm p q i) c (sym (get-over T m.entries q) i))
    ∙ sym (get-changed (over T m.entries) p c q)))))

pub touched_is : (es : List (List NameText × Option Node)) (q : List NameText) → is_touched (keys_of es) q ≡ is_some (find path_cmp q es)
touched_is es q = sym (is_some-find path_cmp q es)

-- and its path is touched
pub touched-put : (m n : Map) (p : List NameText) (c : Option Node) → UpdatesBy path_cmp (path_cmp p) m n (Some c) → (q : List NameText) → is_touched (keys_of n.entries) q ≡ (is_eq (path_cmp p q) || is_touched (keys_of m.entries) q)
touched-put m n p c up q =
    touched_is n.entries q
    ∙ (ap is_some (found-put m n p c up q)
    ∙ (elim (is_eq (path_cmp p q)) as (λ b. is_some (cond b (Some c) (find path_cmp q m.entries)) ≡ (b || is_some (find path_cmp q m.entries))) [ true ↦ refl | false ↦ refl ]
    ∙ ap (λ (b : Bool). is_eq (path_cmp p q) || b) (sym (touched_is m.entries q))))

-- what is noted at a path stands there
pub got_change : (B : Tree) (m : Map) (p : List NameText) (c : Option Node) → Some c ≡ lookup (is_at (path_cmp p)) m.entries → get (over B m.entries) p ≡ c
got_change B m p c there = get-over B m.entries p ∙ ap (λ (o : Option (Option Node)). patched o (get B p)) (find_lookup path_cmp p m.entries ∙ sym there)

-- and else what the tree has
pub got_base : (B : Tree) (m : Map) (p : List NameText) → None ≡ lookup (is_at (path_cmp p)) m.entries → get (over B m.entries) p ≡ get B p
got_base B m p none = get-over B m.entries p ∙ ap (λ (o : Option (Option Node)). patched o (get B p)) (find_lookup path_cmp p m.entries ∙ sym none)

-- the path is noted where the map has it
pub touched_has : (m : Map) (d : Drafted) → keys_of m.entries ≡ d.touched → (q : List NameText) → is_some (find path_cmp q m.entries) ≡ is_touched d.touched q
touched_has m d is q = sym (touched_is m.entries q) ∙ ap (λ (ks : List (List NameText)). is_touched ks q) is

missing_of : {X : Type 0} (o : Option X) → is_some o ≡ false → o ≡ None
missing_of None e = refl
missing_of (Some x) e = absurd cc

-- where nothing is noted the tree under the draft is as it was
pub covered-over : (B : Tree) (cs : List (List NameText × Option Node)) (q : List NameText) → is_touched (keys_of cs) q ≡ false → get B q ≡ get (over B cs) q
covered-over B cs q off = sym (get-over B cs q ∙ ap (λ (o : Option (Option Node)). patched o (get B q)) (missing_of (find path_cmp q cs) (sym (touched_is cs q) ∙ off)))
