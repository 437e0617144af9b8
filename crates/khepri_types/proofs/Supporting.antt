-- What settling leaves where all conditions of watches are lasting.
use Rattle.std.proofs.Common.{◌≡◌, Bool, true, false, cond, not, ◌&&◌, ◌||◌, List, [], ◌∷◌, length, refl, sym, ap, subst, ◌∙◌, Option, Some, None}
use Rattle.std.specs.Prelude.{IsTrue, is_some}
use Rattle.std.specs.List.{list_all}
use Rattle.std.specs.Ordering.{eq_by_cmp}
use Rattle.std.specs.FinMap.{get, entries, find, get-entries}
use Rattle.khepri_terms.specs.Terms.{NameText}
use Rattle.khepri_terms.specs.Order.{path_cmp}
use Rattle.khepri_terms.proofs.Cases.{some_is, and_true}
use Rattle.khepri_types.specs.declared.node.Node.{Node}
use Rattle.khepri_types.specs.declared.watch.Watch.{Watch}
use Rattle.khepri_types.specs.Paths.{is_under}
use Rattle.khepri_types.specs.Conditions.{seen_node, seen_at, holds}
use Rattle.khepri_types.specs.Lasting.{is_lasting, all_lasting, cut, IsSupported}
use Rattle.khepri_types.specs.Settling.{is_met, is_broken, fails, failing, stable, settle}
use Rattle.khepri_types.specs.Tree.{Tree, IsTree, stands}
use Rattle.khepri_types.proofs.Dropping.{stands-drop}
use Rattle.khepri_types.proofs.Failing.{steady, culprit, stable-all}
use Rattle.khepri_types.proofs.Fronts.{front_taken, front_long}
use Rattle.khepri_types.proofs.Growing.{get_some}
use Rattle.khepri_types.proofs.Remaining.{Remains, remains-all, remains-cut, remains-drop, remains-settle, rest, within-remains, kids-more, stands-cut}
use Rattle.khepri_types.proofs.Rounds.{settle-keeps, settle-ends, settle-tree, next}
use Rattle.khepri_types.proofs.Upward.{IsBelow, all_last}

abbrev Entry : Type 0
Entry = List NameText × Node

-- each path that stands in A stands in B
abbrev pub Within : Tree → Tree → Type 0
Within A B = (q : List NameText) → IsTrue (stands A q) → IsTrue (stands B q)

-- ---- what is seen

seen_at-is : (T : Tree) (q : List NameText) → seen_at T q ≡ seen_node T q (get T q)
unfolding seen_at
seen_at-is T q = refl

below-of : (T A B : Tree) → Remains T A → Remains T B → Within A B → (q : List NameText) (a b : Option Node) → get A q ≡ a → get B q ≡ b → IsBelow (seen_node A q a) (seen_node B q b)
below-of T A B r s more q None b ea eb = tt
below-of T A B r s more q (Some n) None ea eb = absurd (cc (ap is_some eb, more q (ap is_some ea)))
below-of T A B r s more q (Some n) (Some m) ea eb =
    let f = rest T A r q n ea in
    let g = rest T B s q m eb in
    let same : f.old ≡ g.old = some_is f.old g.old (sym f.stood ∙ g.stood) in
    record {
      name = refl;
      payload = f.payload ∙ (ap (λ (k : Node). k.payload) same ∙ sym g.payload);
      pv = f.pv ∙ (ap (λ (k : Node). k.pv) same ∙ sym g.pv);
      kids = kids-more T A B r s more q;
    }

-- a lasting watch that is met in A is met in B
met-more : (T A B : Tree) → Remains T A → Remains T B → Within A B → (w : Watch) → is_lasting w.cond ≡ true → is_met A w ≡ true → is_met B w ≡ true
met-more T A B r s more w lasts h =
    ap (holds w.cond) (seen_at-is B w.target)
    ∙ all_last w.cond lasts (seen_node A w.target (get A w.target)) (seen_node B w.target (get B w.target)) (below-of T A B r s more w.target (get A w.target) (get B w.target) refl refl)
    (ap (holds w.cond) (sym (seen_at-is A w.target)) ∙ h)

either_false : (a b : Bool) → (a || b) ≡ false → (a ≡ false) × (b ≡ false)
either_false true b h = absurd cc
either_false false b h = (refl, h)

not_false : (a : Bool) → not a ≡ false → a ≡ true
not_false true h = refl
not_false false h = absurd cc

unbroken-more : (T A B : Tree) → Remains T A → Remains T B → Within A B → (watches : List Watch) → list_all (λ w. is_lasting w.cond) watches ≡ true → is_broken A watches ≡ false → is_broken B watches ≡ false
unbroken-more T A B r s more [] lasts h = refl
unbroken-more T A B r s more (w ∷ watches) lasts h =
    let l = and_true (is_lasting w.cond) (list_all (λ (v : Watch). is_lasting v.cond) watches) lasts in
    let f = either_false (not (is_met A w)) (is_broken A watches) h in
    let met : is_met B w ≡ true = met-more T A B r s more w l.0 (not_false (is_met A w) f.0) in
    λ i. not (met i) || unbroken-more T A B r s more watches l.1 f.1 i

-- the watches of a node
lasting_at : (es : List Entry) (q : List NameText) (n : Node) → list_all (λ e. list_all (λ w. is_lasting w.cond) e.1.watches) es ≡ true → find path_cmp q es ≡ Some n → list_all (λ w. is_lasting w.cond) n.watches ≡ true
lasting_at [] q n all is = absurd cc
lasting_at (e ∷ es) q n all is =
    let parts = and_true (list_all (λ (w : Watch). is_lasting w.cond) e.1.watches) (list_all (λ (x : Entry). list_all (λ (w : Watch). is_lasting w.cond) x.1.watches) es) all in
    elim (eq_by_cmp path_cmp q e.0) as (λ b. cond b (Some e.1) (find path_cmp q es) ≡ Some n → list_all (λ w. is_lasting w.cond) n.watches ≡ true) [
      | true ↦ λ at. subst (λ (m : Node). list_all (λ w. is_lasting w.cond) m.watches ≡ true) (some_is e.1 n at) parts.0
      | false ↦ λ at. lasting_at es q n parts.1 at
    ] is

-- a node that doesn't fail in A doesn't fail in B
firm-more : (T A B : Tree) → Remains T A → Remains T B → Within A B → IsTrue (all_lasting T) → IsTrue (stable A) → (q : List NameText) (n : Node) → IsTrue (stands A q) → get B q ≡ Some n → fails B q n ≡ false
firm-more T A B r s more lasting firm [] n there is = refl
firm-more T A B r s more lasting firm (a ∷ p) n there is =
    let q = a ∷ p in
    let m = get_some (get A q) there in
    let f = rest T A r q m.0 m.1 in
    let g = rest T B s q n is in
    let same : f.old ≡ g.old = some_is f.old g.old (sym f.stood ∙ g.stood) in
    let watches : m.0.watches ≡ n.watches = f.watches ∙ (ap (λ (k : Node). k.watches) same ∙ sym g.watches) in
    let lasts : list_all (λ w. is_lasting w.cond) n.watches ≡ true =
    subst (λ (ws : List Watch). list_all (λ w. is_lasting w.cond) ws ≡ true) (sym g.watches) (lasting_at (entries T) q g.old lasting (sym (get-entries T q) ∙ g.stood)) in
    unbroken-more T A B r s more n.watches lasts (subst (λ (ws : List Watch). is_broken A ws ≡ false) watches (steady A firm q m.0 m.1))

-- ---- what settling leaves is such a set

left-cut : (T : Tree) (keep : List NameText → Bool) (q : List NameText) → IsTrue (stands T q) → IsTrue (keep q) → IsTrue (stands (cut T keep) q)
left-cut T keep q h k = stands-cut T keep q ∙ (ap (λ (b : Bool). b && stands T q) k ∙ h)

in-cut : (T : Tree) (keep : List NameText → Bool) (q : List NameText) → IsTrue (stands (cut T keep) q) → IsTrue (keep q)
in-cut T keep q h = (and_true (keep q) (stands T q) (sym (stands-cut T keep q) ∙ h)).0

pub settled-supported : (T : Tree) → IsTree T → IsTrue (all_lasting T) → IsSupported T (stands (settle T))
settled-supported T tree lasting =
    let S = settle T in
    let r : Remains T S = remains-settle T in
    let is : IsTree S = settle-tree T tree in
    let keep : List NameText → Bool = stands S in
    record {
      paths = within-remains T S r;
      root = is.root;
      fronts = is.fronts;
      steady = stable-all (cut T keep) (λ q n at.
          let in_S : IsTrue (stands S q) = in-cut T keep q (ap is_some at) in
          firm-more T S (cut T keep) r (remains-cut T keep) (λ p h. left-cut T keep p (within-remains T S r p h) h) lasting (settle-ends T) q n in_S at);
    }

-- ---- and the greatest one

-- some of T's nodes are left, and all of these paths among them
record Holding (T : Tree) (keep : List NameText → Bool) (U : Tree) : Type 0 where
  remains : Remains T U
  holds : (q : List NameText) → IsTrue (keep q) → IsTrue (stands U q)

not_under : (T : Tree) (keep : List NameText → Bool) → IsTrue (all_lasting T) → IsSupported T keep → (U : Tree) → Holding T keep U → (q : List NameText) → IsTrue (keep q) → is_under (failing U) q ≡ false
not_under T keep lasting set U h q k = elim (is_under (failing U) q) as (λ b. is_under (failing U) q ≡ b → b ≡ false) [
  | true ↦ λ e.
      let c = culprit U q e in
      let front : IsTrue (keep c.path) = subst (λ (p : List NameText). IsTrue (keep p)) (front_taken c.path q c.front) (set.fronts q (length c.path) (front_long c.path q c.front) k) in
      let there : IsTrue (stands (cut T keep) c.path) = left-cut T keep c.path (set.paths c.path front) front in
      let firm : fails U c.path c.node ≡ false =
      firm-more T (cut T keep) U (remains-cut T keep) h.remains (λ p at. h.holds p (in-cut T keep p at)) lasting set.steady c.path c.node there (get-entries U c.path ∙ c.is) in
      absurd (cc (firm, c.passes))
  | false ↦ λ e. refl
] refl

holding-next : (T : Tree) (keep : List NameText → Bool) → IsTrue (all_lasting T) → IsSupported T keep → (U : Tree) → Holding T keep U → Holding T keep (next U)
holding-next T keep lasting set U h = record {
  remains = remains-drop T U (failing U) h.remains;
  holds = λ q k. stands-drop U (failing U) q (not_under T keep lasting set U h q k) (h.holds q k);
}

pub supported-settled : (T : Tree) (keep : List NameText → Bool) → IsTrue (all_lasting T) → IsSupported T keep → (q : List NameText) → IsTrue (keep q) → IsTrue (stands (settle T) q)
supported-settled T keep lasting set q k =
    (settle-keeps (Holding T keep) (record { stays = λ U e h. holding-next T keep lasting set U h }) T (record { remains = remains-all T; holds = set.paths })).holds q k
