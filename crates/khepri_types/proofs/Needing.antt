-- Why conditions have to be lasting: of others there may be no greatest set of paths.
use Rattle.std.proofs.Common.{◌≡◌, inl, inr, ℕ, zero, suc, ◌≤◌, Bool, true, false, not, ◌&&◌, ◌||◌, List, [], ◌∷◌, length, take, refl, sym, ap, subst, ◌∙◌, Option, Some, None}
use Rattle.std.specs.Prelude.{IsTrue, is_some}
use Rattle.std.specs.Ordering.{eq_by_cmp}
use Rattle.std.specs.FinMap.{get}
use Rattle.std.proofs.Math.Seq.{take-nil}
use Rattle.khepri_terms.specs.declared.name.Kind.TheVariants as kinds
use Rattle.khepri_terms.specs.Terms.{NameText}
use Rattle.khepri_terms.specs.Order.{path_cmp}
use Rattle.khepri_terms.proofs.Cases.{some_is, and_true}
use Rattle.khepri_types.specs.declared.condition.Condition.{Condition}
use Rattle.khepri_types.specs.declared.condition.Condition.TheFolds.{fold-roll-Condition}
use Rattle.khepri_types.specs.declared.condition.Condition.TheOpen.{Condition-F}
use Rattle.khepri_types.specs.declared.condition.Condition.TheVariants.{rolls-Absent}
use Rattle.khepri_types.specs.declared.condition.Condition.TheVariants as c
use Rattle.khepri_types.specs.declared.node.Node.{Node}
use Rattle.khepri_types.specs.declared.node.Payload.TheVariants.{Empty}
use Rattle.khepri_types.specs.declared.watch.Watch.{Watch}
use Rattle.khepri_types.specs.declared.watch.Watching.{Watching}
use Rattle.khepri_types.specs.declared.watch.Watching.TheVariants.{Stay, While}
use Rattle.khepri_types.specs.Conditions.{Seen, is_absent, layer_holds, holds, seen_node, seen_at}
use Rattle.khepri_types.specs.Lasting.{cut, IsSupported}
use Rattle.khepri_types.specs.Settling.{is_broken, fails, settle}
use Rattle.khepri_types.specs.Tree.{Tree, IsTree, stands, end_node, way_node, set, opening_tree}
use Rattle.khepri_types.specs.Watching.{set_watched}
use Rattle.khepri_types.proofs.Each.{Each, OfOld, IsCarried, each-set, each-opening}
use Rattle.khepri_types.proofs.Everywhere.{Everywhere, everywhere-set}
use Rattle.khepri_types.proofs.Failing.{steady, stable-all}
use Rattle.khepri_types.proofs.Growing.{get_some, get_none, same_or_apart}
use Rattle.khepri_types.proofs.Remaining.{remains-cut, remains-settle, rest, stands-cut}
use Rattle.khepri_types.proofs.Rounds.{settle-ends}
use Rattle.khepri_types.proofs.Standing.{tied, stands-kept, tree-set, get-opening, tree-opening}
use Rattle.khepri_types.proofs.Trees.{set-at_path, set-elsewhere}
use Rattle.khepri_types.proofs.Watched.{tree-set_watched, set_watched-at_path, set_watched-elsewhere}

-- ---- a tree of which either node may stay, but not both: `/w` stands while `/p` is absent

abbrev p : NameText
p = record { kind = kinds.Text; bytes = 112 ∷ [] }

abbrev w : NameText
w = record { kind = kinds.Text; bytes = 119 ∷ [] }

abbrev P : List NameText
P = p ∷ []

abbrev W : List NameText
W = w ∷ []

abbrev shy : Watch
shy = record { target = P; cond = c.Absent }

abbrev one : Tree
one = set opening_tree P Empty

abbrev both : Tree
both = set_watched one W Empty (While (shy ∷ []))

apart-w : W ≡ P → ⊥
apart-w is = let e : eq_by_cmp path_cmp W P ≡ false = refl in absurd (cc (e, tied W P is))

apart-p : P ≡ W → ⊥
apart-p is = apart-w (sym is)

tree-both : IsTree both
tree-both = tree-set_watched one W Empty (While (shy ∷ [])) (tree-set opening_tree P Empty tree-opening)

both-w : get both W ≡ Some (record (end_node (get one W) Empty) { watches = shy ∷ [] })
both-w = set_watched-at_path one W Empty (While (shy ∷ []))

stands-w : IsTrue (stands both W)
stands-w = ap is_some both-w

stands-p : IsTrue (stands both P)
stands-p = ap is_some (set_watched-elsewhere one W Empty (While (shy ∷ [])) P apart-p) ∙ stands-kept one W Empty P (ap is_some (set-at_path opening_tree P Empty))

-- ---- no other node watches anything

abbrev IsBare : Node → Type 0
IsBare n = n.watches ≡ []

bare-end : (o : Option Node) → OfOld IsBare o → IsBare (end_node o Empty)
bare-end None old = refl
bare-end (Some n) old = old n refl

bare-way : (o : Option Node) (below : Bool) → OfOld IsBare o → IsBare (way_node o below)
bare-way None below old = refl
bare-way (Some n) true old = old n refl
bare-way (Some n) false old = old n refl

bare : IsCarried IsBare IsBare Empty
bare = record { elsewhere = λ n h. h; at_path = bare-end; on_the_way = bare-way }

all-bare : Each IsBare (set one W Empty)
all-bare = each-set IsBare IsBare one W Empty bare (each-set IsBare IsBare opening_tree P Empty bare (each-opening IsBare refl))

bare-other : (q : List NameText) (n : Node) → (q ≡ W → ⊥) → get both q ≡ Some n → n.watches ≡ []
bare-other q n apart is = all-bare q n (sym (set_watched-elsewhere one W Empty (While (shy ∷ [])) q apart) ∙ is)

watches-w : (n : Node) → get both W ≡ Some n → n.watches ≡ shy ∷ []
watches-w n is = ap (λ (m : Node). m.watches) (some_is n (record (end_node (get one W) Empty) { watches = shy ∷ [] }) (sym is ∙ both-w))

-- ---- whether the watch is met

holds-absent : (seen : Option Seen) → holds c.Absent seen ≡ is_absent seen
holds-absent seen = ap (λ (x : Condition). holds x seen) (sym rolls-Absent) ∙ fold-roll-Condition Bool (layer_holds seen) Condition-F.Absent

holds-none : (T : Tree) (o : Option Node) → o ≡ None → holds c.Absent (seen_node T P o) ≡ true
holds-none T None e = holds-absent (seen_node T P None)
holds-none T (Some n) e = absurd cc

holds-some : (T : Tree) (o : Option Node) → IsTrue (is_some o) → holds c.Absent (seen_node T P o) ≡ false
holds-some T None e = absurd cc
holds-some T (Some n) e = holds-absent (seen_node T P (Some n))

met-absent : (T : Tree) → stands T P ≡ false → is_broken T (shy ∷ []) ≡ false
unfolding seen_at
met-absent T h = ap (λ (b : Bool). not b || false) (holds-none T (get T P) (get_none (get T P) h))

broken-standing : (T : Tree) → IsTrue (stands T P) → is_broken T (shy ∷ []) ≡ true
unfolding seen_at
broken-standing T h = ap (λ (b : Bool). not b || false) (holds-some T (get T P) h)

-- ---- the two sets

in-opening : Everywhere (λ q. IsTrue (stands both q)) opening_tree
in-opening [] h = tree-both.root
in-opening (n ∷ q) h = absurd (cc (sym h ∙ ap is_some (get-opening (n ∷ q))))

kept-cut : (keep : List NameText → Bool) (q : List NameText) (n : Node) → get (cut both keep) q ≡ Some n → keep q ≡ true
kept-cut keep q n at = (and_true (keep q) (stands both q) (sym (stands-cut both keep q) ∙ ap is_some at)).0

-- with the root, and with one of the two
abbrev with_root : List NameText → Watching → List NameText → Bool
with_root q watching = stands (set_watched opening_tree q Empty watching)

supported : (q : List NameText) (watching : Watching) → IsTrue (stands both q) → ((n : Node) → get (cut both (with_root q watching)) W ≡ Some n → fails (cut both (with_root q watching)) W n ≡ false) → IsSupported both (with_root q watching)
supported q watching here firm =
    let keep : List NameText → Bool = with_root q watching in
    let is : IsTree (set_watched opening_tree q Empty watching) = tree-set_watched opening_tree q Empty watching tree-opening in
    record {
      paths = everywhere-set (λ r. IsTrue (stands both r)) (record { fronts = tree-both.fronts }) opening_tree q Empty watching here in-opening;
      root = is.root;
      fronts = is.fronts;
      steady = stable-all (cut both keep) (λ r n at. elim (same_or_apart r W) as (λ _. fails (cut both keep) r n ≡ false) [
        | inl same ↦
            let there : get (cut both keep) W ≡ Some n = subst (λ (k : List NameText). get (cut both keep) k ≡ Some n) same at in
            subst (λ (k : List NameText). fails (cut both keep) k n ≡ false) (sym same) (firm n there)
        | inr apart ↦
            let old = rest both (cut both keep) (remains-cut both keep) r n at in
            bare-firm (cut both keep) r n (old.watches ∙ bare-other r old.old apart old.stood)
      ]);
    }
  where
    bare-firm : (T : Tree) (r : List NameText) (n : Node) → n.watches ≡ [] → fails T r n ≡ false
    bare-firm T [] n h = refl
    bare-firm T (a ∷ r) n h = ap (is_broken T) h

away : (a b : NameText) → (a ∷ [] ≡ b ∷ [] → ⊥) → (i : ℕ) → i ≤ length (b ∷ []) → a ∷ [] ≡ take i (b ∷ []) → ⊥
away a b apart zero le is = absurd cc
away a b apart (suc i) le is = apart (is ∙ ap (λ (r : List NameText). b ∷ r) (take-nil {A = NameText} i))

-- the other one does not stand
other-gone : (a b : NameText) (watching : Watching) → (a ∷ [] ≡ b ∷ [] → ⊥) → with_root (b ∷ []) watching (a ∷ []) ≡ false
other-gone a b watching apart =
    ap is_some (set_watched-elsewhere opening_tree (b ∷ []) Empty watching (a ∷ []) apart ∙ (set-elsewhere opening_tree (b ∷ []) Empty (a ∷ []) (away a b apart) ∙ get-opening (a ∷ [])))

supported-p : IsSupported both (with_root P Stay)
supported-p = supported P Stay stands-p (λ n at. absurd (cc (kept-cut (with_root P Stay) W n at, other-gone w p Stay apart-w)))

supported-w : IsSupported both (with_root W Stay)
supported-w = supported W Stay stands-w (λ n at.
    let keep : List NameText → Bool = with_root W Stay in
    let old = rest both (cut both keep) (remains-cut both keep) W n at in
    let gone : stands (cut both keep) P ≡ false = stands-cut both keep P ∙ ap (λ (b : Bool). b && stands both P) (other-gone p w Stay apart-p) in
    ap (is_broken (cut both keep)) (old.watches ∙ watches-w old.old old.stood) ∙ met-absent (cut both keep) gone)

-- ---- settling can't leave both

pub lasting-needed : ((T : Tree) (keep : List NameText → Bool) → IsTree T → IsSupported T keep → (q : List NameText) → IsTrue (keep q) → IsTrue (stands (settle T) q)) → ⊥
lasting-needed greatest =
    let S : Tree = settle both in
    let in-p : IsTrue (stands S P) = greatest both (with_root P Stay) tree-both supported-p P (ap is_some (set-at_path opening_tree P Empty)) in
    let in-w : IsTrue (stands S W) = greatest both (with_root W Stay) tree-both supported-w W (ap is_some (set-at_path opening_tree W Empty)) in
    let n = get_some (get S W) in-w in
    let old = rest both S (remains-settle both) W n.0 n.1 in
    let broken : is_broken S n.0.watches ≡ true = ap (is_broken S) (old.watches ∙ watches-w old.old old.stood) ∙ broken-standing S in-p in
    absurd (cc (steady S (settle-ends both) W n.0 n.1, broken))
