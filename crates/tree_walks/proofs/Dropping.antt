-- What is left of a draft where paths are dropped, one after another.
use Rattle.std.proofs.Common.{◌≡◌, ◌⊎◌, inl, inr, ℕ, zero, suc, ◌+◌, ◌-◌, ◌<◌, ◌≤◌, Bool, true, false, cond, not, List, [], ◌∷◌, length, take, get_or, refl, sym, ap, subst, ◌∙◌, arith, Option, Some, None, ◌&&◌, ◌||◌}
use Rattle.std.specs.Prelude.{IsTrue, is_some, slice_get}
use Rattle.std.specs.List.{list_any}
use Rattle.std.specs.Option.{option_map}
use Rattle.std.specs.Ordering.{is_eq}
use Rattle.std.specs.FinMap.{get, entries, find, same_map, get-entries}
use Rattle.std.proofs.lemmas.Bool.{false≢true}
use Rattle.std.proofs.lemmas.List.{take_all}
use Rattle.std.proofs.lemmas.List.Folds.{list_any_more}
use Rattle.khepri_terms.specs.Terms.{NameText}
use Rattle.khepri_terms.specs.Order.{path_cmp}
use Rattle.khepri_types.specs.declared.node.Node.{Node}
use Rattle.khepri_types.specs.Drop.{drop, loses_child}
use Rattle.khepri_types.specs.Paths.{is_child, is_front, is_under}
use Rattle.khepri_types.specs.Tree.{Tree, IsTree, stands, raised_children, raised}
use Rattle.khepri_types.proofs.Dropping.{left_node, get-drop}
use Rattle.khepri_types.proofs.Fronts.{front_taken, front_long, front_itself, child_taken, child_long, front_child}
use Rattle.khepri_types.proofs.Growing.{get_some}
use Rattle.khepri_types.proofs.Order.{path_cmp_total, path_cmp-same}
use Rattle.khepri_types.proofs.Trees.{tie_is}
use Rattle.khepri_types.specs.Sizes.{kids}
use Rattle.tree_overlay.specs.declared.draft.Measure.{Measure}
use Rattle.tree_overlay.specs.Measures.{HasSiblings, Measures}
use Rattle.tree_overlay.specs.Over.{is_touched, StaysTouched, Touches}
use Rattle.tree_overlay.proofs.Applying.{gone_below}
use Rattle.tree_walks.specs.Notes.{is_parent, lost_if, rises, rises_at}
use Rattle.tree_walks.proofs.Betweens.{front_taken_on}
use Rattle.tree_walks.proofs.Raising.{lost-none, and_false}
use Rattle.tree_walks.proofs.Ways.{no_own_child}
use Rattle.tree_walks.proofs.Touching.{or_left, or_right, or_either, or_neither, and_both, not_true, apart_cv, stays_low, tie}

abbrev Paths : Type 0
Paths = List (List NameText)

-- ---- lists

any_false : {X : Type 0} (f : X → Bool) (xs : List X) (k : ℕ) (x : X) → slice_get xs k ≡ Some x → list_any f xs ≡ false → f x ≡ false
any_false f [] k x at h = absurd cc
any_false f (y ∷ xs) zero x at h = let same : y ≡ x = cc in sym (ap f same) ∙ (or_neither (f y) (list_any f xs) h).0
any_false f (y ∷ xs) (suc k) x at h = any_false f xs k x at (or_neither (f y) (list_any f xs) h).1

any_true : {X : Type 0} (f : X → Bool) (xs : List X) → list_any f xs ≡ true → (k : ℕ) × (x : X) × (slice_get xs k ≡ Some x) × (f x ≡ true)
any_true f [] h = absurd cc
any_true f (y ∷ xs) h = elim (or_either (f y) (list_any f xs) h) as (λ _. (k : ℕ) × (x : _) × (slice_get (y ∷ xs) k ≡ Some x) × (f x ≡ true)) [
  | inl a ↦ (0, y, refl, a)
  | inr b ↦ let r = any_true f xs b in (suc r.0, r.1, r.2, r.3)
]

any_at : {X : Type 0} (f : X → Bool) (xs : List X) (k : ℕ) (x : X) → slice_get xs k ≡ Some x → f x ≡ true → list_any f xs ≡ true
any_at f [] k x at h = absurd cc
any_at f (y ∷ xs) zero x at h = let same : y ≡ x = cc in or_left (f y) (list_any f xs) (ap f same ∙ h)
any_at f (y ∷ xs) (suc k) x at h = or_right (f y) (list_any f xs) (any_at f xs k x at h)

at_place : {X : Type 0} (xs : List X) (i : ℕ) (x : X) → i < length xs → x ≡ get_or xs i x → slice_get xs i ≡ Some x
at_place [] i x lt is = absurd (omega (arith, lt))
at_place (y ∷ xs) zero x lt is = ap Some (sym is)
at_place (y ∷ xs) (suc i) x lt is = at_place xs i x (omega (arith, lt)) is

both_same : (a b : Bool) → (a ≡ true → b ≡ true) → (b ≡ true → a ≡ true) → a ≡ b
both_same true b f g = sym (f refl)
both_same false true f g = g refl
both_same false false f g = refl

-- ---- parents

pub parent_is : (p q : List NameText) → 0 < length p → is_eq (path_cmp (take (length p - 1) p) q) ≡ is_child q p
parent_is p q lt = both_same (is_eq (path_cmp (take (length p - 1) p) q)) (is_child q p)
    (λ h.
    let i : ℕ = length p - 1 in
    let same : take i p ≡ q = path_cmp-same (take i p) q (tie_is _ h) in
    (λ j. is_child (sym same j) (sym (take_all (suc i) p (omega (arith, lt))) j)) ∙ front_child p i (omega (arith, lt)))
    (λ h. tie (take (length p - 1) p) q (ap (λ (k : ℕ). take k p) (omega (arith, child_long q p h)) ∙ child_taken q p h))

-- a path under which the root is not has a name
pub named : (ps : Paths) (i : ℕ) (p : List NameText) → is_under ps [] ≡ false → i < length ps → p ≡ get_or ps i p → 0 < length p
named ps i p root lt is = by p (any_false (λ (r : List NameText). is_front r []) ps i p (at_place ps i p lt is) root)
  where
    by : (p : List NameText) → is_front p [] ≡ false → 0 < length p
    by [] h = absurd (cc (h, front_itself []))
    by (n ∷ p) h = omega arith

-- ---- who loses a child

abbrev Entry : Type 0
Entry = List NameText × Node

place_of : (es : List Entry) (q : List NameText) (n : Node) → find path_cmp q es ≡ Some n → (k : ℕ) × (slice_get es k ≡ Some (q, n))
place_of [] q n h = absurd cc
place_of (x ∷ es) q n h = elim (is_eq (path_cmp q x.0)) as (λ b. is_eq (path_cmp q x.0) ≡ b → cond b (Some x.1) (find path_cmp q es) ≡ Some n → (k : ℕ) × (slice_get (x ∷ es) k ≡ Some (q, n))) [
  | true ↦ λ e t. (0, pair x q n (sym (path_cmp-same q x.0 (tie_is _ e))) t)
  | false ↦ λ e t. let r = place_of es q n t in (suc r.0, r.1)
] refl h
  where
    pair : (x : Entry) (q : List NameText) (n : Node) → x.0 ≡ q → Some x.1 ≡ Some n → Some x ≡ Some (q, n)
    pair x q n a b = let one : x.1 ≡ n = cc in λ i. Some (a i, one i)

-- an entry is found by its path, though not always as its own
found_at : (es : List Entry) (k : ℕ) (e : Entry) → slice_get es k ≡ Some e → IsTrue (is_some (find path_cmp e.0 es))
found_at [] k e at = absurd cc
found_at (x ∷ es) zero e at =
    let same : x ≡ e = cc in
    ap (λ (b : Bool). is_some (cond b (Some x.1) (find path_cmp e.0 es))) (tie e.0 x.0 (ap (λ (y : Entry). y.0) (sym same)))
found_at (x ∷ es) (suc k) e at = elim (is_eq (path_cmp e.0 x.0)) as (λ b. is_some (cond b (Some x.1) (find path_cmp e.0 es)) ≡ true) [
  | true ↦ refl
  | false ↦ found_at es k e at
]

-- what begins with f and is a child of q is f itself, or q begins with it
front_of_child : (f q x : List NameText) → is_front f x ≡ true → is_child q x ≡ true → is_front f q ≡ false → f ≡ x
front_of_child f q x front child off = elim (within (length f) (length q)) as (λ _. f ≡ x) [
  | inl short ↦ absurd (cc (off, ap (is_front f) (sym (child_taken q x child)) ∙ front_taken_on f x (length q) front short))
  | inr long ↦ sym (front_taken f x front) ∙ take_all (length f) x (omega (arith, long, child_long q x child))
]
  where
    within : (a b : ℕ) → (a ≤ b) ⊎ (b < a)
    within zero b = inl (omega arith)
    within (suc a) zero = inr (omega arith)
    within (suc a) (suc b) = elim (within a b) as (λ _. (suc a ≤ suc b) ⊎ (suc b < suc a)) [
      | inl h ↦ inl (omega (arith, h))
      | inr h ↦ inr (omega (arith, h))
    ]

-- a node that stays loses a child exactly where one of the paths is that child
loses_is : (T : Tree) (ps : Paths) (q : List NameText) → is_under ps q ≡ false → is_parent T ps q ≡ loses_child (entries T) ps q
loses_is T ps q off = both_same (is_parent T ps q) (loses_child (entries T) ps q)
    (λ h.
    let r = any_true (λ (p : List NameText). is_child q p && stands T p) ps h in
    let both = and_both (is_child q r.1) (stands T r.1) r.3 in
    let n = get_some (get T r.1) both.1 in
    let place = place_of (entries T) r.1 n.0 (sym (get-entries T r.1) ∙ n.1) in
    any_at (λ (e : Entry). is_child q e.0 && is_under ps e.0) (entries T) place.0 (r.1, n.0) place.1
    (λ i. both.0 i && any_at (λ (p : List NameText). is_front p r.1) ps r.0 r.1 r.2 (front_itself r.1) i))
    (λ h.
    let r = any_true (λ (e : Entry). is_child q e.0 && is_under ps e.0) (entries T) h in
    let both = and_both (is_child q r.1.0) (is_under ps r.1.0) r.3 in
    let f = any_true (λ (p : List NameText). is_front p r.1.0) ps both.1 in
    let same : f.1 ≡ r.1.0 = front_of_child f.1 q r.1.0 f.3 both.0 (any_false (λ (p : List NameText). is_front p q) ps f.0 f.1 f.2 off) in
    let there : stands T r.1.0 ≡ true = ap is_some (get-entries T r.1.0) ∙ found_at (entries T) r.0 r.1 r.2 in
    any_at (λ (p : List NameText). is_child q p && stands T p) ps f.0 f.1 f.2 ((λ i. is_child q (same i) && stands T (same i)) ∙ (λ i. both.0 i && there i)))

-- ---- what goes, and what changes, path by path

under-more : (ps : Paths) (i : ℕ) (p q : List NameText) → i < length ps → p ≡ get_or ps i p → is_under (take (i + 1) ps) q ≡ (is_under (take i ps) q || is_front p q)
under-more ps i p q lt is =
    let F : List NameText → Bool = λ r. is_front r q in
    list_any_more F ps i p lt ∙ ap (λ (r : List NameText). list_any F (take i ps) || F r) (sym is)

parent-more : (T : Tree) (ps : Paths) (i : ℕ) (p q : List NameText) → i < length ps → p ≡ get_or ps i p → is_parent T (take (i + 1) ps) q ≡ (is_parent T (take i ps) q || (is_child q p && stands T p))
parent-more T ps i p q lt is =
    let F : List NameText → Bool = λ r. is_child q r && stands T r in
    list_any_more F ps i p lt ∙ ap (λ (r : List NameText). list_any F (take i ps) || F r) (sym is)

pub record Dropped (ps keys : Paths) (T D : Tree) (old now : Paths) : Type 0 where
  pub tree : (q : List NameText) → get D q ≡ cond (is_under ps q) None (option_map (lost_if (is_parent T ps q)) (get T q))
  pub losers : (q : List NameText) → is_under ps q ≡ false → is_touched keys q ≡ is_parent T ps q
  pub touched : (q : List NameText) → is_touched now q ≡ ((is_under ps q && stands T q) || ((is_parent T ps q && rises_at (get T q)) || is_touched old q))

pub dropped-init : (T : Tree) (keys old : Paths) → keys ≡ [] → Dropped [] keys T T old old
dropped-init T keys old none = record {
  tree = λ q. sym (lost-none (get T q));
  losers = λ q off. ap (λ (ks : Paths). is_touched ks q) none;
  touched = λ q. refl;
}

pub dropped-stays : (ps keys : Paths) (T D : Tree) (old now : Paths) → Dropped ps keys T D old now → StaysTouched old now
dropped-stays ps keys T D old now s q h = s.touched q ∙ or_right (is_under ps q && stands T q) ((is_parent T ps q && rises_at (get T q)) || is_touched old q) (or_right (is_parent T ps q && rises_at (get T q)) (is_touched old q) h)

pub dropped-end : (ps keys : Paths) (i : ℕ) (T D : Tree) (old now : Paths) → Dropped (take i ps) keys T D old now → i ≡ length ps → Dropped ps keys T D old now
dropped-end ps keys i T D old now s e = subst (λ (rs : Paths). Dropped rs keys T D old now) (take_all i ps (omega (arith, e))) s

-- ---- a path that does not stand

skip_tree : (u f p c : Bool) (o d : Option Node) → d ≡ cond u None (option_map (lost_if p) o) → (f ≡ true → d ≡ None) → (u ≡ false → c ≡ true → p ≡ true) → d ≡ cond (u || f) None (option_map (lost_if (p || c)) o)
skip_tree true f p c o d is gone key = is
skip_tree false true p c o d is gone key = gone refl
skip_tree false false true c o d is gone key = is
skip_tree false false false true o d is gone key = absurd (false≢true (key refl refl))
skip_tree false false false false o d is gone key = is

skip_losers : (u f p c l : Bool) → (u ≡ false → l ≡ p) → (u ≡ false → c ≡ true → p ≡ true) → (u || f) ≡ false → l ≡ (p || c)
skip_losers true f p c l same key off = absurd cc
skip_losers false f true c l same key off = same refl
skip_losers false f false true l same key off = absurd (false≢true (key refl refl))
skip_losers false f false false l same key off = same refl

none_there : (p : Bool) (o d : Option Node) → d ≡ option_map (lost_if p) o → d ≡ None → o ≡ None
none_there p None d is none = refl
none_there p (Some n) d is none = absurd cc

-- where no node stood nothing is touched
not_there : (u p t : Bool) → ((u && false) || ((p && false) || t)) ≡ t
not_there u p t = λ i. and_false u i || (and_false p i || t)

skip_touched : (u f p c t : Bool) (o d : Option Node) → d ≡ cond u None (option_map (lost_if p) o) → (f ≡ true → d ≡ None) → (u ≡ false → c ≡ true → p ≡ true)
    → ((u && is_some o) || ((p && rises_at o) || t)) ≡ (((u || f) && is_some o) || (((p || c) && rises_at o) || t))
skip_touched u f p c t None d is gone key = not_there u p t ∙ sym (not_there (u || f) (p || c) t)
skip_touched true f p c t (Some n) d is gone key = refl
skip_touched false true p c t (Some n) d is gone key = let no : Some n ≡ None = none_there p (Some n) d is (gone refl) in absurd cc
skip_touched false false true c t (Some n) d is gone key = refl
skip_touched false false false true t (Some n) d is gone key = absurd (false≢true (key refl refl))
skip_touched false false false false t (Some n) d is gone key = refl

-- a path that went did so with another one, or was one of those
went : (u k : Bool) (o : Option Node) → None ≡ cond u None (option_map (lost_if k) o) → is_some o ≡ true → u ≡ true
went true k o is there = refl
went false k None is there = absurd cc
went false k (Some n) is there = absurd cc

lost_already : (ps keys : Paths) (T D : Tree) (old now : Paths) (p q : List NameText) → Dropped ps keys T D old now → get D p ≡ None → is_under ps q ≡ false → (is_child q p && stands T p) ≡ true → is_parent T ps q ≡ true
lost_already ps keys T D old now p q s none off h =
    let both = and_both (is_child q p) (stands T p) h in
    let under : is_under ps p ≡ true = went (is_under ps p) (is_parent T ps p) (get T p) (sym none ∙ s.tree p) both.1 in
    let r = any_true (λ (x : List NameText). is_front x p) ps under in
    let same : r.1 ≡ p = front_of_child r.1 q p r.3 both.0 (any_false (λ (x : List NameText). is_front x q) ps r.0 r.1 r.2 off) in
    any_at (λ (x : List NameText). is_child q x && stands T x) ps r.0 r.1 r.2 ((λ i. is_child q (same i) && stands T (same i)) ∙ h)

pub dropped-skip : (ps keys : Paths) (i : ℕ) (p : List NameText) (T D : Tree) (old now : Paths) → Dropped (take i ps) keys T D old now → i < length ps → p ≡ get_or ps i p → IsTree D → get D p ≡ None → Dropped (take (i + 1) ps) keys T D old now
dropped-skip ps keys i p T D old now s lt is tree none =
    let rs : Paths = take i ps in
    let gone : (q : List NameText) → is_front p q ≡ true → get D q ≡ None = λ q t. gone_below D p q tree none t in
    let key : (q : List NameText) → is_under rs q ≡ false → (is_child q p && stands T p) ≡ true → is_parent T rs q ≡ true = λ q. lost_already rs keys T D old now p q s none in
    record {
      tree = λ q. skip_tree (is_under rs q) (is_front p q) (is_parent T rs q) (is_child q p && stands T p) (get T q) (get D q) (s.tree q) (gone q) (key q)
          ∙ sym (λ j. cond (under-more ps i p q lt is j) None (option_map (lost_if (parent-more T ps i p q lt is j)) (get T q)));
      losers = λ q off. skip_losers (is_under rs q) (is_front p q) (is_parent T rs q) (is_child q p && stands T p) (is_touched keys q) (s.losers q) (key q) (sym (under-more ps i p q lt is) ∙ off) ∙ sym (parent-more T ps i p q lt is);
      touched = λ q. s.touched q
          ∙ (skip_touched (is_under rs q) (is_front p q) (is_parent T rs q) (is_child q p && stands T p) (is_touched old q) (get T q) (get D q) (s.tree q) (gone q) (key q)
          ∙ sym (λ j. (under-more ps i p q lt is j && stands T q) || ((parent-more T ps i p q lt is j && rises_at (get T q)) || is_touched old q)));
    }

-- ---- a path that stands

more_tree : (u f p c l : Bool) (o d e g : Option Node) → d ≡ cond u None (option_map (lost_if p) o) → e ≡ option_map (lost_if (c && not l)) d → g ≡ cond f None e → (u ≡ false → l ≡ p) → g ≡ cond (u || f) None (option_map (lost_if (p || (c && true))) o)
more_tree true true p c l o d e g is lost swept same = swept
more_tree true false p c l o d e g is lost swept same = swept ∙ (lost ∙ ap (option_map (lost_if (c && not l))) is)
more_tree false true p c l o d e g is lost swept same = swept
more_tree false false p c l o d e g is lost swept same =
    swept ∙ (lost ∙ (ap (option_map (lost_if (c && not l))) is ∙ (ap (λ (b : Bool). option_map (lost_if (c && not b)) (option_map (lost_if p) o)) (same refl) ∙ twice p c o)))
  where
    twice : (p c : Bool) (o : Option Node) → option_map (lost_if (c && not p)) (option_map (lost_if p) o) ≡ option_map (lost_if (p || (c && true))) o
    twice p c None = refl
    twice true true (Some n) = refl
    twice true false (Some n) = refl
    twice false true (Some n) = refl
    twice false false (Some n) = refl

more_losers : (u f p c l : Bool) → (u ≡ false → l ≡ p) → (u || f) ≡ false → (c || l) ≡ (p || (c && true))
more_losers true f p c l same off = absurd cc
more_losers false f p c l same off = ap (λ (b : Bool). c || b) (same refl) ∙ turn c p where
  turn : (c p : Bool) → (c || p) ≡ (p || (c && true))
  turn true true = refl
  turn true false = refl
  turn false true = refl
  turn false false = refl

more_touched : (u f p c l t : Bool) (o : Option Node) → (u ≡ false → l ≡ p)
    → ((f && is_some (option_map (lost_if (c && not l)) (cond u None (option_map (lost_if p) o)))) || (((c && not l) && rises_at (cond u None (option_map (lost_if p) o))) || ((u && is_some o) || ((p && rises_at o) || t))))
    ≡ (((u || f) && is_some o) || (((p || (c && true)) && rises_at o) || t))
more_touched true f p c l t None same = (λ i. and_false f i || (and_false (c && not l) i || (and_false p i || t))) ∙ sym (not_there true (p || (c && true)) t)
more_touched true f p c l t (Some n) same = (λ i. and_false f i || (and_false (c && not l) i || true))
more_touched false f p c l t None same = (λ i. and_false f i || (and_false (c && not l) i || (and_false p i || t))) ∙ sym (not_there f (p || (c && true)) t)
more_touched false f p c l t (Some n) same = ap (λ (b : Bool). (f && true) || (((c && not b) && rises (lost_if p n)) || ((p && rises n) || t))) (same refl) ∙ ap (λ (b : Bool). (f && true) || b) (once p c t n) where
  once : (p c t : Bool) (n : Node) → (((c && not p) && rises (lost_if p n)) || ((p && rises n) || t)) ≡ (((p || (c && true)) && rises n) || t)
  once true true t n = refl
  once true false t n = refl
  once false true t n = refl
  once false false t n = refl

-- what stands now stood, and is below none of the paths
stood_there : (u k : Bool) (o : Option Node) (x : Node) → Some x ≡ cond u None (option_map (lost_if k) o) → is_some o ≡ true
stood_there true k o x is = absurd cc
stood_there false k None x is = absurd cc
stood_there false k (Some n) x is = refl

pub dropped-more : (ps keys keys' : Paths) (i : ℕ) (p above : List NameText) (x : Node) (T D M E : Tree) (old now mid new : Paths) → Dropped (take i ps) keys T D old now → i < length ps → p ≡ get_or ps i p → 0 < length p → get D p ≡ Some x → above ≡ take (length p - 1) p
    → ((q : List NameText) → get M q ≡ option_map (lost_if (is_eq (path_cmp above q) && not (is_touched keys q))) (get D q))
    → ((q : List NameText) → is_touched mid q ≡ (((is_eq (path_cmp above q) && not (is_touched keys q)) && rises_at (get D q)) || is_touched now q))
    → ((q : List NameText) → is_touched keys' q ≡ (is_eq (path_cmp above q) || is_touched keys q))
    → ((q : List NameText) → get E q ≡ cond (is_front p q) None (get M q))
    → ((q : List NameText) → is_touched new q ≡ ((is_front p q && stands M q) || is_touched mid q)) → Dropped (take (i + 1) ps) keys' T E old new
dropped-more ps keys keys' i p above x T D M E old now mid new s lt is long there front lost noted listed swept touched =
    let rs : Paths = take i ps in
    let child : (q : List NameText) → is_eq (path_cmp above q) ≡ is_child q p = λ q. ap (λ (a : List NameText). is_eq (path_cmp a q)) front ∙ parent_is p q long in
    let stood : stands T p ≡ true = stood_there (is_under rs p) (is_parent T rs p) (get T p) x (sym there ∙ s.tree p) in
    let more : (q : List NameText) → is_parent T (take (i + 1) ps) q ≡ (is_parent T rs q || (is_child q p && true)) = λ q. parent-more T ps i p q lt is ∙ ap (λ (b : Bool). is_parent T rs q || (is_child q p && b)) stood in
    let lost' : (q : List NameText) → get M q ≡ option_map (lost_if (is_child q p && not (is_touched keys q))) (get D q) = λ q. lost q ∙ ap (λ (b : Bool). option_map (lost_if (b && not (is_touched keys q))) (get D q)) (child q) in
    record {
      tree = λ q. more_tree (is_under rs q) (is_front p q) (is_parent T rs q) (is_child q p) (is_touched keys q) (get T q) (get D q) (get M q) (get E q) (s.tree q) (lost' q) (swept q) (s.losers q)
          ∙ sym (λ j. cond (under-more ps i p q lt is j) None (option_map (lost_if (more q j)) (get T q)));
      losers = λ q off. listed q ∙ (ap (λ (b : Bool). b || is_touched keys q) (child q)
          ∙ (more_losers (is_under rs q) (is_front p q) (is_parent T rs q) (is_child q p) (is_touched keys q) (s.losers q) (sym (under-more ps i p q lt is) ∙ off) ∙ sym (more q)));
      touched = λ q. touched q
          ∙ ((λ j. (is_front p q && is_some (lost' q j)) || (noted q ∙ ap (λ (b : Bool). ((b && not (is_touched keys q)) && rises_at (get D q)) || is_touched now q) (child q)) j)
          ∙ ((λ j. (is_front p q && is_some (option_map (lost_if (is_child q p && not (is_touched keys q))) (s.tree q j))) || (((is_child q p && not (is_touched keys q)) && rises_at (s.tree q j)) || s.touched q j))
          ∙ (more_touched (is_under rs q) (is_front p q) (is_parent T rs q) (is_child q p) (is_touched keys q) (is_touched old q) (get T q) (s.losers q)
          ∙ sym (λ j. (under-more ps i p q lt is j && stands T q) || ((more q j && rises_at (get T q)) || is_touched old q)))));
    }

-- ---- what was seen of a path stays true while its parent changes

parent_off : (p above : List NameText) → 0 < length p → above ≡ take (length p - 1) p → is_eq (path_cmp above p) ≡ false
parent_off p above long front = ap (λ (a : List NameText). is_eq (path_cmp a p)) front ∙ (parent_is p p long ∙ no_own_child p)

pub lost-other : (D M : Tree) (p above : List NameText) (keys : Paths) → 0 < length p → above ≡ take (length p - 1) p → ((q : List NameText) → get M q ≡ option_map (lost_if (is_eq (path_cmp above q) && not (is_touched keys q))) (get D q)) → get M p ≡ get D p
lost-other D M p above keys long front lost = lost p ∙ (ap (λ (b : Bool). option_map (lost_if (b && not (is_touched keys p))) (get D p)) (parent_off p above long front) ∙ lost-none (get D p))

pub lost-measures : (D M : Tree) (p : List NameText) (m : Measure) → get M p ≡ get D p → ((q : List NameText) → kids M q ≡ kids D q) → Measures D p m → Measures M p m
lost-measures D M p m same counts has = (λ n at. has.0 n (sym same ∙ at), has.1 ∙ sym (counts p))

pub lost-siblings : (D M : Tree) (p above : List NameText) (before : ℕ) → above ≡ take (length p - 1) p → ((q : List NameText) → kids M q ≡ kids D q) → before ≡ kids D above → HasSiblings M p before
lost-siblings D M p above before front counts count = count ∙ (ap (kids D) front ∙ sym (counts (take (length p - 1) p)))

pub parent_stands : (D : Tree) (p above : List NameText) → IsTree D → IsTrue (stands D p) → above ≡ take (length p - 1) p → IsTrue (stands D above)
parent_stands D p above tree there front = ap (stands D) front ∙ tree.fronts p (length p - 1) (omega arith) there

-- ---- the whole round

pub drop-tree : (T E : Tree) (ps : Paths) → ((q : List NameText) → get E q ≡ cond (is_under ps q) None (option_map (lost_if (is_parent T ps q)) (get T q))) → E ≡ drop T ps
drop-tree T E ps left = same_map path_cmp_total path_cmp-same E (drop T ps) (λ q.
    left q
    ∙ (elim (is_under ps q) as (λ b. is_under ps q ≡ b → cond b None (option_map (lost_if (is_parent T ps q)) (get T q)) ≡ cond b None (option_map (left_node (entries T) ps q) (get T q))) [
      | true ↦ λ t. refl
      | false ↦ λ t. ap (λ (b : Bool). option_map (lost_if b) (get T q)) (loses_is T ps q t)
    ] refl
    ∙ sym (get-drop T ps q)))

pub touches-drop : (T E : Tree) (ps old new : Paths) → ((q : List NameText) → get E q ≡ cond (is_under ps q) None (option_map (lost_if (is_parent T ps q)) (get T q)))
    → ((q : List NameText) → is_touched new q ≡ ((is_under ps q && stands T q) || ((is_parent T ps q && rises_at (get T q)) || is_touched old q))) → Touches T E old new
touches-drop T E ps old new left noted = record {
  stays = λ q h. noted q ∙ or_right (is_under ps q && stands T q) ((is_parent T ps q && rises_at (get T q)) || is_touched old q) (or_right (is_parent T ps q && rises_at (get T q)) (is_touched old q) h);
  covers = λ q off.
      let a = or_neither (is_under ps q && stands T q) ((is_parent T ps q && rises_at (get T q)) || is_touched old q) (sym (noted q) ∙ off) in
      let b = or_neither (is_parent T ps q && rises_at (get T q)) (is_touched old q) a.1 in
      kept (get T q) (is_under ps q) (is_parent T ps q) a.0 b.0 ∙ sym (left q);
  only = λ q was on same. elim (or_either (is_under ps q && stands T q) ((is_parent T ps q && rises_at (get T q)) || is_touched old q) (sym (noted q) ∙ on)) as (λ _. ⊥) [
    | inl g ↦ gone (get T q) (is_under ps q) (is_parent T ps q) g (same ∙ left q)
    | inr m ↦ elim (or_either (is_parent T ps q && rises_at (get T q)) (is_touched old q) m) as (λ _. ⊥) [
      | inl a ↦ changed (get T q) (is_under ps q) (is_parent T ps q) a (same ∙ left q)
      | inr o ↦ absurd (cc (was, o))
    ]
  ];
}
  where
    low : (n : Node) (k : Bool) → (k && rises n) ≡ false → n ≡ lost_if k n
    low n true h = sym (stays_low n h)
    low n false h = refl

    kept : (t : Option Node) (u k : Bool) → (u && is_some t) ≡ false → (k && rises_at t) ≡ false → t ≡ cond u None (option_map (lost_if k) t)
    kept None true k a b = refl
    kept None false k a b = refl
    kept (Some n) true k a b = absurd cc
    kept (Some n) false k a b = ap Some (low n k b)

    rose : (n : Node) (k : Bool) → (k && rises n) ≡ true → Some n ≡ Some (lost_if k n) → ⊥
    rose n true h e = let node : n ≡ raised_children n = cc in apart_cv (raised n.cv) n.cv h (ap (λ (m : Node). m.cv) (sym node))
    rose n false h e = absurd cc

    no_rise : (k : Bool) → (k && false) ≡ true → ⊥
    no_rise true h = absurd cc
    no_rise false h = absurd cc

    changed : (t : Option Node) (u k : Bool) → (k && rises_at t) ≡ true → t ≡ cond u None (option_map (lost_if k) t) → ⊥
    changed None u k a same = no_rise k a
    changed (Some n) true k a same = absurd cc
    changed (Some n) false k a same = rose n k a same

    gone : (t : Option Node) (u k : Bool) → (u && is_some t) ≡ true → t ≡ cond u None (option_map (lost_if k) t) → ⊥
    gone None true k a same = absurd cc
    gone None false k a same = absurd cc
    gone (Some n) true k a same = absurd cc
    gone (Some n) false k a same = absurd cc
