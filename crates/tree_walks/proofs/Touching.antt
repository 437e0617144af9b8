-- Which paths are touched where a payload is set.
use Rattle.std.proofs.Common.{◌≡◌, ◌⊎◌, inl, inr, ℕ, zero, suc, ◌+◌, ◌<◌, ◌≤◌, Bool, true, false, cond, not, List, [], ◌∷◌, length, take, refl, sym, ap, subst, ◌∙◌, arith, Option, Some, None, ◌&&◌, ◌||◌}
use Rattle.std.specs.Prelude.{IsTrue, is_some, ◌==◌, if◌then◌else◌}
use Rattle.std.specs.Ordering.{is_eq}
use Rattle.std.specs.Cmp.{tied_itself}
use Rattle.std.specs.FinMap.{get}
use Rattle.std.specs.FinMap.{insert as insert_node}
use Rattle.std.proofs.lemmas.List.{take-take, length-take-le}
use Rattle.khepri_terms.specs.Terms.{NameText}
use Rattle.khepri_terms.specs.Order.{path_cmp}
use Rattle.khepri_types.proofs.Payloads.{payload_decides}
use Rattle.khepri_types.specs.declared.node.Node.{Node}
use Rattle.khepri_types.specs.declared.node.Payload.{Payload}
use Rattle.khepri_types.specs.Exec.{pv_of}
use Rattle.khepri_types.specs.Tree.{Tree, IsTree, raised, raised_children, same_payload, stands, written, way_node}
use Rattle.khepri_types.specs.Tree.{set as set_payload}
use Rattle.khepri_types.proofs.Growing.{get_some, insert-same, set-there}
use Rattle.khepri_types.proofs.Order.{path_cmp_total, path_cmp-same}
use Rattle.khepri_types.proofs.Standing.{front_or_away, stands-front}
use Rattle.khepri_types.proofs.Trees.{get-inserted, get-other, set-elsewhere, set-on_the_way, tie_is}
use Rattle.tree_overlay.specs.Over.{is_touched, IsTouched, StaysTouched, Touches}
use Rattle.tree_walks.specs.Notes.{rises, Adds, NotesWay}
use Rattle.tree_walks.proofs.Ways.{missing_on}

-- ---- tests

pub or_left : (a b : Bool) → a ≡ true → (a || b) ≡ true
or_left true b h = refl
or_left false b h = absurd cc

pub or_right : (a b : Bool) → b ≡ true → (a || b) ≡ true
or_right true b h = refl
or_right false b h = h

pub or_either : (a b : Bool) → (a || b) ≡ true → (a ≡ true) ⊎ (b ≡ true)
or_either true b h = inl refl
or_either false b h = inr h

pub or_neither : (a b : Bool) → (a || b) ≡ false → (a ≡ false) × (b ≡ false)
or_neither true b h = absurd cc
or_neither false b h = (refl, h)

pub and_both : (a b : Bool) → (a && b) ≡ true → (a ≡ true) × (b ≡ true)
and_both true b h = (refl, h)
and_both false b h = absurd cc

and_first : (a b : Bool) → (a && b) ≡ false → b ≡ true → a ≡ false
and_first true b h g = absurd cc
and_first false b h g = refl

pub not_true : (a : Bool) → (a ≡ true → ⊥) → a ≡ false
not_true true h = absurd (h refl)
not_true false h = refl

-- what a set has once a key came
pub or_cond : (a b : Bool) → cond a true b ≡ (a || b)
or_cond true b = refl
or_cond false b = refl

pub tie : (p q : List NameText) → p ≡ q → is_eq (path_cmp p q) ≡ true
tie p q e = ap (λ (r : List NameText). is_eq (path_cmp r q)) e ∙ ap is_eq (tied_itself path_cmp_total q)

-- ---- one more path

pub adds-stays : (b : Bool) (p : List NameText) (old new : List (List NameText)) → Adds b p old new → StaysTouched old new
adds-stays b p old new f q h = f q ∙ or_right (b && is_eq (path_cmp p q)) (is_touched old q) h

untouched : (old new : List (List NameText)) (q : List NameText) → StaysTouched old new → is_touched new q ≡ false → is_touched old q ≡ false
untouched old new q f off = not_true (is_touched old q) (λ h. absurd (cc (f q h, off)))

added : (b : Bool) (p : List NameText) (old new : List (List NameText)) (q : List NameText) → Adds b p old new → is_touched old q ≡ false → IsTouched new q → (b ≡ true) × (p ≡ q)
added b p old new q f was on = elim (or_either (b && is_eq (path_cmp p q)) (is_touched old q) (sym (f q) ∙ on)) as (λ _. (b ≡ true) × (p ≡ q)) [
  | inl a ↦ let h = and_both b (is_eq (path_cmp p q)) a in (h.0, path_cmp-same p q (tie_is _ h.1))
  | inr o ↦ absurd (cc (was, o))
]

left_out : (b : Bool) (p : List NameText) (old new : List (List NameText)) (q : List NameText) → Adds b p old new → is_touched new q ≡ false → p ≡ q → b ≡ false
left_out b p old new q f off same = and_first b (is_eq (path_cmp p q)) (or_neither (b && is_eq (path_cmp p q)) (is_touched old q) (sym (f q) ∙ off)).0 (tie p q same)

-- ---- the way to a missing path

pub way-none : (p : List NameText) (i : ℕ) (old : List (List NameText)) → NotesWay p i i old old
way-none p i old = record {
  stays = λ q h. h;
  noted = λ k from to. absurd (omega (arith, from, to));
  only = λ q was on. absurd (cc (was, on));
}

pub way-more : (p : List NameText) (i j : ℕ) (old now new : List (List NameText)) → i ≤ j → NotesWay p i j old now → ((q : List NameText) → is_touched new q ≡ (is_eq (path_cmp (take (j + 1) p) q) || is_touched now q)) → NotesWay p i (j + 1) old new
way-more p i j old now new le way f = record {
  stays = λ q h. f q ∙ or_right (is_eq (path_cmp (take (j + 1) p) q)) (is_touched now q) (way.stays q h);
  noted = λ k from to. elim (less_or_same k (j + 1) to) as (λ _. IsTouched new (take k p)) [
    | inl less ↦ f (take k p) ∙ or_right (is_eq (path_cmp (take (j + 1) p) (take k p))) (is_touched now (take k p)) (way.noted k from (omega (arith, less)))
    | inr same ↦ f (take k p) ∙ or_left (is_eq (path_cmp (take (j + 1) p) (take k p))) (is_touched now (take k p)) (tie (take (j + 1) p) (take k p) (ap (λ (m : ℕ). take m p) (sym same)))
  ];
  only = λ q was on. elim (is_touched now q) as (λ b. is_touched now q ≡ b → (k : ℕ) × (i < k) × (k ≤ j + 1) × (q ≡ take k p)) [
    | true ↦ λ h. let r = way.only q was h in (r.0, r.1, omega (arith, r.2), r.3)
    | false ↦ λ h. (j + 1, omega (arith, le), omega arith, sym (added true (take (j + 1) p) now new q f h on).1)
  ] refl;
}
  where
    less_or_same : (k i : ℕ) → k ≤ i → (k < i) ⊎ (k ≡ i)
    less_or_same zero zero h = inr refl
    less_or_same zero (suc i) h = inl (omega arith)
    less_or_same (suc k) zero h = absurd (omega arith)
    less_or_same (suc k) (suc i) h = elim (less_or_same k i (omega arith)) as (λ _. (suc k < suc i) ⊎ (suc k ≡ suc i)) [
      | inl a ↦ inl (omega (arith, a))
      | inr b ↦ inr (ap suc b)
    ]

-- ---- an equal payload changes nothing

same_is : (x y : Payload) → same_payload x y ≡ true → x ≡ y
same_is x y h = (payload_decides x y).0 h

pub written-same : (n : Node) (x : Payload) → same_payload x n.payload ≡ true → written n x ≡ n
written-same n x h = λ i. record n { payload = same_is x n.payload h i; pv = if h i then n.pv else raised n.pv }

-- ---- a payload that is set

same_itself : (x : Payload) → same_payload x x ≡ true
same_itself x = (payload_decides x x).1 refl

there-covers : (T : Tree) (p : List NameText) (x : Payload) (n : Node) (q : List NameText) (b o : Bool) → get T p ≡ Some n → same_payload x n.payload ≡ b → ((not b && is_eq (path_cmp p q)) || o) ≡ false → get T q ≡ get (insert_node T p (written n x)) q
there-covers T p x n q true o is same off = sym (ap (λ (m : Node). get (insert_node T p m) q) (written-same n x same) ∙ ap (λ (U : Tree). get U q) (insert-same T p n is))
there-covers T p x n q false o is same off =
    sym (get-other T p (written n x) q (λ e. absurd (cc (tie p q (sym e), (or_neither (is_eq (path_cmp p q)) o off).0))))

-- where the path stands
pub touches-there : (T : Tree) (p : List NameText) (x : Payload) (n : Node) (old new : List (List NameText)) → IsTree T → get T p ≡ Some n → Adds (not (same_payload x n.payload)) p old new → Touches T (set_payload T p x) old new
touches-there T p x n old new tree is f =
    let set : set_payload T p x ≡ insert_node T p (written n x) = set-there T p x n tree is in
    record {
      stays = adds-stays (not (same_payload x n.payload)) p old new f;
      covers = λ q off. there-covers T p x n q (same_payload x n.payload) (is_touched old q) is refl (sym (f q) ∙ off) ∙ ap (λ (U : Tree). get U q) (sym set);
      only = λ q was on same.
          let r = added (not (same_payload x n.payload)) p old new q f was on in
          let one : Some n ≡ Some (written n x) = sym is ∙ (ap (get T) r.1 ∙ (same ∙ (ap (λ (U : Tree). get U q) set ∙ (ap (get (insert_node T p (written n x))) (sym r.1) ∙ get-inserted T p (written n x))))) in
          let node : n ≡ written n x = cc in
          absurd (cc (r.0, ap (λ (m : Node). same_payload x m.payload) node, same_itself x));
    }

-- where it is missing
trichotomy : (k i : ℕ) → (k < i) ⊎ ((k ≡ i) ⊎ (i < k))
trichotomy zero zero = inr (inl refl)
trichotomy zero (suc i) = inl (omega arith)
trichotomy (suc k) zero = inr (inr (omega arith))
trichotomy (suc k) (suc i) = elim (trichotomy k i) as (λ _. (suc k < suc i) ⊎ ((suc k ≡ suc i) ⊎ (suc i < suc k))) [
  | inl a ↦ inl (omega (arith, a))
  | inr b ↦ elim b as (λ _. (suc k < suc i) ⊎ ((suc k ≡ suc i) ⊎ (suc i < suc k))) [
    | inl c ↦ inr (inl (ap suc c))
    | inr d ↦ inr (inr (omega (arith, d)))
  ]
]

same_cv : (a b : ℕ) → not (a == b) ≡ false → a ≡ b
same_cv a b h = grind (arith, h)

pub apart_cv : (a b : ℕ) → not (a == b) ≡ true → a ≡ b → ⊥
apart_cv a b h e = grind (arith, h, e)

pub stays_low : (m : Node) → rises m ≡ false → raised_children m ≡ m
stays_low m h = λ i. record m { cv = same_cv (raised m.cv) m.cv h i }

pub touches-made : (T : Tree) (p : List NameText) (x : Payload) (i : ℕ) (m : Node) (old mid new : List (List NameText)) → IsTree T → i < length p → get T (take i p) ≡ Some m → get T (take (i + 1) p) ≡ None
    → Adds (rises m) (take i p) old mid → NotesWay p i (length p) mid new → Touches T (set_payload T p x) old new
touches-made T p x i m old mid new tree lt is none f way = record {
  stays = λ q h. way.stays q (adds-stays (rises m) (take i p) old mid f q h);
  covers = λ q off. elim (front_or_away p q) as (λ _. get T q ≡ get (set_payload T p x) q) [
    | inl front ↦ subst (λ (r : List NameText). get T r ≡ get (set_payload T p x) r) (sym front.is) (covered front.long front.within (sym (ap (is_touched new) front.is) ∙ off))
    | inr away ↦ sym (set-elsewhere T p x q away)
  ];
  only = λ q was on same. elim (is_touched mid q) as (λ b. is_touched mid q ≡ b → ⊥) [
    | true ↦ λ h.
        let r = added (rises m) (take i p) old mid q f was h in
        let one : Some m ≡ Some (raised_children m) = sym is ∙ (ap (get T) r.1 ∙ (same ∙ (ap (get (set_payload T p x)) (sym r.1) ∙ parent))) in
        let node : m ≡ raised_children m = cc in
        apart_cv (raised m.cv) m.cv r.0 (ap (λ (n : Node). n.cv) (sym node))
    | false ↦ λ h.
        let r = way.only q h on in
        let gone : get T (take r.0 p) ≡ None = missing_on T p (i + 1) tree none r.0 (omega (arith, r.1)) r.2 in
        absurd (cc (sym (ap (λ (q : List NameText). is_some (get (set_payload T p x) q)) r.3) ∙ ap is_some (sym same), stands-front T p x r.0 r.2, ap is_some (ap (get T) r.3 ∙ gone)))
  ] refl;
}
  where
    parent : get (set_payload T p x) (take i p) ≡ Some (raised_children m)
    parent = set-on_the_way T p x i lt ∙ (ap (λ (o : Option Node). Some (way_node o (stands T (take (i + 1) p)))) is ∙ ap (λ (b : Bool). Some (way_node (Some m) b)) (ap is_some none))

    above : (k : ℕ) → k < i → get T (take k p) ≡ get (set_payload T p x) (take k p)
    above k less =
        let long : i ≤ length (take i p) = omega (arith, length-take-le i p (omega (arith, lt))) in
        let front : (j : ℕ) → j ≤ i → IsTrue (stands T (take j p)) = λ j le. subst (λ (r : List NameText). IsTrue (stands T r)) (take-take j i p le) (tree.fronts (take i p) j (omega (arith, le, long)) (ap is_some is)) in
        let n = get_some (get T (take k p)) (front k (omega (arith, less))) in
        let next : stands T (take (k + 1) p) ≡ true = front (k + 1) (omega (arith, less)) in
        n.1 ∙ sym (set-on_the_way T p x k (omega (arith, less, lt)) ∙ (ap (λ (b : Bool). Some (way_node (get T (take k p)) b)) next ∙ ap (λ (o : Option Node). Some (way_node o true)) n.1))

    covered : (k : ℕ) → k ≤ length p → is_touched new (take k p) ≡ false → get T (take k p) ≡ get (set_payload T p x) (take k p)
    covered k le off = elim (trichotomy k i) as (λ _. get T (take k p) ≡ get (set_payload T p x) (take k p)) [
      | inl less ↦ above k less
      | inr other ↦ elim other as (λ _. get T (take k p) ≡ get (set_payload T p x) (take k p)) [
        | inl same ↦
            let low : rises m ≡ false = left_out (rises m) (take i p) old mid (take k p) f (untouched mid new (take k p) way.stays off) (ap (λ (j : ℕ). take j p) (sym same)) in
            subst (λ (j : ℕ). get T (take j p) ≡ get (set_payload T p x) (take j p)) (sym same) (is ∙ sym (parent ∙ ap (λ (n : Node). Some n) (stays_low m low)))
        | inr more ↦ absurd (cc (way.noted k more le, off))
      ]
    ]

-- ---- a payload that is set at a standing path

pub set-same : (T : Tree) (p : List NameText) (x : Payload) (n : Node) → IsTree T → get T p ≡ Some n → same_payload x n.payload ≡ true → T ≡ set_payload T p x
set-same T p x n tree is same = sym (set-there T p x n tree is ∙ (ap (insert_node T p) (written-same n x same) ∙ insert-same T p n is))

pub touches-same : (T : Tree) (p : List NameText) (x : Payload) (n : Node) (old : List (List NameText)) → IsTree T → get T p ≡ Some n → same_payload x n.payload ≡ true → Touches T T old old
touches-same T p x n old tree is same = record { stays = λ q h. h; covers = λ q off. refl; only = λ q was on e. absurd (cc (was, on)) }

pub set-written : (T U : Tree) (p : List NameText) (x : Payload) (n v : Node) → IsTree T → get T p ≡ Some n → v ≡ written n x → U ≡ insert_node T p v → U ≡ set_payload T p x
set-written T U p x n v tree is new made = made ∙ (ap (insert_node T p) new ∙ sym (set-there T p x n tree is))

pub version-written : (T U : Tree) (p : List NameText) (v : Node) → U ≡ insert_node T p v → v.pv ≡ pv_of (get U p)
version-written T U p v made = sym (ap (λ (V : Tree). pv_of (get V p)) made ∙ ap pv_of (get-inserted T p v))

pub touches-written : (T U : Tree) (p : List NameText) (x : Payload) (n : Node) (old new : List (List NameText)) → IsTree T → get T p ≡ Some n → same_payload x n.payload ≡ false → U ≡ set_payload T p x
    → ((q : List NameText) → is_touched new q ≡ (is_eq (path_cmp p q) || is_touched old q)) → Touches T U old new
touches-written T U p x n old new tree is other made f =
    subst (λ (V : Tree). Touches T V old new) (sym made) (touches-there T p x n old new tree is (λ q. f q ∙ ap (λ (b : Bool). (not b && is_eq (path_cmp p q)) || is_touched old q) (sym other)))

pub touched-stays : (p : List NameText) (old new : List (List NameText)) → ((q : List NameText) → is_touched new q ≡ (is_eq (path_cmp p q) || is_touched old q)) → StaysTouched old new
touched-stays p old new f q h = f q ∙ or_right (is_eq (path_cmp p q)) (is_touched old q) h

-- ---- the way

pub way-on : (p r : List NameText) (i j : ℕ) (old now new : List (List NameText)) → i ≤ j → NotesWay p i j old now → r ≡ take (j + 1) p → ((q : List NameText) → is_touched new q ≡ (is_eq (path_cmp r q) || is_touched now q)) → NotesWay p i (j + 1) old new
way-on p r i j old now new le way is f = way-more p i j old now new le way (λ q. f q ∙ ap (λ (k : List NameText). is_eq (path_cmp k q) || is_touched now q) is)

-- the whole change
pub touches-grown : (T U : Tree) (p q : List NameText) (x y : Payload) (i : ℕ) (m : Node) (old mid new : List (List NameText)) → IsTree T → i < length p → q ≡ take i p → get T (take i p) ≡ Some m → get T (take (i + 1) p) ≡ None
    → Adds (rises m) q old mid → NotesWay p i (length p) mid new → U ≡ set_payload T p x → Touches T U old new
touches-grown T U p q x y i m old mid new tree lt front is none f way made =
    subst (λ (V : Tree). Touches T V old new) (sym made) (touches-made T p x i m old mid new tree lt is none (λ r. f r ∙ ap (λ (k : List NameText). (rises m && is_eq (path_cmp k r)) || is_touched old r) front) way)

pub kept-stays : {X : Type 0} (f : X → List (List NameText)) (old : List (List NameText)) (mid new : X) → StaysTouched old (f mid) → new ≡ mid → StaysTouched old (f new)
kept-stays f old mid new stays same q h = ap (λ (d : _). is_touched (f d) q) same ∙ stays q h

pub stays-on : (old mid new : List (List NameText)) → StaysTouched old mid → StaysTouched mid new → StaysTouched old new
stays-on old mid new f g q h = g q (f q h)
