-- What the first round looks at.
use Rattle.std.proofs.Common.{◌≡◌, suc, ◌<◌, ◌≤◌, Bool, true, false, cond, not, ◌&&◌, ◌||◌, List, [], ◌∷◌, length, refl, sym, ap, subst, ◌∙◌, arith, Option, Some, None, Less, Equal, Greater, ◌⊎◌, inl, inr}
use Rattle.std.specs.Bool.{beq}
use Rattle.std.proofs.Common.{Ok, Err}
use Rattle.std.specs.declared.result.Result.{Result}
use Rattle.std.specs.Prelude.{IsTrue, IfOk, OnOk, is_some}
use Rattle.std.specs.List.{filter}
use Rattle.std.specs.Option.{option_copied}
use Rattle.std.specs.Ordering.{is_eq, is_lt, ordering_reverse}
use Rattle.std.specs.declared.cmp.Ordering.{Ordering}
use Rattle.std.specs.Cmp.{tied_itself}
use Rattle.std.specs.FinMap.{get, empty, get-empty, get-insert}
use Rattle.khepri_terms.specs.Order.{path_cmp}
use Rattle.khepri_types.proofs.Payloads.{payload_decides}
use Rattle.khepri_terms.proofs.Cases.{some_is}
use Rattle.khepri_types.specs.declared.node.Node.{Node}
use Rattle.khepri_types.specs.declared.node.Payload.{Payload}
use Rattle.khepri_types.specs.declared.view.NodeView.{NodeView}
use Rattle.khepri_types.specs.declared.watch.Watch.{Watch}
use Rattle.khepri_types.specs.Conditions.{Seen, last_name, seen_node, seen_at}
use Rattle.khepri_types.specs.Settling.{stable}
use Rattle.khepri_types.specs.Tree.{Tree, stands, same_payload}
use Rattle.khepri_types.specs.Views.{as_seen, seen_of}
use Rattle.khepri_types.proofs.Order.{path_cmp_total, path_cmp-same}
use Rattle.tree_nodes.specs.Drafts.{IsTouched, IsCovered}
use Rattle.tree_nodes.specs.Next.{IsNext, follows}
use Rattle.worklist_laws.specs.Candidates.{is_in, IsWithin, IsEnough, aims_at, aims_node, watches_at, ListsAll}
use Rattle.worklist_laws.proofs.Among.{Path, and_both, not_both, or_either, or_left, or_right, test_false, tie, tied}
use Rattle.worklist_laws.proofs.Changing.{seen_at-is}
use Rattle.worklist_laws.specs.Links.{Links, linked, linked_to, targets}
use Rattle.worklist_laws.proofs.Linking.{linked-adds}
use Rattle.keep_while.specs.Gathering.{AreOut, Asks, asked, both, IsShownAlike, LooksAt, NotesAbove}
use Rattle.keep_while.proofs.Gathering.{looked-enough}

-- ---- views

pub same-payload : (x y : Payload) → same_payload x y ≡ true → x ≡ y
same-payload x y h = (payload_decides x y).0 h

pub payload-same : (x y : Payload) → x ≡ y → same_payload x y ≡ true
payload-same x y e = (payload_decides x y).1 e

pub same-bool : (a b : Bool) → not (beq a b) ≡ false → a ≡ b
same-bool true true h = refl
same-bool true false h = absurd cc
same-bool false true h = absurd cc
same-bool false false h = refl

view_some : (o : Option NodeView) → is_some o ≡ is_some (seen_of o)
view_some None = refl
view_some (Some v) = refl

node_some : (T : Tree) (q : Path) (o : Option Node) → is_some (seen_node T q o) ≡ is_some o
node_some T q None = refl
node_some T q (Some n) = refl

-- a view shows a node exactly where one stands
pub view-stands : (T : Tree) (q : Path) (o : Option NodeView) → seen_of o ≡ seen_at T q → is_some o ≡ stands T q
view-stands T q o e = view_some o ∙ (ap (λ (s : Option Seen). is_some s) (e ∙ seen_at-is T q) ∙ node_some T q (get T q))

view_name : (T : Tree) (q : Path) (v : NodeView) (o : Option Node) → Some (as_seen v) ≡ seen_node T q o → option_copied v.name ≡ last_name q
view_name T q v None e = absurd cc
view_name T q v (Some n) e = ap (λ (s : Seen). s.name) (some_is _ _ e)

-- two views of one path that show the same parts show the same
pub view-same : (B D : Tree) (q : Path) (v w : NodeView) → seen_of (Some v) ≡ seen_at B q → seen_of (Some w) ≡ seen_at D q → IsShownAlike v w → seen_at B q ≡ seen_at D q
view-same B D q v w e f same =
    let name : option_copied v.name ≡ option_copied w.name = view_name B q v (get B q) (e ∙ seen_at-is B q) ∙ sym (view_name D q w (get D q) (f ∙ seen_at-is D q)) in
    sym e ∙ ((λ i. Some (record { name = name i; payload = same.0 i; pv = same.1 i; cv = same.2 i; kids = same.3 i })) ∙ f)

-- where the same is seen, two views show the same
pub view-alike : (B D : Tree) (q : Path) (v w : NodeView) → seen_of (Some v) ≡ seen_at B q → seen_of (Some w) ≡ seen_at D q → seen_at B q ≡ seen_at D q → IsShownAlike v w
view-alike B D q v w e f same =
    let alike : as_seen v ≡ as_seen w = some_is _ _ (e ∙ (same ∙ sym f)) in
    (ap (λ (s : Seen). s.payload) alike, ap (λ (s : Seen). s.pv) alike, ap (λ (s : Seen). s.cv) alike, ap (λ (s : Seen). s.kids) alike)

-- ---- links

pub links-one : (node : Path) (watches : List Watch) (old new : Links) (T : Tree) (n : Node) → get T node ≡ Some n → n.watches ≡ watches → get old node ≡ None → new ≡ linked old node watches → (t : Path) → IsTrue (watches_at T node t) → IsTrue (is_in (linked_to new t) node)
links-one node watches old new T n is ws none made t h =
    let aims : aims_at watches t ≡ true = ap (λ (xs : List Watch). aims_at xs t) (sym ws) ∙ (ap (λ (o : Option Node). aims_node o t) (sym is) ∙ h) in
    ap (λ (L : Links). is_in (linked_to L t) node) made
    ∙ (linked-adds old node watches none t node ∙ or_left (is_eq (path_cmp node node) && aims_at watches t) (is_in (linked_to old t) node) (and_both (is_eq (path_cmp node node)) (aims_at watches t) (tie node node refl) aims))

pub links-stay : (node : Path) (watches : List Watch) (old new : Links) → get old node ≡ None → new ≡ linked old node watches → (t : Path) → IsWithin (linked_to old t) (linked_to new t)
links-stay node watches old new none made t p h =
    ap (λ (L : Links). is_in (linked_to L t) p) made ∙ (linked-adds old node watches none t p ∙ or_right (is_eq (path_cmp p node) && aims_at watches t) (is_in (linked_to old t) p) h)

apart : (p node : Path) → (p ≡ node → ⊥) → is_eq (path_cmp p node) ≡ false
apart p node n = test_false (is_eq (path_cmp p node)) (λ h. n (tied p node h))

pub links-other : (node : Path) (watches : List Watch) (old new : Links) → new ≡ linked old node watches → (p : Path) → (p ≡ node → ⊥) → get old p ≡ None → get new p ≡ None
links-other node watches old new made p n none =
    ap (λ (L : Links). get L p) made
    ∙ (get-insert path_cmp_total old node (targets watches) p ∙ (ap (λ (b : Bool). cond b (Some (targets watches)) (get old p)) (apart p node n) ∙ none))

pub unwatched : (T : Tree) (q t : Path) → get T q ≡ None → IsTrue (watches_at T q t) → ⊥
unwatched T q t none h = cc (sym (ap (λ (o : Option Node). aims_node o t) none) ∙ h)

-- what the calls at one touched path come to
pub look-record : (B D : Tree) (written : Path → List Path) (q : Path) (tests one two : List Path) → IsTrue (is_in tests q) → ((seen_at B q ≡ seen_at D q → ⊥) → IsTrue (is_in one q)) → IsWithin one two
    → NotesAbove B D q two → ((t : Path) → IsTrue (watches_at D q t) → IsTrue (is_in (written t) q)) → LooksAt B D written tests two q
look-record B D written q tests one two here anew later above linked = record {
  itself = here;
  anew = λ h. later q (anew h);
  above = above;
  linked = linked;
}

-- ---- a walk over the touched paths

less_is : (o : Ordering) → IsTrue (is_lt o) → o ≡ Less
less_is Less h = refl
less_is Equal h = absurd cc
less_is Greater h = absurd cc

pub follows_on : (after : Option Path) (x y : Path) → IsTrue (follows path_cmp after x) → IsTrue (follows path_cmp (Some x) y) → IsTrue (follows path_cmp after y)
follows_on None x y f g = refl
follows_on (Some a) x y f g = ap is_lt (path_cmp_total.trans a x y (less_is (path_cmp a x) f) (less_is (path_cmp x y) g))

pub not_after : (x : Path) → follows path_cmp (Some x) x ≡ false
not_after x = ap is_lt (tied_itself path_cmp_total x)

pub same_path : (x y : Path) → (path_cmp x y ≡ Less → ⊥) → (path_cmp y x ≡ Less → ⊥) → x ≡ y
same_path x y nl ng = elim (path_cmp x y) as (λ o. path_cmp x y ≡ o → x ≡ y) [
  | Less ↦ λ e. absurd (nl e)
  | Equal ↦ λ e. path_cmp-same x y e
  | Greater ↦ λ e. absurd (ng (path_cmp_total.antisymm y x ∙ ap ordering_reverse e))
] refl

no_more : (f g : Path → Bool) → ((y : Path) → f y ≡ true → g y ≡ true) → (ts : List Path) → length (filter f ts) ≤ length (filter g ts)
no_more f g more [] = omega arith
no_more f g more (t ∷ ts) =
    let rest = no_more f g more ts in
    elim (f t) as (λ b. f t ≡ b → length (cond b (t ∷ filter f ts) (filter f ts)) ≤ length (filter g (t ∷ ts))) [
      | true ↦ λ h. subst (λ (b : Bool). suc (length (filter f ts)) ≤ length (cond b (t ∷ filter g ts) (filter g ts))) (sym (more t h)) (omega arith)
      | false ↦ λ h. elim (g t) as (λ b. length (filter f ts) ≤ length (cond b (t ∷ filter g ts) (filter g ts))) [ true ↦ omega arith | false ↦ omega arith ]
    ] refl

one_less : (f g : Path → Bool) → ((y : Path) → f y ≡ true → g y ≡ true) → (x : Path) → f x ≡ false → g x ≡ true → (ts : List Path) → IsTrue (is_in ts x) → length (filter f ts) < length (filter g ts)
one_less f g more x low high [] h = absurd cc
one_less f g more x low high (t ∷ ts) h = elim (is_eq (path_cmp x t)) as (λ b. is_eq (path_cmp x t) ≡ b → (b || is_in ts x) ≡ true → length (filter f (t ∷ ts)) < length (filter g (t ∷ ts))) [
  | true ↦ λ e _.
      let same : x ≡ t = tied x t e in
      let out : f t ≡ false = ap f (sym same) ∙ low in
      let on : g t ≡ true = ap g (sym same) ∙ high in
      omega (arith, ap (λ (b : Bool). length (cond b (t ∷ filter f ts) (filter f ts))) out, ap (λ (b : Bool). length (cond b (t ∷ filter g ts) (filter g ts))) on, no_more f g more ts)
  | false ↦ λ e later.
      let rest = one_less f g more x low high ts later in
      elim (f t) as (λ b. f t ≡ b → length (cond b (t ∷ filter f ts) (filter f ts)) < length (filter g (t ∷ ts))) [
        | true ↦ λ k. subst (λ (b : Bool). suc (length (filter f ts)) < length (cond b (t ∷ filter g ts) (filter g ts))) (sym (more t k)) (omega arith)
        | false ↦ λ k. elim (g t) as (λ b. length (filter f ts) < length (cond b (t ∷ filter g ts) (filter g ts))) [ true ↦ omega arith | false ↦ omega arith ]
      ] refl
] refl h

-- the touched paths that come after
abbrev pub to_touch : List Path → Option Path → List Path
to_touch ts after = filter (follows path_cmp after) ts

pub touched-less : (ts : List Path) (after : Option Path) (x : Path) → IsNext path_cmp (IsTouched ts) after (Some x) → length (to_touch ts (Some x)) < length (to_touch ts after)
touched-less ts after x next = one_less (follows path_cmp (Some x)) (follows path_cmp after) (λ y h. follows_on after x y next.1 h) x (not_after x) next.1 ts next.0

pub touched-whole : (ts : List Path) → length (to_touch ts None) ≤ length ts
touched-whole [] = omega arith
touched-whole (t ∷ ts) = omega (arith, touched-whole ts)

-- up to `after` each touched path was looked at, and what comes after it isn't linked yet
pub record Looked (B D : Tree) (written : Links) (touched tests changed : List Path) (after : Option Path) : Type 0 where
  pub done : (q : Path) → IsTouched touched q → follows path_cmp after q ≡ false → LooksAt B D (linked_to written) tests changed q
  pub later : (q : Path) → IsTrue (follows path_cmp after q) → get written q ≡ None

pub looked-none : (B D : Tree) (written : Links) (touched tests changed : List Path) → written ≡ empty → Looked B D written touched tests changed None
looked-none B D written touched tests changed none = record {
  done = λ q on low. absurd cc;
  later = λ q f. ap (λ (L : Links). get L q) none ∙ get-empty path_cmp q;
}

looks-on : (B D : Tree) (w v : Path → List Path) (tests tests' changed changed' : List Path) (q : Path) → LooksAt B D w tests changed q → IsWithin tests tests' → IsWithin changed changed' → ((t : Path) → IsWithin (w t) (v t)) → LooksAt B D v tests' changed' q
looks-on B D w v tests tests' changed changed' q l more on links = record {
  itself = more q l.itself;
  anew = λ h. on q (l.anew h);
  above = λ r child moved anew. on r (l.above r child moved anew);
  linked = λ t h. links t q (l.linked t h);
}

pub looked-more : (B D : Tree) (w v : Links) (touched tests tests' changed changed' : List Path) (after : Option Path) (x : Path) → Looked B D w touched tests changed after → IsNext path_cmp (IsTouched touched) after (Some x)
    → LooksAt B D (linked_to v) tests' changed' x → IsWithin tests tests' → IsWithin changed changed' → ((t : Path) → IsWithin (linked_to w t) (linked_to v t)) → ((p : Path) → (p ≡ x → ⊥) → get w p ≡ None → get v p ≡ None) → Looked B D v touched tests' changed' (Some x)
looked-more B D w v touched tests tests' changed changed' after x l next here more on links others = record {
  done = λ q t low. elim (follows path_cmp after q) as (λ b. follows path_cmp after q ≡ b → LooksAt B D (linked_to v) tests' changed' q) [
    | true ↦ λ f. subst (LooksAt B D (linked_to v) tests' changed') (same_path x q (λ less. not_both (follows path_cmp (Some x) q) (ap is_lt less) low) (next.2 q t f)) here
    | false ↦ λ f. looks-on B D (linked_to w) (linked_to v) tests tests' changed changed' q (l.done q t f) more on links
  ] refl;
  later = λ q f. others q (λ e. not_both (follows path_cmp (Some x) q) f (ap (follows path_cmp (Some x)) e ∙ not_after x)) (l.later q (follows_on after x q next.1 f));
}

pub looked-all : (B D : Tree) (written : Links) (touched tests changed : List Path) (after : Option Path) → Looked B D written touched tests changed after → IsNext path_cmp (IsTouched touched) after None
    → (q : Path) → IsTouched touched q → LooksAt B D (linked_to written) tests changed q
looked-all B D written touched tests changed after l none q on = l.done q on (test_false (follows path_cmp after q) (λ t. none q on t))

-- touched paths may be left out
pub touched-out : (D : Tree) (touched left : List Path) → IsWithin left touched → AreOut touched D left
touched-out D touched left within p h off = absurd (not_both (is_in touched p) (within p h) off)

-- the candidates of the first round
pub first-enough : (B D : Tree) (of written : Path → List Path) (touched tests changed left gone candidates : List Path) → IsTrue (stable B) → ListsAll B of → IsCovered B D touched → ((q : Path) → IsTouched touched q → LooksAt B D written tests changed q)
    → IsWithin left touched → AreOut [] D gone → IsWithin tests candidates → Asks (asked left gone of written) changed candidates → IsEnough D candidates × ListsAll D (both touched of written)
first-enough B D of written touched tests changed left gone candidates firm lists same looks within away stays asks =
    looked-enough B D of written touched tests changed left gone candidates firm lists same looks stays (touched-out D touched left within) away asks

pub out-none : (touched : List Path) (T : Tree) (left : List Path) → left ≡ [] → AreOut touched T left
out-none touched T left none p h off = absurd (cc (sym h ∙ ap (λ (ps : List Path). is_in ps p) none))

pub within-empty : (left touched : List Path) → left ≡ [] → IsWithin left touched
within-empty left touched none p h = absurd (cc (sym h ∙ ap (λ (ps : List Path). is_in ps p) none))

pub left-more : (touched old new : List Path) (x : Path) → IsWithin old touched → IsTouched touched x → ((q : Path) → is_in new q ≡ (is_eq (path_cmp x q) || is_in old q)) → IsWithin new touched
left-more touched old new x within on one p h = elim (or_either (is_eq (path_cmp x p)) (is_in old p) (sym (one p) ∙ h)) as (λ _. IsTrue (is_in touched p)) [
  | inl here ↦ subst (λ (r : Path). IsTrue (is_in touched r)) (tied x p here) on
  | inr earlier ↦ within p earlier
]

pub gone-more : (T : Tree) (old new : List Path) → AreOut [] T old → ((p : Path) → IsTrue (is_in new p) → IsTrue (is_in old p) ⊎ (stands T p ≡ false)) → AreOut [] T new
gone-more T old new was one p h off = elim (one p h) as (λ _. stands T p ≡ false) [
  | inl earlier ↦ was p earlier off
  | inr none ↦ none
]

-- a path where no node stands may be noted as gone
pub gone-one : (T : Tree) (x : Path) (old new : List Path) → get T x ≡ None → ((q : Path) → is_in new q ≡ (is_eq (path_cmp x q) || is_in old q)) → (p : Path) → IsTrue (is_in new p) → IsTrue (is_in old p) ⊎ (stands T p ≡ false)
gone-one T x old new none one p h = elim (or_either (is_eq (path_cmp x p)) (is_in old p) (sym (one p) ∙ h)) as (λ _. IsTrue (is_in old p) ⊎ (stands T p ≡ false)) [
  | inl here ↦ inr (subst (λ (r : Path). stands T r ≡ false) (tied x p here) (ap is_some none))
  | inr earlier ↦ inl earlier
]

-- what follows of two clauses of one answer
pub both-ok : {X E : Type 0} (r : Result X E) (P Q R : X → Type 0) → ((x : X) → P x → Q x → R x) → IfOk r P → IfOk r Q → IfOk r R
both-ok (Ok x) P Q R f p q = f x p q
both-ok (Err e) P Q R f p q = tt

pub both-on : {X E : Type 0} (r : Result X E) (P Q : X → Type 0) (A : Type 0) → ((x : X) → P x → Q x → A) → IfOk r P → IfOk r Q → OnOk r A
both-on (Ok x) P Q A f p q = f x p q
both-on (Err e) P Q A f p q = tt

pub at-on : {X E A : Type 0} (r : Result X E) → A → OnOk r A
at-on (Ok x) a = a
at-on (Err e) a = tt

pub both-true : {X E A B : Type 0} (r : Result X E) (C : Type 0) → (A → B → C) → OnOk r A → OnOk r B → OnOk r C
both-true (Ok x) C f a b = f a b
both-true (Err e) C f a b = tt
