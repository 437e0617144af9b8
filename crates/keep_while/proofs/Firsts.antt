-- What the first round notes, and nothing else.
use Rattle.std.proofs.Common.{◌≡◌, ◌⊎◌, inl, inr, ◌∙◌, true, false, ◌&&◌, ◌||◌, List, [], map, refl, sym, ap, subst, Option, Some, None}
use Rattle.std.specs.Prelude.{IsTrue}
use Rattle.std.specs.List.{filter}
use Rattle.std.specs.Ordering.{is_eq, is_lt}
use Rattle.std.specs.FinMap.{get, empty, entries, from_sorted, same_map, get-empty, get-from_sorted, entries-from_sorted}
use Rattle.khepri_terms.specs.Order.{path_cmp}
use Rattle.khepri_terms.proofs.Cases.{and_true}
use Rattle.khepri_types.specs.declared.node.Node.{Node}
use Rattle.khepri_types.specs.declared.watch.Watch.{Watch}
use Rattle.khepri_types.specs.Conditions.{seen_at}
use Rattle.khepri_types.specs.Tree.{Tree}
use Rattle.khepri_types.proofs.Order.{path_cmp_total, path_cmp-same}
use Rattle.tree_nodes.specs.Drafts.{IsTouched}
use Rattle.tree_nodes.specs.Next.{IsNext, follows}
use Rattle.worklist_laws.specs.Candidates.{is_in, IsWithin, aims_at, aims_node, watches_at}
use Rattle.worklist_laws.specs.Links.{Links, linked, linked_to}
use Rattle.worklist_laws.proofs.Among.{Path, not_both, or_either, or_left, or_right, test_false, tie, tied}
use Rattle.worklist_laws.proofs.Linking.{linked-adds}
use Rattle.keep_while.specs.Costs.{AreAnew, LinksTouched, OnlyAnew, OnlyLinks}
use Rattle.keep_while.proofs.Looking.{same_path}

-- ---- paths that are seen anew

pub anew-none : (B D : Tree) (old : List Path) → OnlyAnew B D old old
anew-none B D old q h = inl h

pub anew-one : (B D : Tree) (x : Path) (old new : List Path) → (seen_at B x ≡ seen_at D x → ⊥) → ((q : Path) → is_in new q ≡ (is_eq (path_cmp x q) || is_in old q)) → OnlyAnew B D old new
anew-one B D x old new anew one q h = elim (or_either (is_eq (path_cmp x q)) (is_in old q) (sym (one q) ∙ h)) as (λ _. IsTrue (is_in old q) ⊎ (seen_at B q ≡ seen_at D q → ⊥)) [
  | inl here ↦ inr (subst (λ (r : Path). seen_at B r ≡ seen_at D r → ⊥) (tied x q here) anew)
  | inr earlier ↦ inl earlier
]

pub anew-both : (B D : Tree) (old mid new : List Path) → OnlyAnew B D old mid → OnlyAnew B D mid new → OnlyAnew B D old new
anew-both B D old mid new f g q h = elim (g q h) as (λ _. IsTrue (is_in old q) ⊎ (seen_at B q ≡ seen_at D q → ⊥)) [
  | inl earlier ↦ f q earlier
  | inr anew ↦ inr anew
]

pub anew-all : (B D : Tree) (old new : List Path) → AreAnew B D old → OnlyAnew B D old new → AreAnew B D new
anew-all B D old new all f q h = elim (f q h) as (λ _. seen_at B q ≡ seen_at D q → ⊥) [
  | inl earlier ↦ all q earlier
  | inr anew ↦ anew
]

pub anew-empty : (B D : Tree) (paths : List Path) → paths ≡ [] → AreAnew B D paths
anew-empty B D paths none q h = absurd (cc (sym h ∙ ap (λ (ps : List Path). is_in ps q) none))

-- ---- links

pub links-none : (D : Tree) (q : Path) (of : Path → List Path) → OnlyLinks D q of of
links-none D q of t p h = inl h

pub links-only : (node : Path) (watches : List Watch) (old new : Links) (D : Tree) (n : Node) → get D node ≡ Some n → n.watches ≡ watches → get old node ≡ None → new ≡ linked old node watches → OnlyLinks D node (linked_to old) (linked_to new)
links-only node watches old new D n is ws none made t p h =
    let adds : (is_eq (path_cmp p node) && aims_at watches t || is_in (linked_to old t) p) ≡ true = sym (linked-adds old node watches none t p) ∙ (ap (λ (L : Links). is_in (linked_to L t) p) (sym made) ∙ h) in
    elim (or_either (is_eq (path_cmp p node) && aims_at watches t) (is_in (linked_to old t) p) adds) as (λ _. IsTrue (is_in (linked_to old t) p) ⊎ ((p ≡ node) × IsTrue (watches_at D node t))) [
      | inl here ↦
          let b = and_true (is_eq (path_cmp p node)) (aims_at watches t) here in
          inr (tied p node b.0, ap (λ (o : Option Node). aims_node o t) is ∙ (ap (λ (xs : List Watch). aims_at xs t) ws ∙ b.1))
      | inr earlier ↦ inl earlier
    ]

pub touched-more : (D : Tree) (touched : List Path) (x : Path) (old new : Path → List Path) → LinksTouched D touched old → IsTouched touched x → OnlyLinks D x old new → LinksTouched D touched new
touched-more D touched x old new was on only t p h = elim (only t p h) as (λ _. IsTrue (is_in touched p) × IsTrue (watches_at D p t)) [
  | inl earlier ↦ was t p earlier
  | inr here ↦ (subst (λ (r : Path). IsTrue (is_in touched r)) (sym here.0) on, subst (λ (r : Path). IsTrue (watches_at D r t)) (sym here.0) here.1)
]

none_linked : (L : Links) → L ≡ empty → entries L ≡ []
none_linked L none =
    let bare : Links = from_sorted [] in
    ap entries (same_map path_cmp_total path_cmp-same L bare (λ q. ap (λ (M : Links). get M q) none ∙ (get-empty path_cmp q ∙ sym (get-from_sorted path_cmp [] q tt))))
    ∙ entries-from_sorted path_cmp [] tt

pub unlinked : (L : Links) → L ≡ empty → (t p : Path) → IsTrue (is_in (linked_to L t) p) → ⊥
unlinked L none t p h = cc (sym h ∙ ap (λ (es : List (Path × List Path)). is_in (map (λ (e : Path × List Path). e.0) (filter (λ (e : Path × List Path). is_in e.1 t) es)) p) (none_linked L none))

pub touched-empty : (D : Tree) (touched : List Path) (L : Links) → L ≡ empty → LinksTouched D touched (linked_to L)
touched-empty D touched L none t p h = absurd (unlinked L none t p h)

-- ---- what may be left out

-- the touched paths up to this one are among these
abbrev pub Leaves : List Path → Option Path → List Path → Type 0
Leaves touched after left = (q : Path) → IsTouched touched q → follows path_cmp after q ≡ false → IsTrue (is_in left q)

pub leaves-none : (touched left : List Path) → Leaves touched None left
leaves-none touched left q on low = absurd cc

pub leaves-more : (touched : List Path) (after : Option Path) (x : Path) (old new : List Path) → Leaves touched after old → IsNext path_cmp (IsTouched touched) after (Some x) → ((q : Path) → is_in new q ≡ (is_eq (path_cmp x q) || is_in old q)) → Leaves touched (Some x) new
leaves-more touched after x old new was next one q on low = one q ∙ elim (follows path_cmp after q) as (λ b. follows path_cmp after q ≡ b → (is_eq (path_cmp x q) || is_in old q) ≡ true) [
  | true ↦ λ f. or_left (is_eq (path_cmp x q)) (is_in old q) (tie x q (same_path x q (λ less. not_both (follows path_cmp (Some x) q) (ap is_lt less) low) (next.2 q on f)))
  | false ↦ λ f. or_right (is_eq (path_cmp x q)) (is_in old q) (was q on f)
] refl

pub leaves-all : (touched : List Path) (after : Option Path) (left : List Path) → Leaves touched after left → IsNext path_cmp (IsTouched touched) after None → IsWithin touched left
leaves-all touched after left was none q on = was q on (test_false (follows path_cmp after q) (λ t. none q on t))
