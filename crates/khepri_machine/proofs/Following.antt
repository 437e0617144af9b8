-- How an index follows a tree, path by path.
use Rattle.std.proofs.Common.{◌≡◌, ℕ, ◌+◌, ◌<◌, ◌∙◌, Bool, true, false, cond, ◌||◌, List, [], ◌∷◌, ◌++◌, get_or, inl, inr, refl, sym, ap, subst, Option, Some, None, take, length, Less, Equal, Greater, arith}
use Rattle.std.specs.Prelude.{IsTrue, is_some}
use Rattle.std.specs.Ordering.{is_eq, is_lt, ordering_reverse}
use Rattle.std.specs.declared.cmp.Ordering.{Ordering}
use Rattle.std.specs.FinMap.{get, find, get-insert, get-remove, get-empty, get-from_sorted, empty}
use Rattle.std.proofs.lemmas.List.Folds.{list_any_more}
use Rattle.khepri_terms.specs.Terms.{NameText}
use Rattle.khepri_terms.specs.Order.{path_cmp}
use Rattle.khepri_types.specs.declared.node.Node.{Node}
use Rattle.khepri_types.specs.declared.watch.Watch.{Watch}
use Rattle.khepri_types.specs.Settling.{stable}
use Rattle.khepri_types.specs.declared.node.Payload.TheVariants.{Empty}
use Rattle.khepri_types.specs.Tree.{Tree, fresh, opening_tree}
use Rattle.khepri_types.proofs.Order.{path_cmp_total, path_cmp-same}
use Rattle.tree_nodes.specs.Drafts.{Drafted, IsTouched, IsCovered}
use Rattle.tree_nodes.specs.Next.{IsNext, follows}
use Rattle.worklist_laws.specs.Candidates.{is_in, IsWithin}
use Rattle.worklist_laws.specs.Links.{Links, linked, targets, unlinked, targets_at, targets_of, HoldsWatches}
use Rattle.worklist_laws.proofs.Among.{or_either, or_left, or_right, not_both, test_false, tie, tied, in_left, in_right}
use Rattle.khepri_machine.specs.Following.{Follows, KeepsTargets, KeepsTargetsAt, Noted}

abbrev Path : Type 0
Path = List NameText

-- ---- one path

pub here-none : (T : Tree) (old new : Links) (p : Path) → get T p ≡ None → new ≡ unlinked old p → targets_at (get new p) ≡ targets_of (get T p)
here-none T old new p none is =
    ap (λ (L : Links). targets_at (get L p)) is
    ∙ (ap targets_at (get-remove path_cmp_total old p p ∙ ap (λ (b : Bool). cond b None (get old p)) (tie p p refl))
    ∙ sym (ap targets_of none))

no_targets : (watches : List Watch) → length watches ≡ 0 → targets watches ≡ []
no_targets [] e = refl
no_targets (w ∷ watches) e = absurd (omega (arith, e))

pub here-few : (T : Tree) (old new : Links) (p : Path) (n : Node) → get T p ≡ Some n → length n.watches ≡ 0 → new ≡ unlinked old p → targets_at (get new p) ≡ targets_of (get T p)
here-few T old new p n some few is =
    ap (λ (L : Links). targets_at (get L p)) is
    ∙ (ap targets_at (get-remove path_cmp_total old p p ∙ ap (λ (b : Bool). cond b None (get old p)) (tie p p refl))
    ∙ sym (ap targets_of some ∙ no_targets n.watches few))

pub here-some : (T : Tree) (old new : Links) (p : Path) (n : Node) → get T p ≡ Some n → new ≡ linked (unlinked old p) p n.watches → targets_at (get new p) ≡ targets_of (get T p)
here-some T old new p n some is =
    ap (λ (L : Links). targets_at (get L p)) is
    ∙ (ap targets_at (get-insert path_cmp_total (unlinked old p) p (targets n.watches) p ∙ ap (λ (b : Bool). cond b (Some (targets n.watches)) (get (unlinked old p) p)) (tie p p refl))
    ∙ sym (ap targets_of some))

pub other-none : (old new : Links) (p q : Path) → is_eq (path_cmp q p) ≡ false → new ≡ unlinked old p → get new q ≡ get old q
other-none old new p q off is = ap (λ (L : Links). get L q) is ∙ (get-remove path_cmp_total old p q ∙ ap (λ (b : Bool). cond b None (get old q)) off)

pub other-some : (old new : Links) (p q : Path) (watches : List Watch) → is_eq (path_cmp q p) ≡ false → new ≡ linked (unlinked old p) p watches → get new q ≡ get old q
other-some old new p q watches off is =
    ap (λ (L : Links). get L q) is
    ∙ (get-insert path_cmp_total (unlinked old p) p (targets watches) q
    ∙ (ap (λ (b : Bool). cond b (Some (targets watches)) (get (unlinked old p) q)) off ∙ other-none old (unlinked old p) p q off refl))

pub free-there : (old new : Links) (p : Path) → new ≡ unlinked old p → get new p ≡ None
free-there old new p is = ap (λ (L : Links). get L p) is ∙ (get-remove path_cmp_total old p p ∙ ap (λ (b : Bool). cond b None (get old p)) (tie p p refl))

-- ---- path by path

pub follows-none : (T : Tree) (paths : List Path) (L : Links) → Follows T (take 0 paths) L L
follows-none T paths L = record { on = λ q h. absurd cc; off = λ q h. refl }

pub follows-more : (T : Tree) (paths : List Path) (i : ℕ) (x : Path) (old now new : Links) → i < length paths → x ≡ get_or paths i x → Follows T (take i paths) old now
    → targets_at (get new x) ≡ targets_of (get T x) → ((q : Path) → is_eq (path_cmp q x) ≡ false → get new q ≡ get now q) → Follows T (take (i + 1) paths) old new
follows-more T paths i x old now new lt is was here others =
    let all : (q : Path) → is_in (take (i + 1) paths) q ≡ (is_in (take i paths) q || is_eq (path_cmp q x)) =
    λ q. list_any_more (λ (r : Path). is_eq (path_cmp q r)) paths i x lt ∙ ap (λ (r : Path). is_in (take i paths) q || is_eq (path_cmp q r)) (sym is) in
    record {
      on = λ q h. elim (is_eq (path_cmp q x)) as (λ b. is_eq (path_cmp q x) ≡ b → targets_at (get new q) ≡ targets_of (get T q)) [
        | true ↦ λ t. subst (λ (r : Path). targets_at (get new r) ≡ targets_of (get T r)) (sym (tied q x t)) here
        | false ↦ λ t. ap targets_at (others q t) ∙ was.on q (elim (or_either (is_in (take i paths) q) (is_eq (path_cmp q x)) (sym (all q) ∙ h)) as (λ _. IsTrue (is_in (take i paths) q)) [
          | inl a ↦ a
          | inr b ↦ absurd (not_both (is_eq (path_cmp q x)) b t)
        ])
      ] refl;
      off = λ q h.
          let no = sym (all q) ∙ h in
          let apart : is_eq (path_cmp q x) ≡ false = test_false (is_eq (path_cmp q x)) (λ t. not_both (is_in (take i paths) q || is_eq (path_cmp q x)) (or_right (is_in (take i paths) q) (is_eq (path_cmp q x)) t) no) in
          let earlier : is_in (take i paths) q ≡ false = test_false (is_in (take i paths) q) (λ t. not_both (is_in (take i paths) q || is_eq (path_cmp q x)) (or_left (is_in (take i paths) q) (is_eq (path_cmp q x)) t) no) in
          others q apart ∙ was.off q earlier;
    }

-- an index that followed at all paths where nodes watch something else holds the watches
pub followed : (B D : Tree) (paths : List Path) (old new : Links) → HoldsWatches B old → KeepsTargets B D paths → Follows D paths old new → HoldsWatches D new
followed B D paths old new holds keeps f p = elim (is_in paths p) as (λ b. is_in paths p ≡ b → targets_at (get new p) ≡ targets_of (get D p)) [
  | true ↦ λ h. f.on p h
  | false ↦ λ h. ap targets_at (f.off p h) ∙ (holds p ∙ keeps p h)
] refl

-- ---- the first state

pub opening-holds : (L : Links) → L ≡ empty → HoldsWatches opening_tree L
opening-holds L is p = ap (λ (M : Links). targets_at (get M p)) is ∙ (ap targets_at (get-empty path_cmp p) ∙ bare p)
  where
    found : (q : Path) → targets_of (find path_cmp q (([], fresh Empty) ∷ [])) ≡ []
    found [] = refl
    found (n ∷ q) = refl

    bare : (q : Path) → [] ≡ targets_of (get opening_tree q)
    bare q = sym (ap targets_of (get-from_sorted path_cmp (([], fresh Empty) ∷ []) q tt) ∙ found q)

-- ---- touched paths

less_is : (o : Ordering) → IsTrue (is_lt o) → o ≡ Less
less_is Less h = refl
less_is Equal h = absurd cc
less_is Greater h = absurd cc

same_path : (x y : Path) → (path_cmp x y ≡ Less → ⊥) → (path_cmp y x ≡ Less → ⊥) → x ≡ y
same_path x y nl ng = elim (path_cmp x y) as (λ o. path_cmp x y ≡ o → x ≡ y) [
  | Less ↦ λ e. absurd (nl e)
  | Equal ↦ λ e. path_cmp-same x y e
  | Greater ↦ λ e. absurd (ng (path_cmp_total.antisymm y x ∙ ap ordering_reverse e))
] refl

pub noted-none : (B D : Tree) (touched paths : List Path) → Noted B D touched None paths
noted-none B D touched paths q on low = absurd cc

pub noted-more : (B D : Tree) (touched : List Path) (after : Option Path) (x : Path) (old new : List Path) → Noted B D touched after old → IsNext path_cmp (IsTouched touched) after (Some x) → IsWithin old new → KeepsTargetsAt B D new x → Noted B D touched (Some x) new
noted-more B D touched after x old new was next stays here q on low off = elim (follows path_cmp after q) as (λ b. follows path_cmp after q ≡ b → targets_of (get B q) ≡ targets_of (get D q)) [
  | true ↦ λ f.
      let same : x ≡ q = same_path x q (λ less. not_both (follows path_cmp (Some x) q) (ap is_lt less) low) (next.2 q on f) in
      subst (λ (r : Path). targets_of (get B r) ≡ targets_of (get D r)) same (here (subst (λ (r : Path). is_in new r ≡ false) (sym same) off))
  | false ↦ λ f. was q on f (test_false (is_in old q) (λ h. not_both (is_in new q) (stays q h) off))
] refl

-- a path that is noted
pub pushed-stays : (x : Path) (old new : List Path) → new ≡ old ++ x ∷ [] → IsWithin old new
pushed-stays x old new is q h = ap (λ (ps : List Path). is_in ps q) is ∙ in_left old (x ∷ []) q h

pub pushed-keeps : (B D : Tree) (x : Path) (old new : List Path) → new ≡ old ++ x ∷ [] → KeepsTargetsAt B D new x
pushed-keeps B D x old new is off = absurd (not_both (is_in new x) (ap (λ (ps : List Path). is_in ps x) is ∙ in_right old (x ∷ []) x (or_left (is_eq (path_cmp x x)) false (tie x x refl))) off)

pub noted-all : (B D : Tree) (touched : List Path) (after : Option Path) (paths : List Path) → Noted B D touched after paths → IsNext path_cmp (IsTouched touched) after None → IsCovered B D touched → KeepsTargets B D paths
noted-all B D touched after paths was none covered q off = elim (is_in touched q) as (λ b. is_in touched q ≡ b → targets_of (get B q) ≡ targets_of (get D q)) [
  | true ↦ λ on. was q on (test_false (follows path_cmp after q) (λ t. none q on t)) off
  | false ↦ λ away. ap targets_of (covered q away)
] refl

-- where the index doesn't link a path, the node there watches nothing
unlinked_none : (B : Tree) (L : Links) (p : Path) → HoldsWatches B L → is_some (get L p) ≡ false → targets_of (get B p) ≡ []
unlinked_none B L p holds off = sym (holds p) ∙ bare (get L p) off
  where
    bare : (o : Option (List Path)) → is_some o ≡ false → targets_at o ≡ []
    bare None h = refl
    bare (Some ts) h = absurd cc

pub nothing-stands : (B D : Tree) (L : Links) (p : Path) → HoldsWatches B L → is_some (get L p) ≡ false → get D p ≡ None → targets_of (get B p) ≡ targets_of (get D p)
nothing-stands B D L p holds off none = unlinked_none B L p holds off ∙ sym (ap targets_of none)

pub nothing-watched : (B D : Tree) (L : Links) (p : Path) (n : Node) → HoldsWatches B L → is_some (get L p) ≡ false → get D p ≡ Some n → length n.watches ≡ 0 → targets_of (get B p) ≡ targets_of (get D p)
nothing-watched B D L p n holds off some few = unlinked_none B L p holds off ∙ sym (ap targets_of some ∙ no_targets n.watches few)

-- what a settled draft came to is over the tree that it began from
pub is-over : (T : Tree) (D C : Drafted) (paths : List Path) → D.base ≡ T → C.base ≡ D.base → C.tree ≡ D.tree → IsTrue (stable D.tree) → KeepsTargets D.base D.tree paths → (T ≡ C.base) × IsTrue (stable C.tree) × KeepsTargets T C.tree paths
is-over T D C paths over base tree settled keeps = (
  sym (base ∙ over),
  subst (λ (U : Tree). IsTrue (stable U)) (sym tree) settled,
  subst (λ (U : Tree). KeepsTargets T U paths) (sym tree) (subst (λ (B : Tree). KeepsTargets B D.tree paths) over keeps),
)
