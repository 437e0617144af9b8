-- Which nodes of a tree fail, and a walk over them.
use Rattle.std.proofs.Common.{◌≡◌, ℕ, ◌+◌, ◌<◌, Bool, true, false, cond, not, ◌||◌, List, [], ◌∷◌, length, get_or, drop, refl, sym, ap, subst, ◌∙◌, arith, Option, Some, None, Bor}
use Rattle.std.specs.Prelude.{is_some}
use Rattle.std.specs.Option.{option_map, option_copied}
use Rattle.std.proofs.lemmas.List.{at_drop_more}
use Rattle.std.specs.FinMap.{get}
use Rattle.khepri_terms.specs.Terms.{NameText}
use Rattle.khepri_terms.specs.Order.{path_cmp}
use Rattle.khepri_types.specs.declared.node.Node.{Node}
use Rattle.khepri_types.specs.declared.watch.Watch.{Watch}
use Rattle.khepri_types.specs.Conditions.{seen_at, seen_node}
use Rattle.khepri_types.specs.Settling.{is_met, is_broken, fails}
use Rattle.khepri_types.specs.Tree.{Tree}
use Rattle.khepri_types.specs.Watching.{first_unmet, unmet_of}
use Rattle.tree_nodes.specs.Next.{IsNext}
use Rattle.worklist_laws.specs.Candidates.{fails_node, fails_at}
use Rattle.tree_nodes.proofs.Walking.{Stands, ahead, walk-goes_on}

abbrev Path : Type 0
Path = List NameText

abbrev Entry : Type 0
Entry = Path × Node

-- ---- watches

-- some watch of these isn't met where there is a first one that isn't
pub unmet-broken : (T : Tree) (watches : List Watch) → is_some (option_map (λ (w : Watch). w.target) (first_unmet T watches)) ≡ is_broken T watches
unmet-broken T [] = refl
unmet-broken T (w ∷ watches) = elim (is_met T w) as (λ b. is_some (option_map (λ (x : Watch). x.target) (cond b (first_unmet T watches) (Some w))) ≡ (not b || is_broken T watches)) [
  | true ↦ unmet-broken T watches
  | false ↦ refl
]

-- a node that isn't the root fails where a first watch of it isn't met
pub unmet-fails : (T : Tree) (p : Path) (n : Node) → 0 < length p → is_some (option_map (λ (w : Watch). w.target) (unmet_of T (Some n))) ≡ fails T p n
unmet-fails T [] n lt = absurd (omega arith)
unmet-fails T (a ∷ p) n lt = unmet-broken T n.watches

-- and so for what stands at a path
pub unmet-at : (T : Tree) (p : Path) → 0 < length p → is_some (option_map (λ (w : Watch). w.target) (unmet_of T (get T p))) ≡ fails_at T p
unmet-at T p lt = elim (get T p) as (λ o. is_some (option_map (λ (w : Watch). w.target) (unmet_of T o)) ≡ fails_node T p o) [
  | None ↦ refl
  | Some n ↦ unmet-fails T p n lt
]

pub root-fails : (T : Tree) (p : Path) (n : Node) → length p ≡ 0 → false ≡ fails T p n
root-fails T [] n e = refl
root-fails T (a ∷ p) n e = absurd (omega arith)

-- the first of the rest that isn't met, by the next of them
pub unmet-step : (T : Tree) (watches : List Watch) (i : ℕ) (w : Watch) → i < length watches → w ≡ get_or watches i w
    → first_unmet T (drop i watches) ≡ cond (is_met T w) (first_unmet T (drop (i + 1) watches)) (Some w)
unmet-step T watches i w lt is = at_drop_more (first_unmet T) watches i w lt ∙ ap (λ (x : Watch). first_unmet T (x ∷ drop (i + 1) watches)) (sym is)

pub unmet-here : (T : Tree) (watches : List Watch) (i : ℕ) (w : Watch) → i < length watches → w ≡ get_or watches i w
    → first_unmet T (drop i watches) ≡ first_unmet T watches → is_met T w ≡ false → Some w ≡ first_unmet T watches
unmet-here T watches i w lt is rest low = sym (unmet-step T watches i w lt is ∙ ap (λ (b : Bool). cond b (first_unmet T (drop (i + 1) watches)) (Some w)) low) ∙ rest

pub unmet-later : (T : Tree) (watches : List Watch) (i : ℕ) (w : Watch) → i < length watches → w ≡ get_or watches i w
    → first_unmet T (drop i watches) ≡ first_unmet T watches → is_met T w ≡ true → first_unmet T (drop (i + 1) watches) ≡ first_unmet T watches
unmet-later T watches i w lt is rest met = sym (unmet-step T watches i w lt is ∙ ap (λ (b : Bool). cond b (first_unmet T (drop (i + 1) watches)) (Some w)) met) ∙ rest

pub copied-some : (o : Option (Bor Path)) → is_some o ≡ is_some (option_copied o)
copied-some None = refl
copied-some (Some p) = refl

-- where nothing is seen no node stands
pub none-seen : (T : Tree) (p : Path) → None ≡ seen_at T p → get T p ≡ None
unfolding seen_at
none-seen T p e = elim (get T p) as (λ o. None ≡ seen_node T p o → o ≡ None) [
  | None ↦ λ h. refl
  | Some n ↦ λ h. absurd cc
] e

-- ---- the walk

-- fewer are ahead
pub ahead-less : (T : Tree) (after : Option Path) (x : Path) → IsNext path_cmp (Stands T) after (Some x) → length (ahead T (Some x)) < length (ahead T after)
ahead-less T after x next = let step = walk-goes_on T after x next in omega (arith, ap length step.2)

-- what comes next, told of a path that was lent and of an answer that was taken apart
pub came-next : (T : Tree) (a b : Option (List NameText)) (o p : Option (List NameText)) → a ≡ b → o ≡ p → IsNext path_cmp (Stands T) a o → IsNext path_cmp (Stands T) b p
came-next T a b o p lent apart next =
    subst (λ (c : Option (List NameText)). IsNext path_cmp (Stands T) b c) apart (subst (λ (c : Option (List NameText)). IsNext path_cmp (Stands T) c o) lent next)
