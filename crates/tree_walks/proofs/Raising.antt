-- Nodes that lost a child.
use Rattle.std.proofs.Common.{◌≡◌, inl, inr, ℕ, Bool, true, false, cond, not, List, [], ◌∷◌, length, refl, sym, ap, subst, ◌∙◌, arith, Option, Some, None, Less, ◌&&◌, ◌||◌}
use Rattle.std.specs.Prelude.{IsTrue, is_some}
use Rattle.std.specs.Option.{option_map}
use Rattle.std.specs.List.{All, AllByRecursion}
use Rattle.std.proofs.lemmas.List.Elements.{recursion_from_All}
use Rattle.std.specs.BTreeMap.Range.{IsLtBy}
use Rattle.std.specs.Ordering.{is_eq}
use Rattle.std.specs.declared.cmp.Ordering.{Ordering}
use Rattle.std.specs.FinMap.{get, insert}
use Rattle.khepri_terms.specs.Terms.{NameText}
use Rattle.khepri_terms.specs.Order.{path_cmp}
use Rattle.khepri_types.specs.declared.node.Node.{Node}
use Rattle.khepri_types.specs.Tree.{Tree, stands, raised_children}
use Rattle.khepri_types.proofs.Growing.{get_some, insert-same, same_or_apart}
use Rattle.khepri_types.proofs.Order.{path_cmp_total, path_cmp-same}
use Rattle.khepri_types.proofs.Trees.{get-inserted, get-other, tie_is}
use Rattle.tree_overlay.specs.Over.{is_touched, StaysTouched}
use Rattle.tree_walks.specs.Notes.{Adds, lost_if, rises, rises_at}
use Rattle.tree_walks.proofs.Touching.{or_right, stays_low, tie}

-- a node whose version can't rise stays
pub raised-low : (T : Tree) (p : List NameText) (n : Node) → get T p ≡ Some n → rises n ≡ false → T ≡ insert T p (raised_children n)
raised-low T p n is low = sym (ap (insert T p) (stays_low n low) ∙ insert-same T p n is)

pub lost-none : (o : Option Node) → option_map (lost_if false) o ≡ o
lost-none None = refl
lost-none (Some n) = refl

pub some_same : {x y : Node} → Some x ≡ Some y → x ≡ y
some_same e = cc

and_true : (b : Bool) → (b && true) ≡ b
and_true true = refl
and_true false = refl

pub and_false : (b : Bool) → (b && false) ≡ false
and_false true = refl
and_false false = refl

not_first : (q k : List NameText) → (q ≡ k → ⊥) → is_eq (path_cmp q k) ≡ false
not_first q k apart = elim (is_eq (path_cmp q k)) as (λ b. is_eq (path_cmp q k) ≡ b → b ≡ false) [
  | true ↦ λ t. absurd (apart (path_cmp-same q k (tie_is _ t)))
  | false ↦ λ t. refl
] refl

-- ---- one that already lost a child

lost_before : (p : List NameText) (keys : List (List NameText)) (q : List NameText) → is_touched keys p ≡ true → (is_eq (path_cmp p q) && not (is_touched keys q)) ≡ false
lost_before p keys q h = elim (is_eq (path_cmp p q)) as (λ b. is_eq (path_cmp p q) ≡ b → (b && not (is_touched keys q)) ≡ false) [
  | true ↦ λ t. ap not (ap (is_touched keys) (sym (path_cmp-same p q (tie_is _ t))) ∙ h)
  | false ↦ λ t. refl
] refl

pub lost_same : (T : Tree) (p : List NameText) (keys : List (List NameText)) (q : List NameText) → is_touched keys p ≡ true → get T q ≡ option_map (lost_if (is_eq (path_cmp p q) && not (is_touched keys q))) (get T q)
lost_same T p keys q h = sym (ap (λ (b : Bool). option_map (lost_if b) (get T q)) (lost_before p keys q h) ∙ lost-none (get T q))

pub lost_untouched : (T : Tree) (p : List NameText) (keys old : List (List NameText)) (q : List NameText) → is_touched keys p ≡ true → is_touched old q ≡ (((is_eq (path_cmp p q) && not (is_touched keys q)) && rises_at (get T q)) || is_touched old q)
lost_untouched T p keys old q h = sym (ap (λ (b : Bool). (b && rises_at (get T q)) || is_touched old q) (lost_before p keys q h))

pub lost_listed : (p : List NameText) (keys : List (List NameText)) (q : List NameText) → is_touched keys p ≡ true → is_touched keys q ≡ (is_eq (path_cmp p q) || is_touched keys q)
lost_listed p keys q h = elim (is_eq (path_cmp p q)) as (λ b. is_eq (path_cmp p q) ≡ b → is_touched keys q ≡ (b || is_touched keys q)) [
  | true ↦ λ t. ap (is_touched keys) (sym (path_cmp-same p q (tie_is _ t))) ∙ h
  | false ↦ λ t. refl
] refl

-- ---- one that loses its first

pub lost_first : (T E : Tree) (p : List NameText) (n : Node) (keys : List (List NameText)) → is_touched keys p ≡ false → get T p ≡ Some n → E ≡ insert T p (raised_children n)
    → (q : List NameText) → get E q ≡ option_map (lost_if (is_eq (path_cmp p q) && not (is_touched keys q))) (get T q)
lost_first T E p n keys off is tree q = elim (same_or_apart q p) as (λ _. get E q ≡ option_map (lost_if (is_eq (path_cmp p q) && not (is_touched keys q))) (get T q)) [
  | inl same ↦ subst (λ (x : List NameText). get E x ≡ option_map (lost_if (is_eq (path_cmp p x) && not (is_touched keys x))) (get T x)) (sym same)
      (ap (λ (U : Tree). get U p) tree ∙ (get-inserted T p (raised_children n) ∙ sym (λ i. option_map (lost_if (tie p p refl i && not (off i))) (is i))))
  | inr apart ↦ ap (λ (U : Tree). get U q) tree
      ∙ (get-other T p (raised_children n) q apart ∙ sym (ap (λ (b : Bool). option_map (lost_if (b && not (is_touched keys q))) (get T q)) (not_first p q (λ e. apart (sym e))) ∙ lost-none (get T q)))
]

pub lost_noted : (T : Tree) (p : List NameText) (n : Node) (keys old new : List (List NameText)) → is_touched keys p ≡ false → get T p ≡ Some n → Adds (rises n) p old new
    → (q : List NameText) → is_touched new q ≡ (((is_eq (path_cmp p q) && not (is_touched keys q)) && rises_at (get T q)) || is_touched old q)
lost_noted T p n keys old new off is adds q = elim (same_or_apart q p) as (λ _. is_touched new q ≡ (((is_eq (path_cmp p q) && not (is_touched keys q)) && rises_at (get T q)) || is_touched old q)) [
  | inl same ↦ subst (λ (x : List NameText). is_touched new x ≡ (((is_eq (path_cmp p x) && not (is_touched keys x)) && rises_at (get T x)) || is_touched old x)) (sym same)
      (adds p ∙ ((λ i. (rises n && tie p p refl i) || is_touched old p) ∙ (ap (λ (b : Bool). b || is_touched old p) (and_true (rises n)) ∙ sym (λ i. ((tie p p refl i && not (off i)) && rises_at (is i)) || is_touched old p))))
  | inr apart ↦ adds q ∙ (ap (λ (b : Bool). (rises n && b) || is_touched old q) (not_first p q (λ e. apart (sym e)))
      ∙ (ap (λ (b : Bool). b || is_touched old q) (and_false (rises n)) ∙ sym (ap (λ (b : Bool). ((b && not (is_touched keys q)) && rises_at (get T q)) || is_touched old q) (not_first p q (λ e. apart (sym e))))))
]
