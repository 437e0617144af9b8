-- What setting a payload does at a missing path: by the longest front of it that stands.
use Rattle.std.proofs.Common.{◌≡◌, inl, inr, ℕ, zero, suc, ◌+◌, ◌<◌, ◌≤◌, Bool, true, false, List, length, take, refl, sym, ap, ◌∙◌, subst, arith, Option, Some, None}
use Rattle.std.specs.Prelude.{IsTrue}
use Rattle.std.specs.Option.{option_map}
use Rattle.std.specs.FinMap.{get}
use Rattle.std.proofs.lemmas.List.{take_all, take-take, length-take}
use Rattle.std.proofs.Math.Nat.{eq-or-lt_of_le}
use Rattle.khepri_terms.specs.Terms.{NameText}
use Rattle.khepri_types.specs.declared.node.Node.{Node}
use Rattle.khepri_types.specs.declared.node.Payload.{Payload}
use Rattle.khepri_types.specs.declared.node.Payload.TheVariants.{Empty}
use Rattle.khepri_types.specs.Tree.{Tree, IsTree, stands, fresh, raised_children, end_node, way_node, set}
use Rattle.khepri_types.specs.Missing.{IsLongestFront}
use Rattle.khepri_types.proofs.Trees.{set-at_path, set-on_the_way}
use Rattle.khepri_types.proofs.Growing.{get_some, get_none}

-- ---- which front it is

-- the front of i names stands, and none that is longer, up to k names
record IsLast (T : Tree) (p : List NameText) (k i : ℕ) : Type 0 where
  short : i < k
  there : IsTrue (stands T (take i p))
  last : (j : ℕ) → i < j → j ≤ k → stands T (take j p) ≡ false

no_root : (T : Tree) (p : List NameText) → IsTree T → stands T (take zero p) ≡ false → ⊥
no_root T p tree missing = absurd (cc (tree.root, missing))

moved : (T : Tree) (p : List NameText) (k j : ℕ) → k ≡ j → stands T (take k p) ≡ false → stands T (take j p) ≡ false
moved T p k j same missing = subst (λ (m : ℕ). stands T (take m p) ≡ false) same missing

last_front : (T : Tree) (p : List NameText) → IsTree T → (k : ℕ) → stands T (take k p) ≡ false → (i : ℕ) × IsLast T p k i
last_front T p tree zero missing = absurd (no_root T p tree missing)
last_front T p tree (suc k) missing = elim (stands T (take k p)) as (λ b. stands T (take k p) ≡ b → (i : ℕ) × IsLast T p (suc k) i) [
  | true ↦ λ e. (k, record { short = omega arith; there = e; last = λ j lt le. moved T p (suc k) j (omega arith) missing })
  | false ↦ λ e.
      let found = last_front T p tree k e in (
        found.0,
        record {
          short = omega (arith, found.1.short);
          there = found.1.there;
          last = λ j lt le. elim (eq-or-lt_of_le le) as (λ _. stands T (take j p) ≡ false) [
            | inl same ↦ moved T p (suc k) j (sym same) missing
            | inr less ↦ found.1.last j lt (omega (arith, less))
          ];
        },
      )
] refl

standing_front : (T : Tree) (p : List NameText) → IsTree T → (i : ℕ) → i ≤ length p → IsTrue (stands T (take i p)) → (j : ℕ) → j ≤ i → IsTrue (stands T (take j p))
standing_front T p tree i top there j le =
    subst (λ (q : List NameText). IsTrue (stands T q)) (take-take j i p le) (tree.fronts (take i p) j (omega (arith, length-take i p)) there)

-- a missing path has one
pub longest : (T : Tree) (p : List NameText) → IsTree T → stands T p ≡ false → (i : ℕ) × IsLongestFront T p i
longest T p tree missing =
    let whole : take (length p) p ≡ p = take_all (length p) p (omega arith) in
    let found = last_front T p tree (length p) (ap (stands T) whole ∙ missing) in (
      found.0,
      record {
        shorter = found.1.short;
        standing = standing_front T p tree found.0 (omega (arith, found.1.short)) found.1.there;
        missing = found.1.last;
      },
    )

-- ---- what is set

-- the nodes above that front stay
pub set-kept : (T : Tree) (p : List NameText) (x : Payload) (i j : ℕ) → IsLongestFront T p i → j < i → get (set T p x) (take j p) ≡ get T (take j p)
set-kept T p x i j f lt =
    let m = get_some (get T (take j p)) (f.standing j (omega arith)) in
    set-on_the_way T p x j (omega (arith, f.shorter))
    ∙ (ap (λ (b : Bool). Some (way_node (get T (take j p)) b)) (f.standing (j + 1) (omega arith))
    ∙ (ap (λ (o : Option Node). Some (way_node o true)) m.1 ∙ sym m.1))

-- it has a new child
pub set-raised : (T : Tree) (p : List NameText) (x : Payload) (i : ℕ) → IsLongestFront T p i → get (set T p x) (take i p) ≡ option_map raised_children (get T (take i p))
set-raised T p x i f =
    let m = get_some (get T (take i p)) (f.standing i (omega arith)) in
    set-on_the_way T p x i f.shorter
    ∙ (ap (λ (b : Bool). Some (way_node (get T (take i p)) b)) (f.missing (i + 1) (omega arith) (omega (arith, f.shorter)))
    ∙ (ap (λ (o : Option Node). Some (way_node o false)) m.1 ∙ sym (ap (option_map raised_children) m.1)))

-- the missing fronts are made empty
pub set-made : (T : Tree) (p : List NameText) (x : Payload) (i j : ℕ) → IsLongestFront T p i → i < j → j < length p → get (set T p x) (take j p) ≡ Some (fresh Empty)
set-made T p x i j f lt less =
    set-on_the_way T p x j less ∙ ap (λ (o : Option Node). Some (way_node o (stands T (take (j + 1) p)))) (get_none (get T (take j p)) (f.missing j lt (omega arith)))

-- and the node with its payload
pub set-new : (T : Tree) (p : List NameText) (x : Payload) (i : ℕ) → IsLongestFront T p i → get (set T p x) p ≡ Some (fresh x)
set-new T p x i f =
    let whole : take (length p) p ≡ p = take_all (length p) p (omega arith) in
    let none : get T p ≡ None = get_none (get T p) (sym (ap (stands T) whole) ∙ f.missing (length p) f.shorter (omega arith)) in
    set-at_path T p x ∙ ap (λ (o : Option Node). Some (end_node o x)) none
