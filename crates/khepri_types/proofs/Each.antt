-- What holds of each node of a tree after a change.
use Rattle.std.proofs.Common.{◌≡◌, inl, inr, ℕ, ◌+◌, Bool, true, false, cond, List, [], ◌∷◌, length, take, sym, ap, subst, ◌∙◌, arith, Option, Some}
use Rattle.std.specs.FinMap.{get, entries}
use Rattle.std.proofs.lemmas.List.{take_all}
use Rattle.std.proofs.Math.Nat.{eq-or-lt_of_le}
use Rattle.khepri_terms.specs.Terms.{NameText}
use Rattle.khepri_types.specs.declared.node.Node.{Node}
use Rattle.khepri_types.specs.declared.node.Payload.{Payload}
use Rattle.khepri_types.specs.declared.node.Payload.TheVariants.{Empty}
use Rattle.khepri_types.specs.Drop.{loses_child, drop}
use Rattle.khepri_types.specs.Tree.{Tree, stands, fresh, raised_children, end_node, way_node, set, opening_tree}
use Rattle.khepri_types.proofs.Trees.{set-at_path, set-on_the_way, set-elsewhere}
use Rattle.khepri_types.proofs.Standing.{front_or_away, get-opening}
use Rattle.khepri_types.proofs.Dropping.{left}

abbrev pub Each : (Node → Type 0) → Tree → Type 0
Each P T = (q : List NameText) (n : Node) → get T q ≡ Some n → P n

-- of the node that stood, where one did
abbrev pub OfOld : (Node → Type 0) → Option Node → Type 0
OfOld P o = (n : Node) → o ≡ Some n → P n

-- where P holds before x is set, Q holds after it
pub record IsCarried (P Q : Node → Type 0) (x : Payload) : Type 0 where
  pub elsewhere : (n : Node) → P n → Q n
  pub at_path : (o : Option Node) → OfOld P o → Q (end_node o x)
  pub on_the_way : (o : Option Node) (below : Bool) → OfOld P o → Q (way_node o below)

one_node : (Q : Node → Type 0) (o : Option Node) (m n : Node) → o ≡ Some m → o ≡ Some n → Q m → Q n
one_node Q o m n e f h = subst Q (cc (e, f)) h

whole_path : (p : List NameText) (i : ℕ) → i ≡ length p → take i p ≡ p
whole_path p i e = take_all i p (omega arith)

pub each-set : (P Q : Node → Type 0) (T : Tree) (p : List NameText) (x : Payload) → IsCarried P Q x → Each P T → Each Q (set T p x)
each-set P Q T p x carried all q n e = elim (front_or_away p q) as (λ _. Q n) [
  | inl f ↦
      let at : get (set T p x) (take f.long p) ≡ Some n = ap (get (set T p x)) (sym f.is) ∙ e in
      elim (eq-or-lt_of_le f.within) as (λ _. Q n) [
        | inl same ↦
            let here : get (set T p x) p ≡ Some n = subst (λ (r : List NameText). get (set T p x) r ≡ Some n) (whole_path p f.long same) at in
            one_node Q (get (set T p x) p) (end_node (get T p) x) n (set-at_path T p x) here (carried.at_path (get T p) (all p))
        | inr less ↦
            one_node Q (get (set T p x) (take f.long p)) (way_node (get T (take f.long p)) (stands T (take (f.long + 1) p))) n (set-on_the_way T p x f.long less) at
            (carried.on_the_way (get T (take f.long p)) (stands T (take (f.long + 1) p)) (all (take f.long p)))
      ]
  | inr away ↦ carried.elsewhere n (all q n (sym (set-elsewhere T p x q away) ∙ e))
]

of_choice : (Q : Node → Type 0) (b : Bool) (n : Node) → Q (raised_children n) → Q n → Q (cond b (raised_children n) n)
of_choice Q true n g h = g
of_choice Q false n g h = h

pub each-drop : (P Q : Node → Type 0) (T : Tree) (paths : List (List NameText)) → ((n : Node) → P n → Q (raised_children n)) → ((n : Node) → P n → Q n) → Each P T → Each Q (drop T paths)
each-drop P Q T paths raised kept all q n e =
    let was = left T paths q n e in
    let old : P was.old = all q was.old was.stood in
    subst Q (sym was.is) (of_choice Q (loses_child (entries T) paths q) was.old (raised was.old old) (kept was.old old))

-- the first tree has one node
pub each-opening : (Q : Node → Type 0) → Q (fresh Empty) → Each Q opening_tree
each-opening Q h [] n e = one_node Q (get opening_tree []) (fresh Empty) n (get-opening []) e h
each-opening Q h (m ∷ q) n e = absurd (cc (sym e ∙ get-opening (m ∷ q)))
