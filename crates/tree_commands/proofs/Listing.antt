-- The nodes at the paths that a pattern matches, one after the other.
use Rattle.std.proofs.Common.{◌≡◌, ℕ, zero, suc, ◌+◌, ◌<◌, List, [], ◌∷◌, ◌++◌, get_or, take, length, sym, ap, ◌∙◌, arith, Some, None}
use Rattle.std.specs.FinMap.{get, entries}
use Rattle.std.specs.List.{AllByRecursion}
use Rattle.std.proofs.lemmas.List.{get_or-map, length-map, take_more}
use Rattle.khepri_terms.specs.Terms.{NameText}
use Rattle.khepri_types.specs.declared.node.Node.{Node}
use Rattle.khepri_types.specs.declared.node.Payload.TheVariants.{Empty}
use Rattle.khepri_types.specs.declared.pattern.PatternPart.{PatternPart}
use Rattle.khepri_types.specs.Patterns.{matches, matching, matching_nodes}
use Rattle.khepri_types.specs.Tree.{Tree, fresh}
use Rattle.khepri_types.proofs.Matching.{All-filter, each_stands}
use Rattle.tree_commands.proofs.Gathering.{Entry}

all_nth : {X : Type 0} (P : X → Type 0) (xs : List X) (i : ℕ) (d : X) → i < length xs → AllByRecursion P xs → P (get_or xs i d)
all_nth P [] i d lt all = absurd (omega (arith, lt))
all_nth P (x ∷ xs) zero d lt all = all.0
all_nth P (x ∷ xs) (suc i) d lt all = all_nth P xs i d (omega (arith, lt)) all.1

-- the i-th of them stands
there : (T : Tree) (parts : List PatternPart) (i : ℕ) (d : Entry) → i < length (matching parts T) → get T (get_or (matching_nodes parts T) i d).0 ≡ Some (get_or (matching_nodes parts T) i d).1
there T parts i d lt =
    all_nth (λ (e : Entry). get T e.0 ≡ Some e.1) (matching_nodes parts T) i d (omega (arith, lt, length-map (matching_nodes parts T) (λ (e : Entry). e.0)))
    (All-filter (λ (e : Entry). get T e.0 ≡ Some e.1) (λ (e : Entry). matches parts T e.0) (entries T) (each_stands T))

-- its path is the i-th path
placed : (T : Tree) (parts : List PatternPart) (i : ℕ) (x : List NameText) (n : Node) → i < length (matching parts T) → x ≡ get_or (matching parts T) i x → x ≡ (get_or (matching_nodes parts T) i (x, n)).0
placed T parts i x n lt is = is ∙ get_or-map (λ (e : Entry). e.0) (matching_nodes parts T) i (x, n) x (omega (arith, lt, length-map (matching_nodes parts T) (λ (e : Entry). e.0)))

pub never_absent : (T : Tree) (parts : List PatternPart) (i : ℕ) (x : List NameText) → i < length (matching parts T) → x ≡ get_or (matching parts T) i x → get T x ≡ None → ⊥
never_absent T parts i x lt is none =
    let n : Node = fresh Empty in
    let here : None ≡ Some (get_or (matching_nodes parts T) i (x, n)).1 = sym none ∙ (ap (get T) (placed T parts i x n lt is) ∙ there T parts i (x, n) lt) in
    absurd cc

some_same : (a b : Node) → Some a ≡ Some b → a ≡ b
some_same a b e = cc

-- one node more
pub nodes_more : (T : Tree) (parts : List PatternPart) (i : ℕ) (x : List NameText) (n : Node) → i < length (matching parts T) → x ≡ get_or (matching parts T) i x → get T x ≡ Some n
    → take (i + 1) (matching_nodes parts T) ≡ take i (matching_nodes parts T) ++ (x, n) ∷ []
nodes_more T parts i x n lt is some =
    let e : Entry = get_or (matching_nodes parts T) i (x, n) in
    let path : x ≡ e.0 = placed T parts i x n lt is in
    let node : n ≡ e.1 = some_same n e.1 (sym some ∙ (ap (get T) path ∙ there T parts i (x, n) lt)) in
    take_more (matching_nodes parts T) i (x, n) (omega (arith, lt, length-map (matching_nodes parts T) (λ (e : Entry). e.0)))
    ∙ (λ j. take i (matching_nodes parts T) ++ (sym path j, sym node j) ∷ [])
