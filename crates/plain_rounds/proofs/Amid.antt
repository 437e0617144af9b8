-- Which nodes of a tree fail, along a walk over all of them.
use Rattle.std.proofs.Common.{◌≡◌, Bool, true, false, cond, List, [], ◌∷◌, ◌++◌, map, sym, ap, ◌∙◌, append_assoc, Option, Some, None}
use Rattle.std.specs.List.{filter}
use Rattle.std.proofs.lemmas.List.{append-nil}
use Rattle.std.specs.FinMap.{get}
use Rattle.khepri_terms.specs.Terms.{NameText}
use Rattle.khepri_terms.specs.Order.{path_cmp}
use Rattle.khepri_types.specs.declared.node.Node.{Node}
use Rattle.khepri_types.specs.Settling.{fails, failing}
use Rattle.khepri_types.specs.Tree.{Tree}
use Rattle.tree_nodes.specs.Next.{IsNext}
use Rattle.tree_nodes.proofs.Walking.{Stands, ahead, walk-begins, walk-goes_on, walk-ends}

abbrev Path : Type 0
Path = List NameText

abbrev Entry : Type 0
Entry = Path × Node

-- the paths of those that fail among these
abbrev pub failing_of : Tree → List Entry → List Path
failing_of T es = map (λ e. e.0) (filter (λ e. fails T e.0 e.1) es)

-- with the paths found so far, those that fail ahead are all that fail
abbrev pub Amid : Tree → List Path → Option Path → Type 0
Amid T paths after = paths ++ failing_of T (ahead T after) ≡ failing T

pub amid-begins : (T : Tree) → Amid T [] None
amid-begins T = ap (failing_of T) (walk-begins T)

pub amid-ends : (T : Tree) (paths : List Path) (after : Option Path) → IsNext path_cmp (Stands T) after None → Amid T paths after → paths ≡ failing T
amid-ends T paths after none amid = sym (append-nil paths) ∙ (ap (λ (es : List Entry). paths ++ failing_of T es) (sym (walk-ends T after none)) ∙ amid)

pub amid-fails : (T : Tree) (paths : List Path) (after : Option Path) (x : Path) → IsNext path_cmp (Stands T) after (Some x) → ((n : Node) → get T x ≡ Some n → true ≡ fails T x n)
    → Amid T paths after → Amid T (paths ++ x ∷ []) (Some x)
amid-fails T paths after x next low amid =
    let step = walk-goes_on T after x next in
    let rest = failing_of T (ahead T (Some x)) in
    append_assoc paths (x ∷ []) rest
    ∙ (ap (λ (b : Bool). paths ++ map (λ (e : Entry). e.0) (cond b ((x, step.0) ∷ filter (λ (e : Entry). fails T e.0 e.1) (ahead T (Some x))) (filter (λ (e : Entry). fails T e.0 e.1) (ahead T (Some x))))) (low step.0 step.1)
    ∙ (ap (λ (es : List Entry). paths ++ failing_of T es) (sym step.2) ∙ amid))

pub amid-stays : (T : Tree) (paths : List Path) (after : Option Path) (x : Path) → IsNext path_cmp (Stands T) after (Some x) → ((n : Node) → get T x ≡ Some n → false ≡ fails T x n)
    → Amid T paths after → Amid T paths (Some x)
amid-stays T paths after x next low amid =
    let step = walk-goes_on T after x next in
    ap (λ (b : Bool). paths ++ map (λ (e : Entry). e.0) (cond b ((x, step.0) ∷ filter (λ (e : Entry). fails T e.0 e.1) (ahead T (Some x))) (filter (λ (e : Entry). fails T e.0 e.1) (ahead T (Some x))))) (low step.0 step.1)
    ∙ (ap (λ (es : List Entry). paths ++ failing_of T es) (sym step.2) ∙ amid)
