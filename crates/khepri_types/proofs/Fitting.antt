-- A tree keeps its limits.
use Rattle.std.proofs.Common.{◌≡◌, ◌≤◌, Bool, true, List, [], ◌∷◌, length, map, refl, ap, ◌∙◌, arith, ◌&&◌, leb}
use Rattle.std.specs.Prelude.{IsTrue}
use Rattle.std.specs.List.{sum}
use Rattle.std.specs.FinMap.{entries, len, entries-from_sorted, len-entries}
use Rattle.std.proofs.lemmas.Bool.{leb-true, le-leb}
use Rattle.std.proofs.lemmas.List.Sums.{length-filter, count_by-le-length}
use Rattle.khepri_terms.specs.Terms.{NameText}
use Rattle.khepri_terms.specs.Order.{path_cmp}
use Rattle.khepri_terms.proofs.Cases.{and_true}
use Rattle.khepri_types.specs.declared.limits.TheConstants.{MAX_TREE_NODES, MAX_TREE_BYTES}
use Rattle.khepri_types.specs.declared.node.Node.{Node}
use Rattle.khepri_types.specs.declared.node.Payload.TheVariants.{Empty}
use Rattle.khepri_types.specs.declared.out.EntryText.{EntryText}
use Rattle.khepri_types.specs.declared.out.EntryText.TheVariants as text
use Rattle.khepri_types.specs.Paths.{is_child}
use Rattle.khepri_types.specs.Drop.{drop}
use Rattle.khepri_types.specs.Texts.{payload_text}
use Rattle.khepri_types.specs.Sizes.{kids, node_bytes, bytes, fits}
use Rattle.khepri_types.specs.Tree.{Tree, fresh, opening_tree}
use Rattle.khepri_types.specs.Exec.{State, opening_state, state_of}
use Rattle.khepri_types.specs.History.{run_from}
use Rattle.khepri_types.proofs.Dropping.{len-drop, bytes-drop}
use Rattle.khepri_types.proofs.After.{fits-after}

-- ---- the first tree

opening_entries : entries opening_tree ≡ ([], fresh Empty) ∷ []
opening_entries = entries-from_sorted path_cmp (([], fresh Empty) ∷ []) tt

pub opening_len : len opening_tree ≡ 1
opening_len = len-entries opening_tree ∙ ap length opening_entries

root_bytes : sum (map node_bytes (([], fresh Empty) ∷ [])) ≡ 1
unfolding payload_text
root_bytes = refl

pub opening_bytes : bytes opening_tree ≡ 1
opening_bytes = ap (λ (es : List (List NameText × Node)). sum (map node_bytes es)) opening_entries ∙ root_bytes

pub fits-opening : IsTrue (fits opening_tree)
fits-opening = λ i. leb (opening_len i) MAX_TREE_NODES && leb (opening_bytes i) MAX_TREE_BYTES

-- ---- and all that follow

pub fits-run : (es : List EntryText) (S : State) → IsTrue (fits S.tree) → IsTrue (fits (run_from S es).tree)
fits-run [] S h = h
fits-run (text.Command c ∷ es) S h = fits-run es (state_of S (text.Command c)) (fits-after S c h)
fits-run (text.Fire s ∷ es) S h = fits-run es (state_of S (text.Fire s)) h
fits-run (text.Noop ∷ es) S h = fits-run es (state_of S text.Noop) h

pub fits-history : (es : List EntryText) → IsTrue (fits (run_from opening_state es).tree)
fits-history es = fits-run es opening_state fits-opening

-- ---- what fits is counted in few numbers

pub few_nodes : (T : Tree) → IsTrue (fits T) → len T ≤ MAX_TREE_NODES
few_nodes T h = leb-true (len T) MAX_TREE_NODES (and_true (leb (len T) MAX_TREE_NODES) (leb (bytes T) MAX_TREE_BYTES) h).0

pub kids-le : (T : Tree) (p : List NameText) → kids T p ≤ len T
kids-le T p =
    let child : List NameText × Node → Bool = λ e. is_child p e.0 in
    omega (arith, length-filter child (entries T), count_by-le-length child (entries T), len-entries T)

few_bytes : (T : Tree) → IsTrue (fits T) → bytes T ≤ MAX_TREE_BYTES
few_bytes T h = leb-true (bytes T) MAX_TREE_BYTES (and_true (leb (len T) MAX_TREE_NODES) (leb (bytes T) MAX_TREE_BYTES) h).1

-- a drop from a tree that fits leaves one that fits
pub fits-drop : (T : Tree) (paths : List (List NameText)) → IsTrue (fits T) → IsTrue (fits (drop T paths))
fits-drop T paths h =
    let few : leb (len (drop T paths)) MAX_TREE_NODES ≡ true = le-leb (len (drop T paths)) MAX_TREE_NODES (omega (arith, len-drop T paths, few_nodes T h)) in
    let small : leb (bytes (drop T paths)) MAX_TREE_BYTES ≡ true = le-leb (bytes (drop T paths)) MAX_TREE_BYTES (omega (arith, bytes-drop T paths, few_bytes T h)) in
    λ i. few i && small i
