-- The tree, and what setting a payload does to it.
use Rattle.std.specs.Prelude.{ℕ, zero, suc, ◌+◌, ◌-◌, ◌^◌, ◌≤◌, Bool, true, false, min, if◌then◌else◌, IsTrue, List, [], ◌∷◌, length, take, Option, Some, None, is_some}
use Rattle.std.specs.FinMap.{FinMap, from_sorted, get, insert}
use Rattle.khepri_terms.specs.Terms.{NameText}
use Rattle.khepri_terms.specs.Order.{path_cmp, rec_eq}
use Rattle.khepri_types.specs.declared.node.Node.{Node}
use Rattle.khepri_types.specs.declared.node.Payload.{Payload}
use Rattle.khepri_types.specs.declared.node.Payload.TheVariants.{Empty, Fields, Proc}
use Rattle.khepri_types.specs.SameScripts.{same_script}

-- a finite map from paths to nodes
abbrev pub Tree : Type 0
Tree = FinMap path_cmp Node

-- whether a node stands at the path
abbrev pub stands : Tree → List NameText → Bool
stands T p = is_some (get T p)

-- the root stands, and with each path all its fronts
pub record IsTree (T : Tree) : Type 0 where
  pub root : IsTrue (stands T [])
  pub fronts : (p : List NameText) (i : ℕ) → i ≤ length p → IsTrue (stands T p) → IsTrue (stands T (take i p))

-- whether two payloads are equal
abbrev pub same_payload : Payload → Payload → Bool
same_payload Empty Empty = true
same_payload Empty (Fields b) = false
same_payload Empty (Proc t) = false
same_payload (Fields a) Empty = false
same_payload (Fields a) (Fields b) = rec_eq a b
same_payload (Fields a) (Proc t) = false
same_payload (Proc s) Empty = false
same_payload (Proc s) (Fields b) = false
same_payload (Proc s) (Proc t) = same_script s t

-- a version goes up by one, and stays at the end of its type
abbrev pub raised : ℕ → ℕ
raised n = min (n + 1) (2 ^ 64 - 1)

-- a node as it is made: it watches nothing
abbrev pub fresh : Payload → Node
fresh x = record { payload = x; pv = 1; cv = 1; watches = [] }

-- another payload; the version goes up exactly where it differs
abbrev pub written : Node → Payload → Node
written n x = record n { payload = x; pv = if same_payload x n.payload then n.pv else raised n.pv }

-- a child came or went
abbrev pub raised_children : Node → Node
raised_children n = record n { cv = raised n.cv }

-- the node at the path itself, after a payload is set there
abbrev pub end_node : Option Node → Payload → Node
end_node None x = fresh x
end_node (Some n) x = written n x

-- a node above it: made empty where there was none; else its child-list version goes up where the next one on the way is new
abbrev pub way_node : Option Node → Bool → Node
way_node None below = fresh Empty
way_node (Some n) true = n
way_node (Some n) false = raised_children n

-- on the way to p: the node at its first i names
abbrev pub passed : Tree → List NameText → ℕ → Tree
passed T p i = insert T (take i p) (way_node (get T (take i p)) (stands T (take (i + 1) p)))

-- the node at p itself
abbrev pub arrived : Tree → List NameText → Payload → Tree
arrived T p x = insert T p (end_node (get T p) x)

-- the next n fronts of p, from the one of i names on, and then p itself
unfoldable pub set_from : ℕ → ℕ → Tree → List NameText → Payload → Tree
set_from zero i T p x = arrived T p x
set_from (suc n) i T p x = set_from n (i + 1) (passed T p i) p x

-- payload x is set at p: each missing front of p is made, and where p was missing the longest front that stood has a new child
abbrev pub set : Tree → List NameText → Payload → Tree
set T p x = set_from (length p) 0 T p x

-- the root alone, empty
abbrev pub opening_tree : Tree
opening_tree = from_sorted (([], fresh Empty) ∷ [])
