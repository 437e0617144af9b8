-- Which nodes fail, and what settling leaves of a tree.
use Rattle.std.specs.Prelude.{ℕ, zero, suc, ◌-◌, Bool, true, false, not, if◌then◌else◌, List, [], ◌∷◌, map}
use Rattle.std.specs.List.{list_any, filter}
use Rattle.std.specs.FinMap.{entries, len}
use Rattle.khepri_terms.specs.Terms.{NameText}
use Rattle.khepri_types.specs.declared.node.Node.{Node}
use Rattle.khepri_types.specs.declared.watch.Watch.{Watch}
use Rattle.khepri_types.specs.Conditions.{holds_at}
use Rattle.khepri_types.specs.Drop.{drop}
use Rattle.khepri_types.specs.Tree.{Tree}

-- the condition of a watch holds at its target
abbrev pub is_met : Tree → Watch → Bool
is_met T w = holds_at w.cond T w.target

-- some watch isn't met
abbrev pub is_broken : Tree → List Watch → Bool
is_broken T watches = list_any (λ w. not (is_met T w)) watches

-- a node other than the root fails where some watch of it isn't met
abbrev pub fails : Tree → List NameText → Node → Bool
fails T [] n = false
fails T (a ∷ p) n = is_broken T n.watches

-- the paths of all nodes that fail
abbrev pub failing : Tree → List (List NameText)
failing T = map (λ e. e.0) (filter (λ e. fails T e.0 e.1) (entries T))

abbrev pub are_none : List (List NameText) → Bool
are_none [] = true
are_none (p ∷ paths) = false

-- no node fails
abbrev pub stable : Tree → Bool
stable T = are_none (failing T)

-- at most n rounds, as long as some node fails; each drops all nodes that fail
unfoldable pub rounds : ℕ → Tree → Tree
rounds zero T = T
rounds (suc n) T = if stable T then T else rounds n (drop T (failing T))

-- rounds until no node fails; each takes a node away, so that there are fewer rounds than nodes
unfoldable pub settle : Tree → Tree
settle T = rounds (len T) T

-- how many nodes settling removes
abbrev pub gone : Tree → ℕ
gone T = len T - len (settle T)
