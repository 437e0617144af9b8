-- What a path that is missing adds to the bytes of a tree.
use Rattle.std.specs.Prelude.{ℕ, zero, suc, ◌+◌, List, take}
use Rattle.khepri_terms.specs.Terms.{NameText}
use Rattle.khepri_types.specs.declared.node.Payload.{Payload}
use Rattle.khepri_types.specs.declared.node.Payload.TheVariants.{Empty}
use Rattle.khepri_types.specs.Sizes.{node_bytes}
use Rattle.khepri_types.specs.Tree.{fresh}

-- the bytes of the next n fronts of p, from the one of i names on, and of p itself, as they are made
abbrev pub way_bytes : ℕ → ℕ → List NameText → Payload → ℕ
way_bytes zero i p x = node_bytes (p, fresh x)
way_bytes (suc n) i p x = node_bytes (take i p, fresh Empty) + way_bytes n (i + 1) p x
