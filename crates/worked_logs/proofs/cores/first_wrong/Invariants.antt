-- The three nodes are nodes 1, 2 and 3 of three.
use Rattle.std.proofs.Common.{◌≡◌, ℕ}
use Rattle.raft_types.specs.Core.{CoreParts}
use Rattle.worked_logs.proofs.cores.first_wrong.Given as goal

-- this node of three
pub record IsNode (c : CoreParts) (id : ℕ) : Type 0 where
  pub id_is : c.id ≡ id
  pub nodes_are : c.nodes ≡ 3

abbrev pub invariant-steps : goal.invariant-steps
invariant-steps l = IsNode l.cores.one 1 × IsNode l.cores.two 2 × IsNode l.cores.three 3
