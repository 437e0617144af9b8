use Rattle.std.specs.Prelude.{◌≡◌}
use Rattle.tree_nodes.proofs.Laying.{Laid}
use Rattle.tree_nodes.proofs.parts.lay.Given as goal

abbrev pub invariant-nodes : goal.invariant-nodes
invariant-nodes l = record {
  base : l.draft.base ≡ l.fn.draft.base;
  laid : Laid l.nodes l.part-index l.draft.tree;
}
