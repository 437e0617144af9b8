use Rattle.std.proofs.Common.{refl, sym, ◌∙◌, arith}
use Rattle.std.specs.FinMap.{get}
use Rattle.khepri_types.proofs.Growing.{get_none}
use Rattle.tree_nodes.proofs.Laying.{laid-init, laid-more, laid-end, part_stands, part_fronts, missing_named}
use Rattle.tree_nodes.proofs.parts.lay.Goals as goal

pub nodes-init : goal.nodes-init
nodes-init c = record { base = refl; laid = laid-init c.args.nodes.now c.args.draft.now.tree c.requires.fresh }

pub nodes-preserved : goal.nodes-preserved
nodes-preserved c = record {
  base = c.rewrite.ensures.base ∙ c.nodes.invariant.base;
  laid = laid-more c.args.nodes.now c.nodes.part-index c.part-item.result c.in_ok-node.node c.nodes.draft.tree c.rewrite.new.self.tree c.requires.sorted (omega arith) c.part-item.is c.in_ok-node.ensures c.nodes.invariant.laid c.in_ok-rewrite.ensures.tree;
}

pub make-requires-clause-short : goal.make-requires-clause-short
make-requires-clause-short c = c.requires.shallow c.part-item.result.path (part_stands c.args.nodes.now c.nodes.part-index c.part-item.result c.requires.sorted (omega arith) c.part-item.is)

pub make-requires-clause-below : goal.make-requires-clause-below
make-requires-clause-below c = missing_named c.nodes.draft.tree c.part-item.result.path c.nodes-nodes.ensures.tree (sym c.in_default.ensures.stands)

pub make-requires-clause-parent : goal.make-requires-clause-parent
make-requires-clause-parent c = part_fronts c.args.nodes.now c.nodes.part-index c.part-item.result c.nodes.draft.tree c.requires.sorted c.requires.tree (omega arith) c.part-item.is c.nodes.invariant.laid

pub make-requires-clause-absent : goal.make-requires-clause-absent
make-requires-clause-absent c = get_none (get c.nodes.draft.tree c.part-item.result.path) (sym c.in_default.ensures.stands)

pub nodes-preserved-in_default : goal.nodes-preserved-in_default
nodes-preserved-in_default c = record {
  base = c.make.ensures.base ∙ c.nodes.invariant.base;
  laid = laid-more c.args.nodes.now c.nodes.part-index c.part-item.result c.in_ok-node.node c.nodes.draft.tree c.make.new.self.tree c.requires.sorted (omega arith) c.part-item.is c.in_ok-node.ensures c.nodes.invariant.laid c.in_ok-make.ensures.tree;
}

pub returns-clause-tree : goal.returns-clause-tree
returns-clause-tree c = laid-end c.args.nodes.now c.nodes.part-index c.nodes.draft.tree c.requires.sorted c.requires.tree (omega (arith, c.nodes-test.false, c.nodes.auto.part-index-end)) c.nodes.invariant.laid

pub siblings-requires : goal.siblings-requires
siblings-requires c = record { below = missing_named c.nodes.draft.tree c.part-item.result.path c.nodes-nodes.ensures.tree (sym c.in_default.ensures.stands) }
