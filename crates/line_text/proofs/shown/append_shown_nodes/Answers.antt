use Rattle.std.proofs.Common.{take, refl}
use Rattle.std.specs.List.{flat_map}
use Rattle.khepri_terms.proofs.Printing.{front_of, front_kept}
use Rattle.khepri_types.specs.Texts.{shown_text}
use Rattle.condition_text.proofs.Loops.{none_yet, one_more, all_done}
use Rattle.line_text.proofs.shown.append_shown_nodes.Goals as goal

pub loop-node-init : goal.loop-node-init
loop-node-init c = none_yet shown_text c.args.out.now.items

pub loop-node-preserved : goal.loop-node-preserved
loop-node-preserved c =
    one_more shown_text c.args.nodes.now c.loop-node.node-index c.node-item.result c.args.out.now.items c.loop-node.out.items c.append_shown.new.out.items c.loop-node-test.true c.node-item.is c.loop-node.invariant c.in_ok-append_shown.ensures.ok

pub returns-in_err-append_shown-clause-front : goal.returns-in_err-append_shown-clause-front
returns-in_err-append_shown-clause-front c =
    front_of c.args.out.now.items c.loop-node.out.items c.append_shown.new.out.items (flat_map shown_text (take c.loop-node.node-index c.args.nodes.now)) c.loop-node.invariant c.in_err-append_shown.ensures.front

pub returns-clause-ok : goal.returns-clause-ok
returns-clause-ok c = all_done shown_text c.args.nodes.now c.loop-node.node-index c.args.out.now.items c.loop-node.out.items c.loop-node-test.false c.loop-node.invariant

pub returns-clause-front : goal.returns-clause-front
returns-clause-front c =
    front_kept c.args.out.now.items c.loop-node.out.items c.loop-node.out.items (flat_map shown_text (take c.loop-node.node-index c.args.nodes.now)) c.loop-node.invariant refl
