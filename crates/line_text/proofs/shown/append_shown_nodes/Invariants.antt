use Rattle.std.proofs.Common.{◌≡◌, ◌++◌, take}
use Rattle.std.specs.List.{flat_map}
use Rattle.khepri_types.specs.Texts.{shown_text}
use Rattle.line_text.proofs.shown.append_shown_nodes.Given as goal

abbrev pub invariant-loop-node : goal.invariant-loop-node
invariant-loop-node l = l.out.items ≡ l.fn.out.items ++ flat_map shown_text (take l.node-index l.nodes)
