use Rattle.std.proofs.Common.{◌∙◌, sym, ap}
use Rattle.tree_walks.specs.Turns.{way_end}
use Rattle.tree_walks.proofs.Descending.{end-on}
use Rattle.tree_walks.proofs.descent.end_of.Goals as goal

pub returns-in-Some : goal.returns-in-Some
returns-in-Some c = sym (ap (way_end c.args.root.now) c.in-Some.ensures.cases.0 ∙ end-on c.args.root.now c.in-Some.field-0-1.now c.in-Some.last.now)
