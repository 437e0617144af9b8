use Rattle.std.proofs.Common.{None}
use Rattle.std.specs.Option.{option_copied}
use Rattle.tree_overlay.proofs.Keeping.{kept-as, none-left, some-left}
use Rattle.tree_overlay.proofs.kept.left_name.Goals as goal

pub returns-in-None : goal.returns-in-None
returns-in-None c = λ B p tree kept. let k = kept-as B p c.args.nest None c.in-None.is kept in none-left B p (option_copied c.args.after) c.args.marks.now.entries tree k

pub returns-in-Some : goal.returns-in-Some
returns-in-Some c = λ B p tree kept. let k = kept-as B p c.args.nest _ c.in-Some.is kept in some-left B p c.in-Some.nest.now (option_copied c.args.after) (option_copied c.next_left.result) c.args.marks.now.entries k c.next_left.ensures
