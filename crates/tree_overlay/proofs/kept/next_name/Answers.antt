use Rattle.std.proofs.Common.{Some, None}
use Rattle.std.specs.Option.{option_copied}
use Rattle.tree_overlay.proofs.Keeping.{kept-as, none-next, some-next}
use Rattle.tree_overlay.proofs.kept.next_name.Goals as goal

pub returns-in-None : goal.returns-in-None
returns-in-None c = λ B p tree kept. let k = kept-as B p c.args.nest None c.in-None.is kept in none-next B p (option_copied c.args.after) tree k

pub returns-in-Some-next_kid : goal.returns-in-Some-next_kid
returns-in-Some-next_kid c = λ B p tree kept. let k = kept-as B p c.args.nest _ c.in-Some.is kept in some-next B p c.in-Some.nest.now (option_copied c.args.after) (Some c.in-Some-next_kid.name.now) k c.in-Some-next_kid.ensures.next

pub returns-in-None-next_kid : goal.returns-in-None-next_kid
returns-in-None-next_kid c = λ B p tree kept. let k = kept-as B p c.args.nest _ c.in-Some.is kept in some-next B p c.in-Some.nest.now (option_copied c.args.after) None k c.in-None-next_kid.ensures.next
