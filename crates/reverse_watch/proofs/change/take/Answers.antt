use Rattle.std.proofs.Common.{◌∙◌, ◌≡◌}
use Rattle.reverse_watch.proofs.Moves.{emptied}
use Rattle.reverse_watch.proofs.change.take.Goals as goal

pub returns-then-cut_from : goal.returns-then-cut_from
returns-then-cut_from c = λ q p. emptied c.args.target.now c.cut_from.new.lists c.remove.new.self (c.cut_from.ensures.emptied c.if-cut_from.true) c.remove.ensures.updates q p ∙ c.cut_from.ensures.others q p
