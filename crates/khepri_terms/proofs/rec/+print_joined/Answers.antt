use Rattle.std.proofs.Common.{[], ◌∷◌}
use Rattle.khepri_terms.proofs.Printing.{front_of, two_parts}
use Rattle.khepri_terms.proofs.rec.+print_joined.Goals as goal

pub returns-in_ok-push-in-len1-up-clause-front : goal.returns-in_ok-push-in-len1-up-clause-front
returns-in_ok-push-in-len1-up-clause-front d c =
    front_of c.args.out.now.items c.push.new.self.items c.print_joined.new.out.items _
    (two_parts c.args.out.now.items c.print_field.new.out.items c.push.new.self.items _ (44 ∷ []) c.in_ok-print_field-in-len1-up.ensures.ok c.in_ok-push-in-len1-up.ensures.items) c.print_joined.ensures.front
