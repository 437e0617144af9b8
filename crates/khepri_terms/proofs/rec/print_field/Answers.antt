use Rattle.std.proofs.Common.{[], ◌∷◌, ◌++◌}
use Rattle.khepri_terms.specs.Names.{name_text}
use Rattle.khepri_terms.proofs.Printing.{front_of, two_parts}
use Rattle.khepri_terms.proofs.rec.print_field.Goals as goal

pub returns-clause-front : goal.returns-clause-front
returns-clause-front c =
    let key = name_text c.as_slice.result.now in
    front_of c.args.out.now.items c.push.new.self.items c.append.new.out.items (key ++ (61 ∷ []))
    (two_parts c.args.out.now.items c.print_name.new.out.items c.push.new.self.items key (61 ∷ []) c.in_ok-print_name.ensures.ok c.in_ok-push.ensures.items) c.append.ensures.front
