use Rattle.std.proofs.Common.{[], ◌∷◌, ◌++◌, refl}
use Rattle.khepri_terms.specs.Records.{fields_text, rec_text}
use Rattle.khepri_terms.proofs.Printing.{front_of, front_kept, three_parts}
use Rattle.khepri_terms.proofs.rec.print_fields.Goals as goal

pub returns-in_err-print_joined-clause-front : goal.returns-in_err-print_joined-clause-front
returns-in_err-print_joined-clause-front c =
    front_of c.args.out.now.items c.push.new.self.items c.print_joined.new.out.items (123 ∷ []) c.in_ok-push.ensures.items c.in_err-print_joined.ensures.front

pub returns-clause-ok : goal.returns-clause-ok
unfolding rec_text
returns-clause-ok c =
    three_parts c.args.out.now.items c.push.new.self.items c.print_joined.new.out.items c.push-2.new.self.items (123 ∷ []) (fields_text c.args.fields.now) (125 ∷ []) c.in_ok-push.ensures.items c.in_ok-print_joined.ensures.ok c.in_ok-push-2.ensures.items

pub returns-clause-front : goal.returns-clause-front
returns-clause-front c =
    let x = (123 ∷ []) ++ (fields_text c.args.fields.now ++ (125 ∷ [])) in
    front_kept c.args.out.now.items c.push-2.new.self.items c.push-2.new.self.items x
    (three_parts c.args.out.now.items c.push.new.self.items c.print_joined.new.out.items c.push-2.new.self.items (123 ∷ []) (fields_text c.args.fields.now) (125 ∷ []) c.in_ok-push.ensures.items c.in_ok-print_joined.ensures.ok c.in_ok-push-2.ensures.items)
    refl
