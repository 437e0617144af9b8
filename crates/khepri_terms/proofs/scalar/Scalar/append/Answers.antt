use Rattle.std.proofs.Common.{[], ◌∷◌}
use Rattle.khepri_terms.proofs.Printing.{front_of, word-front}
use Rattle.khepri_terms.proofs.scalar.Scalar.append.Goals as goal

pub returns-in-Int-clause-front : goal.returns-in-Int-clause-front
returns-in-Int-clause-front c = word-front c.extend_from_slice.result c.args.out.now.items c.extend_from_slice.new.self.items c.as_bytes.result.now c.extend_from_slice.ensures.items

pub returns-in_ok-push-in-Text-clause-front : goal.returns-in_ok-push-in-Text-clause-front
returns-in_ok-push-in-Text-clause-front c = front_of c.args.out.now.items c.push.new.self.items c.print_bytes.new.out.items (39 ∷ []) c.in_ok-push-in-Text.ensures.items c.print_bytes.ensures.front
