use Rattle.std.proofs.Common.{take, refl}
use Rattle.std.specs.List.{flat_map}
use Rattle.khepri_terms.specs.Paths.{step_text}
use Rattle.khepri_terms.proofs.Printing.{front_of, front_kept}
use Rattle.khepri_terms.proofs.path.print_steps.Goals as goal

pub returns-in_err-print_step-clause-front : goal.returns-in_err-print_step-clause-front
returns-in_err-print_step-clause-front c =
    front_of c.args.out.now.items c.loop-name.out.items c.print_step.new.out.items (flat_map step_text (take c.loop-name.name-index c.args.names.now)) c.loop-name.invariant c.in_err-print_step.ensures.front

pub returns-clause-front : goal.returns-clause-front
returns-clause-front c =
    front_kept c.args.out.now.items c.loop-name.out.items c.loop-name.out.items (flat_map step_text (take c.loop-name.name-index c.args.names.now)) c.loop-name.invariant refl
