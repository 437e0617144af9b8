use Rattle.std.proofs.Common.{take, refl}
use Rattle.khepri_terms.specs.Bytes.{bytes_text}
use Rattle.khepri_terms.proofs.Printing.{front_kept}
use Rattle.script_text.proofs.printing.append_bytes.Goals as goal

pub returns-in_err-print_byte-clause-front : goal.returns-in_err-print_byte-clause-front
returns-in_err-print_byte-clause-front c =
    front_kept c.args.out.now.items c.loop-b.out.items c.print_byte.new.out.items (bytes_text (take c.loop-b.b-index c.args.bytes.now)) c.loop-b.invariant c.in_err-print_byte.ensures.err

pub returns-clause-front : goal.returns-clause-front
returns-clause-front c =
    front_kept c.args.out.now.items c.loop-b.out.items c.loop-b.out.items (bytes_text (take c.loop-b.b-index c.args.bytes.now)) c.loop-b.invariant refl
