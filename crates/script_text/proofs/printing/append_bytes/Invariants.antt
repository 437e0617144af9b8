use Rattle.std.proofs.Common.{◌≡◌, ◌++◌, take}
use Rattle.khepri_terms.specs.Bytes.{bytes_text}
use Rattle.script_text.proofs.printing.append_bytes.Given as goal

abbrev pub invariant-loop-b : goal.invariant-loop-b
invariant-loop-b l = l.out.items ≡ l.fn.out.items ++ bytes_text (take l.b-index l.bytes)
