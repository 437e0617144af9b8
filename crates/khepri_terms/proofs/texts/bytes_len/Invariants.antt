use Rattle.std.proofs.Common.{◌≡◌, length, take}
use Rattle.khepri_terms.specs.Lengths.{capped}
use Rattle.khepri_terms.specs.Bytes.{bytes_text}
use Rattle.khepri_terms.proofs.texts.bytes_len.Given as goal

abbrev pub invariant-loop-b : goal.invariant-loop-b
invariant-loop-b l = l.len ≡ capped (length (bytes_text (take l.b-index l.bytes)))
