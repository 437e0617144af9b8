use Rattle.std.proofs.Common.{ℕ, List, ◌<◌, subst, arith}
use Rattle.khepri_terms.specs.Bytes.{byte_text}
use Rattle.khepri_terms.proofs.Reading.{Took}
use Rattle.khepri_terms.proofs.BytesLaws.{bytes_takes}
use Rattle.khepri_terms.proofs.texts.read_undotted.Goals as goal

pub returns-clause-name : goal.returns-clause-name
returns-clause-name c =
    let t = subst (λ (f : List ℕ × List ℕ). Took byte_text (λ b. b < 256) 255 c.args.text.now f) c.in_ok-bytes.ensures (bytes_takes 255 c.args.text.now) in
    record { low = omega arith; high = t.few; bytes = t.all }
