use Rattle.std.proofs.Common.{◌≡◌, ◌-◌, ◌∙◌, [], length, Option, Some, None, MatchOption, sym, arith}
use Rattle.khepri_terms.specs.Bytes.{byte_at, bytes_at}
use Rattle.khepri_terms.proofs.BytesLaws.{plain_all}
use Rattle.khepri_terms.proofs.Reading.{many-end, many-full}
use Rattle.khepri_terms.proofs.texts.read_bytes.Goals as goal
use Rattle.khepri_terms.proofs.texts.read_bytes.Goals.{then-front-max, else-front-max}

none_there : {X : Type 0} {P : Type 0} (Q : X → Type 0) (o : Option X) → o ≡ None → MatchOption o P Q → P
none_there Q None is p = p
none_there Q (Some x) is p = absurd cc

pub returns-in_ok-from_slice-in-None : goal.returns-in_ok-from_slice-in-None
returns-in_ok-from_slice-in-None c =
    let run = c.plain_front in
    let k = c.args.max - length run.result.0.now in
    let text = run.result.1.now in
    let made = c.in_ok-from_slice-in-None in
    let none : bytes_at k text ≡ ([], text) = elim c.if-front-max.branch [
      | then-front-max w ↦ many-end byte_at k text (none_there _ w.read_byte-escaped.result (sym w.escaped-is ∙ c.in-None.is) w.read_byte-escaped.ensures)
      | else-front-max w ↦ many-full byte_at k text (omega (arith, w.if-front-max.false))
    ] in
    rw made.ensures (plain_all c.args.max run.result.0.now c.args.text.now text run.ensures.plain run.ensures.few run.ensures.parts none)
