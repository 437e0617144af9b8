use Rattle.std.proofs.Common.{◌-◌, ◌+◌, ◌≡◌, ◌≤◌, ℕ, [], length, ap, ◌∙◌, arith}
use Rattle.std.proofs.lemmas.List.{length-append}
use Rattle.khepri_terms.specs.Bytes.{byte_at, bytes_at}
use Rattle.khepri_terms.proofs.BytesLaws.{plain_on}
use Rattle.khepri_terms.proofs.Reading.{many_on, many_done, many-end, many-full}
use Rattle.khepri_terms.proofs.texts.read_escaped.Goals as goal
use Rattle.khepri_terms.proofs.texts.read_escaped.Goals.{else-bytes-test, then-bytes-test+in-None}

pub bytes-init : goal.bytes-init
bytes-init c =
    let run = c.plain_front in
    let items = c.in_ok-bytes.ensures.items in
    let none : c.args.max ≡ c.args.max - 0 = omega arith in
    record {
      read = plain_on (bytes_at c.args.max c.args.text.now) c.args.max [] c.in_ok-bytes.bytes.items run.result.0.now c.args.text.now run.result.1.now (omega (arith, run.ensures.few)) run.ensures.plain run.ensures.parts items (ap (λ (n : ℕ). bytes_at n c.args.text.now) none);
      few = omega (arith, run.ensures.few, ap length items);
    }

pub bytes-preserved : goal.bytes-preserved
bytes-preserved c =
    let total = bytes_at c.args.max c.args.text.now in
    let read = c.bytes.bytes.items in
    let more = c.push.new.self.items in
    let all = c.extend_from_slice.new.self.items in
    let run = c.plain_front-in-Some in
    let items = c.in_ok-extend_from_slice-in-Some.ensures.items in
    let room : length more + length run.result.0.now ≤ c.args.max = omega (arith, run.ensures.few, c.in_ok-push-in-Some.ensures.len) in
    record {
      read = plain_on total c.args.max more all run.result.0.now c.in-Some.after.now run.result.1.now room run.ensures.plain run.ensures.parts items
          (many_on byte_at total c.args.max read more c.in-Some.byte c.bytes.rest.now c.in-Some.after.now (omega arith) c.in-Some.ensures c.in_ok-push-in-Some.ensures.items c.bytes.invariant.read);
      few = omega (arith, room, ap length items ∙ length-append more run.result.0.now);
    }

pub returns : goal.returns
returns c =
    let k = c.args.max - length c.bytes.bytes.items in
    elim c.bytes-test.branch [
      | else-bytes-test w ↦ many_done _ _ _ (bytes_at k c.bytes.rest.now) (many-full byte_at k c.bytes.rest.now (omega arith)) c.bytes.invariant.read
      | then-bytes-test+in-None w ↦ many_done _ _ _ (bytes_at k c.bytes.rest.now) (many-end byte_at k c.bytes.rest.now w.in-None.ensures) c.bytes.invariant.read
    ]
