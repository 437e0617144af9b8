use Rattle.std.proofs.Common.{◌≤◌, ◌-◌, length, drop, take, arith, ap}
use Rattle.std.proofs.lemmas.List.{length-drop, take_rest}
use Rattle.line_io.proofs.Appending.{Appends-more}
use Rattle.line_io.proofs.streams.put_all.Goals as goal

pub loop-at-preserved : goal.loop-at-preserved
loop-at-preserved g c =
    let le : c.in-Ok.n ≤ length (take (length c.args.bytes.now - c.loop-at.at) (drop c.loop-at.at c.args.bytes.now)) = c.in-Ok.ensures.within in
    record {
      within = omega (arith, le, ap length (take_rest c.args.bytes.now c.loop-at.at), length-drop c.loop-at.at c.args.bytes.now);
      appended = Appends-more _ (g.K.Sink.held c.loop-at.sink) _ c.args.bytes.now _ c.loop-at.at c.in-Ok.n c.loop-at.invariant.appended (take_rest c.args.bytes.now c.loop-at.at) c.in-Ok.ensures.put;
      later = omega (arith, c.loop-at.invariant.later, c.in-Ok.ensures.later);
    }
