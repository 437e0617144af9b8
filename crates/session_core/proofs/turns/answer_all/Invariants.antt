use Rattle.std.proofs.Common.{◌≤◌}
use Rattle.line_io.specs.Reading.{bytes_ahead}
use Rattle.session_core.proofs.Amid.{Amid}
use Rattle.session_core.proofs.turns.answer_all.Given as goal

abbrev pub invariant-lines : goal.invariant-lines
invariant-lines g l = record {
  amid : Amid (g.S.Source.left l.fn.source) (g.K.Sink.held l.fn.sink) (g.S.Source.left l.source) (g.K.Sink.held l.sink) l.lines l.number l.machine l.out.items;
  source : g.S.Source.faults l.fn.source ≤ g.S.Source.faults l.source;
  sink : g.K.Sink.faults l.fn.sink ≤ g.K.Sink.faults l.sink;
}

abbrev pub decreases-lines : goal.decreases-lines
decreases-lines g l = bytes_ahead l.lines
