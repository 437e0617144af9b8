use Rattle.std.proofs.Common.{◌≤◌, ℕ, List}
use Rattle.line_io.specs.Pieces.{Came}
use Rattle.line_io.proofs.lines.Lines.next.Given as goal

-- what has come since the call began gives no line yet
abbrev pub invariant-pieces : goal.invariant-pieces
invariant-pieces g l = record {
  came : (bytes : List ℕ) × Came l.fn.self l.self (g.S.Source.left l.fn.source) (g.S.Source.left l.source) bytes;
  later : g.S.Source.faults l.fn.source ≤ g.S.Source.faults l.source;
}

abbrev pub decreases-pieces : goal.decreases-pieces
decreases-pieces g l = l.self.room
