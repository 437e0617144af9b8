use Rattle.std.proofs.Common.{[], ◌∷◌}
use Rattle.std.proofs.lemmas.Result.{on_err_weaker}
use Rattle.line_io.proofs.Appending.{Part-then}
use Rattle.line_io.proofs.streams.put_line.Goals as goal

pub returns-clause-err : goal.returns-clause-err
returns-clause-err g c = on_err_weaker c.put_all-2.result (Part-then (g.K.Sink.held c.args.sink.now) (g.K.Sink.held c.put_all.new.sink) (g.K.Sink.held c.put_all-2.new.sink) c.args.bytes.now (10 ∷ []) c.in_ok-put_all.ensures.ok) c.put_all-2.ensures.err
