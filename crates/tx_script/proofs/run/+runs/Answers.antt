use Rattle.std.proofs.lemmas.Result.{err_from_is_err_and}
use Rattle.tx_script.specs.Answers.{run_of}
use Rattle.tx_script.proofs.Stopping.{put_stops, hold_stops}
use Rattle.tx_script.proofs.run.+runs.Goals as goal

pub statement-returns-in_err-p-in-Put-clause-ends : goal.statement-returns-in_err-p-in-Put-clause-ends
statement-returns-in_err-p-in-Put-clause-ends g t c =
    let p = err_from_is_err_and c.from_residual-in_err-p-in-Put.result c.from_residual-in_err-p-in-Put.ensures.1 in
    rw (p.1, p.2, c.in_err-p-in-Put.ensures.same) (put_stops c.in-Put.a c.in-Put.b c.args.s.now _ (run_of c.spend.new.machine (g.T.ScriptTree.scene c.args.tree.now)) c.in_err-p-in-Put.field-0.0 c.in-Put.is (c.in_ok-spend.ensures (g.T.ScriptTree.scene c.args.tree.now)) c.in_err-p-in-Put.ensures.values)

pub statement-returns-in_err-p-in-Hold-clause-ends : goal.statement-returns-in_err-p-in-Hold-clause-ends
statement-returns-in_err-p-in-Hold-clause-ends g t c =
    let p = err_from_is_err_and c.from_residual-in_err-p-in-Hold.result c.from_residual-in_err-p-in-Hold.ensures.1 in
    rw (p.1, p.2, c.in_err-p-in-Hold.ensures.same) (hold_stops c.in-Hold.a c.in-Hold.b c.in-Hold.cond c.args.s.now _ (run_of c.spend.new.machine (g.T.ScriptTree.scene c.args.tree.now)) c.in_err-p-in-Hold.field-0.0 c.in-Hold.is (c.in_ok-spend.ensures (g.T.ScriptTree.scene c.args.tree.now)) c.in_err-p-in-Hold.ensures.values)
