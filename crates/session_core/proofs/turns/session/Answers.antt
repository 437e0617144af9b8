use Rattle.line_io.proofs.Appending.{Appends-none}
use Rattle.session_core.specs.declared.status.Status.TheVariants as status
use Rattle.session_core.proofs.Amid.{unopened}
use Rattle.session_core.proofs.turns.session.Goals as goal

pub returns-in-Err-clause-session : goal.returns-in-Err-clause-session
returns-in-Err-clause-session g c =
    unopened status.NoMemory (g.S.Source.left c.args.source.now) (g.K.Sink.held c.args.sink.now) (g.K.Sink.held c.args.sink.now) 0 tt (Appends-none (g.K.Sink.held c.args.sink.now))

pub returns-in-Err-fresh-clause-session : goal.returns-in-Err-fresh-clause-session
returns-in-Err-fresh-clause-session g c =
    unopened status.NoMemory (g.S.Source.left c.args.source.now) (g.K.Sink.held c.args.sink.now) (g.K.Sink.held c.args.sink.now) 0 tt (Appends-none (g.K.Sink.held c.args.sink.now))

pub returns-then-is_err-clause-session : goal.returns-then-is_err-clause-session
returns-then-is_err-clause-session g c =
    unopened status.NoMemory (g.S.Source.left c.args.source.now) (g.K.Sink.held c.args.sink.now) (g.K.Sink.held c.args.sink.now) 0 tt (Appends-none (g.K.Sink.held c.args.sink.now))
