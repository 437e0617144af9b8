use Rattle.line_io.proofs.Given.{Progress-start, Progress-call, gave_within, gave_input, gave_whole, gave_budget, took_budget, shown-line, shown-none}
use Rattle.line_io.proofs.progress.progress_of_calls.Goals as goal

pub returns-clause-start : goal.returns-clause-start
returns-clause-start c = Progress-start

pub returns-clause-call : goal.returns-clause-call
returns-clause-call c = Progress-call

pub returns-clause-count : goal.returns-clause-count
returns-clause-count c = gave_within

pub returns-clause-end : goal.returns-clause-end
returns-clause-end c = gave_input

pub returns-clause-fault : goal.returns-clause-fault
returns-clause-fault c = gave_whole

pub returns-clause-past : goal.returns-clause-past
returns-clause-past c = λ limit budget input left gave r p going passed free. (gave_budget limit budget input left gave r p going passed free, (took_budget limit budget input left gave r p passed).1)

pub returns-clause-line : goal.returns-clause-line
returns-clause-line c = shown-line

pub returns-clause-too_long : goal.returns-clause-too_long
returns-clause-too_long c = shown-none
