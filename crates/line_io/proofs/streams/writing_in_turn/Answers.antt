use Rattle.line_io.proofs.Appending.{Appends-none, Appends-then, Front-all, Front-of, Front-then, Part-front, Part-then, Rose-wider}
use Rattle.line_io.proofs.streams.writing_in_turn.Goals as goal

pub returns-clause-none : goal.returns-clause-none
returns-clause-none c = Appends-none

pub returns-clause-then : goal.returns-clause-then
returns-clause-then c = Appends-then

pub returns-clause-all : goal.returns-clause-all
returns-clause-all c = Front-all

pub returns-clause-front : goal.returns-clause-front
returns-clause-front c = Front-of

pub returns-clause-then_front : goal.returns-clause-then_front
returns-clause-then_front c = Front-then

pub returns-clause-part : goal.returns-clause-part
returns-clause-part c = Part-front

pub returns-clause-then_part : goal.returns-clause-then_part
returns-clause-then_part c = Part-then

pub returns-clause-rose : goal.returns-clause-rose
returns-clause-rose c = Rose-wider
