use Rattle.script_laws.proofs.GivenValues.{expression_given, statement_given}
use Rattle.script_laws.proofs.forms_are_given_their_types.Goals as goal

pub returns-clause-expression : goal.returns-clause-expression
returns-clause-expression c e s R T h = expression_given R T e s h

pub returns-clause-statement : goal.returns-clause-statement
returns-clause-statement c s R T h = statement_given R T s h
