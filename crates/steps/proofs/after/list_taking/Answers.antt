-- `steps::after::list_taking` meets its contract, by the answer. Assumes nothing.
use Rattle.steps.proofs.Listed.{none-listed, reading-listed, writing-listed}
use Rattle.steps.proofs.after.list_taking.Goals as goal

pub returns-in-Rests : goal.returns-in-Rests
returns-in-Rests c = rw c.in-Rests.is (none-listed _ _)

pub returns-in-Joins : goal.returns-in-Joins
returns-in-Joins c = rw c.in-Joins.is (none-listed _ _)

pub returns-in-ReadBegun : goal.returns-in-ReadBegun
returns-in-ReadBegun c = rw c.in-ReadBegun.is (reading-listed _ _ _)

pub returns-in-ReadOn : goal.returns-in-ReadOn
returns-in-ReadOn c = rw c.in-ReadOn.is (none-listed _ _)

pub returns-in-ReadEnded : goal.returns-in-ReadEnded
returns-in-ReadEnded c = rw c.in-ReadEnded.is (none-listed _ _)

pub returns-in-WriteBegun : goal.returns-in-WriteBegun
returns-in-WriteBegun c = rw c.in-WriteBegun.is (writing-listed _ _ _)

pub returns-in-WriteOn : goal.returns-in-WriteOn
returns-in-WriteOn c = rw c.in-WriteOn.is (none-listed _ _)

pub returns-in-WriteEnded : goal.returns-in-WriteEnded
returns-in-WriteEnded c = rw c.in-WriteEnded.is (none-listed _ _)
