-- `steps::after::cursor_after` meets its contract, by the answer. Assumes nothing.
use mathlib.Core.Path.{refl}
use Rattle.steps.proofs.after.cursor_after.Goals as goal

pub returns-in-Rests : goal.returns-in-Rests
returns-in-Rests c = rw c.in-Rests.is refl

pub returns-in-Joins : goal.returns-in-Joins
returns-in-Joins c = rw c.in-Joins.is refl

pub returns-in-ReadBegun : goal.returns-in-ReadBegun
returns-in-ReadBegun c = rw c.in-ReadBegun.is c.start.ensures

pub returns-in-ReadOn : goal.returns-in-ReadOn
returns-in-ReadOn c = rw c.in-ReadOn.is refl

pub returns-in-ReadEnded : goal.returns-in-ReadEnded
returns-in-ReadEnded c = rw c.in-ReadEnded.is refl

pub returns-in-WriteBegun : goal.returns-in-WriteBegun
returns-in-WriteBegun c = rw c.in-WriteBegun.is c.start-in-WriteBegun.ensures

pub returns-in-WriteOn : goal.returns-in-WriteOn
returns-in-WriteOn c = rw c.in-WriteOn.is refl

pub returns-in-WriteEnded : goal.returns-in-WriteEnded
returns-in-WriteEnded c = rw c.in-WriteEnded.is refl
