-- `steps::after::line_after` meets its contract, by the answer. Assumes nothing.
use Rattle.steps.proofs.after.line_after.Goals as goal

pub joined-requires : goal.joined-requires
joined-requires c = let given = c.requires in
    let out = rw c.in-Joins.is at given.3 in
    (given.0, given.1, out.0, out.1)

pub acquired-requires : goal.acquired-requires
acquired-requires c = let given = c.requires in
    (given.0, given.1, (rw c.in-ReadBegun.is at given.3), given.2)

pub acquired-requires-in-WriteBegun : goal.acquired-requires-in-WriteBegun
acquired-requires-in-WriteBegun c = let given = c.requires in
    (given.0, given.1, (rw c.in-WriteBegun.is at given.3), given.2)

pub returns-in-Rests : goal.returns-in-Rests
returns-in-Rests c = rw c.in-Rests.is c.requires.0

pub returns-in-Joins : goal.returns-in-Joins
returns-in-Joins c = rw c.in-Joins.is c.joined.ensures

pub returns-in-ReadBegun : goal.returns-in-ReadBegun
returns-in-ReadBegun c = rw c.in-ReadBegun.is c.acquired.ensures

pub returns-in-ReadOn : goal.returns-in-ReadOn
returns-in-ReadOn c = rw c.in-ReadOn.is c.requires.0

pub returns-in-ReadEnded : goal.returns-in-ReadEnded
returns-in-ReadEnded c = rw c.in-ReadEnded.is c.released.ensures

pub returns-in-WriteBegun : goal.returns-in-WriteBegun
returns-in-WriteBegun c = rw c.in-WriteBegun.is c.acquired-in-WriteBegun.ensures

pub returns-in-WriteOn : goal.returns-in-WriteOn
returns-in-WriteOn c = rw c.in-WriteOn.is c.requires.0

pub returns-in-WriteEnded : goal.returns-in-WriteEnded
returns-in-WriteEnded c = rw c.in-WriteEnded.is c.released-in-WriteEnded.ensures
