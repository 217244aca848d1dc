-- `values::width_of` meets its contract. Each arm is an entry of the table of widths; the last type is none of those before it. Assumes nothing.
use Rattle.std.proofs.Common.{refl, rules}
use Rattle.values.specs.Types.{width_of}
use Rattle.values.proofs.Types.{last-type}
use Rattle.values.proofs.Reading.{width-at}
use Rattle.values.proofs.width_of.Goals as goal

pub returns-in-0 : goal.returns-in-0
unfolding width_of
returns-in-0 c = width-at 0 c.in-0.is refl

pub returns-in-1 : goal.returns-in-1
unfolding width_of
returns-in-1 c = width-at 1 c.in-1.is refl

pub returns-in-2 : goal.returns-in-2
unfolding width_of
returns-in-2 c = width-at 2 c.in-2.is refl

pub returns-in-3 : goal.returns-in-3
unfolding width_of
returns-in-3 c = width-at 3 c.in-3.is refl

pub returns-in-4 : goal.returns-in-4
unfolding width_of
returns-in-4 c = width-at 4 c.in-4.is refl

pub returns-in-5 : goal.returns-in-5
unfolding width_of
returns-in-5 c = width-at 5 c.in-5.is refl

pub returns-in-6 : goal.returns-in-6
unfolding width_of
returns-in-6 c = width-at 6 c.in-6.is refl

pub returns-in-7 : goal.returns-in-7
unfolding width_of
returns-in-7 c = width-at 7 c.in-7.is refl

pub returns-in-8 : goal.returns-in-8
unfolding width_of
returns-in-8 c = width-at 8 c.in-8.is refl

pub returns-in-9 : goal.returns-in-9
unfolding width_of
returns-in-9 c = width-at 9 c.in-9.is refl

pub returns-in-10 : goal.returns-in-10
unfolding width_of
returns-in-10 c = width-at 10 c.in-10.is refl

pub returns-in_default : goal.returns-in_default
unfolding width_of
returns-in_default c = width-at {t = c.args.t} 11 (search (rules, last-type)) refl
