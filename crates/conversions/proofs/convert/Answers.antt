-- `conversions::convert` meets its contract. Each arm is a row of the table of types; the last is none of them. Assumes nothing.
use lib.Ieee.{Float}
use Rattle.std.proofs.Common.{ap}
use Rattle.values.specs.declared.Value.TheVariants.{Real, Lreal}
use Rattle.std.specs.Prelude.{Some}
use Rattle.conversions.specs.Conversions.{to_type}
use Rattle.conversions.proofs.Types.{at-type, no-type}
use Rattle.conversions.proofs.convert.Goals as goal

pub returns-in-1 : goal.returns-in-1
unfolding to_type
returns-in-1 c = at-type 1 c.args.v c.in-1.is c.to_whole.ensures

pub returns-in-2 : goal.returns-in-2
unfolding to_type
returns-in-2 c = at-type 2 c.args.v c.in-2.is c.to_whole-in-2.ensures

pub returns-in-3 : goal.returns-in-3
unfolding to_type
returns-in-3 c = at-type 3 c.args.v c.in-3.is c.to_whole-in-3.ensures

pub returns-in-4 : goal.returns-in-4
unfolding to_type
returns-in-4 c = at-type 4 c.args.v c.in-4.is c.to_whole-in-4.ensures

pub returns-in-5 : goal.returns-in-5
unfolding to_type
returns-in-5 c = at-type 5 c.args.v c.in-5.is c.to_whole-in-5.ensures

pub returns-in-6 : goal.returns-in-6
unfolding to_type
returns-in-6 c = at-type 6 c.args.v c.in-6.is c.to_whole-in-6.ensures

pub returns-in-7 : goal.returns-in-7
unfolding to_type
returns-in-7 c = at-type 7 c.args.v c.in-7.is c.to_whole-in-7.ensures

pub returns-in-8 : goal.returns-in-8
unfolding to_type
returns-in-8 c = at-type 8 c.args.v c.in-8.is c.to_whole-in-8.ensures

pub returns-in-9 : goal.returns-in-9
unfolding to_type
returns-in-9 c = at-type 9 c.args.v c.in-9.is (ap (λ (x : Float). Some (Real x)) c.to_real.ensures)

pub returns-in-10 : goal.returns-in-10
unfolding to_type
returns-in-10 c = at-type 10 c.args.v c.in-10.is (ap (λ (x : Float). Some (Lreal x)) c.to_lreal.ensures)

pub returns-in_default : goal.returns-in_default
unfolding to_type
returns-in_default c = let r = c.in_default.in_default-own.rest in no-type c.args.t c.args.v r.0.0.0.0.0.0.0.0.0.1 r.0.0.0.0.0.0.0.0.1 r.0.0.0.0.0.0.0.1 r.0.0.0.0.0.0.1 r.0.0.0.0.0.1 r.0.0.0.0.1 r.0.0.0.1 r.0.0.1 r.0.1 r.1
