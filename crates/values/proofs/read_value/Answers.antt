-- `values::read_value` meets its contract. Each arm loads the bytes of its type and reads them as the table says (`read_as`). Assumes nothing.
use Rattle.std.proofs.Common.{refl, ap, ◌∙◌, arith, rules}
use Rattle.values.specs.Types.{width_of}
use Rattle.values.specs.Values.{typed}
use Rattle.values.specs.declared.Value.TheVariants.{Signed, Real, Lreal}
use Rattle.values.proofs.Signs.{read64}
use Rattle.values.proofs.Types.{last-type}
use Rattle.values.proofs.Reading.{load-in, read_as}
use Rattle.values.proofs.read_value.Goals as goal

pub load-requires : goal.load-requires
unfolding width_of
load-requires c = (load-in 0 c.in-0.is refl _ _ c.requires.1, omega arith)

pub load-requires-in-1 : goal.load-requires-in-1
unfolding width_of
load-requires-in-1 c = (load-in 1 c.in-1.is refl _ _ c.requires.1, omega arith)

pub load-requires-in-2 : goal.load-requires-in-2
unfolding width_of
load-requires-in-2 c = (load-in 2 c.in-2.is refl _ _ c.requires.1, omega arith)

pub load-requires-in-3 : goal.load-requires-in-3
unfolding width_of
load-requires-in-3 c = (load-in 3 c.in-3.is refl _ _ c.requires.1, omega arith)

pub load-requires-in-4 : goal.load-requires-in-4
unfolding width_of
load-requires-in-4 c = (load-in 4 c.in-4.is refl _ _ c.requires.1, omega arith)

pub load-requires-in-5 : goal.load-requires-in-5
unfolding width_of
load-requires-in-5 c = (load-in 5 c.in-5.is refl _ _ c.requires.1, omega arith)

pub load-requires-in-6 : goal.load-requires-in-6
unfolding width_of
load-requires-in-6 c = (load-in 6 c.in-6.is refl _ _ c.requires.1, omega arith)

pub load-requires-in-7 : goal.load-requires-in-7
unfolding width_of
load-requires-in-7 c = (load-in 7 c.in-7.is refl _ _ c.requires.1, omega arith)

pub load-requires-in-8 : goal.load-requires-in-8
unfolding width_of
load-requires-in-8 c = (load-in 8 c.in-8.is refl _ _ c.requires.1, omega arith)

pub load-requires-in-9 : goal.load-requires-in-9
unfolding width_of
load-requires-in-9 c = (load-in 9 c.in-9.is refl _ _ c.requires.1, omega arith)

pub load-requires-in-10 : goal.load-requires-in-10
unfolding width_of
load-requires-in-10 c = (load-in 10 c.in-10.is refl _ _ c.requires.1, omega arith)

pub load-requires-in_default : goal.load-requires-in_default
unfolding width_of
load-requires-in_default c = (load-in {t = c.args.t} 11 (search (rules, last-type)) refl _ _ c.requires.1, omega arith)

pub returns-in-0 : goal.returns-in-0
unfolding width_of typed
returns-in-0 c = read_as 0 c.in-0.is refl _ _ c.load.ensures.0

pub returns-in-1 : goal.returns-in-1
unfolding width_of typed
returns-in-1 c = ap Signed (read64 _ c.signed_of.type_inv ∙ c.signed_of.ensures) ∙ read_as 1 c.in-1.is refl _ _ c.load-in-1.ensures.0

pub returns-in-2 : goal.returns-in-2
unfolding width_of typed
returns-in-2 c = read_as 2 c.in-2.is refl _ _ c.load-in-2.ensures.0

pub returns-in-3 : goal.returns-in-3
unfolding width_of typed
returns-in-3 c = ap Signed (read64 _ c.signed_of-in-3.type_inv ∙ c.signed_of-in-3.ensures) ∙ read_as 3 c.in-3.is refl _ _ c.load-in-3.ensures.0

pub returns-in-4 : goal.returns-in-4
unfolding width_of typed
returns-in-4 c = read_as 4 c.in-4.is refl _ _ c.load-in-4.ensures.0

pub returns-in-5 : goal.returns-in-5
unfolding width_of typed
returns-in-5 c = ap Signed (read64 _ c.signed_of-in-5.type_inv ∙ c.signed_of-in-5.ensures) ∙ read_as 5 c.in-5.is refl _ _ c.load-in-5.ensures.0

pub returns-in-6 : goal.returns-in-6
unfolding width_of typed
returns-in-6 c = read_as 6 c.in-6.is refl _ _ c.load-in-6.ensures.0

pub returns-in-7 : goal.returns-in-7
unfolding width_of typed
returns-in-7 c = ap Signed (read64 _ c.signed_of-in-7.type_inv ∙ c.signed_of-in-7.ensures) ∙ read_as 7 c.in-7.is refl _ _ c.load-in-7.ensures.0

pub returns-in-8 : goal.returns-in-8
unfolding width_of typed
returns-in-8 c = read_as 8 c.in-8.is refl _ _ c.load-in-8.ensures.0

pub returns-in-9 : goal.returns-in-9
unfolding width_of typed
returns-in-9 c = ap Real c.real_of.ensures ∙ read_as 9 c.in-9.is refl _ _ c.load-in-9.ensures.0

pub returns-in-10 : goal.returns-in-10
unfolding width_of typed
returns-in-10 c = ap Lreal c.lreal_of.ensures ∙ read_as 10 c.in-10.is refl _ _ c.load-in-10.ensures.0

pub returns-in_default : goal.returns-in_default
unfolding width_of typed
returns-in_default c = ap Signed (read64 _ c.signed_of-in_default.type_inv ∙ c.signed_of-in_default.ensures) ∙ read_as 11 (search (rules, last-type)) refl _ _ c.load-in_default.ensures.0
