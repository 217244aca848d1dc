-- In each arm the number that is loaded and stored is a copy of its bytes; the last arm is width 8.
use native.Mathlib.Omega.{arith}
use Rattle.values.proofs.Widths.{last-width}
use Rattle.processor.proofs.Inside.{stored-copy}
use Rattle.execution.proofs.copy_element.Goals as goal

pub load-requires-in_default : goal.load-requires-in_default
load-requires-in_default c = let e = last-width c.requires.0 c.in_default.in_default-own.rest.0.0.1 c.in_default.in_default-own.rest.0.1 c.in_default.in_default-own.rest.1 in (omega arith, omega arith)

pub store-requires-in_default : goal.store-requires-in_default
store-requires-in_default c = let e = last-width c.requires.0 c.in_default.in_default-own.rest.0.0.1 c.in_default.in_default-own.rest.0.1 c.in_default.in_default-own.rest.1 in omega arith

pub returns-in-1 : goal.returns-in-1
returns-in-1 c = stored-copy _ _ _ _ _ _ _ c.slice_known-1.given c.requires.2 c.in-1.is c.load.ensures.0
    c.store.ensures

pub returns-in-2 : goal.returns-in-2
returns-in-2 c = stored-copy _ _ _ _ _ _ _ c.slice_known-1.given c.requires.2 c.in-2.is c.load-in-2.ensures.0
    c.store-in-2.ensures

pub returns-in-4 : goal.returns-in-4
returns-in-4 c = stored-copy _ _ _ _ _ _ _ c.slice_known-1.given c.requires.2 c.in-4.is c.load-in-4.ensures.0
    c.store-in-4.ensures

pub returns-in_default : goal.returns-in_default
returns-in_default c = stored-copy _ _ _ _ _ _ _ c.slice_known-1.given c.requires.2
    (last-width c.requires.0 c.in_default.in_default-own.rest.0.0.1 c.in_default.in_default-own.rest.0.1 c.in_default.in_default-own.rest.1) c.load-in_default.ensures.0
    c.store-in_default.ensures
