-- Each arm is what its function ensures; from mode 5 on a core is stopped. Assumes nothing.
use native.Mathlib.Omega.{arith}
use Rattle.steps.proofs.Does.{begins-writing, does-stopped}
use Rattle.steps.proofs.exchange_in.Goals as goal

pub read_byte-requires : goal.read_byte-requires
read_byte-requires c = (c.requires.0, c.in-1.is, c.requires.2, c.requires.3.reading c.in-1.is, c.requires.4)

pub write_byte-requires : goal.write_byte-requires
write_byte-requires c = (c.requires.0, c.in-4.is, c.requires.2, c.requires.3.writing c.in-4.is, c.requires.4)

pub returns-in-0 : goal.returns-in-0
returns-in-0 c = c.begin_reading.ensures _

pub returns-in-1 : goal.returns-in-1
returns-in-1 c = c.read_byte.ensures _

pub returns-in-3 : goal.returns-in-3
returns-in-3 c = begins-writing _ _ _ _ _ _ _ _ c.begin_writing.ensures c.in-3.is

pub returns-in-4 : goal.returns-in-4
returns-in-4 c = c.write_byte.ensures _

pub returns-in_default : goal.returns-in_default
returns-in_default c = ((λ h z. does-stopped _ _ _ _ _ h (omega (arith, c.requires.1, c.in_default.in_default-own.rest.1, c.in_default.in_default-own.rest.0.1, c.in_default.in_default-own.rest.0.0.1, c.in_default.in_default-own.rest.0.0.0.1))), tt)
