-- `runs::aim_of` meets its contract: a fit state's holder is within its exchange. Assumes nothing.
use native.Mathlib.Omega.{arith}
use Rattle.runs.proofs.Aims.{aim-free, in_table, within-reads, within-writes, aim-reading, aim-writing, aim-neither}
use Rattle.runs.proofs.aim_of.Goals as goal

pub returns-then-holder-eq0 : goal.returns-then-holder-eq0
returns-then-holder-eq0 c = aim-free c.args.file.now c.args.s _ c.if-holder-eq0.true

pub bounds-cores-k : goal.bounds-cores-k
bounds-cores-k c = omega (arith, in_table c.requires c.if-holder-eq0.false)

pub bounds-cores-k-then-cores-k-eq-READING : goal.bounds-cores-k-then-cores-k-eq-READING
bounds-cores-k-then-cores-k-eq-READING c = omega (arith, in_table c.requires c.if-holder-eq0.false)

pub locate-requires : goal.locate-requires
locate-requires c = let given = c.requires in
    (given.accepted.laid, given.from, given.upto, omega (arith, in_table given c.if-holder-eq0.false), within-reads given c.if-holder-eq0.false c.if-cores-k-eq-READING.true)

pub returns-then-cores-k-eq-READING : goal.returns-then-cores-k-eq-READING
returns-then-cores-k-eq-READING c = aim-reading c.requires c.if-holder-eq0.false c.if-cores-k-eq-READING.true c.locate.ensures

pub bounds-cores-k-2 : goal.bounds-cores-k-2
bounds-cores-k-2 c = omega (arith, in_table c.requires c.if-holder-eq0.false)

pub bounds-cores-k-then-cores-k-eq-WRITING : goal.bounds-cores-k-then-cores-k-eq-WRITING
bounds-cores-k-then-cores-k-eq-WRITING c = omega (arith, in_table c.requires c.if-holder-eq0.false)

pub locate-requires-then-cores-k-eq-WRITING : goal.locate-requires-then-cores-k-eq-WRITING
locate-requires-then-cores-k-eq-WRITING c = let given = c.requires in
    (given.accepted.laid, given.from, given.upto, omega (arith, in_table given c.if-holder-eq0.false), within-writes given c.if-holder-eq0.false c.if-cores-k-eq-WRITING.true)

pub returns-then-cores-k-eq-WRITING : goal.returns-then-cores-k-eq-WRITING
returns-then-cores-k-eq-WRITING c = aim-writing c.requires c.if-holder-eq0.false c.if-cores-k-eq-WRITING.true c.locate-then-cores-k-eq-WRITING.ensures

pub returns : goal.returns
returns c = aim-neither c.requires c.if-holder-eq0.false c.if-cores-k-eq-READING.false c.if-cores-k-eq-WRITING.false
