-- Reader, writer, neither.
use mathlib.Core.Path.{sym}
use Rattle.verdict.specs.Verdict.{pick}
use Rattle.records.specs.Records.{part_ok}
use Rattle.records.proofs.part_ok.Goals as goal

pub returns-then-writes : goal.returns-then-writes
unfolding part_ok pick
returns-then-writes c = rw (sym c.reads.ensures, c.if-reads.true, sym c.writes.ensures, c.if-writes.true)

pub returns-then-reads : goal.returns-then-reads
unfolding part_ok pick
returns-then-reads c = rw (sym c.reads.ensures, c.if-reads.true, sym c.writes.ensures, c.if-writes.false) c.place_ok.ensures

pub returns-then-writes-2 : goal.returns-then-writes-2
unfolding part_ok pick
returns-then-writes-2 c = rw (sym c.reads.ensures, c.if-reads.false, sym c.writes-2.ensures, c.if-writes-2.true) c.place_ok-then-writes-2.ensures

pub returns : goal.returns
unfolding part_ok pick
returns c = rw (sym c.reads.ensures, c.if-reads.false, sym c.writes-2.ensures, c.if-writes-2.false, sym c.local_place.ensures)
