-- `rikzord::scan` meets its contract: a turn that finds a core that can move ends the scan, any other leaves the rest of it (`Turn`). Assumes nothing.
use mathlib.Core.Path.{ap, ◌∙◌}
use lib.ListN.{get_or}
use Rattle.rikzord.proofs.Scanning.{turn-found, turn-passed}
use Rattle.rikzord.proofs.scan.Goals as goal

pub returns-then-moves : goal.returns-then-moves
returns-then-moves c =
    turn-found c.args.t.now c.args.r record { i = c.loop-i.i; most = c.loop-i.invariant.0; same = c.loop-i.invariant.1 } _ _ _ c.place_after-k.ensures
    (c.get_or-c.ensures ∙ ap (get_or c.args.t.now c.place_after-k.result) c.no_record-none.ensures) c.moves.ensures c.loop-i-test.true c.if-moves.true

pub loop-i-preserved : goal.loop-i-preserved
loop-i-preserved c =
    turn-passed c.args.t.now c.args.r record { i = c.loop-i.i; most = c.loop-i.invariant.0; same = c.loop-i.invariant.1 } _ _ _ c.place_after-k.ensures
    (c.get_or-c.ensures ∙ ap (get_or c.args.t.now c.place_after-k.result) c.no_record-none.ensures) c.moves.ensures c.loop-i-test.true c.if-moves.false
