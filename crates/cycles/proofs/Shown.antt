-- The listing, the ring and the open ring: all that specs/Shown says of them, put together from `Files` and `Ring`. Assumes nothing.
use mathlib.Core.Path.{◌≡◌, refl, sym, ap, ◌∙◌}
use mathlib.Core.Logic.{inl, inr}
use mathlib.Core.List.{[], ◌∷◌}
use Prim.Native.Nat.{zero, suc}
use native.Mathlib.Omega.{arith}
use Rattle.protocol.specs.Laws.{Between}
use Rattle.protocol.specs.Cycles.{reads_from, line_between, Ring, cycles}
use Rattle.protocol.proofs.Tests.{low_reads, one_way, ring_of_lem}
use Rattle.taskset.specs.Task.{variables_of}
use Rattle.taskset.specs.Fresh.{fresh_of}
use Rattle.states.specs.Task.{task_of}
use Rattle.cycles.specs.Serial.{Ringless}
use Rattle.cycles.specs.Files.{ring_file, open_file, ring_trace, ring_steps}
use Rattle.cycles.specs.Shown.{after_steps, InRing, Open, Shown}
use Rattle.cycles.proofs.Serial.{serial-machine, by_tests}
use Rattle.cycles.proofs.Files.{steps-compute, listing-shown, first-cycle-shown, ring-accepted, ring-sound, ring-one-way, open-accepted, open-sound, open-one-way, open-ringless, open-between, open-one-by-one}
use Rattle.cycles.proofs.Ring.{nothing, wrote1, plant, no-order}

-- ---- the ring

ring-start : (fresh_of ring_file).plant ≡ plant nothing nothing nothing
unfolding steps-compute
ring-start = refl

-- each core has written 1
ring-end : (after_steps ring_file ring_trace ring_steps).plant ≡ plant wrote1 wrote1 wrote1
unfolding steps-compute
ring-end = refl

ring-between : Between (after_steps ring_file ring_trace ring_steps)
ring-between zero = inl (rw ring-end)
ring-between (suc zero) = inl (rw ring-end)
ring-between (suc (suc zero)) = inl (rw ring-end)
ring-between (suc (suc (suc k))) = inr (rw ring-end)

ring-closes : Ring (line_between (variables_of ring_file)) (0 ∷ 1 ∷ 2 ∷ [])
unfolding steps-compute
ring-closes = ring_of_lem (line_between (variables_of ring_file)) 0 (1 ∷ 2 ∷ []) tt

ring-shown : InRing
ring-shown = record {
  accepted = ring-accepted;
  sound = ring-sound;
  one_way = one_way (reads_from (variables_of ring_file)) (low_reads (variables_of ring_file)) ring-one-way;
  ring = ring-closes;
  modes = rw ring-end;
  between = ring-between;
  wrote = rw ring-end;
  no-order = λ order e. no-order order nothing nothing nothing (omega arith) (ap (cycles (task_of ring_file ring_trace) order) (sym ring-start) ∙ e ∙ ring-end);
}

-- ---- the open ring

lines : Ringless open_file
lines = by_tests open_file open-one-way open-ringless

open-shown : Open
open-shown = record {
  accepted = open-accepted;
  sound = open-sound;
  ringless = lines;
  between = open-between;
  serial = serial-machine open_file ring_trace open-accepted lines ring_steps open-between;
  one_by_one = open-one-by-one;
}

pub shown : Shown
shown = record { listing = listing-shown; first-cycle = first-cycle-shown; in-ring = ring-shown; opened = open-shown }
