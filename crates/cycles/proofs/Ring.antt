-- Three cores in a ring: whatever whole cycles are run one after another, one of the cores has not written 1.
-- In order: the plant by what each core has done; one cycle; orders of cycles. Not here: the file, and its run that ends otherwise (`Files`, `Shown`).
-- Assumes nothing.
use mathlib.Core.Path.{◌≡◌, refl, sym, ap, ◌∙◌}
use mathlib.Core.Logic.{◌≢◌}
use mathlib.Core.List.{List, [], ◌∷◌}
use Prim.Native.Nat.{ℕ, zero, suc, ◌+◌, ◌≤◌}
use native.Mathlib.Omega.{arith}
use lib.ListN.{replicate}
use Rattle.memory.specs.Memory.{byte}
use Rattle.protocol.specs.State.{Core, Plant, Task}
use Rattle.protocol.specs.Fresh.{fresh_core, zeros}
use Rattle.protocol.specs.Cycles.{cycle, cycles}
use Rattle.states.specs.Task.{task_of}
use Rattle.cycles.specs.Files.{ring_file, ring_trace}
use Rattle.cycles.proofs.Files.{steps-compute, ring_core}

-- ---- the plant, by what each core has done

-- nothing yet, or its one cycle: read 0 and wrote 1, or read 1 and wrote 0
pub data Written : Type 0 where
  nothing : Written
  wrote1 : Written
  wrote0 : Written

abbrev published : Written → ℕ
published nothing = 0
published wrote1 = 1
published wrote0 = 0

abbrev core_of : Written → Core
core_of nothing = fresh_core (zeros 2)
core_of wrote1 = ring_core 0 1
core_of wrote0 = ring_core 1 0

abbrev pub plant : Written → Written → Written → Plant
plant a b c = record { cores = core_of a ∷ core_of b ∷ core_of c ∷ []; shared = published a ∷ published b ∷ published c ∷ replicate 1021 0 }

abbrev ring_task : Task
ring_task = task_of ring_file ring_trace

-- ---- one cycle

-- of a core that has done x, where the core that it reads has done y
abbrev then : Written → Written → Written
then nothing nothing = wrote1
then nothing wrote1 = wrote0
then nothing wrote0 = wrote1
then wrote1 y = wrote1
then wrote0 y = wrote0

cycle0 : (a b c : Written) → cycle ring_task 0 (plant a b c) ≡ plant (then a c) b c
unfolding steps-compute
cycle0 nothing b nothing = refl
cycle0 nothing b wrote1 = refl
cycle0 nothing b wrote0 = refl
cycle0 wrote1 b c = refl
cycle0 wrote0 b c = refl

cycle1 : (a b c : Written) → cycle ring_task 1 (plant a b c) ≡ plant a (then b a) c
unfolding steps-compute
cycle1 nothing nothing c = refl
cycle1 wrote1 nothing c = refl
cycle1 wrote0 nothing c = refl
cycle1 a wrote1 c = refl
cycle1 a wrote0 c = refl

cycle2 : (a b c : Written) → cycle ring_task 2 (plant a b c) ≡ plant a b (then c b)
unfolding steps-compute
cycle2 a nothing nothing = refl
cycle2 a wrote1 nothing = refl
cycle2 a wrote0 nothing = refl
cycle2 a b wrote1 = refl
cycle2 a b wrote0 = refl

-- of a core that is not there
cycle-none : (a b c : Written) (k : ℕ) → cycle ring_task (suc (suc (suc k))) (plant a b c) ≡ plant a b c
unfolding steps-compute
cycle-none a b c k = refl

-- ---- orders of cycles: at most two cores have published 1

one_each : (x : Written) → published x ≤ 1
one_each nothing = omega arith
one_each wrote1 = omega arith
one_each wrote0 = omega arith

-- a core writes 1 only where the one that it reads has not
two-most : (x y z : Written) → published x + (published y + published z) ≤ 2 → published (then x y) + (published y + published z) ≤ 2
two-most nothing nothing z h = omega (arith, one_each z)
two-most nothing wrote1 z h = omega (arith, one_each z)
two-most nothing wrote0 z h = omega (arith, one_each z)
two-most wrote1 y z h = h
two-most wrote0 y z h = h

pub no-order : (order : List ℕ) (a b c : Written) → published a + (published b + published c) ≤ 2 → cycles ring_task order (plant a b c) ≢ plant wrote1 wrote1 wrote1
no-order [] a b c h e =
    let all : published a + (published b + published c) ≡ 3 = ap (λ (p : Plant). byte p.shared 0 + (byte p.shared 1 + byte p.shared 2)) e in
    omega arith
no-order (zero ∷ ks) a b c h e =
    no-order ks (then a c) b c (omega (arith, two-most a c b (omega arith))) (ap (cycles ring_task ks) (sym (cycle0 a b c)) ∙ e)
no-order (suc zero ∷ ks) a b c h e =
    no-order ks a (then b a) c (omega (arith, two-most b a c (omega arith))) (ap (cycles ring_task ks) (sym (cycle1 a b c)) ∙ e)
no-order (suc (suc zero) ∷ ks) a b c h e =
    no-order ks a b (then c b) (omega (arith, two-most c b a (omega arith))) (ap (cycles ring_task ks) (sym (cycle2 a b c)) ∙ e)
no-order (suc (suc (suc k)) ∷ ks) a b c h e = no-order ks a b c h (ap (cycles ring_task ks) (sym (cycle-none a b c k)) ∙ e)
