-- The sizes of the cores' data, added up from an accepted file's layout: cores that are not there have size 0. Assumes nothing.
use mathlib.Core.Path.{◌≡◌, refl}
use mathlib.Core.Bool.{Bool, true, false}
use mathlib.Core.List.{List}
use Prim.Native.Nat.{ℕ, zero, suc, ◌+◌, ◌≤◌}
use native.Mathlib.Omega.{arith}
use borrow.Author.Tests.{ltb-true}
use lib.Dec.{ltb}
use Rattle.verdict.specs.Verdict.{pick}
use Rattle.memory.specs.Memory.{total}
use Rattle.records.specs.File.{cores, data_size}
use Rattle.taskset.specs.Judge.{judge}
use Rattle.taskset.specs.Layout.{no_core, core_at, core_layout}
use Rattle.taskset.specs.Task.{listed, sizes_of}
use Rattle.taskset.proofs.Exact.{keeps-rules}

-- the sizes of four cores, 0 for those from n on, added up
four-sizes : (g : ℕ → ℕ) (n : ℕ) → n ≤ 4 → pick (ltb 0 n) (g 0) 0 + pick (ltb 1 n) (g 1) 0 + pick (ltb 2 n) (g 2) 0 + pick (ltb 3 n) (g 3) 0 ≡ total (listed g n 0)
unfolding pick total listed
four-sizes g zero h = refl
four-sizes g (suc zero) h = omega arith
four-sizes g (suc (suc zero)) h = omega arith
four-sizes g (suc (suc (suc zero))) h = omega arith
four-sizes g (suc (suc (suc (suc zero)))) h = omega arith
four-sizes g (suc (suc (suc (suc (suc n))))) h = absurd (omega arith)

size_of : (f : List ℕ) (k : ℕ) → (core_layout f k).size ≡ pick (ltb k (cores f)) (data_size f k) 0
unfolding core_layout pick
size_of f k = go (ltb k (cores f))
  where
    go : (b : Bool) → (pick b (core_at f k) no_core).size ≡ pick b (data_size f k) 0
    go true = refl
    go false = refl

pub sizes-added : (f : List ℕ) → cores f ≤ 4 → (core_layout f 0).size + (core_layout f 1).size + (core_layout f 2).size + (core_layout f 3).size ≡ total (sizes_of f)
unfolding sizes_of
sizes-added f h = rw (size_of f 0, size_of f 1, size_of f 2, size_of f 3) (four-sizes (data_size f) (cores f) h)

pub size_small : (f : List ℕ) → judge f ≡ 0 → (k : ℕ) → (core_layout f k).size ≤ 4096
unfolding pick
size_small f accepted k = rw (size_of f k) (go (ltb k (cores f)) refl)
  where
    go : (b : Bool) → ltb k (cores f) ≡ b → pick b (data_size f k) 0 ≤ 4096
    go true e = ((keeps-rules f accepted).core-rules k (ltb-true k (cores f) e)).most-data
    go false e = omega arith
