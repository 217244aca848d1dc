-- The lines of the core table one after another: the first of those that are left, and the end. Assumes nothing.
use mathlib.Core.Path.{◌≡◌, ap}
use mathlib.Core.List.{List, [], ◌++◌}
use Prim.Native.Nat.{ℕ, ◌+◌, ◌≤◌, ◌<◌, min}
use lib.ListN.{length, take, drop, get_or}
use Rattle.protocol.specs.declared.Registers.{Registers}
use Rattle.listing.specs.Listing.{core_line, core_lines}
use Rattle.listing.proofs.Writing.{next_of, none_of}

pub first-line : (cores : List Registers) (n k : ℕ) (z : Registers) → k < min n (length cores)
    → core_lines k (drop k (take n cores)) ≡ core_line k (get_or cores k z) ++ core_lines (k + 1) (drop (k + 1) (take n cores))
unfolding core_lines
first-line cores n k z h = ap (core_lines k) (next_of cores n k z h)

pub last_line : (cores : List Registers) (n k : ℕ) → min n (length cores) ≤ k → core_lines k (drop k (take n cores)) ≡ []
unfolding core_lines
last_line cores n k h = ap (core_lines k) (none_of cores n k h)
