-- Zeroed memory; and the fresh state is not refused, on any sound trace. Assumes nothing.
use mathlib.Core.Path.{◌≡◌, refl, sym, ap, ◌∙◌, subst}
use mathlib.Core.Bool.{true}
use mathlib.Core.List.{List, ◌∷◌}
use Prim.Native.Nat.{ℕ, zero, suc, ◌≤◌}
use native.Mathlib.Omega.{arith}
use borrow.Author.Tests.{eq-eqb}
use lib.ListN.{length, take, replicate, length-replicate}
use Rattle.memory.specs.Memory.{total}
use Rattle.records.specs.File.{cores}
use Rattle.taskset.specs.Task.{sizes_of}
use Rattle.taskset.specs.Starts.{start_shared, start_buffer}
use Rattle.taskset.proofs.Accepted.{length-buffer, length-shared}
use Rattle.states.specs.Set.{AcceptedSet}
use Rattle.states.specs.Fit.{state_refusal, Fit}
use Rattle.states.proofs.Fresh.{fresh-fit}
use Rattle.states.proofs.Exactly.{not-refused}
use Rattle.machine.specs.Calls.{lent_fits, table_of}
use Rattle.calls.proofs.Calling.{fresh-state}

-- ---- zeros

abbrev pub zeros : ℕ → List ℕ
zeros n = replicate n 0

first-zeros : (n m : ℕ) → n ≤ m → take n (zeros m) ≡ zeros n
first-zeros zero m h = refl
first-zeros (suc n) zero h = absurd (let y : ⊥ = omega arith in y)
first-zeros (suc n) (suc m) h = ap (λ (l : List ℕ). 0 ∷ l) (first-zeros n m (omega arith))

-- as many as are lent of an array
pub prefix : (n m : ℕ) → n ≤ m → n ≡ length (take n (zeros m))
prefix n m h = sym (ap length (first-zeros n m h) ∙ length-replicate n 0)

-- memory of the right sizes
pub zeros-fit : (f : List ℕ) (n : ℕ) → n ≡ total (sizes_of f) → n ≤ 16384 → lent_fits f (length (take n (zeros 16384))) 1024 ≡ true
unfolding lent_fits
zeros-fit f n e h = rw (eq-eqb (length (take n (zeros 16384))) (total (sizes_of f)) (sym (prefix n 16384 h) ∙ e)) refl

-- ---- its refusal

pub fresh-not-refused : (f t : List ℕ) → AcceptedSet f t → state_refusal f t (table_of (cores f) 4) ≡ 0
unfolding table_of
fresh-not-refused f t ok =
    not-refused f t ok (table_of (cores f) 4) (start_buffer f) (start_shared f)
    record { memory = length-buffer f; shared = length-shared f; places = refl; offsets = refl }
    ((refl, omega arith), subst (Fit f t) (sym (fresh-state f ok.few)) (fresh-fit f t ok))
