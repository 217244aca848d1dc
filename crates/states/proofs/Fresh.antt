-- The fresh state of an accepted file is fit on every sound trace. Assumes nothing.
use mathlib.Core.Path.{◌≡◌, refl, sym, subst}
use mathlib.Core.Logic.{◌⊎◌, inl, inr}
use mathlib.Core.List.{List, [], ◌∷◌, map}
use Prim.Native.Nat.{ℕ, zero, suc, ◌<◌}
use native.Mathlib.Nat.{le_of_suc-le-suc, not-suc-le-zero}
use native.Mathlib.Omega.{arith}
use lib.ListN.{length, get_or}
use Rattle.protocol.specs.Fresh.{fresh_core}
use Rattle.code.proofs.Sound.{inside-code}
use Rattle.processor.proofs.Kept.{fresh-placed}
use Rattle.records.specs.File.{cores, data_size}
use Rattle.taskset.specs.Judge.{code_of}
use Rattle.taskset.specs.Starts.{start_data}
use Rattle.taskset.specs.Fresh.{fresh_of}
use Rattle.taskset.proofs.Accepted.{fresh-of, fresh-cores, fresh-core, length-start, length-shared}
use Rattle.states.specs.Set.{AcceptedSet}
use Rattle.states.specs.Fit.{FitCore, Fit}

pub map_at : {A B : Type 0} (g : A → B) (l : List A) (k : ℕ) (d : A) (e : B) → k < length l → get_or (map g l) k e ≡ g (get_or l k d)
map_at g [] k d e h = absurd (not-suc-le-zero h)
map_at g (x ∷ l) zero d e h = refl
map_at g (x ∷ l) (suc k) d e h = map_at g l k d e (le_of_suc-le-suc h)

fresh-fit-core : (f t : List ℕ) → AcceptedSet f t → (k : ℕ) → k < cores f → FitCore f t k (fresh_core (start_data f k))
fresh-fit-core f t ok k h =
    record {
      modes = omega arith;
      placed = fresh-placed (code_of f k) (data_size f k) (inside-code (code_of f k) 0 (ok.start k h)) (ok.data-size k h).0;
      shallow = λ a b. refl;
      counts = omega arith;
      reading = λ a. omega arith;
      writing = λ a. omega arith;
      outside = λ a b. refl;
      cycles = omega arith;
      under-way = λ a b. absurd (let y : ⊥ = omega arith in y);
      flags = omega arith;
      size = length-start f k;
    }

-- between two cycles, or no core at all
still : {m : ℕ} → (m ≡ 0) ⊎ (m ≡ 5) → (m ≡ 1) ⊎ (m ≡ 4) → ⊥
still (inl a) (inl b) = omega arith
still (inl a) (inr b) = omega arith
still (inr a) (inl b) = omega arith
still (inr a) (inr b) = omega arith

pub fresh-fit : (f t : List ℕ) → AcceptedSet f t → Fit f t (fresh_of f)
fresh-fit f t ok = record {
  table = fresh-cores f;
  each = λ k h. subst (FitCore f t k) (sym (fresh-core f k h)) (fresh-fit-core f t ok k h);
  held = record {
    held = λ k h. absurd (still ((fresh-of f).between k) h);
    holding = λ k e. absurd (let y : ⊥ = omega arith in y);
  };
  line = record { once = tt; below = λ j h. absurd h; modes = λ j h. absurd h; records = λ j h. absurd h };
  shared = length-shared f;
}
