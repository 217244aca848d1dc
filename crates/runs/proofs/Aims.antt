-- Where the exchange under way stands in a fit state: the holder is a core in mode 1 or 4, within its exchange's bytes. Assumes nothing.
use mathlib.Core.Path.{◌≡◌, ap, ◌∙◌, subst}
use mathlib.Core.Logic.{◌≢◌, ◌⊎◌, inl, inr}
use mathlib.Core.List.{List}
use Prim.Native.Nat.{ℕ, suc, ◌+◌, ◌-◌, ◌≤◌, ◌<◌}
use native.Mathlib.Omega.{arith}
use lib.ListN.{length, get_or}
use Rattle.protocol.specs.declared.Registers.{Registers}
use Rattle.protocol.specs.State.{Semaphore, core, mode}
use Rattle.protocol.proofs.View.{inside}
use Rattle.exchange.specs.declared.Cursor.{Cursor}
use Rattle.exchange.specs.Exchange.{At}
use Rattle.exchange.specs.Laid.{exchange_bytes}
use Rattle.exchange.proofs.Cursors.{length-reads, length-writes}
use Rattle.records.specs.File.{cores}
use Rattle.semaphore.specs.Line.{semaphore_of}
use Rattle.states.specs.declared.Held.{Held}
use Rattle.states.specs.Set.{AcceptedSet}
use Rattle.states.specs.Machine.{no_registers, core_in, state_of}
use Rattle.states.specs.Fit.{FitCore, Fit}
use Rattle.steps.specs.Moving.{CursorAimed}
use Rattle.runner.proofs.Running.{core-in, semaphore-in}
use Rattle.runs.specs.Aiming.{AimGiven, AimedAt}

module _ (f t : List ℕ) (s : Held) (d sh : List ℕ) (ok : AcceptedSet f t) (fit : Fit f t (state_of f s d sh)) (k : ℕ) (e : s.semaphore.holder ≡ suc k) where
  holding : (mode (core (state_of f s d sh).plant k) ≡ 1) ⊎ (mode (core (state_of f s d sh).plant k) ≡ 4)
  holding = fit.held.holding k (ap (λ (m : Semaphore). m.holder) (semaphore-in f s.cores s.places s.offsets (semaphore_of s.semaphore) d sh) ∙ e)

  -- the holder is one of the file's cores
  pub known : k < cores f
  known = subst (λ (n : ℕ). k < n) fit.table (go holding)
    where
      go : (mode (core (state_of f s d sh).plant k) ≡ 1) ⊎ (mode (core (state_of f s d sh).plant k) ≡ 4) → k < length (state_of f s d sh).plant.cores
      go (inl m) = inside (state_of f s d sh).plant.cores k 1 m (omega arith)
      go (inr m) = inside (state_of f s d sh).plant.cores k 4 m (omega arith)

  here : FitCore f t k (core_in f s.cores s.places s.offsets d k)
  here = subst (FitCore f t k) (core-in f s.cores s.places s.offsets (semaphore_of s.semaphore) d sh k known) (fit.each k known)

  pub read-bytes : (get_or s.cores k no_registers).mode ≡ 1 → (get_or s.cores k no_registers).exchange ≤ exchange_bytes f (4 + k)
  read-bytes m = subst (λ (n : ℕ). (get_or s.cores k no_registers).exchange ≤ n) (length-reads f k (omega (arith, known, ok.few))) (here.reading m)

  pub write_bytes : (get_or s.cores k no_registers).mode ≡ 4 → (get_or s.cores k no_registers).exchange ≤ exchange_bytes f k
  write_bytes m = subst (λ (n : ℕ). (get_or s.cores k no_registers).exchange ≤ n) (length-writes f k (omega (arith, known, ok.few))) (here.writing m)

-- the three ways: no holder, a reading, a writing
pub aim-free : (f : List ℕ) (s : Held) (r : Cursor) → s.semaphore.holder ≡ 0 → AimedAt f s r
aim-free f s r z k l e = absurd (omega arith)

aim_at : (f : List ℕ) (s : Held) (r : Cursor) (j : ℕ) → s.semaphore.holder ≡ suc j → CursorAimed f j (get_or s.cores j no_registers) r → AimedAt f s r
aim_at f s r j z a k l e = let q : k ≡ j = omega arith in rw q a

-- the holder's core has the number one below
module _ {f t : List ℕ} {first end : ℕ} {s : Held} {d sh : List ℕ} (g : AimGiven f t first end s d sh) (n : s.semaphore.holder ≢ 0) where
  abbrev k : ℕ
  k = s.semaphore.holder - 1

  abbrev r : Registers
  r = get_or s.cores k no_registers

  named : s.semaphore.holder ≡ suc k
  named = omega arith

  pub in_table : k < 4
  in_table = omega (arith, known f t s d sh g.accepted g.fit k named, g.accepted.few)

  pub within-reads : r.mode ≡ 1 → r.exchange ≤ exchange_bytes f (4 + k)
  within-reads = read-bytes f t s d sh g.accepted g.fit k named

  pub within-writes : r.mode ≡ 4 → r.exchange ≤ exchange_bytes f k
  within-writes = write_bytes f t s d sh g.accepted g.fit k named

  pub aim-reading : {c : Cursor} → r.mode ≡ 1 → At f (4 + k) r.exchange c → AimedAt f s c
  aim-reading {c} m a = aim_at f s c k named record { reading = λ w. a; writing = λ w. absurd (omega arith) }

  pub aim-writing : {c : Cursor} → r.mode ≡ 4 → At f k r.exchange c → AimedAt f s c
  aim-writing {c} m a = aim_at f s c k named record { reading = λ w. absurd (omega arith); writing = λ w. a }

  pub aim-neither : {c : Cursor} → r.mode ≢ 1 → r.mode ≢ 4 → AimedAt f s c
  aim-neither {c} a b = aim_at f s c k named record { reading = λ m. absurd (a m); writing = λ m. absurd (b m) }
