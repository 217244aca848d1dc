-- The marked bench values of document 01 hold of the definitions: one table (specs/Marked), one theorem, by computation but for the steps
-- against a held semaphore, which are of every state.
-- Assumes nothing.
use Prim.Native.Nat.{ℕ, zero, suc, ◌<◌}
use native.Mathlib.Omega.{arith}
use mathlib.Core.Bool.{true}
use mathlib.Core.List.{List, [], ◌∷◌, ◌++◌, map}
use mathlib.Core.Path.{◌≡◌, refl, ◌∙◌}
use lib.Dec.{eqb}
use lib.Ieee as Ieee
use borrow.Author.Tests.{eq-eqb}
use Rattle.verdict.specs.Verdict.{pick}
use Rattle.verdict.proofs.Verdict.{by-pick}
use Rattle.memory.specs.Memory.{part, value_le, read_le}
use Rattle.values.specs.Types.{width_of}
use Rattle.values.specs.Width.{pattern, signed, wrap, signed_remainder, turned, shift_left, rotate_left}
use Rattle.values.specs.Values.{typed, pattern_of, stored, read_value}
use Rattle.values.specs.Commands.{on_kinds, on_bits, ADD, MUL, DIV, MOD, AND, OR, NOT, SHL, ROL, result, result_type, command}
use Rattle.protocol.specs.State.{State, Task, core, mode}
use Rattle.protocol.specs.Step.{in_line, turn_in, wait, take_write, step}
use Rattle.marked.specs.Marked.{result_of, defined_outcome, document_outcome, RS, SR, WaitsToWrite, cases}

-- ---- mode 3 against a held semaphore

-- whoever has joined stands in line
stands : (k : ℕ) (xs : List ℕ) → in_line k (xs ++ (k ∷ [])) ≡ true
unfolding pick
stands k [] = rw (eq-eqb k k refl)
stands k (x ∷ xs) = by-pick (λ b. b ≡ true) (eqb x k) true (in_line k (xs ++ (k ∷ []))) (λ e. refl) (λ e. stands k xs)

-- a step in mode 3 while the semaphore is held waits
held-waits : (t : Task) (k : ℕ) (s : State) → mode (core s.plant k) ≡ 3 → 0 < s.semaphore.holder → step t k s ≡ wait k s
unfolding step pick
held-waits t k s e h = rw e (go s.semaphore.holder h)
  where
    go : (h : ℕ) → 0 < h → take_write (turn_in h s.semaphore.line k) k (core s.plant k) s ≡ wait k s
    go zero l = absurd (omega arith)
    go (suc h) l = refl

-- the first such step
held-joins : (t : Task) (k : ℕ) (s : State) → WaitsToWrite k s → step t k s ≡ record { plant = s.plant; semaphore = record { holder = s.semaphore.holder; line = s.semaphore.line ++ (k ∷ []) } }
unfolding pick
held-joins t k s w = held-waits t k s w.mode-3 w.held ∙ rw w.out

-- a second
held_stays : (t : Task) (k : ℕ) (s : State) → WaitsToWrite k s → step t k (step t k s) ≡ step t k s
unfolding pick
held_stays t k s w = rw (held-joins t k s w, held-waits t k (record { plant = s.plant; semaphore = record { holder = s.semaphore.holder; line = s.semaphore.line ++ (k ∷ []) } }) w.mode-3 w.held, stands k s.semaphore.line)

pub marked : (t : Task) (k : ℕ) (s : State) → WaitsToWrite k s → map defined_outcome (cases t k s) ≡ map document_outcome (cases t k s)
unfolding result_of defined_outcome document_outcome RS SR cases command result result_type typed pattern_of stored read_value width_of pick part value_le read_le pattern signed wrap turned shift_left rotate_left on_kinds on_bits signed_remainder ADD MUL DIV MOD AND OR NOT SHL ROL Ieee.add Ieee.of_bits Ieee.to_bits
marked t k s w = rw (held_stays t k s w, held-joins t k s w)
