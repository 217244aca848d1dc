-- What a step of an exchange makes of the parts of a run, by its answer, all together. Assumes nothing.
use mathlib.Core.Path.{◌≡◌, refl, sym, ◌∙◌}
use mathlib.Core.Logic.{inl, inr}
use mathlib.Core.Bool.{Bool, false}
use mathlib.Core.List.{List, map}
use Prim.Native.Nat.{ℕ, ◌+◌, ◌<◌, ◌≤◌}
use native.Mathlib.Omega.{arith}
use lib.ListN.{length, get_or, set}
use Rattle.memory.specs.Memory.{splice}
use Rattle.protocol.specs.declared.Registers.{Registers}
use Rattle.protocol.specs.State.{Semaphore, State}
use Rattle.protocol.specs.Step.{turn, encoded}
use Rattle.semaphore.specs.declared.Line.{Line}
use Rattle.semaphore.specs.Line.{semaphore_of, waits_at, line_of, Lined}
use Rattle.semaphore.proofs.Laws.{Becomes, becomes-acquired, becomes-released, becomes-joined}
use Rattle.exchange.specs.declared.Cursor.{Cursor}
use Rattle.records.specs.File.{cores}
use Rattle.states.specs.Set.{AcceptedSet}
use Rattle.states.specs.Machine.{no_registers, core_in, stack_in}
use Rattle.steps.specs.declared.Exchange.{Exchange}
use Rattle.steps.specs.declared.Exchange.TheVariants.{Rests, Joins, ReadBegun, ReadOn, ReadEnded, WriteBegun, WriteOn, WriteEnded}
use Rattle.steps.specs.Effects.{exchanged, registers_by, stack_by, semaphore_by, taken_by, More, Steps}
use Rattle.steps.specs.After.{RegistersAfter, LineTakes, CursorAfter}
use Rattle.runner.specs.Running.{RunningAt}
use Rattle.runner.proofs.Loop.{After, kept_line, holds, stays, frees, after_read, after_write, after-byte-read, after-byte-written, joining, arm}

module _ {f t : List ℕ} {order list₀ : List ℕ} {s₀ : State} {cs₀ : List Registers} {places₀ offsets₀ : List ℕ}
    {i : ℕ} {cs : List Registers} {places offsets : List ℕ} {x : Line} {taken : ℕ} {d sh list : List ℕ} {cursor : Cursor}
    (w : RunningAt f t order list₀ s₀ cs₀ places₀ offsets₀ i cs places offsets (semaphore_of x.semaphore) taken d sh list cursor) (l : Lined x)
    (g : AcceptedSet f t) {k : ℕ} (ik : k < cores f) where
  abbrev h : Semaphore
  h = semaphore_of x.semaphore

  abbrev r : Registers
  r = get_or cs k no_registers

  -- the line can take what a core that does not wait answers
  pub line-ready : (z : Exchange) (turns : Bool) → turns ≡ turn h k → waits_at h k ≡ false → More f k r turns z → LineTakes h k z
  line-ready Rests turns e u m = tt
  line-ready Joins turns e u m = joining w g ik u (sym e ∙ m)
  line-ready (ReadBegun time) turns e u m = sym e ∙ m
  line-ready (ReadOn next) turns e u m = tt
  line-ready ReadEnded turns e u m = tt
  line-ready WriteBegun turns e u m = sym e ∙ m
  line-ready (WriteOn next) turns e u m = tt
  line-ready WriteEnded turns e u m = tt

  line-becomes : (z : Exchange) {x' : Line} → LineTakes h k z → x' ≡ line_of (semaphore_by (exchanged z) k h) → Becomes x' (semaphore_by (exchanged z) k h)
  line-becomes Rests u e = kept_line l (e ∙ sym l)
  line-becomes Joins u e = becomes-joined l k u.0 u.1 e
  line-becomes (ReadBegun time) u e = becomes-acquired l k e
  line-becomes (ReadOn next) u e = kept_line l (e ∙ sym l)
  line-becomes ReadEnded u e = becomes-released l k e
  line-becomes WriteBegun u e = becomes-acquired l k e
  line-becomes (WriteOn next) u e = kept_line l (e ∙ sym l)
  line-becomes WriteEnded u e = becomes-released l k e

  cursor-aimed : (z : Exchange) (turns : Bool) {r' : Registers} {cursor' : Cursor} → More f k r turns z → r' ≡ registers_by (exchanged z) (core_in f cs places offsets d k) → CursorAfter f k cursor z cursor'
      → After f k h.holder r r' cursor cursor' (semaphore_by (exchanged z) k h).holder
  cursor-aimed Rests turns m e a = stays (λ b. rw (e, a) b) a
  cursor-aimed Joins turns m e a = stays (λ b. rw (e, a) b) a
  cursor-aimed (ReadBegun time) turns m e a = after_read time e a refl
  cursor-aimed (ReadOn next) turns m e a = after-byte-read (holds w ik (inl m.0)) m.0 e m.1 a
  cursor-aimed ReadEnded turns m e a = frees
  cursor-aimed WriteBegun turns m e a = after_write e a refl
  cursor-aimed (WriteOn next) turns m e a = after-byte-written (holds w ik (inr m.0)) m.0 e m.1 a
  cursor-aimed WriteEnded turns m e a = frees

  stack-kept : (z : Exchange) → stack_in places offsets k ≡ stack_by (exchanged z) (core_in f cs places offsets d k)
  stack-kept Rests = refl
  stack-kept Joins = refl
  stack-kept (ReadBegun time) = refl
  stack-kept (ReadOn next) = refl
  stack-kept ReadEnded = refl
  stack-kept WriteBegun = refl
  stack-kept (WriteOn next) = refl
  stack-kept WriteEnded = refl

  one-taking : (z : Exchange) → length (taken_by (exchanged z) k) ≤ 1
  one-taking Rests = omega arith
  one-taking Joins = omega arith
  one-taking (ReadBegun time) = omega arith
  one-taking (ReadOn next) = omega arith
  one-taking ReadEnded = omega arith
  one-taking WriteBegun = omega arith
  one-taking (WriteOn next) = omega arith
  one-taking WriteEnded = omega arith

  pub exchange-arm : i < length order → k ≡ get_or order i 0 → (z : Exchange) {d' sh' : List ℕ} → Steps f t k r d sh h (exchanged z) d' sh' → length d' ≡ length d → (turns : Bool) → More f k r turns z → LineTakes h k z
      → {r' : Registers} {cs' : List Registers} → RegistersAfter z r r' → cs' ≡ set cs k r'
      → {x' : Line} → x' ≡ line_of (semaphore_by (exchanged z) k h) → {cursor' : Cursor} → CursorAfter f k cursor z cursor'
      → {taken' : ℕ} {list' : List ℕ} → (taken' ≡ taken + length (taken_by (exchanged z) k)) × (list' ≡ splice list taken (map encoded (taken_by (exchanged z) k)))
      → RunningAt f t order list₀ s₀ cs₀ places₀ offsets₀ (i + 1) cs' places offsets (semaphore_of x'.semaphore) taken' d' sh' list' cursor' × Lined x'
  exchange-arm b e z y dl turns m u re ce xe ae ne =
      let registers = re (core_in f cs places offsets d k) refl in
      let line = line-becomes z u xe in
      (arm w g b e ik y dl (exchanged z) refl ce registers (stack-kept z) (λ j n. refl) w.running.entries line.is (cursor-aimed z turns m registers ae) ne.1 ne.0 (one-taking z), line.lined)
