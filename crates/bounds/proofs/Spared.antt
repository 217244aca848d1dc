-- From the fresh state on, whatever the steps: a limit at or above the greatest count is never hit, and a depth of at most 16 never raises bit 5.
-- In order: flag bytes; one core; every step of every core. Not here: the file and the calls (proofs/Promised). Assumes nothing.
use mathlib.Core.Path.{◌≡◌, refl, sym, ◌∙◌, subst}
use mathlib.Core.Logic.{◌≢◌, ◌⊎◌, inl, inr, ⊎_elim}
use mathlib.Core.Bool.{Bool, true, false}
use mathlib.Core.List.{List, [], ◌∷◌, map}
use Prim.Native.Nat.{ℕ, zero, suc, ◌+◌, ◌-◌, ◌/◌, ◌%◌, ◌^◌, ◌≤◌, ◌<◌}
use native.Mathlib.Omega.{arith}
use borrow.Author.Tests.{eqb-true, eqb-false}
use lib.Dec.{T, eqb, eqb→eq}
use lib.ListN.{length, get_or, set, length-set}
use lib.Seq.{get_or-set_same, get_or-set_other}
use Rattle.verdict.specs.Verdict.{both, either}
use Rattle.verdict.proofs.Verdict.{below, by-pick}
use Rattle.verdict.proofs.Truth.{both_of}
use Rattle.protocol.specs.declared.Outcome.{Outcome}
use Rattle.protocol.specs.declared.Outcome.TheVariants.{Fault, Next, Call, Return as Returned}
use Rattle.protocol.specs.Registers.{with_flag, warm, read_acquired, byte_copied, read_released, write_acquired, write_released, advanced, called, returned, cycle_ended, faulted, pushed, popped}
use Rattle.protocol.specs.State.{Core, State, Task, core, mode, absent}
use Rattle.protocol.specs.Step.{run, step, Taking, read_taken, read_next, read_done, write_taken, write_next, write_done}
use Rattle.protocol.specs.Instruction.{Executed, back_from, applied_by, applied, limited, instruction_by}
use Rattle.protocol.specs.Fresh.{fresh, fresh_core}
use Rattle.protocol.proofs.View.{Moves, rests, waits, takes_read, reads_on, reads_last, runs, takes_write, writes_on, writes_last, view, at}
use Rattle.code.specs.Commands.{Returns}
use Rattle.code.specs.Flow.{kind_at}
use Rattle.processor.specs.Processor.{executed}
use Rattle.bounds.specs.Paths.{returns}
use Rattle.bounds.specs.Bounds.{longest, deepest}
use Rattle.bounds.proofs.Rising.{Rising}
use Rattle.bounds.proofs.Greatest.{Trail, begun, on-trail, trail-count, trail-call}
use Rattle.bounds.proofs.Control.{places_in, places-set, places-length, Fits, fits}

-- ---- flag bytes

abbrev flag_bit : ℕ → ℕ → ℕ
flag_bit b f = f / 2 ^ b % 2

-- before a fault the flag byte is 0, or 4 in the first cycle
abbrev Calm : ℕ → Type 0
Calm f = (f ≡ 0) ⊎ (f ≡ 4)

calm-bits : (f : ℕ) → Calm f → (flag_bit 1 f ≡ 0) × (flag_bit 5 f ≡ 0)
calm-bits f h = ⊎_elim (λ e. rw e (refl, refl)) (λ e. rw e (refl, refl)) h

calm-warm : (f : ℕ) → Calm f → Calm (warm f)
unfolding warm
calm-warm f h = ⊎_elim (λ e. rw e (inl refl)) (λ e. rw e (inl refl)) h

-- a fault of bit b leaves bit n alone: one computed test
safe : ℕ → ℕ → Bool
safe n b = either (eqb b n) (both (eqb (flag_bit n (with_flag b 0)) 0) (eqb (flag_bit n (with_flag b 4)) 0))

open-safe : (n b : ℕ) → b ≢ n → T (safe n b) → (flag_bit n (with_flag b 0) ≡ 0) × (flag_bit n (with_flag b 4) ≡ 0)
unfolding safe
open-safe n b h t = go (eqb b n) refl t
  where
    go : (x : Bool) → eqb b n ≡ x → T (either x (both (eqb (flag_bit n (with_flag b 0)) 0) (eqb (flag_bit n (with_flag b 4)) 0)))
        → (flag_bit n (with_flag b 0) ≡ 0) × (flag_bit n (with_flag b 4) ≡ 0)
    go true e u = absurd (h (eqb-true b n e))
    go false e u =
        let w = both_of (eqb (flag_bit n (with_flag b 0)) 0) _ u in
        (eqb→eq (flag_bit n (with_flag b 0)) 0 w.0, eqb→eq (flag_bit n (with_flag b 4)) 0 w.1)

fault-bit : (n b f : ℕ) → b ≢ n → T (safe n b) → Calm f → flag_bit n (with_flag b f) ≡ 0
fault-bit n b f h t c = let w = open-safe n b h t in ⊎_elim (λ e. rw e w.0) (λ e. rw e w.1) c

safe-one : (b : ℕ) → b < 8 → T (safe 1 b)
unfolding safe with_flag
safe-one b h = below (safe 1) 8 tt b h

safe-five : (b : ℕ) → b < 8 → T (safe 5 b)
unfolding safe with_flag
safe-five b h = below (safe 5) 8 tt b h

-- ---- one core, with code c and this limit

abbrev Stacked : Core → Type 0
Stacked x = (length x.stack.places ≡ 16) × (x.registers.depth ≤ 16)

abbrev opened : Core → List ℕ
opened x = places_in x.registers.depth x.stack.places

record Kept (c : List ℕ) (limit : ℕ) (x : Core) : Type 0 where
  running : mode x ≡ 2 → Trail c x.registers.count x.registers.counter (opened x)
  calm : mode x < 5 → Calm x.registers.flags
  stacked : mode x < 5 → Stacked x
  unhit : longest c ≤ limit → flag_bit 1 x.registers.flags ≡ 0
  unnested : deepest c ≤ 16 → flag_bit 5 x.registers.flags ≡ 0

module _ (c : List ℕ) (limit : ℕ) (g : Rising c) where
  resting : (x : Core) → mode x ≢ 2 → Calm x.registers.flags → (mode x < 5 → Stacked x) → Kept c limit x
  resting x n h w =
      record {
        running = λ e. absurd (n e);
        calm = λ _. h;
        stacked = w;
        unhit = λ _. (calm-bits x.registers.flags h).0;
        unnested = λ _. (calm-bits x.registers.flags h).1;
      }

  starts : (d : List ℕ) (x : Core) → Calm x.registers.flags → Stacked x → Kept c limit (read_done d x)
  unfolding read_done read_released
  starts d x h w =
      record {
        running = λ _. begun;
        calm = λ _. h;
        stacked = λ _. (w.0, omega arith);
        unhit = λ _. (calm-bits x.registers.flags h).0;
        unnested = λ _. (calm-bits x.registers.flags h).1;
      }

  stopped : (b : ℕ) (m : List ℕ) (x : Core) → Kept c limit x → mode x ≡ 2 → b < 8 → (b ≡ 1 → longest c ≤ limit → ⊥) → (b ≡ 5 → deepest c ≤ 16 → ⊥)
      → Kept c limit (applied_by (Fault b) m x)
  unfolding faulted
  stopped b m x w e h u v =
      let a : Calm x.registers.flags = w.calm (omega arith) in
      record {
        running = λ y. absurd (let z : ⊥ = omega arith in z);
        calm = λ y. absurd (let z : ⊥ = omega arith in z);
        stacked = λ y. absurd (let z : ⊥ = omega arith in z);
        unhit = λ l. fault-bit 1 b x.registers.flags (λ z. u z l) (safe-one b h) a;
        unnested = λ l. fault-bit 5 b x.registers.flags (λ z. v z l) (safe-five b h) a;
      }

  back : (n : ℕ) (m : List ℕ) (x : Core) → x.registers.depth ≡ n → Kept c limit x → mode x ≡ 2 → kind_at c x.registers.counter ≡ Returns → Kept c limit (back_from n m x)
  unfolding cycle_ended returned popped
  back zero m x q w e k =
      record {
        running = λ y. absurd (let z : ⊥ = omega arith in z);
        calm = λ _. w.calm (omega arith);
        stacked = λ _. w.stacked (omega arith);
        unhit = w.unhit;
        unnested = w.unnested;
      }
  back (suc n) m x q w e k =
      let s = w.stacked (omega arith) in
      let o : opened x ≡ get_or x.stack.places n 0 ∷ places_in n x.stack.places = rw q in
      let t : Trail c x.registers.count x.registers.counter (get_or x.stack.places n 0 ∷ places_in n x.stack.places) = rw o at (w.running e) in
      let i : x.registers.depth - 1 ≡ n = omega arith in
      record {
        running = λ _. rw (i, places-set n n 0 x.stack.places (omega arith)) (on-trail t (returns k));
        calm = λ _. w.calm (omega arith);
        stacked = λ _. (length-set x.stack.places n 0 ∙ s.0, omega (arith, s.1));
        unhit = w.unhit;
        unnested = w.unnested;
      }

  outcome : (y : Outcome) (m : List ℕ) (x : Core) → Kept c limit x → mode x ≡ 2 → Fits c x.registers.counter x.registers.depth y → Kept c limit (applied_by y m x)
  unfolding advanced called pushed
  outcome (Fault b) m x w e f =
      stopped b m x w e f.0 (λ z. absurd (f.1 z))
      (λ z l.
      let a = f.2 z in
      let y = trail-call c g (w.running e) a.0 in
      let n = places-length x.registers.depth x.stack.places in
      let i : x.registers.depth ≡ 16 = a.1 in
      let o : ⊥ = omega arith in
      o)
  outcome (Next p) m x w e f =
      record {
        running = λ _. on-trail (w.running e) (f (opened x));
        calm = λ _. w.calm (omega arith);
        stacked = λ _. w.stacked (omega arith);
        unhit = w.unhit;
        unnested = w.unnested;
      }
  outcome (Call next q offset) m x w e f =
      let s = w.stacked (omega arith) in
      let n = f.0 in
      let l : x.registers.depth < length x.stack.places = omega (arith, s.0, s.1) in
      let a : x.registers.depth + 1 ≡ suc x.registers.depth = omega arith in
      record {
        running = λ _.
            rw (
              a,
              get_or-set_same x.stack.places x.registers.depth next 0 l,
              places-set x.registers.depth x.registers.depth next x.stack.places (omega arith),
            )
            (on-trail (w.running e) (f.1 (opened x)));
        calm = λ _. w.calm (omega arith);
        stacked = λ _. (length-set x.stack.places x.registers.depth next ∙ s.0, omega (arith, s.1));
        unhit = w.unhit;
        unnested = w.unnested;
      }
  outcome Returned m x w e f = back x.registers.depth m x refl w e f

  -- the limit is tried first
  instructed : (x : Core) → Kept c limit x → mode x ≡ 2 → Kept c limit (applied (limited limit (executed c x.registers x.memory) x) x)
  unfolding applied limited
  instructed x w e =
      by-pick (λ (y : Executed). Kept c limit (applied_by y.outcome y.memory x)) (eqb x.registers.count limit) _ _
      (λ z.
      stopped 1 x.memory x w e (omega arith)
      (λ _ h.
      let n = trail-count c g (w.running e) in
      let a : x.registers.count ≡ limit = eqb-true _ _ z in
      let y : ⊥ = omega arith in
      y)
      (λ q. absurd (let y : ⊥ = omega arith in y)))
      (λ z. outcome (executed c x.registers x.memory).outcome _ x w e (fits c x.registers x.memory))

-- ---- every step of every core

-- core k of a list in which core j is replaced
replaced : (P : Core → Type 0) (l : List Core) (j k : ℕ) (y : Core) → j < length l → P (get_or l k absent) → (j ≡ k → P y) → P (get_or (set l j y) k absent)
replaced P l j k y h p f = go (eqb j k) refl
  where
    go : (b : Bool) → eqb j k ≡ b → P (get_or (set l j y) k absent)
    go true e =
        let z : j ≡ k = eqb-true j k e in
        subst (λ (i : ℕ). P (get_or (set l j y) i absent)) z (rw (get_or-set_same l j y absent h) (f z))
    go false e = rw (get_or-set_other l j k y absent (λ z. eqb-false j k e (sym z))) p

module _ (t : Task) (code : ℕ → List ℕ) (limit : ℕ → ℕ) (e : t.instruction ≡ instruction_by limit (λ i c. executed (code i) c.registers c.memory)) (k : ℕ)
    (g : Rising (code k)) where
  abbrev Holds : Core → Type 0
  Holds x = Kept (code k) (limit k) x

  -- the core that moves, if it is core k
  same : (j : ℕ) (s : State) → Holds (at s k) → j ≡ k → Holds (at s j)
  same j s h z = subst (λ (i : ℕ). Holds (at s i)) (sym z) h

  rest : (x : Core) → mode x ≢ 2 → Calm x.registers.flags → (mode x < 5 → Stacked x) → Holds x
  rest = resting (code k) (limit k) g

  kept_step : (j : ℕ) (s s' : State) (ts : List Taking) → Holds (at s k) → Moves t j s s' ts → Holds (at s' k)
  unfolding read_taken read_acquired read_next byte_copied write_taken write_acquired write_next write_done write_released instruction_by
  kept_step j s s' ts h (rests i) = h
  kept_step j s s' ts h (waits i w g) = h
  kept_step j s s' ts h (takes_read r rs i f a m d) =
      replaced Holds s.plant.cores j k _ i h (λ z. rest _ (omega arith) ((same j s h z).calm (omega arith)) (λ _. (same j s h z).stacked (omega arith)))
  kept_step j s s' ts h (reads_on b bs i m d) =
      replaced Holds s.plant.cores j k _ i h (λ z. rest _ (omega arith) ((same j s h z).calm (omega arith)) (λ _. (same j s h z).stacked (omega arith)))
  kept_step j s s' ts h (reads_last i m d) =
      replaced Holds s.plant.cores j k _ i h (λ z. starts (code k) (limit k) g _ _ ((same j s h z).calm (omega arith)) ((same j s h z).stacked (omega arith)))
  kept_step j s s' ts h (runs i m) =
      replaced Holds s.plant.cores j k _ i h
      (λ z.
      let n : mode (at s k) ≡ 2 = subst (λ (i : ℕ). mode (at s i) ≡ 2) z m in
      subst (λ (i : ℕ). Holds (t.instruction i (at s i))) (sym z) (rw e (instructed (code k) (limit k) g (at s k) h n)))
  kept_step j s s' ts h (takes_write i f a m) =
      replaced Holds s.plant.cores j k _ i h (λ z. rest _ (omega arith) ((same j s h z).calm (omega arith)) (λ _. (same j s h z).stacked (omega arith)))
  kept_step j s s' ts h (writes_on b bs i m d) =
      replaced Holds s.plant.cores j k _ i h (λ z. rest _ (omega arith) ((same j s h z).calm (omega arith)) (λ _. (same j s h z).stacked (omega arith)))
  kept_step j s s' ts h (writes_last i m d) =
      replaced Holds s.plant.cores j k _ i h
      (λ z. rest _ (omega arith) (calm-warm (at s j).registers.flags ((same j s h z).calm (omega arith))) (λ _. (same j s h z).stacked (omega arith)))

  kept_run : (ks : List ℕ) (s : State) → Holds (at s k) → Holds (at (run t ks s) k)
  kept_run [] s h = h
  kept_run (j ∷ ks) s h = kept_run ks (step t j s) (kept_step j s (step t j s) _ h (view t j s))

  kept_fresh : (memories : List (List ℕ)) (i : ℕ) → Holds (get_or (map fresh_core memories) i absent)
  kept_fresh [] i = rest _ (omega arith) (inl refl) (λ y. absurd (let z : ⊥ = omega arith in z))
  kept_fresh (m ∷ ms) zero = rest _ (omega arith) (inr refl) (λ _. (refl, omega arith))
  kept_fresh (m ∷ ms) (suc i) = kept_fresh ms i

  -- after any steps from the fresh state, whatever its memories hold
  pub spared : (memories : List (List ℕ)) (shared ks : List ℕ)
      → (longest (code k) ≤ limit k → flag_bit 1 (core (run t ks (fresh memories shared)).plant k).registers.flags ≡ 0)
      × (deepest (code k) ≤ 16 → flag_bit 5 (core (run t ks (fresh memories shared)).plant k).registers.flags ≡ 0)
  spared memories shared ks = let w = kept_run ks (fresh memories shared) (kept_fresh memories k) in (w.unhit, w.unnested)
