-- Each case of a step as an effect: what the functions of a step cite. In order: idle steps; waiting; readings and writings; instructions.
-- Assumes nothing.
use mathlib.Core.Path.{◌≡◌, refl, sym, ap, ap₂, ◌∙◌, subst}
use mathlib.Core.Bool.{Bool, true, false}
use mathlib.Core.Logic.{◌⊎◌, inl, inr}
use mathlib.Core.List.{List, [], ◌∷◌}
use Prim.Native.Nat.{ℕ, zero, suc, ◌+◌, ◌-◌, ◌≤◌, ◌<◌}
use native.Mathlib.Omega.{arith}
use lib.ListN.{length, take, drop}
use lib.Seq.{get_or-set_same, set-get_or}
use Rattle.protocol.proofs.View.{stopped-step}
use Rattle.verdict.specs.Verdict.{pick}
use Rattle.verdict.proofs.Verdict.{pick_true}
use Rattle.memory.specs.Memory.{splice}
use Rattle.protocol.specs.declared.Registers.{Registers}
use Rattle.protocol.specs.Registers.{read_acquired, byte_copied, read_released, write_acquired, write_released, faulted}
use Rattle.protocol.specs.State.{Core, Semaphore, State, Task, Move, Sample, absent, core, mode, put}
use Rattle.protocol.specs.Step.{in_line, turn, joined_by, wait, copy, read_taken, read_next, read_done, write_taken, write_next, write_done, take_read, read_on, take_write, write_on, step_in, step, taken, taking_of}
use borrow.Author.Tests.{ne_eqb}
use Rattle.protocol.specs.declared.Outcome.{Outcome}
use Rattle.protocol.specs.declared.Outcome.TheVariants.{Fault as Failed, Next as Onward, Call as Calls, Return as Returns}
use Rattle.protocol.specs.Instruction.{Executed, back_from, applied_by, applied}
use Rattle.steps.specs.declared.Exchange.{Exchange}
use Rattle.steps.specs.declared.Exchange.TheVariants.{Joins, WriteBegun}
use Rattle.states.specs.Task.{task_of}
use Rattle.steps.specs.Effects.{Effect, Idle, Joined, ReadAcquired, ByteRead, ReadReleased, WriteAcquired, ByteWritten, WriteReleased, back_at, effect_of, registers_by, stack_by, semaphore_by, taken_by, effected, Takes, Does, Exchanges}

-- the hypotheses of `Does`: core k of the state
record Here (k : ℕ) (r : Registers) (d sh : List ℕ) (h : Semaphore) (s : State) : Type 0 where
  inside : k < length s.plant.cores
  registers : (core s.plant k).registers ≡ r
  memory : (core s.plant k).memory ≡ d
  shared : s.plant.shared ≡ sh
  semaphore : s.semaphore ≡ h

-- ---- a step by its mode

step_in_lem : (t : Task) (k : ℕ) (s : State) (m : ℕ) → mode (core s.plant k) ≡ m → step t k s ≡ step_in m t k (core s.plant k) s
unfolding step
step_in_lem t k s m e = ap (λ (n : ℕ). step_in n t k (core s.plant k) s) e

module _ (t : Task) (k : ℕ) (r : Registers) (d sh : List ℕ) (h : Semaphore) (s : State) (x : Here k r d sh h s) where
  mode-is : (m : ℕ) → r.mode ≡ m → mode (core s.plant k) ≡ m
  mode-is m e = ap (λ (q : Registers). q.mode) x.registers ∙ e

  turn_is : (b : Bool) → turn h k ≡ b → turn s.semaphore k ≡ b
  turn_is b e = ap (λ (m : Semaphore). turn m k) x.semaphore ∙ e

  -- mode 0, with the records that are left and whether it is the core's turn
  step-0 : r.mode ≡ 0 → (l : List Sample) → drop r.cycles (t.samples k) ≡ l → (b : Bool) → turn h k ≡ b → step t k s ≡ take_read l b k (core s.plant k) s
  unfolding pick
  step-0 m l e b u =
      step_in_lem t k s 0 (mode-is 0 m)
      ∙ ap (λ (u : List Sample). take_read u (turn s.semaphore k) k (core s.plant k) s) (ap (λ (q : Registers). drop q.cycles (t.samples k)) x.registers ∙ e)
      ∙ ap (λ (u : Bool). take_read l u k (core s.plant k) s) (turn_is b u)

  -- mode 1, with the bytes that are left
  step-1 : r.mode ≡ 1 → (l : List Move) → drop r.exchange (t.reads k) ≡ l → step t k s ≡ read_on (drop 1 l) (copy (take 1 l) sh d) k (core s.plant k) s
  unfolding pick
  step-1 m l e =
      step_in_lem t k s 1 (mode-is 1 m)
      ∙ ap (λ (u : List Move). read_on (drop 1 u) (copy (take 1 u) s.plant.shared (core s.plant k).memory) k (core s.plant k) s)
      (ap (λ (q : Registers). drop q.exchange (t.reads k)) x.registers ∙ e)
      ∙ ap₂ (λ (u v : List ℕ). read_on (drop 1 l) (copy (take 1 l) u v) k (core s.plant k) s) x.shared x.memory

  step-2 : r.mode ≡ 2 → step t k s ≡ record { plant = put s.plant k (t.instruction k (core s.plant k)); semaphore = s.semaphore }
  unfolding pick
  step-2 m = step_in_lem t k s 2 (mode-is 2 m)

  step-3 : r.mode ≡ 3 → (b : Bool) → turn h k ≡ b → step t k s ≡ take_write b k (core s.plant k) s
  unfolding pick
  step-3 m b u = step_in_lem t k s 3 (mode-is 3 m) ∙ ap (λ (u : Bool). take_write u k (core s.plant k) s) (turn_is b u)

  -- mode 4, with the bytes that are left
  step-4 : r.mode ≡ 4 → (l : List Move) → drop r.exchange (t.writes k) ≡ l → step t k s ≡ write_on (drop 1 l) (copy (take 1 l) d sh) k (core s.plant k) s
  unfolding pick
  step-4 m l e =
      step_in_lem t k s 4 (mode-is 4 m)
      ∙ ap (λ (u : List Move). write_on (drop 1 u) (copy (take 1 u) (core s.plant k).memory s.plant.shared) k (core s.plant k) s)
      (ap (λ (q : Registers). drop q.exchange (t.writes k)) x.registers ∙ e)
      ∙ ap₂ (λ (u v : List ℕ). write_on (drop 1 l) (copy (take 1 l) u v) k (core s.plant k) s) x.memory x.shared

  step-5 : (m : ℕ) → r.mode ≡ 5 + m → step t k s ≡ s
  step-5 m e = step_in_lem t k s (5 + m) (mode-is (5 + m) e) ∙ stopped-step (5 + m) t k (core s.plant k) s (omega arith)

-- core k after an effect
by-effected : (k : ℕ) (z : Effect) (d' sh' : List ℕ) (s : State) → k < length s.plant.cores → mode (core (effected z k d' sh' s).plant k) ≡ (registers_by z (core s.plant k)).mode
unfolding effected
by-effected k z d' sh' s i = rw (get_or-set_same s.plant.cores k record { registers = registers_by z (core s.plant k); stack = stack_by z (core s.plant k); memory = d' } absent i)

taking-is : (t : Task) (k : ℕ) (s : State) → taking_of t k s ≡ taken (mode (core s.plant k)) (mode (core (step t k s).plant k)) k
unfolding taking_of
taking-is t k s = refl

-- a step's taking follows from the modes before and after
does : (t : Task) (k : ℕ) (r : Registers) (d sh : List ℕ) (h : Semaphore) (z : Effect) (d' sh' : List ℕ)
    → ((s : State) → Here k r d sh h s → effected z k d' sh' s ≡ step t k s)
    → ((c : Core) → c.registers ≡ r → taken r.mode (registers_by z c).mode k ≡ taken_by z k)
    → Takes r z → Does t k r d sh h z d' sh'
does t k r d sh h z d' sh' f e y = record {
  moves = λ s i a b g u. f s record { inside = i; registers = a; memory = b; shared = g; semaphore = u };
  takes = λ s i a b g u. go s record { inside = i; registers = a; memory = b; shared = g; semaphore = u };
  ready = y;
}
  where
    mode-after : (s : State) → Here k r d sh h s → mode (core (step t k s).plant k) ≡ (registers_by z (core s.plant k)).mode
    mode-after s x = sym (ap (λ (u : State). mode (core u.plant k)) (f s x)) ∙ by-effected k z d' sh' s x.inside

    go : (s : State) → Here k r d sh h s → taking_of t k s ≡ taken_by z k
    go s x =
        taking-is t k s
        ∙ ap (λ (m : ℕ). taken (mode (core s.plant k)) m k) (mode-after s x)
        ∙ ap (λ (q : Registers). taken q.mode (registers_by z (core s.plant k)).mode k) x.registers
        ∙ e (core s.plant k) x.registers

-- ---- idle steps

idle : (t : Task) (k : ℕ) (r : Registers) (d sh : List ℕ) (h : Semaphore) → ((s : State) → Here k r d sh h s → step t k s ≡ s) → taken r.mode r.mode k ≡ [] → Does t k r d sh h Idle d sh
unfolding effected
idle t k r d sh h f e = does t k r d sh h Idle d sh (λ s x. same s x ∙ sym (f s x)) (λ c q. ap (λ (u : Registers). taken r.mode u.mode k) q ∙ e) tt
  where
    same : (s : State) → Here k r d sh h s → effected Idle k d sh s ≡ s
    same s x = rw (← x.memory, ← x.shared) (ap (λ (l : List Core). record { plant = record { cores = l; shared = s.plant.shared }; semaphore = s.semaphore }) (set-get_or s.plant.cores k absent))

-- mode 0, records spent
pub does-spent : (t : Task) (k : ℕ) (r : Registers) (d sh : List ℕ) (h : Semaphore) → r.mode ≡ 0 → drop r.cycles (t.samples k) ≡ [] → Does t k r d sh h Idle d sh
unfolding pick
does-spent t k r d sh h m e = idle t k r d sh h (λ s x. step-0 t k r d sh h s x m [] e (turn h k) refl) (rw m)

-- ---- waiting

-- the core is not changed
waited : (k : ℕ) (d sh : List ℕ) (s : State) → (core s.plant k).memory ≡ d → s.plant.shared ≡ sh → effected Joined k d sh s ≡ wait k s
unfolding effected
waited k d sh s e f = rw (← e, ← f) (ap (λ (l : List Core). record { plant = record { cores = l; shared = s.plant.shared }; semaphore = joined_by k s.semaphore }) (set-get_or s.plant.cores k absent))

-- mode 0 with records left, out of its turn
pub does-joined-0 : (t : Task) (k : ℕ) (r : Registers) (d sh : List ℕ) (h : Semaphore) (y : Sample) (ys : List Sample) → r.mode ≡ 0 → drop r.cycles (t.samples k) ≡ y ∷ ys → turn h k ≡ false
    → Does t k r d sh h Joined d sh
unfolding pick
does-joined-0 t k r d sh h y ys m e u =
    does t k r d sh h Joined d sh (λ s x. waited k d sh s x.memory x.shared ∙ sym (step-0 t k r d sh h s x m (y ∷ ys) e false u)) (λ c q. rw (q, m)) tt

-- mode 3, out of its turn
pub does-joined-3 : (t : Task) (k : ℕ) (r : Registers) (d sh : List ℕ) (h : Semaphore) → r.mode ≡ 3 → turn h k ≡ false → Does t k r d sh h Joined d sh
unfolding pick
does-joined-3 t k r d sh h m u =
    does t k r d sh h Joined d sh (λ s x. waited k d sh s x.memory x.shared ∙ sym (step-3 t k r d sh h s x m false u)) (λ c q. rw (q, m)) tt

-- a core that stands in line, out of its turn
module _ (t : Task) (k : ℕ) (r : Registers) (d sh : List ℕ) (h : Semaphore) (in-line : in_line k h.line ≡ true) (out : turn h k ≡ false) where
  waits-on : (s : State) → s.semaphore ≡ h → wait k s ≡ s
  unfolding pick
  waits-on s e =
      let f : in_line k s.semaphore.line ≡ true = ap (λ (m : Semaphore). in_line k m.line) e ∙ in-line in
      ap (λ (xs : List ℕ). record { plant = s.plant; semaphore = record { holder = s.semaphore.holder; line = xs } }) (pick_true (in_line k s.semaphore.line) _ _ f)

  reads_on_lem : (l : List Sample) (s : State) → s.semaphore ≡ h → take_read l false k (core s.plant k) s ≡ s
  reads_on_lem [] s e = refl
  reads_on_lem (y ∷ ys) s e = waits-on s e

  pub does-wait : (r.mode ≡ 0) ⊎ (r.mode ≡ 3) → Does t k r d sh h Idle d sh
  unfolding pick
  does-wait (inl m) = idle t k r d sh h (λ s x. step-0 t k r d sh h s x m _ refl false out ∙ reads_on_lem (drop r.cycles (t.samples k)) s x.semaphore) (rw m)
  does-wait (inr m) = idle t k r d sh h (λ s x. step-3 t k r d sh h s x m false out ∙ waits-on s x.semaphore) (rw m)

-- mode 5, stopped
pub does-stopped : (t : Task) (k : ℕ) (r : Registers) (d sh : List ℕ) (h : Semaphore) → 5 ≤ r.mode → Does t k r d sh h Idle d sh
unfolding pick
does-stopped t k r d sh h m =
    let e : r.mode ≡ 5 + (r.mode - 5) = omega arith in
    idle t k r d sh h (λ s x. step-5 t k r d sh h s x (r.mode - 5) e) (rw (ne_eqb r.mode 0 (λ z. omega arith), ne_eqb r.mode 3 (λ z. omega arith)))

-- ---- readings and writings

-- the effect with other lists for the data and the shared memory afterwards
with-lists : (z : Effect) (k : ℕ) (s : State) (a b a' b' : List ℕ) → a ≡ a' → b ≡ b' → effected z k a b s ≡ effected z k a' b' s
with-lists z k s a b a' b' e f = ap₂ (λ (u v : List ℕ). effected z k u v s) e f

-- mode 0 to 1
pub does-read-acquired : (t : Task) (k : ℕ) (r : Registers) (d sh : List ℕ) (h : Semaphore) (y : Sample) (ys : List Sample) (time : ℕ) (d' : List ℕ)
    → r.mode ≡ 0 → drop r.cycles (t.samples k) ≡ y ∷ ys → time ≡ y.time → d' ≡ splice d 0 y.input → turn h k ≡ true → Does t k r d sh h (ReadAcquired time) d' sh
unfolding pick effected read_taken read_acquired
does-read-acquired t k r d sh h y ys time d' m e p q b =
    does t k r d sh h (ReadAcquired time) d' sh
    (λ s x. rw (p, q, ← x.memory, ← x.shared) (sym (step-0 t k r d sh h s x m (y ∷ ys) e true b))) (λ c u. rw m) tt

module _ (t : Task) (k : ℕ) (r : Registers) (d sh : List ℕ) (h : Semaphore) (l : List Move) where
  -- one byte of a reading, and others are left
  pub does-byte-read : (n : Move) (ns : List Move) (d' : List ℕ) → r.mode ≡ 1 → drop r.exchange (t.reads k) ≡ l → drop 1 l ≡ n ∷ ns → d' ≡ copy (take 1 l) sh d → r.exchange < 65535
      → Does t k r d sh h ByteRead d' sh
  unfolding pick effected read_next byte_copied
  does-byte-read n ns d' m e g q b =
      does t k r d sh h ByteRead d' sh
      (λ s x. with-lists ByteRead k s d' sh (copy (take 1 l) sh d) s.plant.shared q (sym x.shared)
      ∙ sym (step-1 t k r d sh h s x m l e ∙ ap (λ (u : List Move). read_on u (copy (take 1 l) sh d) k (core s.plant k) s) g))
      (λ c u. rw m) b

  -- the last byte, or none at all: mode 1 to 2
  pub does-read-released : (d' : List ℕ) → r.mode ≡ 1 → drop r.exchange (t.reads k) ≡ l → drop 1 l ≡ [] → d' ≡ copy (take 1 l) sh d → Does t k r d sh h ReadReleased d' sh
  unfolding pick effected read_done read_released
  does-read-released d' m e g q =
      does t k r d sh h ReadReleased d' sh
      (λ s x. with-lists ReadReleased k s d' sh (copy (take 1 l) sh d) s.plant.shared q (sym x.shared)
      ∙ sym (step-1 t k r d sh h s x m l e ∙ ap (λ (u : List Move). read_on u (copy (take 1 l) sh d) k (core s.plant k) s) g))
      (λ c u. rw m) tt

  -- one byte of a writing, and others are left
  pub does-byte-written : (n : Move) (ns : List Move) (sh' : List ℕ) → r.mode ≡ 4 → drop r.exchange (t.writes k) ≡ l → drop 1 l ≡ n ∷ ns → sh' ≡ copy (take 1 l) d sh → r.exchange < 65535
      → Does t k r d sh h ByteWritten d sh'
  unfolding pick effected write_next byte_copied
  does-byte-written n ns sh' m e g q b =
      does t k r d sh h ByteWritten d sh'
      (λ s x. with-lists ByteWritten k s d sh' (core s.plant k).memory (copy (take 1 l) d sh) (sym x.memory) q
      ∙ sym (step-4 t k r d sh h s x m l e ∙ ap (λ (u : List Move). write_on u (copy (take 1 l) d sh) k (core s.plant k) s) g))
      (λ c u. rw m) b

  -- the last byte, or none at all: mode 4 to 0
  pub does-write-released : (sh' : List ℕ) → r.mode ≡ 4 → drop r.exchange (t.writes k) ≡ l → drop 1 l ≡ [] → sh' ≡ copy (take 1 l) d sh → r.cycles < 65535
      → Does t k r d sh h WriteReleased d sh'
  unfolding pick effected write_done write_released
  does-write-released sh' m e g q b =
      does t k r d sh h WriteReleased d sh'
      (λ s x. with-lists WriteReleased k s d sh' (core s.plant k).memory (copy (take 1 l) d sh) (sym x.memory) q
      ∙ sym (step-4 t k r d sh h s x m l e ∙ ap (λ (u : List Move). write_on u (copy (take 1 l) d sh) k (core s.plant k) s) g))
      (λ c u. rw m) b

-- mode 3 to 4
pub does-write-acquired : (t : Task) (k : ℕ) (r : Registers) (d sh : List ℕ) (h : Semaphore) → r.mode ≡ 3 → turn h k ≡ true → Does t k r d sh h WriteAcquired d sh
unfolding pick effected write_taken write_acquired
does-write-acquired t k r d sh h m b =
    does t k r d sh h WriteAcquired d sh
    (λ s x. with-lists WriteAcquired k s d sh (core s.plant k).memory s.plant.shared (sym x.memory) (sym x.shared) ∙ sym (step-3 t k r d sh h s x m true b))
    (λ c u. rw m) tt

-- mode 3
pub begins-writing : (f t : List ℕ) (k : ℕ) (r : Registers) (d sh : List ℕ) (b : Bool) (z : Exchange) → z ≡ pick b WriteBegun Joins → r.mode ≡ 3 → Exchanges f t k r d sh b z d sh
unfolding pick
begins-writing f t k r d sh true z e m = rw e ((λ h u. does-write-acquired (task_of f t) k r d sh h m u), refl)
begins-writing f t k r d sh false z e m = rw e ((λ h u. does-joined-3 (task_of f t) k r d sh h m u), refl)

-- ---- instructions

-- what an outcome does to a core is what its effect does; a fault leaves the data
abbrev pub Leaves : Outcome → List ℕ → List ℕ → Type 0
Leaves (Failed b) m d = m ≡ d
Leaves (Onward p) m d = Unit {0}
Leaves (Calls next target offset) m d = Unit {0}
Leaves Returns m d = Unit {0}

back : (n : ℕ) (m : List ℕ) (c : Core) → record { registers = registers_by (back_at n) c; stack = stack_by (back_at n) c; memory = m } ≡ back_from n m c
back zero m c = refl
back (suc n) m c = refl

outcome-effect : (o : Outcome) (m : List ℕ) (c : Core) → Leaves o m c.memory
    → record { registers = registers_by (effect_of c.registers.depth o) c; stack = stack_by (effect_of c.registers.depth o) c; memory = m } ≡ applied_by o m c
outcome-effect (Failed b) m c e = ap (λ (u : List ℕ). record { registers = faulted b c.registers; stack = c.stack; memory = u }) e
outcome-effect (Onward p) m c e = refl
outcome-effect (Calls next target offset) m c e = refl
outcome-effect Returns m c e = back c.registers.depth m c

back-semaphore : (n k : ℕ) (h : Semaphore) → semaphore_by (back_at n) k h ≡ h
back-semaphore zero k h = refl
back-semaphore (suc n) k h = refl

same-semaphore : (n : ℕ) (o : Outcome) (k : ℕ) (h : Semaphore) → semaphore_by (effect_of n o) k h ≡ h
same-semaphore n (Failed b) k h = refl
same-semaphore n (Onward p) k h = refl
same-semaphore n (Calls next target offset) k h = refl
same-semaphore n Returns k h = back-semaphore n k h

back-taking : (n k : ℕ) → taken_by (back_at n) k ≡ []
back-taking zero k = refl
back-taking (suc n) k = refl

no-taking : (n : ℕ) (o : Outcome) (k : ℕ) → taken_by (effect_of n o) k ≡ []
no-taking n (Failed b) k = refl
no-taking n (Onward p) k = refl
no-taking n (Calls next target offset) k = refl
no-taking n Returns k = back-taking n k

-- mode 2: what the instruction answers, with the limit tried first
pub does-instruction : (t : Task) (k : ℕ) (r : Registers) (d sh : List ℕ) (h : Semaphore) (x : Executed) (d' : List ℕ) → r.mode ≡ 2
    → ((c : Core) → c.registers ≡ r → c.memory ≡ d → t.instruction k c ≡ applied x c)
    → d' ≡ x.memory → Leaves x.outcome x.memory d → Takes r (effect_of r.depth x.outcome) → Does t k r d sh h (effect_of r.depth x.outcome) d' sh
unfolding pick effected applied
does-instruction t k r d sh h x d' m f q l y =
    does t k r d sh h (effect_of r.depth x.outcome) d' sh
    (λ s w. ap (λ (u : Registers). effected (effect_of u.depth x.outcome) k d' sh s) (sym w.registers)
    ∙ with-lists (effect_of (core s.plant k).registers.depth x.outcome) k s d' sh x.memory s.plant.shared q (sym w.shared)
    ∙ ap₂ (λ (u : Core) (v : Semaphore). record { plant = put s.plant k u; semaphore = v })
    (outcome-effect x.outcome x.memory (core s.plant k) (subst (Leaves x.outcome x.memory) (sym w.memory) l) ∙ sym (f (core s.plant k) w.registers w.memory))
    (same-semaphore (core s.plant k).registers.depth x.outcome k s.semaphore)
    ∙ sym (step-2 t k r d sh h s w m))
    (λ c u. rw m (sym (no-taking r.depth x.outcome k))) y
