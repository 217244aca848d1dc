-- A step of a core changes the state exactly where the core can move: each case of a step but rest moves the mode, the exchange number, the
-- instruction count or the line. In order: the tests by the mode; a core replaced by another; the nine cases. Assumes nothing.
use mathlib.Core.Path.{◌≡◌, refl, sym, ap, ◌∙◌}
use mathlib.Core.Logic.{◌≢◌, inl, inr}
use mathlib.Core.Bool.{Bool, true, false}
use mathlib.Core.List.{List, [], ◌∷◌}
use Prim.Native.Nat.{ℕ, zero, suc, ◌+◌, ◌<◌}
use native.Mathlib.Omega.{arith}
use borrow.Author.Tests.{lt-ltb, le-ltb, ltb-true, ltb-false, ne_eqb}
use lib.Dec.{ltb}
use lib.ListN.{length, drop, length-drop, length-append, drop_of_length-le}
use Rattle.verdict.specs.Verdict.{pick}
use Rattle.verdict.proofs.Verdict.{absurd-bool, both-not}
use Rattle.verdict.proofs.Truth.{both-swap}
use Rattle.protocol.specs.Registers.{read_acquired, byte_copied, read_released, write_acquired, write_released}
use Rattle.protocol.specs.State.{Core, Semaphore, State, Task, mode}
use Rattle.protocol.specs.Step.{in_line, joined, turn, wait, read_taken, read_next, read_done, write_taken, write_next, write_done, step, Taking, taking_of}
use Rattle.protocol.specs.Laws.{Laws}
use Rattle.protocol.proofs.View.{after, at, there, Idle, Wants, Moves, rests, waits, takes_read, reads_on, reads_last, runs, takes_write, writes_on, writes_last, view}
use Rattle.table.specs.Table.{served_or_joins, can_move_in, can_move}

-- ---- the tests

-- in every mode but 0 and 3 a core moves until it is stopped
pub other-modes : (m : ℕ) (goes : Bool) (count cycles : ℕ) → m ≢ 0 → m ≢ 3 → ltb m 5 ≡ can_move_in m goes count cycles
unfolding pick
other-modes m h n c a b = rw (ne_eqb m 0 a, ne_eqb m 3 b)

-- ---- steps

-- what a test says of a step from s to s': it changes something exactly if the test holds
pub data Seen (b : Bool) (s s' : State) : Type 0 where
  changes : b ≡ true → s' ≢ s → Seen b s s'
  stays : b ≡ false → s' ≡ s → Seen b s s'

pub moving-changes : {b : Bool} {s s' : State} → Seen b s s' → b ≡ true → s' ≢ s
moving-changes (changes a n) e = n
moving-changes (stays a n) e = absurd-bool (sym a ∙ e)

pub changing-moves : {b : Bool} {s s' : State} → Seen b s s' → s' ≢ s → b ≡ true
changing-moves (changes a n) m = a
changing-moves (stays a n) m = absurd (m n)

pub resting-stays : {b : Bool} {s s' : State} → Seen b s s' → b ≡ false → s' ≡ s
resting-stays (changes a n) e = absurd-bool (sym e ∙ a)
resting-stays (stays a n) e = n

pub staying-rests : {b : Bool} {s s' : State} → Seen b s s' → s' ≡ s → b ≡ false
staying-rests (changes a n) e = absurd (n e)
staying-rests (stays a n) e = a

module _ (t : Task) (k : ℕ) (s : State) where
  -- another core in place of core k is another state
  other : (c : Core) (sh : List ℕ) (h : Semaphore) → k < length s.plant.cores → c ≢ at s k → after s k c sh h ≢ s
  other c sh h i n e = n (sym (there s k c i) ∙ ap (λ (x : State). at x k) e)

  abbrev able : Bool
  able = can_move s.semaphore k (length (t.samples k)) (at s k).registers

  resting : Idle t k s → (m : ℕ) → mode (at s k) ≡ m → can_move_in m (served_or_joins s.semaphore k) (length (t.samples k)) (at s k).registers.cycles ≡ false
  unfolding pick
  resting z zero e =
      both-not (served_or_joins s.semaphore k) (ltb (at s k).registers.cycles (length (t.samples k)))
      (λ a b.
      let l : (at s k).registers.cycles < length (t.samples k) = ltb-true _ _ b in
      let none : length (drop (at s k).registers.cycles (t.samples k)) ≡ 0 = ap length (z.no_read e) in
      omega (arith, length-drop (at s k).registers.cycles (t.samples k)))
  resting z (suc zero) e = absurd (z.still.0 e)
  resting z (suc (suc zero)) e = absurd (z.still.1 e)
  resting z (suc (suc (suc zero))) e = absurd (z.no_write e)
  resting z (suc (suc (suc (suc zero)))) e = absurd (z.still.2 e)
  resting z (suc (suc (suc (suc (suc m))))) e =
      sym (other-modes (suc (suc (suc (suc (suc m))))) (served_or_joins s.semaphore k) (length (t.samples k)) (at s k).registers.cycles
      (λ q. let y : ⊥ = omega arith in y) (λ q. let y : ⊥ = omega arith in y))
      ∙ le-ltb (suc (suc (suc (suc (suc m))))) 5 (omega arith)

  -- a core that waits: it joins, or it stands in line and nothing changes
  some_left : drop (at s k).registers.cycles (t.samples k) ≢ [] → ltb (at s k).registers.cycles (length (t.samples k)) ≡ true
  some_left n = go (ltb (at s k).registers.cycles (length (t.samples k))) refl
    where
      go : (b : Bool) → ltb (at s k).registers.cycles (length (t.samples k)) ≡ b → ltb (at s k).registers.cycles (length (t.samples k)) ≡ true
      go true e = e
      go false e = absurd (n (drop_of_length-le (t.samples k) {i = (at s k).registers.cycles} (ltb-false _ _ e)))

  able-is : Wants t k s → able ≡ served_or_joins s.semaphore k
  unfolding can_move pick
  able-is (inl z) = rw (z.0, some_left z.1) (both-swap (served_or_joins s.semaphore k) true)
  able-is (inr z) = rw z

  waiting : Wants t k s → turn s.semaphore k ≡ false → (b : Bool) → in_line k s.semaphore.line ≡ b → Seen able s (wait k s)
  unfolding pick
  waiting z u true e = stays (able-is z ∙ rw (u, e)) (ap (λ (xs : List ℕ). record { plant = s.plant; semaphore = record { holder = s.semaphore.holder; line = xs } }) (rw e))
  waiting z u false e =
      changes (able-is z ∙ rw (u, e)) (λ q.
      let longer : length (joined k s.semaphore.line) ≡ length s.semaphore.line = ap (λ (x : State). length x.semaphore.line) q in
      let one : length (joined k s.semaphore.line) ≡ length s.semaphore.line + 1 = rw e (length-append s.semaphore.line (k ∷ [])) in
      omega arith)

  seen : Laws t → (s' : State) (ts : List Taking) → Moves t k s s' ts → Seen able s s'
  unfolding can_move read_taken read_acquired read_next byte_copied read_done read_released write_taken write_acquired write_next write_done write_released pick
  seen l s' ts (rests z) = stays (resting z _ refl) refl
  seen l s' ts (waits i z u) = waiting z u _ refl
  seen l s' ts (takes_read r rs i f u e d) =
      let some : length (drop (at s k).registers.cycles (t.samples k)) ≡ suc (length rs) = ap length d in
      changes (rw (e, u, lt-ltb (at s k).registers.cycles (length (t.samples k)) (omega (arith, length-drop (at s k).registers.cycles (t.samples k)))))
      (other _ _ _ i (λ z. omega (arith, ap (λ (c : Core). c.registers.mode) z)))
  seen l s' ts (reads_on m ms i e d) = changes (rw e) (other _ _ _ i (λ z. omega (arith, ap (λ (c : Core). c.registers.exchange) z)))
  seen l s' ts (reads_last i e d) = changes (rw e) (other _ _ _ i (λ z. omega (arith, ap (λ (c : Core). c.registers.mode) z)))
  seen l s' ts (runs i e) =
      changes (rw e) (other _ _ _ i (λ z.
      let same : mode (t.instruction k (at s k)) ≡ mode (at s k) = ap (λ (c : Core). c.registers.mode) z in
      omega (arith, l.counted k (at s k) e (same ∙ e), ap (λ (c : Core). c.registers.count) z)))
  seen l s' ts (takes_write i f u e) = changes (rw (e, u)) (other _ _ _ i (λ z. omega (arith, ap (λ (c : Core). c.registers.mode) z)))
  seen l s' ts (writes_on m ms i e d) = changes (rw e) (other _ _ _ i (λ z. omega (arith, ap (λ (c : Core). c.registers.exchange) z)))
  seen l s' ts (writes_last i e d) = changes (rw e) (other _ _ _ i (λ z. omega (arith, ap (λ (c : Core). c.registers.mode) z)))

  pub step-seen : Laws t → Seen able s (step t k s)
  step-seen l = seen l (step t k s) (taking_of t k s) (view t k s)
