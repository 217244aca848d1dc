-- A rerun's start and end, and what the call answers. In order: the fresh state; the end of the list; the list's refusal; memories copied out; the call. Assumes nothing.
use mathlib.Core.Path.{◌≡◌, refl, sym, ap, ap₂, ◌∙◌, subst}
use mathlib.Core.Logic.{◌≢◌}
use mathlib.Core.Bool.{true, false}
use mathlib.Core.List.{List, [], ◌++◌, map, append-nil}
use Prim.Native.Nat.{ℕ, ◌+◌, ◌≤◌, ◌<◌}
use native.Mathlib.Omega.{arith}
use borrow.Author.Tests.{eq-eqb, ne_eqb}
use lib.ListN.{length, get_or, take, replicate, drop_of_length-le, length-replicate}
use lib.Seq.{take_all}
use Rattle.verdict.proofs.Verdict.{skip, stop, yes, no, pick_true, pick-false}
use Rattle.memory.specs.Memory.{splice, part}
use Rattle.memory.proofs.Laws.{splice-is}
use Rattle.protocol.specs.declared.Registers.{Registers}
use Rattle.protocol.specs.State.{Semaphore, State, untaken}
use Rattle.protocol.specs.Rerun.{legal, rerun_end, decoded}
use Rattle.records.specs.File.{cores}
use Rattle.semaphore.specs.Line.{semaphore_of, semaphore_back}
use Rattle.code.specs.declared.Profile.TheVariants.{Full}
use Rattle.taskset.specs.Judge.{judge}
use Rattle.taskset.specs.Trace.{trace_refusal}
use Rattle.taskset.specs.Fresh.{fresh_of}
use Rattle.states.specs.declared.Held.{Held}
use Rattle.states.specs.Task.{task_of}
use Rattle.states.specs.Machine.{no_registers, stack_in, state_in, held_after, data_of}
use Rattle.states.specs.Set.{AcceptedSet}
use Rattle.runner.specs.declared.RunAnswer.{RunAnswer}
use Rattle.runner.specs.Runs.{Left, left_as}
use Rattle.runner.specs.Running.{Running}
use Rattle.runner.proofs.Running.{shared-in}
use Rattle.runner.proofs.End.{data-back, held_back}
use Rattle.runner.proofs.Executing.{take-alone}
use Rattle.machine.specs.Calls.{lent_fits, answer_of, table_of, fresh_refusal, fresh_call, fresh_refusal_for}
use Rattle.calls.specs.Calling.{whole_of}
use Rattle.machine.proofs.Calls.{next-next, fresh-none}
use Rattle.calls.proofs.Calling.{Lendable, fresh-whole, fresh-lendable}
use Rattle.rerun.specs.Calls.{list_refusal, rerun_refusal, reran, rerun_left, rerun_call}
use Rattle.rerun.specs.Rerunning.{reran_answer, Rerunning, Reran}
use Rattle.rerun.proofs.Listed.{now-is, at_rest}

-- ---- the fresh state

plant-of : (f : List ℕ) (cs : List Registers) (places offsets d sh : List ℕ) (a b : Semaphore) → (state_in f cs places offsets a d sh).plant ≡ (state_in f cs places offsets b d sh).plant
unfolding state_in
plant-of f cs places offsets d sh a b = refl

module _ (f t list : List ℕ) (ok : AcceptedSet f t) (bytes : (i : ℕ) → get_or f i 0 < 256) (trace-bytes : (i : ℕ) → get_or t i 0 < 256) (d₀ sh₀ : List ℕ) (fits : lent_fits f (length d₀) (length sh₀) ≡ true)
    (r : RunAnswer) (d sh : List ℕ) (e : left_as r d sh [] ≡ fresh_call f d₀ sh₀) where
  granted : fresh_refusal f (length d₀) (length sh₀) ≡ 0
  granted = fresh-none f d₀ sh₀ ok.file fits

  pub fresh-table : r.state ≡ table_of (cores f) 4
  unfolding fresh_call
  fresh-table = ap (λ (x : Left). x.answer.state) (e ∙ pick_true _ _ _ (eq-eqb _ _ granted))

  fresh-is : whole_of f (left_as r d sh []) ≡ fresh_of f
  fresh-is = ap (whole_of f) e ∙ fresh-whole f t bytes trace-bytes d₀ sh₀ granted ok.few

  lendable : Lendable f t (left_as r d sh [])
  lendable = subst (Lendable f t) (sym e) (fresh-lendable f t bytes trace-bytes d₀ sh₀ granted ok)

  pub rerun-start : {cs : List Registers} {places offsets : List ℕ} → (cs ≡ r.state.cores) × (length cs ≡ 4) → (places ≡ r.state.places) × (length places ≡ 64) → (offsets ≡ r.state.offsets) × (length offsets ≡ 64)
      → Rerunning f t list r.state 0 cs places offsets d sh
  rerun-start a b c = record {
    within = omega arith;
    lawful = refl;
    plant = (λ i. (state_in f (a.0 i) (b.0 i) (c.0 i) untaken d sh).plant) ∙ plant-of f r.state.cores r.state.places r.state.offsets d sh untaken (semaphore_of r.state.semaphore) ∙ ap (λ (s : State). s.plant) fresh-is;
    four = a.1;
    entries = (b.1, c.1);
    buffer = lendable.sized.memory;
    shared = lendable.sized.shared;
    spare = λ j g. (ap (λ (l : List Registers). get_or l j no_registers) a.0, ap₂ (λ (l m : List ℕ). stack_in l m j) b.0 c.0);
  }

-- ---- the end of the list

table-semaphore : (n flags : ℕ) → (table_of n flags).semaphore ≡ semaphore_back untaken
unfolding table_of
table-semaphore n flags = refl

module _ (f t list : List ℕ) (ok : AcceptedSet f t) (h : Held) (table : h ≡ table_of (cores f) 4) (i : ℕ) (cs : List Registers) (places offsets d sh : List ℕ)
    (w : Rerunning f t list h i cs places offsets d sh) (done : length list ≤ i) where
  abbrev now : State
  now = state_in f cs places offsets untaken d sh

  all : take i list ≡ list
  all = take_all i list done

  end_is : now ≡ reran f t list
  end_is = now-is f t list ok h i cs places offsets d sh w ∙ ap (λ (l : List ℕ). rerun_end (task_of f t) (map decoded l) (fresh_of f)) all

  list-legal : legal (task_of f t) (map decoded list) (fresh_of f).plant ≡ true
  list-legal = ap (λ (l : List ℕ). legal (task_of f t) (map decoded l) (fresh_of f).plant) (sym all) ∙ w.lawful

  idle : Running f t [] [] now h.cores h.places h.offsets 0 cs places offsets untaken 0 d sh []
  idle = record {
    within = omega arith;
    reached = refl;
    rest = refl;
    listed = refl;
    counted = refl;
    room = omega arith;
    fit = (at_rest f t list ok h i cs places offsets d sh w).stands.fit;
    four = w.four;
    entries = w.entries;
    buffer = w.buffer;
    list_length = refl;
    spare = w.spare;
  }

  state-is : record { count = h.count; semaphore = h.semaphore; cores = cs; places = places; offsets = offsets } ≡ held_after (cores f) (table_of (cores f) 4) (reran f t list)
  state-is =
      sym (held_back f t [] [] now h 0 cs places offsets untaken 0 d sh [] idle h.semaphore (ap (λ (s : Held). s.semaphore) table ∙ table-semaphore (cores f) 4))
      ∙ ap₂ (held_after (cores f)) table end_is

  all-taken : Reran f t list (reran_answer h cs places offsets i) d sh
  unfolding list_refusal rerun_left
  all-taken = record {
    number = sym (yes _ 33 list-legal);
    done = λ z. same (let n : i ≡ length list = omega (arith, w.within) in n) state-is
        (sym (data-back f cs places offsets untaken d sh w.buffer) ∙ ap data_of end_is)
        (sym (shared-in f cs places offsets untaken d sh) ∙ ap (λ (s : State). s.plant.shared) end_is);
    refused = λ n. absurd (n refl);
  }
    where
      same : {n n' : ℕ} {a a' : Held} {m m' x x' : List ℕ} → n ≡ n' → a ≡ a' → m ≡ m' → x ≡ x'
          → left_as (record { refusal = 0; taken = n; state = a }) m x [] ≡ left_as (record { refusal = 0; taken = n'; state = a' }) m' x' []
      same p q u v = λ z. left_as (record { refusal = 0; taken = p z; state = q z }) (u z) (v z) []

  pub reran-all : (r : RunAnswer) → r ≡ reran_answer h cs places offsets i → Reran f t list r d sh
  reran-all r e = subst (λ (x : RunAnswer). Reran f t list x d sh) (sym e) all-taken

-- ---- the list's refusal

pub reran-none : (f t list d sh : List ℕ) (r : RunAnswer) → r ≡ answer_of 33 (table_of 0 0) → legal (task_of f t) (map decoded list) (fresh_of f).plant ≡ false → Reran f t list r d sh
unfolding list_refusal
reran-none f t list d sh r e l =
    let number : r.refusal ≡ 33 = ap (λ (x : RunAnswer). x.refusal) e in
    record {
      number = number ∙ sym (no _ 33 l);
      done = λ z. absurd (omega (arith, number));
      refused = λ n. e ∙ ap (λ (m : ℕ). answer_of m (table_of 0 0)) (sym number);
    }

-- ---- memories copied out

pub splice_all : (s ys : List ℕ) → length ys ≡ length s → splice s 0 ys ≡ ys
splice_all s ys e =
    splice-is s 0 ys (omega arith)
    ∙ ap (λ (l : List ℕ). ys ++ l) (drop_of_length-le s {i = 0 + length ys} (omega arith))
    ∙ append-nil ys

-- ---- the call

module _ (f t list d sh : List ℕ) where
  pub rerun-refused : {r : ℕ} (x : RunAnswer) → r ≡ rerun_refusal f t list (length d) (length sh) → r ≢ 0 → x ≡ answer_of r (table_of 0 0) → left_as x d sh [] ≡ rerun_call f t list d sh
  unfolding rerun_call
  rerun-refused x e n q =
      ap (λ (y : RunAnswer). left_as y d sh []) (q ∙ ap (λ (m : ℕ). answer_of m (table_of 0 0)) e)
      ∙ sym (pick-false _ _ _ (ne_eqb _ _ (λ w. n (e ∙ w))))

  -- what loading refused: the file, then lent memory
  pub refused-loaded : {r : ℕ} → r ≡ fresh_refusal_for Full f (length d) (length sh) → r ≢ 0 → r ≡ rerun_refusal f t list (length d) (length sh)
  unfolding rerun_refusal
  refused-loaded e n = stop _ e n ∙ next-next _ _ _

  module _ (z : judge f ≡ 0) (fits : lent_fits f (length d) (length sh) ≡ true) where
    pub refused-trace : {r : ℕ} → r ≡ trace_refusal f t → r ≢ 0 → r ≡ rerun_refusal f t list (length d) (length sh)
    unfolding rerun_refusal
    refused-trace e n = skip z (skip (yes _ 21 fits) (stop _ e n))

    module _ (sound : trace_refusal f t ≡ 0) where
      pub refused-list : {r : ℕ} → r ≡ list_refusal f t list → r ≡ rerun_refusal f t list (length d) (length sh)
      unfolding rerun_refusal
      refused-list e = skip z (skip (yes _ 21 fits) (skip sound e))

      -- what was rerun in memories of its own is copied out, or left
      pub rerun-done : (x : RunAnswer) (d' sh' : List ℕ) → Reran f t list x d' sh' → x.refusal ≡ 0 → left_as x d' sh' [] ≡ rerun_call f t list d sh
      unfolding rerun_call
      rerun-done x d' sh' y e = y.done e ∙ sym (pick_true _ _ _ (eq-eqb _ _ (sym (refused-list y.number) ∙ e)))

      pub rerun-left : (x : RunAnswer) (d' sh' : List ℕ) → Reran f t list x d' sh' → x.refusal ≢ 0 → left_as x d sh [] ≡ rerun_call f t list d sh
      rerun-left x d' sh' y n = rerun-refused x (refused-list y.number) n (y.refused n)

-- ---- memories of its own

-- as many bytes as are lent of an array
pub prefix : (n m : ℕ) → n ≤ m → n ≡ length {A = ℕ} (take n (replicate m 0))
prefix n m h = sym (ap length (take-alone m n 0 h) ∙ length-replicate {A = ℕ} n 0)

pub copied-out : (b s : List ℕ) (n : ℕ) {b' : List ℕ} → b' ≡ splice b 0 (part s 0 n) → length s ≡ length b → n ≡ length b → b' ≡ s
unfolding part
copied-out b s n e l q = let all : take n s ≡ s = take_all n s (omega arith) in e ∙ ap (splice b 0) all ∙ splice_all b s l
