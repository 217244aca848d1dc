-- The loop of a run: what its calls ask, and what each of its arms leaves. In order: the line; the start; a step's requirements; the
-- cursor; an arm.
-- Assumes nothing.
use mathlib.Core.Path.{◌≡◌, refl, sym, ap, ap₂, ◌∙◌, subst}
use mathlib.Core.Logic.{◌≢◌, ◌⊎◌, inl, inr}
use mathlib.Core.Bool.{Bool, true, false, not}
use mathlib.Core.List.{List, [], ◌∷◌, map}
use Prim.Native.Nat.{ℕ, suc, ◌+◌, ◌-◌, ◌*◌, ◌≤◌, ◌<◌}
use native.Mathlib.Nat.{add-zero, zero-add}
use native.Mathlib.Decide.{ℕ_discrete, dec_le}
use native.Mathlib.Omega.{arith}
use lib.Dec.{T}
use lib.ListN.{length, get_or, set, take, drop, length-set}
use lib.Seq.{get_or-set_same, get_or-set_other, get_or-take, get_or-drop, drop-set-add, drop-set-lt, take-set-lt}
use Rattle.verdict.specs.Verdict.{both}
use Rattle.verdict.proofs.Truth.{tested}
use Rattle.memory.specs.Memory.{splice, part, split}
use Rattle.memory.proofs.Laws.{take-set-part}
use Rattle.protocol.specs.Registers.{read_acquired, byte_copied, write_acquired, advanced, called, returned, cycle_ended, faulted}
use Rattle.exchange.specs.Exchange.{At}
use Rattle.protocol.specs.declared.Registers.{Registers}
use Rattle.protocol.specs.declared.Stack.{Stack}
use Rattle.protocol.specs.State.{Core, Semaphore, State, core, mode}
use Rattle.protocol.specs.Step.{in_line, turn, Taking, takings, encoded}
use Rattle.protocol.specs.Fair.{Once, FitLine}
use Rattle.protocol.proofs.Fair.{line-cases, few-below}
use Rattle.semaphore.specs.declared.Line.{Line}
use Rattle.semaphore.specs.Line.{semaphore_of, waits_at, line_of, Lined}
use Rattle.semaphore.proofs.Laws.{Becomes, becomes}
use Rattle.exchange.specs.declared.Cursor.{Cursor}
use Rattle.records.specs.File.{cores}
use Rattle.taskset.specs.Task.{sizes_of}
use Rattle.states.specs.declared.Held.{Held}
use Rattle.states.specs.declared.CoreTask.{CoreTask}
use Rattle.states.specs.Task.{task_of}
use Rattle.states.specs.Tasks.{core_task, no_task}
use Rattle.states.specs.Machine.{no_registers, stack_in, core_in, state_in, state_of}
use Rattle.states.specs.Fit.{FitCore, Fit}
use Rattle.states.proofs.Executes.{executes}
use Rattle.steps.specs.Effects.{Effect, registers_by, stack_by, semaphore_by, taken_by, Steps}
use Rattle.steps.proofs.Listed.{list-none}
use Rattle.steps.specs.Moving.{CursorAimed, StepGiven, ExchangeGiven}
use Rattle.runner.specs.Going.{RunGiven}
use Rattle.runner.specs.Running.{RunningAt}
use Rattle.states.specs.Set.{AcceptedSet}
use Rattle.runner.proofs.Running.{core-in, shared-in, semaphore-in, running-on}

-- entry j of sixteen from place p on
pub part-entry : (l : List ℕ) (p j : ℕ) → j < 16 → get_or (part l p 16) j 0 ≡ get_or l (p + j) 0
unfolding part
part-entry l p j h = rw (get_or-take, get_or-drop)

-- ---- the line of a fit state

module _ {f t : List ℕ} {s : State} {h : Semaphore} (ok : AcceptedSet f t) (fit : Fit f t s) (e : s.semaphore ≡ h) where
  line-fit : FitLine (task_of f t) record { plant = s.plant; semaphore = h }
  line-fit = subst (λ (m : Semaphore). FitLine (task_of f t) record { plant = s.plant; semaphore = m }) e fit.line

  low : (j : ℕ) → T (in_line j h.line) → j < cores f
  low j g = rw fit.table at (line-fit.below j g)

  pub line-few : length h.line ≤ 4
  line-few = omega (arith, ok.few, few-below (cores f) h.line line-fit.once low)

  -- a core that is not in line finds an entry for it
  pub line-room : (k : ℕ) → k < cores f → in_line k h.line ≡ false → length h.line < 4
  line-room k i out = omega (arith, ok.few, few-below (cores f) (k ∷ h.line) (out, line-fit.once) (λ j g. either-low j (line-cases j k h.line g)))
    where
      either-low : (j : ℕ) → (k ≡ j) ⊎ T (in_line j h.line) → j < cores f
      either-low j (inl q) = rw (← q) i
      either-low j (inr g) = low j g

-- ---- the start

pub looping-start : {f t : List ℕ} {tasks : List CoreTask} {first end : ℕ} {order : List ℕ} {s : Held} {cursor : Cursor} {d sh list : List ℕ} {cs : List Registers} {places offsets : List ℕ}
    → RunGiven f t tasks first end order s cursor d sh list → (cs ≡ s.cores) × (length cs ≡ 4) → (places ≡ s.places) × (length places ≡ 64) → (offsets ≡ s.offsets) × (length offsets ≡ 64)
    → {x : Line} → x ≡ line_of (semaphore_of s.semaphore)
    → RunningAt f t order list (state_of f s d sh) s.cores s.places s.offsets 0 cs places offsets (semaphore_of x.semaphore) 0 d sh list cursor × Lined x
looping-start {f} {t} {tasks} {first} {end} {order} {s} {cursor} {d} {sh} {list} {cs} {places} {offsets} g a b e {x} q =
    let y : Becomes x (semaphore_of s.semaphore) = becomes x (semaphore_of s.semaphore) q (line-few g.accepted g.fit (semaphore-in f s.cores s.places s.offsets (semaphore_of s.semaphore) d sh)) in (
      rw (y.is, a.0, b.0, e.0) record {
        running = record {
          within = omega arith;
          reached = refl;
          rest = refl;
          listed = refl;
          counted = zero-add (length (takings (task_of f t) order (state_of f s d sh)));
          room = omega arith;
          fit = g.fit;
          four = sym (ap length a.0) ∙ a.1;
          entries = (sym (ap length b.0) ∙ b.1, sym (ap length e.0) ∙ e.1);
          buffer = g.buffer;
          list_length = refl;
          spare = λ j h. (refl, refl);
        };
        aimed = g.aimed;
      },
      y.lined,
    )

-- ---- what a step requires

pub ready : {f t : List ℕ} {order list₀ : List ℕ} {s₀ : State} {cs₀ : List Registers} {places₀ offsets₀ : List ℕ} {i : ℕ} {cs : List Registers} {places offsets : List ℕ} {h : Semaphore} {taken : ℕ} {d sh list : List ℕ} {cursor : Cursor} {k : ℕ} {c : CoreTask}
    → AcceptedSet f t → c ≡ core_task f t k → RunningAt f t order list₀ s₀ cs₀ places₀ offsets₀ i cs places offsets h taken d sh list cursor → k < cores f
    → StepGiven f t k c (get_or cs k no_registers) (get_or (split (sizes_of f) d) k [])
ready {f} {t} {cs = cs} {places = places} {offsets = offsets} {h = h} {d = d} {sh = sh} {k = k} ok e w i = record {
  accepted = ok;
  known = i;
  task = e;
  stack = stack_in places offsets k;
  fit = subst (FitCore f t k) (core-in f cs places offsets h d sh k i) (w.running.fit.each k i);
}

pub moving : {f t : List ℕ} {tasks : List CoreTask} {first end : ℕ} {order : List ℕ} {s : Held} {aim : Cursor} {d₀ sh₀ list₀ : List ℕ}
    {s₀ : State} {cs₀ : List Registers} {places₀ offsets₀ : List ℕ} {i : ℕ} {cs : List Registers} {places offsets : List ℕ} {h : Semaphore} {taken : ℕ} {d sh list : List ℕ} {cursor : Cursor} {k : ℕ}
    → RunGiven f t tasks first end order s aim d₀ sh₀ list₀ → RunningAt f t order list₀ s₀ cs₀ places₀ offsets₀ i cs places offsets h taken d sh list cursor → k < cores f
    → ExchangeGiven f t k (get_or tasks k no_task) (get_or cs k no_registers) d sh end cursor
moving {f} {t} {cs = cs} {places = places} {offsets = offsets} {h = h} {d = d} {sh = sh} {cursor = cursor} {k = k} g w i = record {
  ready = ready g.accepted (g.tasked k i) w i;
  buffer = w.running.buffer;
  shared = sym (ap length (shared-in f cs places offsets h d sh)) ∙ w.running.fit.shared;
  aimed = record {
    reading = λ m. (w.aimed k i (mine (inl (ap (λ (c : Core). mode c) here ∙ m)))).reading m;
    writing = λ m. (w.aimed k i (mine (inr (ap (λ (c : Core). mode c) here ∙ m)))).writing m;
  };
  upto = g.upto;
}
  where
    here : core (state_in f cs places offsets h d sh).plant k ≡ core_in f cs places offsets d k
    here = core-in f cs places offsets h d sh k i

    mine : (mode (core (state_in f cs places offsets h d sh).plant k) ≡ 1) ⊎ (mode (core (state_in f cs places offsets h d sh).plant k) ≡ 4) → h.holder ≡ suc k
    mine e = ap (λ (m : Semaphore). m.holder) (sym (semaphore-in f cs places offsets h d sh)) ∙ w.running.fit.held.held k e

-- a run's semaphore that is not changed
pub kept_line : {x y : Line} → Lined x → y ≡ x → Becomes y (semaphore_of x.semaphore)
kept_line {x} {y} l e = record { is = ap (λ (u : Line). semaphore_of u.semaphore) e; lined = subst Lined (sym e) l }

-- ---- the cursor

-- what holds of core k's new registers and of the other cores' holds of every core
pub aimed_on : (f : List ℕ) (cs : List Registers) (k : ℕ) (r : Registers) (h : ℕ) (cursor : Cursor) → k < length cs → (h ≡ suc k → CursorAimed f k r cursor)
    → ((j : ℕ) → j ≢ k → j < cores f → h ≡ suc j → CursorAimed f j (get_or cs j no_registers) cursor)
    → (j : ℕ) → j < cores f → h ≡ suc j → CursorAimed f j (get_or (set cs k r) j no_registers) cursor
aimed_on f cs k r h cursor i mine others j l e = go (ℕ_discrete j k)
  where
    go : Dec (j ≡ k) → CursorAimed f j (get_or (set cs k r) j no_registers) cursor
    go (yes q) = rw (q, get_or-set_same cs k r no_registers i) (mine (rw q at e))
    go (no n) = rw (get_or-set_other cs k j r no_registers n) (others j n l e)

-- the same mode and exchange number
pub aimed_same : {f : List ℕ} {k : ℕ} {r r' : Registers} {cursor : Cursor} → r'.mode ≡ r.mode → r'.exchange ≡ r.exchange → CursorAimed f k r cursor → CursorAimed f k r' cursor
aimed_same a b w = record { reading = λ m. rw b (w.reading (sym a ∙ m)); writing = λ m. rw b (w.writing (sym a ∙ m)) }

-- no exchange
pub aimed-none : {f : List ℕ} {k : ℕ} {r : Registers} {cursor : Cursor} → r.mode ≢ 1 → r.mode ≢ 4 → CursorAimed f k r cursor
aimed-none a b = record { reading = λ m. absurd (a m); writing = λ m. absurd (b m) }

-- ---- an arm

-- where the cursor stands after an arm, by what the arm does to the holder
pub data After (f : List ℕ) (k h : ℕ) (r r' : Registers) (cursor cursor' : Cursor) : ℕ → Type 0 where
  -- the holder stays, and so does the cursor; core k's exchange, if it is in one, stands where it stood
  stays : (CursorAimed f k r cursor → CursorAimed f k r' cursor') → cursor' ≡ cursor → After f k h r r' cursor cursor' h
  -- core k is the holder, before and after
  moves : h ≡ suc k → CursorAimed f k r' cursor' → After f k h r r' cursor cursor' h
  takes : CursorAimed f k r' cursor' → After f k h r r' cursor cursor' (suc k)
  frees : After f k h r r' cursor cursor' 0

-- the registers' changes: what becomes of the cursor
module _ {f : List ℕ} {k h : ℕ} {r r' : Registers} {cursor cursor' : Cursor} where
  after_same : (ρ : Registers) → r' ≡ ρ → ρ.mode ≡ r.mode → ρ.exchange ≡ r.exchange → cursor' ≡ cursor → After f k h r r' cursor cursor' h
  after_same ρ e a b q = stays (λ w. rw (e, q) (aimed_same a b w)) q

  pub after-advanced : (p : ℕ) → r' ≡ advanced p r → cursor' ≡ cursor → After f k h r r' cursor cursor' h
  unfolding advanced
  after-advanced p e q = after_same _ e refl refl q

  pub after-called : (p o : ℕ) → r' ≡ called p o r → cursor' ≡ cursor → After f k h r r' cursor cursor' h
  unfolding called
  after-called p o e q = after_same _ e refl refl q

  pub after-returned : (p o : ℕ) → r' ≡ returned p o r → cursor' ≡ cursor → After f k h r r' cursor cursor' h
  unfolding returned
  after-returned p o e q = after_same _ e refl refl q

  pub after-faulted : (b : ℕ) → r' ≡ faulted b r → cursor' ≡ cursor → After f k h r r' cursor cursor' h
  unfolding faulted
  after-faulted b e q = stays (λ w. rw e (aimed-none (omega arith) (omega arith))) q

  pub after-ended : r' ≡ cycle_ended r → cursor' ≡ cursor → After f k h r r' cursor cursor' h
  unfolding cycle_ended
  after-ended e q = stays (λ w. rw e (aimed-none (omega arith) (omega arith))) q

  pub after_read : (time : ℕ) → r' ≡ read_acquired time r → {start : Cursor} → At f (4 + k) 0 start → cursor' ≡ start → After f k h r r' cursor cursor' (suc k)
  unfolding read_acquired
  after_read time e a q = takes (rw (e, q) record { reading = λ m. a; writing = λ m. absurd (omega arith) })

  pub after_write : r' ≡ write_acquired r → {start : Cursor} → At f k 0 start → cursor' ≡ start → After f k h r r' cursor cursor' (suc k)
  unfolding write_acquired
  after_write e a q = takes (rw (e, q) record { reading = λ m. absurd (omega arith); writing = λ m. a })

  pub after-byte-read : h ≡ suc k → r.mode ≡ 1 → r' ≡ byte_copied r → {next : Cursor} → At f (4 + k) (r.exchange + 1) next → cursor' ≡ next → After f k h r r' cursor cursor' h
  unfolding byte_copied
  after-byte-read l m e a q = moves l (rw (e, q) record { reading = λ n. a; writing = λ n. absurd (omega arith) })

  pub after-byte-written : h ≡ suc k → r.mode ≡ 4 → r' ≡ byte_copied r → {next : Cursor} → At f k (r.exchange + 1) next → cursor' ≡ next → After f k h r r' cursor cursor' h
  unfolding byte_copied
  after-byte-written l m e a q = moves l (rw (e, q) record { reading = λ n. absurd (omega arith); writing = λ n. a })

-- RETURN to what the two entries hold
pub returned-by : (r : Registers) {r' : Registers} (places offsets : List ℕ) (k n : ℕ) {p o : ℕ} → r' ≡ returned p o r → p ≡ get_or places (16 * k + n) 0 → o ≡ get_or offsets (16 * k + n) 0 → n < 16
    → r' ≡ returned (get_or (part places (16 * k) 16) n 0) (get_or (part offsets (16 * k) 16) n 0) r
returned-by r places offsets k n e a b h =
    e ∙ ap₂ (λ (x y : ℕ). returned x y r) (a ∙ sym (part-entry places (16 * k) n h)) (b ∙ sym (part-entry offsets (16 * k) n h))

-- ---- the call stacks

module _ (l : List ℕ) (k i v : ℕ) (h : i < 16) where
  part-here : part (set l (16 * k + i) v) (16 * k) 16 ≡ set (part l (16 * k) 16) i v
  unfolding part
  part-here = ap (take 16) (drop-set-add (16 * k) l i v) ∙ take-set-lt 16 (drop (16 * k) l) i v h

  part-other : (j : ℕ) → j ≢ k → part (set l (16 * k + i) v) (16 * j) 16 ≡ part l (16 * j) 16
  unfolding part
  part-other j n = go (dec_le j k)
    where
      go : Dec (j ≤ k) → part (set l (16 * k + i) v) (16 * j) 16 ≡ part l (16 * j) 16
      go (yes a) =
          let b : suc j ≤ k = omega (arith, n) in
          take-set-part (16 * j) 16 l (16 * k + i) v (omega arith)
      go (no a) =
          let b : suc k ≤ j = omega (arith, n, a) in
          ap (take 16) (drop-set-lt (16 * j) l (16 * k + i) v (omega arith))

same-stack : {a b c d : List ℕ} → a ≡ b → c ≡ d → ◌≡◌ {A = Stack} record { places = a; offsets = c } record { places = b; offsets = d }
same-stack p q = λ i. record { places = p i; offsets = q i }

module _ (places offsets : List ℕ) {places' offsets' : List ℕ} (k i v u : ℕ) (h : i < 16) (pe : places' ≡ set places (16 * k + i) v) (oe : offsets' ≡ set offsets (16 * k + i) u) where
  stack-here : stack_in places' offsets' k ≡ record { places = set (part places (16 * k) 16) i v; offsets = set (part offsets (16 * k) 16) i u }
  stack-here = same-stack (ap (λ (l : List ℕ). part l (16 * k) 16) pe ∙ part-here places k i v h) (ap (λ (l : List ℕ). part l (16 * k) 16) oe ∙ part-here offsets k i u h)

  stack-other : (j : ℕ) → j ≢ k → stack_in places' offsets' j ≡ stack_in places offsets j
  stack-other j n = same-stack (ap (λ (l : List ℕ). part l (16 * j) 16) pe ∙ part-other places k i v h j n) (ap (λ (l : List ℕ). part l (16 * j) 16) oe ∙ part-other offsets k i u h j n)

module _ {f t : List ℕ} {order list₀ : List ℕ} {s₀ : State} {cs₀ : List Registers} {places₀ offsets₀ : List ℕ}
    {i : ℕ} {cs : List Registers} {places offsets : List ℕ} {h : Semaphore} {taken : ℕ} {d sh list : List ℕ} {cursor : Cursor}
    (w : RunningAt f t order list₀ s₀ cs₀ places₀ offsets₀ i cs places offsets h taken d sh list cursor) where
  after-aimed : {k h' : ℕ} {r' : Registers} {cursor' : Cursor} → k < cores f → k < length cs → After f k h.holder (get_or cs k no_registers) r' cursor cursor' h'
      → (j : ℕ) → j < cores f → h' ≡ suc j → CursorAimed f j (get_or (set cs k r') j no_registers) cursor'
  after-aimed {k} {h'} {r'} {cursor'} ik il (stays g q) =
      aimed_on f cs k r' h.holder cursor' il (λ e. g (w.aimed k ik e)) (λ j n l e. rw q (w.aimed j l e))
  after-aimed {k} {h'} {r'} {cursor'} ik il (moves q g) = aimed_on f cs k r' h.holder cursor' il (λ e. g) (λ j n l e. absurd (n (omega arith)))
  after-aimed {k} {h'} {r'} {cursor'} ik il (takes g) = aimed_on f cs k r' (suc k) cursor' il (λ e. g) (λ j n l e. absurd (n (omega arith)))
  after-aimed {k} {h'} {r'} {cursor'} ik il frees = λ j l e. absurd (omega arith)

  -- An arm: the effect z, which is z₀, with what the arm has made of the table, the stacks, the holder, the cursor and the list
  pub arm : AcceptedSet f t
      → i < length order → {k : ℕ} → k ≡ get_or order i 0 → k < cores f
      → {z : Effect} {d' sh' : List ℕ} → Steps f t k (get_or cs k no_registers) d sh h z d' sh' → length d' ≡ length d
      → (z₀ : Effect) → z ≡ z₀
      → {cs' : List Registers} {r' : Registers} → cs' ≡ set cs k r' → r' ≡ registers_by z₀ (core_in f cs places offsets d k)
      → {places' offsets' : List ℕ} → stack_in places' offsets' k ≡ stack_by z₀ (core_in f cs places offsets d k)
      → ((j : ℕ) → j ≢ k → stack_in places' offsets' j ≡ stack_in places offsets j) → (length places' ≡ 64) × (length offsets' ≡ 64)
      → {h' : Semaphore} → h' ≡ semaphore_by z₀ k h → {cursor' : Cursor} → After f k h.holder (get_or cs k no_registers) r' cursor cursor' (semaphore_by z₀ k h).holder
      → {list' : List ℕ} → list' ≡ splice list taken (map encoded (taken_by z₀ k)) → {taken' : ℕ} → taken' ≡ taken + length (taken_by z₀ k) → length (taken_by z₀ k) ≤ 1
      → RunningAt f t order list₀ s₀ cs₀ places₀ offsets₀ (i + 1) cs' places' offsets' h' taken' d' sh' list' cursor'
  arm g b {k} e ik {z} {d'} {sh'} y dl z₀ ze {cs'} {r'} ce re {places'} {offsets'} se so en {h'} he {cursor'} ae {list'} le {taken'} te one =
      let y₀ : Steps f t k (get_or cs k no_registers) d sh h z₀ d' sh' = subst (λ (u : Effect). Steps f t k (get_or cs k no_registers) d sh h u d' sh') ze y in
      record {
        running = running-on f t g (executes f t g) order list₀ s₀ cs₀ places₀ offsets₀ i cs places offsets h taken d sh list w.running
            b k (sym e) ik g.few z₀ y₀.memory sh' cs' places' offsets' h' taken' d' list' y₀.does
            record { registers = ce ∙ ap (set cs k) re; stack = se; stacks = so; semaphore = he; memory = y₀.kept } le te one en dl;
        aimed = λ j l q. subst (λ (u : List Registers). CursorAimed f j (get_or u j no_registers) cursor') (sym ce)
            (after-aimed ik (rw w.running.four (omega (arith, g.few)))
            (subst (After f k h.holder (get_or cs k no_registers) r' cursor cursor') (sym (ap (λ (m : Semaphore). m.holder) he)) ae) j l q);
      }

  -- a core in an exchange is the holder
  pub holds : {k : ℕ} → k < cores f → (mode (core_in f cs places offsets d k) ≡ 1) ⊎ (mode (core_in f cs places offsets d k) ≡ 4) → h.holder ≡ suc k
  holds {k} ik m =
      ap (λ (u : Semaphore). u.holder) (sym (semaphore-in f cs places offsets h d sh))
      ∙ w.running.fit.held.held k (subst (λ (c : Core). (mode c ≡ 1) ⊎ (mode c ≡ 4)) (sym (core-in f cs places offsets h d sh k ik)) m)

  -- a core in line is in mode 0 or 3
  pub in-line : {k : ℕ} → k < cores f → in_line k h.line ≡ true → ((get_or cs k no_registers).mode ≡ 0) ⊎ ((get_or cs k no_registers).mode ≡ 3)
  unfolding state_in
  in-line {k} ik e = subst (λ (c : Core). (mode c ≡ 0) ⊎ (mode c ≡ 3)) (core-in f cs places offsets h d sh k ik) (w.running.fit.line.modes k (tested _ e))

  pub line-once : Once h.line
  unfolding state_in
  line-once = w.running.fit.line.once

  pub room-in-line : AcceptedSet f t → {k : ℕ} → k < cores f → in_line k h.line ≡ false → length h.line < 4
  room-in-line ok {k} ik e = line-room ok w.running.fit (semaphore-in f cs places offsets h d sh) k ik e

  -- a core that does not wait, and that it is not its turn, is not in line yet
  pub joining : AcceptedSet f t → {k : ℕ} → k < cores f → waits_at h k ≡ false → turn h k ≡ false → (in_line k h.line ≡ false) × (length h.line < 4)
  joining ok {k} ik e u = let out : in_line k h.line ≡ false = not-both (in_line k h.line) (turn h k) e u in (out, room-in-line ok ik out)
    where
      not-both : (a b : Bool) → both a (not b) ≡ false → b ≡ false → a ≡ false
      not-both true true p q = q
      not-both true false p q = p
      not-both false b p q = refl

  -- the same for the effects of one kind
  module _ (g : AcceptedSet f t) (b : i < length order) {k : ℕ} (e : k ≡ get_or order i 0) (ik : k < cores f)
      {z : Effect} {d' sh' : List ℕ} (y : Steps f t k (get_or cs k no_registers) d sh h z d' sh') (dl : length d' ≡ length d)
      {list' : List ℕ} {cs' : List Registers} {places' offsets' : List ℕ} {h' : Semaphore} {cursor' : Cursor} {taken' : ℕ} {r' : Registers} where
    -- neither stack nor order list
    pub plain-arm : (z₀ : Effect) → z ≡ z₀ → taken_by z₀ k ≡ [] → stack_by z₀ (core_in f cs places offsets d k) ≡ stack_in places offsets k → r' ≡ registers_by z₀ (core_in f cs places offsets d k)
        → list' ≡ list → cs' ≡ set cs k r' → places' ≡ places → offsets' ≡ offsets → h' ≡ semaphore_by z₀ k h → After f k h.holder (get_or cs k no_registers) r' cursor cursor' (semaphore_by z₀ k h).holder → taken' ≡ taken
        → RunningAt f t order list₀ s₀ cs₀ places₀ offsets₀ (i + 1) cs' places' offsets' h' taken' d' sh' list' cursor'
    plain-arm z₀ ze nt st re le ce pe oe he ae te =
        arm g b e ik y dl z₀ ze ce re (same-stack (ap (λ (l : List ℕ). part l (16 * k) 16) pe) (ap (λ (l : List ℕ). part l (16 * k) 16) oe) ∙ sym st)
        (λ j n. same-stack (ap (λ (l : List ℕ). part l (16 * j) 16) pe) (ap (λ (l : List ℕ). part l (16 * j) 16) oe))
        (ap length pe ∙ w.running.entries.0, ap length oe ∙ w.running.entries.1) he ae
        (le ∙ sym (ap (λ (xs : List Taking). splice list taken (map encoded xs)) nt ∙ list-none list taken))
        (te ∙ sym (ap (λ (xs : List Taking). taken + length xs) nt ∙ add-zero taken)) (rw nt (omega arith))

    -- an entry of the call stack
    pub stack-arm : (z₀ : Effect) → z ≡ z₀ → taken_by z₀ k ≡ [] → r' ≡ registers_by z₀ (core_in f cs places offsets d k) → (n v u : ℕ) → n < 16
        → record { places = set (part places (16 * k) 16) n v; offsets = set (part offsets (16 * k) 16) n u } ≡ stack_by z₀ (core_in f cs places offsets d k)
        → list' ≡ list → cs' ≡ set cs k r' → places' ≡ set places (16 * k + n) v → offsets' ≡ set offsets (16 * k + n) u → h' ≡ semaphore_by z₀ k h
        → After f k h.holder (get_or cs k no_registers) r' cursor cursor' (semaphore_by z₀ k h).holder → taken' ≡ taken
        → RunningAt f t order list₀ s₀ cs₀ places₀ offsets₀ (i + 1) cs' places' offsets' h' taken' d' sh' list' cursor'
    stack-arm z₀ ze nt re n v u m st le ce pe oe he ae te =
        arm g b e ik y dl z₀ ze ce re (stack-here places offsets k n v u m pe oe ∙ st) (stack-other places offsets k n v u m pe oe)
        (ap length pe ∙ length-set places (16 * k + n) v ∙ w.running.entries.0, ap length oe ∙ length-set offsets (16 * k + n) u ∙ w.running.entries.1) he ae
        (le ∙ sym (ap (λ (xs : List Taking). splice list taken (map encoded xs)) nt ∙ list-none list taken))
        (te ∙ sym (ap (λ (xs : List Taking). taken + length xs) nt ∙ add-zero taken)) (rw nt (omega arith))

-- ---- lent memory keeps its length

pub shared-length : {f t : List ℕ} {tasks : List CoreTask} {first end : ℕ} {order : List ℕ} {s : Held} {aim : Cursor} {d₀ sh₀ list₀ : List ℕ}
    {s₀ : State} {cs₀ : List Registers} {places₀ offsets₀ : List ℕ} {i : ℕ} {cs : List Registers} {places offsets : List ℕ} {h : Semaphore} {taken : ℕ} {d sh list : List ℕ} {cursor : Cursor}
    → RunGiven f t tasks first end order s aim d₀ sh₀ list₀ → RunningAt f t order list₀ s₀ cs₀ places₀ offsets₀ i cs places offsets h taken d sh list cursor → length sh ≡ length sh₀
shared-length {f} {s = s} {d₀ = d₀} {sh₀ = sh₀} {cs = cs} {places = places} {offsets = offsets} {h = h} {d = d} {sh = sh} g w =
    sym (ap length (shared-in f cs places offsets h d sh)) ∙ w.running.fit.shared ∙ sym g.fit.shared ∙ ap length (shared-in f s.cores s.places s.offsets (semaphore_of s.semaphore) d₀ sh₀)
