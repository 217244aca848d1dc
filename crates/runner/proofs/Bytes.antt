-- Steps of one core that copy bytes of its exchange, none of them the last. In order: bytes that leave one; the data; one step; a reading; a writing; both.
-- Assumes nothing.
use mathlib.Core.Path.{◌≡◌, refl, sym, ap, ap₂, ◌∙◌, subst, subst⁻¹}
use mathlib.Core.Logic.{inl, inr}
use mathlib.Core.List.{List, [], ◌∷◌, map}
use Prim.Native.Nat.{ℕ, zero, suc, ◌+◌, ◌-◌, ◌≤◌, ◌<◌}
use native.Mathlib.Nat.{add-zero}
use native.Mathlib.Omega.{arith}
use lib.ListN.{length, get_or, set, take, drop, length-set}
use lib.Seq.{get_or-set_same, set-set, set-get_or, take-add, drop-drop, map-set_same}
use Rattle.memory.specs.Memory.{splice, total, split, flat}
use Rattle.memory.proofs.Cores.{length-split, flat-split, lengths-split, split-flat-of, length-flat}
use Rattle.protocol.specs.declared.Registers.{Registers}
use Rattle.protocol.specs.Registers.{byte_copied}
use Rattle.protocol.specs.State.{Core, Semaphore, State, Move}
use Rattle.protocol.specs.Step.{copy, Taking, encoded}
use Rattle.protocol.specs.Variables.{reads_of, writes_of}
use Rattle.exchange.specs.declared.Cursor.{Cursor}
use Rattle.exchange.proofs.Records.{bytes-few}
use Rattle.exchange.proofs.Stretches.{copy-append}
use Rattle.records.specs.File.{cores, data_size}
use Rattle.taskset.specs.Task.{sizes_of, variables_of}
use Rattle.taskset.proofs.Accepted.{length-listed}
use Rattle.states.specs.Set.{AcceptedSet}
use Rattle.states.specs.Task.{task_of}
use Rattle.states.specs.declared.CoreTask.{CoreTask}
use Rattle.states.specs.Tasks.{core_task}
use Rattle.states.specs.Machine.{no_registers, stack_in, core_in}
use Rattle.states.specs.Fit.{FitCore}
use Rattle.states.proofs.Executes.{executes}
use Rattle.steps.specs.Bytes.{Ahead, BytesRead, BytesMoved}
use Rattle.steps.specs.Effects.{Effect, ByteRead, ByteWritten, registers_by, stack_by, semaphore_by, taken_by, Does}
use Rattle.steps.specs.Moving.{StepGiven, CursorAimed}
use Rattle.steps.proofs.Given.{reading-ahead, writing-ahead, read_more, write-more}
use Rattle.order.specs.Order.{AllOn}
use Rattle.runner.specs.Running.{bytes_on, Running, RunningAt}
use Rattle.runner.proofs.Running.{core-in, running-on}
use Rattle.runner.proofs.Loop.{aimed_on, holds}

-- ---- bytes that leave one

-- such a number of bytes is one of an exchange number
pub ahead-few : {f t : List ℕ} {k : ℕ} {c : CoreTask} {r : Registers} {d : List ℕ} → StepGiven f t k c r d → (m : ℕ) → Ahead c r m → r.exchange + m < 65536
ahead-few {f} {t} {k} w m (inl a) = omega (arith, reading-ahead w m (inl a) a.0, bytes-few f (4 + k) w.accepted.laid)
ahead-few {f} {t} {k} w m (inr a) = omega (arith, (writing-ahead w m (inr a) (λ e. omega (arith, a.0, e))).1, bytes-few f k w.accepted.laid)

-- ---- the data

length-copy : (ms : List Move) (from to : List ℕ) → length (copy ms from to) ≡ length to
length-copy [] from to = refl
length-copy (m ∷ ms) from to = length-copy ms from (set to m.target (get_or from m.source 0)) ∙ length-set to m.target (get_or from m.source 0)

-- one byte, then n more
copy_more : (l : List Move) (x n : ℕ) (from to : List ℕ)
    → copy (take (suc n) (drop x l)) from to ≡ copy (take n (drop (x + 1) l)) from (copy (take 1 (drop x l)) from to)
copy_more l x n from to =
    let e : suc n ≡ 1 + n = omega arith in
    ap (λ (m : ℕ). copy (take m (drop x l)) from to) e
    ∙ ap (λ (ms : List Move). copy ms from to) (take-add 1 n (drop x l))
    ∙ copy-append (take 1 (drop x l)) (take n (drop 1 (drop x l))) from to
    ∙ ap (λ (ms : List Move). copy (take n ms) from (copy (take 1 (drop x l)) from to)) (drop-drop 1 x l)

same-data : (ns d d' : List ℕ) → length d ≡ total ns → length d' ≡ length d → split ns d' ≡ split ns d → d' ≡ d
same-data ns d d' n l e = sym (flat-split ns d' (sym (l ∙ n))) ∙ ap flat e ∙ flat-split ns d (sym n)

-- the buffer with other data of core k
module _ (ns d : List ℕ) (k : ℕ) (m : List ℕ) (n : length d ≡ total ns) (l : length m ≡ length (get_or (split ns d) k [])) where
  lengths-with : map length (set (split ns d) k m) ≡ ns
  lengths-with = map-set_same length (split ns d) k m [] l ∙ lengths-split ns d (omega arith)

  split-with : split ns (flat (set (split ns d) k m)) ≡ set (split ns d) k m
  split-with = split-flat-of ns (set (split ns d) k m) lengths-with

  length-with : length (flat (set (split ns d) k m)) ≡ length d
  length-with = length-flat (set (split ns d) k m) ∙ ap total lengths-with ∙ sym n

length-sizes : (f : List ℕ) → length (sizes_of f) ≡ cores f
unfolding sizes_of
length-sizes f = length-listed (data_size f) (cores f) 0

none-listed : (list : List ℕ) (n : ℕ) → list ≡ splice list n []
unfolding splice
none-listed list n = refl

-- the registers after one byte and n more
bytes-more : (r : Registers) (n : ℕ) → bytes_on (byte_copied r) n ≡ bytes_on r (suc n)
unfolding byte_copied
bytes-more r n = let e : r.exchange + 1 + n ≡ r.exchange + suc n = omega arith in (λ i. record {
  mode = r.mode;
  counter = r.counter;
  offset = r.offset;
  depth = r.depth;
  count = r.count;
  exchange = e i;
  cycles = r.cycles;
  flags = r.flags;
  time = r.time;
})

bytes-none : (r : Registers) → bytes_on r 0 ≡ r
bytes-none r = λ i. record {
  mode = r.mode;
  counter = r.counter;
  offset = r.offset;
  depth = r.depth;
  count = r.count;
  exchange = add-zero r.exchange i;
  cycles = r.cycles;
  flags = r.flags;
  time = r.time;
}

byte-mode : (r : Registers) → (byte_copied r).mode ≡ r.mode
unfolding byte_copied
byte-mode r = refl

byte-exchange : (r : Registers) → (byte_copied r).exchange ≡ r.exchange + 1
unfolding byte_copied
byte-exchange r = refl

module _ (f t order list₀ : List ℕ) (s₀ : State) (cs₀ : List Registers) (places₀ offsets₀ places offsets : List ℕ) (h : Semaphore) (taken : ℕ) (list : List ℕ)
    (ok : AcceptedSet f t) (k : ℕ) (ik : k < cores f) where
  -- ---- one step

  abbrev Before : ℕ → List Registers → List ℕ → List ℕ → Type 0
  Before i cs d sh = Running f t order list₀ s₀ cs₀ places₀ offsets₀ i cs places offsets h taken d sh list

  core-ready : {i : ℕ} {cs : List Registers} {d sh : List ℕ} → Before i cs d sh → StepGiven f t k (core_task f t k) (get_or cs k no_registers) (get_or (split (sizes_of f) d) k [])
  core-ready {i} {cs} {d} {sh} w = record {
    accepted = ok;
    known = ik;
    task = refl;
    stack = stack_in places offsets k;
    fit = subst (FitCore f t k) (core-in f cs places offsets h d sh k ik) (w.fit.each k ik);
  }

  in_table : {i : ℕ} {cs : List Registers} {d sh : List ℕ} → Before i cs d sh → k < length cs
  in_table w = omega (arith, ok.few, w.four)

  byte_step : {i : ℕ} {cs : List Registers} {d sh : List ℕ} → Before i cs d sh → i < length order → get_or order i 0 ≡ k → (r : Registers) → get_or cs k no_registers ≡ r
      → (z : Effect) → ((c : Core) → registers_by z c ≡ byte_copied c.registers) → ((c : Core) → stack_by z c ≡ c.stack) → semaphore_by z k h ≡ h → taken_by z k ≡ []
      → (m d₁ sh₁ : List ℕ) → Does (task_of f t) k (get_or cs k no_registers) (get_or (split (sizes_of f) d) k []) sh h z m sh₁ → split (sizes_of f) d₁ ≡ set (split (sizes_of f) d) k m → length d₁ ≡ length d
      → Before (i + 1) (set cs k (byte_copied r)) d₁ sh₁
  byte_step {i} {cs} {d} {sh} w b e r re z rs ss hs none-taken m d₁ sh₁ y kept l =
      running-on f t ok (executes f t ok) order list₀ s₀ cs₀ places₀ offsets₀ i cs places offsets h taken d sh list w b k e ik ok.few z m sh₁ (set cs k (byte_copied r)) places offsets h taken d₁ list y
      record {
        registers = ap (set cs k) (ap byte_copied (sym re) ∙ sym (rs (core_in f cs places offsets d k)));
        stack = sym (ss (core_in f cs places offsets d k));
        stacks = λ j n. refl;
        semaphore = sym hs;
        memory = kept;
      }
      (none-listed list taken ∙ ap (λ (xs : List Taking). splice list taken (map encoded xs)) (sym none-taken))
      (sym (ap (λ (xs : List Taking). taken + length xs) none-taken ∙ add-zero taken)) (rw none-taken (omega arith)) w.entries l

  -- no step
  no_step : {i : ℕ} {cs : List Registers} {d sh : List ℕ} → Before i cs d sh → (r : Registers) → get_or cs k no_registers ≡ r → (d' sh' : List ℕ) → d' ≡ d → sh' ≡ sh → Before (i + 0) (set cs k (bytes_on r 0)) d' sh'
  no_step {i} {cs} {d} {sh} w r re d' sh' de se =
      rw (add-zero i, de, se) (subst (λ (u : List Registers). Before i u d sh) (sym (ap (set cs k) (bytes-none r ∙ sym re) ∙ set-get_or cs k no_registers)) w)

  -- the steps after the first, with the registers and the place as the first one leaves them
  after_first : (i n : ℕ) (cs : List Registers) {d sh : List ℕ} (r : Registers) → Before (i + 1 + n) (set (set cs k (byte_copied r)) k (bytes_on (byte_copied r) n)) d sh → Before (i + suc n) (set cs k (bytes_on r (suc n))) d sh
  after_first i n cs {d} {sh} r w =
      let e : i + 1 + n ≡ i + suc n = omega arith in
      subst (λ (j : ℕ). Before j (set cs k (bytes_on r (suc n))) d sh) e
      (subst (λ (u : List Registers). Before (i + 1 + n) u d sh) (set-set cs k (byte_copied r) (bytes_on (byte_copied r) n) ∙ ap (set cs k) (bytes-more r n)) w)

  -- ---- a reading

  pub reading-steps : (n : ℕ) {i : ℕ} {cs : List Registers} {d sh : List ℕ} → Before i cs d sh → (r : Registers) → get_or cs k no_registers ≡ r → r.mode ≡ 1 → r.exchange + n < (core_task f t k).reads
      → AllOn order k i n → i + n ≤ length order → (d' : List ℕ) → BytesRead f k r.exchange n sh d d' → length d' ≡ length d → Before (i + n) (set cs k (bytes_on r n)) d' sh
  reading-steps zero {i} {cs} {d} {sh} w r re m x a b d' q l =
      no_step w r re d' sh (same-data (sizes_of f) d d' w.buffer l (q ∙ set-get_or (split (sizes_of f) d) k [])) refl
  reading-steps (suc n) {i} {cs} {d} {sh} w r re m x a b d' q l =
      let ns = sizes_of f in
      let bytes = reads_of (variables_of f) k in
      let before = get_or (split ns d) k [] in
      let after = copy (take 1 (drop r.exchange bytes)) sh before in
      let same : length after ≡ length before = length-copy (take 1 (drop r.exchange bytes)) sh before in
      let d₁ = flat (set (split ns d) k after) in
      let kept : split ns d₁ ≡ set (split ns d) k after = split-with ns d k after w.buffer same in
      let long : length d₁ ≡ length d = length-with ns d k after w.buffer same in
      let inside : k < length (split ns d) = omega (arith, length-split ns d, length-sizes f) in
      let y : Does (task_of f t) k (get_or cs k no_registers) before sh h ByteRead after sh =
      read_more (core-ready w) sh h after (ap (λ (u : Registers). u.mode) re ∙ m) (rw re (omega arith)) (ap (λ (u : Registers). copy (take 1 (drop u.exchange bytes)) sh before) (sym re)) in
      let w₁ : Before (i + 1) (set cs k (byte_copied r)) d₁ sh = byte_step w (omega arith) (a i (omega arith) (omega arith)) r re ByteRead (λ c. refl) (λ c. refl) refl refl after d₁ sh y kept long in
      let here : get_or (split ns d₁) k [] ≡ after = ap (λ (u : List (List ℕ)). get_or u k []) kept ∙ get_or-set_same (split ns d) k after [] inside in
      let q₁ : BytesRead f k (byte_copied r).exchange n sh d₁ d' =
      q ∙ ap (set (split ns d) k) (copy_more bytes r.exchange n sh before) ∙ sym (set-set (split ns d) k after _)
      ∙ ap₂ (λ (u : List (List ℕ)) (v : List ℕ). set u k (copy (take n (drop (r.exchange + 1) bytes)) sh v)) (sym kept) (sym here)
      ∙ ap (λ (u : ℕ). set (split ns d₁) k (copy (take n (drop u bytes)) sh (get_or (split ns d₁) k []))) (sym (byte-exchange r)) in
      after_first i n cs r (reading-steps n w₁ (byte_copied r) (get_or-set_same cs k (byte_copied r) no_registers (in_table w)) (byte-mode r ∙ m) (omega (arith, byte-exchange r)) (λ j u v. a j (omega arith) (omega arith)) (omega arith) d' q₁ (l ∙ sym long))

  -- ---- a writing

  pub writing-steps : (n : ℕ) {i : ℕ} {cs : List Registers} {d sh : List ℕ} → Before i cs d sh → (r : Registers) → get_or cs k no_registers ≡ r → r.mode ≡ 4 → r.exchange + n < (core_task f t k).writes
      → AllOn order k i n → i + n ≤ length order → (sh' : List ℕ) → sh' ≡ copy (take n (drop r.exchange (writes_of (variables_of f) k))) (get_or (split (sizes_of f) d) k []) sh
      → Before (i + n) (set cs k (bytes_on r n)) d sh'
  writing-steps zero {i} {cs} {d} {sh} w r re m x a b sh' q = no_step w r re d sh' refl q
  writing-steps (suc n) {i} {cs} {d} {sh} w r re m x a b sh' q =
      let bytes = writes_of (variables_of f) k in
      let own = get_or (split (sizes_of f) d) k [] in
      let sh₁ = copy (take 1 (drop r.exchange bytes)) own sh in
      let y : Does (task_of f t) k (get_or cs k no_registers) own sh h ByteWritten own sh₁ =
      write-more (core-ready w) sh h sh₁ (ap (λ (u : Registers). u.mode) re ∙ m) (rw re (omega arith)) (ap (λ (u : Registers). copy (take 1 (drop u.exchange bytes)) own sh) (sym re)) in
      let w₁ : Before (i + 1) (set cs k (byte_copied r)) d sh₁ =
      byte_step w (omega arith) (a i (omega arith) (omega arith)) r re ByteWritten (λ c. refl) (λ c. refl) refl refl own d sh₁ y (sym (set-get_or (split (sizes_of f) d) k [])) refl in
      after_first i n cs r (writing-steps n w₁ (byte_copied r) (get_or-set_same cs k (byte_copied r) no_registers (in_table w)) (byte-mode r ∙ m) (omega (arith, byte-exchange r)) (λ j u v. a j (omega arith) (omega arith)) (omega arith) sh'
      (q ∙ copy_more bytes r.exchange n own sh ∙ ap (λ (u : ℕ). copy (take n (drop u bytes)) own sh₁) (sym (byte-exchange r))))

-- ---- both, with the cursor

module _ {f t : List ℕ} {order list₀ : List ℕ} {s₀ : State} {cs₀ : List Registers} {places₀ offsets₀ : List ℕ}
    {i : ℕ} {cs : List Registers} {places offsets : List ℕ} {h : Semaphore} {taken : ℕ} {d sh list : List ℕ} {cursor : Cursor}
    (w : RunningAt f t order list₀ s₀ cs₀ places₀ offsets₀ i cs places offsets h taken d sh list cursor) (ok : AcceptedSet f t) {k : ℕ} (ik : k < cores f) {c : CoreTask} (task : c ≡ core_task f t k) where
  abbrev After : ℕ → List Registers → List ℕ → List ℕ → Cursor → Type 0
  After i' cs' d' sh' cursor' = RunningAt f t order list₀ s₀ cs₀ places₀ offsets₀ i' cs' places offsets h taken d' sh' list cursor'

  -- with other names for the table, for shared memory and for the cursor
  named-as : {i' : ℕ} {cs' cs'' : List Registers} {d' sh' sh'' : List ℕ} {cursor' cursor'' : Cursor} → cs'' ≡ cs' → sh'' ≡ sh' → cursor'' ≡ cursor' → After i' cs' d' sh' cursor' → After i' cs'' d' sh'' cursor''
  named-as {i'} {cs'} {cs''} {d'} {sh'} {sh''} {cursor'} {cursor''} a b e u =
      subst⁻¹ (λ (x : List Registers). After i' x d' sh'' cursor'') a (subst⁻¹ (λ (x : List ℕ). After i' cs' d' x cursor'') b (subst⁻¹ (λ (x : Cursor). After i' cs' d' sh' x) e u))

  -- core k is the holder before and after, and its exchange stands at the cursor
  aimed-at : h.holder ≡ suc k → (r : Registers) (next : Cursor) → CursorAimed f k r next → (j : ℕ) → j < cores f → h.holder ≡ suc j → CursorAimed f j (get_or (set cs k r) j no_registers) next
  aimed-at e r next a = aimed_on f cs k r h.holder next (omega (arith, ok.few, w.running.four)) (λ u. a) (λ j n l u. absurd (n (omega arith)))

  pub bytes-arm : {m : ℕ} → Ahead c (get_or cs k no_registers) m → i + m ≤ length order → AllOn order k i m
      → {next : Cursor} {d' sh' : List ℕ} → BytesMoved f k (get_or cs k no_registers) m next d sh d' sh' → length d' ≡ length d
      → {r' : Registers} {cs' : List Registers} {cursor' : Cursor} → r' ≡ bytes_on (get_or cs k no_registers) m → cs' ≡ set cs k r' → cursor' ≡ next → After (i + m) cs' d' sh' cursor'
  bytes-arm {m} (inl (e, x)) b a {next} {d'} y l re ce ae =
      let q = y.reading e in
      named-as (ce ∙ ap (set cs k) re) q.2 ae record {
        running = reading-steps _ _ _ _ _ _ _ _ _ _ _ _ _ ok k ik m w.running _ refl e (subst (λ (u : CoreTask). (get_or cs k no_registers).exchange + m < u.reads) task x) a b d' q.1 l;
        aimed = aimed-at (holds w ik (inl e)) _ next record { reading = λ n. q.0; writing = λ n. absurd (omega (arith, e, n)) };
      }
  bytes-arm {m} (inr (e, x)) b a {next} {d'} {sh'} y l {r'} {cs'} {cursor'} re ce ae =
      let q = y.writing e in
      subst⁻¹ (λ (u : List ℕ). After (i + m) cs' u sh' cursor') q.2
      (named-as (ce ∙ ap (set cs k) re) refl ae record {
        running = writing-steps _ _ _ _ _ _ _ _ _ _ _ _ _ ok k ik m w.running _ refl e (subst (λ (u : CoreTask). (get_or cs k no_registers).exchange + m < u.writes) task x) a b sh' q.1;
        aimed = aimed-at (holds w ik (inr e)) _ next record { reading = λ n. absurd (omega (arith, e, n)); writing = λ n. q.0 };
      })
