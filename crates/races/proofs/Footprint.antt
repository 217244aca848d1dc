-- The first claim of specs/Footprint: footprints are right. A step changes only places that it writes, and what it writes there depends only on places
-- that it reads. In order: what a step changes; on what it depends; the claim.
-- Not here: the places themselves (`Places`), that cores do not race (`RaceFree`), steps that change places (`Swaps`). Assumes nothing.
use mathlib.Core.Path.{◌≡◌, refl, sym, ap, ◌∙◌, subst}
use mathlib.Core.Logic.{◌≢◌, inl, inr}
use mathlib.Core.Bool.{Bool, true, false}
use mathlib.Core.List.{List, [], ◌∷◌, ◌++◌}
use Prim.Native.Nat.{ℕ, zero, suc, ◌<◌}
use native.Mathlib.Decide.{ℕ_discrete}
use native.Mathlib.Omega.{arith}
use lib.Dec.{eqb}
use lib.ListN.{length, get_or, set, take, drop}
use lib.Seq.{get_or-set_other}
use Rattle.verdict.specs.Verdict.{pick}
use Rattle.protocol.specs.Modes.{stopped}
use Rattle.protocol.specs.State.{Core, Semaphore, State, Move, Sample, Task, absent, mode}
use Rattle.protocol.specs.Step.{acquired_by, released, joined_by, copy, uncopied, turn, read_taken, read_next, read_done, write_taken, write_next, write_done, take_read, read_on, take_write, write_on, step_in, step, Taking, taken, taking_of}
use Rattle.protocol.specs.Laws.{Laws}
use Rattle.protocol.specs.Variables.{In}
use Rattle.races.specs.Footprint.{Place, control, local, byte, semaphore, Control, control_of, SameAt, stretch, DataFootprints, SameSources, DataFootprintsRight, Footprint, locals, inputs, unspent, taking_writes}
use Rattle.races.specs.Footprint.{sources, targets, release, footprint_in, footprint, Writes, SameRead, FootprintRight}
use Rattle.protocol.proofs.View.{inside, there, Wants, after, at, Moves, rests, waits, takes_read, reads_on, reads_last, runs, takes_write, writes_on, writes_last, view, past-modes}
use Rattle.protocol.proofs.Bytes.{in_left, in_right}
use Rattle.protocol.proofs.Steps.{lengths}
use Rattle.races.proofs.Stretch.{store_same, splice-outside, splice-inside}
use Rattle.races.proofs.Places.{in?, in-locals, by-local, with_data, by-control}

-- ---- what a step changes

-- core k, shared memory and the semaphore are replaced: each other place keeps what it has, and a byte of core k's data where it is the same
elsewhere : (s : State) (k : ℕ) (c : Core) (sh : List ℕ) (m : Semaphore) → k < length s.plant.cores → (p : Place) → p ≢ control k
    → ((i : ℕ) → p ≡ local k i → get_or (at s k).memory i 0 ≡ get_or c.memory i 0) → ((i : ℕ) → p ≡ byte i → get_or s.plant.shared i 0 ≡ get_or sh i 0)
    → (p ≡ semaphore → s.semaphore ≡ m) → SameAt p s (after s k c sh m)
elsewhere s k c sh m h (control j) n d b e = sym (ap control_of (get_or-set_other s.plant.cores k j c absent (λ z. n (ap control z))))
elsewhere s k c sh m h (local j i) n d b e = go (ℕ_discrete j k)
  where
    go : Dec (j ≡ k) → SameAt (local j i) s (after s k c sh m)
    go (yes z) = rw z (d i (ap (λ (j : ℕ). local j i) z) ∙ sym (ap (λ (c : Core). get_or c.memory i 0) (there s k c h)))
    go (no z) = sym (ap (λ (c : Core). get_or c.memory i 0) (get_or-set_other s.plant.cores k j c absent z))
elsewhere s k c sh m h (byte i) n d b e = b i refl
elsewhere s k c sh m h semaphore n d b e = e refl

-- a step of an exchange keeps the other bytes, of shared memory or of data
copy-kept : (place : ℕ → Place) (ms : List Move) (from to : List ℕ) (p : Place) → (In p (targets place ms) → ⊥) → (i : ℕ) → p ≡ place i
    → get_or to i 0 ≡ get_or (copy (take 1 ms) from to) i 0
copy-kept place [] from to p n i e = refl
copy-kept place (m ∷ ms) from to p n i e = sym (get_or-set_other to m.target i (get_or from m.source 0) 0 (λ z. n (inl (e ∙ ap place z))))

module _ (t : Task) (o : DataFootprints) (right : DataFootprintsRight t o) (k : ℕ) (s : State) where
  -- a core that waits writes the line
  wants-semaphore : Wants t k s → Writes t o k s semaphore
  unfolding footprint pick
  wants-semaphore (inr e) = rw e (go (turn s.semaphore k))
    where
      go : (b : Bool) → In semaphore (taking_writes b k [])
      go true = inr (inl refl)
      go false = inl refl
  wants-semaphore (inl w) = rw w.0 (go (drop (at s k).registers.cycles (t.samples k)) w.1 (turn s.semaphore k))
    where
      go : (rs : List Sample) → rs ≢ [] → (b : Bool) → In semaphore (unspent rs (taking_writes b k (inputs k rs)))
      go [] n b = absurd (n refl)
      go (r ∷ rs) n true = inr (inl refl)
      go (r ∷ rs) n false = inl refl

  changes-of : (s' : State) (ts : List Taking) → Moves t k s s' ts → (p : Place) → (Writes t o k s p → ⊥) → SameAt p s s'
  unfolding footprint read_taken read_next read_done write_taken write_next write_done pick
  changes-of s' ts (rests z) p n = refl
  changes-of s' ts (waits i w b) (control j) n = refl
  changes-of s' ts (waits i w b) (local j a) n = refl
  changes-of s' ts (waits i w b) (byte j) n = refl
  changes-of s' ts (waits i w b) semaphore n = absurd (n (wants-semaphore w))
  changes-of s' ts (takes_read r rs i f b e d) p n =
      let n = rw (e, d, b) at n in
      elsewhere s k _ _ _ i p (λ z. n (inl z))
      (λ a z. splice-outside (at s k).memory 0 r.input a (λ h. n (inr (inr (subst (λ (q : Place). In q (locals k (stretch 0 (length r.input)))) (sym z) (in-locals k (stretch 0 (length r.input)) a h))))))
      (λ i z. refl) (λ z. absurd (n (inr (inl z))))
  changes-of s' ts (reads_on m ms i e d) p n =
      let n = rw (e, d) at n in
      elsewhere s k _ _ _ i p (λ z. n (inl z)) (copy-kept (local k) (uncopied (at s k) (t.reads k)) s.plant.shared (at s k).memory p (λ h. n (inr h))) (λ i z. refl) (λ z. refl)
  changes-of s' ts (reads_last i e d) p n =
      let n = rw (e, d) at n in
      elsewhere s k _ _ _ i p (λ z. n (inl z)) (copy-kept (local k) (uncopied (at s k) (t.reads k)) s.plant.shared (at s k).memory p (λ h. n (inr (inr h)))) (λ i z. refl)
      (λ z. absurd (n (inr (inl z))))
  changes-of s' ts (runs i e) p n =
      let n = rw e at n in
      elsewhere s k _ _ _ i p (λ z. n (inl z)) (λ a z. right.changes k (at s k) a (λ h. n (inr (subst (λ (q : Place). In q (locals k (o k (at s k)).writes)) (sym z) (in-locals k (o k (at s k)).writes a h))))) (λ i z. refl) (λ z. refl)
  changes-of s' ts (takes_write i f b e) p n =
      let n = rw (e, b) at n in elsewhere s k _ _ _ i p (λ z. n (inl z)) (λ a z. refl) (λ i z. refl) (λ z. absurd (n (inr (inl z))))
  changes-of s' ts (writes_on m ms i e d) p n =
      let n = rw (e, d) at n in
      elsewhere s k _ _ _ i p (λ z. n (inl z)) (λ a z. refl) (copy-kept byte (uncopied (at s k) (t.writes k)) (at s k).memory s.plant.shared p (λ h. n (inr h))) (λ z. refl)
  changes-of s' ts (writes_last i e d) p n =
      let n = rw (e, d) at n in
      elsewhere s k _ _ _ i p (λ z. n (inl z)) (λ a z. refl) (copy-kept byte (uncopied (at s k) (t.writes k)) (at s k).memory s.plant.shared p (λ h. n (inr (inr h))))
      (λ z. absurd (n (inr (inl z))))

  pub unwritten : (p : Place) → (Writes t o k s p → ⊥) → SameAt p s (step t k s)
  unwritten = changes-of (step t k s) (taking_of t k s) (view t k s)

-- ---- on what a step depends

-- a stopped core reads its registers, and writes nothing
pub stopped-places : (n : ℕ) (t : Task) (o : DataFootprints) (k : ℕ) (c : Core) (b : Bool) → footprint_in (suc (suc (suc (suc (suc n))))) t o k c b ≡ record { reads = control k ∷ []; writes = [] }
unfolding pick
stopped-places n t o k c b =
    let past : (i : ℕ) → i < stopped → eqb (suc (suc (suc (suc (suc n))))) i ≡ false = λ i l. past-modes (suc (suc (suc (suc (suc n))))) i (omega arith) l in
    rw (past 0 (omega arith), past 1 (omega arith), past 2 (omega arith), past 3 (omega arith), past 4 (omega arith))

-- every step reads its core's registers
control-read : (n : ℕ) (t : Task) (o : DataFootprints) (k : ℕ) (c : Core) (b : Bool) → In (control k) (footprint_in n t o k c b).reads
unfolding pick
control-read zero t o k c b = inl refl
control-read (suc zero) t o k c b = inl refl
control-read (suc (suc zero)) t o k c b = inl refl
control-read (suc (suc (suc zero))) t o k c b = inl refl
control-read (suc (suc (suc (suc zero)))) t o k c b = inl refl
control-read (suc (suc (suc (suc (suc n))))) t o k c b = rw (stopped-places n t o k c b) (inl refl)

-- what a step of an exchange copies, where the byte that it copies is the same
copied-same : (place to-place : ℕ → Place) (ms : List Move) (from from' to to' : List ℕ) → length to ≡ length to'
    → ((i : ℕ) → In (place i) (sources place ms) → get_or from i 0 ≡ get_or from' i 0) → (P : Place → Type 0)
    → ((i : ℕ) → get_or (copy (take 1 ms) from to) i 0 ≡ get_or (copy (take 1 ms) from' to') i 0 → P (to-place i)) → (p : Place) → In p (targets to-place ms) → P p
copied-same place to-place [] from from' to to' l a P f p h = absurd h
copied-same place to-place (m ∷ ms) from from' to to' l a P f p (inl e) =
    subst P (sym e)
    (f m.target
    (store_same to to' m.target (get_or from m.source 0) l
    ∙ ap (λ (v : ℕ). get_or (set to' m.target v) m.target 0) (a m.source (inl refl))))
copied-same place to-place (m ∷ ms) from from' to to' l a P f p (inr h) = absurd h

-- s, and s' whose core k has the same registers and call stack, and data d of the same size
module _ (t : Task) (o : DataFootprints) (right : DataFootprintsRight t o) (k : ℕ) (s s' : State) (size : length s.plant.shared ≡ length s'.plant.shared)
    (same : control_of (at s k) ≡ control_of (at s' k)) (d : List ℕ) (data-size : length (at s k).memory ≡ length d) where
  abbrev other : Core
  other = with_data (control_of (at s k)) d

  -- core k is replaced: its registers with its call stack, a byte of its data
  control-same : {n : ℕ} → mode (at s k) ≡ n → n < 5 → (c c' : Core) (sh sh' : List ℕ) (m m' : Semaphore) → control_of c ≡ control_of c'
      → (p : Place) → p ≡ control k → SameAt p (after s k c sh m) (after s' k c' sh' m')
  control-same {n} e h c c' sh sh' m m' z p y =
      rw y
      (ap control_of (there s k c (inside s.plant.cores k n e h))
      ∙ z
      ∙ sym (ap control_of (there s' k c' (inside s'.plant.cores k n (sym (ap (λ (c : Control). c.registers.mode) same) ∙ e) h))))

  local_same : {n : ℕ} → mode (at s k) ≡ n → n < 5 → (c c' : Core) (i : ℕ) → get_or c.memory i 0 ≡ get_or c'.memory i 0
      → get_or (get_or (set s.plant.cores k c) k absent).memory i 0 ≡ get_or (get_or (set s'.plant.cores k c') k absent).memory i 0
  local_same {n} e h c c' i z =
      ap (λ (c : Core). get_or c.memory i 0) (there s k c (inside s.plant.cores k n e h))
      ∙ z
      ∙ sym (ap (λ (c : Core). get_or c.memory i 0) (there s' k c' (inside s'.plant.cores k n (sym (ap (λ (c : Control). c.registers.mode) same) ∙ e) h)))

  -- mode by mode
  same0 : mode (at s k) ≡ 0 → (r : Sample) (rs : List Sample) (b : Bool) → s.semaphore ≡ s'.semaphore → (p : Place) → In p (taking_writes b k (inputs k (r ∷ rs)))
      → SameAt p (take_read (r ∷ rs) b k (at s k) s) (take_read (r ∷ rs) b k other s')
  unfolding read_taken
  same0 e r rs true q p (inl y) = control-same e (omega arith) (read_taken r (at s k)) (read_taken r other) _ _ _ _ refl p y
  same0 e r rs true q p (inr (inl y)) = rw y (ap (acquired_by k) q)
  same0 e r rs true q p (inr (inr h)) =
      by-local (λ (p : Place). SameAt p (take_read (r ∷ rs) true k (at s k) s) (take_read (r ∷ rs) true k other s')) k (stretch 0 (length r.input))
      (λ i m. local_same e (omega arith) (read_taken r (at s k)) (read_taken r other) i (splice-inside (at s k).memory d 0 r.input i data-size m)) p h
  same0 e r rs false q p (inl y) = rw y (ap (joined_by k) q)
  same0 e r rs false q p (inr h) = absurd h

  same1 : mode (at s k) ≡ 1 → (ms ns : List Move) → ((p : Place) → In p (release ns) → SameAt p s s') → ((i : ℕ) → In (byte i) (sources byte ms) → SameAt (byte i) s s')
      → (p : Place) → In p (control k ∷ release ns ++ targets (local k) ms)
      → SameAt p (read_on ns (copy (take 1 ms) s.plant.shared (at s k).memory) k (at s k) s) (read_on ns (copy (take 1 ms) s'.plant.shared d) k other s')
  unfolding read_next read_done
  same1 e ms [] a b p (inl y) = control-same e (omega arith) _ _ _ _ _ _ refl p y
  same1 e ms [] a b p (inr (inl y)) = rw y (ap released (a semaphore (inl refl)))
  same1 e ms [] a b p (inr (inr h)) =
      copied-same byte (local k) ms s.plant.shared s'.plant.shared (at s k).memory d data-size b
      (λ (p : Place). SameAt p (read_on [] (copy (take 1 ms) s.plant.shared (at s k).memory) k (at s k) s) (read_on [] (copy (take 1 ms) s'.plant.shared d) k other s'))
      (λ i z. local_same e (omega arith) _ _ i z) p h
  same1 e ms (n ∷ ns) a b p (inl y) = control-same e (omega arith) _ _ _ _ _ _ refl p y
  same1 e ms (n ∷ ns) a b p (inr h) =
      copied-same byte (local k) ms s.plant.shared s'.plant.shared (at s k).memory d data-size b
      (λ (p : Place). SameAt p (read_on (n ∷ ns) (copy (take 1 ms) s.plant.shared (at s k).memory) k (at s k) s) (read_on (n ∷ ns) (copy (take 1 ms) s'.plant.shared d) k other s'))
      (λ i z. local_same e (omega arith) _ _ i z) p h

  same2 : mode (at s k) ≡ 2 → SameSources o k (at s k) other → (p : Place) → In p (control k ∷ locals k (o k (at s k)).writes) → SameAt p (step_in 2 t k (at s k) s) (step_in 2 t k other s')
  unfolding pick
  same2 e a p (inl y) = control-same e (omega arith) _ _ _ _ _ _ (right.control-after k (at s k) other a) p y
  same2 e a p (inr h) =
      by-local (λ (p : Place). SameAt p (step_in 2 t k (at s k) s) (step_in 2 t k other s')) k (o k (at s k)).writes
      (λ i m. local_same e (omega arith) _ _ i (right.written k (at s k) other a i m)) p h

  same3 : mode (at s k) ≡ 3 → (b : Bool) → s.semaphore ≡ s'.semaphore → (p : Place) → In p (taking_writes b k []) → SameAt p (take_write b k (at s k) s) (take_write b k other s')
  unfolding write_taken
  same3 e true q p (inl y) = control-same e (omega arith) (write_taken (at s k)) (write_taken other) _ _ _ _ refl p y
  same3 e true q p (inr (inl y)) = rw y (ap (acquired_by k) q)
  same3 e true q p (inr (inr h)) = absurd h
  same3 e false q p (inl y) = rw y (ap (joined_by k) q)
  same3 e false q p (inr h) = absurd h

  same4 : mode (at s k) ≡ 4 → (ms ns : List Move) → ((p : Place) → In p (release ns) → SameAt p s s')
      → ((i : ℕ) → In (local k i) (sources (local k) ms) → get_or (at s k).memory i 0 ≡ get_or d i 0) → (p : Place) → In p (control k ∷ release ns ++ targets byte ms)
      → SameAt p (write_on ns (copy (take 1 ms) (at s k).memory s.plant.shared) k (at s k) s) (write_on ns (copy (take 1 ms) d s'.plant.shared) k other s')
  unfolding write_next write_done
  same4 e ms [] a b p (inl y) = control-same e (omega arith) _ _ _ _ _ _ refl p y
  same4 e ms [] a b p (inr (inl y)) = rw y (ap released (a semaphore (inl refl)))
  same4 e ms [] a b p (inr (inr h)) =
      copied-same (local k) byte ms (at s k).memory d s.plant.shared s'.plant.shared size b
      (λ (p : Place). SameAt p (write_on [] (copy (take 1 ms) (at s k).memory s.plant.shared) k (at s k) s) (write_on [] (copy (take 1 ms) d s'.plant.shared) k other s'))
      (λ i z. z) p h
  same4 e ms (n ∷ ns) a b p (inl y) = control-same e (omega arith) _ _ _ _ _ _ refl p y
  same4 e ms (n ∷ ns) a b p (inr h) =
      copied-same (local k) byte ms (at s k).memory d s.plant.shared s'.plant.shared size b
      (λ (p : Place). SameAt p (write_on (n ∷ ns) (copy (take 1 ms) (at s k).memory s.plant.shared) k (at s k) s) (write_on (n ∷ ns) (copy (take 1 ms) d s'.plant.shared) k other s'))
      (λ i z. z) p h

module _ (t : Task) (o : DataFootprints) (right : DataFootprintsRight t o) (k : ℕ) (s s' : State) (size : length s.plant.shared ≡ length s'.plant.shared)
    (same : control_of (at s k) ≡ control_of (at s' k)) (data-size : length (at s k).memory ≡ length (at s' k).memory) where
  -- core k of s', by the registers and the call stack that it has in s
  abbrev there-too : Core
  there-too = with_data (control_of (at s k)) (at s' k).memory

  same-sources : ((p : Place) → In p (control k ∷ locals k (o k (at s k)).reads) → SameAt p s s') → SameSources o k (at s k) there-too
  same-sources a = record { same-control = refl; size = data-size; read = λ i h. a (local k i) (inr (in-locals k (o k (at s k)).reads i h)) }

  -- the places
  places-in : (n : ℕ) → ((p : Place) → In p (footprint_in n t o k (at s k) (turn s.semaphore k)).reads → SameAt p s s')
      → footprint_in n t o k (at s k) (turn s.semaphore k) ≡ footprint_in n t o k there-too (turn s'.semaphore k)
  unfolding pick
  places-in zero a = go (drop (at s k).registers.cycles (t.samples k)) a
    where
      go : (rs : List Sample) → ((p : Place) → In p (control k ∷ unspent rs (semaphore ∷ [])) → SameAt p s s')
          → ◌≡◌ {A = Footprint} (record { reads = control k ∷ unspent rs (semaphore ∷ []); writes = unspent rs (taking_writes (turn s.semaphore k) k (inputs k rs)) })
          (record { reads = control k ∷ unspent rs (semaphore ∷ []); writes = unspent rs (taking_writes (turn s'.semaphore k) k (inputs k rs)) })
      go [] a = refl
      go (r ∷ rs) a = ap (λ (m : Semaphore). record { reads = control k ∷ semaphore ∷ []; writes = taking_writes (turn m k) k (inputs k (r ∷ rs)) }) (a semaphore (inr (inl refl)))
  places-in (suc zero) a = refl
  places-in (suc (suc zero)) a =
      let e = right.bytes k (at s k) there-too (same-sources a) in λ x. record { reads = control k ∷ locals k (e x).reads; writes = control k ∷ locals k (e x).writes }
  places-in (suc (suc (suc zero))) a = ap (λ (m : Semaphore). record { reads = control k ∷ semaphore ∷ []; writes = taking_writes (turn m k) k [] }) (a semaphore (inr (inl refl)))
  places-in (suc (suc (suc (suc zero)))) a = refl
  places-in (suc (suc (suc (suc (suc n))))) a = stopped-places n t o k (at s k) (turn s.semaphore k) ∙ sym (stopped-places n t o k there-too (turn s'.semaphore k))

  -- what is written there
  same_in : (n : ℕ) → mode (at s k) ≡ n → ((p : Place) → In p (footprint_in n t o k (at s k) (turn s.semaphore k)).reads → SameAt p s s')
      → (p : Place) → In p (footprint_in n t o k (at s k) (turn s.semaphore k)).writes → SameAt p (step_in n t k (at s k) s) (step_in n t k there-too s')
  unfolding pick
  same_in zero e a p h = go (drop (at s k).registers.cycles (t.samples k)) a h
    where
      go : (rs : List Sample) → ((p : Place) → In p (control k ∷ unspent rs (semaphore ∷ [])) → SameAt p s s')
          → In p (unspent rs (taking_writes (turn s.semaphore k) k (inputs k rs)))
          → SameAt p (take_read rs (turn s.semaphore k) k (at s k) s) (take_read rs (turn s'.semaphore k) k there-too s')
      go [] a h = absurd h
      go (r ∷ rs) a h =
          let q = a semaphore (inr (inl refl)) in
          subst (λ (m : Semaphore). SameAt p (take_read (r ∷ rs) (turn s.semaphore k) k (at s k) s) (take_read (r ∷ rs) (turn m k) k there-too s')) q
          (same0 t o right k s s' size same (at s' k).memory data-size e r rs (turn s.semaphore k) q p h)
  same_in (suc zero) e a p h =
      let ms = uncopied (at s k) (t.reads k) in
      same1 t o right k s s' size same (at s' k).memory data-size e ms (drop 1 ms)
      (λ p h. a p (inr (in_left p (release (drop 1 ms)) (sources byte ms) h)))
      (λ i h. a (byte i) (inr (in_right (byte i) (release (drop 1 ms)) (sources byte ms) h))) p h
  same_in (suc (suc zero)) e a p h = same2 t o right k s s' size same (at s' k).memory data-size e (same-sources a) p h
  same_in (suc (suc (suc zero))) e a p h =
      let q = a semaphore (inr (inl refl)) in
      subst (λ (m : Semaphore). SameAt p (take_write (turn s.semaphore k) k (at s k) s) (take_write (turn m k) k there-too s')) q
      (same3 t o right k s s' size same (at s' k).memory data-size e (turn s.semaphore k) q p h)
  same_in (suc (suc (suc (suc zero)))) e a p h =
      let ms = uncopied (at s k) (t.writes k) in
      same4 t o right k s s' size same (at s' k).memory data-size e ms (drop 1 ms)
      (λ p h. a p (inr (in_left p (release (drop 1 ms)) (sources (local k) ms) h)))
      (λ i h. a (local k i) (inr (in_right (local k i) (release (drop 1 ms)) (sources (local k) ms) h))) p h
  same_in (suc (suc (suc (suc (suc n))))) e a p h = absurd (rw (stopped-places n t o k (at s k) (turn s.semaphore k)) at h)

module _ (t : Task) (o : DataFootprints) (right : DataFootprintsRight t o) (k : ℕ) (s s' : State) (a : SameRead t o k s s') where
  control-too : control_of (at s k) ≡ control_of (at s' k)
  unfolding footprint
  control-too = a.read (control k) (control-read (mode (at s k)) t o k (at s k) (turn s.semaphore k))

  pub same-places : footprint t o k s ≡ footprint t o k s'
  unfolding footprint
  same-places =
      by-control (λ (c : Core). footprint_in (mode (at s k)) t o k (at s k) (turn s.semaphore k) ≡ footprint_in (mode c) t o k c (turn s'.semaphore k)) (at s k) (at s' k) control-too
      (places-in t o right k s s' a.size control-too a.data-size (mode (at s k)) a.read)

  pub same-written : (p : Place) → Writes t o k s p → SameAt p (step t k s) (step t k s')
  unfolding footprint step
  same-written p h =
      by-control (λ (c : Core). SameAt p (step_in (mode (at s k)) t k (at s k) s) (step_in (mode c) t k c s')) (at s k) (at s' k) control-too
      (same_in t o right k s s' a.size control-too a.data-size (mode (at s k)) refl a.read p h)

  -- core k's registers after the step, written or not
  same-control-after : control_of (at (step t k s) k) ≡ control_of (at (step t k s') k)
  same-control-after = go (in? (control k) (footprint t o k s).writes)
    where
      go : Dec (Writes t o k s (control k)) → control_of (at (step t k s) k) ≡ control_of (at (step t k s') k)
      go (yes h) = same-written (control k) h
      go (no n) = sym (unwritten t o right k s (control k) n) ∙ control-too ∙ unwritten t o right k s' (control k) (rw same-places at n)

  pub same-taking : taking_of t k s ≡ taking_of t k s'
  unfolding taking_of
  same-taking = λ x. taken (control-too x).registers.mode (same-control-after x).registers.mode k

-- The places of document 01's six modes are those of the step
pub footprint-right : (t : Task) → Laws t → (o : DataFootprints) → DataFootprintsRight t o → (k : ℕ) (s : State) → FootprintRight t o k s
footprint-right t l o right k s = record {
  changes = unwritten t o right k s;
  cores-number = (lengths t l k s).cores;
  data-sizes = (lengths t l k s).memories;
  shared-size = (lengths t l k s).shared;
  places = same-places t o right k s;
  written = same-written t o right k s;
  taking = same-taking t o right k s;
}
