-- The scan of a lent table round the ring: that it finds what the scan of the state that the table holds finds. In order: one record; the scan;
-- the scan turn by turn; the call. Not here: what the answer says of steps (crate table, Next). Assumes nothing.
use mathlib.Core.Path.{◌≡◌, refl, sym, ap, ◌∙◌}
use mathlib.Core.Logic.{◌≢◌}
use mathlib.Core.Bool.{Bool, true, false}
use mathlib.Core.List.{List}
use Prim.Native.Nat.{ℕ, zero, suc, ◌+◌, ◌-◌, ◌≤◌, ◌<◌, zero-le}
use native.Mathlib.Nat.{mod-lt, sub-zero}
use native.Mathlib.Numerals.{add-one}
use native.Mathlib.Omega.{arith}
use borrow.Author.Tests.{eq-eqb, ne_eqb, lt-ltb, ltb-true, eqb-true, eqb-false}
use lib.Dec.{eqb}
use lib.ListN.{get_or}
use Rattle.verdict.specs.Verdict.{pick}
use Rattle.verdict.proofs.Verdict.{pick_true, pick-false, pick-ap, next-zero, unless-zero}
use Rattle.records.specs.File.{cores}
use Rattle.taskset.specs.Task.{listed}
use Rattle.taskset.proofs.Exact.{keeps-rules}
use Rattle.taskset.specs.Trace.{record_count}
use Rattle.semaphore.specs.declared.Semaphore.{Semaphore}
use Rattle.semaphore.specs.Line.{semaphore_of}
use Rattle.states.specs.declared.Held.{Held}
use Rattle.states.specs.declared.CoreTask.{CoreTask}
use Rattle.states.specs.Machine.{no_registers}
use Rattle.states.specs.Tasks.{core_task, task_at}
use Rattle.std.proofs.Common.{Some}
use Rattle.table.specs.Table.{can_move, can_move_at, round_from, first_moving, next_moving}
use Rattle.machine.specs.Calls.{next_refusal}
use Rattle.snapshot.specs.declared.CoreRecord.{CoreRecord}
use Rattle.snapshot.specs.declared.Table.{Table}
use Rattle.snapshot.specs.declared.Ring.{Ring}
use Rattle.snapshot.specs.Snapshot.{registers_in, held, counts_of, refused_ring, ring_of, place_after, record_moves, answered, ring_answer}
use Rattle.rikzord.specs.Lent.{record_at, loaded, scan_from, scanned, core_number, next_lent}
use Rattle.snapshot.proofs.Asked.{whole_ring}

-- ---- one record

-- the four places one by one
four : (P : ℕ → Type 0) → P 0 → P 1 → P 2 → P 3 → (k : ℕ) → k < 4 → P k
four P a b c d zero h = a
four P a b c d (suc zero) h = b
four P a b c d (suc (suc zero)) h = c
four P a b c d (suc (suc (suc zero))) h = d
four P a b c d (suc (suc (suc (suc k)))) h = absurd (omega arith)

module _ (f t : List ℕ) (ys : List CoreRecord) (p : Semaphore) (given : ℕ) (few : cores f ≤ 4) (inside : given < cores f) where
  abbrev state : Held
  state = held (loaded ys) p

  abbrev ring : Ring
  ring = whole_ring f t p given

  counts-at : (k : ℕ) → k < 4 → get_or (counts_of f t) k 0 ≡ (task_at f t k).count
  counts-at = four (λ (k : ℕ). get_or (counts_of f t) k 0 ≡ (task_at f t k).count) refl refl refl refl

  count-is : (k : ℕ) → k < cores f → (task_at f t k).count ≡ record_count f t k
  unfolding task_at core_task
  count-is k l = ap (λ (z : CoreTask). z.count) (pick_true _ _ _ (lt-ltb k (cores f) l))

  registers-at : (k : ℕ) → k < 4 → get_or state.cores k no_registers ≡ registers_in (record_at ys k)
  unfolding held
  registers-at = four (λ (k : ℕ). get_or state.cores k no_registers ≡ registers_in (record_at ys k)) refl refl refl refl

  record-moves : (k : ℕ) → k < cores f → record_moves ring k (record_at ys k) ≡ can_move_at f t state k
  unfolding can_move_at held
  record-moves k l =
      let m : k < 4 = omega arith in
      ap (λ (n : ℕ). can_move (semaphore_of p) k n (registers_in (record_at ys k))) (pick_true _ _ _ (lt-ltb k 4 m) ∙ counts-at k m ∙ count-is k l)
      ∙ ap (can_move (semaphore_of p) k (record_count f t k)) (sym (registers-at k m))

  -- ---- the scan

  place_is : (i : ℕ) → place_after ring i ≡ round_from (cores f) given (i + 1)
  place_is i = pick-false _ _ _ (ne_eqb (cores f) 0 (λ e. absurd (omega arith)))

  scans : (m i : ℕ) → scan_from ys ring m i ≡ core_number (first_moving (can_move_at f t state) (listed (round_from (cores f) given) m (i + 1)))
  unfolding listed
  scans zero i = refl
  scans (suc m) i =
      let k = round_from (cores f) given (i + 1) in
      let l : k < cores f = mod-lt (given + (i + 1)) (omega arith) in
      let rest = first_moving (can_move_at f t state) (listed (round_from (cores f) given) m (suc (i + 1))) in
      ap (λ (p : ℕ). pick (record_moves ring p (record_at ys p)) p (scan_from ys ring m (i + 1))) (place_is i)
      ∙ ap (λ (b : Bool). pick b k (scan_from ys ring m (i + 1))) (record-moves k l)
      ∙ ap (pick (can_move_at f t state k) k) (scans m (i + 1) ∙ ap (λ (j : ℕ). core_number (first_moving (can_move_at f t state) (listed (round_from (cores f) given) m j))) (add-one (i + 1)))
      ∙ sym (pick-ap core_number (can_move_at f t state k) (Some k) rest)

  pub scan-is : scanned ys ring ≡ core_number (next_moving f t state given)
  unfolding next_moving
  scan-is = scans (cores f) 0

-- ---- the scan turn by turn

-- a turn that begins with i records passed: the scan from there is the whole scan
pub record Turn (ys : List CoreRecord) (r : Ring) : Type 0 where
  pub i : ℕ
  pub most : i ≤ r.cores
  pub same : scan_from ys r (r.cores - i) i ≡ scanned ys r

-- how many records are left
abbrev pub to_go : {ys : List CoreRecord} {r : Ring} → Turn ys r → ℕ
to_go {r = r} t = r.cores - t.i

module _ (ys : List CoreRecord) (r : Ring) where
  abbrev pub turn-first : Turn ys r
  turn-first = record { i = 0; most = zero-le; same = ap (λ (m : ℕ). scan_from ys r m 0) (sub-zero r.cores) }

  module _ (t : Turn ys r) (k : ℕ) (c : CoreRecord) (z : Bool) (ek : k ≡ place_after r t.i) (ec : c ≡ record_at ys k) (ez : z ≡ record_moves r k c) (more : t.i < r.cores) where
    one_more : r.cores - t.i ≡ suc (r.cores - (t.i + 1))
    one_more = omega (arith, more)

    tested : record_moves r (place_after r t.i) (record_at ys (place_after r t.i)) ≡ z
    tested = ap (λ (p : ℕ). record_moves r p (record_at ys p)) (sym ek) ∙ ap (record_moves r k) (sym ec) ∙ sym ez

    opened : scan_from ys r (suc (r.cores - (t.i + 1))) t.i ≡ scanned ys r
    opened = ap (λ (m : ℕ). scan_from ys r m t.i) (sym one_more) ∙ t.same

    pub turn-found : z ≡ true → k ≡ scanned ys r
    turn-found e = ek ∙ sym (pick_true _ _ _ (tested ∙ e)) ∙ opened

    pub turn-passed : z ≡ false → (t.i + 1 ≤ r.cores) × (scan_from ys r (r.cores - (t.i + 1)) (t.i + 1) ≡ scanned ys r)
    turn-passed e = (omega (arith, more), sym (pick-false _ _ _ (tested ∙ e)) ∙ opened)

    abbrev pub turn-next : z ≡ false → Turn ys r
    turn-next e = record { i = t.i + 1; most = (turn-passed e).0; same = (turn-passed e).1 }

    pub turn-less : (e : z ≡ false) → to_go (turn-next e) < to_go t
    turn-less e = omega (arith, more)

  pub turn_last : (t : Turn ys r) → r.cores ≤ t.i → 255 ≡ scanned ys r
  turn_last t l =
      let none_left : r.cores - t.i ≡ 0 = omega (arith, l) in
      ap (λ (m : ℕ). scan_from ys r m t.i) (sym none_left) ∙ t.same

-- ---- the call

module _ (f t : List ℕ) (ys : List CoreRecord) (p : Semaphore) (given found : ℕ) (x : Table) (r : Ring) (k number found' : ℕ)
    (ex : x ≡ loaded ys) (er : r ≡ ring_of f t x p given) (ek : k ≡ scanned ys r) (ea : answered number found' ≡ ring_answer r k found) where
  ring-is : r ≡ ring_of f t (loaded ys) p given
  ring-is = er ∙ ap (λ (z : Table). ring_of f t z p given) ex

  next-stays : next_refusal f t (held (loaded ys) p) given ≢ 0 → answered number found' ≡ next_lent f t ys p given found
  unfolding next_lent ring_of
  next-stays ne =
      let q : r ≡ refused_ring (next_refusal f t (held (loaded ys) p) given) given p = ring-is ∙ pick-false _ _ _ (ne_eqb _ 0 ne) in
      ea ∙ ap (λ (z : Ring). ring_answer z k found) q ∙ pick-false _ _ _ (ne_eqb _ 0 ne) ∙ sym (pick-false _ _ _ (ne_eqb _ 0 ne))

  next-found : next_refusal f t (held (loaded ys) p) given ≡ 0 → cores f ≤ 4 → given < cores f → answered number found' ≡ next_lent f t ys p given found
  unfolding next_lent ring_of pick
  next-found e few inside =
      let q : r ≡ whole_ring f t p given = ring-is ∙ pick_true _ _ _ (eq-eqb _ 0 e) in
      ea
      ∙ ap (λ (z : Ring). ring_answer z k found) q
      ∙ ap (answered 0) (ek ∙ ap (scanned ys) q ∙ scan-is f t ys p given few inside)
      ∙ sym (pick_true _ _ _ (eq-eqb _ 0 e))

  pub next-lent : answered number found' ≡ next_lent f t ys p given found
  unfolding next_refusal
  next-lent = go (eqb (next_refusal f t (held (loaded ys) p) given) 0) refl
    where
      go : (q : Bool) → eqb (next_refusal f t (held (loaded ys) p) given) 0 ≡ q → answered number found' ≡ next_lent f t ys p given found
      go true e =
          let z = eqb-true _ _ e in
          let judged = next-zero _ _ z in
          next-found z (keeps-rules f judged.0).most-cores (ltb-true given (cores f) (unless-zero _ 19 (next-zero _ _ judged.1).1))
      go false e = next-stays (eqb-false _ _ e)
