-- The records of a sound trace lie in it, where the loaded trace says. Assumes nothing.
use mathlib.Core.Path.{◌≡◌, sym, ap, ◌∙◌}
use mathlib.Core.Bool.{true, false}
use mathlib.Core.List.{List}
use Prim.Native.Nat.{ℕ, zero, suc, ◌+◌, ◌-◌, ◌*◌, ◌≤◌, ◌<◌}
use native.Mathlib.Nat.{mul-le-mul_right, add-mul}
use native.Mathlib.Omega.{arith}
use borrow.Author.Tests.{eqb-true, eq-eqb, ne_eqb, lt-ltb}
use lib.Dec.{eqb}
use lib.ListN.{length}
use Rattle.std.specs.Prelude.{Err}
use Rattle.verdict.specs.Verdict.{pick, unless}
use Rattle.verdict.specs.Refusals.{number_of}
use Rattle.verdict.specs.declared.Refusal.{Refusal}
use Rattle.verdict.proofs.Truth.{either-stop}
use Rattle.verdict.proofs.Verdict.{yes, no, unless-zero, pick_true, pick-false}
use Rattle.verdict.proofs.Refusals.{refused}
use Rattle.memory.specs.Memory.{word}
use Rattle.records.specs.File.{cores}
use Rattle.taskset.specs.Trace.{blank, record_size, record_count, trace_place, sample_place, trace_refusal, count_of, trace_layout, LoadedTrace, load_trace_of, loaded_trace}
use Rattle.taskset.specs.declared.TraceLayout.{TraceLayout}

trace-up : (f t : List ℕ) (k d : ℕ) → trace_place f t k ≤ trace_place f t (k + d)
unfolding trace_place
trace-up f t k zero = rw (let e : k + 0 ≡ k = omega arith in e) (omega arith)
trace-up f t k (suc d) =
    let ih = trace-up f t k d in
    let e : k + suc d ≡ suc (k + d) = omega arith in
    rw e (omega arith)

-- of a trace that has bytes: the refusal and the count are what its bytes say
pub bytes-judged : (f t : List ℕ) → blank t ≡ false → trace_refusal f t ≡ unless (eqb (trace_place f t (cores f)) (length t)) 22
unfolding trace_refusal
bytes-judged f t b = rw b

pub bytes_count : (f t : List ℕ) (k : ℕ) → blank t ≡ false → record_count f t k ≡ word t (trace_place f t k)
bytes_count f t k b = pick-false _ _ _ b

pub trace-ends : (f t : List ℕ) → blank t ≡ false → trace_refusal f t ≡ 0 → trace_place f t (cores f) ≡ length t
trace-ends f t b z = eqb-true _ _ (unless-zero _ 21 (sym (bytes-judged f t b) ∙ z))

-- ---- what judging finds, in the code's terms: p is where the parts of m cores end, w the number at p

pub judged-end : (f t : List ℕ) (m p : ℕ) → blank t ≡ false → p ≡ trace_place f t m → m ≡ cores f → p ≡ length t → 0 ≡ trace_refusal f t
judged-end f t m p b e n q = sym (bytes-judged f t b ∙ yes _ 22 (eq-eqb _ _ (ap (trace_place f t) (sym n) ∙ sym e ∙ q)))

pub judged-elsewhere : (f t : List ℕ) (m p : ℕ) → blank t ≡ false → p ≡ trace_place f t m → m ≡ cores f → (p ≡ length t → ⊥) → 22 ≡ trace_refusal f t
judged-elsewhere f t m p b e n q = sym (bytes-judged f t b ∙ no _ 22 (ne_eqb _ _ (λ z. q (e ∙ ap (trace_place f t) n ∙ z))))

pub judged-blank : (f t : List ℕ) → blank t ≡ true → 0 ≡ trace_refusal f t
unfolding trace_refusal
judged-blank f t b = sym (yes _ 22 (sym (either-stop _ b)))

pub counted-blank : (f t : List ℕ) (m k : ℕ) → m ≡ cores f → k < m → blank t ≡ true → 1 ≡ count_of f t k
unfolding count_of
counted-blank f t m k n h b = sym (pick_true _ _ _ (lt-ltb k (cores f) (omega arith)) ∙ pick_true _ _ _ b)

pub counted-stored : (f t : List ℕ) (m k p w : ℕ) → m ≡ cores f → k < m → blank t ≡ false → p ≡ trace_place f t k → w ≡ word t p → w ≡ count_of f t k
unfolding count_of
counted-stored f t m k p w n h b e q = q ∙ ap (word t) e ∙ sym (pick_true _ _ _ (lt-ltb k (cores f) (omega arith)) ∙ bytes_count f t k b)

-- ---- where records lie, in a trace that has bytes

-- the part of core k lies in the trace
pub part-inside : (f t : List ℕ) (k : ℕ) → blank t ≡ false → trace_refusal f t ≡ 0 → k < cores f
    → trace_place f t k + 2 + word t (trace_place f t k) * record_size f k ≤ length t
unfolding trace_place
part-inside f t k b z h =
    let d : suc k + (cores f - suc k) ≡ cores f = omega arith in
    let u : trace_place f t (suc k) ≤ trace_place f t (suc k + (cores f - suc k)) = trace-up f t (suc k) (cores f - suc k) in
    let w : trace_place f t (suc k + (cores f - suc k)) ≡ length t = ap (trace_place f t) d ∙ trace-ends f t b z in
    omega arith

-- and so does each of its records
pub record-inside : (f t : List ℕ) (k i : ℕ) → blank t ≡ false → trace_refusal f t ≡ 0 → k < cores f → i < record_count f t k
    → sample_place f t k i + record_size f k ≤ length t
record-inside f t k i b z h l =
    let a = part-inside f t k b z h in
    let n = bytes_count f t k b in
    let m : (i + 1) * record_size f k ≤ word t (trace_place f t k) * record_size f k = mul-le-mul_right (record_size f k) (omega arith) in
    let c : (i + 1) * record_size f k ≡ i * record_size f k + 1 * record_size f k = add-mul i 1 (record_size f k) in
    omega arith

-- ---- as loaded

-- the answer where the trace is refused
pub trace-refused : (f t : List ℕ) (r : Refusal) → number_of r ≡ trace_refusal f t → loaded_trace (Err r) ≡ load_trace_of f t
unfolding load_trace_of pick
trace-refused f t r e = rw (sym e, ne_eqb _ _ (refused r))

module _ (f t : List ℕ) (x : LoadedTrace) (e : x ≡ load_trace_of f t) where
  pub trace-judged : x.refusal ≡ trace_refusal f t
  unfolding load_trace_of
  trace-judged = ap (λ (y : LoadedTrace). y.refusal) e

  pub trace-sound : x.refusal ≡ 0 → trace_refusal f t ≡ 0
  trace-sound z = sym trace-judged ∙ z

  pub trace-laid : x.refusal ≡ 0 → x.layout ≡ trace_layout f t
  unfolding load_trace_of
  trace-laid z = ap (λ (y : LoadedTrace). y.layout) e ∙ pick_true _ _ _ (eq-eqb _ _ (trace-sound z))
