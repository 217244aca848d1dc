-- `blank-trace`: what a trace of no bytes means. In order: lists of zeros; the written trace by its parts; where its records stand. Assumes nothing.
use mathlib.Core.Path.{◌≡◌, refl, sym, ap, ap₂, ◌∙◌, subst}
use mathlib.Core.Bool.{Bool, true, false}
use mathlib.Core.Logic.{inr}
use mathlib.Core.List.{List, [], ◌∷◌, ◌++◌, append-nil}
use Prim.Native.Nat.{ℕ, zero, suc, ◌+◌, ◌-◌, ◌*◌, ◌<◌}
use native.Mathlib.Nat.{zero-mul}
use native.Mathlib.Omega.{arith}
use lib.ListN.{take, drop, get_or, replicate, length-replicate}
use lib.Seq.{drop-drop, drop_at, get_or-drop}
use Rattle.verdict.specs.Verdict.{pick, unless}
use Rattle.memory.specs.Memory.{word, part, read_le, value_le}
use Rattle.memory.proofs.Number.{read_word}
use Rattle.protocol.specs.State.{Sample}
use Rattle.records.specs.File.{cores, input_size}
use Rattle.taskset.specs.Trace.{blank, record_size, trace_place, record_count, sample_place, trace_refusal}
use Rattle.taskset.specs.Task.{listed, stored_sample, blank_sample, sample_at, samples_of}
use Rattle.taskset.specs.Rules.{Records, none, one, Parts, end, core}
use Rattle.taskset.specs.Blank.{written_from, written_trace, BlankTrace}
use Rattle.taskset.proofs.Traced.{trace-exactly}

-- ---- lists of zeros

abbrev zeros : ℕ → List ℕ
zeros n = replicate n 0

zeros-cut : (a b : ℕ) → zeros (a + b) ≡ zeros a ++ zeros b
zeros-cut zero b = ap (λ (n : ℕ). zeros n) (let e : 0 + b ≡ b = omega arith in e)
zeros-cut (suc a) b = ap (λ (n : ℕ). zeros n) (let e : suc a + b ≡ suc (a + b) = omega arith in e) ∙ ap (λ (l : List ℕ). 0 ∷ l) (zeros-cut a b)

zeros-first : (n : ℕ) (l : List ℕ) → take n (zeros n ++ l) ≡ zeros n
zeros-first zero l = refl
zeros-first (suc n) l = ap (λ (m : List ℕ). 0 ∷ m) (zeros-first n l)

append-again : (a b c : List ℕ) → (a ++ b) ++ c ≡ a ++ (b ++ c)
append-again [] b c = refl
append-again (x ∷ a) b c = ap (λ (l : List ℕ). x ∷ l) (append-again a b c)

same : {A : Type 0} (b : Bool) (x y : A) → y ≡ x → pick b x y ≡ x
unfolding pick
same true x y e = refl
same false x y e = e

-- ---- the written trace by its parts

written-parts : (f : List ℕ) (n k : ℕ) → Parts f k n (written_from f n k)
unfolding written_from
written-parts f zero k = end
written-parts f (suc n) k = core 1 0 (zeros (record_size f k)) record-of-zeros (written-parts f n (suc k))
  where
    whole : zeros 4 ++ (zeros (input_size f k) ++ []) ≡ zeros (record_size f k)
    whole = ap (λ (l : List ℕ). zeros 4 ++ l) (append-nil (zeros (input_size f k))) ∙ sym (zeros-cut 4 (input_size f k))

    record-of-zeros : Records (input_size f k) (1 + 256 * 0) (zeros (record_size f k))
    record-of-zeros = subst (Records (input_size f k) 1) whole (one (zeros 4) (zeros (input_size f k)) refl (length-replicate (input_size f k) 0) none)

-- ---- where its records stand

module _ (f : List ℕ) where
  w : List ℕ
  w = written_trace f

  module _ (k m : ℕ) (stands : drop (trace_place f w k) w ≡ written_from f (suc m) k) where
    counted : word w (trace_place f w k) ≡ 1
    unfolding written_from
    counted =
        let p : trace_place f w k + 0 ≡ trace_place f w k = omega arith in
        read_word w (trace_place f w k)
        ∙ ap₂ (λ (x y : ℕ). x + 256 * y)
        (ap (λ (x : ℕ). get_or w x 0) (sym p) ∙ sym (get_or-drop (trace_place f w k) w 0 0) ∙ ap (λ (l : List ℕ). get_or l 0 0) stands)
        (sym (get_or-drop (trace_place f w k) w 1 0) ∙ ap (λ (l : List ℕ). get_or l 1 0) stands)

    records : drop (trace_place f w k + 2) w ≡ zeros (record_size f k) ++ written_from f m (suc k)
    unfolding written_from
    records = sym (drop-drop 2 (trace_place f w k) w) ∙ ap (drop 2) stands

    next : drop (trace_place f w (suc k)) w ≡ written_from f m (suc k)
    unfolding trace_place
    next =
        let e : trace_place f w k + 2 + word w (trace_place f w k) * record_size f k ≡ trace_place f w k + 2 + record_size f k = rw counted (omega arith) in
        ap (λ (x : ℕ). drop x w) e ∙ sym (drop-drop (record_size f k) (trace_place f w k + 2) w)
        ∙ ap (drop (record_size f k)) records
        ∙ drop_at (zeros (record_size f k)) (written_from f m (suc k)) (record_size f k) (length-replicate (record_size f k) 0)

    stored : stored_sample f w k 0 ≡ blank_sample f k
    unfolding read_le part value_le
    stored =
        let z = zero-mul (record_size f k) in
        let p : sample_place f w k 0 ≡ trace_place f w k + 2 = omega arith in
        let cut : zeros (record_size f k) ++ written_from f m (suc k) ≡ zeros 4 ++ (zeros (input_size f k) ++ written_from f m (suc k)) =
        ap (λ (l : List ℕ). l ++ written_from f m (suc k)) (zeros-cut 4 (input_size f k)) ∙ append-again (zeros 4) (zeros (input_size f k)) _ in
        let bytes : drop (sample_place f w k 0) w ≡ zeros 4 ++ (zeros (input_size f k) ++ written_from f m (suc k)) = ap (λ (x : ℕ). drop x w) p ∙ records ∙ cut in
        let time : value_le (take 4 (drop (sample_place f w k 0) w)) ≡ 0 = ap (λ (l : List ℕ). value_le (take 4 l)) bytes in
        let input : take (input_size f k) (drop (sample_place f w k 0 + 4) w) ≡ zeros (input_size f k) =
        ap (take (input_size f k)) (sym (drop-drop 4 (sample_place f w k 0) w) ∙ ap (drop 4) bytes) ∙ zeros-first (input_size f k) _ in
        ap₂ (λ (x : ℕ) (y : List ℕ). let r : Sample = record { time = x; input = y } in r) time input

  stands_at : (k m : ℕ) → k + m ≡ cores f → drop (trace_place f w k) w ≡ written_from f m k
  unfolding trace_place w written_from
  stands_at zero m e = ap (λ (n : ℕ). written_from f n 0) (let q : cores f ≡ m = omega arith in q)
  stands_at (suc k) m e = next k m (stands_at k (suc m) (omega arith))

  alike : (k : ℕ) → k < cores f → samples_of f w k ≡ samples_of f [] k
  unfolding samples_of sample_at listed pick
  alike k h =
      let here = stands_at k (suc (cores f - suc k)) (omega arith) in
      let one-record : record_count f w k ≡ 1 = same (blank w) 1 _ (counted k (cores f - suc k) here) in
      let holds : sample_at f w k 0 ≡ blank_sample f k = same (blank w) (blank_sample f k) _ (stored k (cores f - suc k) here) in
      ap (λ (n : ℕ). listed (sample_at f w k) n 0) one-record ∙ ap (λ (x : Sample). x ∷ []) holds

  pub blank-trace : BlankTrace f
  unfolding trace_refusal samples_of sample_at listed pick unless w
  blank-trace = record {
    sound = refl;
    means = λ k. refl;
    written-sound = (trace-exactly f w).accepted (inr (written-parts f (cores f) 0));
    alike = alike;
  }
