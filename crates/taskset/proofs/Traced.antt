-- `trace-exactly`: a trace is refused (22) exactly if it has bytes and is not, for each core, a count and that many records, and nothing after.
-- In order: records by their bytes; from acceptance to the parts; from the parts to acceptance. Assumes nothing.
use mathlib.Core.Path.{◌≡◌, refl, sym, ap, ap₂, ◌∙◌, subst}
use mathlib.Core.Bool.{Bool, true, false}
use mathlib.Core.Logic.{inl, inr}
use mathlib.Core.List.{List, [], ◌∷◌, ◌++◌}
use Prim.Native.Nat.{ℕ, zero, suc, ◌+◌, ◌-◌, ◌*◌, ◌≤◌}
use native.Mathlib.Nat.{suc-mul, zero-mul}
use native.Mathlib.Omega.{arith}
use borrow.Author.Tests.{eq-eqb, eqb-true}
use lib.Dec.{eqb}
use lib.ListN.{length, take, drop, get_or, length-append, length-drop, take-append-drop, drop_of_length-le}
use lib.Seq.{drop-cons, drop-drop, drop_at, get_or-drop, length-take-le}
use Rattle.verdict.specs.Verdict.{either}
use Rattle.verdict.proofs.Truth.{either-stop}
use Rattle.verdict.proofs.Verdict.{yes, no, either_true}
use Rattle.memory.specs.Memory.{word}
use Rattle.memory.proofs.Number.{read_word}
use Rattle.records.specs.File.{cores, input_size}
use Rattle.taskset.specs.Trace.{blank, record_size, trace_place, trace_refusal}
use Rattle.taskset.specs.Rules.{Records, none, one, Parts, end, core, Traced}
use Rattle.taskset.proofs.Records.{trace-ends, part-inside}

-- ---- records by their bytes

records-length : {inputs n : ℕ} {l : List ℕ} → Records inputs n l → length l ≡ n * (4 + inputs)
records-length {inputs} none = sym (zero-mul (4 + inputs))
records-length {inputs} (one {n} time input {rest} a b r) =
    let ih = records-length r in
    let m = suc-mul n (4 + inputs) in
    omega (arith, length-append time (input ++ rest), length-append input rest)

empty : (l : List ℕ) → length l ≡ 0 → l ≡ []
empty [] e = refl
empty (x ∷ l) e = absurd (let y : ⊥ = omega arith in y)

length-records : (inputs n : ℕ) (l : List ℕ) → length l ≡ n * (4 + inputs) → Records inputs n l
length-records inputs zero l e = subst (Records inputs 0) (sym (empty l (e ∙ zero-mul (4 + inputs)))) none
length-records inputs (suc n) l e =
    subst (Records inputs (suc n)) (ap (λ (x : List ℕ). take 4 l ++ x) (take-append-drop inputs (drop 4 l)) ∙ take-append-drop 4 l)
    (one (take 4 l) (take inputs (drop 4 l)) (length-take-le 4 l (omega (arith, m))) (length-take-le inputs (drop 4 l) (omega (arith, m, d)))
    (length-records inputs n (drop inputs (drop 4 l)) (omega (arith, m, d, length-drop inputs (drop 4 l)))))
  where
    m : suc n * (4 + inputs) ≡ n * (4 + inputs) + (4 + inputs)
    m = suc-mul n (4 + inputs)

    d : length (drop 4 l) ≡ length l - 4
    d = length-drop 4 l

-- ---- from acceptance to the parts

-- two bytes, s bytes more, and what is left
cut : (t : List ℕ) (p s : ℕ) → p + 2 + s ≤ length t
    → drop p t ≡ get_or t p 0 ∷ get_or t (p + 1) 0 ∷ (take s (drop (p + 2) t) ++ drop (p + 2 + s) t)
cut t p s h =
    let a = drop-cons t p 0 (omega arith) in
    let b = drop-cons t (suc p) 0 (omega arith) in
    let i : suc p ≡ p + 1 = omega arith in
    let j : suc (suc p) ≡ p + 2 = omega arith in
    let d = drop-drop s (p + 2) t in
    let e = take-append-drop s (drop (p + 2) t) in
    cc

module _ (f t : List ℕ) where
  -- the parts of n cores, core k first, stand where core k's count does
  parts : blank t ≡ false → trace_refusal f t ≡ 0 → (n k : ℕ) → k + n ≡ cores f → Parts f k n (drop (trace_place f t k) t)
  unfolding trace_place
  parts b z zero k e =
      let i : k ≡ cores f = omega arith in
      let p : trace_place f t k ≡ length t = ap (trace_place f t) i ∙ trace-ends f t b z in
      subst (Parts f k 0) (sym (drop_of_length-le t {i = trace_place f t k} (omega arith))) end
  parts b z (suc n) k e =
      subst (Parts f k (suc n)) (sym (cut t (trace_place f t k) (word t (trace_place f t k) * record_size f k) inside))
      (core (get_or t (trace_place f t k) 0) (get_or t (trace_place f t k + 1) 0) _ records (parts b z n (suc k) (omega arith)))
    where
      inside : trace_place f t k + 2 + word t (trace_place f t k) * record_size f k ≤ length t
      inside = part-inside f t k b z (omega arith)

      counted : length (take (word t (trace_place f t k) * record_size f k) (drop (trace_place f t k + 2) t)) ≡ word t (trace_place f t k) * (4 + input_size f k)
      counted = length-take-le _ (drop (trace_place f t k + 2) t) (omega (arith, inside, length-drop (trace_place f t k + 2) t))

      records : Records (input_size f k) (get_or t (trace_place f t k) 0 + 256 * get_or t (trace_place f t k + 1) 0) (take (word t (trace_place f t k) * record_size f k) (drop (trace_place f t k + 2) t))
      records =
          subst (λ (n : ℕ). Records (input_size f k) n (take (word t (trace_place f t k) * record_size f k) (drop (trace_place f t k + 2) t)))
          (read_word t (trace_place f t k)) (length-records (input_size f k) (word t (trace_place f t k)) _ counted)

  -- ---- from the parts to acceptance

  ends : {k n : ℕ} {l : List ℕ} → Parts f k n l → l ≡ drop (trace_place f t k) t → trace_place f t k ≤ length t → trace_place f t (k + n) ≡ length t
  unfolding trace_place
  ends {k} end e h =
      let d = ap length e ∙ length-drop (trace_place f t k) t in
      let s : k + 0 ≡ k = omega arith in
      ap (trace_place f t) s ∙ omega arith
  ends (core {k} {n} low high records {rest} r q) e h =
      let s : k + suc n ≡ suc k + n = omega arith in
      ap (trace_place f t) s ∙ ends q left (omega (arith, size, long))
    where
      low-is : get_or t (trace_place f t k) 0 ≡ low
      low-is =
          let p : trace_place f t k + 0 ≡ trace_place f t k = omega arith in
          ap (λ (x : ℕ). get_or t x 0) (sym p) ∙ sym (get_or-drop (trace_place f t k) t 0 0) ∙ ap (λ (x : List ℕ). get_or x 0 0) (sym e)

      high_is : get_or t (trace_place f t k + 1) 0 ≡ high
      high_is = sym (get_or-drop (trace_place f t k) t 1 0) ∙ ap (λ (x : List ℕ). get_or x 1 0) (sym e)

      number : word t (trace_place f t k) ≡ low + 256 * high
      number = read_word t (trace_place f t k) ∙ ap₂ (λ (x y : ℕ). x + 256 * y) low-is high_is

      size : length records ≡ word t (trace_place f t k) * record_size f k
      size = records-length r ∙ ap (λ (x : ℕ). x * record_size f k) (sym number)

      long : length t - trace_place f t k ≡ 2 + (length records + length rest)
      long = sym (length-drop (trace_place f t k) t) ∙ ap length (sym e) ∙ ap (λ (x : ℕ). suc (suc x)) (length-append records rest) ∙ omega arith

      left : rest ≡ drop (trace_place f t k + 2 + word t (trace_place f t k) * record_size f k) t
      left =
          let i : trace_place f t k + (2 + word t (trace_place f t k) * record_size f k) ≡ trace_place f t k + 2 + word t (trace_place f t k) * record_size f k = omega arith in
          sym (drop_at (low ∷ high ∷ records) rest (2 + word t (trace_place f t k) * record_size f k) (omega (arith, size)))
          ∙ ap (drop (2 + word t (trace_place f t k) * record_size f k)) e
          ∙ drop-drop (2 + word t (trace_place f t k) * record_size f k) (trace_place f t k) t
          ∙ ap (λ (x : ℕ). drop x t) i

  -- ---- the two ways together

  pub record TraceExactly : Type 0 where
    pub parts : trace_refusal f t ≡ 0 → Traced f t
    pub accepted : Traced f t → trace_refusal f t ≡ 0
    pub refused : (Traced f t → ⊥) → trace_refusal f t ≡ 22

  accepts : Traced f t → trace_refusal f t ≡ 0
  unfolding trace_place trace_refusal
  accepts (inl e) = yes _ 22 (sym (either-stop _ (eq-eqb _ _ e)))
  accepts (inr p) =
      let i : 0 + cores f ≡ cores f = omega arith in
      yes _ 22 (ap (either (blank t)) (eq-eqb _ _ (ap (trace_place f t) (sym i) ∙ ends p refl (omega arith))) ∙ either_true (blank t))

  traced : trace_refusal f t ≡ 0 → Traced f t
  unfolding trace_place
  traced z = go (blank t) refl
    where
      go : (b : Bool) → blank t ≡ b → Traced f t
      go true b = inl (eqb-true _ _ b)
      go false b = inr (parts b z (cores f) 0 (omega arith))

  refuses : (Traced f t → ⊥) → trace_refusal f t ≡ 22
  unfolding trace_refusal
  refuses n = go (either (blank t) (eqb (trace_place f t (cores f)) (length t))) refl
    where
      go : (b : Bool) → either (blank t) (eqb (trace_place f t (cores f)) (length t)) ≡ b → trace_refusal f t ≡ 22
      go true e = absurd (n (traced (yes _ 22 e)))
      go false e = no _ 22 e

  pub trace-exactly : TraceExactly
  trace-exactly = record { parts = traced; accepted = accepts; refused = refuses }
