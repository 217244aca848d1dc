-- Laws of the records in a file. In order: places; the variables from a record on; a search that passes records; the bytes of
-- an exchange. Assumes nothing.
use mathlib.Core.Path.{◌≡◌, refl, ap, ap₂, subst, ◌∙◌}
use mathlib.Core.Bool.{Bool, true, false}
use mathlib.Core.List.{List, [], ◌∷◌}
use Prim.Native.Nat.{ℕ, zero, suc, ◌+◌, ◌*◌, ◌-◌, ◌≤◌, ◌<◌}
use native.Mathlib.Nat.{add-zero, zero-add}
use native.Mathlib.Omega.{arith}
use borrow.Author.Tests.{eqb-true, eqb-false}
use lib.Dec.{eqb}
use lib.ListN.{length, drop, drop_of_length-le}
use lib.Seq.{drop-cons}
use Rattle.verdict.specs.Verdict.{pick}
use Rattle.verdict.proofs.Verdict.{pick_true, pick-false, by-pick}
use Rattle.memory.specs.Memory.{byte}
use Rattle.protocol.specs.Variables.{Variable, moves_of}
use Rattle.records.specs.File.{variables, record_place, variable_in, variable_at}
use Rattle.taskset.specs.Task.{variables_of}
use Rattle.taskset.proofs.Accepted.{length-listed, listed_at}
use Rattle.exchange.specs.Exchange.{has_bit}
use Rattle.exchange.specs.Laid.{Laid, takes_part, widths, exchange_bytes, RecordAt, Passed}
use Rattle.exchange.proofs.Moves.{moves-unnamed}

-- ---- places

pub place_of : (f : List ℕ) (i : ℕ) → record_place f i ≡ record_place f 0 + 12 * i
place_of f i = omega arith

module _ (f : List ℕ) where
  abbrev pub first-place : {p : ℕ} → p ≡ record_place f 0 → RecordAt f p
  first-place e = record { index = 0; is = e; inside = omega arith }

  pub index_below : {p : ℕ} (w : RecordAt f p) → p < record_place f (variables f) → w.index < variables f
  index_below w h = omega (arith, w.is, place_of f w.index, place_of f (variables f))

  abbrev pub place-next : {p : ℕ} → RecordAt f p → p < record_place f (variables f) → RecordAt f (p + 12)
  place-next {p} w h = record {
    index = w.index + 1;
    is = omega (arith, w.is, place_of f w.index, place_of f (w.index + 1));
    inside = omega (arith, index_below w h);
  }

  -- the whole record is there
  pub record-there : {p : ℕ} → Laid f → RecordAt f p → p < record_place f (variables f) → p + 12 ≤ length f
  record-there {p} ok w h = omega (arith, ok.there, (place-next w h).is, (place-next w h).inside, place_of f (variables f), place_of f (place-next w h).index)

  -- ---- the variables from a record on

  length-variables : length (variables_of f) ≡ variables f
  unfolding variables_of
  length-variables = length-listed (variable_at f) (variables f) 0

  pub variables-from : (i : ℕ) → i < variables f → drop i (variables_of f) ≡ variable_in f (record_place f i) ∷ drop (i + 1) (variables_of f)
  unfolding variables_of
  variables-from i h =
      let e : suc i ≡ i + 1 = omega arith in
      drop-cons (variables_of f) i (variable_in f (record_place f i)) (omega (arith, length-variables))
      ∙ ap₂ (λ (v : Variable) (n : ℕ). v ∷ drop n (variables_of f)) (listed_at (variable_at f) (variables f) i (variable_in f (record_place f i)) h) e

  pub variables-end : (i : ℕ) → variables f ≤ i → drop i (variables_of f) ≡ []
  variables-end i h = drop_of_length-le (variables_of f) {i = i} (omega (arith, length-variables))

  -- ---- a search that passes records

  module _ (bit : ℕ) where
    pub passed_none : {p : ℕ} → RecordAt f p → Passed f bit p p
    passed_none w = record { place = w; from = omega arith; unnamed = λ i h l. absurd (let z : ⊥ = omega arith in z) }

    pub passed-more : {p q : ℕ} → Passed f bit p q → q < record_place f (variables f) → takes_part f bit q ≡ false → Passed f bit p (q + 12)
    passed-more {p} {q} s h e = record { place = place-next s.place h; from = omega (arith, s.from); unnamed = λ i a b. go i a b (eqb i s.place.index) refl }
      where
        go : (i : ℕ) → p ≤ record_place f i → record_place f i < q + 12 → (t : Bool) → eqb i s.place.index ≡ t → takes_part f bit (record_place f i) ≡ false
        go i a b true t = rw (eqb-true i s.place.index t, ← s.place.is) e
        go i a b false t =
            let n : (i ≡ s.place.index → ⊥) = eqb-false i s.place.index t in
            s.unnamed i a (omega (arith, s.place.is, place_of f i, place_of f s.place.index))

    -- the search is through
    pub passed-end : {p q end : ℕ} → Passed f bit p q → end ≡ record_place f (variables f) → end ≤ q → Passed f bit p end
    passed-end {p} {q} {end} s e h =
        let last : q ≡ end = omega (arith, e, s.place.is, s.place.inside, place_of f s.place.index, place_of f (variables f)) in
        subst (Passed f bit p) last s

    module _ (from to : Variable → ℕ) where
      skip : (n i : ℕ) → i + n ≤ variables f → ((j : ℕ) → i ≤ j → j < i + n → takes_part f bit (record_place f j) ≡ false)
          → moves_of (has_bit bit) from to (drop i (variables_of f)) ≡ moves_of (has_bit bit) from to (drop (i + n) (variables_of f))
      skip zero i h u = rw (add-zero i)
      skip (suc n) i h u =
          let e : i + 1 + n ≡ i + suc n = omega arith in
          ap (moves_of (has_bit bit) from to) (variables-from i (omega arith))
          ∙ moves-unnamed (has_bit bit) from to (variable_in f (record_place f i)) (drop (i + 1) (variables_of f)) (u i (omega arith) (omega arith))
          ∙ skip n (i + 1) (omega arith) (λ j a b. u j (omega arith) (omega arith))
          ∙ ap (λ (m : ℕ). moves_of (has_bit bit) from to (drop m (variables_of f))) e

      -- records that are passed have no byte in the exchange
      pub passed-moves : {p q : ℕ} (w : RecordAt f p) (s : Passed f bit p q)
          → moves_of (has_bit bit) from to (drop w.index (variables_of f)) ≡ moves_of (has_bit bit) from to (drop s.place.index (variables_of f))
      passed-moves w s =
          let i = w.index in
          let j = s.place.index in
          let l : i ≤ j = omega (arith, s.from, w.is, s.place.is, place_of f i, place_of f j) in
          let e : i + (j - i) ≡ j = omega arith in
          skip (j - i) i (omega (arith, s.place.inside))
          (λ h a b. s.unnamed h (omega (arith, w.is, place_of f i, place_of f h)) (omega (arith, s.place.is, place_of f h, place_of f j)))
          ∙ ap (λ (m : ℕ). moves_of (has_bit bit) from to (drop m (variables_of f))) e

    -- ---- the bytes of an exchange

    -- n records from number i on have at most 8 bytes each
    widths-few : Laid f → (n i : ℕ) → i + n ≡ variables f → widths (has_bit bit) (drop i (variables_of f)) ≤ 8 * n
    unfolding widths
    widths-few ok zero i e = rw (variables-end i (omega arith)) (omega arith)
    widths-few ok (suc n) i e =
        let l : i < variables f = omega arith in
        let w : pick (takes_part f bit (record_place f i)) (byte f (record_place f i + 2)) 0 ≤ 8 =
        by-pick (λ (n : ℕ). n ≤ 8) (takes_part f bit (record_place f i)) (byte f (record_place f i + 2)) 0 (λ t. (ok.width i l).1) (λ t. omega arith) in
        rw (variables-from i l) (omega (arith, widths-few ok n (i + 1) (omega arith)))

    pub bytes-few : Laid f → exchange_bytes f bit ≤ 512
    unfolding exchange_bytes
    bytes-few ok = omega (arith, ok.few, widths-few ok (variables f) 0 (zero-add (variables f)))

    -- the widths before place p, added up
    pub record Added (p total : ℕ) : Type 0 where
      pub place : RecordAt f p
      pub rest : total + widths (has_bit bit) (drop place.index (variables_of f)) ≡ exchange_bytes f bit

    pub added_none : {p : ℕ} → p ≡ record_place f 0 → Added p 0
    unfolding exchange_bytes
    added_none e = record { place = first-place e; rest = zero-add (exchange_bytes f bit) }

    module _ {p total : ℕ} (a : Added p total) (h : p < record_place f (variables f)) where
      added_more : total + pick (takes_part f bit p) (byte f (p + 2)) 0 + widths (has_bit bit) (drop (a.place.index + 1) (variables_of f)) ≡ exchange_bytes f bit
      unfolding widths
      added_more =
          let i = a.place.index in
          let e : pick (takes_part f bit p) (byte f (p + 2)) 0 ≡ pick (takes_part f bit (record_place f i)) (byte f (record_place f i + 2)) 0 =
          ap (λ (q : ℕ). pick (takes_part f bit q) (byte f (q + 2)) 0) a.place.is in
          omega (arith, a.rest, ap (widths (has_bit bit)) (variables-from i (index_below a.place h)))

      pub added-named : {next : ℕ} → takes_part f bit p ≡ true → next ≡ total + byte f (p + 2) → Added (p + 12) next
      added-named e n = record { place = place-next a.place h; rest = omega (arith, added_more, pick_true (takes_part f bit p) (byte f (p + 2)) 0 e) }

      pub added-unnamed : {next : ℕ} → takes_part f bit p ≡ false → next ≡ total → Added (p + 12) next
      added-unnamed e n = record { place = place-next a.place h; rest = omega (arith, added_more, pick-false (takes_part f bit p) (byte f (p + 2)) 0 e) }

    pub added-all : {p total : ℕ} → Added p total → record_place f (variables f) ≤ p → total ≡ exchange_bytes f bit
    unfolding widths
    added-all a h =
        let i = a.place.index in
        let l : variables f ≤ i = omega (arith, a.place.is, place_of f i, place_of f (variables f)) in
        omega (arith, a.rest, ap (widths (has_bit bit)) (variables-end i l))
