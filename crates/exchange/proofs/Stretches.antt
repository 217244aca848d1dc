-- Laws of an exchange that is copied whole, a variable at a time. In order: a stretch; the records whose bytes are copied; where a record's bytes lie.
-- Assumes nothing.
use mathlib.Core.Path.{◌≡◌, refl, sym, ap, ◌∙◌, subst⁻¹}
use mathlib.Core.Logic.{◌⊎◌}
use mathlib.Core.Bool.{true, false}
use mathlib.Core.List.{List, [], ◌∷◌, ◌++◌}
use Prim.Native.Nat.{ℕ, zero, suc, ◌+◌, ◌*◌, ◌≤◌, ◌<◌}
use native.Mathlib.Omega.{arith}
use lib.ListN.{length, get_or, set, drop}
use Rattle.memory.specs.Memory.{splice, part, byte, word}
use Rattle.memory.proofs.Laws.{length-splice}
use Rattle.memory.proofs.Turns.{part-cons}
use Rattle.protocol.specs.State.{Move}
use Rattle.protocol.specs.Step.{copy}
use Rattle.protocol.specs.Variables.{Variable, span, moves_of}
use Rattle.records.specs.File.{cores, data_size, variables, record_place, variable_in}
use Rattle.taskset.specs.Task.{variables_of}
use Rattle.exchange.specs.Exchange.{has_bit}
use Rattle.exchange.specs.Laid.{Laid, takes_part, RecordAt}
use Rattle.exchange.proofs.Moves.{moves-named, moves-unnamed}
use Rattle.exchange.proofs.Records.{place_of, first-place, index_below, place-next, variables-from, variables-end}
use Rattle.exchange.proofs.Cursors.{local_at}

-- ---- a stretch

pub copy-append : (ms ns : List Move) (from to : List ℕ) → copy (ms ++ ns) from to ≡ copy ns from (copy ms from to)
copy-append [] ns from to = refl
copy-append (m ∷ ms) ns from to = copy-append ms ns from (set to m.target (get_or from m.source 0))

none-copied : (s d : List ℕ) (a b : ℕ) → d ≡ splice d b (part s a 0)
unfolding splice part
none-copied s d a b = refl

first-copied : (d ys : List ℕ) (b y : ℕ) → splice (set d b y) (suc b) ys ≡ splice d b (y ∷ ys)
unfolding splice
first-copied d ys b y = refl

pub copy-span : (n a b : ℕ) (from to : List ℕ) → a + n ≤ length from → copy (span n a b) from to ≡ splice to b (part from a n)
copy-span zero a b from to h = none-copied from to a b
copy-span (suc n) a b from to h =
    copy-span n (suc a) (suc b) from (set to b (get_or from a 0)) (omega arith)
    ∙ first-copied to (part from (suc a) n) b (get_or from a 0)
    ∙ ap (splice to b) (sym (part-cons from a (suc n) n (suc a) refl refl (omega arith)))

-- ---- the records whose bytes are copied: those before place p; of the data to₀ they made `to`

module _ (f : List ℕ) (bit : ℕ) (source target : Variable → ℕ) (from to₀ : List ℕ) where
  abbrev bytes_from : ℕ → List Move
  bytes_from i = moves_of (has_bit bit) source target (drop i (variables_of f))

  pub record Copied (p : ℕ) (to : List ℕ) : Type 0 where
    pub place : RecordAt f p
    pub rest : copy (bytes_from place.index) from to ≡ copy (bytes_from 0) from to₀
    pub long : length to ≡ length to₀

  pub copied_none : {p : ℕ} → p ≡ record_place f 0 → Copied p to₀
  copied_none e = record { place = first-place f e; rest = refl; long = refl }

  module _ {p : ℕ} {to : List ℕ} (w : Copied p to) (h : p < record_place f (variables f)) where
    from-here : bytes_from w.place.index ≡ moves_of (has_bit bit) source target (variable_in f p ∷ drop (w.place.index + 1) (variables_of f))
    from-here =
        ap (moves_of (has_bit bit) source target) (variables-from f w.place.index (index_below f w.place h))
        ∙ ap (λ (q : ℕ). moves_of (has_bit bit) source target (variable_in f q ∷ drop (w.place.index + 1) (variables_of f))) (sym w.place.is)

    pub copied-named : {to' : List ℕ} {a b n : ℕ} → takes_part f bit p ≡ true → a ≡ source (variable_in f p) → b ≡ target (variable_in f p) → n ≡ byte f (p + 2) → a + n ≤ length from
        → to' ≡ splice to b (part from a n) → Copied (p + 12) to'
    copied-named {to'} {a} {b} {n} e ea eb en inside z =
        let v = variable_in f p in
        let vs = drop (w.place.index + 1) (variables_of f) in
        record {
          place = place-next f w.place h;
          rest = ap (copy (moves_of (has_bit bit) source target vs) from) (z ∙ sym (copy-span n a b from to inside) ∙ (λ i. copy (span (en i) (ea i) (eb i)) from to))
              ∙ sym (copy-append (span v.width (source v) (target v)) (moves_of (has_bit bit) source target vs) from to)
              ∙ ap (λ (ms : List Move). copy ms from to) (sym (from-here ∙ moves-named (has_bit bit) source target v vs e))
              ∙ w.rest;
          long = ap length z ∙ length-splice to b (part from a n) ∙ w.long;
        }

    pub copied-unnamed : {to' : List ℕ} → takes_part f bit p ≡ false → to' ≡ to → Copied (p + 12) to'
    copied-unnamed e z = record {
      place = place-next f w.place h;
      rest = ap (copy (bytes_from (w.place.index + 1)) from) z
          ∙ ap (λ (ms : List Move). copy ms from to) (sym (from-here ∙ moves-unnamed (has_bit bit) source target (variable_in f p) (drop (w.place.index + 1) (variables_of f)) e))
          ∙ w.rest;
      long = ap length z ∙ w.long;
    }

  pub copied_all : {p : ℕ} {to : List ℕ} → Copied p to → record_place f (variables f) ≤ p → to ≡ copy (moves_of (has_bit bit) source target (variables_of f)) from to₀
  copied_all {p} {to} w h =
      let i = w.place.index in
      ap (λ (vs : List Variable). copy (moves_of (has_bit bit) source target vs) from to) (sym (variables-end f i (omega (arith, w.place.is, place_of f i, place_of f (variables f))))) ∙ w.rest

-- ---- where a record's bytes lie

module _ (f : List ℕ) (ok : Laid f) {p : ℕ} (w : RecordAt f p) (h : p < record_place f (variables f)) where
  pub record-shared : word f p + byte f (p + 2) ≤ 1024
  record-shared = subst⁻¹ (λ (q : ℕ). word f q + byte f (q + 2) ≤ 1024) w.is (ok.in-shared w.index (index_below f w h))

  pub record-local : (k : ℕ) → k < cores f → (takes_part f k p ≡ true) ⊎ (takes_part f (4 + k) p ≡ true) → word f (p + 4 + 2 * k) + byte f (p + 2) ≤ data_size f k
  record-local k l e =
      let n : word f (record_place f w.index + 4 + 2 * k) + byte f (record_place f w.index + 2) ≤ data_size f k
      = omega (arith, ok.in-data w.index k (index_below f w h) l (rw w.is at e), local_at f k (record_place f w.index) (omega (arith, ok.few-cores))) in
      subst⁻¹ (λ (q : ℕ). word f (q + 4 + 2 * k) + byte f (q + 2) ≤ data_size f k) w.is n
