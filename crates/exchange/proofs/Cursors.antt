-- Laws of the cursor. In order: the exchanges by their bit; the variable under way; n bytes further; the byte to copy. Assumes nothing.
use mathlib.Core.Path.{◌≡◌, sym, ap, ap₂, subst, subst⁻¹, ◌∙◌}
use mathlib.Core.Logic.{◌⊎◌}
use mathlib.Core.Bool.{Bool, true}
use mathlib.Core.List.{List, [], ◌∷◌}
use Prim.Native.Nat.{ℕ, zero, suc, ◌+◌, ◌*◌, ◌≤◌, ◌<◌}
use native.Mathlib.Omega.{arith}
use borrow.Author.Tests.{lt-ltb}
use lib.Dec.{ltb}
use lib.ListN.{length, get_or, set, take, drop, length-drop}
use lib.Seq.{drop-drop, drop-nil}
use Rattle.verdict.specs.Verdict.{both}
use Rattle.memory.specs.Memory.{byte, word}
use Rattle.protocol.specs.State.{Move}
use Rattle.protocol.specs.Step.{copy}
use Rattle.protocol.specs.Variables.{Variable, local, reads_it, writes_it, span, moves_of, reads_of, writes_of}
use Rattle.records.specs.File.{cores, data_size, variables, record_place, variable_in, variable_at}
use Rattle.taskset.specs.Task.{variables_of}
use Rattle.exchange.specs.declared.Cursor.{Cursor}
use Rattle.exchange.specs.Exchange.{has_bit, At}
use Rattle.exchange.specs.Laid.{Laid, takes_part, exchange_bytes, RecordAt, Passed}
use Rattle.exchange.proofs.Moves.{length-moves, moves-whole, moves-stretch, moves_next, moves-same}
use Rattle.exchange.proofs.Records.{place_of, variables-from, variables-end, record-there, passed-moves}

-- ---- the exchanges by their bit

both_first : (a b : Bool) → a ≡ true → both a b ≡ b
both_first a b e = rw e

module _ (k : ℕ) (h : k < 4) where
  pub reads-named : (v : Variable) → reads_it k v ≡ has_bit (4 + k) v
  unfolding reads_it has_bit
  reads-named v = both_first (ltb k 4) (has_bit (4 + k) v) (lt-ltb k 4 h)

  pub writes-named : (v : Variable) → writes_it k v ≡ has_bit k v
  unfolding writes_it has_bit
  writes-named v = both_first (ltb k 4) (has_bit k v) (lt-ltb k 4 h)

  pub reads-by-bit : (vs : List Variable) → reads_of vs k ≡ moves_of (has_bit (4 + k)) (λ v. v.place) (local k) vs
  reads-by-bit vs = moves-same (reads_it k) (has_bit (4 + k)) (λ v. v.place) (local k) reads-named vs

  pub writes-by-bit : (vs : List Variable) → writes_of vs k ≡ moves_of (has_bit k) (local k) (λ v. v.place) vs
  writes-by-bit vs = moves-same (writes_it k) (has_bit k) (local k) (λ v. v.place) writes-named vs

module _ (f : List ℕ) where
  pub length-exchange : (bit : ℕ) (from to : Variable → ℕ) → length (moves_of (has_bit bit) from to (variables_of f)) ≡ exchange_bytes f bit
  unfolding exchange_bytes
  length-exchange bit from to = length-moves (has_bit bit) from to (variables_of f)

  pub length-reads : (k : ℕ) → k < 4 → length (reads_of (variables_of f) k) ≡ exchange_bytes f (4 + k)
  length-reads k h = ap length (reads-by-bit k h (variables_of f)) ∙ length-exchange (4 + k) (λ v. v.place) (local k)

  pub length-writes : (k : ℕ) → k < 4 → length (writes_of (variables_of f) k) ≡ exchange_bytes f k
  length-writes k h = ap length (writes-by-bit k h (variables_of f)) ∙ length-exchange k (local k) (λ v. v.place)

  -- the place in the data of core k, as the record at p has it
  pub local_at : (k p : ℕ) → k < 4 → local k (variable_in f p) ≡ word f (p + 4 + 2 * k)
  local_at zero p h = ap (word f) (omega arith)
  local_at (suc zero) p h = ap (word f) (omega arith)
  local_at (suc (suc zero)) p h = ap (word f) (omega arith)
  local_at (suc (suc (suc zero))) p h = ap (word f) (omega arith)
  local_at (suc (suc (suc (suc k)))) p h = absurd (let z : ⊥ = omega arith in z)

  module _ (bit : ℕ) where
    -- the bytes of the exchange that the records from number i on have
    abbrev bytes_from : (Variable → ℕ) → (Variable → ℕ) → ℕ → List Move
    bytes_from from to i = moves_of (has_bit bit) from to (drop i (variables_of f))

    -- ---- the variable under way

    -- after x bytes, all of those before the record at p, a search from there finds the next one
    pub at-found : (ok : Laid f) (x : ℕ) {p q : ℕ} (w : RecordAt f p) → ((from to : Variable → ℕ) → drop x (bytes_from from to 0) ≡ bytes_from from to w.index)
        → Passed f bit p q → (q < record_place f (variables f) → takes_part f bit q ≡ true) → At f bit x record { «record» = q; byte = 0 }
    at-found ok x w e s n =
        let j = s.place.index in
        record {
          index = j;
          place = s.place.is;
          inside = s.place.inside;
          rest = λ from to. e from to ∙ passed-moves f bit from to w s;
          chosen = λ l. (subst (λ (p : ℕ). takes_part f bit p ≡ true) s.place.is (n (omega (arith, s.place.is, place_of f j, place_of f (variables f)))), (ok.width j l).0);
        }

    module _ {x : ℕ} {c : Cursor} (a : At f bit x c) (left : x < exchange_bytes f bit) where
      not-past : variables f ≤ a.index → ⊥
      not-past h =
          let none : drop x (bytes_from (λ v. 0) (λ v. 0) 0) ≡ [] = a.rest (λ v. 0) (λ v. 0) ∙ rw (variables-end f a.index h) (drop-nil c.byte) in
          omega (arith, length-drop x (bytes_from (λ v. 0) (λ v. 0) 0), length-exchange bit (λ v. 0) (λ v. 0), ap length none)

      -- where a byte is left, the cursor is at a variable
      pub at-variable : a.index < variables f
      at-variable = let n : (variables f ≤ a.index → ⊥) = not-past in omega arith

      abbrev pub at_place : RecordAt f c.record
      at_place = record { index = a.index; is = a.place; inside = a.inside }

      pub at_before : c.record < record_place f (variables f)
      at_before = omega (arith, at-variable, a.place, place_of f a.index, place_of f (variables f))

      -- it has this bit, and the byte is one of its bytes
      pub at-chosen : (takes_part f bit c.record ≡ true) × (c.byte < byte f (c.record + 2))
      at-chosen = subst⁻¹ (λ (p : ℕ). (takes_part f bit p ≡ true) × (c.byte < byte f (p + 2))) a.place (a.chosen at-variable)

      from-here : (from to : Variable → ℕ) → bytes_from from to a.index ≡ moves_of (has_bit bit) from to (variable_in f c.record ∷ drop (a.index + 1) (variables_of f))
      from-here from to =
          ap (moves_of (has_bit bit) from to) (variables-from f a.index at-variable)
          ∙ ap (λ (p : ℕ). moves_of (has_bit bit) from to (variable_in f p ∷ drop (a.index + 1) (variables_of f))) (sym a.place)

      -- ---- n bytes further

      pub further : (n : ℕ) (from to : Variable → ℕ) → drop (x + n) (bytes_from from to 0) ≡ drop (c.byte + n) (bytes_from from to a.index)
      further n from to = sym (drop-drop n x (bytes_from from to 0)) ∙ ap (drop n) (a.rest from to) ∙ drop-drop n c.byte (bytes_from from to a.index)

      -- within the variable
      pub at-within : (n : ℕ) → c.byte + n < byte f (c.record + 2) → At f bit (x + n) record { «record» = c.record; byte = c.byte + n }
      at-within n h = record {
        index = a.index;
        place = a.place;
        inside = a.inside;
        rest = further n;
        chosen = λ l. ((a.chosen l).0, subst (λ (p : ℕ). c.byte + n < byte f (p + 2)) a.place h);
      }

      -- past the variable: its bytes are all copied
      pub at-whole : (n : ℕ) → c.byte + n ≡ byte f (c.record + 2) → (from to : Variable → ℕ) → drop (x + n) (bytes_from from to 0) ≡ bytes_from from to (a.index + 1)
      at-whole n e from to =
          further n from to
          ∙ ap₂ (λ (n : ℕ) (l : List Move). drop n l) e (from-here from to)
          ∙ moves-whole (has_bit bit) from to (variable_in f c.record) (drop (a.index + 1) (variables_of f)) at-chosen.0

      -- the n bytes that are next, within the variable
      pub at-stretch : (n : ℕ) → c.byte + n ≤ byte f (c.record + 2) → (from to : Variable → ℕ)
          → take n (drop x (bytes_from from to 0)) ≡ span n (from (variable_in f c.record) + c.byte) (to (variable_in f c.record) + c.byte)
      at-stretch n h from to =
          ap (take n) (a.rest from to ∙ ap (drop c.byte) (from-here from to))
          ∙ moves-stretch (has_bit bit) from to (variable_in f c.record) (drop (a.index + 1) (variables_of f)) c.byte n at-chosen.0 h

      -- ---- the byte to copy

      pub at_next : (from to : Variable → ℕ) → take 1 (drop x (bytes_from from to 0))
          ≡ record { source = from (variable_in f c.record) + c.byte; target = to (variable_in f c.record) + c.byte } ∷ []
      at_next from to =
          ap (take 1)
          (a.rest from to ∙ ap (drop c.byte) (from-here from to)
          ∙ moves_next (has_bit bit) from to (variable_in f c.record) (drop (a.index + 1) (variables_of f)) c.byte at-chosen.0 at-chosen.1)

      module _ (ok : Laid f) where
        pub record-whole : c.record + 12 ≤ length f
        record-whole = record-there f ok at_place at_before

        pub byte-few : c.byte < 8
        byte-few = omega (arith, (a.chosen at-variable).1, (ok.width a.index at-variable).1)

        pub shared-fits : word f c.record + c.byte < 1024
        shared-fits = subst⁻¹ (λ (p : ℕ). word f p + c.byte < 1024) a.place (omega (arith, (a.chosen at-variable).1, ok.in-shared a.index at-variable))

        pub local_fits : (k : ℕ) → k < cores f → ((v : Variable) → has_bit bit v ≡ true → (has_bit k v ≡ true) ⊎ (has_bit (4 + k) v ≡ true))
            → word f (c.record + 4 + 2 * k) + c.byte < data_size f k
        local_fits k h n =
            let v = variable_at f a.index in
            subst⁻¹ (λ (p : ℕ). word f (p + 4 + 2 * k) + c.byte < data_size f k) a.place
            (omega (
              arith,
              (a.chosen at-variable).1,
              ok.in-data a.index k at-variable h (n v (a.chosen at-variable).0),
              local_at k (record_place f a.index) (omega (arith, ok.few-cores)),
            ))

  module _ (ok : Laid f) {k x : ℕ} {c : Cursor} (h : k < cores f) where
    pub reads-next : At f (4 + k) x c → x < exchange_bytes f (4 + k)
        → take 1 (drop x (reads_of (variables_of f) k)) ≡ record { source = word f c.record + c.byte; target = word f (c.record + 4 + 2 * k) + c.byte } ∷ []
    reads-next a left =
        let l : k < 4 = omega (arith, ok.few-cores) in
        ap (λ (ms : List Move). take 1 (drop x ms)) (reads-by-bit k l (variables_of f))
        ∙ at_next (4 + k) a left (λ v. v.place) (local k)
        ∙ ap (λ (p : ℕ). record { source = word f c.record + c.byte; target = p + c.byte } ∷ []) (local_at k c.record l)

    pub writes-next : At f k x c → x < exchange_bytes f k
        → take 1 (drop x (writes_of (variables_of f) k)) ≡ record { source = word f (c.record + 4 + 2 * k) + c.byte; target = word f c.record + c.byte } ∷ []
    writes-next a left =
        let l : k < 4 = omega (arith, ok.few-cores) in
        ap (λ (ms : List Move). take 1 (drop x ms)) (writes-by-bit k l (variables_of f))
        ∙ at_next k a left (local k) (λ v. v.place)
        ∙ ap (λ (p : ℕ). record { source = p + c.byte; target = word f c.record + c.byte } ∷ []) (local_at k c.record l)

-- the copy of one byte is one store
pub copied : (from to : List ℕ) {ms : List Move} {a b s t : ℕ} → ms ≡ record { source = a; target = b } ∷ [] → t ≡ b → s ≡ a → set to t (get_or from s 0) ≡ copy ms from to
copied from to e p q = ap₂ (λ (i j : ℕ). set to i (get_or from j 0)) p q ∙ ap (λ (l : List Move). copy l from to) (sym e)
