-- Laws of a stretch of bytes of an exchange. In order: a word; the bytes under way; the sides. Assumes nothing.
use mathlib.Core.Path.{◌≡◌, refl, sym, ap, ap₂, subst, ◌∙◌}
use mathlib.Core.Logic.{inl, inr}
use mathlib.Core.List.{List}
use Prim.Native.Nat.{ℕ, ◌+◌, ◌-◌, ◌*◌, ◌≤◌, ◌<◌}
use native.Mathlib.Nat.{add-zero}
use native.Mathlib.Omega.{arith}
use lib.ListN.{length, take, drop}
use lib.Seq.{take-add, drop-drop}
use Rattle.memory.specs.Memory.{splice, part, byte, word}
use Rattle.memory.proofs.Laws.{length-splice, length_part, part-splice-same}
use Rattle.protocol.specs.State.{Move}
use Rattle.protocol.specs.Step.{copy}
use Rattle.protocol.specs.Variables.{Variable, local, span, moves_of}
use Rattle.records.specs.File.{cores, data_size, variables, record_place}
use Rattle.taskset.specs.Task.{variables_of}
use Rattle.exchange.specs.declared.Cursor.{Cursor}
use Rattle.exchange.specs.Exchange.{has_bit, At}
use Rattle.exchange.specs.Laid.{Laid, exchange_bytes, takes_part, RecordAt}
use Rattle.exchange.specs.Carried.{Lies, Tells, BytesCarried, AllCarried}
use Rattle.exchange.proofs.Cursors.{at-stretch, local_at}
use Rattle.exchange.proofs.Stretches.{copy-append, copy-span, Copied, copied_none, copied-named, copied-unnamed, copied_all, record-shared, record-local}
use Rattle.exchange.proofs.Records.{first-place, place-next}
use mathlib.Core.Bool.{true, false}

-- ---- a word: out to another list and in again

pub through_word : (src z t dst dst' : List ℕ) (to from n : ℕ) → from + n ≤ length src → n ≤ length z
    → t ≡ splice z 0 (part src from n) → dst' ≡ splice dst to (part t 0 n) → dst' ≡ splice dst to (part src from n)
through_word src z t dst dst' to from n h k p q =
    q ∙ ap (λ (l : List ℕ). splice dst to (part l 0 n)) p
    ∙ ap (λ (m : ℕ). splice dst to (part (splice z 0 (part src from n)) 0 m)) (sym (length_part src from n h))
    ∙ ap (splice dst to) (part-splice-same z 0 (part src from n) (rw (length_part src from n h) (omega arith)))

-- ---- the bytes under way: `left` of `count` are to be copied, and the others made `dst` of dst₀

module _ (f : List ℕ) (bit source target x count : ℕ) (src dst₀ : List ℕ) where
  abbrev bytes_of : (Variable → ℕ) → (Variable → ℕ) → List Move
  bytes_of from to = moves_of (has_bit bit) from to (variables_of f)

  pub record UnderWay (left : ℕ) (c : Cursor) (dst : List ℕ) : Type 0 where
    pub few : left ≤ count
    pub at : At f bit (x + (count - left)) c
    pub rest : (from to : Variable → ℕ) → Tells f source from → Tells f target to
        → copy (take left (drop (x + (count - left)) (bytes_of from to))) src dst ≡ copy (take count (drop x (bytes_of from to))) src dst₀
    pub long : length dst ≡ length dst₀

  pub under_first : {c : Cursor} → At f bit x c → UnderWay count c dst₀
  under_first {c} a =
      let e : x ≡ x + (count - count) = omega arith in
      record {
        few = omega arith;
        at = subst (λ (n : ℕ). At f bit n c) e a;
        rest = λ from to p q. ap (λ (n : ℕ). copy (take count (drop n (bytes_of from to))) src dst₀) (sym e);
        long = refl;
      }

  pub under_last : {c : Cursor} {left : ℕ} {dst : List ℕ} → UnderWay left c dst → left ≤ 0 → At f bit (x + count) c × BytesCarried f bit source target x count src dst₀ dst
  under_last {c} {left} {dst} w z =
      let e : x + (count - left) ≡ x + count = omega arith in
      let l : left ≡ 0 = omega arith in (
        subst (λ (n : ℕ). At f bit n c) e w.at,
        (λ from to p q. ap (λ (n : ℕ). copy (take n (drop (x + (count - left)) (bytes_of from to))) src dst) (sym l) ∙ w.rest from to p q),
      )

  module _ {left : ℕ} {c : Cursor} {dst : List ℕ} (w : UnderWay left c dst) (some : 0 < left) (room : x + count ≤ exchange_bytes f bit) where
    pub left-some : x + (count - left) < exchange_bytes f bit
    left-some = omega (arith, w.few)

    -- n bytes of the variable that the cursor is at
    pub under-on : (n : ℕ) → n ≤ left → c.byte + n ≤ byte f (c.record + 2) → {a b : ℕ} → a ≡ word f (c.record + source) + c.byte → b ≡ word f (c.record + target) + c.byte
        → a + n ≤ length src → {dst' : List ℕ} → dst' ≡ splice dst b (part src a n) → {c' : Cursor} → At f bit (x + (count - left) + n) c' → UnderWay (left - n) c' dst'
    under-on n few within {a} {b} ea eb inside {dst'} z {c'} next = record {
      few = omega (arith, w.few);
      at = subst (λ (m : ℕ). At f bit m c') y next;
      rest = λ from to p q. ap (λ (m : ℕ). copy (take (left - n) (drop m (bytes_of from to))) src dst') (sym y) ∙ step from to p q ∙ w.rest from to p q;
      long = ap length z ∙ length-splice dst b (part src a n) ∙ w.long;
    }
      where
        y : x + (count - left) + n ≡ x + (count - (left - n))
        y = omega (arith, w.few)

        own : (from to : Variable → ℕ) → Tells f source from → Tells f target to → dst' ≡ copy (take n (drop (x + (count - left)) (bytes_of from to))) src dst
        own from to p q =
            z ∙ sym (copy-span n a b src dst inside)
            ∙ ap₂ (λ (i j : ℕ). copy (span n i j) src dst) (ea ∙ ap (λ (m : ℕ). m + c.byte) (sym (p c.record))) (eb ∙ ap (λ (m : ℕ). m + c.byte) (sym (q c.record)))
            ∙ ap (λ (l : List Move). copy l src dst) (sym (at-stretch f bit w.at left-some n within from to))

        step : (from to : Variable → ℕ) → Tells f source from → Tells f target to
            → copy (take (left - n) (drop (x + (count - left) + n) (bytes_of from to))) src dst' ≡ copy (take left (drop (x + (count - left)) (bytes_of from to))) src dst
        step from to p q =
            let l : List Move = drop (x + (count - left)) (bytes_of from to) in
            let e : n + (left - n) ≡ left = omega arith in
            ap₂ (λ (u : List Move) (v : List ℕ). copy (take (left - n) u) src v) (sym (drop-drop n (x + (count - left)) (bytes_of from to))) (own from to p q)
            ∙ sym (copy-append (take n l) (take (left - n) (drop n l)) src dst)
            ∙ ap (λ (u : List Move). copy u src dst) (sym (take-add n (left - n) l) ∙ ap (λ (m : ℕ). take m l) e)

-- ---- all bytes: those of the records before place p are copied, and made `dst` of dst₀

module _ (f : List ℕ) (bit source target : ℕ) (src dst₀ : List ℕ) where
  pub record CarriedTo (p : ℕ) (dst : List ℕ) : Type 0 where
    pub place : RecordAt f p
    pub copied : (from to : Variable → ℕ) → Tells f source from → Tells f target to → Copied f bit from to src dst₀ p dst
    pub long : length dst ≡ length dst₀

  pub carried_none : {p : ℕ} → p ≡ record_place f 0 → CarriedTo p dst₀
  carried_none e = record { place = first-place f e; copied = λ from to s t. copied_none f bit from to src dst₀ e; long = refl }

  module _ {p : ℕ} {dst : List ℕ} (w : CarriedTo p dst) (h : p < record_place f (variables f)) where
    pub carried-named : {dst' : List ℕ} {a b n : ℕ} → takes_part f bit p ≡ true → a ≡ word f (p + source) → b ≡ word f (p + target) → n ≡ byte f (p + 2) → a + n ≤ length src
        → dst' ≡ splice dst b (part src a n) → CarriedTo (p + 12) dst'
    carried-named {dst'} {a} {b} {n} e ea eb en inside z = record {
      place = place-next f w.place h;
      copied = λ from to s t. copied-named f bit from to src dst₀ (w.copied from to s t) h e (ea ∙ sym (s p)) (eb ∙ sym (t p)) en inside z;
      long = ap length z ∙ length-splice dst b (part src a n) ∙ w.long;
    }

    pub carried-unnamed : {dst' : List ℕ} → takes_part f bit p ≡ false → dst' ≡ dst → CarriedTo (p + 12) dst'
    carried-unnamed e z = record {
      place = place-next f w.place h;
      copied = λ from to s t. copied-unnamed f bit from to src dst₀ (w.copied from to s t) h e z;
      long = ap length z ∙ w.long;
    }

  pub carried_all : {p : ℕ} {dst : List ℕ} → CarriedTo p dst → record_place f (variables f) ≤ p → AllCarried f bit source target src dst₀ dst
  carried_all w h from to s t = copied_all f bit from to src dst₀ (w.copied from to s t) h

-- ---- the sides

module _ (f : List ℕ) (ok : Laid f) (k : ℕ) (h : k < cores f) where
  core-few : k < 4
  core-few = omega (arith, ok.few-cores)

  pub shared-lies : (bit : ℕ) → Lies f bit 0 1024
  shared-lies bit p w l e = rw (add-zero p) (record-shared f ok w l)

  pub reading-lies : Lies f (4 + k) (4 + 2 * k) (data_size f k)
  reading-lies p w l e = subst (λ (q : ℕ). word f q + byte f (p + 2) ≤ data_size f k) (omega arith) (record-local f ok w l k h (inr e))

  pub writing-lies : Lies f k (4 + 2 * k) (data_size f k)
  writing-lies p w l e = subst (λ (q : ℕ). word f q + byte f (p + 2) ≤ data_size f k) (omega arith) (record-local f ok w l k h (inl e))

  pub shared-tells : Tells f 0 (λ v. v.place)
  shared-tells p = ap (word f) (sym (add-zero p))

  pub local-tells : Tells f (4 + 2 * k) (local k)
  local-tells p = local_at f k p core-few ∙ ap (word f) (omega arith)
