-- What the converters answer and write, refused or not. In order: a call; the new form; the old form. Assumes nothing.
use mathlib.Core.Path.{◌≡◌, refl, sym, ap, ap₂, ◌∙◌, subst}
use mathlib.Core.Logic.{◌≢◌}
use mathlib.Core.Bool.{Bool, true, false}
use mathlib.Core.List.{List, ◌∷◌, ◌++◌}
use Prim.Native.Nat.{ℕ, zero, suc, ◌+◌, ◌-◌, ◌*◌, ◌≤◌, ◌<◌}
use native.Mathlib.Omega.{arith}
use borrow.Author.Tests.{le-leb, lt-leb, eq-eqb, ne_eqb}
use lib.ListN.{length}
use lib.Seq.{take_all}
use Rattle.verdict.proofs.Verdict.{pick_true, pick-false, skip, stop, halt, yes, no, next-none}
use Rattle.memory.specs.Memory.{splice, part, bytes_le}
use Rattle.memory.proofs.Laws.{splice-append}
use Rattle.protocol.specs.Fresh.{zeros}
use Rattle.records.specs.File.{cores}
use Rattle.taskset.specs.Judge.{old_mark, new_mark, is_old, is_new, code_place, start_place, judge}
use Rattle.forms.specs.Forms.{body_of, to_new, to_old, no_starts, to_new_refusal, to_old_refusal, FormAnswer, ConversionLeft, convert_call, converted_lent, lent_by}
use Rattle.forms.proofs.BothWays.{length-body, body-begins, length-old, length-new, old-ends, none-short, short_none, none-tested, tested-none}

-- ---- a call

-- a mark has four bytes
pub whole-mark : (s : List ℕ) → length s ≤ 4 → part s 0 4 ≡ s
unfolding part
whole-mark s h = take_all 4 s h

pub convert-refused : (x : FormAnswer) (out g : List ℕ) (r n : ℕ) → x ≡ record { refusal = r; length = 0 } → r ≡ n → r ≢ 0
    → ◌≡◌ {A = ConversionLeft} (record { answer = x; output = out }) (convert_call n g out)
unfolding convert_call
convert-refused x out g r n e q z =
    ap (λ (y : FormAnswer). record { answer = y; output = out }) (e ∙ ap (λ (m : ℕ). record { refusal = m; length = 0 }) q)
    ∙ sym (pick-false _ _ _ (ne_eqb n 0 (λ w. z (q ∙ w))))

pub convert-granted : (out out' g : List ℕ) (l n : ℕ) → n ≡ 0 → l ≡ length g → out' ≡ splice out 0 g
    → ◌≡◌ {A = ConversionLeft} (record { answer = record { refusal = 0; length = l }; output = out' }) (convert_call n g out)
unfolding convert_call
convert-granted out out' g l n z e q =
    ap₂ (λ (m : ℕ) (o : List ℕ). record { answer = record { refusal = 0; length = m }; output = o }) e q ∙ sym (pick_true _ _ _ (eq-eqb n 0 z))

-- over C
pub lent-refused : (x : FormAnswer) (out : List ℕ) (y : ConversionLeft) (place : ℕ) → ◌≡◌ {A = ConversionLeft} (record { answer = x; output = out }) y → x.refusal ≢ 0 → converted_lent x.refusal place out ≡ lent_by y place
unfolding lent_by
lent-refused x out y place e n = subst (λ (z : ConversionLeft). converted_lent x.refusal place out ≡ lent_by z place) e (ap (λ (m : ℕ). converted_lent x.refusal m out) (sym (pick-false _ _ _ (ne_eqb x.refusal 0 n))))

pub lent-granted : (x : FormAnswer) (out : List ℕ) (y : ConversionLeft) (place : ℕ) → ◌≡◌ {A = ConversionLeft} (record { answer = x; output = out }) y → x.refusal ≡ 0 → converted_lent 0 x.length out ≡ lent_by y place
unfolding lent_by
lent-granted x out y place e z =
    subst (λ (w : ConversionLeft). converted_lent 0 x.length out ≡ lent_by w place) e
    (ap₂ (λ (r m : ℕ). converted_lent r m out) (sym z) (sym (pick_true _ _ _ (eq-eqb x.refusal 0 z))))

-- ---- the new form

bytes-zero : (m : ℕ) → bytes_le m 0 ≡ zeros m
unfolding bytes_le
bytes-zero zero = refl
bytes-zero (suc m) = ap (λ (l : List ℕ). 0 ∷ l) (bytes-zero m)

module _ (f : List ℕ) (room : ℕ) where
  pub new-short : length f < 4 → 1 ≡ to_new_refusal f room
  unfolding to_new_refusal
  new-short h = halt 0 _ (no _ _ (lt-leb _ _ h))

  module _ (there : 4 ≤ length f) where
    pub new-mark : is_old f ≡ false → 2 ≡ to_new_refusal f room
    unfolding to_new_refusal
    new-mark e = skip (yes _ _ (le-leb _ _ there)) (halt 1 _ (no _ _ e))

    module _ (old : is_old f ≡ true) where
      pub new-file : (r : ℕ) → r ≡ judge f → r ≢ 0 → r ≡ to_new_refusal f room
      unfolding to_new_refusal
      new-file r e z = skip (yes _ _ (le-leb _ _ there)) (skip (yes _ _ old) (stop _ e z))

      module _ (accepted : judge f ≡ 0) (n : ℕ) (e : n ≡ cores f) where
        pub new-length : length f + 2 * n ≡ length (to_new f)
        new-length = omega (arith, length-new f accepted, old-ends f accepted old)

        pub new-room : room < length f + 2 * n → 21 ≡ to_new_refusal f room
        unfolding to_new_refusal
        new-room h = skip (yes _ _ (le-leb _ _ there)) (skip (yes _ _ old) (skip accepted (sym (no _ 21 (lt-leb (length (to_new f)) room (omega (arith, new-length)))))))

        pub new_none : length f + 2 * n ≤ room → to_new_refusal f room ≡ 0
        unfolding to_new_refusal
        new_none h =
            next-none _ _ (yes _ _ (le-leb _ _ there)) (next-none _ _ (yes _ _ old) (next-none _ _ accepted (yes _ 21 (le-leb (length (to_new f)) room (omega (arith, new-length))))))

        -- mark, body and counts, one after another
        pub new-written : (out a b : List ℕ) → a ≡ splice (splice out 0 new_mark) 4 (part f 4 (length f - 4)) → b ≡ splice a (length f) (bytes_le (2 * n) 0) → b ≡ splice out 0 (to_new f)
        unfolding to_new body_of
        new-written out a b p q =
            q
            ∙ ap₂ (λ (s z : List ℕ). splice s (length f) z) (p ∙ ap (λ (m : ℕ). splice (splice out 0 new_mark) 4 (part f 4 (m - 4))) (sym (old-ends f accepted old))) (bytes-zero (2 * n) ∙ ap (λ (m : ℕ). zeros (2 * m)) e)
            ∙ sym
            (splice-append out 0 new_mark (body_of f ++ zeros (2 * cores f))
            ∙ splice-append (splice out 0 new_mark) 4 (body_of f) (zeros (2 * cores f))
            ∙ ap (λ (m : ℕ). splice (splice (splice out 0 new_mark) 4 (body_of f)) m (zeros (2 * cores f))) (let l : 4 + length (body_of f) ≡ length f = omega (arith, length-body f accepted, body-begins f accepted, old-ends f accepted old) in l))

-- ---- the old form

-- the codes end where the start values begin
pub end_is : (f : List ℕ) (n end : ℕ) → end ≡ code_place f n → n ≡ cores f → end ≡ start_place f 0
unfolding start_place
end_is f n end e q = e ∙ ap (code_place f) q

module _ (f : List ℕ) (room : ℕ) where
  pub old-short : length f < 4 → 1 ≡ to_old_refusal f room
  unfolding to_old_refusal
  old-short h = halt 0 _ (no _ _ (lt-leb _ _ h))

  module _ (there : 4 ≤ length f) where
    pub old-mark : is_new f ≡ false → 2 ≡ to_old_refusal f room
    unfolding to_old_refusal
    old-mark e = skip (yes _ _ (le-leb _ _ there)) (halt 1 _ (no _ _ e))

    module _ (new : is_new f ≡ true) where
      pub old-file : (r : ℕ) → r ≡ judge f → r ≢ 0 → r ≡ to_old_refusal f room
      unfolding to_old_refusal
      old-file r e z = skip (yes _ _ (le-leb _ _ there)) (skip (yes _ _ new) (stop _ e z))

      module _ (accepted : judge f ≡ 0) (n end : ℕ) (e : n ≡ cores f) (q : end ≡ start_place f 0) where
        pub old-length : end ≡ length (to_old f)
        old-length = q ∙ sym (length-old f accepted)

        pub old-starts : length f ≢ end + 2 * n → 32 ≡ to_old_refusal f room
        unfolding to_old_refusal
        old-starts h = skip (yes _ _ (le-leb _ _ there)) (skip (yes _ _ new) (skip accepted (halt 31 _ (no _ 32 (go (no_starts f) refl)))))
          where
            go : (b : Bool) → no_starts f ≡ b → no_starts f ≡ false
            go true t = absurd (h (none-short f accepted new (tested-none f t) ∙ ap₂ (λ (p m : ℕ). p + 2 * m) (sym q) (sym e)))
            go false t = t

        module _ (short : length f ≡ end + 2 * n) where
          none_here : no_starts f ≡ true
          none_here = none-tested f (short_none f accepted new (short ∙ ap₂ (λ (p m : ℕ). p + 2 * m) q e))

          pub old-room : room < end → 21 ≡ to_old_refusal f room
          unfolding to_old_refusal
          old-room h =
              skip (yes _ _ (le-leb _ _ there)) (skip (yes _ _ new) (skip accepted (skip (yes _ 32 none_here) (sym (no _ 21 (lt-leb (length (to_old f)) room (omega (arith, old-length))))))))

          pub old-none : end ≤ room → to_old_refusal f room ≡ 0
          unfolding to_old_refusal
          old-none h =
              next-none _ _ (yes _ _ (le-leb _ _ there))
              (next-none _ _ (yes _ _ new) (next-none _ _ accepted (next-none _ _ (yes _ 32 none_here) (yes _ 21 (le-leb (length (to_old f)) room (omega (arith, old-length)))))))

        pub old-written : (out a : List ℕ) → a ≡ splice (splice out 0 old_mark) 4 (part f 4 (end - 4)) → a ≡ splice out 0 (to_old f)
        unfolding to_old body_of
        old-written out a p = p ∙ ap (λ (m : ℕ). splice (splice out 0 old_mark) 4 (part f 4 (m - 4))) q ∙ sym (splice-append out 0 old_mark (body_of f))
