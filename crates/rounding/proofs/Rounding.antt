-- The claim of `specs/Rounding`: the laws of crate conversions, put together sentence by sentence. In order: a conversion by the number that
-- it is of; float destinations; what is not held; all of it. Assumes nothing.
use mathlib.Core.Path.{◌≡◌, refl, sym, ap, ◌∙◌, subst}
use mathlib.Core.Bool.{Bool, true, false}
use mathlib.Core.Logic.{⊎_elim}
use Prim.Native.Nat.{ℕ, ◌*◌, ◌^◌, ◌≤◌, ◌<◌}
use native.Mathlib.Omega.{arith}
use lib.IntN.{ℤ, pos, nat_abs}
use lib.Signed.{lt_z}
use lib.Ieee as Ieee
use lib.Ieee.{Float, nan, inf, fin, binary32, binary64, up, down}
use lib.Ieee.Nearest.{closest}
use lib.Ieee.Fits.{down_pos}
use Rattle.verdict.proofs.Verdict.{absurd-bool, inside-true}
use Rattle.values.specs.Types.{width_of}
use Rattle.values.specs.Values.{typed, stored, pattern_of}
use Rattle.values.specs.declared.Value.{Value}
use Rattle.values.specs.declared.Value.TheVariants.{Bool as VBool, Signed, Real, Lreal}
use Rattle.std.specs.Prelude.{None}
use Rattle.conversions.specs.Conversions.{Result, stores, not-held, with_sign, nearest_whole, to_whole, narrow, to_real, to_lreal, to_type, result_as, converted}
use Rattle.conversions.specs.Kept.{Whole, number_at}
use Rattle.conversions.specs.Rounding.{Rounded}
use Rattle.conversions.proofs.Types.{is_stored}
use Rattle.conversions.proofs.Rounding.{nearest-unique}
use Rattle.conversions.proofs.Ieee.{whole-rounded, narrow-rounded}
use Rattle.conversions.proofs.Kept.{each-whole, kept, nearest-stored, same_whole}
use Rattle.conversions.proofs.Floats.{real-stored, lreal-stored}
use Rattle.rounding.specs.Rounding.{StandsFor, Conversions}

whole-type : (t : ℕ) → Whole t → t < 12
whole-type t w = below t (inside-true 1 8 t w).1
  where
    below : (t : ℕ) → t ≤ 8 → t < 12
    below t h = omega arith

-- ---- a conversion by the number that it is of

-- two operands that every whole width takes alike
same-destination : (v u : Value) → ((b : Bool) (w : ℕ) → to_whole b w v ≡ to_whole b w u) → (t : ℕ) → Whole t → result_as t (to_type t v) ≡ result_as t (to_type t u)
unfolding to_type
same-destination v u e =
    each-whole (λ (t : ℕ). result_as t (to_type t v) ≡ result_as t (to_type t u))
    (ap (result_as 1) (e true 1)) (ap (result_as 2) (e false 1)) (ap (result_as 3) (e true 2)) (ap (result_as 4) (e false 2))
    (ap (result_as 5) (e true 4)) (ap (result_as 6) (e false 4)) (ap (result_as 7) (e true 8)) (ap (result_as 8) (e false 8))

-- the result for a destination of type t that is to hold z
abbrev holds : ℕ → ℤ → Result
holds t z = result_as t (to_type t (Signed z))

whole-alike : (b : Bool) (w p t : ℕ) → Whole t → to_whole b w (typed t p) ≡ to_whole b w (Signed (number_at t p))
unfolding to_whole typed number_at
whole-alike b w p = each-whole (λ (t : ℕ). to_whole b w (typed t p) ≡ to_whole b w (Signed (number_at t p))) refl refl refl refl refl refl refl refl

by_number : (from to p : ℕ) → Whole from → Whole to → converted from to p ≡ holds to (number_at from p)
unfolding converted
by_number from to p f = same-destination (typed from p) (Signed (number_at from p)) (λ b w. whole-alike b w p from f) to

by-nearest : (from to p : ℕ) (s : Bool) (m : ℕ) (e : ℤ) → StandsFor from p (fin s m e) → Whole to → converted from to p ≡ holds to (with_sign s (closest (m * up e) (down e)))
unfolding converted to_whole nearest_whole
by-nearest from to p s m e x =
    same-destination (typed from p) (Signed (with_sign s (closest (m * up e) (down e))))
    (λ b w. ⊎_elim (λ y. ap (to_whole b w) y) (λ y. ap (to_whole b w) y) x) to

-- ---- float destinations

real-alike : (p t : ℕ) → Whole t → Ieee.of_int binary32 (number_at t p) ≡ to_real (typed t p)
unfolding to_real typed number_at
real-alike p = each-whole (λ (t : ℕ). Ieee.of_int binary32 (number_at t p) ≡ to_real (typed t p)) refl refl refl refl refl refl refl refl

lreal-alike : (p t : ℕ) → Whole t → Ieee.of_int binary64 (number_at t p) ≡ to_lreal (typed t p)
unfolding to_lreal typed number_at
lreal-alike p = each-whole (λ (t : ℕ). Ieee.of_int binary64 (number_at t p) ≡ to_lreal (typed t p)) refl refl refl refl refl refl refl refl

-- what is stored for a float type
to-real : (from p : ℕ) → converted from 9 p ≡ stores (stored 9 (Real (to_real (typed from p))))
unfolding converted to_type
to-real from p = refl

to-lreal : (from p : ℕ) → converted from 10 p ≡ stores (stored 10 (Lreal (to_lreal (typed from p))))
unfolding converted to_type
to-lreal from p = refl

real-nan : (from p : ℕ) → StandsFor from p nan → to_real (typed from p) ≡ nan
unfolding to_real narrow
real-nan from p = ⊎_elim (λ x. ap to_real x) (λ x. ap to_real x)

lreal-nan : (from p : ℕ) → StandsFor from p nan → to_lreal (typed from p) ≡ nan
unfolding to_lreal
lreal-nan from p = ⊎_elim (λ x. ap to_lreal x) (λ x. ap to_lreal x)

-- ---- what is not held

-- a result that is not held is that of no pattern
none-stands : (to : ℕ) (z : ℤ) → Whole to → holds to z ≡ not-held → (q : ℕ) → q < 2 ^ (8 * width_of to) → number_at to q ≡ z → ⊥
none-stands to z w h q l e = absurd-bool (ap is_stored (sym h ∙ sym (by_number to to q w w ∙ ap (holds to) e) ∙ same_whole to q w l))

lost : (from to p : ℕ) (x : Float) → ((b : Bool) (w : ℕ) → nearest_whole b w x ≡ None) → StandsFor from p x → Whole to → converted from to p ≡ not-held
unfolding converted to_whole to_type
lost from to p x n s w =
    same-destination (typed from p) (VBool false) (λ b k. ⊎_elim (λ y. ap (to_whole b k) y ∙ n b k) (λ y. ap (to_whole b k) y ∙ n b k) s) to w
    ∙ each-whole (λ (t : ℕ). result_as t (to_type t (VBool false)) ≡ not-held) refl refl refl refl refl refl refl refl to w

nan-not : (b : Bool) (w : ℕ) → nearest_whole b w nan ≡ None
unfolding nearest_whole
nan-not b w = refl

infinity-not : (s b : Bool) (w : ℕ) → nearest_whole b w (inf s) ≡ None
unfolding nearest_whole
infinity-not s b w = refl

-- ---- all of it

real-type : 9 < 12
real-type = omega arith

lreal-type : 10 < 12
lreal-type = omega arith

pub conversions : Conversions
unfolding to_real to_lreal stored pattern_of width_of Ieee.to_bits
conversions = record {
  keeps = kept;
  nearest = nearest-stored;
  whole-to-real = λ from p w.
      (_, to_real (typed from p), to-real from p, real-stored from p _ (whole-type from w) (to-real from p), subst (Rounded binary32 (lt_z (number_at from p) (pos 0)) (nat_abs (number_at from p)) 1) (real-alike p from w) (whole-rounded binary32 (number_at from p)));
  whole-to-lreal = λ from p w.
      (_, to_lreal (typed from p), to-lreal from p, lreal-stored from p _ (whole-type from w) (to-lreal from p), subst (Rounded binary64 (lt_z (number_at from p) (pos 0)) (nat_abs (number_at from p)) 1) (lreal-alike p from w) (whole-rounded binary64 (number_at from p)));
  lreal-to-real = λ p s m e x.
      (_, narrow (fin s m e), to-real 10 p, real-stored 10 p _ lreal-type (to-real 10 p) ∙ ap (λ v. Real (to_real v)) x, narrow-rounded s m e);
  real-to-lreal = λ p x y. (_, to-lreal 9 p, lreal-stored 9 p _ real-type (to-lreal 9 p) ∙ ap (λ v. Lreal (to_lreal v)) y);
  nan-to-real = λ from p s. to-real from p ∙ ap (λ x. stores (stored 9 (Real x))) (real-nan from p s);
  nan-to-lreal = λ from p s. to-lreal from p ∙ ap (λ x. stores (stored 10 (Lreal x))) (lreal-nan from p s);
  nan-lost = λ from to p. lost from to p nan nan-not;
  infinity-lost = λ from to p s. lost from to p (inf s) (infinity-not s);
  whole-lost = λ from to p f w h. none-stands to (number_at from p) w (sym (by_number from to p f w) ∙ h);
  nearest-lost = λ from to p s m e x w h r n q l y.
      none-stands to (with_sign s (closest (m * up e) (down e))) w (sym (by-nearest from to p s m e x w) ∙ h) q l
      (y ∙ ap (with_sign s) (nearest-unique (m * up e) (down e) r (down_pos e) n));
}
