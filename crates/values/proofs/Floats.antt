-- Floats and their patterns, once for both formats. Assumes nothing.
use Rattle.std.proofs.Common.{◌≡◌, ℕ, ◌*◌, ◌%◌, ◌<◌, ◌≤◌, Bool, true, false, not, T, sym, refl, ◌∙◌, subst, le-ltb, lt-ltb}
use lib.Ieee as Ieee
use lib.Ieee.{Float, Format, nan, inf, fin, binary32, binary64, ones, hid, top}
use lib.Ieee.Bits.{nan_bits_is, nan_bits_above}
use lib.Ieee.Compare.{differs_from_itself}

pub is-nan : (x : Float) → Ieee.is_nan x ≡ true → x ≡ nan
unfolding Ieee.is_nan
is-nan nan e = refl
is-nan (inf s) e = absurd (subst T (sym e) tt)
is-nan (fin s m k) e = absurd (subst T (sym e) tt)

-- a pattern above an infinity's is a NaN's
pub nan-above : (f : Format) (p : ℕ) → ones f * hid f < p % top f → Ieee.of_bits f p ≡ nan
nan-above f p h = is-nan (Ieee.of_bits f p) (sym (nan_bits_is f p) ∙ nan_bits_above f p ∙ lt-ltb (ones f * hid f) (p % top f) h)

-- and no other
pub number-below : (f : Format) (p : ℕ) → p % top f ≤ ones f * hid f → T (not (Ieee.nan_bits f p))
number-below f p h = subst (λ (b : Bool). T (not b)) (sym (nan_bits_above f p ∙ le-ltb (ones f * hid f) (p % top f) h)) tt

-- 0 / 0
pub zero_by_zero : (f : Format) → Ieee.div f (Ieee.of_bits f 0) (Ieee.of_bits f 0) ≡ nan
unfolding Ieee.div Ieee.of_bits
zero_by_zero binary32 = refl
zero_by_zero binary64 = refl

-- the library's NaN
pub quiet-nan : (Ieee.of_bits binary32 0x7fc00000 ≡ nan) × (Ieee.of_bits binary64 0x7ff8000000000000 ≡ nan)
unfolding Ieee.of_bits
quiet-nan = (refl, refl)

-- what differs from itself is nan, and what does not is a number
pub differs : (x : Float) → Ieee.ne x x ≡ true → x ≡ nan
differs x e = differs_from_itself x (subst T (sym e) tt)

pub not-differs : (x : Float) → Ieee.ne x x ≡ false → T (not (Ieee.is_nan x))
unfolding Ieee.ne Ieee.eq Ieee.is_nan
not-differs nan e = absurd (subst T e tt)
not-differs (inf s) e = tt
not-differs (fin s m k) e = tt
