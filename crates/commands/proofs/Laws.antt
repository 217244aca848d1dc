-- What the laws of a typed command ask, over its code byte: the bytes of its second source; its result, as the list has it; a divisor that is no fault. Assumes nothing.
use Rattle.std.proofs.Common.{◌≡◌, ℕ, true, false, eqb, refl, sym, ◌∙◌, ap}
use Rattle.verdict.specs.Verdict.{pick, within}
use Rattle.verdict.proofs.Verdict.{absurd-bool, pick_true, pick-false}
use Rattle.values.specs.Types.{width_of, takes}
use Rattle.values.specs.Values.{typed}
use Rattle.values.specs.Commands.{ADD, SUB, MUL, DIV, MOD, AND, OR, XOR, NOT, SHL, SHR, ROL, ROR, GT, GE, EQ, Le, Lt, NE, result, second_width, zero_divisor, by_zero}
use Rattle.values.specs.declared.Value.{Value}
use Rattle.values.specs.declared.Value.TheVariants.{Bool as VBool}
use Rattle.values.proofs.Commands.{taken-type, by_zero_lem}

-- ---- the bytes of the second source

module _ (code t : ℕ) where
  -- of the type
  pub two_sources : within 28 31 code ≡ false → eqb code 27 ≡ false → width_of t ≡ second_width code t
  unfolding second_width
  two_sources n m = sym (pick-false (eqb code 27) 0 (width_of t) m) ∙ sym (pick-false (within 28 31 code) 1 _ n)

  -- of a count
  pub a_count : within 28 31 code ≡ true → 1 ≡ second_width code t
  unfolding second_width
  a_count e = sym (pick_true (within 28 31 code) 1 _ e)

  -- none
  pub no_second : within 28 31 code ≡ false → eqb code 27 ≡ true → 0 ≡ second_width code t
  unfolding second_width
  no_second n e = sym (pick_true (eqb code 27) 0 (width_of t) e) ∙ sym (pick-false (within 28 31 code) 1 _ n)

-- ---- the result, as the list has it

module _ (w : ℕ) (a b : Value) (n : ℕ) where
  pub add_listed : ADD w a b ≡ result 16 w a b n
  unfolding result pick
  add_listed = refl

  pub sub_listed : SUB w a b ≡ result 17 w a b n
  unfolding result pick
  sub_listed = refl

  pub mul_listed : MUL w a b ≡ result 18 w a b n
  unfolding result pick
  mul_listed = refl

  pub div_listed : DIV w a b ≡ result 19 w a b n
  unfolding result pick
  div_listed = refl

  pub mod_listed : MOD a b ≡ result 20 w a b n
  unfolding result pick
  mod_listed = refl

  pub and_listed : AND a b ≡ result 24 w a b n
  unfolding result pick
  and_listed = refl

  pub or_listed : OR a b ≡ result 25 w a b n
  unfolding result pick
  or_listed = refl

  pub xor_listed : XOR a b ≡ result 26 w a b n
  unfolding result pick
  xor_listed = refl

  pub not_listed : NOT w a ≡ result 27 w a b n
  unfolding result pick
  not_listed = refl

  pub shl_listed : SHL w a n ≡ result 28 w a b n
  unfolding result pick
  shl_listed = refl

  pub shr_listed : SHR w a n ≡ result 29 w a b n
  unfolding result pick
  shr_listed = refl

  pub rol_listed : ROL w a n ≡ result 30 w a b n
  unfolding result pick
  rol_listed = refl

  pub ror_listed : ROR w a n ≡ result 31 w a b n
  unfolding result pick
  ror_listed = refl

  pub gt_listed : VBool (GT a b) ≡ result 32 w a b n
  unfolding result pick
  gt_listed = refl

  pub ge_listed : VBool (GE a b) ≡ result 33 w a b n
  unfolding result pick
  ge_listed = refl

  pub eq_listed : VBool (EQ a b) ≡ result 34 w a b n
  unfolding result pick
  eq_listed = refl

  pub le_listed : VBool (Le a b) ≡ result 35 w a b n
  unfolding result pick
  le_listed = refl

  pub lt_listed : VBool (Lt a b) ≡ result 36 w a b n
  unfolding result pick
  lt_listed = refl

  pub ne_listed : VBool (NE a b) ≡ result 37 w a b n
  unfolding result pick
  ne_listed = refl

-- ---- a divisor that is no fault

pub no_fault : (t p q : ℕ) → takes 19 t ≡ true → zero_divisor 19 t q ≡ false → by_zero (typed t p) (typed t q) ≡ false
unfolding takes pick zero_divisor
no_fault t p q g z = by_zero_lem p q t (taken-type 19 t g) (λ e. absurd-bool (sym (ap (takes 19) e) ∙ g)) z
