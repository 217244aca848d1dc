-- The widths of a command's result and divisor, over its code byte. Assumes nothing.
use Prim.Native.Nat.{ℕ, ◌+◌, ◌≤◌, ◌<◌}
use mathlib.Core.Bool.{Bool, true, false}
use mathlib.Core.List.{List}
use Rattle.std.proofs.Common.{inl}
use mathlib.Core.Path.{◌≡◌, refl, sym, ◌∙◌, ap, subst}
use native.Mathlib.Omega.{arith}
use lib.Dec.{eqb}
use borrow.Author.Tests.{eqb-true}
use Rattle.verdict.specs.Verdict.{pick, both, within}
use Rattle.verdict.proofs.Verdict.{absurd-bool, both_true, both-not, pick_true, pick-false, by-pick, inside, outside, inside-true}
use Rattle.memory.specs.Memory.{read_le}
use Rattle.values.specs.Types.{width_of, takes}
use Rattle.values.specs.Width.{Width}
use Rattle.values.specs.Commands.{result_type, result_width, second_width, zero_divisor}
use Rattle.values.proofs.Types.{width-ok, last-type}
use Rattle.values.proofs.Commands.{taken-type, zero-inside}

-- a type byte belongs to a command up to NE
pub taken-command : (code t : ℕ) → takes code t ≡ true → code ≤ 37
unfolding takes
taken-command code t =
    by-pick (λ (x : Bool). x ≡ true → code ≤ 37) (within 16 17 code) _ _ (λ c e. omega (arith, (inside-true 16 17 code c).1))
    (λ c. by-pick (λ (x : Bool). x ≡ true → code ≤ 37) (within 18 19 code) _ _ (λ c e. omega (arith, (inside-true 18 19 code c).1))
    (λ c. by-pick (λ (x : Bool). x ≡ true → code ≤ 37) (eqb code 20) _ _ (λ c e. omega (arith, eqb-true code 20 c))
    (λ c. by-pick (λ (x : Bool). x ≡ true → code ≤ 37) (within 24 27 code) _ _ (λ c e. omega (arith, (inside-true 24 27 code c).1))
    (λ c. by-pick (λ (x : Bool). x ≡ true → code ≤ 37) (within 28 31 code) _ _ (λ c e. omega (arith, (inside-true 28 31 code c).1))
    (λ c. by-pick (λ (x : Bool). x ≡ true → code ≤ 37) (within 32 37 code) _ _ (λ c e. (inside-true 32 37 code c).1) (λ c e. absurd-bool e))))))

module _ (code t : ℕ) where
  -- the result of a command below GT has the type's bytes
  pub own_width : (w : ℕ) → w ≡ width_of t → code < 32 → w ≡ result_width code t
  unfolding result_width result_type
  own_width w e h =
      let n : within 32 37 code ≡ false = outside 32 37 code (λ j k. let z : ⊥ = omega arith in z) in
      e ∙ ap width_of (sym (pick-false (within 32 37 code) 0 t n))

  -- that of the others is a BOOL
  pub truth_width : takes code t ≡ true → 32 ≤ code → 1 ≡ result_width code t
  unfolding result_width result_type width_of
  truth_width g i = ap width_of (sym (pick_true (within 32 37 code) 0 t (inside 32 37 code i (taken-command code t g))))

  pub known_width : takes code t ≡ true → Width (result_width code t)
  unfolding result_width result_type width_of
  known_width g = by-pick (λ (k : ℕ). Width (width_of k)) (within 32 37 code) 0 t (λ e. inl refl) (λ e. width-ok t (taken-type code t g))

  -- only DIV of a whole-number type has a zero divisor
  pub no_divisor : (q : ℕ) → (code ≡ 19 → 1 ≤ t → t ≤ 8 → ⊥) → false ≡ zero_divisor code t q
  unfolding zero_divisor
  no_divisor q h =
      sym (both-not (eqb code 19) (both (within 1 8 t) (eqb q 0)) (λ c e. let i = inside-true 1 8 t (both_true _ _ e).0 in h (eqb-true code 19 c) i.0 i.1))

  module _ (key : code ≡ 19) where
    pub divisor_place : (b n w : ℕ) → w ≡ width_of t → b + second_width code t ≤ n → b + w ≤ n
    unfolding second_width pick
    divisor_place b n w e h = rw (e) (subst (λ (c : ℕ). b + second_width c t ≤ n) key h)

    pub divisor_zero : (s : List ℕ) (b p w : ℕ) → w ≡ width_of t → 1 ≤ t → t ≤ 8 → p ≡ read_le s b w → eqb p 0 ≡ zero_divisor code t (read_le s b (second_width code t))
    divisor_zero s b p w e i j f =
        zero-inside t w e s b p i j f ∙ ap (λ (c : ℕ). zero_divisor c t (read_le s b (second_width c t))) (sym key)

-- the last type of a `match`: one that the command takes, and none of those before it
pub last_taken : (code t : ℕ) → takes code t ≡ true → (t ≡ 0 → ⊥) → (t ≡ 1 → ⊥) → (t ≡ 2 → ⊥) → (t ≡ 3 → ⊥) → (t ≡ 4 → ⊥) → (t ≡ 5 → ⊥) → (t ≡ 6 → ⊥)
    → (t ≡ 7 → ⊥) → (t ≡ 8 → ⊥) → (t ≡ 9 → ⊥) → (t ≡ 10 → ⊥) → t ≡ 11
last_taken code t g = last-type t (taken-type code t g)
