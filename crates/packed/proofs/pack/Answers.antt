-- `packed::pack` meets its contract: after i turns r has the lowest i digits, and the rest has those above them. Assumes nothing.
use native.Mathlib.Nat.{mul-zero}
use native.Mathlib.Nat.{one-mul, div-one, zero-add}
use native.Mathlib.Omega.{arith}
use mathlib.Core.Path.{◌≡◌, sym, ap, subst, ◌∙◌}
use Prim.Native.Nat.{ℕ, ◌+◌, ◌-◌, ◌*◌, ◌/◌, ◌%◌, ◌^◌, ◌<◌, ◌≤◌}
use Rattle.packed.proofs.Decimal as Decimal
use Rattle.packed.specs.Packed.{packed_digits}
use Rattle.packed.proofs.pack.Goals as goal

pub loop-i-init : goal.loop-i-init
loop-i-init c = let n = c.args.n in
    let d = c.args.d in
    (zero-add (1 * packed_digits (d - 0) n) ∙ one-mul (packed_digits (d - 0) n) ∙ ap (λ (k : ℕ). packed_digits k n) (omega arith), omega arith, sym (div-one n))

pub overflow_mul-packed : goal.overflow_mul-packed
overflow_mul-packed c = let l = c.loop-i in
    let a = c.args in
    let w : 2 ^ (4 * l.i) * 16 ≤ 2 ^ 64 = Decimal.weight-le l.i a.d (omega arith) (omega arith) in
    let g : l.rest % 10 < 10 = omega arith in
    let b : l.packed + l.rest % 10 * 2 ^ (4 * l.i) < 2 ^ (4 * l.i) * 16 = Decimal.pack-lt l.packed (l.rest % 10) (2 ^ (4 * l.i)) l.invariant.1 g in
    record { fits = subst (λ (x : ℕ). l.rest % 10 * x < 2 ^ 64) (sym c.weight_at.ensures) (omega (arith, b, w)) }

pub overflow_add-packed : goal.overflow_add-packed
overflow_add-packed c = let l = c.loop-i in
    let a = c.args in
    let w : 2 ^ (4 * l.i) * 16 ≤ 2 ^ 64 = Decimal.weight-le l.i a.d (omega arith) (omega arith) in
    let g : l.rest % 10 < 10 = omega arith in
    let b : l.packed + l.rest % 10 * 2 ^ (4 * l.i) < 2 ^ (4 * l.i) * 16 = Decimal.pack-lt l.packed (l.rest % 10) (2 ^ (4 * l.i)) l.invariant.1 g in
    record { fits = subst (λ (x : ℕ). l.packed + l.rest % 10 * x < 2 ^ 64) (sym c.weight_at.ensures) (omega (arith, b, w)) }

pub loop-i-preserved : goal.loop-i-preserved
loop-i-preserved c = let l = c.loop-i in
    let a = c.args in
    let i = l.i in
    let h : i < a.d = omega arith in
    let g : l.rest % 10 < 10 = omega arith in
    let q = packed_digits (a.d - (i + 1)) (l.rest / 10) in
    let e = c.weight_at.ensures in (
      ap (λ (x : ℕ). l.packed + l.rest % 10 * x + 2 ^ (4 * (i + 1)) * q) e
          ∙ ap (λ (x : ℕ). l.packed + l.rest % 10 * 2 ^ (4 * i) + x * q) (Decimal.weight i)
          ∙ Decimal.pack-step l.packed (l.rest % 10) (2 ^ (4 * i)) q
          ∙ ap (λ (x : ℕ). l.packed + 2 ^ (4 * i) * x) (sym (Decimal.step 10 16 a.d i l.rest h))
          ∙ l.invariant.0,
      subst (λ (x : ℕ). l.packed + l.rest % 10 * x < 2 ^ (4 * (i + 1))) (sym e) (subst (λ (x : ℕ). l.packed + l.rest % 10 * 2 ^ (4 * i) < x) (sym (Decimal.weight i)) (Decimal.pack-lt l.packed (l.rest % 10) (2 ^ (4 * i)) l.invariant.1 g)),
      ap (λ (x : ℕ). x / 10) l.invariant.2 ∙ Decimal.next-rest a.n i,
    )

pub returns : goal.returns
returns c = let l = c.loop-i in
    let a = c.args in
    let z : packed_digits (a.d - l.i) l.rest ≡ 0 = Decimal.none 10 16 a.d l.i l.rest (omega arith) in
    let e : l.i ≡ a.d = omega arith in
    let m : 2 ^ (4 * l.i) * packed_digits (a.d - l.i) l.rest ≡ 0 = ap (λ (x : ℕ). 2 ^ (4 * l.i) * x) z ∙ mul-zero (2 ^ (4 * l.i)) in
    (omega (arith, m, l.invariant.0), l.invariant.2 ∙ ap (λ (x : ℕ). a.n / 10 ^ x) e)
