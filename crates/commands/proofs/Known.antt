-- Laws of a command whose operands are tried, and whose type is known. In order: the test of eight bytes; where the operands lie, by the type; the ways that the command ends. Assumes nothing.
use Prim.Native.Nat.{ℕ, ◌+◌, ◌-◌, ◌≤◌, ◌<◌}
use mathlib.Core.Bool.{Bool, true, false}
use mathlib.Core.List.{List}
use mathlib.Core.Path.{◌≡◌, refl, sym, ◌∙◌, ap, subst}
use native.Mathlib.Omega.{arith}
use lib.ListN.{length}
use borrow.Author.Tests.{lt-ltb, le-ltb}
use Rattle.std.proofs.Math.Option.{none, some}
use Rattle.verdict.specs.Numbers.{divisor_bit}
use Rattle.verdict.specs.Verdict.{either}
use Rattle.memory.specs.Memory.{splice, bytes_le, read_le}
use Rattle.values.specs.Types.{width_of}
use Rattle.values.specs.Commands.{result_width, second_width, command, zero_divisor, beyond, any_beyond}
use Rattle.commands.specs.Attempts.{ending, attempted, Inside}
use Rattle.commands.specs.declared.Operands.{Operands}
use Rattle.commands.proofs.Attempts.{either-false, in-data, all_in, was-done, was-zero}

-- ---- the test of eight bytes

far : (size p places : ℕ) → places ≡ size - 7 → p < places → beyond size p 8 ≡ false
unfolding beyond
far size p places e h = le-ltb size (p + 8) (omega arith)

near : (size p places : ℕ) → places ≡ size - 7 → places ≤ p → beyond size p 8 ≡ true
unfolding beyond
near size p places e h = lt-ltb size (p + 8) (omega arith)

module _ (size to a b places : ℕ) (e : places ≡ size - 7) where
  pub result-near : places ≤ to → true ≡ either (beyond size to 8) (any_beyond size a 8 b 8)
  result-near h = rw (near size to places e h)

  pub first-near : to < places → places ≤ a → true ≡ either (beyond size to 8) (any_beyond size a 8 b 8)
  first-near g h = rw (far size to places e g, near size a places e h)

  pub second-near : to < places → a < places → places ≤ b → true ≡ either (beyond size to 8) (any_beyond size a 8 b 8)
  second-near f g h = rw (far size to places e f, far size a places e g, near size b places e h)

  pub none-near : to < places → a < places → b < places → false ≡ either (beyond size to 8) (any_beyond size a 8 b 8)
  none-near f g h = rw (far size to places e f, far size a places e g, far size b places e h)

pub ruleset nearness = (result-near, first-near, second-near, none-near)

narrower : (size p n : ℕ) → n ≤ 8 → beyond size p 8 ≡ false → beyond size p n ≡ false
unfolding beyond
narrower size p n l h = let i : p + 8 ≤ size = in-data size p 8 h in le-ltb size (p + n) (omega arith)

module _ (size to a b : ℕ) (r : Bool) where
  -- where none is near the end, no operand of at most eight bytes is beyond
  pub none-beyond : (n m k : ℕ) → r ≡ either (beyond size to 8) (any_beyond size a 8 b 8) → r ≡ false → n ≤ 8 → m ≤ 8 → k ≤ 8
      → false ≡ either (beyond size to n) (any_beyond size a m b k)
  none-beyond n m k e f i j l =
      let x = either-false (beyond size to 8) (any_beyond size a 8 b 8) (sym e ∙ f) in
      let y = either-false (beyond size a 8) (beyond size b 8) x.1 in
      rw (narrower size to n i x.0, narrower size a m j y.0, narrower size b k l y.1)

  pub of-widths : (n m k u v w : ℕ) → r ≡ either (beyond size to n) (any_beyond size a m b k) → n ≡ u → m ≡ v → k ≡ w
      → r ≡ either (beyond size to u) (any_beyond size a v b w)
  of-widths n m k u v w e f g h = rw (← f, ← g, ← h) e

-- ---- where the operands lie

module _ (code t : ℕ) (o : Operands) (s : List ℕ) (key : o.kind ≡ t) (i : Inside code o s) where
  operands-in : (o.to + result_width code o.kind ≤ length s) × (o.first + width_of o.kind ≤ length s) × (o.second + second_width code o.kind ≤ length s)
  operands-in = all_in (length s) o.to (result_width code o.kind) o.first (width_of o.kind) o.second (second_width code o.kind) _ refl i

  pub known-result : (n : ℕ) → n ≡ result_width code t → o.to + n ≤ length s
  known-result n e = subst (λ (x : ℕ). o.to + x ≤ length s) (ap (result_width code) key ∙ sym e) operands-in.0

  pub known-first : o.first + width_of t ≤ length s
  known-first = subst (λ (x : ℕ). o.first + width_of x ≤ length s) key operands-in.1

  pub known-second : (n : ℕ) → n ≡ second_width code t → o.second + n ≤ length s
  known-second n e = subst (λ (x : ℕ). o.second + x ≤ length s) (ap (second_width code) key ∙ sym e) operands-in.2

  -- ---- the ways that the command ends

  zero-known : (z : Bool) → zero_divisor code t (read_le s o.second (second_width code t)) ≡ z → zero_divisor code o.kind (read_le s o.second (second_width code o.kind)) ≡ z
  zero-known z e = ap (λ (k : ℕ). zero_divisor code k (read_le s o.second (second_width code k))) key ∙ e

  pub known-zero : (z : Bool) → z ≡ zero_divisor code t (read_le s o.second (second_width code t)) → z ≡ true → ending (some divisor_bit) s ≡ attempted code o s
  known-zero z e f = was-zero code o s _ _ _ _ refl refl refl refl i z (e ∙ sym (zero-known _ refl)) f

  pub known-done : (m : List ℕ) (n q : ℕ) → n ≡ result_width code t → zero_divisor code t (read_le s o.second (second_width code t)) ≡ false
      → q ≡ command code t (read_le s o.first (width_of t)) (read_le s o.second (second_width code t))
      → m ≡ splice s o.to (bytes_le n q) → ending none m ≡ attempted code o s
  known-done m n q e z f h =
      was-done code o s _ _ _ _ refl refl refl refl i m q (zero-known false z)
      (f ∙ ap (λ (k : ℕ). command code k (read_le s o.first (width_of k)) (read_le s o.second (second_width code k))) (sym key))
      (h ∙ ap (λ (x : ℕ). splice s o.to (bytes_le x q)) (e ∙ ap (result_width code) (sym key)))
