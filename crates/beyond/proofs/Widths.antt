-- Operands beyond the data, by the code byte: the widths of a command's result and sources. Assumes nothing.
use Prim.Native.Nat.{ℕ, ◌≤◌, ◌<◌}
use mathlib.Core.Bool.{Bool, true, false}
use mathlib.Core.Path.{◌≡◌, sym, ◌∙◌}
use native.Mathlib.Omega.{arith}
use lib.Dec.{eqb, lit≤}
use borrow.Author.Tests.{ne_eqb}
use Rattle.verdict.specs.Verdict.{either, within}
use Rattle.verdict.proofs.Verdict.{pick_true, pick-false, by-pick, inside, outside}
use Rattle.values.specs.Types.{width_of, takes}
use Rattle.values.specs.Commands.{result_type, result_width, second_width, beyond, any_beyond, typed_beyond}
use Rattle.values.proofs.Commands.{width_room}
use Rattle.commands.specs.Attempts.{ThreeOperands}
use Rattle.commands.proofs.Known.{of-widths}
use Rattle.commands.proofs.Results.{own_width, truth_width}

pub result-room : (op t : ℕ) → result_width op t ≤ 8
unfolding result_width
result-room op t = width_room (result_type op t)

pub second-room : (op t : ℕ) → second_width op t ≤ 8
unfolding second_width
second-room op t =
    by-pick (λ (n : ℕ). n ≤ 8) (within 28 31 op) 1 _ (λ e. lit≤ tt)
    (λ e. by-pick (λ (n : ℕ). n ≤ 8) (eqb op 27) 0 _ (λ f. lit≤ tt) (λ f. width_room t))

module _ (op t w size to a b : ℕ) (r : Bool) (e : w ≡ width_of t) where
  second_alike : ThreeOperands op → within 28 31 op ≡ false → w ≡ second_width op t
  unfolding second_width
  second_alike h n = e ∙ sym (pick-false (eqb op 27) 0 (width_of t) (ne_eqb op 27 h)) ∙ sym (pick-false (within 28 31 op) 1 _ n)

  pub alike-beyond : r ≡ either (beyond size to w) (any_beyond size a w b w) → ThreeOperands op → op < 28 → r ≡ typed_beyond op t size to a b
  alike-beyond h three l =
      of-widths size to a b r w w w _ _ _ h (own_width op t w e (omega arith)) e
      (second_alike three (outside 28 31 op (λ j k. let z : ⊥ = omega arith in z)))

  pub shifted-beyond : r ≡ either (beyond size to w) (any_beyond size a w b 1) → 28 ≤ op → op < 32 → r ≡ typed_beyond op t size to a b
  unfolding second_width
  shifted-beyond h i l =
      of-widths size to a b r w w 1 _ _ _ h (own_width op t w e l) e (sym (pick_true (within 28 31 op) 1 _ (inside 28 31 op i (omega arith))))

  pub compared-beyond : r ≡ either (beyond size to 1) (any_beyond size a w b w) → ThreeOperands op → takes op t ≡ true → 32 ≤ op → r ≡ typed_beyond op t size to a b
  compared-beyond h three g i =
      of-widths size to a b r 1 w w _ _ _ h (truth_width op t g i) e
      (second_alike three (outside 28 31 op (λ j k. let z : ⊥ = omega arith in z)))
