-- Laws of a command's answer, over its code byte and operands. In order: what is given; what the test of the addresses gives; a store by its width; the ways that a command ends. Assumes nothing.
use Prim.Native.Nat.{ℕ, ◌+◌, ◌^◌, ◌≤◌, ◌<◌}
use mathlib.Core.Bool.{Bool, true, false}
use mathlib.Core.List.{List}
use mathlib.Core.Path.{◌≡◌, refl, sym, ◌∙◌, ap, subst}
use native.Mathlib.Omega.{arith}
use lib.ListN.{length, replicate}
use borrow.Author.Tests.{ltb-false}
use Rattle.std.proofs.Math.Option.{none, some}
use Rattle.verdict.specs.Numbers.{divisor_bit, address_bit}
use Rattle.verdict.specs.Verdict.{either}
use Rattle.verdict.proofs.Verdict.{absurd-bool, pick_true, pick-false}
use Rattle.memory.specs.Memory.{splice, part, bytes_le, read_le}
use Rattle.values.specs.Types.{width_of}
use Rattle.values.specs.Commands.{result_width, second_width, command, zero_divisor, beyond, any_beyond, performed}
use Rattle.values.proofs.Commands.{taken-type, width_room}
use Rattle.commands.specs.Attempts.{ending, attempted, OperandsGiven}
use Rattle.commands.specs.declared.Operands.{Operands}

-- ---- what is given

module _ {code : ℕ} {o : Operands} (g : OperandsGiven code o) where
  pub given-type : o.kind < 12
  given-type = taken-type code o.kind g.taken

-- a place of an address with the bytes of a type fits a machine word
pub place-fits : (p w t : ℕ) → p < 98304 → w ≡ width_of t → p + w < 2 ^ 64
place-fits p w t h e = let l : width_of t ≤ 8 = width_room t in omega arith

-- ---- what the test of the addresses gives

pub either-false : (a b : Bool) → either a b ≡ false → (a ≡ false) × (b ≡ false)
either-false true b e = absurd-bool (sym e)
either-false false b e = (refl, e)

pub in-data : (size p n : ℕ) → beyond size p n ≡ false → p + n ≤ size
unfolding beyond
in-data size p n e = ltb-false size (p + n) e

module _ (size to n a m b k : ℕ) (r : Bool) (e : r ≡ either (beyond size to n) (any_beyond size a m b k)) (f : r ≡ false) where
  pub all_in : (to + n ≤ size) × (a + m ≤ size) × (b + k ≤ size)
  all_in =
      let x = either-false (beyond size to n) (any_beyond size a m b k) (sym e ∙ f) in
      let y = either-false (beyond size a m) (beyond size b k) x.1 in
      (in-data size to n x.0, in-data size a m y.0, in-data size b k y.1)

-- ---- a store by the width w that a `match` found to be k

pub store_in : (w k to size : ℕ) → w ≡ k → to + w ≤ size → to + k ≤ size
store_in w k to size e h = subst (λ (n : ℕ). to + n ≤ size) e h

-- the first bytes of eight are those of the pattern at that width
pub first-bytes : (p : ℕ) (z : List ℕ) → z ≡ splice (replicate 8 0) 0 (bytes_le 8 p)
    → (part z 0 1 ≡ bytes_le 1 p) × (part z 0 2 ≡ bytes_le 2 p) × (part z 0 4 ≡ bytes_le 4 p) × (part z 0 8 ≡ bytes_le 8 p)
unfolding part splice bytes_le
first-bytes p z e = (ap (λ (u : List ℕ). part u 0 1) e, ap (λ (u : List ℕ). part u 0 2) e, ap (λ (u : List ℕ). part u 0 4) e, ap (λ (u : List ℕ). part u 0 8) e)

pub copied_at : (w k to p : ℕ) (s r z : List ℕ) → w ≡ k → part z 0 k ≡ bytes_le k p → r ≡ splice s to (part z 0 k) → r ≡ splice s to (bytes_le w p)
copied_at w k to p s r z e f h = h ∙ ap (splice s to) f ∙ ap (λ (n : ℕ). splice s to (bytes_le n p)) (sym e)

-- ---- the ways that a command ends

module _ (code : ℕ) (o : Operands) (s : List ℕ) (n m k : ℕ) (r : Bool) (e : r ≡ either (beyond (length s) o.to n) (any_beyond (length s) o.first m o.second k))
    (wide : n ≡ result_width code o.kind) (first : m ≡ width_of o.kind) (second : k ≡ second_width code o.kind) where
  tested : r ≡ either (beyond (length s) o.to (result_width code o.kind)) (any_beyond (length s) o.first (width_of o.kind) o.second (second_width code o.kind))
  tested =
      e ∙ ap (λ (x : ℕ). either (beyond (length s) o.to x) (any_beyond (length s) o.first m o.second k)) wide
      ∙ ap (λ (x : ℕ). either (beyond (length s) o.to (result_width code o.kind)) (any_beyond (length s) o.first x o.second k)) first
      ∙ ap (λ (x : ℕ). either (beyond (length s) o.to (result_width code o.kind)) (any_beyond (length s) o.first (width_of o.kind) o.second x)) second

  pub was-beyond : r ≡ true → ending (some address_bit) s ≡ attempted code o s
  unfolding attempted
  was-beyond t = sym (pick_true _ _ _ (sym tested ∙ t))

  module _ (f : r ≡ false) where
    pub was-zero : (z : Bool) → z ≡ zero_divisor code o.kind (read_le s o.second (second_width code o.kind)) → z ≡ true → ending (some divisor_bit) s ≡ attempted code o s
    unfolding attempted
    was-zero z g t = sym (pick-false _ _ _ (sym tested ∙ f) ∙ pick_true _ _ _ (sym g ∙ t))

    pub was-done : (t : List ℕ) (q : ℕ) → zero_divisor code o.kind (read_le s o.second (second_width code o.kind)) ≡ false
        → q ≡ command code o.kind (read_le s o.first (width_of o.kind)) (read_le s o.second (second_width code o.kind))
        → t ≡ splice s o.to (bytes_le n q) → ending none t ≡ attempted code o s
    unfolding attempted performed
    was-done t q z i h =
        ap (ending none) (h ∙ ap (λ (x : ℕ). splice s o.to (bytes_le n x)) i)
        ∙ ap (λ (x : ℕ). ending none (splice s o.to (bytes_le x (command code o.kind (read_le s o.first (width_of o.kind)) (read_le s o.second (second_width code o.kind)))))) wide
        ∙ sym (pick-false _ _ _ (sym tested ∙ f) ∙ pick-false _ _ _ z)
