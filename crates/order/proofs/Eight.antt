-- Eight steps of one core, as one number; and steps that leave a byte of an exchange. Assumes nothing.
use mathlib.Core.Path.{◌≡◌, refl, sym, ap, ◌∙◌}
use mathlib.Core.Logic.{inl, inr}
use mathlib.Core.List.{List}
use Prim.Native.Nat.{ℕ, zero, suc, ◌+◌, ◌-◌, ◌*◌, ◌≤◌, ◌<◌}
use native.Mathlib.Omega.{arith}
use lib.ListN.{length, get_or, take, drop, replicate, get_or-replicate}
use lib.Seq.{get_or-take, get_or-drop}
use Rattle.memory.specs.Memory.{part, bytes_le, read_le}
use Rattle.memory.proofs.Number.{bytes_read}
use Rattle.protocol.specs.declared.Registers.{Registers}
use Rattle.states.specs.declared.CoreTask.{CoreTask}
use Rattle.steps.specs.Bytes.{Ahead}
use Rattle.order.specs.Order.{AllOn}

-- fewer bytes leave one too
pub ahead-less : (c : CoreTask) (r : Registers) (n m : ℕ) → m ≤ n → Ahead c r n → Ahead c r m
ahead-less c r n m h (inl a) = inl (a.0, omega (arith, a.1))
ahead-less c r n m h (inr a) = inr (a.0, omega (arith, a.1))

ones : (k : ℕ) → k < 4 → bytes_le 8 (k * 72340172838076673) ≡ replicate 8 k
unfolding bytes_le
ones zero h = refl
ones (suc zero) h = refl
ones (suc (suc zero)) h = refl
ones (suc (suc (suc zero))) h = refl
ones (suc (suc (suc (suc k)))) h = absurd (let z : ⊥ = omega arith in z)

pub eight-equal : (order : List ℕ) (i k : ℕ) → i + 8 ≤ length order → k < 4 → ((j : ℕ) → get_or order j 0 < 256) → read_le order i 8 ≡ k * 72340172838076673 → AllOn order k i 8
unfolding read_le part
eight-equal order i k l few small e j a b =
    let n : j ≡ i + (j - i) = omega arith in
    let u : j - i < 8 = omega arith in
    let is : part order i 8 ≡ replicate 8 k = sym (bytes_read order i 8 small l) ∙ ap (bytes_le 8) e ∙ ones k few in
    ap (λ (m : ℕ). get_or order m 0) n ∙ sym (eighth order i (j - i) u) ∙ ap (λ (x : List ℕ). get_or x (j - i) 0) is ∙ get_or-replicate 8 (j - i) k 0 u
  where
    eighth : (order : List ℕ) (i j : ℕ) → j < 8 → get_or (take 8 (drop i order)) j 0 ≡ get_or order (i + j) 0
    eighth order i j h = rw (get_or-take, get_or-drop)
