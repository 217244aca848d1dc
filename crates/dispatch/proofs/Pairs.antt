-- Laws of the jump by command and type together. In order: a command and its type out of their one number; what an arm asks, and what it
-- answers; the last arm, which has the one number that no arm before it has. Assumes nothing.
use Prim.Native.Nat.{ℕ, zero, suc, ◌+◌, ◌*◌, ◌/◌, ◌%◌, ◌≤◌, ◌<◌}
use mathlib.Core.Bool.{Bool, true, false, not}
use mathlib.Core.List.{List}
use mathlib.Core.Path.{◌≡◌, refl, sym, ◌∙◌, ap, subst}
use native.Mathlib.Omega.{arith}
use lib.Dec.{eqb}
use borrow.Author.Tests.{ne_eqb}
use Rattle.verdict.specs.Verdict.{pick, both}
use Rattle.verdict.proofs.Verdict.{absurd-bool}
use Rattle.values.specs.Types.{takes}
use Rattle.commands.specs.Attempts.{Attempt, attempted, OperandsGiven, ThreeOperands, Inside}
use Rattle.commands.specs.declared.Operands.{Operands}
use Rattle.commands.proofs.Attempts.{given-type}
use Rattle.commands.proofs.Results.{taken-command}

-- ---- a command and its type out of their one number

module _ {op : ℕ} {o : Operands} (g : OperandsGiven op o) (number : ℕ) (e : number ≡ op * 16 + o.kind) {m : ℕ} (key : number ≡ m) where
  type-is : o.kind ≡ m % 16
  type-is = let l : o.kind < 12 = given-type g in omega arith

  command-is : op ≡ m / 16
  command-is = let l : o.kind < 12 = given-type g in omega arith

  -- ---- what the arm of the number m asks, and what it answers

  pub arm-asks : (s : List ℕ) → Inside op o s → (o.kind ≡ m % 16) × OperandsGiven (m / 16) o × Inside (m / 16) o s
  arm-asks s i = (type-is, subst (λ (c : ℕ). OperandsGiven c o) command-is g, subst (λ (c : ℕ). Inside c o s) command-is i)

  pub arm-answers : (s : List ℕ) {a : Attempt} → a ≡ attempted (m / 16) o s → a ≡ attempted op o s
  arm-answers s h = h ∙ ap (λ (c : ℕ). attempted c o s) (sym command-is)

-- ---- the last arm

-- n is none of the numbers below m of which the test holds, as a `match` hands it to its last arm
unfoldable pub NoneOf : (ℕ → Bool) → ℕ → ℕ → Type 0
NoneOf f n zero = Unit {0}
NoneOf f n (suc m) = pick (f m) (NoneOf f n m × (n ≡ m → ⊥)) (NoneOf f n m)

past-arms : (f : ℕ → Bool) (n m : ℕ) → NoneOf f n m → f n ≡ true → n < m → ⊥
unfolding NoneOf pick
past-arms f n zero r e l = omega arith
past-arms f n (suc m) r e l = go (λ p d. past-arms f n m p e (omega arith)) (f m) refl r
  where
    go : (NoneOf f n m → (n ≡ m → ⊥) → ⊥) → (b : Bool) → f m ≡ b → pick b (NoneOf f n m × (n ≡ m → ⊥)) (NoneOf f n m) → ⊥
    go before true h r = before r.0 r.1
    go before false h r = before r (λ j. absurd-bool (sym h ∙ sym (ap f j) ∙ e))

-- the numbers that have an arm: of a command with three operands and a type that it takes
unfoldable pub has_arm : ℕ → Bool
has_arm n = both (takes (n / 16) (n % 16)) (not (eqb (n / 16) 27))

pub last_arm : {op : ℕ} {o : Operands} → OperandsGiven op o → ThreeOperands op → (number : ℕ) → number / 16 ≡ op → number % 16 ≡ o.kind → NoneOf has_arm number 603 → number ≡ 603
unfolding has_arm
last_arm {op} {o} g three number p q none =
    let l : o.kind < 12 = given-type g in
    let i : op ≤ 37 = taken-command op o.kind g.taken in
    let f : has_arm number ≡ true = rw (p, q, g.taken, ne_eqb op 27 three) refl in
    let n : (number < 603 → ⊥) = past-arms has_arm number 603 none f in
    omega arith
