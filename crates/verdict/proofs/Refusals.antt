-- Laws of `specs/Refusals`: a refusal has a number above 0, so a chain of items stops at it and goes on behind an answer that has none; what `?` hands on.
-- Assumes nothing.
use mathlib.Core.Path.{◌≡◌, sym, ap, ◌∙◌}
use mathlib.Core.Logic.{◌≢◌}
use Prim.Native.Nat.{ℕ, ◌<◌, ◌-◌}
use native.Mathlib.Omega.{arith}
use borrow.Author.Tests.{eq-eqb, ne_eqb}
use Rattle.std.specs.Prelude.{Result, Ok, Err, Option, Some, None}
use Rattle.std.specs.Result.{IsErrAnd, IfOk}
use Rattle.std.specs.Option.{unwrap_or}
use Rattle.verdict.specs.declared.Refusal.{Refusal}
use Rattle.verdict.specs.declared.Refused.{Refused}
use Rattle.verdict.specs.declared.Refusal.TheVariants.{CutFile, NoMark, BadCore, BadVariable, Overlapping, BadInstruction, BadTarget, NoSuchCore, BadLengths, BadTrace, UnfitState, LeftOver, NotAbove, OverCount, WideType, BadSpan, FewPlaces, BadRun, BadStart, HasStarts, NotProduced, OutsideWindow}
use Rattle.verdict.specs.Verdict.{next, first}
use Rattle.verdict.specs.Refusals.{number_of, refusal_of, refused_number, known, where_accepted}
use Rattle.verdict.proofs.Verdict.{pick_true, pick-false, stop, Going, going-stop}

pub number-above-zero : (r : Refusal) → 0 < number_of r
number-above-zero CutFile = omega arith
number-above-zero NoMark = omega arith
number-above-zero BadCore = omega arith
number-above-zero BadVariable = omega arith
number-above-zero Overlapping = omega arith
number-above-zero BadInstruction = omega arith
number-above-zero BadTarget = omega arith
number-above-zero NoSuchCore = omega arith
number-above-zero BadLengths = omega arith
number-above-zero BadTrace = omega arith
number-above-zero UnfitState = omega arith
number-above-zero LeftOver = omega arith
number-above-zero NotAbove = omega arith
number-above-zero OverCount = omega arith
number-above-zero WideType = omega arith
number-above-zero BadSpan = omega arith
number-above-zero FewPlaces = omega arith
number-above-zero BadRun = omega arith
number-above-zero BadStart = omega arith
number-above-zero HasStarts = omega arith
number-above-zero NotProduced = omega arith
number-above-zero OutsideWindow = omega arith

pub refused : (r : Refusal) → (number_of r ≡ 0 → ⊥)
refused r e = let h : 0 < number_of r = number-above-zero r in let y : ⊥ = omega arith in y

-- ---- a chain of items: the first answer is a refusal

pub stop-refused : (r : Refusal) {a : ℕ} (b : ℕ) → number_of r ≡ a → number_of r ≡ next a b
stop-refused r b e = stop b e (refused r)

-- ---- a loop over items: the answer of item i is a refusal

pub going-refused : (g : ℕ → ℕ) (s n i : ℕ) (r : Refusal) → Going g s n i → i < n → number_of r ≡ g i → number_of r ≡ first g (n - s) s
going-refused g s n i r w h e = going-stop g s n i (number_of r) w h e (refused r)

-- ---- the exit of a `?`: the caller's answer is the refusal that it met, and has its number

pub handed : {A : Type 0} (r : Result A Refusal) (e : Refusal) → IsErrAnd r (λ (y : Refusal). y ≡ e) → r ≡ Err e
handed (Ok a) e h = absurd h
handed (Err y) e h = rw h

pub handed_on : {A : Type 0} (r : Result A Refusal) (e : Refusal) {n : ℕ} → IsErrAnd r (λ (y : Refusal). y ≡ e) → number_of e ≡ n → refusal_of r ≡ n
handed_on (Ok a) e h k = absurd h
handed_on (Err y) e h k = rw h k

-- with what the caller says of the value of an answer
pub handed_none : {A : Type 0} (r : Result A Refusal) (e : Refusal) (P : A → Type 0) {n : ℕ} → IsErrAnd r (λ (y : Refusal). y ≡ e) → number_of e ≡ n → (refusal_of r ≡ n) × IfOk r P
handed_none (Ok a) e P h k = absurd h
handed_none (Err y) e P h k = (rw h k, tt)

-- ---- what is known where an item is accepted or refused

module _ {A : Type 0} (r : ℕ) (a : A) where
  pub accepted-known : r ≡ 0 → Some a ≡ where_accepted r a
  unfolding where_accepted
  accepted-known e = sym (pick_true _ _ _ (eq-eqb r 0 e))

  pub refused-unknown : r ≢ 0 → None ≡ where_accepted r a
  unfolding where_accepted
  refused-unknown n = sym (pick-false _ _ _ (ne_eqb r 0 n))

  pub known-accepted : (x : A) → r ≡ 0 → Some x ≡ where_accepted r a → x ≡ a
  known-accepted x z e = ap (λ (o : Option A). unwrap_or o x) (e ∙ sym (accepted-known z))

-- the exit of a `?` where nothing is known but the refusal
pub handed-unknown : {A : Type 0} (r : Result A (Refused A)) (e : Refusal) {n : ℕ} {k : Option A}
    → IsErrAnd r (λ (y : Refused A). y ≡ record { refusal = e; known = None }) → number_of e ≡ n → None ≡ k → (refused_number r ≡ n) × (known r ≡ k)
handed-unknown (Ok a) e h p q = absurd h
handed-unknown (Err y) e h p q = rw h (p, q)
