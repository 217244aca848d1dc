-- What the code byte says of an instruction's kind and T, and the two numbers kept at 65,536. Not here: instructions laid end to end (crate code,
-- proofs/Sound). Assumes nothing.
use mathlib.Core.Path.{◌≡◌, refl, ap, ◌∙◌}
use mathlib.Core.Bool.{Bool, true, false}
use mathlib.Core.List.{List}
use mathlib.Core.Logic.{◌⊎◌, inl, inr}
use Prim.Native.Nat.{ℕ, ◌≤◌, ◌<◌, min}
use native.Mathlib.Omega.{arith}
use borrow.Author.Tests.{eqb-true, eqb-false, leb-true, leb-false}
use lib.Dec.{eqb, leb, ltb}
use Rattle.verdict.specs.Verdict.{pick}
use Rattle.memory.specs.Memory.{byte}
use Rattle.code.specs.Commands.{Kind, Returns, Jumps, Branches, Calls, Passes, row_of}
use Rattle.code.specs.Flow.{kind_at, target_at, goes_to}
use Rattle.code.proofs.Laws.{kind-passes, without_target}
use Rattle.bounds.specs.Bounds.{count_by, depth_by, rises}

-- ---- kinds

pub kind-returns : (c : List ℕ) (p : ℕ) → byte c p ≡ 0 → kind_at c p ≡ Returns
unfolding row_of pick kind_at target_at
kind-returns c p e = rw e

pub kind-jumps : (c : List ℕ) (p : ℕ) → byte c p ≡ 1 → kind_at c p ≡ Jumps
unfolding row_of pick kind_at target_at
kind-jumps c p e = rw e

pub kind-branches : (c : List ℕ) (p : ℕ) → 2 ≤ byte c p → byte c p ≤ 3 → kind_at c p ≡ Branches
unfolding row_of pick kind_at target_at
kind-branches c p h k = go (eqb (byte c p) 2) refl
  where
    go : (b : Bool) → eqb (byte c p) 2 ≡ b → kind_at c p ≡ Branches
    go true e = let z : byte c p ≡ 2 = eqb-true _ _ e in rw z
    go false e =
        let n : (byte c p ≡ 2 → ⊥) = eqb-false _ _ e in
        let z : byte c p ≡ 3 = omega arith in
        rw z

pub kind-calls : (c : List ℕ) (p : ℕ) → 4 ≤ byte c p → byte c p ≤ 5 → kind_at c p ≡ Calls
unfolding row_of pick kind_at target_at
kind-calls c p h k = go (eqb (byte c p) 4) refl
  where
    go : (b : Bool) → eqb (byte c p) 4 ≡ b → kind_at c p ≡ Calls
    go true e = let z : byte c p ≡ 4 = eqb-true _ _ e in rw z
    go false e =
        let n : (byte c p ≡ 4 → ⊥) = eqb-false _ _ e in
        let z : byte c p ≡ 5 = omega arith in
        rw z

-- every other instruction goes on, and has no T
pub no_target : (c : List ℕ) (p : ℕ) → (byte c p ≡ 0) ⊎ (6 ≤ byte c p) → target_at c p ≡ 0
no_target c p (inl e) = without_target c p (ap goes_to (kind-returns c p e))
no_target c p (inr h) = without_target c p (ap goes_to (kind-passes c p h))

-- ---- sums may be kept at 65,536

abbrev pub Caps : (Kind → ℕ → ℕ → ℕ) → Type 0
Caps by = (x : Kind) (a t : ℕ) → min (by x (min a 65536) (min t 65536)) 65536 ≡ min (by x a t) 65536

pub count-caps : Caps count_by
unfolding count_by
count-caps Returns a t = refl
count-caps Jumps a t = omega arith
count-caps Branches a t = omega arith
count-caps Calls a t = omega arith
count-caps Passes a t = omega arith

pub depth-caps : Caps depth_by
unfolding depth_by
depth-caps Returns a t = refl
depth-caps Jumps a t = omega arith
depth-caps Branches a t = omega arith
depth-caps Calls a t = omega arith
depth-caps Passes a t = omega arith

-- what a pass over an instruction of kind_at x answers
-- the number of an instruction of kind_at x, from numbers that are kept at 65,536
pub kept-as : (by : Kind → ℕ → ℕ → ℕ) → Caps by → (x k : Kind) (n next there a t : ℕ) → k ≡ x → a ≡ min next 65536 → t ≡ min there 65536
    → n ≡ min (by x a t) 65536 → n ≡ min (by k next there) 65536
kept-as by v x k n next there a t e p q r = r ∙ rw (p, q, e) (v x next there)

-- ---- T

pub no-target-byte : (c : List ℕ) (p : ℕ) → (byte c p ≡ 1 → ⊥) → (byte c p ≡ 2 → ⊥) → (byte c p ≡ 3 → ⊥) → (byte c p ≡ 4 → ⊥) → (byte c p ≡ 5 → ⊥)
    → target_at c p ≡ 0
no-target-byte c p n1 n2 n3 n4 n5 = go (eqb (byte c p) 0) refl
  where
    go : (b : Bool) → eqb (byte c p) 0 ≡ b → target_at c p ≡ 0
    go true e = no_target c p (inl (eqb-true _ _ e))
    go false e =
        let n0 : (byte c p ≡ 0 → ⊥) = eqb-false _ _ e in
        no_target c p (inr (omega arith))

pub rises-none : (c : List ℕ) (p : ℕ) → (byte c p ≡ 0) ⊎ (6 ≤ byte c p) → rises c p ≡ true
unfolding rises pick
rises-none c p (inl e) = rw (kind-returns c p e)
rises-none c p (inr h) = rw (kind-passes c p h)

-- the code bytes 1 to 5 have a T
goes_to_lem : (c : List ℕ) (p : ℕ) → 1 ≤ byte c p → byte c p ≤ 5 → goes_to (kind_at c p) ≡ true
goes_to_lem c p h k = go (leb (byte c p) 1) refl
  where
    go3 : (b : Bool) → leb (byte c p) 3 ≡ b → 2 ≤ byte c p → goes_to (kind_at c p) ≡ true
    go3 true e l = ap goes_to (kind-branches c p l (leb-true _ _ e))
    go3 false e l = let m : 3 < byte c p = leb-false _ _ e in ap goes_to (kind-calls c p (omega arith) k)

    go : (b : Bool) → leb (byte c p) 1 ≡ b → goes_to (kind_at c p) ≡ true
    go true e = let m : byte c p ≤ 1 = leb-true _ _ e in ap goes_to (kind-jumps c p (omega arith))
    go false e = let m : 1 < byte c p = leb-false _ _ e in go3 (leb (byte c p) 3) refl (omega arith)

pub rises-as : (c : List ℕ) (p t : ℕ) → 1 ≤ byte c p → byte c p ≤ 5 → t ≡ target_at c p → ltb p t ≡ rises c p
unfolding rises pick
rises-as c p t h k e = rw (goes_to_lem c p h k, e)
