-- The task set of proofs/Runs meets every hypothesis of demand 3, so that it holds of each list of steps of it. Assumes nothing.
use mathlib.Core.Path.{◌≡◌, refl, sym, ◌∙◌, subst}
use mathlib.Core.Logic.{inl, inr}
use mathlib.Core.Bool.{Bool, true, false}
use mathlib.Core.List.{List, [], ◌∷◌}
use Prim.Native.Nat.{ℕ, zero, suc, ◌+◌, ◌≤◌}
use native.Mathlib.Omega.{arith}
use lib.Dec.{T, eqb, ltb, ltb→lt}
use lib.ListN.{length, take}
use Rattle.verdict.specs.Verdict.{both}
use Rattle.verdict.proofs.Verdict.{by-pick}
use Rattle.memory.specs.Memory.{byte}
use Rattle.memory.proofs.Laws.{length-splice}
use Rattle.protocol.specs.State.{Core, core}
use Rattle.protocol.specs.Variables.{Variable, local, writes_it, reads_it, In, Clear, Accepted}
use Rattle.protocol.specs.Laws.{Laws}
use Rattle.protocol.specs.Interleaving.{Interleaved}
use Rattle.protocol.proofs.Runs.{temperature, flow, variables, answer, task, start}
use Rattle.protocol.proofs.Instance.{KeepsLength, obeys, zero_is}
use Rattle.protocol.proofs.Interleaving.{interleaved}

-- ---- the instruction

keeps : (k : ℕ) (c : Core) → KeepsLength c (answer k c)
unfolding answer
keeps k c =
    by-pick (KeepsLength c) (both (eqb k 0) (eqb c.registers.counter 0)) _ _
    (λ e n. length-splice c.memory 4 (take 4 c.memory))
    (λ e. by-pick (KeepsLength c) (both (eqb k 0) (eqb (byte c.memory 0) 0)) _ _ (λ f n. refl) (λ f n. refl))

lawful : Laws task
unfolding task
lawful = obeys task answer (λ k c m. keeps k c) refl

-- ---- the loader's conditions

-- a fact of both variables
of-both : (P : Variable → Type 0) → P temperature → P flow → (v : Variable) → In v variables → P v
unfolding variables
of-both P a b v (inl e) = subst P (sym e) a
of-both P a b v (inr (inl e)) = subst P (sym e) b
of-both P a b v (inr (inr h)) = absurd h

-- no core from 4 on is named
unnamed : (j : ℕ) (b : Bool) → T (both (ltb (suc (suc (suc (suc j)))) 4) b) → ⊥
unnamed j b h = go (ltb (suc (suc (suc (suc j)))) 4) refl h
  where
    go : (a : Bool) → ltb (suc (suc (suc (suc j)))) 4 ≡ a → T (both a b) → ⊥
    go true e t = let l = ltb→lt (suc (suc (suc (suc j)))) 4 (subst T (sym e) tt) in omega arith
    go false e t = t

writer : (v : Variable) → v.attribute ≡ 33 → (j : ℕ) → T (writes_it j v) → j ≡ 0
unfolding writes_it
writer v a zero h = refl
writer v a (suc zero) h = absurd (rw a at h)
writer v a (suc (suc zero)) h = absurd (rw a at h)
writer v a (suc (suc (suc zero))) h = absurd (rw a at h)
writer v a (suc (suc (suc (suc j)))) h = absurd (unnamed j _ h)

reader : (v : Variable) → v.attribute ≡ 33 → (j : ℕ) → T (reads_it j v) → j ≡ 1
unfolding reads_it
reader v a zero h = absurd (rw a at h)
reader v a (suc zero) h = refl
reader v a (suc (suc zero)) h = absurd (rw a at h)
reader v a (suc (suc (suc zero))) h = absurd (rw a at h)
reader v a (suc (suc (suc (suc j)))) h = absurd (unnamed j _ h)

pub accepted : Accepted variables start
unfolding variables start
accepted = record {
  one_writer = of-both (λ v. (j k : ℕ) → T (writes_it j v) → T (writes_it k v) → j ≡ k)
      (λ j k a b. writer temperature refl j a ∙ sym (writer temperature refl k b))
      (λ j k a b. writer flow refl j a ∙ sym (writer flow refl k b));
  fits-shared = of-both (λ v. v.place + v.width ≤ length start.plant.shared) (omega arith) (omega arith);
  fits-local = of-both (λ v. (k : ℕ) → T (reads_it k v) → local k v + v.width ≤ length (core start.plant k).memory)
      (λ k a. rw (reader temperature refl k a) (omega arith))
      (λ k a. rw (reader flow refl k a) (omega arith));
  clear-shared = (λ u i. only-flow (λ u. Clear 10 2 u.place u.width) (inl (omega arith)) u i, (λ u i. absurd i, tt));
  clear-local = λ k. (λ u i a b. rw (reader temperature refl k a) (only-flow (λ u. Clear 0 2 (local 1 u) u.width) (inl (omega arith)) u i), (λ u i. absurd i, tt));
}
  where
    only-flow : (P : Variable → Type 0) → P flow → (u : Variable) → In u (flow ∷ []) → P u
    only-flow P a u (inl e) = subst P (sym e) a
    only-flow P a u (inr h) = absurd h

-- ---- demand 3 of this task set

pub all-lists : (ks : List ℕ) → Interleaved task variables start ks
unfolding task start
all-lists ks = interleaved task variables start refl refl lawful (zero_is (8 ∷ 4 ∷ [])) accepted ks
