-- A table copied out gives its records back: the record of core k of the state that a table holds is the table's record k, with zeros in its
-- spare bytes. So the state has all of the table but those, where a record's two lists have their sixteen entries, which those of a lent table
-- have. Assumes nothing.
use mathlib.Core.Path.{◌≡◌, refl, sym, ap, ◌∙◌}
use mathlib.Core.List.{List}
use Prim.Native.Nat.{ℕ, zero, suc, ◌+◌, ◌≤◌, ◌<◌}
use native.Mathlib.Omega.{arith}
use native.Mathlib.Nat.{not-suc-le-zero}
use lib.ListN.{length, replicate}
use Rattle.memory.specs.Memory.{splice, part}
use Rattle.memory.proofs.Laws.{length-splice, part-splice-below, part-splice-same}
use Rattle.semaphore.specs.declared.Semaphore.{Semaphore}
use Rattle.snapshot.specs.declared.CoreRecord.{CoreRecord}
use Rattle.snapshot.specs.Snapshot.{registers_in, record_with, entries, held_places, held_offsets, held, core_of}
use Rattle.rikzord.specs.Lent.{record_at, loaded}

-- ---- one stack of four

-- a stack that was written over entries is read back, whatever is written above it
own : (z : List ℕ) (p : ℕ) (s : List ℕ) → length s ≡ 16 → p + 16 ≤ length z → part (splice z p s) p 16 ≡ s
own z p s e h = ap (part (splice z p s) p) (sym e) ∙ part-splice-same z p s (omega (arith, e, h))

module _ (a b c d : List ℕ) (la : length a ≡ 16) (lb : length b ≡ 16) (lc : length c ≡ 16) (ld : length d ≡ 16) where
  abbrev z₁ : List ℕ
  z₁ = splice (replicate 64 0) 0 a

  abbrev z₂ : List ℕ
  z₂ = splice z₁ 16 b

  abbrev z₃ : List ℕ
  z₃ = splice z₂ 32 c

  n₁ : length z₁ ≡ 64
  n₁ = length-splice (replicate 64 0) 0 a

  n₂ : length z₂ ≡ 64
  n₂ = length-splice z₁ 16 b ∙ n₁

  n₃ : length z₃ ≡ 64
  n₃ = length-splice z₂ 32 c ∙ n₂

  pub entries-0 : part (entries a b c d) 0 16 ≡ a
  unfolding entries
  entries-0 = part-splice-below z₃ 48 d 0 16 (omega arith) ∙ part-splice-below z₂ 32 c 0 16 (omega arith) ∙ part-splice-below z₁ 16 b 0 16 (omega arith) ∙ own (replicate 64 0) 0 a la (omega arith)

  pub entries-1 : part (entries a b c d) 16 16 ≡ b
  unfolding entries
  entries-1 = part-splice-below z₃ 48 d 16 16 (omega arith) ∙ part-splice-below z₂ 32 c 16 16 (omega arith) ∙ own z₁ 16 b lb (omega (arith, n₁))

  pub entries-2 : part (entries a b c d) 32 16 ≡ c
  unfolding entries
  entries-2 = part-splice-below z₃ 48 d 32 16 (omega arith) ∙ own z₂ 32 c lc (omega (arith, n₂))

  pub entries-3 : part (entries a b c d) 48 16 ≡ d
  unfolding entries
  entries-3 = own z₃ 48 d ld (omega (arith, n₃))

-- ---- the records

-- both lists of a record have sixteen entries
pub record Sixteen (c : CoreRecord) : Type 0 where
  pub places : length c.places ≡ 16
  pub offsets : length c.offsets ≡ 16

-- a record with zeros in its spare bytes
abbrev pub unspared : CoreRecord → CoreRecord
unspared c = record_with (registers_in c) c.places c.offsets

module _ (ys : List CoreRecord) (p : Semaphore) (sized : (k : ℕ) → Sixteen (record_at ys k)) where
  pub comes_back : (k : ℕ) → k < 4 → core_of (held (loaded ys) p) k ≡ unspared (record_at ys k)
  unfolding core_of held held_places held_offsets
  comes_back zero h = rw (entries-0 _ _ _ _ (sized 0).places (sized 1).places (sized 2).places (sized 3).places, entries-0 _ _ _ _ (sized 0).offsets (sized 1).offsets (sized 2).offsets (sized 3).offsets) refl
  comes_back (suc zero) h = rw (entries-1 _ _ _ _ (sized 0).places (sized 1).places (sized 2).places (sized 3).places, entries-1 _ _ _ _ (sized 0).offsets (sized 1).offsets (sized 2).offsets (sized 3).offsets) refl
  comes_back (suc (suc zero)) h = rw (entries-2 _ _ _ _ (sized 0).places (sized 1).places (sized 2).places (sized 3).places, entries-2 _ _ _ _ (sized 0).offsets (sized 1).offsets (sized 2).offsets (sized 3).offsets) refl
  comes_back (suc (suc (suc zero))) h = rw (entries-3 _ _ _ _ (sized 0).places (sized 1).places (sized 2).places (sized 3).places, entries-3 _ _ _ _ (sized 0).offsets (sized 1).offsets (sized 2).offsets (sized 3).offsets) refl
  comes_back (suc (suc (suc (suc k)))) h = absurd (not-suc-le-zero {n = k} (omega (arith, h)))
