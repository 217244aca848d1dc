-- Laws of the definitions of `specs/Records`. In order: bits of the attribute byte; places; two tests; a pair's refusal. Assumes nothing.
use mathlib.Core.Path.{◌≡◌, refl, sym, ap, ap₂, ◌∙◌}
use mathlib.Core.Bool.{Bool, true, false}
use mathlib.Core.List.{List}
use Prim.Native.Nat.{ℕ, zero, suc, ◌+◌, ◌*◌, ◌/◌, ◌^◌, ◌<◌}
use native.Mathlib.Omega.{arith}
use lib.Dec.{T, eqb, eqb→eq}
use lib.Bits.{bit_and, and_mask}
use lib.Count.{ones, ones_in}
use Rattle.verdict.specs.Verdict.{both}
use Rattle.verdict.proofs.Verdict.{below, pick_true, pick-false}
use Rattle.memory.specs.Memory.{word}
use Rattle.protocol.specs.Variables.{local}
use Rattle.records.specs.File.{record_place, variable_in}
use Rattle.records.specs.Records.{bit, has_one_writer, overlap, pair_refusal}

pub bit-and : (a k : ℕ) → bit_and (a / 2 ^ k) 1 ≡ bit a k
bit-and a k = and_mask (a / 2 ^ k) 1

writers : ℕ → Bool
writers a = eqb (ones (bit_and a 15)) (bit a 0 + bit a 1 + bit a 2 + bit a 3)

-- the count of ones of the low four bits, by a computed test of all bytes
pub one_writer : (a : ℕ) → a < 256 → eqb (ones (bit_and a 15)) 1 ≡ has_one_writer a
unfolding writers ones ones_in has_one_writer
one_writer a h =
    let t : T (writers a) = below writers 256 tt a h in
    ap (λ (n : ℕ). eqb n 1) (eqb→eq (ones (bit_and a 15)) (bit a 0 + bit a 1 + bit a 2 + bit a 3) t)

-- the local place of core k stands 2 * k bytes on
pub local_at : (f : List ℕ) (p k : ℕ) → k < 4 → word f (p + 4 + 2 * k) ≡ local k (variable_in f p)
local_at f p zero h = ap (word f) (omega arith)
local_at f p (suc zero) h = ap (word f) (omega arith)
local_at f p (suc (suc zero)) h = ap (word f) (omega arith)
local_at f p (suc (suc (suc zero))) h = ap (word f) (omega arith)
local_at f p (suc (suc (suc (suc k)))) h = absurd (let y : ⊥ = omega arith in y)

-- ---- two tests, the second decided

pub both-alone : (b : Bool) → both b true ≡ b
both-alone true = refl
both-alone false = refl

pub both-none : (b : Bool) → both b false ≡ false
both-none true = refl
both-none false = refl

-- ---- a pair's refusal, with the records' places

pub pair-five : (f : List ℕ) (i j p q : ℕ) → p ≡ record_place f i → q ≡ record_place f j → overlap (variable_in f p) (variable_in f q) ≡ true
    → 5 ≡ pair_refusal f i j
unfolding pair_refusal
pair-five f i j p q e h o = sym (pick_true _ 5 0 (ap₂ (λ (x y : ℕ). overlap (variable_in f x) (variable_in f y)) (sym e) (sym h) ∙ o))

pub pair-none : (f : List ℕ) (i j p q : ℕ) → p ≡ record_place f i → q ≡ record_place f j → overlap (variable_in f p) (variable_in f q) ≡ false
    → pair_refusal f i j ≡ 0
unfolding pair_refusal
pair-none f i j p q e h o = pick-false _ 5 0 (ap₂ (λ (x y : ℕ). overlap (variable_in f x) (variable_in f y)) (sym e) (sym h) ∙ o)
