-- What an instruction of the processor does to control is a step of a path, whatever the data decide. Not here: the limit and the modes
-- (proofs/Spared). Assumes nothing.
use mathlib.Core.Path.{◌≡◌, refl, ap, ap₂}
use mathlib.Core.Logic.{◌≢◌}
use mathlib.Core.Bool.{Bool}
use mathlib.Core.List.{List, [], ◌∷◌}
use Prim.Native.Nat.{ℕ, zero, suc, ◌≤◌, ◌<◌}
use native.Mathlib.Omega.{arith}
use borrow.Author.Tests.{eqb-true, eqb-false}
use lib.Dec.{eqb}
use lib.ListN.{length, get_or, set}
use lib.Seq.{get_or-set_other}
use Rattle.verdict.proofs.Verdict.{by-pick}
use Rattle.conversions.specs.Conversions.{Result, stores, not-held}
use Rattle.conversions.specs.Data.{Ended, settled, tried, converting}
use Rattle.packed.specs.Data.{packing, unpacking}
use Rattle.protocol.specs.declared.Registers.{Registers}
use Rattle.protocol.specs.declared.Outcome.{Outcome}
use Rattle.protocol.specs.declared.Outcome.TheVariants.{Fault, Next, Call, Return as Returned}
use Rattle.protocol.specs.Instruction.{Executed}
use Rattle.code.specs.declared.Instruction.{Instruction}
use Rattle.code.specs.declared.Instruction.TheVariants.{Return, Jump, JumpZero, JumpNotZero, CallInstance, CallFunction, MoveConstant, CopyMemory, ReadElement, WriteElement, Typed, CycleTime, FlagByte, Convert, Pack, Unpack, Unknown}
use Rattle.code.specs.Commands.{Kind, Returns, Jumps, Branches, Calls, Passes}
use Rattle.code.specs.Flow.{kind_at, after, target_at}
use Rattle.processor.specs.Processor.{Decided, refused, decided, fault_if, at, of_conversion, of_element, data_part, call_made, controlled, executed}
use Rattle.bounds.specs.Paths.{Goes, passes, jumps, stays, leaves, calls}

-- ---- the faults of the data part: neither the limit nor the seventeenth call

abbrev Ordinary : ℕ → Type 0
Ordinary b = (b < 8) × (b ≢ 1) × (b ≢ 5)

abbrev Fair : Decided → Type 0
Fair (refused b) = Ordinary b
Fair (decided made offset m) = Unit {0}

fault : (test : Bool) (b : ℕ) (x : Decided) → Ordinary b → Fair x → Fair (fault_if test b x)
fault test b x o f = by-pick Fair test (refused b) x (λ _. o) (λ _. f)

zeroth : Ordinary 0
zeroth = (omega arith, omega arith, omega arith)

third : Ordinary 3
third = (omega arith, omega arith, omega arith)

fourth : Ordinary 4
fourth = (omega arith, omega arith, omega arith)

sixth : Ordinary 6
sixth = (omega arith, omega arith, omega arith)

settled-fair : (r : Registers) (t to : ℕ) (d : List ℕ) (x : Result) → Fair (of_conversion r (settled t d to x))
settled-fair r t to d (stores p) = tt
settled-fair r t to d not-held = sixth

conversion-fair : (r : Registers) (t u to source : ℕ) (d : List ℕ) (x : Result) → Fair (of_conversion r (tried t u d to source x))
unfolding tried
conversion-fair r t u to source d x = by-pick (λ (e : Ended). Fair (of_conversion r e)) _ _ _ (λ _. fourth) (λ _. settled-fair r t to d x)

element-fair : (r : Registers) (d : List ℕ) (v a i size count : ℕ) (x : Decided) → Fair x → Fair (of_element r d v a i size count x)
unfolding of_element
element-fair r d v a i size count x f = fault _ 4 _ fourth (fault _ 0 _ zeroth (fault _ 4 x fourth f))

fair : (i : Instruction) (c : List ℕ) (r : Registers) (d : List ℕ) → Fair (data_part i c r d)
unfolding data_part converting packing unpacking
fair Return c r d = tt
fair (Jump t) c r d = tt
fair (JumpZero a t) c r d = fault _ 4 _ fourth tt
fair (JumpNotZero a t) c r d = fault _ 4 _ fourth tt
fair (CallInstance i t) c r d = fault _ 4 _ fourth tt
fair (CallFunction t) c r d = tt
fair (MoveConstant to n) c r d = fault _ 4 _ fourth tt
fair (CopyMemory to from n) c r d = fault _ 4 _ fourth tt
fair (ReadElement v a i size count) c r d = element-fair r d v a i size count _ tt
fair (WriteElement v a i size count) c r d = element-fair r d v a i size count _ tt
fair (Typed code t to a b) c r d = fault _ 4 _ fourth (fault _ 3 _ third tt)
fair (CycleTime to) c r d = fault _ 4 _ fourth tt
fair (FlagByte to) c r d = fault _ 4 _ fourth tt
fair (Convert from to destination source) c r d = conversion-fair r to from (at r destination) (at r source) d _
fair (Pack type destination source) c r d = conversion-fair r type type (at r destination) (at r source) d _
fair (Unpack type destination source) c r d = conversion-fair r type type (at r destination) (at r source) d _
fair Unknown c r d = tt

-- ---- control

-- the return places of a call stack, the latest first
abbrev pub places_in : ℕ → List ℕ → List ℕ
places_in zero st = []
places_in (suc d) st = get_or st d 0 ∷ places_in d st

-- an entry from the depth on is none of them
pub places-set : (d i x : ℕ) (st : List ℕ) → d ≤ i → places_in d (set st i x) ≡ places_in d st
places-set zero i x st h = refl
places-set (suc d) i x st h =
    ap₂ (λ (a : ℕ) (l : List ℕ). a ∷ l) (get_or-set_other st i d x 0 (λ e. let z : ⊥ = omega arith in z)) (places-set d i x st (omega arith))

pub places-length : (d : ℕ) (st : List ℕ) → length (places_in d st) ≡ d
places-length zero st = refl
places-length (suc d) st = ap suc (places-length d st)

-- An outcome of the instruction at p of the code c, at a depth
abbrev pub Fits : List ℕ → ℕ → ℕ → Outcome → Type 0
Fits c p depth (Fault b) = (b < 8) × (b ≢ 1) × (b ≡ 5 → (kind_at c p ≡ Calls) × (depth ≡ 16))
Fits c p depth (Next q) = (s : List ℕ) → Goes c p s q s
Fits c p depth (Call next q offset) = (depth ≢ 16) × ((s : List ℕ) → Goes c p s q (next ∷ s))
Fits c p depth Returned = kind_at c p ≡ Returns

ordinary-fits : (c : List ℕ) (p depth b : ℕ) → Ordinary b → Fits c p depth (Fault b)
ordinary-fits c p depth b o = (o.0, o.1, λ z. absurd (o.2 z))

module _ (c : List ℕ) (p depth : ℕ) (d : List ℕ) where
  by_kind : (k : Kind) → kind_at c p ≡ k → (x : Decided) → Fair x → Fits c p depth (controlled k (after c p) (target_at c p) depth d x).outcome
  by_kind Returns e x f = e
  by_kind Jumps e x f = λ s. jumps e
  by_kind Branches e (refused b) f = ordinary-fits c p depth b f
  by_kind Branches e (decided made offset m) f =
      by-pick (λ q. (s : List ℕ) → Goes c p s q s) made (target_at c p) (after c p) (λ _ s. leaves e) (λ _ s. stays e)
  by_kind Calls e x f =
      by-pick (λ (y : Executed). Fits c p depth y.outcome) (eqb depth 16) _ _
      (λ z. (omega arith, omega arith, λ _. (e, eqb-true depth 16 z)))
      (λ z. go (eqb-false depth 16 z) x f)
    where
      go : depth ≢ 16 → (x : Decided) → Fair x → Fits c p depth (call_made (after c p) (target_at c p) d x).outcome
      go n (refused b) f = ordinary-fits c p depth b f
      go n (decided made offset m) f = (n, λ s. calls e)
  by_kind Passes e (refused b) f = ordinary-fits c p depth b f
  by_kind Passes e (decided made offset m) f = λ s. passes e

pub fits : (c : List ℕ) (r : Registers) (d : List ℕ) → Fits c r.counter r.depth (executed c r d).outcome
unfolding executed
fits c r d = by_kind c r.counter r.depth d (kind_at c r.counter) refl _ (fair _ c r d)
