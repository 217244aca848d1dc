-- What every instruction keeps. In order: the answers of the data part; where control goes; the data's length and the laws that crate
-- protocol asks; what keeps a core inside its code and its data (`Placed`). Assumes nothing.
use mathlib.Core.Path.{◌≡◌, refl, ◌∙◌, subst}
use mathlib.Core.Logic.{◌⊎◌, inl, inr}
use mathlib.Core.Bool.{Bool, true, false}
use mathlib.Core.List.{List, [], ◌∷◌}
use Prim.Native.Nat.{ℕ, zero, suc, ◌≤◌, ◌<◌}
use native.Mathlib.Omega.{arith}
use borrow.Author.Tests.{leb-false, eqb-false}
use lib.Dec.{eqb, leb}
use lib.ListN.{length, get_or, set, length-set, replicate}
use lib.Seq.{get_or-set_other}
use Rattle.verdict.proofs.Verdict.{by-pick}
use Rattle.memory.specs.Memory.{splice, read_le}
use Rattle.memory.proofs.Laws.{length-splice}
use Rattle.values.specs.Types.{width_of}
use Rattle.values.specs.Commands.{performed}
use Rattle.conversions.specs.Conversions.{Result, stores, not-held, converted}
use Rattle.conversions.specs.Data.{Ended, settled, tried, converting}
use Rattle.packed.specs.Packed.{packed, unpacked}
use Rattle.packed.specs.Data.{packing, unpacking}
use Rattle.protocol.specs.declared.Registers.{Registers}
use Rattle.protocol.specs.declared.Stack.{Stack}
use Rattle.protocol.specs.declared.Outcome.{Outcome}
use Rattle.protocol.specs.declared.Outcome.TheVariants.{Fault, Next, Call, Return as Returned}
use Rattle.protocol.specs.Registers.{advanced, called as called_to, returned, cycle_ended, faulted, pushed, popped}
use Rattle.protocol.specs.State.{Core, Task, cleared}
use Rattle.protocol.specs.Instruction.{Executed, back_from, applied_by, applied, halted, limited, instruction_by}
use Rattle.protocol.specs.Laws.{Laws}
use Rattle.protocol.proofs.Instance.{obeys}
use Rattle.code.specs.declared.Instruction.{Instruction}
use Rattle.code.specs.declared.Instruction.TheVariants.{Return, Jump, JumpZero, JumpNotZero, CallInstance, CallFunction, MoveConstant, CopyMemory, ReadElement, WriteElement, Typed, CycleTime, FlagByte, Convert, Pack, Unpack, Unknown}
use Rattle.code.specs.Commands.{Kind, Returns, Jumps, Branches, Calls, Passes}
use Rattle.code.specs.Flow.{goes_on, goes_to, kind_at, target_at, after}
use Rattle.code.specs.Code.{judge_code, is_start}
use Rattle.code.specs.Instructions.{instruction_at}
use Rattle.code.proofs.Sound.{sound, inside-code, start-zero}
use Rattle.processor.specs.Processor.{Decided, refused, decided, fault_if, changed, at, of_element, of_conversion, data_part, answer, controlled, executed}
use Rattle.processor.specs.Placed.{Placed, Leads}

-- ---- the answers of the data part

-- its faults are array index, zero divisor, address beyond the data and a conversion's result that is not held
abbrev pub DataFault : ℕ → Type 0
DataFault b = (b ≡ 0) ⊎ ((b ≡ 3) ⊎ ((b ≡ 4) ⊎ (b ≡ 6)))

abbrev Faults : Decided → Type 0
Faults (refused b) = DataFault b
Faults (decided made offset m) = Unit {0}

abbrev Keeps : List ℕ → Decided → Type 0
Keeps d (refused b) = Unit {0}
Keeps d (decided made offset m) = length m ≡ length d

-- a data offset below the data size
abbrev Inside : Registers → List ℕ → Decided → Type 0
Inside r d (refused b) = Unit {0}
Inside r d (decided made offset m) = r.offset < length d → offset < length d

record Answers (r : Registers) (d : List ℕ) (x : Decided) : Type 0 where
  faults : Faults x
  keeps : Keeps d x
  inside : Inside r d x

module _ (r : Registers) (d : List ℕ) where
  index-answers : Answers r d (refused 0)
  index-answers = record { faults = inl refl; keeps = tt; inside = tt }

  divisor-answers : Answers r d (refused 3)
  divisor-answers = record { faults = inr (inl refl); keeps = tt; inside = tt }

  address-answers : Answers r d (refused 4)
  address-answers = record { faults = inr (inr (inl refl)); keeps = tt; inside = tt }

  -- a conversion, whose data keep their size
  settled-answers : (t to : ℕ) (x : Result) → Answers r d (of_conversion r (settled t d to x))
  settled-answers t to (stores p) = record { faults = tt; keeps = length-splice d to _; inside = λ h. h }
  settled-answers t to not-held = record { faults = inr (inr (inr refl)); keeps = tt; inside = tt }

  conversion-answers : (t u to source : ℕ) (x : Result) → Answers r d (of_conversion r (tried t u d to source x))
  unfolding tried
  conversion-answers t u to source x = by-pick (λ (e : Ended). Answers r d (of_conversion r e)) _ _ _ (λ _. address-answers) (λ _. settled-answers t to x)

  same-answers : (made : Bool) → Answers r d (decided made r.offset d)
  same-answers made = record { faults = tt; keeps = refl; inside = λ h. h }

  splice-answers : (p : ℕ) (ys : List ℕ) → Answers r d (changed r (splice d p ys))
  splice-answers p ys = record { faults = tt; keeps = length-splice d p ys; inside = λ h. h }

  tested : (test : Bool) (x : Decided) → Answers r d x → Answers r d (fault_if test 4 x)
  tested test x a = by-pick (Answers r d) test (refused 4) x (λ e. address-answers) (λ e. a)

  element-answers : (variable array index size count : ℕ) (x : Decided) → Answers r d x → Answers r d (of_element r d variable array index size count x)
  unfolding of_element
  element-answers variable array index size count x a =
      tested _ _ (by-pick (Answers r d) _ _ _ (λ e. index-answers) (λ e. tested _ _ a))

  data-answers : (i : Instruction) (c : List ℕ) → Answers r d (data_part i c r d)
  unfolding data_part performed converting packing unpacking
  data-answers Return c = same-answers false
  data-answers (Jump t) c = same-answers false
  data-answers (JumpZero a t) c = tested _ _ (same-answers _)
  data-answers (JumpNotZero a t) c = tested _ _ (same-answers _)
  data-answers (CallInstance i t) c =
      by-pick (Answers r d) (leb (length d) (at r i)) _ _ (λ e. address-answers)
      (λ e. record { faults = tt; keeps = refl; inside = λ h. leb-false (length d) (at r i) e })
  data-answers (CallFunction t) c = same-answers false
  data-answers (MoveConstant to n) c = tested _ _ (splice-answers _ _)
  data-answers (CopyMemory to from n) c = tested _ _ (splice-answers _ _)
  data-answers (ReadElement v a i size count) c = element-answers _ _ _ _ _ _ (splice-answers _ _)
  data-answers (WriteElement v a i size count) c = element-answers _ _ _ _ _ _ (splice-answers _ _)
  data-answers (Typed code t to a b) c =
      tested _ _ (by-pick (Answers r d) _ _ _ (λ e. divisor-answers) (λ e. splice-answers _ _))
  data-answers (CycleTime to) c = tested _ _ (splice-answers _ _)
  data-answers (FlagByte to) c = tested _ _ (splice-answers _ _)
  data-answers (Convert from to destination source) c = conversion-answers to from (at r destination) (at r source) (converted from to (read_le d (at r source) (width_of from)))
  data-answers (Pack type destination source) c = conversion-answers type type (at r destination) (at r source) (packed type (read_le d (at r source) (width_of type)))
  data-answers (Unpack type destination source) c = conversion-answers type type (at r destination) (at r source) (unpacked type (read_le d (at r source) (width_of type)))
  data-answers Unknown c = same-answers false

  pub data-faults : (i : Instruction) (c : List ℕ) (b : ℕ) → data_part i c r d ≡ refused b → DataFault b
  data-faults i c b e = subst Faults e (data-answers i c).faults

-- ---- the data's length

controlled-length : (k : Kind) (next target_at depth : ℕ) (d : List ℕ) (x : Decided) → Keeps d x → length (controlled k next target_at depth d x).memory ≡ length d
controlled-length Returns next target_at depth d x h = refl
controlled-length Jumps next target_at depth d x h = refl
controlled-length Branches next target_at depth d (refused b) h = refl
controlled-length Branches next target_at depth d (decided made offset m) h = refl
controlled-length Calls next target_at depth d (refused b) h = by-pick (λ (y : Executed). length y.memory ≡ length d) (eqb depth 16) (halted 5 d) (halted b d) (λ e. refl) (λ e. refl)
controlled-length Calls next target_at depth d (decided made offset m) h =
    by-pick (λ (y : Executed). length y.memory ≡ length d) (eqb depth 16) (halted 5 d) (answer (Call next target_at offset) d) (λ e. refl) (λ e. refl)
controlled-length Passes next target_at depth d (refused b) h = refl
controlled-length Passes next target_at depth d (decided made offset m) h = h

pub executed-length : (c : List ℕ) (r : Registers) (d : List ℕ) → length (executed c r d).memory ≡ length d
unfolding executed
executed-length c r d = controlled-length (kind_at c r.counter) _ _ _ d _ (data-answers r d (instruction_at c r.counter) c).keeps

-- the laws of a task whose instructions are those of its cores' code
pub instruction-laws : (t : Task) (code : ℕ → List ℕ)
    → t.instruction ≡ instruction_by t.limit (λ (k : ℕ) (x : Core). executed (code k) x.registers x.memory) → Laws t
instruction-laws t code e = obeys t _ (λ k x m n. executed-length (code k) x.registers x.memory) e

-- ---- where control goes

fault-bit : {b : ℕ} → DataFault b → b < 8
fault-bit (inl e) = omega arith
fault-bit (inr (inl e)) = omega arith
fault-bit (inr (inr (inl e))) = omega arith
fault-bit (inr (inr (inr e))) = omega arith

module _ (c : List ℕ) (r : Registers) (d : List ℕ) (offset : r.offset < length d) (depth : r.depth ≤ 16) where
  To : Executed → Type 0
  To y = Leads c (length d) r.depth y.outcome

  controlled-leads : (k : Kind) (next target_at : ℕ) (x : Decided) → Answers r d x → (goes_on k ≡ true → is_start c next ≡ true)
      → (goes_to k ≡ true → is_start c target_at ≡ true) → Leads c (length d) r.depth (controlled k next target_at r.depth d x).outcome
  unfolding To
  controlled-leads Returns next target_at x a on to = tt
  controlled-leads Jumps next target_at x a on to = to refl
  controlled-leads Branches next target_at (refused b) a on to = fault-bit a.faults
  controlled-leads Branches next target_at (decided made o m) a on to =
      by-pick (λ (p : ℕ). is_start c p ≡ true) made target_at next (λ e. to refl) (λ e. on refl)
  controlled-leads Calls next target_at (refused b) a on to =
      by-pick To (eqb r.depth 16) (halted 5 d) (halted b d) (λ e. omega arith) (λ e. fault-bit a.faults)
  controlled-leads Calls next target_at (decided made o m) a on to =
      by-pick To (eqb r.depth 16) (halted 5 d) (answer (Call next target_at o) d) (λ e. omega arith)
      (λ e. (on refl, to refl, a.inside offset, below e))
    where
      below : eqb r.depth 16 ≡ false → r.depth < 16
      below e =
          let n : (r.depth ≡ 16 → ⊥) = eqb-false r.depth 16 e in
          omega arith
  controlled-leads Passes next target_at (refused b) a on to = fault-bit a.faults
  controlled-leads Passes next target_at (decided made o m) a on to = on refl

  pub executed-leads : judge_code c ≡ 0 → is_start c r.counter ≡ true → Leads c (length d) r.depth (executed c r d).outcome
  unfolding executed
  executed-leads z w =
      let s = sound c r.counter z w in
      controlled-leads (kind_at c r.counter) (after c r.counter) (target_at c r.counter) _ (data-answers r d (instruction_at c r.counter) c) s.onward s.there

-- ---- a core stays inside its code and its data

-- an entry set to what has a property
set_all : (P : ℕ → Type 0) (l : List ℕ) (k v : ℕ) → P v → (i : ℕ) → P (get_or l i 0) → P (get_or (set l k v) i 0)
set_all P [] k v p i h = h
set_all P (x ∷ l) zero v p zero h = p
set_all P (x ∷ l) zero v p (suc i) h = h
set_all P (x ∷ l) (suc k) v p zero h = h
set_all P (x ∷ l) (suc k) v p (suc i) h = set_all P l k v p i h

-- an entry set to 0, where all others from there on are 0
set-zero : (l : List ℕ) (k i : ℕ) → ((i ≡ k → ⊥) → get_or l i 0 ≡ 0) → get_or (set l k 0) i 0 ≡ 0
set-zero [] k i h = refl
set-zero (x ∷ l) zero zero h = refl
set-zero (x ∷ l) zero (suc i) h = h (λ e. let y : ⊥ = omega arith in y)
set-zero (x ∷ l) (suc k) zero h = h (λ e. let y : ⊥ = omega arith in y)
set-zero (x ∷ l) (suc k) (suc i) h = set-zero l k i (λ n. h (λ e. n (omega arith)))

module _ (c : List ℕ) (size : ℕ) (k : Stack) where
  -- only program counter, data offset and depth matter
  pub placed_same : (r s : Registers) → Placed c size r k → s.counter ≡ r.counter → s.offset ≡ r.offset → s.depth ≡ r.depth → Placed c size s k
  placed_same r s p e f g = record {
    counter = rw e p.counter;
    offset = rw f p.offset;
    depth = rw g p.depth;
    places = p.places;
    offsets = p.offsets;
    freed = λ i h. p.freed i (omega arith);
    sixteen = p.sixteen;
  }

  -- place 0 starts an instruction, and the data are not empty
  zero-starts : (r : Registers) → Placed c size r k → is_start c 0 ≡ true
  zero-starts r p = start-zero c (omega (arith, inside-code c r.counter p.counter))

  advanced-placed : (r : Registers) (place : ℕ) → Placed c size r k → is_start c place ≡ true → Placed c size (advanced place r) k
  unfolding advanced
  advanced-placed r place p e = record {
    counter = e;
    offset = p.offset;
    depth = p.depth;
    places = p.places;
    offsets = p.offsets;
    freed = p.freed;
    sixteen = p.sixteen;
  }

  called-placed : (r : Registers) (next target_at offset : ℕ) → Placed c size r k → is_start c next ≡ true → is_start c target_at ≡ true → offset < size
      → r.depth < 16 → Placed c size (called_to target_at offset r) (pushed r.depth next r.offset k)
  unfolding called_to pushed
  called-placed r next target_at offset p e f g h = record {
    counter = f;
    offset = g;
    depth = omega arith;
    places = λ i. set_all (λ (v : ℕ). is_start c v ≡ true) k.places r.depth next e i (p.places i);
    offsets = λ i. set_all (λ (v : ℕ). v < size) k.offsets r.depth r.offset p.offset i (p.offsets i);
    freed = λ i l. (
      rw (get_or-set_other k.places r.depth i next 0 (λ z. let y : ⊥ = omega arith in y)) (p.freed i (omega arith)).0,
      rw (get_or-set_other k.offsets r.depth i r.offset 0 (λ z. let y : ⊥ = omega arith in y)) (p.freed i (omega arith)).1,
    );
    sixteen = (length-set k.places r.depth next ∙ p.sixteen.0, length-set k.offsets r.depth r.offset ∙ p.sixteen.1);
  }

  returned-placed : (r : Registers) (n : ℕ) → Placed c size r k → r.depth ≡ suc n
      → Placed c size (returned (get_or k.places n 0) (get_or k.offsets n 0) r) (popped n k)
  unfolding returned popped
  returned-placed r n p e = record {
    counter = p.places n;
    offset = p.offsets n;
    depth = omega (arith, p.depth);
    places = λ i. set_all (λ (v : ℕ). is_start c v ≡ true) k.places n 0 (zero-starts r p) i (p.places i);
    offsets = λ i. set_all (λ (v : ℕ). v < size) k.offsets n 0 (omega (arith, p.offset)) i (p.offsets i);
    freed = λ i l. (
      set-zero k.places n i (λ z. (p.freed i (omega arith)).0),
      set-zero k.offsets n i (λ z. (p.freed i (omega arith)).1),
    );
    sixteen = (length-set k.places n 0 ∙ p.sixteen.0, length-set k.offsets n 0 ∙ p.sixteen.1);
  }

-- a core with its data
abbrev pub PlacedCore : List ℕ → Core → Type 0
PlacedCore c x = Placed c (length x.memory) x.registers x.stack

back-placed : (c : List ℕ) (x : Core) (m : List ℕ) (n : ℕ) → PlacedCore c x → length m ≡ length x.memory → x.registers.depth ≡ n
    → PlacedCore c (back_from n m x)
unfolding cycle_ended
back-placed c x m zero p e h = rw e (placed_same c _ _ x.registers (cycle_ended x.registers) p refl refl refl)
back-placed c x m (suc n) p e h = rw e (returned-placed c _ x.stack x.registers n p h)

applied-placed : (c : List ℕ) (x : Core) (o : Outcome) (m : List ℕ) → PlacedCore c x → length m ≡ length x.memory
    → Leads c (length x.memory) x.registers.depth o → PlacedCore c (applied_by o m x)
unfolding faulted
applied-placed c x (Fault b) m p e l = placed_same c _ _ x.registers (faulted b x.registers) p refl refl refl
applied-placed c x (Next place) m p e l = rw e (advanced-placed c _ x.stack x.registers place p l)
applied-placed c x (Call next target_at offset) m p e l =
    rw e (called-placed c _ x.stack x.registers next target_at offset p l.0 l.1 l.2 l.3)
applied-placed c x Returned m p e l = back-placed c x m x.registers.depth p e refl

back-size : (n : ℕ) (m : List ℕ) (x : Core) → length m ≡ length x.memory → length (back_from n m x).memory ≡ length x.memory
back-size zero m x e = e
back-size (suc n) m x e = e

applied-size : (o : Outcome) (m : List ℕ) (x : Core) → length m ≡ length x.memory → length (applied_by o m x).memory ≡ length x.memory
applied-size (Fault b) m x e = refl
applied-size (Next place) m x e = e
applied-size (Call next target_at offset) m x e = e
applied-size Returned m x e = back-size x.registers.depth m x e

-- what an instruction answers under the limit
record Answered (c : List ℕ) (x : Core) (y : Executed) : Type 0 where
  long : length y.memory ≡ length x.memory
  leads : Leads c (length x.memory) x.registers.depth y.outcome

-- the core after it: placed again, with data of the same size
pub record PlacedAgain (c : List ℕ) (x y : Core) : Type 0 where
  pub placed : PlacedCore c y
  pub size : length y.memory ≡ length x.memory

answered-placed : (c : List ℕ) (x : Core) (y : Executed) → PlacedCore c x → Answered c x y → PlacedAgain c x (applied y x)
unfolding applied
answered-placed c x y p a = record {
  placed = applied-placed c x y.outcome y.memory p a.long a.leads;
  size = applied-size y.outcome y.memory x a.long;
}

pub placed-kept : (c : List ℕ) (limit : ℕ) (x : Core) → judge_code c ≡ 0 → PlacedCore c x
    → PlacedAgain c x (applied (limited limit (executed c x.registers x.memory) x) x)
unfolding limited
placed-kept c limit x z p =
    answered-placed c x _ p
    (by-pick (Answered c x) _ _ _ (λ e. record { long = refl; leads = omega arith })
    (λ e. record {
      long = executed-length c x.registers x.memory;
      leads = executed-leads c x.registers x.memory p.offset p.depth z p.counter;
    }))

-- ---- the fresh core

zeros : (n i : ℕ) → ◌≡◌ {A = ℕ} (get_or (replicate n 0) i 0) 0
zeros zero i = refl
zeros (suc n) zero = refl
zeros (suc n) (suc i) = zeros n i

pub fresh-placed : (c : List ℕ) (size : ℕ) → 0 < length c → 0 < size
    → Placed c size (cleared 0 4) (record { places = replicate 16 0; offsets = replicate 16 0 })
fresh-placed c size h l = record {
  counter = start-zero c h;
  offset = l;
  depth = omega arith;
  places = λ i. rw (zeros 16 i) (start-zero c h);
  offsets = λ i. rw (zeros 16 i) l;
  freed = λ i m. (zeros 16 i, zeros 16 i);
  sixteen = (refl, refl);
}
