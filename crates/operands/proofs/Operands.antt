-- The bytes of specs/Operands are those of the instructions: each changes no others and depends on no others. In order: the data part on two cores' data
-- that agree on what it reads; control; a core after its instruction; MCD; the instructions of a task. Assumes nothing.
use mathlib.Core.Path.{◌≡◌, refl, sym, ap, ◌∙◌, subst}
use mathlib.Core.Logic.{inl}
use mathlib.Core.Bool.{Bool, true, false, not}
use mathlib.Core.List.{List, [], ◌++◌}
use Prim.Native.Nat.{ℕ, zero, suc, ◌+◌, ◌*◌, ◌≤◌}
use native.Mathlib.Omega.{arith}
use lib.Dec.{leb, eqb}
use lib.ListN.{length, get_or}
use Rattle.verdict.specs.Verdict.{pick}
use Rattle.verdict.proofs.Verdict.{absurd-bool}
use Rattle.memory.specs.Memory.{byte, splice, part, bytes_le}
use Rattle.memory.proofs.Laws.{length_part}
use Rattle.memory.proofs.Number.{length-bytes_le}
use Rattle.values.specs.Types.{width_of}
use Rattle.values.specs.Commands.{beyond, any_beyond, typed_beyond, result_width, second_width, zero_divisor, command, performed}
use Rattle.commands.proofs.Attempts.{either-false, in-data}
use Rattle.std.specs.Prelude.{Err}
use Rattle.verdict.specs.declared.Fault.TheVariants.{Address}
use Rattle.conversions.specs.Conversions.{Result, stores, not-held, converted}
use Rattle.conversions.specs.Data.{ended, settled, tried, converting}
use Rattle.packed.specs.Packed.{packed, unpacked}
use Rattle.packed.specs.Data.{packing, unpacking}
use Rattle.protocol.specs.declared.Registers.{Registers}
use Rattle.protocol.specs.declared.Outcome.{Outcome}
use Rattle.protocol.specs.declared.Outcome.TheVariants.{Fault, Next, Call, Return as Returned}
use Rattle.protocol.specs.State.{Core, Task}
use Rattle.protocol.specs.Instruction.{Executed, back_from, applied_by, applied, halted, limited, instruction_by}
use Rattle.protocol.specs.Variables.{In}
use Rattle.protocol.proofs.Bytes.{in_left, in_right}
use Rattle.races.specs.Footprint.{control_of, stretch, DataFootprint, DataFootprintsRight}
use Rattle.races.proofs.Places.{with_data, by-control}
use Rattle.races.proofs.Stretch.{splice-outside, splice-inside, read_alike, part-alike}
use Rattle.code.specs.declared.Instruction.{Instruction}
use Rattle.code.specs.declared.Instruction.TheVariants.{Return, Jump, JumpZero, JumpNotZero, CallInstance, CallFunction, MoveConstant, CopyMemory, ReadElement, WriteElement, Typed, CycleTime, FlagByte, Convert, Pack, Unpack, Unknown}
use Rattle.code.specs.Flow.{kind_at, target_at, after}
use Rattle.code.specs.Commands.{row_of, length_of, Kind, Returns, Jumps, Branches, Calls, Passes}
use Rattle.code.specs.Code.{judge_code, is_start}
use Rattle.code.specs.Instructions.{instruction_at, instruction_length}
use Rattle.code.proofs.Laws.{is, kind-passes}
use Rattle.code.proofs.Sound.{sound}
use Rattle.processor.specs.Processor.{Decided, refused, decided, fault_if, changed, at, index_of, element_at, of_element, of_conversion, data_part, answer, controlled, executed}
use Rattle.operands.specs.Operands.{touching, operands_of, unless_fault, data_footprint, data_footprints}

-- ---- the data part

-- What an instruction decides of the data d and of d': the same fault, or the same way on and the same bytes ys, written from place p on; these are the bytes ws
data Decides (d d' ws : List ℕ) : Decided → Decided → Type 0 where
  faults : (b : ℕ) → Decides d d' ws (refused b) (refused b)
  stores_there : (made : Bool) (offset p : ℕ) (ys : List ℕ) → stretch p (length ys) ≡ ws → Decides d d' ws (decided made offset (splice d p ys)) (decided made offset (splice d' p ys))

module _ (c : List ℕ) (r : Registers) (d d' : List ℕ) (size : length d ≡ length d') where
  abbrev Agrees : List ℕ → Type 0
  Agrees is = (i : ℕ) → In i is → get_or d i 0 ≡ get_or d' i 0

  first_part : (is js : List ℕ) → Agrees (is ++ js) → Agrees is
  first_part is js a i h = a i (in_left i is js h)

  second-part : (is js : List ℕ) → Agrees (is ++ js) → Agrees js
  second-part is js a i h = a i (in_right i is js h)

  -- nothing is written
  stays : (made made' : Bool) (offset : ℕ) → made ≡ made' → Decides d d' [] (decided made offset d) (decided made' offset d')
  unfolding splice
  stays made made' offset e = subst (λ (b : Bool). Decides d d' [] (decided made offset d) (decided b offset d')) e (stores_there made offset 0 [] refl)

  -- ys are written
  writes-there : (p p' n : ℕ) (ys ys' : List ℕ) → p ≡ p' → ys ≡ ys' → length ys ≡ n → Decides d d' (stretch p n) (changed r (splice d p ys)) (changed r (splice d' p' ys'))
  writes-there p p' n ys ys' e f l =
      subst (λ (q : ℕ). Decides d d' (stretch p n) (changed r (splice d p ys)) (changed r (splice d' q ys'))) e
      (subst (λ (zs : List ℕ). Decides d d' (stretch p n) (changed r (splice d p ys)) (changed r (splice d' p zs))) f
      (stores_there false r.offset p ys (ap (stretch p) l)))

  -- the same test, which finds a fault or not
  tested : {ws : List ℕ} (test test' : Bool) (b : ℕ) (x x' : Decided) → test ≡ test' → (test ≡ false → Decides d d' ws x x') → Decides d d' ws (fault_if test b x) (fault_if test' b x')
  unfolding pick
  tested true true b x x' e f = faults b
  tested false false b x x' e f = f refl
  tested true false b x x' e f = absurd-bool (sym e)
  tested false true b x x' e f = absurd-bool e

  -- a test of addresses
  beyond-tested : {ws : List ℕ} (f : ℕ → Bool) (x x' : Decided) → (f (length d) ≡ false → Decides d d' ws x x') → Decides d d' ws (fault_if (f (length d)) 4 x) (fault_if (f (length d')) 4 x')
  beyond-tested f x x' g = tested (f (length d)) (f (length d')) 4 x x' (ap f size) g

  index-alike : (i : ℕ) → Agrees (stretch (at r i) 2) → index_of r d i ≡ index_of r d' i
  index-alike i a = read_alike d d' (at r i) 2 a

  element-alike : (array i width : ℕ) → Agrees (stretch (at r i) 2) → element_at r d array i width ≡ element_at r d' array i width
  element-alike array i width a = ap (λ (n : ℕ). at r array + n * width) (index-alike i a)

  -- AURD, AUWD: variable and index, the index, the element
  element-decides : {ws : List ℕ} (v array i width count : ℕ) (x x' : Decided) → Agrees (stretch (at r i) 2)
      → (any_beyond (length d) (at r v) width (at r i) 2 ≡ false → beyond (length d) (element_at r d array i width) width ≡ false → Decides d d' ws x x')
      → Decides d d' ws (of_element r d v array i width count x) (of_element r d' v array i width count x')
  unfolding of_element
  element-decides v array i width count x x' a f =
      beyond-tested (λ (n : ℕ). any_beyond n (at r v) width (at r i) 2) _ _
      (λ e. tested _ _ 0 _ _ (ap (leb count) (index-alike i a))
      (λ g. tested _ _ 4 _ _ (λ k. beyond (size k) (element-alike array i width a k) width) (λ h. f e h)))

  -- a conversion of the result y
  conversion-decides : (t u to source : ℕ) (y : Result) → Decides d d' (stretch to (width_of t)) (of_conversion r (tried t u d to source y)) (of_conversion r (tried t u d' to source y))
  unfolding tried pick
  conversion-decides t u to source y = go (any_beyond (length d) to (width_of t) source (width_of u)) _ (ap (λ (n : ℕ). any_beyond n to (width_of t) source (width_of u)) size) y
    where
      settles : (y : Result) → Decides d d' (stretch to (width_of t)) (of_conversion r (settled t d to y)) (of_conversion r (settled t d' to y))
      settles (stores p) = writes-there to to (width_of t) (bytes_le (width_of t) p) _ refl refl (length-bytes_le (width_of t) p)
      settles not-held = faults 6

      go : (b b' : Bool) → b ≡ b' → (y : Result)
          → Decides d d' (stretch to (width_of t)) (of_conversion r (pick b (ended (Err Address) d) (settled t d to y))) (of_conversion r (pick b' (ended (Err Address) d') (settled t d' to y)))
      go true true e y = faults 4
      go false false e y = settles y
      go true false e y = absurd-bool (sym e)
      go false true e y = absurd-bool e

  -- by the result on d'
  converts : (t u to source : ℕ) (y y' : Result) → y ≡ y' → Decides d d' (stretch to (width_of t)) (of_conversion r (tried t u d to source y)) (of_conversion r (tried t u d' to source y'))
  converts t u to source y y' e =
      subst (λ (z : Result). Decides d d' (stretch to (width_of t)) (of_conversion r (tried t u d to source y)) (of_conversion r (tried t u d' to source z))) e
      (conversion-decides t u to source y)

  decides : (i : Instruction) → Agrees (operands_of i c r d).reads → Decides d d' (operands_of i c r d).writes (data_part i c r d) (data_part i c r d')
  unfolding operands_of data_part performed converting packing unpacking
  decides Return a = stays false false r.offset refl
  decides (Jump t) a = stays false false r.offset refl
  decides (JumpZero b t) a =
      beyond-tested (λ (n : ℕ). beyond n (at r b) 1) _ _ (λ e. stays _ _ r.offset (ap (λ (x : ℕ). eqb x 0) (a (at r b) (inl refl))))
  decides (JumpNotZero b t) a =
      beyond-tested (λ (n : ℕ). beyond n (at r b) 1) _ _ (λ e. stays _ _ r.offset (ap (λ (x : ℕ). not (eqb x 0)) (a (at r b) (inl refl))))
  decides (CallInstance i t) a = beyond-tested (λ (n : ℕ). leb n (at r i)) _ _ (λ e. stays false false (at r i) refl)
  decides (CallFunction t) a = stays false false r.offset refl
  decides (MoveConstant to n) a = beyond-tested (λ (m : ℕ). beyond m (at r to) n) _ _ (λ e. writes-there (at r to) (at r to) _ _ _ refl refl refl)
  decides (CopyMemory to from n) a =
      beyond-tested (λ (m : ℕ). any_beyond m (at r to) n (at r from) n) _ _
      (λ e. writes-there (at r to) (at r to) n _ _ refl (part-alike d d' (at r from) n size a)
      (length_part d (at r from) n (in-data (length d) (at r from) n (either-false (beyond (length d) (at r to) n) (beyond (length d) (at r from) n) e).1)))
  decides (ReadElement v array i width count) a =
      let index = first_part (stretch (at r i) 2) (stretch (element_at r d array i width) width) a in
      let element = second-part (stretch (at r i) 2) (stretch (element_at r d array i width) width) a in
      element-decides v array i width count _ _ index
      (λ e h. writes-there (at r v) (at r v) width _ _ refl
      (part-alike d d' (element_at r d array i width) width size element ∙ ap (λ (p : ℕ). part d' p width) (element-alike array i width index))
      (length_part d (element_at r d array i width) width (in-data (length d) (element_at r d array i width) width h)))
  decides (WriteElement v array i width count) a =
      let index = first_part (stretch (at r i) 2) (stretch (at r v) width) a in
      let variable = second-part (stretch (at r i) 2) (stretch (at r v) width) a in
      element-decides v array i width count _ _ index
      (λ e h. writes-there (element_at r d array i width) (element_at r d' array i width) width _ _ (element-alike array i width index)
      (part-alike d d' (at r v) width size variable)
      (length_part d (at r v) width (in-data (length d) (at r v) width (either-false (beyond (length d) (at r v) width) (beyond (length d) (at r i) 2) e).0)))
  decides (Typed code t to x y) a =
      let first = read_alike d d' (at r x) (width_of t) (first_part (stretch (at r x) (width_of t)) (stretch (at r y) (second_width code t)) a) in
      let second = read_alike d d' (at r y) (second_width code t) (second-part (stretch (at r x) (width_of t)) (stretch (at r y) (second_width code t)) a) in
      beyond-tested (λ (n : ℕ). typed_beyond code t n (at r to) (at r x) (at r y)) _ _
      (λ e. tested _ _ 3 _ _ (ap (zero_divisor code t) second)
      (λ f. writes-there (at r to) (at r to) (result_width code t) _ _ refl (λ k. bytes_le (result_width code t) (command code t (first k) (second k))) (length-bytes_le (result_width code t) _)))
  decides (CycleTime to) a = beyond-tested (λ (n : ℕ). beyond n (at r to) 4) _ _ (λ e. writes-there (at r to) (at r to) 4 _ _ refl refl (length-bytes_le 4 r.time))
  decides (FlagByte to) a = beyond-tested (λ (n : ℕ). beyond n (at r to) 1) _ _ (λ e. writes-there (at r to) (at r to) 1 _ _ refl refl (length-bytes_le 1 r.flags))
  decides (Convert from to destination source) a =
      converts to from (at r destination) (at r source) _ _ (ap (converted from to) (read_alike d d' (at r source) (width_of from) a))
  decides (Pack type destination source) a = converts type type (at r destination) (at r source) _ _ (ap (packed type) (read_alike d d' (at r source) (width_of type) a))
  decides (Unpack type destination source) a = converts type type (at r destination) (at r source) _ _ (ap (unpacked type) (read_alike d d' (at r source) (width_of type) a))
  decides Unknown a = stays false false r.offset refl

  -- and the bytes are the same
  operands_same : (i : Instruction) → Agrees (operands_of i c r d).reads → operands_of i c r d ≡ operands_of i c r d'
  unfolding operands_of
  operands_same Return a = refl
  operands_same (Jump t) a = refl
  operands_same (JumpZero b t) a = refl
  operands_same (JumpNotZero b t) a = refl
  operands_same (CallInstance i t) a = refl
  operands_same (CallFunction t) a = refl
  operands_same (MoveConstant to n) a = refl
  operands_same (CopyMemory to from n) a = refl
  operands_same (ReadElement v array i width count) a =
      ap (λ (p : ℕ). touching (stretch (at r i) 2 ++ stretch p width) (stretch (at r v) width))
      (element-alike array i width (first_part (stretch (at r i) 2) (stretch (element_at r d array i width) width) a))
  operands_same (WriteElement v array i width count) a =
      ap (λ (p : ℕ). touching (stretch (at r i) 2 ++ stretch (at r v) width) (stretch p width))
      (element-alike array i width (first_part (stretch (at r i) 2) (stretch (at r v) width) a))
  operands_same (Typed code t to x y) a = refl
  operands_same (CycleTime to) a = refl
  operands_same (FlagByte to) a = refl
  operands_same (Convert from to destination source) a = refl
  operands_same (Pack type destination source) a = refl
  operands_same (Unpack type destination source) a = refl
  operands_same Unknown a = refl

-- ---- control

-- What an instruction answers on the data d and on d': the same fault, or the same outcome with the same bytes written, which are the bytes ws
data Answers (d d' ws : List ℕ) : Executed → Executed → Type 0 where
  halts : (b : ℕ) → Answers d d' ws (halted b d) (halted b d')
  answers : (o : Outcome) (p : ℕ) (ys : List ℕ) → stretch p (length ys) ≡ ws → Answers d d' ws (answer o (splice d p ys)) (answer o (splice d' p ys))

-- RETURN, jumps and calls write no data
abbrev WritesNone : Kind → List ℕ → Type 0
WritesNone Returns ws = ws ≡ []
WritesNone Jumps ws = ws ≡ []
WritesNone Branches ws = ws ≡ []
WritesNone Calls ws = ws ≡ []
WritesNone Passes ws = Unit {0}

writes-none : (c : List ℕ) (p : ℕ) (r : Registers) (d : List ℕ) → WritesNone (kind_at c p) (operands_of (instruction_at c p) c r d).writes
unfolding operands_of instruction_at row_of pick kind_at target_at
writes-none c p r d =
    is _ (byte c p) 0 (λ e. rw e refl)
    (λ n0. is _ (byte c p) 1 (λ e. rw e refl)
    (λ n1. is _ (byte c p) 2 (λ e. rw e refl)
    (λ n2. is _ (byte c p) 3 (λ e. rw e refl)
    (λ n3. is _ (byte c p) 4 (λ e. rw e refl)
    (λ n4. is _ (byte c p) 5 (λ e. rw e refl)
    (λ n5. rw (kind-passes c p (omega arith)) tt))))))

module _ (d d' ws : List ℕ) where
  answers-same : (o : Outcome) → ws ≡ [] → Answers d d' ws (answer o d) (answer o d')
  unfolding splice
  answers-same o e = answers o 0 [] (sym e)

  picks : (b : Bool) (x x' y y' : Executed) → Answers d d' ws x x' → Answers d d' ws y y' → Answers d d' ws (pick b x y) (pick b x' y')
  unfolding pick
  picks true x x' y y' a b = a
  picks false x x' y y' a b = b

  controls : (k : Kind) (next target depth : ℕ) (x x' : Decided) → WritesNone k ws → Decides d d' ws x x' → Answers d d' ws (controlled k next target depth d x) (controlled k next target depth d' x')
  controls Returns next target depth x x' w h = answers-same Returned w
  controls Jumps next target depth x x' w h = answers-same (Next target) w
  controls Branches next target depth x x' w (faults b) = halts b
  controls Branches next target depth x x' w (stores_there made offset p ys e) = answers-same _ w
  controls Calls next target depth x x' w (faults b) = picks (eqb depth 16) _ _ _ _ (halts 5) (halts b)
  controls Calls next target depth x x' w (stores_there made offset p ys e) = picks (eqb depth 16) _ _ _ _ (halts 5) (answers-same (Call next target offset) w)
  controls Passes next target depth x x' w (faults b) = halts b
  controls Passes next target depth x x' w (stores_there made offset p ys e) = answers (Next next) p ys e

-- ---- a core after its instruction

back-memory : (n : ℕ) (m : List ℕ) (x : Core) → (back_from n m x).memory ≡ m
back-memory zero m x = refl
back-memory (suc n) m x = refl

-- cores with the same registers and call stack, x and that with the data d'
module _ (x : Core) (d' : List ℕ) (size : length x.memory ≡ length d') where
  abbrev other : Core
  other = with_data (control_of x) d'

  outcome-same : {ws : List ℕ} {y y' : Executed} → Answers x.memory d' ws y y' → y.outcome ≡ y'.outcome
  outcome-same (halts b) = refl
  outcome-same (answers o p ys e) = refl

  back-control : (n : ℕ) (m m' : List ℕ) → control_of (back_from n m x) ≡ control_of (back_from n m' other)
  back-control zero m m' = refl
  back-control (suc n) m m' = refl

  outcome-control : (o : Outcome) (m m' : List ℕ) → control_of (applied_by o m x) ≡ control_of (applied_by o m' other)
  outcome-control (Fault b) m m' = refl
  outcome-control (Next p) m m' = refl
  outcome-control (Call next target offset) m m' = refl
  outcome-control Returned m m' = back-control x.registers.depth m m'

  control-same : {ws : List ℕ} {y y' : Executed} → Answers x.memory d' ws y y' → control_of (applied y x) ≡ control_of (applied y' other)
  unfolding applied
  control-same (halts b) = refl
  control-same (answers o p ys e) = outcome-control o (splice x.memory p ys) (splice d' p ys)

  outcome-written : (o : Outcome) (reads : List ℕ) (p : ℕ) (ys : List ℕ) (i : ℕ) → In i (unless_fault o (touching reads (stretch p (length ys)))).writes
      → get_or (applied_by o (splice x.memory p ys) x).memory i 0 ≡ get_or (applied_by o (splice d' p ys) other).memory i 0
  outcome-written (Fault b) reads p ys i h = absurd h
  outcome-written (Next q) reads p ys i h = splice-inside x.memory d' p ys i size h
  outcome-written (Call next target offset) reads p ys i h = splice-inside x.memory d' p ys i size h
  outcome-written Returned reads p ys i h =
      ap (λ (m : List ℕ). get_or m i 0) (back-memory x.registers.depth (splice x.memory p ys) x)
      ∙ splice-inside x.memory d' p ys i size h
      ∙ sym (ap (λ (m : List ℕ). get_or m i 0) (back-memory x.registers.depth (splice d' p ys) other))

  written_same : {ws : List ℕ} {y y' : Executed} (reads : List ℕ) → Answers x.memory d' ws y y' → (i : ℕ) → In i (unless_fault y.outcome (touching reads ws)).writes
      → get_or (applied y x).memory i 0 ≡ get_or (applied y' other).memory i 0
  unfolding applied
  written_same reads (halts b) i h = absurd h
  written_same reads (answers o p ys e) i h = outcome-written o reads p ys i (rw (← e) at h)

-- bytes that it does not write stay
module _ (x : Core) where
  outcome-kept : (o : Outcome) (reads : List ℕ) (p : ℕ) (ys : List ℕ) (i : ℕ) → (In i (unless_fault o (touching reads (stretch p (length ys)))).writes → ⊥)
      → get_or x.memory i 0 ≡ get_or (applied_by o (splice x.memory p ys) x).memory i 0
  outcome-kept (Fault b) reads p ys i n = refl
  outcome-kept (Next q) reads p ys i n = splice-outside x.memory p ys i n
  outcome-kept (Call next target offset) reads p ys i n = splice-outside x.memory p ys i n
  outcome-kept Returned reads p ys i n =
      splice-outside x.memory p ys i n ∙ sym (ap (λ (m : List ℕ). get_or m i 0) (back-memory x.registers.depth (splice x.memory p ys) x))

  kept : {ws : List ℕ} {y y' : Executed} (reads : List ℕ) → Answers x.memory x.memory ws y y' → (i : ℕ) → (In i (unless_fault y.outcome (touching reads ws)).writes → ⊥)
      → get_or x.memory i 0 ≡ get_or (applied y x).memory i 0
  unfolding applied
  kept reads (halts b) i n = refl
  kept reads (answers o p ys e) i n = outcome-kept o reads p ys i (rw (← e) at n)

-- ---- the instruction at the program counter of core x, which has the code c

module _ (limit : ℕ) (c : List ℕ) (x : Core) where
  abbrev its : DataFootprint
  its = operands_of (instruction_at c x.registers.counter) c x.registers x.memory

  module _ (d' : List ℕ) (size : length x.memory ≡ length d') (a : (i : ℕ) → In i its.reads → get_or x.memory i 0 ≡ get_or d' i 0) where
    executes : Answers x.memory d' its.writes (limited limit (executed c x.registers x.memory) x) (limited limit (executed c x.registers d') (other x d' size))
    unfolding limited executed
    executes =
        let i = instruction_at c x.registers.counter in
        picks x.memory d' its.writes (eqb x.registers.count limit) _ _ _ _ (halts 1)
        (controls x.memory d' its.writes (kind_at c x.registers.counter) (after c x.registers.counter) (target_at c x.registers.counter) x.registers.depth _ _
        (writes-none c x.registers.counter x.registers x.memory) (decides c x.registers x.memory d' size i a))

-- core x after it
afterwards : ℕ → List ℕ → Core → Core
afterwards limit c x = applied (limited limit (executed c x.registers x.memory) x) x

fault-reads : (o : Outcome) (f : DataFootprint) → (unless_fault o f).reads ≡ f.reads
fault-reads (Fault b) f = refl
fault-reads (Next p) f = refl
fault-reads (Call next target offset) f = refl
fault-reads Returned f = refl

module _ (limit : ℕ) (c : List ℕ) (x : Core) where
  kept-bytes : (i : ℕ) → (In i (data_footprint limit c x).writes → ⊥) → get_or x.memory i 0 ≡ get_or (afterwards limit c x).memory i 0
  unfolding data_footprint afterwards
  kept-bytes i n = kept x (its limit c x).reads (executes limit c x x.memory refl (λ j h. refl)) i n

  module _ (x' : Core) (e : control_of x ≡ control_of x') (size : length x.memory ≡ length x'.memory)
      (a : (i : ℕ) → In i (data_footprint limit c x).reads → get_or x.memory i 0 ≡ get_or x'.memory i 0) where
    agrees : (i : ℕ) → In i (its limit c x).reads → get_or x.memory i 0 ≡ get_or x'.memory i 0
    unfolding data_footprint
    agrees i h = a i (rw (fault-reads (limited limit (executed c x.registers x.memory) x).outcome (its limit c x)) h)

    same_bytes : data_footprint limit c x ≡ data_footprint limit c x'
    unfolding data_footprint
    same_bytes =
        by-control (λ (z : Core). data_footprint limit c x ≡ data_footprint limit c z) x x' e
        (λ k. unless_fault (outcome-same x x'.memory size (executes limit c x x'.memory size agrees) k)
        (operands_same c x.registers x.memory x'.memory size (instruction_at c x.registers.counter) agrees k))

    same-control : control_of (afterwards limit c x) ≡ control_of (afterwards limit c x')
    unfolding afterwards
    same-control =
        by-control (λ (z : Core). control_of (afterwards limit c x) ≡ control_of (afterwards limit c z)) x x' e
        (control-same x x'.memory size (executes limit c x x'.memory size agrees))

    same-written : (i : ℕ) → In i (data_footprint limit c x).writes → get_or (afterwards limit c x).memory i 0 ≡ get_or (afterwards limit c x').memory i 0
    unfolding data_footprint afterwards
    same-written i h =
        by-control (λ (z : Core). get_or (afterwards limit c x).memory i 0 ≡ get_or (afterwards limit c z).memory i 0) x x' e
        (written_same x x'.memory size (its limit c x).reads (executes limit c x x'.memory size agrees) i h)

-- ---- MCD: accepted code has all of its n bytes

pub constant-whole : (c : List ℕ) (p : ℕ) → judge_code c ≡ 0 → is_start c p ≡ true → byte c p ≡ 6 → length (part c (p + 4) (byte c (p + 3))) ≡ byte c (p + 3)
unfolding instruction_length length_of row_of pick kind_at target_at
constant-whole c p j w e =
    let l : p + (4 + byte c (p + 3)) ≤ length c = rw e at (sound c p j w).here.inside in
    length_part c (p + 4) (byte c (p + 3)) (omega arith)

-- ---- the instructions of a task, which are those of its cores' code

module _ (t : Task) (code : ℕ → List ℕ) (e : t.instruction ≡ instruction_by t.limit (λ (k : ℕ) (x : Core). executed (code k) x.registers x.memory)) where
  instruction-is : (k : ℕ) (x : Core) → t.instruction k x ≡ afterwards (t.limit k) (code k) x
  unfolding afterwards instruction_by
  instruction-is k x = ap (λ (f : ℕ → Core → Core). f k x) e

  -- Each changes no other bytes of its core's data than specs/Operands says, and depends on no others
  pub data-footprints-right : DataFootprintsRight t (data_footprints t.limit code)
  data-footprints-right = record {
    changes = λ k x i n. rw (instruction-is k x) (kept-bytes (t.limit k) (code k) x i n);
    bytes = λ k x x' a. same_bytes (t.limit k) (code k) x x' a.same-control a.size a.read;
    control-after = λ k x x' a. rw (instruction-is k x, instruction-is k x') (same-control (t.limit k) (code k) x x' a.same-control a.size a.read);
    written = λ k x x' a i h. rw (instruction-is k x, instruction-is k x') (same-written (t.limit k) (code k) x x' a.same-control a.size a.read i h);
  }
