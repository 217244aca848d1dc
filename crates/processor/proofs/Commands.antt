-- What `executed` is at each code byte, and each way through a command over what the calls of its function give: a function's returns cite
-- these, most of them by a search in the sets at the end. Assumes nothing.
use mathlib.Core.Path.{◌≡◌, refl, sym, ap, ◌∙◌}
use mathlib.Core.Bool.{Bool, true, false, not, beq}
use mathlib.Core.Logic.{◌⊎◌, inl, inr}
use mathlib.Core.List.{List}
use mathlib.Core.Option.{Option, none, some}
use Prim.Native.Nat.{ℕ, ◌+◌, ◌*◌, ◌≤◌, ◌<◌}
use native.Mathlib.Omega.{arith}
use borrow.Author.Tests.{eq-eqb, ne_eqb, le-leb, lt-leb}
use lib.Dec.{leb, eqb}
use lib.ListN.{length}
use Rattle.verdict.specs.Verdict.{pick}
use Rattle.memory.specs.Memory.{byte, word, splice, part, bytes_le, read_le}
use Rattle.protocol.specs.declared.Registers.{Registers}
use Rattle.protocol.specs.declared.Outcome.{Outcome}
use Rattle.protocol.specs.declared.Outcome.TheVariants.{Fault, Next, Call, Return as Returned}
use Rattle.protocol.specs.Instruction.{Executed, halted}
use Rattle.code.specs.declared.Instruction.TheVariants.{Typed}
use Rattle.code.specs.Flow.{kind_at, target_at}
use Rattle.code.specs.Commands.{row_of, length_of}
use Rattle.code.specs.Instructions.{typed_at, instruction_at, instruction_length}
use Rattle.values.specs.Types.{width_of}
use Rattle.values.specs.Commands.{beyond, any_beyond}
use Rattle.commands.specs.declared.Operands.{Operands}
use Rattle.commands.specs.Attempts.{Attempt, ending, attempted}
use Rattle.std.specs.Prelude.{Result as Answer, Err}
use Rattle.verdict.specs.declared.Fault.{Fault as CoreFault}
use Rattle.verdict.specs.declared.Fault.TheVariants.{Address}
use Rattle.conversions.specs.Conversions.{Result, stores, not-held, converted as converted_to}
use Rattle.conversions.specs.Data.{Ended, ended, settled, tried, converting}
use Rattle.packed.specs.Packed.{packed, unpacked}
use Rattle.packed.specs.Data.{packing, unpacking}
use Rattle.processor.specs.Executable.{Reports}
use Rattle.processor.specs.Processor.{place_of, answer, branched, call_made, passed, decided, fault_if, changed, element_at, of_element, of_conversion, data_part, executed}
use Rattle.processor.specs.Typed.{operands_at, outcome_by, conversion_outcome}
use Rattle.processor.proofs.Accepted.{TypedAt, three-here, three-given, next_fits}

is_true : (b : Bool) → beq b true ≡ b
is_true true = refl
is_true false = refl

is_false : (b : Bool) → beq b false ≡ not b
is_false true = refl
is_false false = refl

-- ---- one code byte

module _ (c : List ℕ) (r : Registers) (d : List ℕ) where
  -- the byte, the number and the operand k places after the program counter
  abbrev byte_at : ℕ → ℕ
  byte_at k = byte c (r.counter + k)

  abbrev word_at : ℕ → ℕ
  word_at k = word c (r.counter + k)

  abbrev operand_at : ℕ → ℕ
  operand_at k = place_of r.offset (word_at k)

  pub return-at : byte c r.counter ≡ 0 → executed c r d ≡ answer Returned d
  unfolding executed instruction_at pick row_of kind_at target_at
  return-at e = rw e

  pub jump-at : byte c r.counter ≡ 1 → executed c r d ≡ answer (Next (word_at 1)) d
  unfolding executed instruction_at pick row_of kind_at target_at
  jump-at e = rw e

  -- JZ and JNZ: the jump is made where the byte is zero as the code byte asks
  branch-at : (op : ℕ) → (op ≡ 2) ⊎ (op ≡ 3) → byte c r.counter ≡ op
      → executed c r d
      ≡ branched (r.counter + 5) (word_at 3) d
      (fault_if (beyond (length d) (operand_at 1) 1) 4
      (decided (beq (eqb (byte d (operand_at 1)) 0) (eqb op 2)) r.offset d))
  unfolding executed data_part instruction_at instruction_length length_of row_of pick kind_at target_at
  branch-at op (inl z) e = rw (e, z, is_true)
  branch-at op (inr z) e = rw (e, z, is_false)

  call-instance-at : byte c r.counter ≡ 4
      → executed c r d
      ≡ pick (eqb r.depth 16) (halted 5 d)
      (call_made (r.counter + 5) (word_at 3) d
      (fault_if (leb (length d) (operand_at 1)) 4 (decided false (operand_at 1) d)))
  unfolding executed data_part instruction_at instruction_length length_of row_of pick kind_at target_at
  call-instance-at e = rw e

  call-function-at : byte c r.counter ≡ 5
      → executed c r d ≡ pick (eqb r.depth 16) (halted 5 d) (answer (Call (r.counter + 3) (word_at 1) r.offset) d)
  unfolding executed data_part instruction_at instruction_length length_of row_of pick kind_at target_at
  call-function-at e = rw e

  move-constant-at : byte c r.counter ≡ 6
      → executed c r d
      ≡ passed (r.counter + (4 + byte_at 3)) d
      (fault_if (beyond (length d) (operand_at 1) (byte_at 3)) 4
      (changed r (splice d (operand_at 1) (part c (r.counter + 4) (byte_at 3)))))
  unfolding executed data_part instruction_at instruction_length length_of row_of pick kind_at target_at
  move-constant-at e = rw e

  copy-memory-at : byte c r.counter ≡ 7
      → executed c r d
      ≡ passed (r.counter + 7) d
      (fault_if (any_beyond (length d) (operand_at 1) (word_at 5) (operand_at 3) (word_at 5)) 4
      (changed r (splice d (operand_at 1) (part d (operand_at 3) (word_at 5)))))
  unfolding executed data_part instruction_at instruction_length length_of row_of pick kind_at target_at
  copy-memory-at e = rw e

  -- 41 and 42: they differ in what is stored
  report-at : (op width value : ℕ) → Reports op r width value → byte c r.counter ≡ op
      → executed c r d
      ≡ passed (r.counter + 3) d (fault_if (beyond (length d) (operand_at 1) width) 4 (changed r (splice d (operand_at 1) (bytes_le width value))))
  unfolding executed data_part typed_at instruction_at instruction_length length_of row_of pick kind_at target_at
  report-at op width value (inl (z, w, v)) e = rw (e, z, w, v)
  report-at op width value (inr (z, w, v)) e = rw (e, z, w, v)

  conversion-at : byte c r.counter ≡ 43
      → executed c r d ≡ passed (r.counter + 7) d (of_conversion r (converting (byte_at 1) (byte_at 2) d (operand_at 3) (operand_at 5)))
  unfolding executed data_part typed_at instruction_at instruction_length length_of row_of pick kind_at target_at
  conversion-at e = rw e

  packing-at : byte c r.counter ≡ 44 → executed c r d ≡ passed (r.counter + 6) d (of_conversion r (packing (byte_at 1) d (operand_at 2) (operand_at 4)))
  unfolding executed data_part typed_at instruction_at instruction_length length_of row_of pick kind_at target_at
  packing-at e = rw e

  unpacking-at : byte c r.counter ≡ 45 → executed c r d ≡ passed (r.counter + 6) d (of_conversion r (unpacking (byte_at 1) d (operand_at 2) (operand_at 4)))
  unfolding executed data_part typed_at instruction_at instruction_length length_of row_of pick kind_at target_at
  unpacking-at e = rw e

  -- AURD and AUWD: they differ in what is copied where
  element-at : (op : ℕ) → (op ≡ 8) ⊎ (op ≡ 9) → byte c r.counter ≡ op
      → executed c r d
      ≡ passed (r.counter + 10) d
      (of_element r d (word_at 1) (word_at 3) (word_at 5) (byte_at 7) (word_at 8)
      (changed r
      (splice d
      (pick (eqb op 8) (operand_at 1) (element_at r d (word_at 3) (word_at 5) (byte_at 7)))
      (part d
      (pick (eqb op 8) (element_at r d (word_at 3) (word_at 5) (byte_at 7)) (operand_at 1))
      (byte_at 7)))))
  unfolding executed data_part instruction_at instruction_length length_of row_of pick kind_at target_at
  element-at op (inl z) e = rw (e, z)
  element-at op (inr z) e = rw (e, z)

  typed_at_lem : (op n : ℕ) → TypedAt c r.counter op n
      → executed c r d ≡ passed (r.counter + (n + 2)) d (data_part (Typed op (byte_at 1) (word_at 2) (word_at 4) (word_at n)) c r d)
  unfolding executed
  typed_at_lem op n x = rw (x.is, x.long, x.passes)

  -- ---- the ways through a command

  pub branch-beyond : (op a : ℕ) (b : Bool) → (op ≡ 2) ⊎ (op ≡ 3) → byte c r.counter ≡ op → a ≡ operand_at 1
      → b ≡ beyond (length d) a 1 → b ≡ true → answer (Fault 4) d ≡ executed c r d
  unfolding pick
  branch-beyond op a b o e f g h = rw (branch-at op o e, ← f, ← g, h)

  pub branch-made : (op a t : ℕ) (b : Bool) → (op ≡ 2) ⊎ (op ≡ 3) → byte c r.counter ≡ op → a ≡ operand_at 1
      → b ≡ beyond (length d) a 1 → b ≡ false → beq (eqb (byte d a) 0) (eqb op 2) ≡ true → t ≡ word_at 3
      → answer (Next t) d ≡ executed c r d
  unfolding pick
  branch-made op a t b o e f g h z w = rw (branch-at op o e, ← f, ← g, h, z, ← w)

  pub branch-not : (op a : ℕ) (b : Bool) → (op ≡ 2) ⊎ (op ≡ 3) → byte c r.counter ≡ op → a ≡ operand_at 1
      → b ≡ beyond (length d) a 1 → b ≡ false → beq (eqb (byte d a) 0) (eqb op 2) ≡ false → answer (Next (r.counter + 5)) d ≡ executed c r d
  unfolding pick
  branch-not op a b o e f g h z = rw (branch-at op o e, ← f, ← g, h, z)

  pub call-instance-full : byte c r.counter ≡ 4 → r.depth ≡ 16 → answer (Fault 5) d ≡ executed c r d
  unfolding pick
  call-instance-full e h = rw (call-instance-at e, eq-eqb _ _ h)

  pub call-instance-beyond : (a : ℕ) → byte c r.counter ≡ 4 → (r.depth ≡ 16 → ⊥) → a ≡ operand_at 1
      → length d ≤ a → answer (Fault 4) d ≡ executed c r d
  unfolding pick
  call-instance-beyond a e h f g = rw (call-instance-at e, ne_eqb _ _ h, ← f, le-leb _ _ g)

  pub call-instance-made : (a t : ℕ) → byte c r.counter ≡ 4 → (r.depth ≡ 16 → ⊥) → a ≡ operand_at 1
      → a < length d → t ≡ word_at 3 → answer (Call (r.counter + 5) t a) d ≡ executed c r d
  unfolding pick
  call-instance-made a t e h f g w = rw (call-instance-at e, ne_eqb _ _ h, ← f, lt-leb _ _ g, ← w)

  pub call-function-full : byte c r.counter ≡ 5 → r.depth ≡ 16 → answer (Fault 5) d ≡ executed c r d
  unfolding pick
  call-function-full e h = rw (call-function-at e, eq-eqb _ _ h)

  pub call-function-made : (t : ℕ) → byte c r.counter ≡ 5 → (r.depth ≡ 16 → ⊥) → t ≡ word_at 1
      → answer (Call (r.counter + 3) t r.offset) d ≡ executed c r d
  unfolding pick
  call-function-made t e h w = rw (call-function-at e, ne_eqb _ _ h, ← w)

  pub move-constant-beyond : (a n : ℕ) (b : Bool) → byte c r.counter ≡ 6 → a ≡ operand_at 1
      → b ≡ beyond (length d) a (byte_at 3) → b ≡ true → answer (Fault 4) d ≡ executed c r d
  unfolding pick
  move-constant-beyond a n b e f g h = rw (move-constant-at e, ← f, ← g, h)

  pub move-constant-done : (a : ℕ) (b : Bool) (m : List ℕ) → byte c r.counter ≡ 6 → a ≡ operand_at 1
      → b ≡ beyond (length d) a (byte_at 3) → b ≡ false → m ≡ splice d a (part c (r.counter + 4) (byte_at 3))
      → answer (Next (r.counter + 4 + byte_at 3)) m ≡ executed c r d
  unfolding pick
  move-constant-done a b m e f g h k =
      let s : r.counter + (4 + byte_at 3) ≡ r.counter + 4 + byte_at 3 = omega arith in
      rw (move-constant-at e, ← f, ← g, h, ← k, s)

  pub copy-memory-beyond : (to from n : ℕ) (b : Bool) → byte c r.counter ≡ 7 → to ≡ operand_at 1
      → from ≡ operand_at 3 → n ≡ word_at 5
      → b ≡ any_beyond (length d) to n from n → b ≡ true → answer (Fault 4) d ≡ executed c r d
  unfolding pick
  copy-memory-beyond to from n b e f g k w h = rw (copy-memory-at e, ← f, ← g, ← k, ← w, h)

  pub copy-memory-done : (to from n : ℕ) (b : Bool) (m : List ℕ) → byte c r.counter ≡ 7 → to ≡ operand_at 1
      → from ≡ operand_at 3 → n ≡ word_at 5
      → b ≡ any_beyond (length d) to n from n → b ≡ false → m ≡ splice d to (part d from n) → answer (Next (r.counter + 7)) m ≡ executed c r d
  unfolding pick
  copy-memory-done to from n b m e f g k w h s = rw (copy-memory-at e, ← f, ← g, ← k, ← w, h, ← s)

  pub report-beyond : (op width value a : ℕ) (b : Bool) → Reports op r width value → byte c r.counter ≡ op → a ≡ operand_at 1
      → b ≡ beyond (length d) a width → b ≡ true → answer (Fault 4) d ≡ executed c r d
  unfolding pick
  report-beyond op width value a b o e f g h = rw (report-at op width value o e, ← f, ← g, h)

  pub report-done : (op width value a : ℕ) (b : Bool) (m : List ℕ) → Reports op r width value → byte c r.counter ≡ op → a ≡ operand_at 1
      → b ≡ beyond (length d) a width → b ≡ false → m ≡ splice d a (bytes_le width value) → answer (Next (r.counter + 3)) m ≡ executed c r d
  unfolding pick
  report-done op width value a b m o e f g h k = rw (report-at op width value o e, ← f, ← g, h, ← k)

  pub element-beyond : (op variable index : ℕ) (b : Bool) → (op ≡ 8) ⊎ (op ≡ 9) → byte c r.counter ≡ op
      → variable ≡ operand_at 1 → index ≡ operand_at 5
      → b ≡ any_beyond (length d) variable (byte_at 7) index 2 → b ≡ true → answer (Fault 4) d ≡ executed c r d
  unfolding pick of_element
  element-beyond op variable index b o e f g h k = rw (element-at op o e, ← f, ← g, ← h, k)

  pub element-index : (op variable index i n : ℕ) (b : Bool) → (op ≡ 8) ⊎ (op ≡ 9) → byte c r.counter ≡ op
      → variable ≡ operand_at 1 → index ≡ operand_at 5
      → b ≡ any_beyond (length d) variable (byte_at 7) index 2 → b ≡ false
      → i ≡ read_le d index 2 → n ≡ word_at 8 → n ≤ i → answer (Fault 0) d ≡ executed c r d
  unfolding pick of_element
  element-index op variable index i n b o e f g h k u v w = rw (element-at op o e, ← f, ← g, ← h, k, ← u, ← v, le-leb _ _ w)

  pub element-outside : (op variable index i n a q : ℕ) (b x : Bool) → (op ≡ 8) ⊎ (op ≡ 9) → byte c r.counter ≡ op
      → variable ≡ operand_at 1 → index ≡ operand_at 5
      → b ≡ any_beyond (length d) variable (byte_at 7) index 2 → b ≡ false
      → i ≡ read_le d index 2 → n ≡ word_at 8 → i < n
      → a ≡ operand_at 3 → q ≡ a + i * byte_at 7
      → x ≡ beyond (length d) q (byte_at 7) → x ≡ true → answer (Fault 4) d ≡ executed c r d
  unfolding pick of_element
  element-outside op variable index i n a q b x o e f g h k u v w y z l t =
      rw (element-at op o e, ← f, ← g, ← h, k, ← u, ← v, lt-leb _ _ w, ← y, ← z, ← l, t)

  pub element-done : (op variable index i n a q to from : ℕ) (b x : Bool) (m : List ℕ) → (op ≡ 8) ⊎ (op ≡ 9) → byte c r.counter ≡ op
      → variable ≡ operand_at 1 → index ≡ operand_at 5
      → b ≡ any_beyond (length d) variable (byte_at 7) index 2 → b ≡ false
      → i ≡ read_le d index 2 → n ≡ word_at 8 → i < n
      → a ≡ operand_at 3 → q ≡ a + i * byte_at 7
      → x ≡ beyond (length d) q (byte_at 7) → x ≡ false
      → to ≡ pick (eqb op 8) variable q → from ≡ pick (eqb op 8) q variable → m ≡ splice d to (part d from (byte_at 7))
      → answer (Next (r.counter + 10)) m ≡ executed c r d
  unfolding pick of_element
  element-done op variable index i n a q to from b x m o e f g h k u v w y z l t i' j s =
      rw (element-at op o e, ← f, ← g, ← h, k, ← u, ← v, lt-leb _ _ w, ← y, ← z, ← l, t, ← i', ← j, ← s)

  -- what a typed command answers, as the instruction's answer
  abbrev finished : ℕ → Attempt → Executed
  finished next a = answer (outcome_by next a.fault) a.memory

  finished-tests : (next : ℕ) (x y : Bool) (m : List ℕ)
      → finished next (pick x (ending (some 4) d) (pick y (ending (some 3) d) (ending none m))) ≡ passed next d (fault_if x 4 (fault_if y 3 (changed r m)))
  unfolding pick
  finished-tests next true y m = refl
  finished-tests next false true m = refl
  finished-tests next false false m = refl

  pub typed-done : (op n : ℕ) (o : Operands) (b : Option ℕ) (q : Outcome) (m : List ℕ) → TypedAt c r.counter op n
      → o ≡ operands_at n c r → ending b m ≡ attempted op o d → q ≡ outcome_by (r.counter + (n + 2)) b → answer q m ≡ executed c r d
  unfolding attempted data_part
  typed-done op n o b q m x e f g =
      rw g (ap (finished (r.counter + (n + 2))) f ∙ rw e (finished-tests (r.counter + (n + 2)) _ _ _) ∙ sym (typed_at_lem op n x))

  -- how a conversion ended, as the instruction's answer
  abbrev converted : ℕ → Ended → Executed
  converted next x = answer (conversion_outcome next x.conversion) x.memory

  converted-tests : (next t u to source : ℕ) (x : Result) → converted next (tried t u d to source x) ≡ passed next d (of_conversion r (tried t u d to source x))
  unfolding tried pick
  converted-tests next t u to source x = go (any_beyond (length d) to (width_of t) source (width_of u)) x
    where
      go : (b : Bool) (x : Result) → converted next (pick b (ended (Err Address) d) (settled t d to x)) ≡ passed next d (of_conversion r (pick b (ended (Err Address) d) (settled t d to x)))
      go true x = refl
      go false (stores p) = refl
      go false not-held = refl

  converted-done : (n t u to source : ℕ) (y : Result) (x : Answer (Unit {0}) CoreFault) (o : Outcome) (m : List ℕ)
      → executed c r d ≡ passed (r.counter + n) d (of_conversion r (tried t u d to source y)) → ended x m ≡ tried t u d to source y
      → o ≡ conversion_outcome (r.counter + n) x → answer o m ≡ executed c r d
  converted-done n t u to source y x o m e l w =
      rw w (ap (converted (r.counter + n)) l ∙ converted-tests (r.counter + n) t u to source y ∙ sym e)

  pub conversion-done : (from to destination source : ℕ) (x : Answer (Unit {0}) CoreFault) (o : Outcome) (m : List ℕ) → byte c r.counter ≡ 43
      → from ≡ byte_at 1 → to ≡ byte_at 2 → destination ≡ operand_at 3 → source ≡ operand_at 5 → ended x m ≡ converting from to d destination source
      → o ≡ conversion_outcome (r.counter + 7) x → answer o m ≡ executed c r d
  unfolding converting
  conversion-done from to destination source x o m e f g h k l =
      converted-done 7 to from destination source (converted_to from to (read_le d source (width_of from))) x o m (conversion-at e ∙ rw (f, g, h, k)) l

  pub packing-done : (p : Operands) (x : Answer (Unit {0}) CoreFault) (o : Outcome) (m : List ℕ) → byte c r.counter ≡ 44 → p ≡ operands_at 4 c r
      → ended x m ≡ packing p.kind d p.to p.first → o ≡ conversion_outcome (r.counter + 6) x → answer o m ≡ executed c r d
  unfolding packing
  packing-done p x o m e f l =
      converted-done 6 p.kind p.kind p.to p.first (packed p.kind (read_le d p.first (width_of p.kind))) x o m (packing-at e ∙ rw f) l

  pub unpacking-done : (p : Operands) (x : Answer (Unit {0}) CoreFault) (o : Outcome) (m : List ℕ) → byte c r.counter ≡ 45 → p ≡ operands_at 4 c r
      → ended x m ≡ unpacking p.kind d p.to p.first → o ≡ conversion_outcome (r.counter + 6) x → answer o m ≡ executed c r d
  unfolding unpacking
  unpacking-done p x o m e f l =
      converted-done 6 p.kind p.kind p.to p.first (unpacked p.kind (read_le d p.first (width_of p.kind))) x o m (unpacking-at e ∙ rw f) l

pub ruleset branches = (branch-beyond, branch-made, branch-not)

pub ruleset calls = (call-instance-full, call-instance-beyond, call-instance-made, call-function-full, call-function-made)

pub ruleset moves = (move-constant-beyond, move-constant-done, copy-memory-beyond, copy-memory-done)

pub ruleset reports = (report-beyond, report-done)

pub ruleset typed = (three-here, three-given, next_fits, typed-done)
