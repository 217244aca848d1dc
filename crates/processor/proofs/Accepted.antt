-- What accepted code says of the instruction at the program counter. In order: the typed commands by their code byte; what
-- the function of each command asks. Assumes nothing.
use mathlib.Core.Path.{◌≡◌, refl, sym, ap, ◌∙◌}
use mathlib.Core.Bool.{Bool, true, false}
use mathlib.Core.Logic.{◌⊎◌, inl, inr, ⊎_elim}
use mathlib.Core.List.{List}
use Prim.Native.Nat.{ℕ, suc, ◌+◌, ◌/◌, ◌%◌, ◌^◌, ◌≤◌, ◌<◌}
use native.Mathlib.Omega.{arith}
use borrow.Author.Tests.{eqb-true, eqb-false, ne_eqb, ltb-true, le-ltb}
use lib.Dec.{eqb, ltb, eqb→eq}
use lib.ListN.{length}
use mir.Syntax.{w16}
use mir.Val.{Fits}
use Rattle.verdict.specs.Verdict.{pick, either, within}
use Rattle.verdict.proofs.Verdict.{absurd-bool, below, both_true, inside-true}
use Rattle.memory.specs.Memory.{byte, word}
use Rattle.protocol.specs.declared.Registers.{Registers}
use Rattle.code.specs.declared.Instruction.TheVariants.{Typed, Unknown}
use Rattle.code.specs.Commands.{three, Passes, row_of, length_of}
use Rattle.code.specs.Flow.{kind_at}
use Rattle.code.specs.Instructions.{typed_at, instruction_at, instruction_length}
use Rattle.code.proofs.Laws.{either-T, same, same-is, three-length, typed-left, kind-passes}
use Rattle.values.specs.Types.{takes}
use Rattle.code.specs.Code.{is_width, convertible, packable, operands_ok, judge_code, is_start}
use Rattle.code.proofs.Sound.{Sound, sound}
use Rattle.values.specs.Width.{Width}
use Rattle.commands.specs.declared.Operands.{Operands}
use Rattle.commands.specs.Attempts.{ThreeOperands, OperandsGiven}
use Rattle.processor.specs.Executable.{Executable, InstructionStands, frequent}
use Rattle.processor.specs.Typed.{operands_at, Low}

-- ---- the typed commands by their code byte

either-cases : (a b : Bool) → either a b ≡ true → (a ≡ true) ⊎ (b ≡ true)
either-cases true b e = inl refl
either-cases false b e = inr e

-- the code bytes with three addresses
three-range : (op : ℕ) → three op ≡ true → (16 ≤ op) × (op ≤ 37)
three-range op e = go (either-cases (within 16 20 op) _ e)
  where
    rest : (within 24 26 op ≡ true) ⊎ (within 28 37 op ≡ true) → (16 ≤ op) × (op ≤ 37)
    rest (inl f) = let h = inside-true 24 26 op f in (omega (arith, h.0), omega (arith, h.1))
    rest (inr f) = let h = inside-true 28 37 op f in (omega (arith, h.0), omega (arith, h.1))

    go : (within 16 20 op ≡ true) ⊎ (either (within 24 26 op) (within 28 37 op) ≡ true) → (16 ≤ op) × (op ≤ 37)
    go (inl f) = let h = inside-true 16 20 op f in (omega (arith, h.0), omega (arith, h.1))
    go (inr f) = rest (either-cases (within 24 26 op) _ f)

pub three-operands : (op : ℕ) → three op ≡ true → ThreeOperands op
three-operands op t e = absurd-bool (rw e at t)

-- a code byte of no other command is of a typed one
typed-instruction : (c : List ℕ) (p : ℕ) → 10 ≤ byte c p → (byte c p ≡ 41 → ⊥) → (byte c p ≡ 42 → ⊥) → (byte c p ≡ 43 → ⊥) → (byte c p ≡ 44 → ⊥) → (byte c p ≡ 45 → ⊥) → instruction_at c p ≡ typed_at c p Unknown
typed-instruction c p l n m o i j =
    typed-left c p (off 0 (omega arith)) (off 1 (omega arith)) (off 2 (omega arith)) (off 3 (omega arith)) (off 4 (omega arith))
    (off 5 (omega arith)) (off 6 (omega arith)) (off 7 (omega arith)) (off 8 (omega arith)) (off 9 (omega arith)) n m o i j
  where
    off : (k : ℕ) → k < 10 → byte c p ≡ k → ⊥
    off k i e = omega arith

-- AURD or AUWD
two-of : (n op : ℕ) → op < suc (suc n) → n ≤ op → (op ≡ n) ⊎ (op ≡ suc n)
two-of n op h l = go (eqb op n) refl
  where
    go : (b : Bool) → eqb op n ≡ b → (op ≡ n) ⊎ (op ≡ suc n)
    go true e = inl (eqb-true op n e)
    go false e =
        let k : (op ≡ n → ⊥) = eqb-false op n e in
        inr (omega arith)

-- the code byte is not that of a command which has an arm of its own
abbrev pub Others : ℕ → Type 0
Others op = ((((((((((((Unit {0} × (op ≡ 0 → ⊥)) × (op ≡ 1 → ⊥)) × (op ≡ 2 → ⊥)) × (op ≡ 3 → ⊥)) × (op ≡ 4 → ⊥)) × (op ≡ 5 → ⊥)) × (op ≡ 6 → ⊥)) × (op ≡ 7 → ⊥)) × (op ≡ 41 → ⊥)) × (op ≡ 42 → ⊥)) × (op ≡ 43 → ⊥)) × (op ≡ 44 → ⊥)) × (op ≡ 45 → ⊥)

-- such a one below 10 is AURD's or AUWD's
pub element-of : {op : ℕ} → Others op → op < 10 → (op ≡ 8) ⊎ (op ≡ 9)
element-of {op} n h =
    let low = n.0.0.0.0.0 in
    let least = low.0.0.0.0 in
    two-of 8 op h
    (past (past (past (past (past (past (past (past (omega arith) least.0.0.0.1) least.0.0.1) least.0.1) least.1) low.0.0.0.1) low.0.0.1) low.0.1) low.1)
  where
    past : {k : ℕ} → k ≤ op → (op ≡ k → ⊥) → suc k ≤ op
    past l m = omega arith

-- the code bytes that are known are below 64
known-low : (op : ℕ) → op < 256 → 0 < length_of op → op < 64
unfolding length_of row_of pick
known-low op l h = go (ltb op 64) refl
  where
    go : (b : Bool) → ltb op 64 ≡ b → op < 64
    go true e = ltb-true op 64 e
    go false e =
        let z : length_of op ≡ 0 = eqb→eq (length_of op) 0 (either-T _ _ (below (λ k. either (ltb k 64) (eqb (length_of k) 0)) 256 tt op l) e) in
        absurd (omega arith)

-- the code byte where an instruction of accepted code starts
pub command-low : (c : List ℕ) (p : ℕ) → judge_code c ≡ 0 → is_start c p ≡ true → byte c p < 256 → byte c p < 64
command-low c p a s l = known-low (byte c p) l (sound c p a s).here.known

-- a bit for each code byte with three addresses
pub three-bits : (op : ℕ) → op < 64 → eqb (274728943616 / 2 ^ op % 2) 1 ≡ three op
three-bits op l = same-is _ _ (below (λ k. same (eqb (274728943616 / 2 ^ k % 2) 1) (three k)) 64 tt op l)

-- a bit for each frequent one; from 6 on these have three addresses
pub frequent-bits : (op : ℕ) → op < 64 → eqb (274728943679 / 2 ^ op % 2) 1 ≡ frequent op
frequent-bits op l = same-is _ _ (below (λ k. same (eqb (274728943679 / 2 ^ k % 2) 1) (frequent k)) 64 tt op l)

pub frequent-three : (op : ℕ) → frequent op ≡ true → 6 ≤ op → three op ≡ true
frequent-three op e n = sym (ap (λ (b : Bool). either b (three op)) (le-ltb op 6 n)) ∙ e

-- the instruction and its length, where the second source stands n bytes after the start
pub record TypedAt (c : List ℕ) (p op n : ℕ) : Type 0 where
  pub is : instruction_at c p ≡ Typed op (byte c (p + 1)) (word c (p + 2)) (word c (p + 4)) (word c (p + n))
  pub long : instruction_length c p ≡ n + 2
  pub passes : kind_at c p ≡ Passes

pub three-here : (c : List ℕ) (p op : ℕ) → byte c p ≡ op → three op ≡ true → TypedAt c p op 6
unfolding typed_at instruction_length pick
three-here c p op e f =
    let h = three-range op f in
    let six : eqb op 6 ≡ false = ne_eqb op 6 (λ z. let y : ⊥ = omega (arith, h.0) in y) in
    record {
      is = typed-instruction c p (omega (arith, h.0)) (λ z. omega (arith, h.1)) (λ z. omega (arith, h.1)) (λ z. omega (arith, h.1)) (λ z. omega (arith, h.1)) (λ z. omega (arith, h.1)) ∙ rw (e, f);
      long = rw (e, six, three-length op (omega (arith, h.1)) f);
      passes = kind-passes c p (omega (arith, h.0));
    }

-- one that is listed and does not have three addresses is NOT
not_listed : (c : List ℕ) (p : ℕ) → (three (byte c p) ≡ true → ⊥) → operands_ok (typed_at c p Unknown) ≡ true → byte c p ≡ 27
unfolding typed_at pick
not_listed c p n h = go (three (byte c p)) refl
  where
    also : three (byte c p) ≡ false → (b : Bool) → eqb (byte c p) 27 ≡ b → byte c p ≡ 27
    also f true g = eqb-true (byte c p) 27 g
    also f false g = absurd-bool (rw (f, g) at h)

    go : (b : Bool) → three (byte c p) ≡ b → byte c p ≡ 27
    go true f = absurd (n f)
    go false f = also f (eqb (byte c p) 27) refl

pub not-here : (c : List ℕ) (p : ℕ) → byte c p ≡ 27 → TypedAt c p 27 4
unfolding typed_at instruction_at instruction_length length_of row_of pick kind_at
not-here c p e = record { is = rw e; long = rw e; passes = rw e }

-- ---- what the function of each command asks

width-listed : (w : ℕ) → is_width w ≡ true → Width w
width-listed w e = go (either-cases (eqb w 1) _ e)
  where
    last : (eqb w 4 ≡ true) ⊎ (eqb w 8 ≡ true) → Width w
    last (inl f) = inr (inr (inl (eqb-true w 4 f)))
    last (inr f) = inr (inr (inr (eqb-true w 8 f)))

    more : (eqb w 2 ≡ true) ⊎ (either (eqb w 4) (eqb w 8) ≡ true) → Width w
    more (inl f) = inr (inl (eqb-true w 2 f))
    more (inr f) = last (either-cases (eqb w 4) _ f)

    go : (eqb w 1 ≡ true) ⊎ (either (eqb w 2) (either (eqb w 4) (eqb w 8)) ≡ true) → Width w
    go (inl f) = inl (eqb-true w 1 f)
    go (inr f) = more (either-cases (eqb w 2) _ f)

module _ (c : List ℕ) (r : Registers) (d : List ℕ) (x : Executable c r d) where
  here : Sound c r.counter
  here = sound c r.counter x.accepted x.start

  pub inside-code : r.counter < length c
  inside-code = here.inside

  pub stands : (op : ℕ) → byte c r.counter ≡ op → InstructionStands op (length_of op) c r
  stands op e = record { here = e; whole = rw e at here.here.fixed; short = x.short }

  pub stands-constant : byte c r.counter ≡ 6 → InstructionStands 6 (4 + byte c (r.counter + 3)) c r
  unfolding instruction_length length_of row_of pick kind_at
  stands-constant e =
      let l : r.counter + (4 + byte c (r.counter + 3)) ≤ length c = rw e at here.here.inside in
      record { here = e; whole = l; short = x.short }

  pub element-size : (op : ℕ) → (op ≡ 8) ⊎ (op ≡ 9) → byte c r.counter ≡ op → Width (byte c (r.counter + 7))
  unfolding instruction_at pick
  element-size op (inl z) e = width-listed _ (both_true _ _ (rw (e, z) at here.here.listed)).0
  element-size op (inr z) e = width-listed _ (both_true _ _ (rw (e, z) at here.here.listed)).0

  pub stands-element : (op : ℕ) → (op ≡ 8) ⊎ (op ≡ 9) → byte c r.counter ≡ op
      → ((op ≡ 8) ⊎ (op ≡ 9)) × InstructionStands op 10 c r × Width (byte c (r.counter + 7))
  unfolding length_of row_of pick kind_at
  stands-element op o e =
      let l : length_of op ≡ 10 = ⊎_elim (λ z. rw z) (λ z. rw z) o in
      let s = stands op e in
      (o, record { here = e; whole = omega (arith, s.whole); short = x.short }, element-size op o e)

  -- a conversion: both types are numbers
  pub stands-conversion : byte c r.counter ≡ 43 → InstructionStands 43 7 c r × (byte c (r.counter + 1) < 12) × (byte c (r.counter + 2) < 12)
  unfolding instruction_at typed_at length_of row_of pick kind_at
  stands-conversion e =
      let l : convertible (byte c (r.counter + 1)) (byte c (r.counter + 2)) ≡ true = rw e at here.here.listed in
      let b = both_true (within 1 10 (byte c (r.counter + 1))) _ l in
      (stands 43 e, below _ b.0, below _ b.1)
    where
      below : (t : ℕ) → within 1 10 t ≡ true → t < 12
      below t f = omega (arith, (inside-true 1 10 t f).1)

  -- packed decimal
  packed-type : {t : ℕ} → packable t ≡ true → t < 12
  packed-type {t} f = omega (arith, (inside-true 2 8 t (both_true (within 2 8 t) _ f).0).1)

  pub stands-packing : byte c r.counter ≡ 44 → InstructionStands 44 6 c r × (byte c (r.counter + 1) < 12)
  unfolding instruction_at typed_at length_of row_of pick kind_at
  stands-packing e = let l : packable (byte c (r.counter + 1)) ≡ true = rw e at here.here.listed in (stands 44 e, packed-type l)

  pub stands-unpacking : byte c r.counter ≡ 45 → InstructionStands 45 6 c r × (byte c (r.counter + 1) < 12)
  unfolding instruction_at typed_at length_of row_of pick kind_at
  stands-unpacking e = let l : packable (byte c (r.counter + 1)) ≡ true = rw e at here.here.listed in (stands 45 e, packed-type l)

  -- what a typed command's functions ask
  pub typed-inside : (op n : ℕ) → TypedAt c r.counter op n → (r.counter + (n + 2) ≤ length c) × (length c ≤ 8192)
  typed-inside op n t = (rw t.long at here.here.inside, x.short)

  typed-taken : (op n : ℕ) → TypedAt c r.counter op n → takes op (byte c (r.counter + 1)) ≡ true
  typed-taken op n t = rw t.is at here.here.listed

  pub typed-given : (op n : ℕ) (o : Operands) → TypedAt c r.counter op n → (o ≡ operands_at n c r) × Low o → OperandsGiven op o
  typed-given op n o t e = record { taken = rw e.0 (typed-taken op n t); to_low = e.1.0; first-low = e.1.1; second-low = e.1.2 }

  -- the same of a command with three addresses, by its code byte
  pub three-inside : (op : ℕ) → byte c r.counter ≡ op → three op ≡ true → (r.counter + 8 ≤ length c) × (length c ≤ 8192)
  three-inside op e t = typed-inside op 6 (three-here c r.counter op e t)

  pub three-given : (op : ℕ) (o : Operands) → byte c r.counter ≡ op → three op ≡ true → (o ≡ operands_at 6 c r) × Low o → OperandsGiven op o
  three-given op o e t = typed-given op 6 o (three-here c r.counter op e t)

  pub next_fits : Fits w16 (r.counter + 8)
  next_fits = record { fits = omega (arith, here.inside, x.short) }

  -- a code byte of no other command is NOT's
  pub not_last : {op : ℕ} → byte c r.counter ≡ op → three op ≡ false → Others op → 10 ≤ op → TypedAt c r.counter 27 4
  not_last {op} e f n l =
      not-here c r.counter
      (not_listed c r.counter (λ t. absurd-bool (sym f ∙ ap three (sym e) ∙ t))
      (ap operands_ok (sym (typed-instruction c r.counter (omega arith) (other n.0.0.0.0.1) (other n.0.0.0.1) (other n.0.0.1) (other n.0.1) (other n.1))) ∙ here.here.listed))
    where
      other : {k : ℕ} → (op ≡ k → ⊥) → byte c r.counter ≡ k → ⊥
      other m z = m (sym e ∙ z)
