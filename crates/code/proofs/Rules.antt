-- An instruction is accepted exactly if it keeps the rules of `specs/Rules`, and its T is where the decoded instruction has it. In order: code
-- bytes; types; operands; the instruction; its target_at. Assumes nothing.
use mathlib.Core.Path.{◌≡◌, refl, sym, ap, ◌∙◌, subst}
use mathlib.Core.Bool.{Bool, true, false}
use mathlib.Core.Logic.{◌⊎◌, inl, inr}
use mathlib.Core.List.{List, [], ◌∷◌}
use Prim.Native.Nat.{ℕ, ◌+◌, ◌%◌, ◌≤◌, ◌<◌}
use native.Mathlib.Omega.{arith}
use borrow.Author.Tests.{ltb-true, leb-true, ltb-false, leb-false, eqb-true, ne_eqb, lt-ltb, le-leb}
use lib.Dec.{ltb, leb, eqb}
use Rattle.verdict.specs.Verdict.{pick, both, either, within}
use Rattle.verdict.specs.Items.{From, OneOf}
use Rattle.verdict.proofs.Verdict.{absurd-bool, by-pick, below, both_true, either-false, inside, inside-true, outside}
use Rattle.verdict.proofs.Items.{member, member_of, of-member}
use Rattle.memory.specs.Memory.{byte, word}
use Rattle.values.specs.Types.{takes}
use Rattle.code.specs.Commands.{Row, known, three, row_of, length_of, length_with}
use Rattle.code.specs.Instructions.{instruction_at, typed_at}
use Rattle.code.specs.Flow.{kind_at, goes_to, target_at}
use Rattle.code.specs.Code.{is_width, element_ok, convertible, packable, operands_ok, instruction_ok}
use Rattle.code.specs.Rules.{TypeRules, InstructionRules, Target, jmp, jz-jnz, calb, calf}
use Rattle.code.proofs.Laws.{is, same, same-is, Whole, whole, typed-takes, typed-left, no_target}

-- ---- code bytes

pub either_way : {P : Type 0} (a b : Bool) → either a b ≡ true → (a ≡ true → P) → (b ≡ true → P) → P
either_way true b e f g = f refl
either_way false b e f g = g e

three-low : (code : ℕ) → three code ≡ true → code < 46
three-low code e =
    either_way (within 16 20 code) _ e (λ a. omega (arith, inside-true 16 20 code a))
    (λ d. either_way (within 24 26 code) _ d (λ a. omega (arith, inside-true 24 26 code a)) (λ a. omega (arith, inside-true 28 37 code a)))

-- only code bytes below 46 are known
low : (code : ℕ) → 0 < length_of code → code < 46
unfolding length_of row_of kind_at target_at
low code =
    let P : Row → Type 0 = λ (l : Row). 0 < length_with l → code < 46 in
    by-pick P _ _ _ (λ e h. omega (arith, eqb-true code 0 e))
    (λ e. by-pick P _ _ _ (λ e h. omega (arith, eqb-true code 1 e))
    (λ e. by-pick P _ _ _ (λ e h. omega (arith, inside-true 2 3 code e))
    (λ e. by-pick P _ _ _ (λ e h. omega (arith, eqb-true code 4 e))
    (λ e. by-pick P _ _ _ (λ e h. omega (arith, eqb-true code 5 e))
    (λ e. by-pick P _ _ _ (λ e h. omega (arith, eqb-true code 6 e))
    (λ e. by-pick P _ _ _ (λ e h. omega (arith, eqb-true code 7 e))
    (λ e. by-pick P _ _ _ (λ e h. omega (arith, inside-true 8 9 code e))
    (λ e. by-pick P _ _ _ (λ e h. three-low code e)
    (λ e. by-pick P _ _ _ (λ e h. omega (arith, eqb-true code 27 e))
    (λ e. by-pick P _ _ _ (λ e h. omega (arith, inside-true 41 42 code e))
    (λ e. by-pick P _ _ _ (λ e h. omega (arith, eqb-true code 43 e))
    (λ e. by-pick P _ _ _ (λ e h. omega (arith, inside-true 44 45 code e))
    (λ e h. absurd (let y : ⊥ = omega arith in y))))))))))))))

pub known-low : (code : ℕ) → known code ≡ true → code < 46
known-low code e =
    either_way (within 0 9 code) _ e (λ a. omega (arith, inside-true 0 9 code a))
    (λ d. either_way (within 16 20 code) _ d (λ a. omega (arith, inside-true 16 20 code a))
    (λ g. either_way (within 24 37 code) _ g (λ a. omega (arith, inside-true 24 37 code a)) (λ a. omega (arith, inside-true 41 45 code a))))

refuted : (b : Bool) → (b ≡ true → ⊥) → b ≡ false
refuted true h = absurd (h refl)
refuted false h = refl

none-known : (code : ℕ) → ltb code 46 ≡ false → ltb 0 (length_of code) ≡ known code
none-known code e =
    let h : 46 ≤ code = ltb-false _ _ e in
    refuted (ltb 0 (length_of code)) (λ z. let l = low code (ltb-true _ _ z) in let y : ⊥ = omega arith in y)
    ∙ sym (refuted (known code) (λ z. let l = known-low code z in let y : ⊥ = omega arith in y))

-- the code bytes with a length are those of the table of commands
pub known_is : (code : ℕ) → ltb 0 (length_of code) ≡ known code
unfolding length_of row_of pick kind_at target_at
known_is code = go (ltb code 46) refl
  where
    go : (b : Bool) → ltb code 46 ≡ b → ltb 0 (length_of code) ≡ known code
    go true e = same-is _ _ (below (λ k. same (ltb 0 (length_of k)) (known k)) 46 tt code (ltb-true _ _ e))
    go false e = none-known code e

-- ---- types

even-logic : (t : ℕ) → both (leb t 8) (eqb (t % 2) 0) ≡ true → OneOf (0 ∷ 2 ∷ 4 ∷ 6 ∷ 8 ∷ []) t
even-logic t e =
    let l : t ≤ 8 = leb-true t 8 (both_true (leb t 8) _ e).0 in
    member_of (0 ∷ 2 ∷ 4 ∷ 6 ∷ 8 ∷ []) t
    (sym (same-is _ _ (below (λ k. same (both (leb k 8) (eqb (k % 2) 0)) (member (0 ∷ 2 ∷ 4 ∷ 6 ∷ 8 ∷ []) k)) 9 tt t (omega arith))) ∙ e)

logic-even : (t : ℕ) → OneOf (0 ∷ 2 ∷ 4 ∷ 6 ∷ 8 ∷ []) t → both (leb t 8) (eqb (t % 2) 0) ≡ true
logic-even t (inl e) = rw e
logic-even t (inr (inl e)) = rw e
logic-even t (inr (inr (inl e))) = rw e
logic-even t (inr (inr (inr (inl e)))) = rw e
logic-even t (inr (inr (inr (inr (inl e))))) = rw e
logic-even t (inr (inr (inr (inr (inr x5))))) = elim x5 [ ]

even-shift : (t : ℕ) → both (within 2 8 t) (eqb (t % 2) 0) ≡ true → OneOf (2 ∷ 4 ∷ 6 ∷ 8 ∷ []) t
even-shift t e =
    let l = inside-true 2 8 t (both_true (within 2 8 t) _ e).0 in
    member_of (2 ∷ 4 ∷ 6 ∷ 8 ∷ []) t
    (sym (same-is _ _ (below (λ k. same (both (within 2 8 k) (eqb (k % 2) 0)) (member (2 ∷ 4 ∷ 6 ∷ 8 ∷ []) k)) 9 tt t (omega arith))) ∙ e)

shift-even : (t : ℕ) → OneOf (2 ∷ 4 ∷ 6 ∷ 8 ∷ []) t → both (within 2 8 t) (eqb (t % 2) 0) ≡ true
shift-even t (inl e) = rw e
shift-even t (inr (inl e)) = rw e
shift-even t (inr (inr (inl e))) = rw e
shift-even t (inr (inr (inr (inl e)))) = rw e
shift-even t (inr (inr (inr (inr x4)))) = elim x4 [ ]

module _ (code t : ℕ) where
  out : (lo hi : ℕ) → (code < lo) ⊎ (hi < code) → within lo hi code ≡ false
  out lo hi (inl h) = outside lo hi code (λ a b. let y : ⊥ = omega arith in y)
  out lo hi (inr h) = outside lo hi code (λ a b. let y : ⊥ = omega arith in y)

  -- the test of the types, by the range of the code byte
  takes-sums : From 16 17 code → takes code t ≡ within 1 11 t
  unfolding takes pick
  takes-sums h = rw (inside 16 17 code h.0 h.1)

  takes-products : From 18 19 code → takes code t ≡ within 1 10 t
  unfolding takes pick
  takes-products h = rw (out 16 17 (inr (omega arith)), inside 18 19 code h.0 h.1)

  takes-remainders : code ≡ 20 → takes code t ≡ within 1 8 t
  unfolding takes pick
  takes-remainders h = rw h

  takes-logic : From 24 27 code → takes code t ≡ both (leb t 8) (eqb (t % 2) 0)
  unfolding takes pick
  takes-logic h =
      rw (out 16 17 (inr (omega arith)), out 18 19 (inr (omega arith)), ne_eqb code 20 (λ e. let y : ⊥ = omega arith in y), inside 24 27 code h.0 h.1)

  takes-shifts : From 28 31 code → takes code t ≡ both (within 2 8 t) (eqb (t % 2) 0)
  unfolding takes pick
  takes-shifts h =
      rw (
        out 16 17 (inr (omega arith)),
        out 18 19 (inr (omega arith)),
        ne_eqb code 20 (λ e. let y : ⊥ = omega arith in y),
        out 24 27 (inr (omega arith)),
        inside 28 31 code h.0 h.1,
      )

  takes-comparisons : From 32 37 code → takes code t ≡ leb t 11
  unfolding takes pick
  takes-comparisons h =
      rw (
        out 16 17 (inr (omega arith)),
        out 18 19 (inr (omega arith)),
        ne_eqb code 20 (λ e. let y : ⊥ = omega arith in y),
        out 24 27 (inr (omega arith)),
        out 28 31 (inr (omega arith)),
        inside 32 37 code h.0 h.1,
      )

  types-kept : (From 16 37 code → takes code t ≡ true) → TypeRules code t
  types-kept f =
      record {
        sums = λ h. inside-true 1 11 t (sym (takes-sums h) ∙ f (omega arith, omega arith));
        products = λ h. inside-true 1 10 t (sym (takes-products h) ∙ f (omega arith, omega arith));
        remainders = λ h. inside-true 1 8 t (sym (takes-remainders h) ∙ f (omega arith, omega arith));
        logic = λ h. even-logic t (sym (takes-logic h) ∙ f (omega arith, omega arith));
        shifts = λ h. even-shift t (sym (takes-shifts h) ∙ f (omega arith, omega arith));
        comparisons = λ h. leb-true t 11 (sym (takes-comparisons h) ∙ f (omega arith, omega arith));
      }

  -- the ranges of the typed commands, side by side
  types-taken : TypeRules code t → From 16 20 code ⊎ From 24 37 code → takes code t ≡ true
  types-taken r (inl h) = go (leb code 17) refl (leb code 19) refl
    where
      go : (a : Bool) → leb code 17 ≡ a → (b : Bool) → leb code 19 ≡ b → takes code t ≡ true
      go true e b f =
          let k : From 16 17 code = (h.0, leb-true _ _ e) in
          let i = r.sums k in
          takes-sums k ∙ inside 1 11 t i.0 i.1
      go false e true f =
          let l = leb-false code 17 e in
          let k : From 18 19 code = (omega arith, leb-true _ _ f) in
          let i = r.products k in
          takes-products k ∙ inside 1 10 t i.0 i.1
      go false e false f =
          let l = leb-false code 19 f in
          let k : code ≡ 20 = omega arith in
          let i = r.remainders k in
          takes-remainders k ∙ inside 1 8 t i.0 i.1
  types-taken r (inr h) = go (leb code 27) refl (leb code 31) refl
    where
      go : (a : Bool) → leb code 27 ≡ a → (b : Bool) → leb code 31 ≡ b → takes code t ≡ true
      go true e b f =
          let k : From 24 27 code = (h.0, leb-true _ _ e) in
          takes-logic k ∙ logic-even t (r.logic k)
      go false e true f =
          let l = leb-false code 27 e in
          let k : From 28 31 code = (omega arith, leb-true _ _ f) in
          takes-shifts k ∙ shift-even t (r.shifts k)
      go false e false f =
          let l = leb-false code 31 f in
          let k : From 32 37 code = (omega arith, h.1) in
          takes-comparisons k ∙ le-leb t 11 (r.comparisons k)

-- ---- operands

width_is : (w : ℕ) → is_width w ≡ member (1 ∷ 2 ∷ 4 ∷ 8 ∷ []) w
width_is w = rw (either-false (eqb w 8))

pub keeps-width : (w : ℕ) → is_width w ≡ true → OneOf (1 ∷ 2 ∷ 4 ∷ 8 ∷ []) w
keeps-width w e = member_of (1 ∷ 2 ∷ 4 ∷ 8 ∷ []) w (sym (width_is w) ∙ e)

pub accepts-width : (w : ℕ) → OneOf (1 ∷ 2 ∷ 4 ∷ 8 ∷ []) w → is_width w ≡ true
accepts-width w o = width_is w ∙ of-member (1 ∷ 2 ∷ 4 ∷ 8 ∷ []) w o

module _ (c : List ℕ) (p : ℕ) where
  typed-listed : From 16 37 (byte c p) → operands_ok (instruction_at c p) ≡ takes (byte c p) (byte c (p + 1))
  typed-listed h =
      ap operands_ok
      (typed-left c p (other 0 (inl (omega arith))) (other 1 (inl (omega arith))) (other 2 (inl (omega arith))) (other 3 (inl (omega arith)))
      (other 4 (inl (omega arith))) (other 5 (inl (omega arith))) (other 6 (inl (omega arith))) (other 7 (inl (omega arith)))
      (other 8 (inl (omega arith))) (other 9 (inl (omega arith)))
      (other 41 (inr (omega arith))) (other 42 (inr (omega arith))) (other 43 (inr (omega arith))) (other 44 (inr (omega arith))) (other 45 (inr (omega arith))))
      ∙ typed-takes c p (omega arith)
    where
      other : (k : ℕ) → (k < 16) ⊎ (37 < k) → byte c p ≡ k → ⊥
      other k (inl l) e = let y : ⊥ = omega arith in y
      other k (inr l) e = let y : ⊥ = omega arith in y

  constant-listed : byte c p ≡ 6 → operands_ok (instruction_at c p) ≡ within 1 8 (byte c (p + 3))
  unfolding instruction_at pick
  constant-listed e = rw e

  element-listed : From 8 9 (byte c p) → operands_ok (instruction_at c p) ≡ element_ok (byte c (p + 7)) (word c (p + 8))
  unfolding instruction_at pick
  element-listed h = is _ (byte c p) 8 (λ e. rw e) (λ n. let e : byte c p ≡ 9 = omega arith in rw e)

  conversion-listed : byte c p ≡ 43 → operands_ok (instruction_at c p) ≡ convertible (byte c (p + 1)) (byte c (p + 2))
  unfolding instruction_at typed_at pick
  conversion-listed e = rw e

  packed-listed : From 44 45 (byte c p) → operands_ok (instruction_at c p) ≡ packable (byte c (p + 1))
  unfolding instruction_at typed_at pick
  packed-listed h = is _ (byte c p) 44 (λ e. rw e) (λ n. let e : byte c p ≡ 45 = omega arith in rw e)

  -- ---- the instruction

  pub keeps-instruction : instruction_ok c p ≡ true → InstructionRules c p
  keeps-instruction z =
      record {
        code-byte = sym (known_is (byte c p)) ∙ lt-ltb _ _ w.known;
        type = types-kept (byte c p) (byte c (p + 1)) (λ h. sym (typed-listed h) ∙ w.listed);
        mcd-length = λ e. inside-true 1 8 _ (sym (constant-listed e) ∙ w.listed);
        element-size = λ h. keeps-width (byte c (p + 7)) (element h).0;
        element-count = λ h. inside-true 1 4096 _ (element h).1;
        from-type = λ e. inside-true 1 10 _ (conversion e).0;
        to_type = λ e. inside-true 1 10 _ (conversion e).1;
        packed-type = λ h. even-shift (byte c (p + 1)) (sym (packed-listed h) ∙ w.listed);
        uncut = w.inside;
      }
    where
      w : Whole c p
      w = whole c p z

      element : From 8 9 (byte c p) → (is_width (byte c (p + 7)) ≡ true) × (within 1 4096 (word c (p + 8)) ≡ true)
      element h = both_true (is_width (byte c (p + 7))) _ (sym (element-listed h) ∙ w.listed)

      conversion : byte c p ≡ 43 → (within 1 10 (byte c (p + 1)) ≡ true) × (within 1 10 (byte c (p + 2)) ≡ true)
      conversion e = both_true (within 1 10 (byte c (p + 1))) _ (sym (conversion-listed e) ∙ w.listed)

  ranged : (lo hi : ℕ) {x : ℕ} → From lo hi x → within lo hi x ≡ true
  ranged lo hi h = inside lo hi _ h.0 h.1

  element-kept : InstructionRules c p → From 8 9 (byte c p) → operands_ok (instruction_at c p) ≡ true
  element-kept r h =
      element-listed h ∙ rw (accepts-width (byte c (p + 7)) (r.element-size h)) (ranged 1 4096 (r.element-count h))

  typed-kept : InstructionRules c p → From 16 20 (byte c p) ⊎ From 24 37 (byte c p) → operands_ok (instruction_at c p) ≡ true
  typed-kept r h = typed-listed (wide h) ∙ types-taken (byte c p) (byte c (p + 1)) r.type h
    where
      wide : From 16 20 (byte c p) ⊎ From 24 37 (byte c p) → From 16 37 (byte c p)
      wide (inl k) = (omega arith, omega arith)
      wide (inr k) = (omega arith, omega arith)

  conversion-kept : InstructionRules c p → byte c p ≡ 43 → operands_ok (instruction_at c p) ≡ true
  conversion-kept r e = conversion-listed e ∙ rw (ranged 1 10 (r.from-type e)) (ranged 1 10 (r.to_type e))

  packed-kept : InstructionRules c p → From 44 45 (byte c p) → operands_ok (instruction_at c p) ≡ true
  packed-kept r h = packed-listed h ∙ shift-even (byte c (p + 1)) (r.packed-type h)

  pub past : (k : ℕ) → k ≤ byte c p → (byte c p ≡ k → ⊥) → k + 1 ≤ byte c p
  past k h n = omega arith

  last-two : within 41 45 (byte c p) ≡ true → (byte c p ≡ 41 → ⊥) → (byte c p ≡ 42 → ⊥) → (byte c p ≡ 43 → ⊥) → From 44 45 (byte c p)
  last-two a n m o =
      let h = inside-true 41 45 (byte c p) a in
      (omega arith, h.1)

  operands-kept : InstructionRules c p → operands_ok (instruction_at c p) ≡ true
  unfolding instruction_at typed_at pick
  operands-kept r =
      is _ (byte c p) 0 (λ e. rw e) (λ n0.
      is _ (byte c p) 1 (λ e. rw e) (λ n1.
      is _ (byte c p) 2 (λ e. rw e) (λ n2.
      is _ (byte c p) 3 (λ e. rw e) (λ n3.
      is _ (byte c p) 4 (λ e. rw e) (λ n4.
      is _ (byte c p) 5 (λ e. rw e) (λ n5.
      is _ (byte c p) 6 (λ e. constant-listed e ∙ ranged 1 8 (r.mcd-length e)) (λ n6.
      is _ (byte c p) 7 (λ e. rw e) (λ n7.
      is _ (byte c p) 41 (λ e. rw e) (λ n41.
      is _ (byte c p) 42 (λ e. rw e) (λ n42.
      is _ (byte c p) 43 (λ e. conversion-kept r e) (λ n43.
      either_way (within 0 9 (byte c p)) _ r.code-byte
      (λ a. element-kept r (past 7 (past 6 (past 5 (past 4 (past 3 (past 2 (past 1 (past 0 (inside-true 0 9 (byte c p) a).0 n0) n1) n2) n3) n4) n5) n6) n7, (inside-true 0 9 (byte c p) a).1))
      (λ d.
      either_way (within 16 20 (byte c p)) _ d (λ a. typed-kept r (inl (inside-true 16 20 (byte c p) a)))
      (λ g.
      either_way (within 24 37 (byte c p)) _ g (λ a. typed-kept r (inr (inside-true 24 37 (byte c p) a)))
      (λ a. packed-kept r (last-two a n41 n42 n43)))))))))))))))

  pub accepts-instruction : InstructionRules c p → instruction_ok c p ≡ true
  unfolding instruction_ok
  accepts-instruction r = rw (known_is (byte c p), r.code-byte, le-leb _ _ r.uncut) (operands-kept r)

  -- ---- the target

  pub target_is : {t : ℕ} → Target c p t → (goes_to (kind_at c p) ≡ true) × (target_at c p ≡ t)
  unfolding row_of pick kind_at target_at
  target_is (jmp e) = (rw e, rw e)
  target_is (jz-jnz h) = is _ (byte c p) 2 (λ e. (rw e, rw e)) (λ n. let e : byte c p ≡ 3 = omega arith in (rw e, rw e))
  target_is (calb e) = (rw e, rw e)
  target_is (calf e) = (rw e, rw e)

  pub has-target : goes_to (kind_at c p) ≡ true → Target c p (target_at c p)
  unfolding row_of pick kind_at target_at
  has-target o =
      is _ (byte c p) 1 (λ e. there (jmp e)) (λ n1.
      is _ (byte c p) 2 (λ e. there (jz-jnz (omega arith, omega arith))) (λ n2.
      is _ (byte c p) 3 (λ e. there (jz-jnz (omega arith, omega arith))) (λ n3.
      is _ (byte c p) 4 (λ e. there (calb e)) (λ n4.
      is _ (byte c p) 5 (λ e. there (calf e)) (λ n5.
      absurd-bool (sym (no_target c p n1 n2 n3 n4 n5) ∙ o))))))
    where
      there : {t : ℕ} → Target c p t → Target c p (target_at c p)
      there t = subst (Target c p) (sym (target_is t).1) t
