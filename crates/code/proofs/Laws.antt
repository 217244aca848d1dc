-- Laws of one command and one instruction. In order: what a computed test of all code bytes shows; the instruction by its code byte;
-- an accepted instruction; its length. Assumes nothing.
use mathlib.Core.Path.{◌≡◌, refl, sym, ap, ◌∙◌, subst}
use mathlib.Core.Bool.{Bool, true, false, not}
use mathlib.Core.List.{List, []}
use Prim.Native.Nat.{ℕ, zero, suc, ◌+◌, ◌≤◌, ◌<◌}
use native.Mathlib.Omega.{arith}
use borrow.Author.Tests.{ltb-true, leb-true, eqb-true, eqb-false, ne_eqb, lt-ltb, le-leb}
use lib.Dec.{T, ltb, leb, eqb, eqb→eq, leb→le}
use lib.ListN.{length, get_or}
use Rattle.verdict.specs.Verdict.{pick, both, either, within, upto}
use Rattle.verdict.proofs.Verdict.{absurd-bool, by-pick, skip, halt, yes, no, below, both_true, inside-true, next-zero, next-none, unless-zero}
use Rattle.memory.specs.Memory.{byte}
use Rattle.values.specs.Types.{takes}
use Rattle.code.specs.Commands.{three, Row, Passes, row_of, row_operands, places_of, length_of, known, Lengths}
use Rattle.code.specs.Instructions.{typed_at, instruction_at, instruction_length}
use Rattle.code.specs.Flow.{kind_of, is_target, first_word, goes_on, goes_to, kind_at, target_at}
use Rattle.code.specs.Profiles.{types_at, carries}
use Rattle.code.specs.Code.{operands_ok, instruction_ok, instruction_refusal, accepted_length}
use Rattle.code.specs.Judging.{LengthKnown}
use Rattle.code.specs.declared.Profile.{Profile}
use Rattle.code.specs.declared.Profile.TheVariants.{Full, Small}
use Rattle.code.specs.declared.Instruction.TheVariants.{Unknown}

-- b is k, or it is not
pub is : (P : Type 0) (b k : ℕ) → (b ≡ k → P) → ((b ≡ k → ⊥) → P) → P
is P b k f g = go (eqb b k) refl
  where
    go : (t : Bool) → eqb b k ≡ t → P
    go true e = f (eqb-true b k e)
    go false e = g (eqb-false b k e)

-- ---- all code bytes

pub both-T : (a b : Bool) → T (both a b) → T a × T b
both-T true b t = (tt, t)
both-T false b t = absurd t

abbrev pub same : Bool → Bool → Bool
same true b = b
same false b = not b

pub same-is : (a b : Bool) → T (same a b) → a ≡ b
same-is true true t = refl
same-is true false t = absurd t
same-is false true t = absurd t
same-is false false t = refl

-- the rule of a table of lengths at one code byte
abbrev fits : List ℕ → ℕ → Bool
fits table k = eqb (get_or table k 0) (length_of k)

abbrev none : List ℕ → ℕ → Bool
none table k = same (eqb (get_or table k 0) 0) (not (known k))

-- a table that the computed test finds right is right
pub table-right : (table : List ℕ) → T (upto (λ k. both (fits table k) (none table k)) 256) → Lengths table
table-right table t =
    record {
      right = λ code h. eqb→eq _ _ (rule code h).0;
      unknown = λ code h. same-is (eqb (get_or table code 0) 0) (not (known code)) (rule code h).1;
    }
  where
    rule : (code : ℕ) → code < 256 → T (fits table code) × T (none table code)
    rule code h = both-T (fits table code) (none table code) (below (λ k. both (fits table k) (none table k)) 256 t code h)

pub either-T : (a b : Bool) → T (either a b) → a ≡ false → T b
either-T true b t e = absurd (subst T e tt)
either-T false b t e = t

-- the commands with three addresses have eight bytes
pub three-length : (code : ℕ) → code < 256 → three code ≡ true → length_of code ≡ 8
unfolding length_of row_of pick kind_at target_at types_at
three-length code h e =
    eqb→eq _ _ (either-T _ _ (below (λ k. either (not (three k)) (eqb (length_of k) 8)) 256 tt code h) (ap not e))

-- the length of a code byte that is known
pub length_at : (k : ℕ) {code : ℕ} → code ≡ k → length_of code ≡ length_of k
length_at k e = ap length_of e

-- a code byte takes a type only if it is typed
untaken : ℕ → Bool
untaken k = not (either (within 16 17 k) (either (within 18 19 k) (either (eqb k 20) (either (within 24 27 k) (either (within 28 31 k) (within 32 37 k))))))

none-taken : (a b : Bool) → T (not (either a b)) → (a ≡ false) × T (not b)
none-taken true b t = absurd t
none-taken false b t = (refl, t)

last_taken : (a : Bool) → T (not a) → a ≡ false
last_taken true t = absurd t
last_taken false t = refl

pub takes-not : (code t : ℕ) → code < 256 → three code ≡ false → eqb code 27 ≡ false → takes code t ≡ false
unfolding takes pick untaken
takes-not code t h e f =
    let u : T (untaken code) = either-T _ _ (either-T _ _ (below (λ k. either (three k) (either (eqb k 27) (untaken k))) 256 tt code h) e) f in
    let a = none-taken (within 16 17 code) _ u in
    let b = none-taken (within 18 19 code) _ a.1 in
    let c = none-taken (eqb code 20) _ b.1 in
    let d = none-taken (within 24 27 code) _ c.1 in
    let g = none-taken (within 28 31 code) _ d.1 in
    rw (a.0, b.0, c.0, d.0, g.0, last_taken (within 32 37 code) g.1)

-- no instruction is longer than ten bytes, MCD's own apart
pub short : (code : ℕ) → code < 256 → length_of code ≤ 10
unfolding length_of row_of pick kind_at target_at types_at
short code h = leb→le _ _ (below (λ k. leb (length_of k) 10) 256 tt code h)

-- ---- the instruction by its code byte

-- the type byte of what is no other command
pub typed-takes : (c : List ℕ) (p : ℕ) → byte c p < 256 → operands_ok (typed_at c p Unknown) ≡ takes (byte c p) (byte c (p + 1))
unfolding typed_at pick
typed-takes c p h = go (three (byte c p)) refl
  where
    also : three (byte c p) ≡ false → (b : Bool) → eqb (byte c p) 27 ≡ b → operands_ok (typed_at c p Unknown) ≡ takes (byte c p) (byte c (p + 1))
    also e true f = rw (e, f)
    also e false f = rw (e, f) (sym (takes-not (byte c p) (byte c (p + 1)) h e f))

    go : (b : Bool) → three (byte c p) ≡ b → operands_ok (typed_at c p Unknown) ≡ takes (byte c p) (byte c (p + 1))
    go true e = rw e
    go false e = also e (eqb (byte c p) 27) refl

-- what has no code byte of another command is typed or unknown
pub typed-left : (c : List ℕ) (p : ℕ) → (byte c p ≡ 0 → ⊥) → (byte c p ≡ 1 → ⊥) → (byte c p ≡ 2 → ⊥) → (byte c p ≡ 3 → ⊥) → (byte c p ≡ 4 → ⊥)
    → (byte c p ≡ 5 → ⊥) → (byte c p ≡ 6 → ⊥) → (byte c p ≡ 7 → ⊥) → (byte c p ≡ 8 → ⊥) → (byte c p ≡ 9 → ⊥) → (byte c p ≡ 41 → ⊥) → (byte c p ≡ 42 → ⊥) → (byte c p ≡ 43 → ⊥)
    → (byte c p ≡ 44 → ⊥) → (byte c p ≡ 45 → ⊥) → instruction_at c p ≡ typed_at c p Unknown
unfolding instruction_at pick
typed-left c p n0 n1 n2 n3 n4 n5 n6 n7 n8 n9 n41 n42 n43 n44 n45 =
    simp (
      ne_eqb _ _ n0,
      ne_eqb _ _ n1,
      ne_eqb _ _ n2,
      ne_eqb _ _ n3,
      ne_eqb _ _ n4,
      ne_eqb _ _ n5,
      ne_eqb _ _ n6,
      ne_eqb _ _ n7,
      ne_eqb _ _ n8,
      ne_eqb _ _ n9,
      ne_eqb _ _ n41,
      ne_eqb _ _ n42,
      ne_eqb _ _ n43,
      ne_eqb _ _ n44,
      ne_eqb _ _ n45,
    )

-- only the code bytes 1 to 5 have a T
pub no_target : (c : List ℕ) (p : ℕ) → (byte c p ≡ 1 → ⊥) → (byte c p ≡ 2 → ⊥) → (byte c p ≡ 3 → ⊥) → (byte c p ≡ 4 → ⊥) → (byte c p ≡ 5 → ⊥)
    → goes_to (kind_at c p) ≡ false
unfolding row_of kind_at target_at types_at
no_target c p n1 n2 n3 n4 n5 =
    let P : Row → Type 0 = λ (r : Row). goes_to (kind_of r) ≡ false in
    by-pick P _ _ _ (λ e. refl)
    (λ e. by-pick P _ _ _ (λ z. absurd (n1 (eqb-true (byte c p) 1 z)))
    (λ e. by-pick P _ _ _ (λ z. absurd (branch (inside-true 2 3 (byte c p) z)))
    (λ e. by-pick P _ _ _ (λ z. absurd (n4 (eqb-true (byte c p) 4 z)))
    (λ e. by-pick P _ _ _ (λ z. absurd (n5 (eqb-true (byte c p) 5 z)))
    (λ e. by-pick P _ _ _ (λ z. refl)
    (λ e. by-pick P _ _ _ (λ z. refl)
    (λ e. by-pick P _ _ _ (λ z. refl)
    (λ e. by-pick P _ _ _ (λ z. refl)
    (λ e. by-pick P _ _ _ (λ z. refl)
    (λ e. by-pick P _ _ _ (λ z. refl)
    (λ e. by-pick P _ _ _ (λ z. refl) (λ e. by-pick P _ _ _ (λ z. refl) (λ e. refl)))))))))))))
  where
    branch : (2 ≤ byte c p) × (byte c p ≤ 3) → ⊥
    branch h = is ⊥ (byte c p) 2 n2 (λ n. n3 (omega arith))

-- what the row of a command says of T and of control: without a T it has no place of one; from MCD on it goes on and has no T
no_place : (code : ℕ) → goes_to (kind_of (row_of code)) ≡ false → places_of is_target 1 (row_operands (row_of code)) ≡ []
unfolding row_of kind_at target_at types_at
no_place code =
    let P : Row → Type 0 = λ (r : Row). goes_to (kind_of r) ≡ false → places_of is_target 1 (row_operands r) ≡ [] in
    by-pick P _ _ _ (λ z e. refl)
    (λ z. by-pick P _ _ _ (λ z e. absurd-bool (sym e))
    (λ z. by-pick P _ _ _ (λ z e. absurd-bool (sym e))
    (λ z. by-pick P _ _ _ (λ z e. absurd-bool (sym e))
    (λ z. by-pick P _ _ _ (λ z e. absurd-bool (sym e))
    (λ z. by-pick P _ _ _ (λ z e. refl)
    (λ z. by-pick P _ _ _ (λ z e. refl)
    (λ z. by-pick P _ _ _ (λ z e. refl)
    (λ z. by-pick P _ _ _ (λ z e. refl)
    (λ z. by-pick P _ _ _ (λ z e. refl)
    (λ z. by-pick P _ _ _ (λ z e. refl)
    (λ z. by-pick P _ _ _ (λ z e. refl) (λ z. by-pick P _ _ _ (λ z e. refl) (λ z e. refl)))))))))))))

-- the same of the instruction at p
pub without_target : (c : List ℕ) (p : ℕ) → goes_to (kind_at c p) ≡ false → target_at c p ≡ 0
unfolding kind_at target_at
without_target c p e = ap (first_word c p) (no_place (byte c p) e)

row-passes : (code : ℕ) → 6 ≤ code → kind_of (row_of code) ≡ Passes
unfolding row_of kind_at target_at types_at
row-passes code h =
    let P : Row → Type 0 = λ (r : Row). kind_of r ≡ Passes in
    by-pick P _ _ _ (λ z. absurd (low 0 (eqb-true code 0 z) (omega arith)))
    (λ z. by-pick P _ _ _ (λ z. absurd (low 1 (eqb-true code 1 z) (omega arith)))
    (λ z. by-pick P _ _ _ (λ z. absurd (branch (inside-true 2 3 code z).1))
    (λ z. by-pick P _ _ _ (λ z. absurd (low 4 (eqb-true code 4 z) (omega arith)))
    (λ z. by-pick P _ _ _ (λ z. absurd (low 5 (eqb-true code 5 z) (omega arith)))
    (λ z. by-pick P _ _ _ (λ z. refl)
    (λ z. by-pick P _ _ _ (λ z. refl)
    (λ z. by-pick P _ _ _ (λ z. refl)
    (λ z. by-pick P _ _ _ (λ z. refl)
    (λ z. by-pick P _ _ _ (λ z. refl)
    (λ z. by-pick P _ _ _ (λ z. refl)
    (λ z. by-pick P _ _ _ (λ z. refl) (λ z. by-pick P _ _ _ (λ z. refl) (λ z. refl)))))))))))))
  where
    low : (k : ℕ) → code ≡ k → k < 6 → ⊥
    low k e l = omega arith

    branch : code ≤ 3 → ⊥
    branch l = omega arith

pub kind-passes : (c : List ℕ) (p : ℕ) → 6 ≤ byte c p → kind_at c p ≡ Passes
unfolding kind_at
kind-passes c p h = row-passes (byte c p) h

-- RETURN and JMP do not go on
pub high : (c : List ℕ) (p : ℕ) → goes_on (kind_at c p) ≡ true → 2 ≤ byte c p
unfolding row_of pick kind_at target_at types_at
high c p o = go (byte c p) refl
  where
    go : (b : ℕ) → byte c p ≡ b → 2 ≤ byte c p
    go zero e = absurd-bool (rw e at o)
    go (suc zero) e = absurd-bool (rw e at o)
    go (suc (suc n)) e = omega arith

-- ---- an instruction, accepted or refused

-- an accepted instruction is known, lies in the code, and its operands lie on their lists
pub record Whole (c : List ℕ) (p : ℕ) : Type 0 where
  pub known : 0 < length_of (byte c p)
  pub long : 0 < instruction_length c p
  pub fixed : p + length_of (byte c p) ≤ length c
  pub inside : p + instruction_length c p ≤ length c
  pub listed : operands_ok (instruction_at c p) ≡ true

-- MCD only adds to the table's length
pub fixed-part : (c : List ℕ) (p : ℕ) → length_of (byte c p) ≤ instruction_length c p
unfolding instruction_length
fixed-part c p = omega arith

pub whole : (c : List ℕ) (p : ℕ) → instruction_ok c p ≡ true → Whole c p
unfolding instruction_ok
whole c p z =
    let a = both_true (ltb 0 (length_of (byte c p))) _ z in
    let b = both_true (leb (p + instruction_length c p) (length c)) _ a.1 in
    let k : 0 < length_of (byte c p) = ltb-true _ _ a.0 in
    let i : p + instruction_length c p ≤ length c = leb-true _ _ b.0 in
    let l = fixed-part c p in
    record { known = k; long = omega arith; fixed = omega arith; inside = i; listed = b.1 }

pub accepted : (o : Profile) (c : List ℕ) (p : ℕ) → instruction_refusal o c p ≡ 0 → instruction_ok c p ≡ true
unfolding instruction_refusal
accepted o c p z = unless-zero _ 5 (next-zero _ _ z).0

-- the full profile is not the small one
small : Profile → Bool
small Full = false
small Small = true

pub full-small {ℓ} : {A : Type ℓ} → Full ≡ Small → A
unfolding small
full-small e = absurd-bool (ap small e)

-- accepted and carried by the profile, or not carried
pub carried_none : (o : Profile) (c : List ℕ) (p : ℕ) → instruction_ok c p ≡ true → carries o (types_at c p) ≡ true → instruction_refusal o c p ≡ 0
unfolding instruction_refusal
carried_none o c p e h = next-none _ _ (yes _ 6 e) (yes _ 27 h)

pub carried-not : (o : Profile) (c : List ℕ) (p : ℕ) → instruction_ok c p ≡ true → carries o (types_at c p) ≡ false → 27 ≡ instruction_refusal o c p
unfolding instruction_refusal
carried-not o c p e h = skip (yes _ 6 e) (sym (no _ 27 h))

-- ---- the length of an accepted instruction

length-accepted : (c : List ℕ) (p : ℕ) → 0 < length_of (byte c p) → p + instruction_length c p ≤ length c → operands_ok (instruction_at c p) ≡ true
    → instruction_length c p ≡ accepted_length c p
unfolding accepted_length instruction_ok pick
length-accepted c p h i e = rw (lt-ltb _ _ h, le-leb _ _ i, e)

length_none : (c : List ℕ) (p : ℕ) → (Whole c p → ⊥) → 0 ≡ accepted_length c p
unfolding accepted_length pick
length_none c p h = go (instruction_ok c p) refl
  where
    go : (b : Bool) → instruction_ok c p ≡ b → 0 ≡ accepted_length c p
    go true e = absurd (h (whole c p e))
    go false e = rw e

pub length_whole : (c : List ℕ) (p n : ℕ) → LengthKnown c p n → 0 < n → p + n ≤ length c → operands_ok (instruction_at c p) ≡ true → n ≡ accepted_length c p
length_whole c p n s h i e =
    let o = s.own e in
    let a = s.all e in
    sym a ∙ length-accepted c p (omega arith) (omega arith) e

pub length_cut : (c : List ℕ) (p n : ℕ) → LengthKnown c p n → length c < p + n → 0 ≡ accepted_length c p
length_cut c p n s h = length_none c p (λ w. let i = w.inside in let e = s.all w.listed in let y : ⊥ = omega arith in y)

pub length-unlisted : (c : List ℕ) (p : ℕ) → operands_ok (instruction_at c p) ≡ false → 0 ≡ accepted_length c p
length-unlisted c p e = length_none c p (λ w. absurd-bool (sym e ∙ w.listed))

-- MCD: its n bytes follow its own
module _ (c : List ℕ) (p : ℕ) (mcd : byte c p ≡ 6) where
  own-four : length_of (byte c p) ≡ 4
  unfolding length_of row_of pick kind_at target_at types_at
  own-four = rw mcd

  all-constant : instruction_length c p ≡ 4 + byte c (p + 3)
  unfolding instruction_length length_of row_of pick kind_at target_at types_at
  all-constant = rw mcd

  listed-constant : operands_ok (instruction_at c p) ≡ within 1 8 (byte c (p + 3))
  unfolding instruction_at pick
  listed-constant = rw mcd

  pub constant-short : length c < p + 4 → 0 ≡ accepted_length c p
  constant-short h = length_none c p (λ w. let i = w.fixed in let e = own-four in let y : ⊥ = omega arith in y)

  pub constant-cut : length c < p + (4 + byte c (p + 3)) → 0 ≡ accepted_length c p
  constant-cut h = length_none c p (λ w. let i = w.inside in let e = all-constant in let y : ⊥ = omega arith in y)

  pub constant-unlisted : within 1 8 (byte c (p + 3)) ≡ false → 0 ≡ accepted_length c p
  constant-unlisted e = length-unlisted c p (listed-constant ∙ e)

  pub constant-whole : p + (4 + byte c (p + 3)) ≤ length c → within 1 8 (byte c (p + 3)) ≡ true → 4 + byte c (p + 3) ≡ accepted_length c p
  constant-whole h e =
      let o = own-four in
      let a = all-constant in
      sym a ∙ length-accepted c p (omega arith) (omega arith) (listed-constant ∙ e)

-- what is none of the other commands has eight bytes if it takes its type
pub typed-sized : (c : List ℕ) (p : ℕ) → byte c p < 256 → (byte c p ≡ 6 → ⊥) → (byte c p ≡ 27 → ⊥)
    → operands_ok (instruction_at c p) ≡ takes (byte c p) (byte c (p + 1)) → LengthKnown c p 8
unfolding instruction_length pick
typed-sized c p h n6 n27 o =
    record { own = eight; all = λ e. rw (ne_eqb (byte c p) 6 n6) (omega (arith, eight e)) }
  where
    go : operands_ok (instruction_at c p) ≡ true → (b : Bool) → three (byte c p) ≡ b → length_of (byte c p) ≡ 8
    go e true q = three-length (byte c p) h q
    go e false q = absurd-bool (sym (takes-not (byte c p) (byte c (p + 1)) h q (ne_eqb (byte c p) 27 n27)) ∙ sym o ∙ e)

    eight : operands_ok (instruction_at c p) ≡ true → length_of (byte c p) ≡ 8
    eight e = go e (three (byte c p)) refl

-- a length is an acceptance, no length a refusal
pub length_taken : (c : List ℕ) (p n : ℕ) → n ≡ accepted_length c p → (n ≡ 0 → ⊥) → (instruction_ok c p ≡ true) × (n ≡ instruction_length c p)
unfolding accepted_length pick
length_taken c p n q nz = go (instruction_ok c p) refl
  where
    go : (b : Bool) → instruction_ok c p ≡ b → (instruction_ok c p ≡ true) × (n ≡ instruction_length c p)
    go true e = (e, q ∙ rw e)
    go false e = absurd (nz (q ∙ rw e))

pub length-refused : (o : Profile) (c : List ℕ) (p n : ℕ) → n ≡ accepted_length c p → n ≡ 0 → 6 ≡ instruction_refusal o c p
unfolding accepted_length instruction_refusal pick
length-refused o c p n q z = go (instruction_ok c p) refl
  where
    go : (b : Bool) → instruction_ok c p ≡ b → 6 ≡ instruction_refusal o c p
    go true e =
        let w = whole c p e in
        let i : n ≡ instruction_length c p = q ∙ rw e in
        absurd (let y : ⊥ = omega (arith, w.long) in y)
    go false e = halt 5 _ (no _ 6 e)
