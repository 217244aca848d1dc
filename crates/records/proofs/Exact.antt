-- The tests of `specs/Records` hold exactly if the rules of `specs/Rules` do. In order: tests and bits; a core's record; a variable's one
-- writer; a core's part in a variable; a variable's record; two variables. Each both ways. Assumes nothing.
use mathlib.Core.Path.{◌≡◌, refl, sym, ◌∙◌}
use mathlib.Core.Bool.{Bool, true, false}
use mathlib.Core.List.{List}
use mathlib.Core.Logic.{inl, inr}
use Prim.Native.Nat.{ℕ, zero, suc, ◌+◌, ◌/◌, ◌^◌, ◌≤◌, ◌<◌}
use native.Mathlib.Nat.{mod-lt}
use native.Mathlib.Omega.{arith}
use borrow.Author.Tests.{lt-ltb, le-leb, eq-eqb, ltb-true, ltb-false, leb-true, eqb-true, eqb-false}
use lib.Dec.{T, ltb, leb, eqb, lit<}
use Rattle.verdict.specs.Verdict.{pick, both, either, within}
use Rattle.verdict.proofs.Truth.{holds, tested, fails, either_left, either-right}
use Rattle.verdict.proofs.Verdict.{absurd-bool, both_true, both-not, inside, inside-true}
use Rattle.protocol.specs.Variables.{Variable, local, reads_it, writes_it, Clear}
use Rattle.code.specs.declared.Profile.{Profile}
use Rattle.code.specs.Profiles.{most_data}
use Rattle.code.specs.Code.{is_width}
use Rattle.code.proofs.Rules.{keeps-width, accepts-width}
use Rattle.records.specs.File.{cores, data_size, input_size}
use Rattle.records.specs.Records.{core_ok, bit, has_one_writer, used_by, place_ok, part_ok, parts_ok, variable_ok, meets, meets_shared, meets_in, overlap}
use Rattle.records.specs.Rules.{CoreRulesFor, Writer, VariableRules, Apart}

-- ---- tests and bits

either-none : (a b : Bool) → either a b ≡ false → (a ≡ false) × (b ≡ false)
either-none true b e = absurd-bool (sym e)
either-none false b e = (refl, e)

both-no : (a b : Bool) → a ≡ true → both a b ≡ false → b ≡ false
both-no true b e h = h
both-no false b e h = absurd-bool e

-- bit k of the attribute byte, and the core that it names
writes-bit : (k : ℕ) (v : Variable) → T (writes_it k v) → (k < 4) × (bit v.attribute k ≡ 1)
unfolding writes_it
writes-bit k v t =
    let a = both_true (ltb k 4) (eqb (bit v.attribute k) 1) (holds _ t) in
    (ltb-true _ _ a.0, eqb-true _ _ a.1)

bit-writes : (k : ℕ) (v : Variable) → k < 4 → bit v.attribute k ≡ 1 → T (writes_it k v)
unfolding writes_it
bit-writes k v h e = tested (both (ltb k 4) (eqb (bit v.attribute k) 1)) (rw (lt-ltb _ _ h) (eq-eqb _ _ e))

reads-low : (k : ℕ) (v : Variable) → T (reads_it k v) → k < 4
unfolding reads_it
reads-low k v t = ltb-true _ _ (both_true (ltb k 4) (eqb (bit v.attribute (4 + k)) 1) (holds _ t)).0

pub named-low : (k : ℕ) (v : Variable) → T (used_by k v) → k < 4
named-low k v t = go (reads_it k v) (writes_it k v) refl refl t
  where
    go : (r w : Bool) → reads_it k v ≡ r → writes_it k v ≡ w → T (either r w) → k < 4
    go true w e f u = reads-low k v (tested _ e)
    go false true e f u = (writes-bit k v (tested _ f)).0
    go false false e f u = absurd u

-- ---- a core's record

pub core-rules : (o : Profile) (f : List ℕ) (k : ℕ) → core_ok o f k ≡ true → CoreRulesFor o f k
unfolding core_ok
core-rules o f k z =
    let a = both_true (within 1 (most_data o) (data_size f k)) _ z in
    let b = both_true (leb (input_size f k) (data_size f k)) _ a.1 in
    let s = inside-true 1 (most_data o) (data_size f k) a.0 in
    record { some-data = s.0; most-data = s.1; inputs = leb-true _ _ b.0; some-limit = leb-true _ _ b.1 }

pub core-ok : (o : Profile) (f : List ℕ) (k : ℕ) → CoreRulesFor o f k → core_ok o f k ≡ true
unfolding core_ok
core-ok o f k r = rw (inside 1 (most_data o) (data_size f k) r.some-data r.most-data, le-leb _ _ r.inputs) (le-leb _ _ r.some-limit)

-- ---- exactly one writer

low_bit : (a k : ℕ) → bit a k < 2
low_bit a k = mod-lt (a / 2 ^ k) (lit< tt)

abbrev writers : ℕ → ℕ
writers a = bit a 0 + bit a 1 + bit a 2 + bit a 3

two : (a j k : ℕ) → j < k → k < 4 → bit a j + bit a k ≤ writers a
two a j zero h l = absurd (let y : ⊥ = omega arith in y)
two a zero (suc zero) h l = omega arith
two a (suc j) (suc zero) h l = absurd (let y : ⊥ = omega arith in y)
two a zero (suc (suc zero)) h l = omega arith
two a (suc zero) (suc (suc zero)) h l = omega arith
two a (suc (suc j)) (suc (suc zero)) h l = absurd (let y : ⊥ = omega arith in y)
two a zero (suc (suc (suc zero))) h l = omega arith
two a (suc zero) (suc (suc (suc zero))) h l = omega arith
two a (suc (suc zero)) (suc (suc (suc zero))) h l = omega arith
two a (suc (suc (suc j))) (suc (suc (suc zero))) h l = absurd (let y : ⊥ = omega arith in y)
two a j (suc (suc (suc (suc k)))) h l = absurd (let y : ⊥ = omega arith in y)

-- with one bit set in all, two that are set are one
same_bit : (a j k : ℕ) → writers a ≡ 1 → j < 4 → k < 4 → bit a j ≡ 1 → bit a k ≡ 1 → k ≡ j
same_bit a j k e h l x y = go (ltb j k) refl (ltb k j) refl
  where
    go : (p : Bool) → ltb j k ≡ p → (q : Bool) → ltb k j ≡ q → k ≡ j
    go true p q' q =
        let t = two a j k (ltb-true _ _ p) l in
        absurd (let z : ⊥ = omega arith in z)
    go false p true q =
        let t = two a k j (ltb-true _ _ q) h in
        absurd (let z : ⊥ = omega arith in z)
    go false p false q =
        let s : k ≤ j = ltb-false _ _ p in
        let t : j ≤ k = ltb-false _ _ q in
        omega arith

pub writer : (v : Variable) → has_one_writer v.attribute ≡ true → Writer v
unfolding has_one_writer
writer v z = go (eqb (bit a 0) 1) refl (eqb (bit a 1) 1) refl (eqb (bit a 2) 1) refl
  where
    a : ℕ
    a = v.attribute

    one : writers v.attribute ≡ 1
    one = eqb-true (writers v.attribute) 1 z

    at : (j : ℕ) → j < 4 → bit v.attribute j ≡ 1 → Writer v
    at j h e =
        record {
          core = j;
          writes = bit-writes j v h e;
          only = λ k t. let w = writes-bit k v t in same_bit v.attribute j k one h w.0 e w.1;
        }

    go : (p : Bool) → eqb (bit v.attribute 0) 1 ≡ p → (q : Bool) → eqb (bit v.attribute 1) 1 ≡ q → (r : Bool) → eqb (bit v.attribute 2) 1 ≡ r → Writer v
    go true e q f r g = at 0 (omega arith) (eqb-true _ _ e)
    go false e true f r g = at 1 (omega arith) (eqb-true _ _ f)
    go false e false f true g = at 2 (omega arith) (eqb-true _ _ g)
    go false e false f false g =
        let x : (bit v.attribute 0 ≡ 1 → ⊥) = eqb-false _ _ e in
        let y : (bit v.attribute 1 ≡ 1 → ⊥) = eqb-false _ _ f in
        let z : (bit v.attribute 2 ≡ 1 → ⊥) = eqb-false _ _ g in
        at 3 (omega arith) (omega (arith, one, low_bit v.attribute 0, low_bit v.attribute 1, low_bit v.attribute 2))

not-writes : (v : Variable) (k : ℕ) → k < 4 → (T (writes_it k v) → ⊥) → bit v.attribute k ≡ 0
not-writes v k h n =
    let x : (bit v.attribute k ≡ 1 → ⊥) = λ e. n (bit-writes k v h e) in
    omega (arith, low_bit v.attribute k)

sum_one : (v : Variable) (w : ℕ) → w < 4 → bit v.attribute w ≡ 1 → ((k : ℕ) → k < 4 → (k ≡ w → ⊥) → bit v.attribute k ≡ 0) → writers v.attribute ≡ 1
sum_one v zero h e o =
    omega (arith, o 1 (omega arith) (λ z. let y : ⊥ = omega arith in y), o 2 (omega arith) (λ z. let y : ⊥ = omega arith in y), o 3 (omega arith) (λ z. let y : ⊥ = omega arith in y))
sum_one v (suc zero) h e o =
    omega (arith, o 0 (omega arith) (λ z. let y : ⊥ = omega arith in y), o 2 (omega arith) (λ z. let y : ⊥ = omega arith in y), o 3 (omega arith) (λ z. let y : ⊥ = omega arith in y))
sum_one v (suc (suc zero)) h e o =
    omega (arith, o 0 (omega arith) (λ z. let y : ⊥ = omega arith in y), o 1 (omega arith) (λ z. let y : ⊥ = omega arith in y), o 3 (omega arith) (λ z. let y : ⊥ = omega arith in y))
sum_one v (suc (suc (suc zero))) h e o =
    omega (arith, o 0 (omega arith) (λ z. let y : ⊥ = omega arith in y), o 1 (omega arith) (λ z. let y : ⊥ = omega arith in y), o 2 (omega arith) (λ z. let y : ⊥ = omega arith in y))
sum_one v (suc (suc (suc (suc w)))) h e o = absurd (let y : ⊥ = omega arith in y)

pub one_writer : (v : Variable) → Writer v → has_one_writer v.attribute ≡ true
unfolding has_one_writer
one_writer v w =
    let b = writes-bit w.core v w.writes in
    eq-eqb (writers v.attribute) 1 (sum_one v w.core b.0 b.1 (λ k h n. not-writes v k h (λ t. n (w.only k t))))

-- ---- a core's part in a variable

module _ (f : List ℕ) (v : Variable) (k : ℕ) where
  -- what the part says, by how the core is named
  part-both : part_ok f v k ≡ true → T (reads_it k v) → T (writes_it k v) → ⊥
  unfolding part_ok pick
  part-both z r w =
      let e : false ≡ true = rw (holds (reads_it k v) r, holds (writes_it k v) w) at z in
      absurd-bool e

  part-named : part_ok f v k ≡ true → T (used_by k v) → place_ok f v k ≡ true
  unfolding part_ok pick
  part-named z t = go (reads_it k v) (writes_it k v) refl refl t
    where
      go : (r w : Bool) → reads_it k v ≡ r → writes_it k v ≡ w → T (either r w) → place_ok f v k ≡ true
      go true true a b u = absurd (part-both z (tested _ a) (tested _ b))
      go true false a b u = rw (a, b) at z
      go false true a b u = rw (a, b) at z
      go false false a b u = absurd u

  part-unnamed : part_ok f v k ≡ true → (T (used_by k v) → ⊥) → local k v ≡ 0
  unfolding part_ok pick
  part-unnamed z n =
      let a : reads_it k v ≡ false = fails (reads_it k v) (λ t. n (either_left (reads_it k v) (writes_it k v) t)) in
      let b : writes_it k v ≡ false = fails (writes_it k v) (λ t. n (either-right (reads_it k v) (writes_it k v) t)) in
      eqb-true (local k v) 0 (rw (a, b) at z)

  -- and back
  part-ok : (T (reads_it k v) → T (writes_it k v) → ⊥) → (T (used_by k v) → place_ok f v k ≡ true) → ((T (used_by k v) → ⊥) → local k v ≡ 0) → part_ok f v k ≡ true
  unfolding part_ok pick
  part-ok one place none = go (reads_it k v) (writes_it k v) refl refl
    where
      go : (r w : Bool) → reads_it k v ≡ r → writes_it k v ≡ w → part_ok f v k ≡ true
      go true true a b = absurd (one (tested _ a) (tested _ b))
      go true false a b = rw (a, b) (place (either_left (reads_it k v) (writes_it k v) (tested _ a)))
      go false true a b = rw (a, b) (place (either-right (reads_it k v) (writes_it k v) (tested _ b)))
      go false false a b =
          let n : (T (used_by k v) → ⊥) = λ t. rw (a, b) at t in
          rw (a, b) (eq-eqb (local k v) 0 (none n))

  -- a named core's place
  pub record Placed : Type 0 where
    pub known : k < cores f
    pub past-inputs : input_size f k ≤ local k v
    pub in-data : local k v + v.width ≤ data_size f k

  placed : place_ok f v k ≡ true → Placed
  unfolding place_ok
  placed z =
      let a = both_true (ltb k (cores f)) _ z in
      let b = both_true (leb (input_size f k) (local k v)) _ a.1 in
      record { known = ltb-true _ _ a.0; past-inputs = leb-true _ _ b.0; in-data = leb-true _ _ b.1 }

  place_ok_lem : Placed → place_ok f v k ≡ true
  unfolding place_ok
  place_ok_lem p = rw (lt-ltb _ _ p.known, le-leb _ _ p.past-inputs) (le-leb _ _ p.in-data)

-- ---- a variable's record

part_of : (f : List ℕ) (v : Variable) → parts_ok f v ≡ true → (k : ℕ) → k < 4 → part_ok f v k ≡ true
unfolding parts_ok
part_of f v z zero h = (both_true (part_ok f v 0) _ z).0
part_of f v z (suc zero) h = (both_true (part_ok f v 1) _ (both_true (part_ok f v 0) _ z).1).0
part_of f v z (suc (suc zero)) h = (both_true (part_ok f v 2) _ (both_true (part_ok f v 1) _ (both_true (part_ok f v 0) _ z).1).1).0
part_of f v z (suc (suc (suc zero))) h = (both_true (part_ok f v 2) _ (both_true (part_ok f v 1) _ (both_true (part_ok f v 0) _ z).1).1).1
part_of f v z (suc (suc (suc (suc k)))) h = absurd (let y : ⊥ = omega arith in y)

pub variable-rules : (f : List ℕ) (v : Variable) → variable_ok f v ≡ true → VariableRules f v
unfolding variable_ok
variable-rules f v z =
    record {
      width = keeps-width v.width a.0;
      writer = writer v b.0;
      one_way = λ k r w. part-both f v k (part k (reads-low k v r)) r w;
      known = λ k t. (at k t).known;
      in-shared = leb-true _ _ c.0;
      in-data = λ k t. (at k t).in-data;
      past-inputs = λ k t. (at k t).past-inputs;
      unnamed = λ k h n. part-unnamed f v k (part k h) n;
    }
  where
    a : (is_width v.width ≡ true) × (both (has_one_writer v.attribute) (both (leb (v.place + v.width) 1024) (parts_ok f v)) ≡ true)
    a = both_true (is_width v.width) _ z

    b : (has_one_writer v.attribute ≡ true) × (both (leb (v.place + v.width) 1024) (parts_ok f v) ≡ true)
    b = both_true (has_one_writer v.attribute) _ a.1

    c : (leb (v.place + v.width) 1024 ≡ true) × (parts_ok f v ≡ true)
    c = both_true (leb (v.place + v.width) 1024) _ b.1

    part : (k : ℕ) → k < 4 → part_ok f v k ≡ true
    part k h = part_of f v c.1 k h

    at : (k : ℕ) → T (used_by k v) → Placed f v k
    at k t = placed f v k (part-named f v k (part k (named-low k v t)) t)

pub variable-ok : (f : List ℕ) (v : Variable) → VariableRules f v → variable_ok f v ≡ true
unfolding variable_ok parts_ok
variable-ok f v r =
    rw (accepts-width v.width r.width, one_writer v r.writer, le-leb _ _ r.in-shared, part 0 (omega arith), part 1 (omega arith), part 2 (omega arith)) (part 3 (omega arith))
  where
    part : (k : ℕ) → k < 4 → part_ok f v k ≡ true
    part k h =
        part-ok f v k (r.one_way k)
        (λ t. place_ok_lem f v k (record { known = r.known k t; past-inputs = r.past-inputs k t; in-data = r.in-data k t }))
        (r.unnamed k h)

-- ---- two variables

clear : (x a y b : ℕ) → meets x a y b ≡ false → Clear x a y b
unfolding meets
clear x a y b z = go (ltb x (y + b)) refl
  where
    go : (t : Bool) → ltb x (y + b) ≡ t → Clear x a y b
    go true e = inl (ltb-false _ _ (both-no (ltb x (y + b)) _ e z))
    go false e = inr (ltb-false _ _ e)

clear-not : (x a y b : ℕ) → Clear x a y b → meets x a y b ≡ false
unfolding meets
clear-not x a y b (inl h) = both-not (ltb x (y + b)) (ltb y (x + a)) (λ p q. let k = ltb-true y (x + a) q in let z : ⊥ = omega arith in z)
clear-not x a y b (inr h) = both-not (ltb x (y + b)) (ltb y (x + a)) (λ p q. let k = ltb-true x (y + b) p in let z : ⊥ = omega arith in z)

meets-named : (k : ℕ) (v u : Variable) → meets_in k v u ≡ false → T (used_by k v) → T (used_by k u) → Clear (local k v) v.width (local k u) u.width
unfolding meets_in
meets-named k v u z t s = clear _ _ _ _ (both-no (used_by k u) _ (holds _ s) (both-no (used_by k v) _ (holds _ t) z))

named-meets : (k : ℕ) (v u : Variable) → (T (used_by k v) → T (used_by k u) → Clear (local k v) v.width (local k u) u.width) → meets_in k v u ≡ false
unfolding meets_in
named-meets k v u h =
    both-not (used_by k v) _
    (λ a b.
    let c = both_true (used_by k u) _ b in
    absurd-bool (sym (clear-not _ _ _ _ (h (tested _ a) (tested _ c.0))) ∙ c.1))

pub apart : (v u : Variable) → overlap v u ≡ false → Apart v u
unfolding overlap meets_shared
apart v u z = record { in-shared = clear _ _ _ _ a.0; in-data = λ k t s. meets-named k v u (each k (named-low k v t)) t s }
  where
    a : (meets_shared v u ≡ false) × (either (meets_in 0 v u) (either (meets_in 1 v u) (either (meets_in 2 v u) (meets_in 3 v u))) ≡ false)
    a = either-none (meets_shared v u) _ z

    b : (meets_in 0 v u ≡ false) × (either (meets_in 1 v u) (either (meets_in 2 v u) (meets_in 3 v u)) ≡ false)
    b = either-none (meets_in 0 v u) _ a.1

    c : (meets_in 1 v u ≡ false) × (either (meets_in 2 v u) (meets_in 3 v u) ≡ false)
    c = either-none (meets_in 1 v u) _ b.1

    d : (meets_in 2 v u ≡ false) × (meets_in 3 v u ≡ false)
    d = either-none (meets_in 2 v u) _ c.1

    each : (k : ℕ) → k < 4 → meets_in k v u ≡ false
    each zero h = b.0
    each (suc zero) h = c.0
    each (suc (suc zero)) h = d.0
    each (suc (suc (suc zero))) h = d.1
    each (suc (suc (suc (suc k)))) h = absurd (let y : ⊥ = omega arith in y)

pub overlap-not : (v u : Variable) → Apart v u → overlap v u ≡ false
unfolding overlap meets_shared
overlap-not v u r =
    rw (
      clear-not v.place v.width u.place u.width r.in-shared,
      named-meets 0 v u (r.in-data 0),
      named-meets 1 v u (r.in-data 1),
      named-meets 2 v u (r.in-data 2),
    )
    (named-meets 3 v u (r.in-data 3))
