-- `start-values`: what the fresh state of an accepted file holds, as specs/Fresh claims it. In order: bytes of a stretch that was written; a core's start
-- values; the writer of a variable; shared memory; files of the old form; the claim. Assumes nothing.
use mathlib.Core.Path.{◌≡◌, refl, sym, ap, ◌∙◌, subst}
use mathlib.Core.Bool.{Bool, true, false}
use mathlib.Core.Logic.{◌≢◌, ◌⊎◌, inl, inr}
use mathlib.Core.List.{List, [], ◌∷◌, map}
use Prim.Native.Nat.{ℕ, zero, suc, ◌+◌, ◌*◌, ◌≤◌, ◌<◌}
use native.Mathlib.Omega.{arith}
use borrow.Author.Tests.{ltb-true, ltb-false}
use lib.Dec.{T, ltb}
use lib.ListN.{length, set, take, drop, length-replicate, length-set}
use lib.Seq.{get_or-set_same, get_or-set_other, get_or-take, get_or-drop}
use Rattle.verdict.specs.Verdict.{pick}
use Rattle.verdict.proofs.Verdict.{pick_true, pick-false}
use Rattle.verdict.proofs.Truth.{holds, tested, both_of, either-right}
use Rattle.memory.specs.Memory.{splice, part, byte, word}
use Rattle.memory.proofs.Laws.{length-splice, length_part}
use Rattle.protocol.specs.State.{Core, core}
use Rattle.protocol.specs.Variables.{Variable, local, reads_it, writes_it, In, Pairwise, Clear, value}
use Rattle.protocol.specs.Fresh.{fresh, zeros, fresh_zero}
use Rattle.protocol.proofs.Interleaving.{value-eq}
use Rattle.records.specs.File.{cores, data_size, variables, variable_at}
use Rattle.records.specs.Rules.{Writer, VariableRules}
use Rattle.taskset.specs.Judge.{is_new, start_sections, start_place, start_in, judge}
use Rattle.taskset.specs.Rules.{PairRules, WellFormed}
use Rattle.taskset.specs.Task.{listed, sizes_of, variables_of}
use Rattle.taskset.specs.Starts.{start_count, start_at, start_byte, with_pairs, start_data, writer_of, with_written, start_shared, starts_of}
use Rattle.taskset.specs.Fresh.{fresh_of, Unused, StartValues}
use Rattle.taskset.proofs.Exact.{keeps-rules, old-not-new}
use Rattle.taskset.proofs.Accepted.{numbered, map-listed, fresh-core, length-start, variables-accepted}

-- ---- bytes of a stretch that was written, and beside it

splice-out : (s : List ℕ) (p : ℕ) (ys : List ℕ) (q : ℕ) → (q < p) ⊎ (p + length ys ≤ q) → byte (splice s p ys) q ≡ byte s q
unfolding splice
splice-out s p [] q h = refl
splice-out s p (y ∷ ys) q (inl h) = splice-out (set s p y) (suc p) ys q (inl (omega arith)) ∙ get_or-set_other s p q y 0 (λ e. let n : ⊥ = omega arith in n)
splice-out s p (y ∷ ys) q (inr h) = splice-out (set s p y) (suc p) ys q (inr (omega arith)) ∙ get_or-set_other s p q y 0 (λ e. let n : ⊥ = omega arith in n)

splice-in : (s : List ℕ) (p : ℕ) (ys : List ℕ) (j : ℕ) → j < length ys → p + length ys ≤ length s → byte (splice s p ys) (p + j) ≡ byte ys j
unfolding splice
splice-in s p [] j h l = absurd (let n : ⊥ = omega arith in n)
splice-in s p (y ∷ ys) zero h l =
    let e : p + 0 ≡ p = omega arith in
    rw e (splice-out (set s p y) (suc p) ys p (inl (omega arith)) ∙ get_or-set_same s p y 0 (omega arith))
splice-in s p (y ∷ ys) (suc j) h l =
    let e : p + suc j ≡ suc p + j = omega arith in
    rw e (splice-in (set s p y) (suc p) ys j (omega arith) (omega (arith, length-set s p y)))

part_at : (s : List ℕ) (p n j : ℕ) → j < n → byte (part s p n) j ≡ byte s (p + j)
unfolding part
part_at s p n j h = rw (get_or-take, get_or-drop)

pub byte-zeros : (n p : ℕ) → byte (zeros n) p ≡ 0
byte-zeros zero p = refl
byte-zeros (suc n) zero = refl
byte-zeros (suc n) (suc p) = byte-zeros n p

-- ---- a core's start values: n pairs from place q of the file on

module _ (f : List ℕ) where
  beside-pairs : (q n : ℕ) (d : List ℕ) (p : ℕ) → ((i : ℕ) → i < n → word f (q + 3 * i) ≢ p) → byte (with_pairs f q n d) p ≡ byte d p
  unfolding with_pairs
  beside-pairs q zero d p h = refl
  beside-pairs q (suc n) d p h =
      beside-pairs (q + 3) n (set d (word f q) (byte f (q + 2))) p
      (λ i l. subst (λ (x : ℕ). word f x ≢ p) (let e : q + 3 * suc i ≡ q + 3 + 3 * i = omega arith in e) (h (suc i) (omega arith)))
      ∙ get_or-set_other d (word f q) p (byte f (q + 2)) 0
      (λ e. h 0 (omega arith) (ap (word f) (let x : q + 3 * 0 ≡ q = omega arith in x) ∙ sym e))

  at-pairs : (q n : ℕ) (d : List ℕ) (i : ℕ) → i < n → ((j : ℕ) → j < n → word f (q + 3 * j) < length d) → ((j k : ℕ) → j < k → k < n → word f (q + 3 * j) < word f (q + 3 * k))
      → byte (with_pairs f q n d) (word f (q + 3 * i)) ≡ byte f (q + 3 * i + 2)
  unfolding with_pairs
  at-pairs q zero d i h inside rise = absurd (let y : ⊥ = omega arith in y)
  at-pairs q (suc n) d zero h inside rise =
      let o : q + 3 * 0 ≡ q = omega arith in
      rw o
      (beside-pairs (q + 3) n (set d (word f q) (byte f (q + 2))) (word f q)
      (λ i l e.
      let x : word f (q + 3 * 0) < word f (q + 3 * suc i) = rise 0 (suc i) (omega arith) (omega arith) in
      let y : word f (q + 3 * 0) ≡ word f q = ap (word f) o in
      let z : word f (q + 3 * suc i) ≡ word f (q + 3 + 3 * i) = ap (word f) (let a : q + 3 * suc i ≡ q + 3 + 3 * i = omega arith in a) in
      let n : ⊥ = omega arith in n)
      ∙ get_or-set_same d (word f q) (byte f (q + 2)) 0 (subst (λ (x : ℕ). word f x < length d) o (inside 0 (omega arith))))
  at-pairs q (suc n) d (suc i) h inside rise =
      let next : (j : ℕ) → q + 3 * suc j ≡ q + 3 + 3 * j = λ j. let a : q + 3 * suc j ≡ q + 3 + 3 * j = omega arith in a in
      rw (next i)
      (at-pairs (q + 3) n (set d (word f q) (byte f (q + 2))) i (omega arith)
      (λ j l. let x : word f (q + 3 + 3 * j) < length d = subst (λ (x : ℕ). word f x < length d) (next j) (inside (suc j) (omega arith)) in omega (arith, length-set d (word f q) (byte f (q + 2))))
      (λ j k l m.
      let x : word f (q + 3 * suc j) < word f (q + 3 * suc k) = rise (suc j) (suc k) (omega arith) (omega arith) in
      let y : word f (q + 3 * suc j) ≡ word f (q + 3 + 3 * j) = ap (word f) (next j) in
      let z : word f (q + 3 * suc k) ≡ word f (q + 3 + 3 * k) = ap (word f) (next k) in
      omega arith))

  -- places that rise one by one rise
  rising : (size p n : ℕ) → ((i : ℕ) → i < n → PairRules f size p i) → (j k : ℕ) → j < k → k < n → start_in f p j < start_in f p k
  rising size p n r j zero h l = absurd (let y : ⊥ = omega arith in y)
  rising size p n r j (suc k) h l = go (ltb j k) refl (λ m. rising size p n r j k m (omega arith))
    where
      up : start_in f p k < start_in f p (suc k)
      up = (r (suc k) l).rising k refl

      go : (b : Bool) → ltb j k ≡ b → (j < k → start_in f p j < start_in f p k) → start_in f p j < start_in f p (suc k)
      go true e before = omega (arith, before (ltb-true j k e), up)
      go false e before =
          let x : j ≡ k = omega (arith, ltb-false j k e) in
          subst (λ (i : ℕ). start_in f p i < start_in f p (suc k)) (sym x) up

-- ---- the writer of a variable

few : (v : Variable) (k : ℕ) → T (writes_it k v) → 4 ≤ k → ⊥
unfolding writes_it
few v k t h = let y = ltb-true k 4 (holds _ (both_of (ltb k 4) _ t).0) in omega arith

pub writer-of : (v : Variable) (r : Writer v) → writer_of v ≡ r.core
unfolding writer_of pick
writer-of v r = go (writes_it 0 v) refl (writes_it 1 v) refl (writes_it 2 v) refl
  where
    last : (k : ℕ) → T (writes_it k v) → writes_it 0 v ≡ false → writes_it 1 v ≡ false → writes_it 2 v ≡ false → 3 ≡ k
    last zero t a b c = absurd (subst T a t)
    last (suc zero) t a b c = absurd (subst T b t)
    last (suc (suc zero)) t a b c = absurd (subst T c t)
    last (suc (suc (suc zero))) t a b c = refl
    last (suc (suc (suc (suc k)))) t a b c = absurd (few v (suc (suc (suc (suc k)))) t (omega arith))

    go : (x : Bool) → writes_it 0 v ≡ x → (y : Bool) → writes_it 1 v ≡ y → (z : Bool) → writes_it 2 v ≡ z
        → pick (writes_it 0 v) 0 (pick (writes_it 1 v) 1 (pick (writes_it 2 v) 2 3)) ≡ r.core
    go true a y b z c = rw a (r.only 0 (tested _ a))
    go false a true b z c = rw (a, b) (r.only 1 (tested _ b))
    go false a false b true c = rw (a, b, c) (r.only 2 (tested _ c))
    go false a false b false c = rw (a, b, c) (last r.core r.writes a b c)

-- ---- shared memory

module _ (data_of : ℕ → List ℕ) where
  -- a byte of none of the variables
  beside-written : (vs : List Variable) (s : List ℕ) (p : ℕ) → ((v : Variable) → In v vs → (p < v.place) ⊎ (v.place + v.width ≤ p))
      → ((v : Variable) → In v vs → local (writer_of v) v + v.width ≤ length (data_of (writer_of v))) → byte (with_written data_of vs s) p ≡ byte s p
  unfolding with_written
  beside-written [] s p h fits = refl
  beside-written (v ∷ vs) s p h fits =
      beside-written vs _ p (λ u m. h u (inr m)) (λ u m. fits u (inr m))
      ∙ splice-out s v.place (part (data_of (writer_of v)) (local (writer_of v) v) v.width) p
      (subst (λ (n : ℕ). (p < v.place) ⊎ (v.place + n ≤ p)) (sym (length_part (data_of (writer_of v)) (local (writer_of v) v) v.width (fits v (inl refl)))) (h v (inl refl)))

  -- a byte of one of them
  at-written : (vs : List Variable) (s : List ℕ) (v : Variable) → In v vs → (j : ℕ) → j < v.width
      → Pairwise (λ v u. Clear v.place v.width u.place u.width) vs
      → ((v : Variable) → In v vs → v.place + v.width ≤ length s)
      → ((v : Variable) → In v vs → local (writer_of v) v + v.width ≤ length (data_of (writer_of v)))
      → byte (with_written data_of vs s) (v.place + j) ≡ byte (data_of (writer_of v)) (local (writer_of v) v + j)
  unfolding with_written
  at-written [] s v m j h apart room fits = absurd m
  at-written (u ∷ vs) s v (inl e) j h apart room fits = subst (λ (x : Variable). j < x.width → byte (with_written data_of (u ∷ vs) s) (x.place + j) ≡ byte (data_of (writer_of x)) (local (writer_of x) x + j)) (sym e) here h
    where
      n : length (part (data_of (writer_of u)) (local (writer_of u) u) u.width) ≡ u.width
      n = length_part (data_of (writer_of u)) (local (writer_of u) u) u.width (fits u (inl refl))

      beyond : (x : Variable) → Clear u.place u.width x.place x.width → j < u.width → (u.place + j < x.place) ⊎ (x.place + x.width ≤ u.place + j)
      beyond x (inl a) l = inl (omega arith)
      beyond x (inr a) l = inr (omega arith)

      here : j < u.width → byte (with_written data_of (u ∷ vs) s) (u.place + j) ≡ byte (data_of (writer_of u)) (local (writer_of u) u + j)
      here l =
          beside-written vs _ (u.place + j) (λ x i. beyond x (apart.0 x i) l) (λ x i. fits x (inr i))
          ∙ splice-in s u.place (part (data_of (writer_of u)) (local (writer_of u) u) u.width) j (omega (arith, n)) (omega (arith, n, room u (inl refl)))
          ∙ part_at (data_of (writer_of u)) (local (writer_of u) u) u.width j l
  at-written (u ∷ vs) s v (inr m) j h apart room fits =
      at-written vs _ v m j h apart.1
      (λ x i. omega (arith, room x (inr i), length-splice s u.place (part (data_of (writer_of u)) (local (writer_of u) u) u.width)))
      (λ x i. fits x (inr i))

-- ---- files of the old form: nothing but zeros

set-zeros : (n p : ℕ) → set (zeros n) p 0 ≡ zeros n
set-zeros zero p = refl
set-zeros (suc n) zero = refl
set-zeros (suc n) (suc p) = ap (λ (l : List ℕ). 0 ∷ l) (set-zeros n p)

splice-zeros : (m n p : ℕ) → splice (zeros n) p (zeros m) ≡ zeros n
unfolding splice
splice-zeros zero n p = refl
splice-zeros (suc m) n p = ap (λ (l : List ℕ). splice l (suc p) (zeros m)) (set-zeros n p) ∙ splice-zeros m n (suc p)

record Zeros (l : List ℕ) : Type 0 where
  size : ℕ
  are : l ≡ zeros size

take-zeros : (n m : ℕ) → Zeros (take n (zeros m))
take-zeros zero m = record { size = 0; are = refl }
take-zeros (suc n) zero = record { size = 0; are = refl }
take-zeros (suc n) (suc m) = let r = take-zeros n m in record { size = suc r.size; are = ap (λ (l : List ℕ). 0 ∷ l) r.are }

drop-zeros : (n m : ℕ) → Zeros (drop n (zeros m))
drop-zeros zero m = record { size = m; are = refl }
drop-zeros (suc n) zero = record { size = 0; are = refl }
drop-zeros (suc n) (suc m) = drop-zeros n m

part-zeros : (m p n : ℕ) → Zeros (part (zeros m) p n)
unfolding part
part-zeros m p n = let a = drop-zeros p m in let b = take-zeros n a.size in record { size = b.size; are = ap (take n) a.are ∙ b.are }

written-zeros : (sizes : ℕ → ℕ) (vs : List Variable) (n : ℕ) → with_written (λ k. zeros (sizes k)) vs (zeros n) ≡ zeros n
unfolding with_written
written-zeros sizes [] n = refl
written-zeros sizes (v ∷ vs) n =
    let z = part-zeros (sizes (writer_of v)) (local (writer_of v) v) v.width in
    ap (with_written (λ k. zeros (sizes k)) vs) (ap (splice (zeros n) v.place) z.are ∙ splice-zeros z.size n v.place) ∙ written-zeros sizes vs n

module _ (f : List ℕ) (old : is_new f ≡ false) where
  pub old-data : (k : ℕ) → start_data f k ≡ zeros (data_size f k)
  unfolding start_data with_pairs
  old-data k = ap (λ (n : ℕ). with_pairs f (start_place f k + 2) n (zeros (data_size f k))) (pick-false (is_new f) (word f (start_place f k)) 0 old)

  pub old-shared : start_shared f ≡ zeros 1024
  unfolding start_shared
  old-shared = ap (λ (g : ℕ → List ℕ). with_written g (variables_of f) (zeros 1024)) (λ i k. old-data k i) ∙ written-zeros (data_size f) (variables_of f) 1024

  pub old-starts : starts_of f ≡ map zeros (sizes_of f)
  unfolding sizes_of
  old-starts = ap (λ (g : ℕ → List ℕ). listed g (cores f) 0) (λ i k. old-data k i) ∙ sym (map-listed zeros (data_size f) (cores f) 0)

  pub old-fresh : fresh_of f ≡ fresh_zero (sizes_of f)
  old-fresh = λ i. fresh (old-starts i) (old-shared i)

-- ---- the claim

module _ (f : List ℕ) (accepted : judge f ≡ 0) where
  w : WellFormed f
  w = keeps-rules f accepted

  pairs : (k : ℕ) → k < cores f → (i : ℕ) → i < start_count f k → PairRules f (data_size f k) (start_place f k) i
  pairs k h = go (is_new f) refl
    where
      go : (b : Bool) → is_new f ≡ b → (i : ℕ) → i < start_count f k → PairRules f (data_size f k) (start_place f k) i
      go true e i l =
          let n : start_sections f ≡ cores f = pick_true (is_new f) (cores f) 0 e in
          let m : start_count f k ≡ word f (start_place f k) = pick_true (is_new f) (word f (start_place f k)) 0 e in
          w.start-rules k (omega arith) i (omega arith)
      go false e i l = absurd (let m : start_count f k ≡ 0 = pick-false (is_new f) (word f (start_place f k)) 0 e in let y : ⊥ = omega arith in y)

  data-holds : (k : ℕ) → k < cores f → (i : ℕ) → i < start_count f k → byte (start_data f k) (start_at f k i) ≡ start_byte f k i
  unfolding start_data
  data-holds k h i l =
      at-pairs f (start_place f k + 2) (start_count f k) (zeros (data_size f k)) i l
      (λ j m. omega (arith, (pairs k h j m).in-data, length-replicate {A = ℕ} (data_size f k) 0))
      (rising f (data_size f k) (start_place f k) (start_count f k) (pairs k h))

  data-zero : (k p : ℕ) → ((i : ℕ) → i < start_count f k → start_at f k i ≢ p) → byte (start_data f k) p ≡ 0
  unfolding start_data
  data-zero k p h = beside-pairs f (start_place f k + 2) (start_count f k) (zeros (data_size f k)) p h ∙ byte-zeros (data_size f k) p

  rules : (v : Variable) → In v (variables_of f) → VariableRules f v
  unfolding variables_of
  rules v m =
      let r = numbered (variable_at f) (variables f) 0 v m in
      subst (VariableRules f) (sym r.is) (w.variable-rules r.number (omega (arith, r.below)))

  -- a variable's bytes lie in its writer's data
  pub written-fits : (v : Variable) → In v (variables_of f) → local (writer_of v) v + v.width ≤ length (start_data f (writer_of v))
  written-fits v m =
      let r = rules v m in
      let t : T (writes_it (writer_of v) v) = subst (λ (k : ℕ). T (writes_it k v)) (sym (writer-of v r.writer)) r.writer.writes in
      let l : local (writer_of v) v + v.width ≤ data_size f (writer_of v) = r.in-data (writer_of v) (either-right (reads_it (writer_of v) v) (writes_it (writer_of v) v) t) in
      omega (arith, length-start f (writer_of v))

  shared_seen : (v : Variable) → In v (variables_of f) → (k : ℕ) → T (writes_it k v) → value (start_shared f) v.place v.width ≡ value (start_data f k) (local k v) v.width
  unfolding start_shared
  shared_seen v m k t =
      let e : writer_of v ≡ k = writer-of v (rules v m).writer ∙ sym ((rules v m).writer.only k t) in
      value-eq v.width _ _ _ _
      (λ j l. at-written (start_data f) (variables_of f) (zeros 1024) v m j l (variables-accepted f accepted).clear-shared (λ u i. omega (arith, (rules u i).in-shared, length-replicate {A = ℕ} 1024 0)) written-fits
      ∙ ap (λ (n : ℕ). byte (start_data f n) (local n v + j)) e)

  shared-zero : (p : ℕ) → Unused (variables_of f) p → byte (start_shared f) p ≡ 0
  unfolding start_shared
  shared-zero p h = beside-written (start_data f) (variables_of f) (zeros 1024) p (λ v m. outside v (h v m)) written-fits ∙ byte-zeros 1024 p
    where
      outside : (v : Variable) → (v.place ≤ p → p < v.place + v.width → ⊥) → (p < v.place) ⊎ (v.place + v.width ≤ p)
      outside v n = go (ltb p v.place) refl
        where
          go : (b : Bool) → ltb p v.place ≡ b → (p < v.place) ⊎ (v.place + v.width ≤ p)
          go true e = inl (ltb-true _ _ e)
          go false e = other (ltb p (v.place + v.width)) refl
            where
              other : (b : Bool) → ltb p (v.place + v.width) ≡ b → (p < v.place) ⊎ (v.place + v.width ≤ p)
              other true d = absurd (n (ltb-false _ _ e) (ltb-true _ _ d))
              other false d = inr (ltb-false _ _ d)

  pub start-values : StartValues f
  start-values = record {
    holds = λ k h i l. ap (λ (c : Core). byte c.memory (start_at f k i)) (fresh-core f k h) ∙ data-holds k h i l;
    else-zero = λ k h p n. ap (λ (c : Core). byte c.memory p) (fresh-core f k h) ∙ data-zero k p n;
    seen = λ v m k t.
        shared_seen v m k t
        ∙ sym (ap (λ (c : Core). value c.memory (local k v) v.width) (fresh-core f k ((rules v m).known k (either-right (reads_it k v) (writes_it k v) t))));
    shared-zero = shared-zero;
    old = λ e. old-fresh f (old-not-new f e);
  }
