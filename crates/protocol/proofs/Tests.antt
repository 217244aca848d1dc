-- The tests of specs/Cycles say of at most four cores what the definitions say of any number. In order: a test of each core; lines join cores below 4;
-- one way; rings. Not here: the tests as code makes them (crate cycles, proofs/Rings). Assumes nothing.
use mathlib.Core.Path.{◌≡◌, refl, subst}
use mathlib.Core.Logic.{◌≢◌, ◌⊎◌, inl, inr}
use mathlib.Core.Bool.{Bool, true, false, not}
use mathlib.Core.List.{List, [], ◌∷◌}
use Prim.Native.Nat.{ℕ, zero, suc, ◌≤◌, ◌<◌, zero-le, suc-le-suc}
use native.Mathlib.Omega.{arith}
use lib.Dec.{T, eqb, eqb→eq, eqb_refl, ltb, ltb→lt, not_T, T_not}
use lib.ListN.{length}
use Rattle.verdict.specs.Verdict.{both, either}
use Rattle.verdict.proofs.Truth.{both_of, of-both, either-of}
use Rattle.protocol.specs.Variables.{In, Variable, reads_it, writes_it}
use Rattle.protocol.specs.Cycles.{reads_from, line_between, OneWay, Different, Closes, NoRing, every, is_one_way, among, different, closes, no_ring}
use Rattle.protocol.proofs.Order.{remove}

-- ---- a test of each core

pub every_of : (f : ℕ → Bool) → T (every f) → (k : ℕ) → k < 4 → T (f k)
every_of f h zero l = (both_of (f 0) (both (f 1) (both (f 2) (f 3))) h).0
every_of f h (suc zero) l = (both_of (f 1) (both (f 2) (f 3)) (both_of (f 0) (both (f 1) (both (f 2) (f 3))) h).1).0
every_of f h (suc (suc zero)) l = (both_of (f 2) (f 3) (both_of (f 1) (both (f 2) (f 3)) (both_of (f 0) (both (f 1) (both (f 2) (f 3))) h).1).1).0
every_of f h (suc (suc (suc zero))) l = (both_of (f 2) (f 3) (both_of (f 1) (both (f 2) (f 3)) (both_of (f 0) (both (f 1) (both (f 2) (f 3))) h).1).1).1
every_of f h (suc (suc (suc (suc k)))) l = absurd (omega arith)

of-every : (f : ℕ → Bool) → ((k : ℕ) → T (f k)) → T (every f)
of-every f h = of-both (f 0) (both (f 1) (both (f 2) (f 3))) (h 0) (of-both (f 1) (both (f 2) (f 3)) (h 1) (of-both (f 2) (f 3) (h 2) (h 3)))

-- ---- a line joins cores below 4

-- a relation between the cores below 4
abbrev Low : (ℕ → ℕ → Bool) → Type 0
Low r = (j k : ℕ) → T (r j k) → (j < 4) × (k < 4)

pub low_read : (k : ℕ) (v : Variable) → T (reads_it k v) → k < 4
unfolding reads_it
low_read k v h = ltb→lt k 4 (both_of (ltb k 4) _ h).0

pub low-write : (k : ℕ) (v : Variable) → T (writes_it k v) → k < 4
unfolding writes_it
low-write k v h = ltb→lt k 4 (both_of (ltb k 4) _ h).0

pub low_reads : (vs : List Variable) → Low (reads_from vs)
low_reads [] j k h = absurd h
low_reads (v ∷ vs) j k h = go (λ i. low_reads vs j k i) (either-of (both (reads_it j v) (writes_it k v)) (reads_from vs j k) h)
  where
    go : (T (reads_from vs j k) → (j < 4) × (k < 4)) → T (both (reads_it j v) (writes_it k v)) ⊎ T (reads_from vs j k) → (j < 4) × (k < 4)
    go f (inl x) = let y = both_of (reads_it j v) (writes_it k v) x in (low_read j v y.0, low-write k v y.1)
    go f (inr x) = f x

pub low-lines : (vs : List Variable) → Low (line_between vs)
low-lines vs j k h = go (either-of (reads_from vs j k) (reads_from vs k j) h)
  where
    go : T (reads_from vs j k) ⊎ T (reads_from vs k j) → (j < 4) × (k < 4)
    go (inl x) = low_reads vs j k x
    go (inr x) = let y = low_reads vs k j x in (y.1, y.0)

-- ---- one way

abbrev pair : (ℕ → ℕ → Bool) → ℕ → ℕ → Bool
pair reads j k = either (eqb j k) (not (both (reads j k) (reads k j)))

pub one_way : (reads : ℕ → ℕ → Bool) → Low reads → T (is_one_way reads) → OneWay reads
one_way reads low h j k n x y = go (either-of (eqb j k) (not (both (reads j k) (reads k j))) (every_of (pair reads j) (every_of (λ j. every (pair reads j)) h j (low j k x).0) k (low j k x).1))
  where
    go : T (eqb j k) ⊎ T (not (both (reads j k) (reads k j))) → ⊥
    go (inl e) = n (eqb→eq j k e)
    go (inr m) = T_not (both (reads j k) (reads k j)) m (of-both (reads j k) (reads k j) x y)

pub way-one : (reads : ℕ → ℕ → Bool) → OneWay reads → T (is_one_way reads)
way-one reads one = of-every (λ j. every (pair reads j)) (λ j. of-every (pair reads j) (λ k. go j k (eqb j k) refl))
  where
    go : (j k : ℕ) (b : Bool) → eqb j k ≡ b → T (either b (not (both (reads j k) (reads k j))))
    go j k true e = tt
    go j k false e = not_T (both (reads j k) (reads k j)) (λ h. let y = both_of (reads j k) (reads k j) h in one j k (λ f. subst T e (subst (λ (x : ℕ). T (eqb j x)) f (eqb_refl j))) y.0 y.1)

-- ---- rings

of-among : (j : ℕ) (ks : List ℕ) → In j ks → T (among j ks)
of-among j [] i = i
of-among j (k ∷ ks) (inl e) = go (eqb j k) (subst (λ (x : ℕ). T (eqb j x)) e (eqb_refl j))
  where
    go : (b : Bool) → T b → T (either b (among j ks))
    go true h = tt
    go false h = absurd h
of-among j (k ∷ ks) (inr i) = go (eqb j k) (of-among j ks i)
  where
    go : (b : Bool) → T (among j ks) → T (either b (among j ks))
    go true h = tt
    go false h = h

among_of : (j : ℕ) (ks : List ℕ) → T (among j ks) → In j ks
among_of j [] h = h
among_of j (k ∷ ks) h = go (among_of j ks) (either-of (eqb j k) (among j ks) h)
  where
    go : (T (among j ks) → In j ks) → T (eqb j k) ⊎ T (among j ks) → In j (k ∷ ks)
    go f (inl e) = inl (eqb→eq j k e)
    go f (inr i) = inr (f i)

of-different : (ks : List ℕ) → Different ks → T (different ks)
of-different [] d = tt
of-different (k ∷ ks) d = of-both (not (among k ks)) (different ks) (not_T (among k ks) (λ h. d.0 k (among_of k ks h) refl)) (of-different ks d.1)

different-of : (ks : List ℕ) → T (different ks) → Different ks
different-of [] h = tt
different-of (k ∷ ks) h =
    let y = both_of (not (among k ks)) (different ks) h in
    (λ j i e. T_not (among k ks) y.0 (subst (λ (x : ℕ). T (among x ks)) e (of-among j ks i)), different-of ks y.1)

of-closes : (joined : ℕ → ℕ → Bool) (first k : ℕ) (ks : List ℕ) → Closes joined first k ks → T (closes joined first k ks)
of-closes joined first k [] h = h
of-closes joined first k (j ∷ ks) h = of-both (joined k j) (closes joined first j ks) h.0 (of-closes joined first j ks h.1)

closes-of : (joined : ℕ → ℕ → Bool) (first k : ℕ) (ks : List ℕ) → T (closes joined first k ks) → Closes joined first k ks
closes-of joined first k [] h = h
closes-of joined first k (j ∷ ks) h = let y = both_of (joined k j) (closes joined first j ks) h in (y.0, closes-of joined first j ks y.1)

abbrev ring_test : (ℕ → ℕ → Bool) → ℕ → List ℕ → Bool
ring_test joined a ks = both (different (a ∷ ks)) (closes joined a a ks)

of-ring : (joined : ℕ → ℕ → Bool) (a : ℕ) (ks : List ℕ) → Different (a ∷ ks) × Closes joined a a ks → T (ring_test joined a ks)
of-ring joined a ks r = of-both (different (a ∷ ks)) (closes joined a a ks) (of-different (a ∷ ks) r.0) (of-closes joined a a ks r.1)

pub ring_of_lem : (joined : ℕ → ℕ → Bool) (a : ℕ) (ks : List ℕ) → T (ring_test joined a ks) → Different (a ∷ ks) × Closes joined a a ks
ring_of_lem joined a ks h = let y = both_of (different (a ∷ ks)) (closes joined a a ks) h in (different-of (a ∷ ks) y.0, closes-of joined a a ks y.1)

-- different cores among those of l are at most as many
fewer : (ks l : List ℕ) → Different ks → ((c : ℕ) → In c ks → In c l) → length ks ≤ length l
fewer [] l d f = zero-le
fewer (k ∷ ks) l d f =
    let r : (r : List ℕ) × (length l ≡ suc (length r)) × ((c : ℕ) → In c l → (c ≡ k) ⊎ In c r) = remove k l (f k (inl refl)) in
    rw r.1 (suc-le-suc (fewer ks r.0 d.1 (λ c i. go c r.0 (d.0 c i) (r.2 c (f c (inr i))))))
  where
    go : (c : ℕ) (r : List ℕ) → c ≢ k → (c ≡ k) ⊎ In c r → In c r
    go c r n (inl e) = absurd (n e)
    go c r n (inr i) = i

four : (c : ℕ) → c < 4 → In c (0 ∷ 1 ∷ 2 ∷ 3 ∷ [])
four zero h = inl refl
four (suc zero) h = inr (inl refl)
four (suc (suc zero)) h = inr (inr (inl refl))
four (suc (suc (suc zero))) h = inr (inr (inr (inl refl)))
four (suc (suc (suc (suc c)))) h = absurd (omega arith)

low-all : (joined : ℕ → ℕ → Bool) → Low joined → (first k : ℕ) (ks : List ℕ) → Closes joined first k ks → (c : ℕ) → In c ks → c < 4
low-all joined low first k [] h c i = absurd i
low-all joined low first k (j ∷ ks) h c (inl e) = rw e (low k j h.0).1
low-all joined low first k (j ∷ ks) h c (inr i) = low-all joined low first j ks h.1 c i

abbrev fours : (ℕ → ℕ → Bool) → ℕ → ℕ → ℕ → ℕ → Bool
fours joined a b c d = not (ring_test joined a (b ∷ c ∷ d ∷ []))

abbrev threes : (ℕ → ℕ → Bool) → ℕ → ℕ → ℕ → Bool
threes joined a b c = both (not (ring_test joined a (b ∷ c ∷ []))) (every (fours joined a b c))

abbrev twos : (ℕ → ℕ → Bool) → ℕ → ℕ → Bool
twos joined a b = every (threes joined a b)

abbrev ones : (ℕ → ℕ → Bool) → ℕ → Bool
ones joined a = every (twos joined a)

pub no-ring : (joined : ℕ → ℕ → Bool) → Low joined → T (no_ring joined) → NoRing joined
no-ring joined low h [] r = r
no-ring joined low h (a ∷ []) r = r
no-ring joined low h (a ∷ b ∷ []) r = r
no-ring joined low h (a ∷ b ∷ c ∷ []) r =
    let x : T (threes joined a b c) = every_of (threes joined a b) (every_of (twos joined a) (every_of (ones joined) h a (low a b r.1.0).0) b (low a b r.1.0).1) c (low b c r.1.1.0).1 in
    T_not (ring_test joined a (b ∷ c ∷ [])) (both_of (not (ring_test joined a (b ∷ c ∷ []))) (every (fours joined a b c)) x).0 (of-ring joined a (b ∷ c ∷ []) r)
no-ring joined low h (a ∷ b ∷ c ∷ d ∷ []) r =
    let x : T (threes joined a b c) = every_of (threes joined a b) (every_of (twos joined a) (every_of (ones joined) h a (low a b r.1.0).0) b (low a b r.1.0).1) c (low b c r.1.1.0).1 in
    T_not (ring_test joined a (b ∷ c ∷ d ∷ [])) (every_of (fours joined a b c) (both_of (not (ring_test joined a (b ∷ c ∷ []))) (every (fours joined a b c)) x).1 d (low c d r.1.1.1.0).1) (of-ring joined a (b ∷ c ∷ d ∷ []) r)
no-ring joined low h (a ∷ b ∷ c ∷ d ∷ e ∷ ks) r =
    omega (arith, fewer (a ∷ b ∷ c ∷ d ∷ e ∷ ks) (0 ∷ 1 ∷ 2 ∷ 3 ∷ []) r.0 (λ x i. four x (go x i)))
  where
    go : (x : ℕ) → In x (a ∷ b ∷ c ∷ d ∷ e ∷ ks) → x < 4
    go x (inl f) = rw f (low a b r.1.0).0
    go x (inr i) = low-all joined low a a (b ∷ c ∷ d ∷ e ∷ ks) r.1 x i

pub ring-no : (joined : ℕ → ℕ → Bool) → NoRing joined → T (no_ring joined)
ring-no joined none = of-every (ones joined) (λ a. of-every (twos joined a) (λ b. of-every (threes joined a b) (λ c.
    of-both (not (ring_test joined a (b ∷ c ∷ []))) (every (fours joined a b c))
    (not_T (ring_test joined a (b ∷ c ∷ [])) (λ h. none (a ∷ b ∷ c ∷ []) (ring_of_lem joined a (b ∷ c ∷ []) h)))
    (of-every (fours joined a b c) (λ d. not_T (ring_test joined a (b ∷ c ∷ d ∷ [])) (λ h. none (a ∷ b ∷ c ∷ d ∷ []) (ring_of_lem joined a (b ∷ c ∷ d ∷ []) h)))))))
