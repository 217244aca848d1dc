-- The first core of a list that moves, and the order round the ring. In order: what an answer says of the cores looked at; the loop that
-- looks at them one after another; distances round the ring. Assumes nothing.
use mathlib.Core.Path.{◌≡◌, refl, sym, ◌∙◌}
use mathlib.Core.Bool.{Bool, true, false}
use Prim.Native.Nat.{ℕ, zero, suc, ◌+◌, ◌-◌, ◌≤◌, ◌<◌}
use native.Mathlib.Nat.{mod-lt, mod-eq_of_lt, mod-eq-sub-mod, add-mod_right}
use native.Mathlib.Omega.{arith}
use borrow.Author.Tests.{eqb-true, eqb-false, ltb-true, ltb-false}
use lib.Dec.{eqb, ltb}
use Rattle.verdict.specs.Verdict.{pick}
use Rattle.verdict.proofs.Verdict.{pick_true, pick-false}
use Rattle.taskset.specs.Task.{listed}
use Rattle.table.specs.Table.{round_from, first_moving}
use Rattle.std.proofs.Common.{Some, None}

-- ---- what an answer says

module _ (moving : ℕ → Bool) (g : ℕ → ℕ) where
  -- the first of m cores from number i on
  pub record Found (m i j : ℕ) : Type 0 where
    pub number : ℕ
    pub from : i ≤ number
    pub below : number < i + m
    pub is : j ≡ g number
    pub can : moving (g number) ≡ true
    pub passed : (e : ℕ) → i ≤ e → e < number → moving (g e) ≡ false

  later : (m i j : ℕ) → moving (g i) ≡ false → Found m (suc i) j → Found (suc m) i j
  later m i j rest x = record {
    number = x.number;
    from = omega (arith, x.from);
    below = omega (arith, x.below);
    is = x.is;
    can = x.can;
    passed = λ e a b. go e a b (eqb i e) refl;
  }
    where
      go : (e : ℕ) → i ≤ e → e < x.number → (b : Bool) → eqb i e ≡ b → moving (g e) ≡ false
      go e a b true q = rw (sym (eqb-true i e q)) rest
      go e a b false q =
          let n : (i ≡ e → ⊥) = eqb-false i e q in
          x.passed e (omega arith) b

  pub found : (m i j : ℕ) → first_moving moving (listed g m i) ≡ Some j → Found m i j
  unfolding listed pick
  found zero i j e = absurd (let z : ◌≡◌ {A = ℕ} 0 1 = cc in omega arith)
  found (suc m) i j e = go (found m (suc i) j) (moving (g i)) refl
    where
      go : (first_moving moving (listed g m (suc i)) ≡ Some j → Found m (suc i) j) → (b : Bool) → moving (g i) ≡ b → Found (suc m) i j
      go rest true q = record {
        number = i;
        from = omega arith;
        below = omega arith;
        is = let z : Some (g i) ≡ Some j = sym (pick_true _ _ _ q) ∙ e in cc;
        can = q;
        passed = λ d a b. absurd (let z : ⊥ = omega arith in z);
      }
      go rest false q = later m i j q (rest (sym (pick-false _ _ _ q) ∙ e))

  pub none_found : (m i : ℕ) → first_moving moving (listed g m i) ≡ None → (e : ℕ) → i ≤ e → e < i + m → moving (g e) ≡ false
  unfolding listed
  none_found zero i n e a b = absurd (let z : ⊥ = omega arith in z)
  none_found (suc m) i n e a b = go (λ x h. none_found m (suc i) x e h (omega arith)) (moving (g i)) refl
    where
      go : (first_moving moving (listed g m (suc i)) ≡ None → i < e → moving (g e) ≡ false) → (c : Bool) → moving (g i) ≡ c → moving (g e) ≡ false
      go rest true q = absurd (let x : Some (g i) ≡ None = sym (pick_true _ _ _ q) ∙ n in let z : ◌≡◌ {A = ℕ} 0 1 = cc in omega arith)
      go rest false q = next (eqb i e) refl
        where
          next : (c : Bool) → eqb i e ≡ c → moving (g e) ≡ false
          next true p = rw (sym (eqb-true i e p)) q
          next false p =
              let d : (i ≡ e → ⊥) = eqb-false i e p in
              rest (sym (pick-false _ _ _ q) ∙ n) (omega arith)

  pub all-passed : (m i : ℕ) → ((e : ℕ) → i ≤ e → e < i + m → moving (g e) ≡ false) → first_moving moving (listed g m i) ≡ None
  unfolding listed
  all-passed zero i h = refl
  all-passed (suc m) i h = pick-false _ _ _ (h i (omega arith) (omega arith)) ∙ all-passed m (suc i) (λ e a b. h e (omega arith) (omega arith))

  -- ---- the loop: what is left to be looked at from number i to number n is what was asked

  pub record Looking (n i : ℕ) : Type 0 where
    pub from : 1 ≤ i
    pub to : i ≤ n + 1
    pub rest : first_moving moving (listed g n 1) ≡ first_moving moving (listed g (n + 1 - i) i)

  one_more : (n i : ℕ) → i ≤ n → first_moving moving (listed g (n + 1 - i) i) ≡ pick (moving (g i)) (Some (g i)) (first_moving moving (listed g (n + 1 - (i + 1)) (i + 1)))
  unfolding listed
  one_more n i h =
      let e : n + 1 - i ≡ suc (n + 1 - (i + 1)) = omega arith in
      let q : i + 1 ≡ suc i = omega arith in
      rw (e, q)

  pub looking-none : (n : ℕ) → Looking n 1
  looking-none n = let e : n + 1 - 1 ≡ n = omega arith in record { from = omega arith; to = omega arith; rest = rw e }

  pub looking-more : (n i : ℕ) → Looking n i → i ≤ n → moving (g i) ≡ false → Looking n (i + 1)
  looking-more n i x h q = record { from = omega (arith, x.from); to = omega arith; rest = x.rest ∙ one_more n i h ∙ pick-false _ _ _ q }

  pub looking-stop : (n i : ℕ) → Looking n i → i ≤ n → moving (g i) ≡ true → Some (g i) ≡ first_moving moving (listed g n 1)
  looking-stop n i x h q = sym (x.rest ∙ one_more n i h ∙ pick_true _ _ _ q)

  pub looking-end : (n i : ℕ) → Looking n i → n < i → None ≡ first_moving moving (listed g n 1)
  unfolding listed
  looking-end n i x h = let e : n + 1 - i ≡ 0 = omega arith in sym (x.rest ∙ rw e)

-- ---- distances round the ring

-- every core stands at some distance, the given one at n
pub record Distance (n given k : ℕ) : Type 0 where
  pub distance : ℕ
  pub least : 1 ≤ distance
  pub most : distance ≤ n
  pub there : round_from n given distance ≡ k

pub distance-to : (n given k : ℕ) → given < n → k < n → Distance n given k
distance-to n given k g h = go (ltb given k) refl
  where
    go : (b : Bool) → ltb given k ≡ b → Distance n given k
    go true e =
        let l : given < k = ltb-true given k e in
        let q : given + (k - given) ≡ k = omega arith in
        record { distance = k - given; least = omega arith; most = omega arith; there = rw q (mod-eq_of_lt h) }
    go false e =
        let l : k ≤ given = ltb-false given k e in
        let q : given + (k + n - given) ≡ k + n = omega arith in
        record { distance = k + n - given; least = omega arith; most = omega arith; there = rw q (add-mod_right k n ∙ mod-eq_of_lt h) }

pub round-inside : (n given i : ℕ) → given < n → round_from n given i < n
round-inside n given i g = mod-lt (given + i) (omega arith)

-- none before n is the given one's
pub given-last : (n given d : ℕ) → given < n → 1 ≤ d → d ≤ n → round_from n given d ≡ given → d ≡ n
given-last n given d g a b e = go (ltb (given + d) n) refl
  where
    go : (t : Bool) → ltb (given + d) n ≡ t → d ≡ n
    go true q =
        let l : given + d < n = ltb-true (given + d) n q in
        absurd (omega (arith, mod-eq_of_lt l, e))
    go false q =
        let l : n ≤ given + d = ltb-false (given + d) n q in
        let m : given + d - n < n = omega arith in
        omega (arith, mod-eq-sub-mod l, mod-eq_of_lt m, e)
