-- The pass over a core's code from its last instruction back. In order: no start lies within an instruction; one number; the pass; one instruction; the
-- loop of `bounds::measure`. Not here: that the numbers found are the greatest over all paths (proofs/Greatest). Assumes nothing.
use mathlib.Core.Path.{◌≡◌, refl, sym, ap, ◌∙◌, subst}
use mathlib.Core.Bool.{Bool, true, false}
use mathlib.Core.List.{List}
use Prim.Native.Nat.{ℕ, zero, suc, ◌+◌, ◌-◌, ◌≤◌, ◌<◌, min}
use native.Mathlib.Omega.{arith}
use borrow.Author.Tests.{eqb-true, eqb-false, ltb-true, ltb-false, eq-eqb, ne_eqb}
use lib.Dec.{ltb, eqb}
use lib.ListN.{length, get_or, set, length-set}
use lib.Seq.{get_or-set_same, get_or-set_other}
use Rattle.verdict.specs.Verdict.{pick}
use Rattle.verdict.proofs.Verdict.{absurd-bool, by-pick}
use Rattle.memory.specs.Memory.{byte}
use Rattle.code.specs.Commands.{length_of, Kind}
use Rattle.code.specs.Flow.{kind_at, goes_to, after, target_at}
use Rattle.code.specs.declared.Profile.TheVariants.{Full}
use Rattle.code.specs.Code.{laid, start_from, is_start, all_from, judge_code}
use Rattle.code.specs.Judging.{Marked}
use Rattle.code.proofs.Laws.{without_target}
use Rattle.code.proofs.Sound.{Sound, sound, start-zero, inside-code, each-passes, judged, next-starts}
use Rattle.code.proofs.Passes.{all_one, all_end}
use Rattle.bounds.specs.Bounds.{count_by, depth_by, along, longest, deepest, rises, all_rise, Measured}
use Rattle.bounds.proofs.Rising.{Start, Rising, rising}
use Rattle.bounds.proofs.Greatest.{Looks, level, count-looks, depth-looks}
use Rattle.bounds.proofs.Bytes.{Caps, count-caps, depth-caps}

-- ---- starts

-- a pass from q on meets no start below q
start-low : (k : ℕ) (c : List ℕ) (q t : ℕ) → t < q → start_from k c q t ≡ false
unfolding start_from
start-low zero c q t h = refl
start-low (suc k) c q t h =
    by-pick (λ b. b ≡ false) (ltb q (length c)) _ _
    (λ _. by-pick (λ b. b ≡ false) (eqb q t) _ _ (λ e. absurd (let z : q ≡ t = eqb-true _ _ e in let y : ⊥ = omega arith in y)) (λ _. start-low k c (after c q) t (omega arith)))
    (λ _. refl)

start-at : (k : ℕ) (c : List ℕ) (q p : ℕ) → start_from k c q p ≡ true → q ≤ p
start-at k c q p w = go (ltb p q) refl
  where
    go : (b : Bool) → ltb p q ≡ b → q ≤ p
    go true e = absurd-bool (sym (start-low k c q p (ltb-true _ _ e)) ∙ w)
    go false e = ltb-false _ _ e

-- one place of the pass: the start itself, or one further on
start-split : (k : ℕ) (c : List ℕ) (q p : ℕ) (P : Type 0) → start_from (suc k) c q p ≡ true → (q ≡ p → P) → ((q ≡ p → ⊥) → start_from k c (after c q) p ≡ true → P) → P
unfolding start_from pick
start-split k c q p P w f g = go (ltb q (length c)) refl (eqb q p) refl
  where
    go : (a : Bool) → ltb q (length c) ≡ a → (b : Bool) → eqb q p ≡ b → P
    go true h true e = f (eqb-true _ _ e)
    go true h false e = g (eqb-false _ _ e) (rw (h, e) at w)
    go false h b e = absurd-bool (rw h at w)

skipped : (k : ℕ) (c : List ℕ) (q t : ℕ) → q < t → start_from k c (after c q) t ≡ false → start_from (suc k) c q t ≡ false
unfolding start_from pick
skipped k c q t h z = let e : eqb q t ≡ false = ne_eqb q t (λ (y : q ≡ t). let x : ⊥ = omega arith in x) in go (ltb q (length c)) refl e
  where
    go : (a : Bool) → ltb q (length c) ≡ a → eqb q t ≡ false → start_from (suc k) c q t ≡ false
    go true h e = rw (h, e) z
    go false h e = rw h

-- no start lies within an instruction
within : (k : ℕ) (c : List ℕ) (q p t : ℕ) → start_from k c q p ≡ true → p < t → t < after c p → start_from k c q t ≡ false
unfolding start_from
within zero c q p t w h l = refl
within (suc k) c q p t w h l =
    start-split k c q p (start_from (suc k) c q t ≡ false) w
    (λ e. skipped k c q t (omega arith) (start-low k c (after c q) t (rw e l)))
    (λ n v. let a = start-at k c (after c q) p v in skipped k c q t (omega arith) (within k c (after c q) p t v h l))

pub within_none : (c : List ℕ) (p t : ℕ) → Start c p → p < t → t < after c p → is_start c t ≡ false
unfolding is_start
within_none c p t w h l = within (length c) c 0 p t w h l

-- a test that each start passes
all-from : (test : ℕ → Bool) (k : ℕ) (c : List ℕ) (q : ℕ) → laid Full (length c) c 0 ≡ 0 → ((p : ℕ) → Start c p → test p ≡ true) → (q < length c → Start c q)
    → all_from test k c q ≡ true
unfolding all_from pick
all-from test zero c q l f s = refl
all-from test (suc k) c q l f s = go (all-from test k c (after c q) l f) (ltb q (length c)) refl
  where
    go : ((after c q < length c → Start c (after c q)) → all_from test k c (after c q) ≡ true) → (b : Bool) → ltb q (length c) ≡ b → all_from test (suc k) c q ≡ true
    go ih true e =
        let h : q < length c = ltb-true _ _ e in
        all_one test k c q h ∙ rw (f q (s h)) (ih (λ g. next-starts c q l (s h) g))
    go ih false e = all_end test (suc k) c q (ltb-false _ _ e)

-- ---- one number

-- the table m is right at each start from p on, and n at the start `next`
pub record Filled (by : Kind → ℕ → ℕ → ℕ) (c : List ℕ) (p next : ℕ) (m : List ℕ) (n : ℕ) : Type 0 where
  pub right : (q : ℕ) → Start c q → p ≤ q → get_or m q 0 ≡ min (along by (length c) c q) 65536
  pub latest : Start c next → n ≡ min (along by (length c) c next) 65536

module _ (by : Kind → ℕ → ℕ → ℕ) (l : Looks by) (v : Caps by) (c : List ℕ) (g : Rising c) where
  -- the number at p, from the one after it and the table above p
  number : (m : List ℕ) (p n : ℕ) → Filled by c (p + 1) (after c p) m n → Start c p
      → min (by (kind_at c p) n (get_or m (target_at c p) 0)) 65536 ≡ min (along by (length c) c p) 65536
  number m p n f w =
      ap (λ (i : ℕ). min i 65536)
      (l (kind_at c p) _ _ _ _
      (λ o. let y = g.onward p w o in f.latest y.1)
      (λ o. let y = g.upward p w o in f.right (target_at c p) y.1 (omega arith)))
      ∙ v (kind_at c p) (along by (length c) c (after c p)) (along by (length c) c (target_at c p))
      ∙ ap (λ (i : ℕ). min i 65536) (sym (level c g by l p w))

  pub filled_more : (m : List ℕ) (p n i : ℕ) → p < length m → Start c p → Filled by c (p + 1) (after c p) m n
      → i ≡ min (by (kind_at c p) n (get_or m (target_at c p) 0)) 65536 → Filled by c p p (set m p i) i
  filled_more m p n i b w f e = record { right = λ q u h. go q u h (eqb p q) refl; latest = λ _. e ∙ number m p n f w }
    where
      go : (q : ℕ) → Start c q → p ≤ q → (t : Bool) → eqb p q ≡ t → get_or (set m p i) q 0 ≡ min (along by (length c) c q) 65536
      go q u h true x =
          let z : p ≡ q = eqb-true p q x in
          let y : get_or (set m p i) p 0 ≡ i = get_or-set_same m p i 0 b in
          subst (λ (j : ℕ). get_or (set m p i) j 0 ≡ min (along by (length c) c j) 65536) z (y ∙ e ∙ number m p n f w)
      go q u h false x =
          let z : (p ≡ q → ⊥) = eqb-false p q x in
          get_or-set_other m p q i 0 (λ y. z (sym y)) ∙ f.right q u (omega arith)

filled_none : (by : Kind → ℕ → ℕ → ℕ) (c m : List ℕ) (n : ℕ) → Rising c → Filled by c (length c) (length c) m n
filled_none by c m n g =
    record {
      right = λ q w h. absurd (let i = g.inside q w in let z : ⊥ = omega arith in z);
      latest = λ w. absurd (let i = g.inside (length c) w in let z : ⊥ = omega arith in z);
    }

filled-skip : (by : Kind → ℕ → ℕ → ℕ) (c m : List ℕ) (p next n : ℕ) → is_start c p ≡ false → Filled by c (p + 1) next m n → Filled by c p next m n
filled-skip by c m p next n e f = record { right = λ q w h. go q w h (eqb p q) refl; latest = f.latest }
  where
    go : (q : ℕ) → Start c q → p ≤ q → (t : Bool) → eqb p q ≡ t → get_or m q 0 ≡ min (along by (length c) c q) 65536
    go q w h true x = let z : p ≡ q = eqb-true p q x in absurd-bool (sym e ∙ ap (is_start c) z ∙ w)
    go q w h false x = let z : (p ≡ q → ⊥) = eqb-false p q x in f.right q w (omega arith)

-- ---- the pass: from the code's end down to p; `next` is the lowest start that it met, or the end

pub record Back (c : List ℕ) (p : ℕ) (counts depths : List ℕ) (count depth : ℕ) : Type 0 where
  pub next : ℕ
  pub low : p ≤ next
  pub high : next ≤ length c
  pub some : next < length c → Start c next
  pub none : (t : ℕ) → p ≤ t → t < next → is_start c t ≡ false
  pub size_counts : length counts ≡ 8192
  pub size-depths : length depths ≡ 8192
  pub above : (q : ℕ) → Start c q → p ≤ q → rises c q ≡ true
  pub filled-counts : Rising c → Filled count_by c p next counts count
  pub filled-depths : Rising c → Filled depth_by c p next depths depth

pub back_none : (c counts depths : List ℕ) → length counts ≡ 8192 → length depths ≡ 8192 → Back c (length c) counts depths 0 0
back_none c counts depths e f =
    record {
      next = length c;
      low = omega arith;
      high = omega arith;
      some = λ h. absurd (let z : ⊥ = omega arith in z);
      none = λ t h l. absurd (let z : ⊥ = omega arith in z);
      size_counts = e;
      size-depths = f;
      above = λ q w h. absurd (let i = inside-code c q w in let z : ⊥ = omega arith in z);
      filled-counts = λ g. filled_none count_by c counts 0 g;
      filled-depths = λ g. filled_none depth_by c depths 0 g;
    }

-- at a start, what was met last is the next instruction
follows : (c : List ℕ) (p : ℕ) (counts depths : List ℕ) (count depth : ℕ) → judge_code c ≡ 0 → Start c p → (b : Back c (p + 1) counts depths count depth) → b.next ≡ after c p
follows c p counts depths count depth z w b = go (ltb (after c p) b.next) refl (ltb b.next (after c p)) refl
  where
    s : Sound c p
    s = sound c p z w

    go : (x : Bool) → ltb (after c p) b.next ≡ x → (y : Bool) → ltb b.next (after c p) ≡ y → b.next ≡ after c p
    go true e y f =
        let h : after c p < b.next = ltb-true _ _ e in
        absurd-bool
        (sym (b.none (after c p) (omega (arith, s.here.long)) h) ∙ next-starts c p (judged c z).all_laid w (omega (arith, b.high)))
    go false e true f =
        let h : b.next < after c p = ltb-true _ _ f in
        absurd-bool (sym (within_none c p b.next w (omega (arith, b.low)) h) ∙ b.some (omega (arith, s.here.inside)))
    go false e false f =
        let h : b.next ≤ after c p = ltb-false _ _ e in
        let k : after c p ≤ b.next = ltb-false _ _ f in
        omega arith

back-skip : (c : List ℕ) (p : ℕ) (counts depths : List ℕ) (count depth : ℕ) → is_start c p ≡ false → Back c (p + 1) counts depths count depth
    → Back c p counts depths count depth
back-skip c p counts depths count depth e b =
    record {
      next = b.next;
      low = omega (arith, b.low);
      high = b.high;
      some = b.some;
      none = λ t h l. none t h l (eqb p t) refl;
      size_counts = b.size_counts;
      size-depths = b.size-depths;
      above = λ q w h. above q w h (eqb p q) refl;
      filled-counts = λ g. filled-skip count_by c counts p b.next count e (b.filled-counts g);
      filled-depths = λ g. filled-skip depth_by c depths p b.next depth e (b.filled-depths g);
    }
  where
    none : (t : ℕ) → p ≤ t → t < b.next → (x : Bool) → eqb p t ≡ x → is_start c t ≡ false
    none t h l true x = let z : p ≡ t = eqb-true p t x in ap (is_start c) (sym z) ∙ e
    none t h l false x = let z : (p ≡ t → ⊥) = eqb-false p t x in b.none t (omega arith) l

    above : (q : ℕ) → Start c q → p ≤ q → (x : Bool) → eqb p q ≡ x → rises c q ≡ true
    above q w h true x = let z : p ≡ q = eqb-true p q x in absurd-bool (sym e ∙ ap (is_start c) z ∙ w)
    above q w h false x = let z : (p ≡ q → ⊥) = eqb-false p q x in b.above q w (omega arith)

back_more : (c : List ℕ) (p : ℕ) (counts depths : List ℕ) (count depth n d : ℕ) → length c ≤ 8192 → judge_code c ≡ 0 → Start c p → rises c p ≡ true
    → Back c (p + 1) counts depths count depth
    → n ≡ min (count_by (kind_at c p) count (get_or counts (target_at c p) 0)) 65536 → d ≡ min (depth_by (kind_at c p) depth (get_or depths (target_at c p) 0)) 65536
    → Back c p (set counts p n) (set depths p d) n d
back_more c p counts depths count depth n d b z w r k e f =
    record {
      next = p;
      low = omega arith;
      high = omega arith;
      some = λ _. w;
      none = λ t h l. absurd (let y : ⊥ = omega arith in y);
      size_counts = length-set counts p n ∙ k.size_counts;
      size-depths = length-set depths p d ∙ k.size-depths;
      above = λ q u h. above q u h (eqb p q) refl;
      filled-counts = λ g.
          filled_more count_by count-looks count-caps c g counts p count n (omega (arith, k.size_counts)) w
          (subst (λ (i : ℕ). Filled count_by c (p + 1) i counts count) x (k.filled-counts g)) e;
      filled-depths = λ g.
          filled_more depth_by depth-looks depth-caps c g depths p depth d (omega (arith, k.size-depths)) w
          (subst (λ (i : ℕ). Filled depth_by c (p + 1) i depths depth) x (k.filled-depths g)) f;
    }
  where
    x : k.next ≡ after c p
    x = follows c p counts depths count depth z w k

    i : p < length c
    i = inside-code c p w

    above : (q : ℕ) → Start c q → p ≤ q → (t : Bool) → eqb p q ≡ t → rises c q ≡ true
    above q u h true y = let o : p ≡ q = eqb-true p q y in ap (rises c) (sym o) ∙ r
    above q u h false y = let o : (p ≡ q → ⊥) = eqb-false p q y in k.above q u (omega arith)

back_end : (c : List ℕ) (counts depths : List ℕ) (count depth : ℕ) → 0 < length c → judge_code c ≡ 0 → Back c 0 counts depths count depth
    → Measured c true count depth
unfolding all_rise longest deepest
back_end c counts depths count depth h z b =
    record {
      right = sym all;
      longest-kept = λ _. (b.filled-counts g).latest (subst (Start c) first w) ∙ ap (λ (i : ℕ). min (along count_by (length c) c i) 65536) (sym first);
      deepest-kept = λ _. (b.filled-depths g).latest (subst (Start c) first w) ∙ ap (λ (i : ℕ). min (along depth_by (length c) c i) 65536) (sym first);
    }
  where
    w : Start c 0
    w = start-zero c h

    all : all_from (rises c) (length c) c 0 ≡ true
    all = all-from (rises c) (length c) c 0 (judged c z).all_laid (λ q u. b.above q u (omega arith)) (λ _. w)

    g : Rising c
    g = rising c h z all

    first : 0 ≡ b.next
    first = go (ltb 0 b.next) refl
      where
        go : (x : Bool) → ltb 0 b.next ≡ x → 0 ≡ b.next
        go true e = absurd-bool (sym (b.none 0 (omega arith) (ltb-true _ _ e)) ∙ w)
        go false e = let k : b.next ≤ 0 = ltb-false _ _ e in omega arith

back-stop : (c : List ℕ) (p : ℕ) → Start c p → rises c p ≡ false → Measured c false 0 0
unfolding all_rise
back-stop c p w r = record { right = go (all_from (rises c) (length c) c 0) refl; longest-kept = λ e. absurd-bool e; deepest-kept = λ e. absurd-bool e }
  where
    go : (b : Bool) → all_from (rises c) (length c) c 0 ≡ b → false ≡ all_from (rises c) (length c) c 0
    go true e = absurd-bool (sym r ∙ each-passes (rises c) c p e w)
    go false e = sym e

-- ---- one instruction, as the loop asks for it

-- an instruction that starts at p
pub record Here (c : List ℕ) (p : ℕ) : Type 0 where
  pub inside : p < length c
  pub fixed : p + length_of (byte c p) ≤ length c
  pub there : target_at c p < length c

start-here : (c : List ℕ) (p : ℕ) → judge_code c ≡ 0 → Start c p → Here c p
start-here c p z w = record { inside = s.inside; fixed = s.here.fixed; there = go (goes_to (kind_at c p)) refl }
  where
    s : Sound c p
    s = sound c p z w

    go : (b : Bool) → goes_to (kind_at c p) ≡ b → target_at c p < length c
    go true e = inside-code c _ (s.there e)
    go false e = let y : target_at c p ≡ 0 = without_target c p e in omega (arith, s.inside)

-- ---- the loop: the pass so far, over accepted code and the map of its starts; it goes on at the place below p

pub record Passing (c marks : List ℕ) (p : ℕ) (counts depths : List ℕ) (count depth : ℕ) : Type 0 where
  pub some : 0 < length c
  pub few : length c ≤ 8192
  pub accepted : judge_code c ≡ 0
  pub size : length marks ≡ 8192
  pub marked : Marked c marks
  pub back : Back c p counts depths count depth

pub passing-none : (c marks counts depths : List ℕ) → (0 < length c) × (length c ≤ 8192) × (judge_code c ≡ 0) → (length marks ≡ 8192) × Marked c marks
    → length counts ≡ 8192 → length depths ≡ 8192 → Passing c marks (length c) counts depths 0 0
passing-none c marks counts depths r m e f =
    record { some = r.0; few = r.1; accepted = r.2; size = m.0; marked = m.1; back = back_none c counts depths e f }

module _ {c marks : List ℕ} {p : ℕ} {counts depths : List ℕ} {count depth : ℕ} (w : Passing c marks p counts depths count depth) where
  begins : get_or marks (p - 1) 0 ≡ 1 → Start c (p - 1)
  begins e = sym (w.marked (p - 1)) ∙ eq-eqb _ _ e

  below : 0 < p → Back c (p - 1 + 1) counts depths count depth
  below h = subst (λ (i : ℕ). Back c i counts depths count depth) (omega arith) w.back

  kept : (p₂ : ℕ) (counts₂ depths₂ : List ℕ) (count₂ depth₂ : ℕ) → Back c p₂ counts₂ depths₂ count₂ depth₂ → Passing c marks p₂ counts₂ depths₂ count₂ depth₂
  kept p₂ counts₂ depths₂ count₂ depth₂ b = record { some = w.some; few = w.few; accepted = w.accepted; size = w.size; marked = w.marked; back = b }

  -- the place below p lies in the map and in both tables
  pub in_map : p ≤ 8192
  in_map = omega (arith, w.back.low, w.back.high, w.few)

  pub here : get_or marks (p - 1) 0 ≡ 1 → Here c (p - 1)
  here e = start-here c (p - 1) w.accepted (begins e)

  pub passing-skip : 0 < p → (get_or marks (p - 1) 0 ≡ 1 → ⊥) → Passing c marks (p - 1) counts depths count depth
  passing-skip h e = kept _ _ _ _ _ (back-skip c (p - 1) counts depths count depth (sym (w.marked (p - 1)) ∙ ne_eqb _ _ e) (below h))

  pub passing-more : (n d t : ℕ) → 0 < p → get_or marks (p - 1) 0 ≡ 1 → rises c (p - 1) ≡ true → t ≡ target_at c (p - 1)
      → n ≡ min (count_by (kind_at c (p - 1)) count (get_or counts t 0)) 65536 → d ≡ min (depth_by (kind_at c (p - 1)) depth (get_or depths t 0)) 65536
      → Passing c marks (p - 1) (set counts (p - 1) n) (set depths (p - 1) d) n d
  passing-more n d t h e r o u v =
      kept _ _ _ _ _
      (back_more c (p - 1) counts depths count depth n d w.few w.accepted (begins e) r (below h)
      (subst (λ (i : ℕ). n ≡ min (count_by (kind_at c (p - 1)) count (get_or counts i 0)) 65536) o u)
      (subst (λ (i : ℕ). d ≡ min (depth_by (kind_at c (p - 1)) depth (get_or depths i 0)) 65536) o v))

  -- all places are passed
  pub passing-end : p ≡ 0 → Measured c true count depth
  passing-end e = back_end c counts depths count depth w.some w.accepted (subst (λ (i : ℕ). Back c i counts depths count depth) e w.back)

  -- a T is not above its instruction
  pub passing-stop : get_or marks (p - 1) 0 ≡ 1 → rises c (p - 1) ≡ false → Measured c false 0 0
  passing-stop e r = back-stop c (p - 1) (begins e) r
