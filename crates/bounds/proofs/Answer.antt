-- The answer of the call, from what is found of each core. In order: one core; its code in the file; a column of four numbers; the answer; an
-- answer that is no refusal. Not here: how one core's code is measured (proofs/Back). Assumes nothing.
use mathlib.Core.Path.{◌≡◌, refl, sym, ap, ◌∙◌, subst}
use mathlib.Core.Bool.{Bool, true, false}
use mathlib.Core.List.{List, [], ◌∷◌}
use Prim.Native.Nat.{ℕ, zero, suc, ◌+◌, ◌-◌, ◌≤◌, ◌<◌}
use native.Mathlib.Omega.{arith}
use borrow.Author.Tests.{le-leb, lt-leb, eqb-true, eqb-false, eq-eqb, ne_eqb, ltb-true, ltb-false}
use lib.Dec.{ltb, eqb}
use lib.ListN.{length, get_or, set, length-set, replicate, length-replicate, take, drop}
use lib.Seq.{get_or-set_same, get_or-set_other}
use Rattle.verdict.specs.Verdict.{pick, next, first}
use Rattle.verdict.proofs.Verdict.{pick_true, pick-false, skip, stop, halt, yes, no, next-none, next-zero, Going, going-none, going_more, going-stop, going_end}
use Rattle.memory.specs.Memory.{word, part, total}
use Rattle.code.specs.Commands.{Kind, Returns, Jumps, Branches, Calls, Passes}
use Rattle.code.specs.Flow.{kind_at, after, target_at}
use Rattle.code.specs.Code.{judge_code}
use Rattle.code.proofs.Laying.{zeros}
use Rattle.records.specs.File.{cores}
use Rattle.taskset.specs.declared.Layout.{Layout}
use Rattle.taskset.specs.Judge.{code_place, code_of, judge}
use Rattle.taskset.specs.Layout.{no_core, core_at, core_layout, layout_of}
use Rattle.taskset.specs.Task.{sizes_of}
use Rattle.taskset.proofs.Accepted.{core-facts}
use Rattle.taskset.proofs.Exact.{keeps-rules}
use Rattle.machine.specs.Calls.{buffer_size}
use Rattle.bounds.specs.Bounds.{count_by, depth_by, along, longest, deepest, bounds_refusal, cores_refusal, takes_refusal, longest_of, deepest_of, no_takes, takes_in, takes_of, Measured, Found}

-- ---- one core

less : (x : Kind) (a b t u : ℕ) → a ≤ b → t ≤ u → depth_by x a t ≤ count_by x b u
unfolding depth_by count_by
less Returns a b t u p q = omega arith
less Jumps a b t u p q = omega arith
less Branches a b t u p q = omega arith
less Calls a b t u p q = omega arith
less Passes a b t u p q = omega arith

-- a level deeper takes a call, so a count that is not cut says that the depth is not
shallow : (k : ℕ) (c : List ℕ) (p : ℕ) → along depth_by k c p ≤ along count_by k c p
unfolding along
shallow zero c p = omega arith
shallow (suc k) c p = less (kind_at c p) _ _ _ _ (shallow k c (after c p)) (shallow k c (target_at c p))

deepest-longest : (c : List ℕ) → deepest c ≤ longest c
unfolding deepest longest
deepest-longest c = shallow (length c) c 0

pub found-falls : (c : List ℕ) (rise : Bool) (count depth : ℕ) → Measured c rise count depth → rise ≡ false → Found c 25 0 0
unfolding bounds_refusal
found-falls c rise count depth m e =
    record {
      right = halt 24 _ (no _ 25 (sym m.right ∙ e));
      longest-found = λ z. absurd (let y : ⊥ = omega arith in y);
      deepest-found = λ z. absurd (let y : ⊥ = omega arith in y);
    }

pub found-long : (c : List ℕ) (rise : Bool) (count depth : ℕ) → Measured c rise count depth → rise ≡ true → 65535 < count → Found c 26 0 0
unfolding bounds_refusal
found-long c rise count depth m e h =
    record {
      right = skip (yes _ 25 (sym m.right ∙ e)) (sym (no _ 26 (lt-leb (longest c) 65535 (omega (arith, m.longest-kept e)))));
      longest-found = λ z. absurd (let y : ⊥ = omega arith in y);
      deepest-found = λ z. absurd (let y : ⊥ = omega arith in y);
    }

pub found-both : (c : List ℕ) (rise : Bool) (count depth : ℕ) → Measured c rise count depth → rise ≡ true → count ≤ 65535 → Found c 0 count depth
unfolding bounds_refusal
found-both c rise count depth m e h =
    record {
      right = skip (yes _ 25 (sym m.right ∙ e)) (sym (yes _ 26 (le-leb (longest c) 65535 (omega (arith, m.longest-kept e)))));
      longest-found = λ _. omega (arith, m.longest-kept e);
      deepest-found = λ _. omega (arith, m.longest-kept e, m.deepest-kept e, deepest-longest c);
    }

-- ---- its code in the file

pub four : {A : Type 0} (g : ℕ → A) (k : ℕ) (d : A) → k < 4 → get_or (g 0 ∷ g 1 ∷ g 2 ∷ g 3 ∷ []) k d ≡ g k
four g zero d h = refl
four g (suc zero) d h = refl
four g (suc (suc zero)) d h = refl
four g (suc (suc (suc zero))) d h = refl
four g (suc (suc (suc (suc k)))) d h = absurd (let y : ⊥ = omega arith in y)

-- core k in what loading has found
pub record Core (f : List ℕ) (k place size : ℕ) : Type 0 where
  pub fits : place + size ≤ length f
  pub some : 0 < size
  pub most : size ≤ 8192
  pub accepted : judge_code (code_of f k) ≡ 0
  pub is : take (place + size - place) (drop place f) ≡ code_of f k
  pub long : length (code_of f k) ≡ size

layout-at : (f : List ℕ) (l : Layout) (k : ℕ) → judge f ≡ 0 → l ≡ layout_of f → k < cores f → get_or l.core k no_core ≡ core_at f k
layout-at f l k z e h =
    ap (λ (m : Layout). get_or m.core k no_core) e
    ∙ four (core_layout f) k no_core (omega (arith, (keeps-rules f z).most-cores))
    ∙ (core-facts f z k h).laid_out

pub core-in : (f : List ℕ) (l : Layout) (k : ℕ) → judge f ≡ 0 → l ≡ layout_of f → k < cores f
    → Core f k (get_or l.core k no_core).code (get_or l.core k no_core).length
unfolding part
core-in f l k z e h =
    let a = core-facts f z k h in
    let m : code_place f k + 2 + word f (code_place f k) - (code_place f k + 2) ≡ word f (code_place f k) = omega arith in
    rw (layout-at f l k z e h)
    (record {
      fits = a.code-in-file;
      some = a.some-code;
      most = a.most-code;
      accepted = a.code-accepted;
      is = rw m;
      long = a.code-length;
    })

-- the number of cores that loading has found is the file's, at most 4
pub few-cores : (f : List ℕ) (l : Layout) → judge f ≡ 0 → l ≡ layout_of f → (l.cores ≡ cores f) × (cores f ≤ 4)
few-cores f l z e = (ap (λ (m : Layout). m.cores) e, (keeps-rules f z).most-cores)

-- ---- a column of four numbers: those below k are found, the others 0

pub record Column (g : ℕ → ℕ) (k : ℕ) (l : List ℕ) : Type 0 where
  pub size : length l ≡ 4
  pub low : (i : ℕ) → i < k → get_or l i 0 ≡ g i
  pub high : (i : ℕ) → k ≤ i → get_or l i 0 ≡ 0

pub column-none : (g : ℕ → ℕ) → Column g 0 (replicate 4 0)
column-none g = record { size = length-replicate {A = ℕ} 4 0; low = λ i h. absurd (let y : ⊥ = omega arith in y); high = λ i h. zeros 4 i }

pub column-more : (g : ℕ → ℕ) (k n : ℕ) (l : List ℕ) → k < 4 → Column g k l → n ≡ g k → Column g (k + 1) (set l k n)
column-more g k n l h c e =
    record {
      size = length-set l k n ∙ c.size;
      low = λ i p. low i p (eqb k i) refl;
      high = λ i p. get_or-set_other l k i n 0 (λ (y : i ≡ k). let z : ⊥ = omega arith in z) ∙ c.high i (omega arith);
    }
  where
    low : (i : ℕ) → i < k + 1 → (b : Bool) → eqb k i ≡ b → get_or (set l k n) i 0 ≡ g i
    low i p true x =
        let z : k ≡ i = eqb-true k i x in
        subst (λ (j : ℕ). get_or (set l k n) j 0 ≡ g j) z (get_or-set_same l k n 0 (omega (arith, c.size)) ∙ e)
    low i p false x =
        let z : (k ≡ i → ⊥) = eqb-false k i x in
        get_or-set_other l k i n 0 (λ y. z (sym y)) ∙ c.low i (omega arith)

entries : (l : List ℕ) → length l ≡ 4 → l ≡ get_or l 0 0 ∷ get_or l 1 0 ∷ get_or l 2 0 ∷ get_or l 3 0 ∷ []
entries [] e = absurd (let y : ⊥ = omega arith in y)
entries (a ∷ []) e = absurd (let y : ⊥ = omega arith in y)
entries (a ∷ b ∷ []) e = absurd (let y : ⊥ = omega arith in y)
entries (a ∷ b ∷ c ∷ []) e = absurd (let y : ⊥ = omega arith in y)
entries (a ∷ b ∷ c ∷ d ∷ []) e = refl
entries (a ∷ b ∷ c ∷ d ∷ x ∷ l) e = absurd (let y : ⊥ = omega arith in y)

column-at : (g : ℕ → ℕ) (n i : ℕ) (l : List ℕ) → Column g n l → get_or l i 0 ≡ pick (ltb i n) (g i) 0
column-at g n i l c = go (ltb i n) refl
  where
    go : (b : Bool) → ltb i n ≡ b → get_or l i 0 ≡ pick (ltb i n) (g i) 0
    go true e = c.low i (ltb-true _ _ e) ∙ sym (pick_true _ _ _ e)
    go false e = c.high i (ltb-false _ _ e) ∙ sym (pick-false _ _ _ e)

column-end : (g h : ℕ → ℕ) (n : ℕ) (l : List ℕ) → Column g n l → ((i : ℕ) → h i ≡ pick (ltb i n) (g i) 0) → l ≡ h 0 ∷ h 1 ∷ h 2 ∷ h 3 ∷ []
column-end g h n l c e = entries l c.size ∙ rw (at 0, at 1, at 2, at 3)
  where
    at : (i : ℕ) → get_or l i 0 ≡ h i
    at i = column-at g n i l c ∙ sym (e i)

-- ---- the answer

abbrev of_core : List ℕ → ℕ → ℕ
of_core f k = bounds_refusal (code_of f k)

pub record Counted (f : List ℕ) (k : ℕ) (count depth : List ℕ) : Type 0 where
  pub going : Going (of_core f) 0 (cores f) k
  pub counts : Column (λ i. longest (code_of f i)) k count
  pub depths : Column (λ i. deepest (code_of f i)) k depth

pub counted_none : (f : List ℕ) → Counted f 0 (replicate 4 0) (replicate 4 0)
counted_none f = record { going = going-none _ 0 (cores f); counts = column-none _; depths = column-none _ }

pub counted-more : (f : List ℕ) (k r n d : ℕ) (count depth : List ℕ) → k < cores f → k < 4 → Counted f k count depth → Found (code_of f k) r n d → r ≡ 0
    → Counted f (k + 1) (set count k n) (set depth k d)
counted-more f k r n d count depth h l c w z =
    record {
      going = going_more (of_core f) 0 (cores f) k c.going h (sym w.right ∙ z);
      counts = column-more _ k n count l c.counts (w.longest-found z);
      depths = column-more _ k d depth l c.depths (w.deepest-found z);
    }

refused : (f : List ℕ) (r : ℕ) → r ≡ takes_refusal f → (r ≡ 0 → ⊥) → no_takes r ≡ takes_of f
unfolding takes_of pick
refused f r e nz = rw (sym e, ne_eqb r 0 nz)

pub refused-file : (f : List ℕ) (r : ℕ) → r ≡ judge f → (r ≡ 0 → ⊥) → no_takes r ≡ takes_of f
unfolding takes_refusal
refused-file f r e nz = refused f r (stop _ e nz) nz

pub refused-core : (f : List ℕ) (k r n d : ℕ) (count depth : List ℕ) → judge f ≡ 0 → k < cores f → Counted f k count depth → Found (code_of f k) r n d → (r ≡ 0 → ⊥)
    → no_takes r ≡ takes_of f
unfolding takes_refusal cores_refusal
refused-core f k r n d count depth z h c w nz = refused f r (skip z (going-stop (of_core f) 0 (cores f) k r c.going h w.right nz)) nz

buffer-is : (f : List ℕ) → judge f ≡ 0 → total (sizes_of f) ≡ buffer_size f
unfolding buffer_size
buffer-is f z = sym (pick_true _ _ _ (eq-eqb _ _ z))

pub answered : (f : List ℕ) (k b : ℕ) (count depth : List ℕ) → judge f ≡ 0 → Counted f k count depth → cores f ≤ k → k ≤ cores f → b ≡ total (sizes_of f)
    → record { refusal = 0; buffer = b; shared = 1024; table = cores f; count = count; depth = depth } ≡ takes_of f
unfolding takes_of takes_refusal cores_refusal longest_of deepest_of
answered f k b count depth z c h i e =
    let n : k ≡ cores f = omega arith in
    let y : next (judge f) (first (of_core f) (cores f - 0) 0) ≡ 0 = next-none _ _ z (sym (going_end (of_core f) 0 (cores f) k c.going h)) in
    let o : b ≡ buffer_size f = e ∙ buffer-is f z in
    let p : count ≡ longest_of f 0 ∷ longest_of f 1 ∷ longest_of f 2 ∷ longest_of f 3 ∷ [] = column-end _ (longest_of f) (cores f) count (rw (sym n) c.counts) (λ i. refl) in
    let q : depth ≡ deepest_of f 0 ∷ deepest_of f 1 ∷ deepest_of f 2 ∷ deepest_of f 3 ∷ [] = column-end _ (deepest_of f) (cores f) depth (rw (sym n) c.depths) (λ i. refl) in
    rw (o, p, q) (sym (pick_true (eqb (takes_refusal f) 0) (takes_in f) (no_takes (takes_refusal f)) (eq-eqb (takes_refusal f) 0 y)))

-- ---- an answer that is no refusal

pub none-refused : (f : List ℕ) → (takes_of f).refusal ≡ 0 → takes_refusal f ≡ 0
unfolding takes_of pick
none-refused f z = go (eqb (takes_refusal f) 0) refl
  where
    go : (b : Bool) → eqb (takes_refusal f) 0 ≡ b → takes_refusal f ≡ 0
    go true e = eqb-true _ _ e
    go false e = rw e at z

pub file-accepted : (f : List ℕ) → (takes_of f).refusal ≡ 0 → judge f ≡ 0
unfolding takes_refusal
file-accepted f z = (next-zero (judge f) _ (none-refused f z)).0

pub answer-is : (f : List ℕ) → (takes_of f).refusal ≡ 0 → takes_of f ≡ takes_in f
unfolding takes_of
answer-is f z = pick_true _ _ _ (eq-eqb _ _ (none-refused f z))
