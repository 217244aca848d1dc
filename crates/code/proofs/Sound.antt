-- Accepted code: what stands at the start of an instruction, and that control goes from start to start and never leaves the code.
-- In order: what a pass shows of each start; the next instruction and the last; `sound`, which is what a machine that runs the code rests on.
-- Assumes nothing.
use mathlib.Core.Path.{◌≡◌, refl, sym, ap, ◌∙◌, subst}
use mathlib.Core.Bool.{Bool, true, false}
use mathlib.Core.List.{List}
use Prim.Native.Nat.{ℕ, zero, suc, ◌+◌, ◌≤◌, ◌<◌}
use native.Mathlib.Omega.{arith}
use borrow.Author.Tests.{ltb-true, ltb-false, eqb-true}
use lib.Dec.{ltb, eqb}
use lib.ListN.{length}
use Rattle.verdict.specs.Verdict.{pick, unless}
use Rattle.verdict.proofs.Verdict.{absurd-bool, next-zero, unless-zero}
use Rattle.memory.specs.Memory.{byte}
use Rattle.code.specs.Flow.{kind_at, goes_on, goes_to, target_at, after}
use Rattle.code.specs.declared.Profile.{Profile}
use Rattle.code.specs.declared.Profile.TheVariants.{Full}
use Rattle.code.specs.Code.{instruction_ok, instruction_refusal, laid, start_from, is_start, all_from, target_ok, last_from, ends, judge_code_for, judge_code}
use Rattle.code.proofs.Laws.{Whole, whole, accepted, high}
use Rattle.code.proofs.Passes.{laid_both, start-one, all_one, last_one, last_end, start-here, start-beyond}

-- ---- what a pass shows of each start

start-inside : (k : ℕ) (c : List ℕ) (q t : ℕ) → start_from (suc k) c q t ≡ true → q < length c
unfolding start_from pick
start-inside k c q t e = go (ltb q (length c)) refl
  where
    go : (b : Bool) → ltb q (length c) ≡ b → q < length c
    go true h = ltb-true _ _ h
    go false h = absurd-bool (rw h at e)

later : (k : ℕ) (c : List ℕ) (q p : ℕ) → q < length c → eqb q p ≡ false → start_from (suc k) c q p ≡ true → start_from k c (after c q) p ≡ true
unfolding pick
later k c q p h x w = rw x at (sym (start-one k c q p h) ∙ w)

-- F is known along the pass, and shows P of the place where it stands
pub each : (c : List ℕ) (P : ℕ → Type 0) (F : ℕ → ℕ → Type 0)
    → ((k q : ℕ) → q < length c → F (suc k) q → P q × F k (after c q))
    → (k q p : ℕ) → F k q → start_from k c q p ≡ true → P p
unfolding start_from
each c P F f zero q p h w = absurd-bool w
each c P F f (suc k) q p h w = go (each c P F f k (after c q) p a.1) (eqb q p) refl
  where
    inside : q < length c
    inside = start-inside k c q p w

    a : P q × F k (after c q)
    a = f k q inside h

    go : (start_from k c (after c q) p ≡ true → P p) → (b : Bool) → eqb q p ≡ b → P p
    go ih true e = subst P (eqb-true q p e) a.0
    go ih false e = ih (later k c q p inside e w)

-- the starts lie in the code
pub inside-code : (c : List ℕ) (p : ℕ) → is_start c p ≡ true → p < length c
inside-code c p w = go (ltb p (length c)) refl
  where
    go : (t : Bool) → ltb p (length c) ≡ t → p < length c
    go true e = ltb-true _ _ e
    go false e = absurd-bool (sym (start-beyond c p (ltb-false _ _ e)) ∙ w)

-- each instruction of laid code is accepted
pub each-ok : (c : List ℕ) (p : ℕ) → laid Full (length c) c 0 ≡ 0 → is_start c p ≡ true → instruction_ok c p ≡ true
unfolding is_start
each-ok c p l w =
    accepted Full c p
    (each c (λ q. instruction_refusal Full c q ≡ 0) (λ k q. laid Full k c q ≡ 0) (λ k q h z. laid_both Full k c q h z) (length c) 0 p l w)

chain-true : (t r : Bool) → pick t r false ≡ true → (t ≡ true) × (r ≡ true)
unfolding pick
chain-true true r e = (refl, e)
chain-true false r e = absurd-bool e

-- a test that all instructions pass is passed by each
pub each-passes : (test : ℕ → Bool) (c : List ℕ) (p : ℕ) → all_from test (length c) c 0 ≡ true → is_start c p ≡ true → test p ≡ true
unfolding is_start
each-passes test c p l w =
    each c (λ q. test q ≡ true) (λ k q. all_from test k c q ≡ true) (λ k q h z. chain-true _ _ (sym (all_one test k c q h) ∙ z)) (length c) 0 p l w

-- ---- the next instruction and the last

pick_true : (b r : Bool) → r ≡ true → pick b true r ≡ true
unfolding pick
pick_true true r e = refl
pick_true false r e = e

start-next : (k : ℕ) (c : List ℕ) (q p : ℕ) → length c ≤ q + k → laid Full k c q ≡ 0 → start_from k c q p ≡ true → after c p < length c
    → start_from k c q (after c p) ≡ true
unfolding start_from
start-next zero c q p e l w h = absurd-bool w
start-next (suc k) c q p e l w h =
    go (start-next k c (after c q) p (omega (arith, here)) a.1) (eqb q p) refl
  where
    inside : q < length c
    inside = start-inside k c q p w

    a : (instruction_refusal Full c q ≡ 0) × (laid Full k c (after c q) ≡ 0)
    a = laid_both Full k c q inside l

    here : Whole c q
    here = whole c q (accepted Full c q a.0)

    go : (start_from k c (after c q) p ≡ true → after c p < length c → start_from k c (after c q) (after c p) ≡ true)
        → (b : Bool) → eqb q p ≡ b → start_from (suc k) c q (after c p) ≡ true
    go ih true eb =
        let z : q ≡ p = eqb-true q p eb in
        let g : after c q < length c = rw z h in
        let t : start_from k c (after c q) (after c q) ≡ true = start-here k c (after c q) (omega (arith, here)) g in
        let u : start_from (suc k) c q (after c q) ≡ true = start-one k c q (after c q) inside ∙ pick_true (eqb q (after c q)) _ t in
        subst (λ (x : ℕ). start_from (suc k) c q (after c x) ≡ true) z u
    go ih false eb =
        start-one k c q (after c p) inside
        ∙ pick_true (eqb q (after c p)) (start_from k c (after c q) (after c p)) (ih (later k c q p inside eb w) h)

-- after an instruction that does not end the code, the next one starts
pub next-starts : (c : List ℕ) (p : ℕ) → laid Full (length c) c 0 ≡ 0 → is_start c p ≡ true → after c p < length c → is_start c (after c p) ≡ true
unfolding is_start
next-starts c p l w h = start-next (length c) c 0 p (omega arith) l w h

last-is : (k : ℕ) (c : List ℕ) (q p code : ℕ) → length c ≤ q + k → laid Full k c q ≡ 0 → start_from k c q p ≡ true → length c ≤ after c p
    → last_from k c q code ≡ byte c p
unfolding start_from
last-is zero c q p code e l w h = absurd-bool w
last-is (suc k) c q p code e l w h =
    last_one k c q code inside ∙ go (last-is k c (after c q) p (byte c q) (omega (arith, here)) a.1) (eqb q p) refl
  where
    inside : q < length c
    inside = start-inside k c q p w

    a : (instruction_refusal Full c q ≡ 0) × (laid Full k c (after c q) ≡ 0)
    a = laid_both Full k c q inside l

    here : Whole c q
    here = whole c q (accepted Full c q a.0)

    go : (start_from k c (after c q) p ≡ true → length c ≤ after c p → last_from k c (after c q) (byte c q) ≡ byte c p)
        → (b : Bool) → eqb q p ≡ b → last_from k c (after c q) (byte c q) ≡ byte c p
    go ih true eb =
        let z : q ≡ p = eqb-true q p eb in
        last_end k c (after c q) (byte c q) (rw z h) ∙ ap (byte c) z
    go ih false eb = ih (later k c q p inside eb w) h

-- the instruction that ends the code is the last one
pub end-is-last : (c : List ℕ) (p : ℕ) → laid Full (length c) c 0 ≡ 0 → is_start c p ≡ true → length c ≤ after c p → last_from (length c) c 0 0 ≡ byte c p
unfolding is_start
end-is-last c p l w h = last-is (length c) c 0 p 0 (omega arith) l w h

-- ---- what a machine that runs accepted Full code rests on

-- of a place where an instruction starts: the instruction is known and whole, its operands lie on their lists, and control goes to a start
pub record Sound (c : List ℕ) (p : ℕ) : Type 0 where
  pub inside : p < length c
  pub here : Whole c p
  pub onward : goes_on (kind_at c p) ≡ true → is_start c (after c p) ≡ true
  pub there : goes_to (kind_at c p) ≡ true → is_start c (target_at c p) ≡ true

-- the three judgements of code that a profile accepts
pub record Judged (o : Profile) (c : List ℕ) : Type 0 where
  pub all_laid : laid o (length c) c 0 ≡ 0
  pub targets : all_from (target_ok c) (length c) c 0 ≡ true
  pub last : last_from (length c) c 0 0 < 2

pub judged-for : (o : Profile) (c : List ℕ) → judge_code_for o c ≡ 0 → Judged o c
unfolding judge_code_for
judged-for o c z =
    let a = next-zero (laid o (length c) c 0) _ z in
    let b = next-zero (unless (all_from (target_ok c) (length c) c 0) 7) _ a.1 in
    record { all_laid = a.0; targets = unless-zero _ 6 b.0; last = ltb-true _ _ (unless-zero (ends (last_from (length c) c 0 0)) 6 b.1) }

pub judged : (c : List ℕ) → judge_code c ≡ 0 → Judged Full c
judged c z = judged-for Full c z

pub start-zero : (c : List ℕ) → 0 < length c → is_start c 0 ≡ true
unfolding is_start
start-zero c h = start-here (length c) c 0 (omega arith) h

pub target-starts : (c : List ℕ) (p : ℕ) → target_ok c p ≡ true → goes_to (kind_at c p) ≡ true → is_start c (target_at c p) ≡ true
unfolding target_ok pick
target-starts c p t o = rw o at t

pub sound : (c : List ℕ) (p : ℕ) → judge_code c ≡ 0 → is_start c p ≡ true → Sound c p
sound c p z w = record { inside = inside-code c p w; here = here; onward = onward; there = there }
  where
    j : Judged Full c
    j = judged c z

    here : Whole c p
    here = whole c p (each-ok c p j.all_laid w)

    onward : goes_on (kind_at c p) ≡ true → is_start c (after c p) ≡ true
    onward o = go (ltb (after c p) (length c)) refl
      where
        go : (t : Bool) → ltb (after c p) (length c) ≡ t → is_start c (after c p) ≡ true
        go true e = next-starts c p j.all_laid w (ltb-true _ _ e)
        go false e =
            let l = end-is-last c p j.all_laid w (ltb-false _ _ e) in
            let n = j.last in
            let m = high c p o in
            absurd (let y : ⊥ = omega arith in y)

    there : goes_to (kind_at c p) ≡ true → is_start c (target_at c p) ≡ true
    there o = target-starts c p (each-passes (target_ok c) c p j.targets w) o
