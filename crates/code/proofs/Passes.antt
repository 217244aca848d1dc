-- The passes over a core's code: what one instruction of each does to what is left, and the way to one place. Assumes nothing.
use mathlib.Core.Path.{◌≡◌, refl, sym, ap, ◌∙◌, subst}
use mathlib.Core.Bool.{Bool, true, false}
use mathlib.Core.List.{List}
use Prim.Native.Nat.{ℕ, zero, suc, ◌+◌, ◌≤◌, ◌<◌}
use native.Mathlib.Nat.{add-zero}
use native.Mathlib.Omega.{arith}
use borrow.Author.Tests.{lt-ltb, le-ltb, ne_eqb, eq-eqb, ltb-true}
use lib.Dec.{ltb, eqb}
use lib.ListN.{length}
use Rattle.verdict.specs.Verdict.{pick, next}
use Rattle.verdict.proofs.Verdict.{next-zero, next-none}
use Rattle.memory.specs.Memory.{byte}
use Rattle.code.specs.Instructions.{instruction_length}
use Rattle.code.specs.Flow.{after}
use Rattle.code.specs.declared.Profile.{Profile}
use Rattle.code.specs.declared.Profile.TheVariants.{Full}
use Rattle.code.specs.Code.{instruction_refusal, laid, start_from, is_start, all_from, last_from}
use Rattle.code.proofs.Laws.{accepted, carried_none}

-- ---- one instruction of a walk

pub laid_one : (o : Profile) (k : ℕ) (c : List ℕ) (p : ℕ) → p < length c → laid o (suc k) c p ≡ next (instruction_refusal o c p) (laid o k c (after c p))
unfolding laid pick
laid_one o k c p h = rw (lt-ltb _ _ h)

pub laid_both : (o : Profile) (k : ℕ) (c : List ℕ) (p : ℕ) → p < length c → laid o (suc k) c p ≡ 0 → (instruction_refusal o c p ≡ 0) × (laid o k c (after c p) ≡ 0)
laid_both o k c p h z = next-zero _ _ (sym (laid_one o k c p h) ∙ z)

pub start-one : (k : ℕ) (c : List ℕ) (p t : ℕ) → p < length c → start_from (suc k) c p t ≡ pick (eqb p t) true (start_from k c (after c p) t)
unfolding start_from pick
start-one k c p t h = rw (lt-ltb _ _ h)

pub all_one : (test : ℕ → Bool) (k : ℕ) (c : List ℕ) (p : ℕ) → p < length c → all_from test (suc k) c p ≡ pick (test p) (all_from test k c (after c p)) false
unfolding all_from pick
all_one test k c p h = rw (lt-ltb _ _ h)

pub last_one : (k : ℕ) (c : List ℕ) (p code : ℕ) → p < length c → last_from (suc k) c p code ≡ last_from k c (after c p) (byte c p)
unfolding last_from pick
last_one k c p code h = rw (lt-ltb _ _ h)

-- at the end of the code nothing is left
pub laid_end : (o : Profile) (k : ℕ) (c : List ℕ) (p : ℕ) → length c ≤ p → laid o k c p ≡ 0
unfolding laid pick
laid_end o zero c p h = refl
laid_end o (suc k) c p h = simp (le-ltb _ _ h)

pub start-end : (k : ℕ) (c : List ℕ) (p t : ℕ) → length c ≤ p → start_from k c p t ≡ false
unfolding start_from pick
start-end zero c p t h = refl
start-end (suc k) c p t h = simp (le-ltb _ _ h)

pub all_end : (test : ℕ → Bool) (k : ℕ) (c : List ℕ) (p : ℕ) → length c ≤ p → all_from test k c p ≡ true
unfolding all_from pick
all_end test zero c p h = refl
all_end test (suc k) c p h = simp (le-ltb _ _ h)

pub last_end : (k : ℕ) (c : List ℕ) (p code : ℕ) → length c ≤ p → last_from k c p code ≡ code
unfolding last_from pick
last_end zero c p code h = refl
last_end (suc k) c p code h = simp (le-ltb _ _ h)

-- what one profile accepts the full one accepts
pub laid-full : (o : Profile) (k : ℕ) (c : List ℕ) (p : ℕ) → laid o k c p ≡ 0 → laid Full k c p ≡ 0
unfolding laid pick
laid-full o zero c p z = refl
laid-full o (suc k) c p z = go (laid-full o k c (after c p)) (ltb p (length c)) refl
  where
    go : (laid o k c (after c p) ≡ 0 → laid Full k c (after c p) ≡ 0) → (b : Bool) → ltb p (length c) ≡ b → laid Full (suc k) c p ≡ 0
    go ih true e =
        let a = laid_both o k c p (ltb-true _ _ e) z in
        rw e (next-none _ _ (carried_none Full c p (accepted o c p a.0) refl) (ih a.1))
    go ih false e = rw e

-- ---- the way to one place, of any code

pub record Walking (c : List ℕ) (t p : ℕ) : Type 0 where
  pub left : ℕ
  pub inside : p ≤ t
  pub enough : length c ≤ p + left
  pub rest : is_start c t ≡ start_from left c p t

pub walking-none : (c : List ℕ) (t : ℕ) → Walking c t 0
unfolding is_start
walking-none c t = record { left = length c; inside = omega arith; enough = omega arith; rest = refl }

-- a walk that has passed a place does not come back to it
start-past : (k : ℕ) (c : List ℕ) (p t : ℕ) → t < p → start_from k c p t ≡ false
unfolding start_from pick
start-past zero c p t h = refl
start-past (suc k) c p t h = go (start-past k c (after c p) t (omega arith)) (ltb p (length c)) refl
  where
    go : start_from k c (after c p) t ≡ false → (b : Bool) → ltb p (length c) ≡ b → start_from (suc k) c p t ≡ false
    go ih true e = rw (e, ne_eqb p t (λ z. let y : ⊥ = omega arith in y)) ih
    go ih false e = rw e

-- nor does one that stands still come to it
start-stuck : (k : ℕ) (c : List ℕ) (p t : ℕ) → (p ≡ t → ⊥) → instruction_length c p ≡ 0 → start_from k c p t ≡ false
unfolding start_from pick
start-stuck zero c p t h z = refl
start-stuck (suc k) c p t h z = go (start-stuck k c p t h z) (ltb p (length c)) refl
  where
    stays : after c p ≡ p
    stays = ap (λ (n : ℕ). p + n) z ∙ add-zero p

    go : start_from k c p t ≡ false → (b : Bool) → ltb p (length c) ≡ b → start_from (suc k) c p t ≡ false
    go ih true e = rw (e, ne_eqb p t h) (ap (λ (q : ℕ). start_from k c q t) stays ∙ ih)
    go ih false e = rw e

walk : (c : List ℕ) (t p : ℕ) → p < t → t < length c → 0 < instruction_length c p → after c p ≤ t → (k : ℕ) → length c ≤ p + k
    → is_start c t ≡ start_from k c p t → Walking c t (after c p)
unfolding pick
walk c t p h g l i zero e r = absurd (let y : ⊥ = omega arith in y)
walk c t p h g l i (suc k) e r =
    record {
      left = k;
      inside = i;
      enough = omega arith;
      rest = r ∙ start-one k c p t (omega arith) ∙ rw (ne_eqb p t (λ z. let y : ⊥ = omega arith in y));
    }

pub walking-more : (c : List ℕ) (t p : ℕ) → Walking c t p → p < t → t < length c → (instruction_length c p ≡ 0 → ⊥) → after c p ≤ t
    → Walking c t (after c p)
walking-more c t p w h g nz i = walk c t p h g (omega arith) i w.left w.enough w.rest

pub walking-stuck : (c : List ℕ) (t p : ℕ) → Walking c t p → p < t → instruction_length c p ≡ 0 → is_start c t ≡ false
walking-stuck c t p w h z = w.rest ∙ start-stuck w.left c p t (λ e. let y : ⊥ = omega arith in y) z

past : (c : List ℕ) (t p : ℕ) → p < t → t < length c → t < after c p → (k : ℕ) → start_from k c p t ≡ false
unfolding start_from pick
past c t p h g i zero = refl
past c t p h g i (suc k) =
    start-one k c p t (omega arith) ∙ rw (ne_eqb p t (λ z. let y : ⊥ = omega arith in y)) (start-past k c (after c p) t i)

pub walking-past : (c : List ℕ) (t p : ℕ) → Walking c t p → p < t → t < length c → t < after c p → is_start c t ≡ false
walking-past c t p w h g i = w.rest ∙ past c t p h g i w.left

pub start-here : (k : ℕ) (c : List ℕ) (p : ℕ) → length c ≤ p + k → p < length c → start_from k c p p ≡ true
unfolding start_from pick
start-here zero c p h l = absurd (let z : ⊥ = omega arith in z)
start-here (suc k) c p h l = rw (lt-ltb _ _ l, eq-eqb p p refl)

pub walking-end : (c : List ℕ) (t p : ℕ) → Walking c t p → t ≤ p → t < length c → is_start c t ≡ true
walking-end c t p w h g =
    let e : p ≡ t = omega (arith, w.inside) in
    w.rest
    ∙ subst (λ (q : ℕ). start_from w.left c p q ≡ true) e (start-here w.left c p w.enough (omega (arith, w.inside)))

beyond : (k : ℕ) (c : List ℕ) (p t : ℕ) → length c ≤ t → start_from k c p t ≡ false
unfolding start_from pick
beyond zero c p t h = refl
beyond (suc k) c p t h = go (beyond k c (after c p) t h) (ltb p (length c)) refl
  where
    go : start_from k c (after c p) t ≡ false → (b : Bool) → ltb p (length c) ≡ b → start_from (suc k) c p t ≡ false
    go ih true e =
        let q : p < length c = ltb-true p (length c) e in
        rw (e, ne_eqb p t (λ z. let y : ⊥ = omega arith in y)) ih
    go ih false e = rw e

pub start-beyond : (c : List ℕ) (t : ℕ) → length c ≤ t → is_start c t ≡ false
unfolding is_start
start-beyond c t h = beyond (length c) c 0 t h
