-- The one pass that judges a core's code: the map of starts and of targets that ask for one, and what one turn does to it and to what is left.
-- In order: an empty map; a target_at asked for; the pass; the targets, judged by the map; its largest byte. Assumes nothing.
use mathlib.Core.Path.{◌≡◌, refl, sym, ap, ◌∙◌, subst}
use mathlib.Core.Logic.{◌⊎◌, inl, inr, ⊎_elim}
use mathlib.Core.Bool.{Bool, true, false}
use mathlib.Core.List.{List}
use Prim.Native.Nat.{ℕ, zero, suc, ◌+◌, ◌≤◌, ◌<◌}
use native.Mathlib.Omega.{arith}
use borrow.Author.Tests.{lt-ltb, eq-eqb, ne_eqb, eqb-true, eqb-false, ltb-true, ltb-false}
use lib.Dec.{ltb, eqb}
use lib.ListN.{length, get_or, set, length-set, replicate, get_or-eq_default}
use lib.Seq.{get_or-set_same, get_or-set_other}
use Rattle.verdict.specs.Verdict.{pick, either, next}
use Rattle.verdict.proofs.Verdict.{absurd-bool, stop, either_true, either-false}
use Rattle.memory.specs.Memory.{byte}
use Rattle.code.specs.Flow.{kind_at, goes_to, target_at, after}
use Rattle.code.specs.declared.Profile.{Profile}
use Rattle.code.specs.Profiles.{types_at, carries}
use Rattle.code.specs.Code.{instruction_refusal, laid, start_from, is_start, all_from, target_ok, last_from, accepted_length}
use Rattle.code.specs.Judging.{Asked, TargetAsked, Pass, AllMet}
use Rattle.code.proofs.Laws.{whole, accepted, carried_none, length_taken}
use Rattle.code.proofs.Passes.{laid_one, start-one, all_one, last_one, laid_end, start-end, all_end, last_end, start-here, start-beyond}
use Rattle.code.proofs.Sound.{each-passes}

-- ---- an empty map

pub zeros : (n t : ℕ) → ◌≡◌ {A = ℕ} (get_or (replicate n 0) t 0) 0
zeros zero t = refl
zeros (suc n) zero = refl
zeros (suc n) (suc t) = zeros n t

-- ---- a target_at asked for

pub asked-outside : (m : List ℕ) (t : ℕ) → length m ≤ t → Asked m t true m
asked-outside m t h =
    record { size = refl; starts = λ u. refl; kept = λ u x. x; new = λ u x. inl x; there = λ e. absurd-bool (sym e); beyond = λ _. h }

pub asked-start : (m : List ℕ) (t : ℕ) → get_or m t 0 ≡ 1 → Asked m t false m
asked-start m t h =
    record { size = refl; starts = λ u. refl; kept = λ u x. x; new = λ u x. inl x; there = λ _. omega arith; beyond = λ e. absurd-bool e }

pub asked-new : (m : List ℕ) (t : ℕ) → t < length m → (get_or m t 0 ≡ 1 → ⊥) → Asked m t false (set m t 2)
asked-new m t h ne =
    record {
      size = length-set m t 2;
      starts = λ u. starts u (eqb t u) refl;
      kept = λ u x. kept u x (eqb t u) refl;
      new = λ u x. new u x (eqb t u) refl;
      there = λ _. omega (arith, same);
      beyond = λ e. absurd-bool e;
    }
  where
    same : get_or (set m t 2) t 0 ≡ 2
    same = get_or-set_same m t 2 0 h

    other : (u : ℕ) → eqb t u ≡ false → get_or (set m t 2) u 0 ≡ get_or m u 0
    other u e = get_or-set_other m t u 2 0 (λ q. eqb-false t u e (sym q))

    starts : (u : ℕ) (b : Bool) → eqb t u ≡ b → eqb (get_or (set m t 2) u 0) 1 ≡ eqb (get_or m u 0) 1
    starts u true e =
        let q : t ≡ u = eqb-true t u e in
        subst (λ (x : ℕ). eqb (get_or (set m t 2) x 0) 1 ≡ eqb (get_or m x 0) 1) q (rw same (sym (ne_eqb _ _ ne)))
    starts u false e = rw (other u e)

    kept : (u : ℕ) → 2 ≤ get_or m u 0 → (b : Bool) → eqb t u ≡ b → 2 ≤ get_or (set m t 2) u 0
    kept u x true e =
        let q : t ≡ u = eqb-true t u e in
        subst (λ (x : ℕ). 2 ≤ get_or (set m t 2) x 0) q (omega (arith, same))
    kept u x false e = rw (other u e) x

    new : (u : ℕ) → 2 ≤ get_or (set m t 2) u 0 → (b : Bool) → eqb t u ≡ b → (2 ≤ get_or m u 0) ⊎ (u ≡ t)
    new u x true e = inr (sym (eqb-true t u e))
    new u x false e = inl (rw (other u e) at x)

pub target-asked : (c : List ℕ) (p : ℕ) (m : List ℕ) (r : Bool) (n : List ℕ) (t : ℕ) → target_at c p ≡ t → goes_to (kind_at c p) ≡ true → Asked m t r n
    → TargetAsked c p m r n
target-asked c p m r n t e g a = record { asked = λ _. subst (λ (x : ℕ). Asked m x r n) (sym e) a; none = λ z. absurd-bool (sym z ∙ g) }

pub target_none : (c : List ℕ) (p : ℕ) (m : List ℕ) → goes_to (kind_at c p) ≡ false → TargetAsked c p m false m
target_none c p m g = record { asked = λ z. absurd-bool (sym g ∙ z); none = λ _. (refl, refl) }

-- what the asking of the instruction at p does to a map that is as long as the code at least
record Turned (c : List ℕ) (p : ℕ) (m : List ℕ) (outside : Bool) (n : List ℕ) : Type 0 where
  size : length n ≡ length m
  starts : (u : ℕ) → eqb (get_or n u 0) 1 ≡ eqb (get_or m u 0) 1
  kept : (u : ℕ) → 2 ≤ get_or m u 0 → 2 ≤ get_or n u 0
  new : target_ok c p ≡ true → (u : ℕ) → 2 ≤ get_or n u 0 → (2 ≤ get_or m u 0) ⊎ (is_start c u ≡ true)
  near : target_ok c p ≡ true → outside ≡ false
  right : outside ≡ false → ((t : ℕ) → 2 ≤ get_or n t 0 → is_start c t ≡ true) → ((t : ℕ) → get_or n t 0 ≡ 1 → is_start c t ≡ true) → target_ok c p ≡ true

turned : (c : List ℕ) (p : ℕ) (m : List ℕ) (r : Bool) (n : List ℕ) → length c ≤ length m → TargetAsked c p m r n → Turned c p m r n
unfolding target_ok pick
turned c p m r n b q = go (goes_to (kind_at c p)) refl
  where
    asking : goes_to (kind_at c p) ≡ true → Asked m (target_at c p) r n → Turned c p m r n
    asking e a =
        record {
          size = a.size;
          starts = a.starts;
          kept = a.kept;
          new = λ t u h. ⊎_elim (λ x. inl x) (λ x. inr (ap (is_start c) x ∙ there t)) (a.new u h);
          near = λ t. close t r refl;
          right = λ o two one. rw e (met o two one (eqb (get_or n (target_at c p) 0) 1) refl);
        }
      where
        there : target_ok c p ≡ true → is_start c (target_at c p) ≡ true
        there t = rw e at t

        close : target_ok c p ≡ true → (x : Bool) → r ≡ x → r ≡ false
        close t true h = absurd-bool (sym (start-beyond c (target_at c p) (omega (arith, a.beyond h))) ∙ there t)
        close t false h = h

        met : r ≡ false → ((t : ℕ) → 2 ≤ get_or n t 0 → is_start c t ≡ true) → ((t : ℕ) → get_or n t 0 ≡ 1 → is_start c t ≡ true)
            → (x : Bool) → eqb (get_or n (target_at c p) 0) 1 ≡ x → is_start c (target_at c p) ≡ true
        met o two one true h = one (target_at c p) (eqb-true _ _ h)
        met o two one false h =
            let g : 0 < get_or n (target_at c p) 0 = a.there o in
            let f : get_or n (target_at c p) 0 ≡ 1 → ⊥ = eqb-false _ _ h in
            two (target_at c p) (omega (arith, f))

    go : (x : Bool) → goes_to (kind_at c p) ≡ x → Turned c p m r n
    go true e = asking e (q.asked e)
    go false e =
        let o = q.none e in
        record {
          size = ap length o.1;
          starts = λ u. rw o.1;
          kept = λ u h. rw o.1 h;
          new = λ t u h. inl (rw o.1 at h);
          near = λ t. o.0;
          right = λ _ _ _. rw e;
        }

pub asked-size : (c : List ℕ) (p : ℕ) (m : List ℕ) (r : Bool) (n : List ℕ) → TargetAsked c p m r n → length n ≡ length m
asked-size c p m r n q = go (goes_to (kind_at c p)) refl
  where
    go : (x : Bool) → goes_to (kind_at c p) ≡ x → length n ≡ length m
    go true e = (q.asked e).size
    go false e = ap length (q.none e).1

-- ---- the pass

-- a mark at p is one more start
mark-one : (m : List ℕ) (p t : ℕ) (r : Bool) → p < length m
    → either (eqb (get_or m t 0) 1) (pick (eqb p t) true r) ≡ either (eqb (get_or (set m p 1) t 0) 1) r
unfolding pick
mark-one m p t r h = go (eqb p t) refl
  where
    go : (b : Bool) → eqb p t ≡ b → either (eqb (get_or m t 0) 1) (pick (eqb p t) true r) ≡ either (eqb (get_or (set m p 1) t 0) 1) r
    go true e =
        let q : t ≡ p = sym (eqb-true p t e) in
        let z : get_or (set m p 1) t 0 ≡ 1 = rw q (get_or-set_same m p 1 0 h) in
        rw (e, z) (either_true (eqb (get_or m t 0) 1))
    go false e = rw (e, get_or-set_other m p t 1 0 (λ q. eqb-false p t e (sym q)))

-- what is left to judge from p on is what was asked, and the map has the starts before p. Of the targets before p: if all targets are right, each place
-- that is asked for is a start and none lies outside the map, of b bytes; if that is so, what is left of the targets is what was asked
pub record Laying (b : ℕ) (o : Profile) (c : List ℕ) (p last : ℕ) (outside : Bool) (m : List ℕ) : Type 0 where
  pub left : ℕ
  pub inside : p ≤ length c
  pub enough : length c ≤ p + left
  pub size : length m ≡ b
  pub laid-rest : laid o (length c) c 0 ≡ laid o left c p
  pub last_rest : last_from (length c) c 0 0 ≡ last_from left c p last
  pub start-rest : (t : ℕ) → is_start c t ≡ either (eqb (get_or m t 0) 1) (start_from left c p t)
  pub wanted : all_from (target_ok c) (length c) c 0 ≡ true → (t : ℕ) → 2 ≤ get_or m t 0 → is_start c t ≡ true
  pub near : all_from (target_ok c) (length c) c 0 ≡ true → outside ≡ false
  pub target-rest : outside ≡ false → ((t : ℕ) → 2 ≤ get_or m t 0 → is_start c t ≡ true) → all_from (target_ok c) (length c) c 0 ≡ all_from (target_ok c) left c p

pub laying-none : (o : Profile) (c m : List ℕ) → ((t : ℕ) → get_or m t 0 ≡ 0) → Laying (length m) o c 0 0 false m
unfolding is_start
laying-none o c m z =
    record {
      left = length c;
      inside = omega arith;
      enough = omega arith;
      size = refl;
      laid-rest = refl;
      last_rest = refl;
      start-rest = λ t. rw (z t);
      wanted = λ _ t h. absurd (let y : ⊥ = omega (arith, z t) in y);
      near = λ _. refl;
      target-rest = λ _ _. refl;
    }

start-at : (c m : List ℕ) (p k : ℕ) → p < length c → length c ≤ p + k
    → ((t : ℕ) → is_start c t ≡ either (eqb (get_or m t 0) 1) (start_from k c p t)) → is_start c p ≡ true
start-at c m p k h e r = r p ∙ ap (either (eqb (get_or m p 0) 1)) (start-here k c p e h) ∙ either_true (eqb (get_or m p 0) 1)

-- a map that has all starts where it is asked still has them after the mark at p
marked-over : (c n : List ℕ) (p t : ℕ) → is_start c p ≡ true → (2 ≤ get_or n t 0 → is_start c t ≡ true) → 2 ≤ get_or (set n p 1) t 0 → is_start c t ≡ true
marked-over c n p t w f h = go (eqb p t) refl
  where
    go : (b : Bool) → eqb p t ≡ b → is_start c t ≡ true
    go true e = ap (is_start c) (sym (eqb-true p t e)) ∙ w
    go false e = f (rw (get_or-set_other n p t 1 0 (λ q. eqb-false p t e (sym q))) at h)

marked-under : (c n : List ℕ) (p t : ℕ) → is_start c p ≡ true → (2 ≤ get_or (set n p 1) t 0 → is_start c t ≡ true) → 2 ≤ get_or n t 0 → is_start c t ≡ true
marked-under c n p t w f h = go (eqb p t) refl
  where
    go : (b : Bool) → eqb p t ≡ b → is_start c t ≡ true
    go true e = ap (is_start c) (sym (eqb-true p t e)) ∙ w
    go false e = f (rw (get_or-set_other n p t 1 0 (λ q. eqb-false p t e (sym q))) h)

neither : (a b : Bool) → either a b ≡ false → (a ≡ false) × (b ≡ false)
neither true b e = absurd-bool (sym e)
neither false b e = (refl, e)

laying-turn : {size : ℕ} (o : Profile) (c : List ℕ) (p last : ℕ) (outside : Bool) (m : List ℕ) → length c ≤ size → p < length c → instruction_refusal o c p ≡ 0
    → (r : Bool) (n : List ℕ) → Turned c p m r n → (k : ℕ)
    → length c ≤ p + k → length m ≡ size → laid o (length c) c 0 ≡ laid o k c p → last_from (length c) c 0 0 ≡ last_from k c p last
    → ((t : ℕ) → is_start c t ≡ either (eqb (get_or m t 0) 1) (start_from k c p t))
    → (all_from (target_ok c) (length c) c 0 ≡ true → (t : ℕ) → 2 ≤ get_or m t 0 → is_start c t ≡ true)
    → (all_from (target_ok c) (length c) c 0 ≡ true → outside ≡ false)
    → (outside ≡ false → ((t : ℕ) → 2 ≤ get_or m t 0 → is_start c t ≡ true) → all_from (target_ok c) (length c) c 0 ≡ all_from (target_ok c) k c p)
    → Laying size o c (after c p) (byte c p) (either r outside) (set n p 1)
unfolding next pick
laying-turn x c p last outside m b h z r n q zero e g l a s o i w = absurd (let y : ⊥ = omega arith in y)
laying-turn x c p last outside m b h z r n q (suc k) e g l a s o i w =
    let d = whole c p (accepted x c p z) in
    record {
      left = k;
      inside = omega arith;
      enough = omega arith;
      size = length-set n p 1 ∙ q.size ∙ g;
      laid-rest = l ∙ laid_one x k c p h ∙ ap (λ (y : ℕ). next y (laid x k c (after c p))) z;
      last_rest = a ∙ last_one k c p last h;
      start-rest = λ t.
          s t
          ∙ ap (λ (x : Bool). either x (start_from (suc k) c p t)) (sym (q.starts t))
          ∙ ap (either (eqb (get_or n t 0) 1)) (start-one k c p t h)
          ∙ mark-one n p t (start_from k c (after c p) t) (omega (arith, q.size));
      wanted = λ y t. marked-over c n p t here (λ u. ⊎_elim (λ x. o y t x) (λ x. x) (q.new (each-passes (target_ok c) c p y here) t u));
      near = λ y. rw (q.near (each-passes (target_ok c) c p y here), i y);
      target-rest = λ x f.
          let v = neither r outside x in
          let two : (t : ℕ) → 2 ≤ get_or n t 0 → is_start c t ≡ true = λ t. marked-under c n p t here (f t) in
          w v.1 (λ t u. two t (q.kept t u)) ∙ all_one (target_ok c) k c p h ∙ rw (q.right v.0 two one);
    }
  where
    here : is_start c p ≡ true
    here = start-at c m p (suc k) h e s

    one : (t : ℕ) → get_or n t 0 ≡ 1 → is_start c t ≡ true
    one t u = s t ∙ ap (λ (x : Bool). either x (start_from (suc k) c p t)) (sym (q.starts t) ∙ eq-eqb _ _ u)

-- with the length and the flag as the code has them
pub laying-more : {size : ℕ} (x : Profile) (c : List ℕ) (p last : ℕ) (outside : Bool) (m : List ℕ) → length c ≤ size → Laying size x c p last outside m → p < length c
    → (l : ℕ) → l ≡ accepted_length c p → (l ≡ 0 → ⊥) → carries x (types_at c p) ≡ true → (r : Bool) (n : List ℕ) → TargetAsked c p m r n → (o : Bool) → o ≡ either r outside
    → Laying size x c (p + l) (byte c p) o (set n p 1)
laying-more x c p last outside m b w h l e nz y r n q o f =
    let t = length_taken c p l e nz in
    rw (t.1, f)
    (laying-turn x c p last outside m b h (carried_none x c p t.0 y) r n (turned c p m r n (omega (arith, w.size)) q)
    w.left w.enough w.size w.laid-rest w.last_rest w.start-rest w.wanted w.near w.target-rest)

pub laying-end : {size : ℕ} (x : Profile) (c : List ℕ) (p last : ℕ) (outside : Bool) (m : List ℕ) → Laying size x c p last outside m → length c ≤ p → Pass x c size 0 last outside m
laying-end x c p last outside m r h =
    record {
      right = sym (r.laid-rest ∙ laid_end x r.left c p h);
      size = r.size;
      marked = λ _. marks;
      latest = λ _. sym (r.last_rest ∙ last_end r.left c p last h);
      met = λ _ o low. r.target-rest o (λ t x. absurd (let y : ⊥ = omega (arith, low t) in y)) ∙ all_end (target_ok c) r.left c p h;
      inside = λ _ a. r.near a;
      closed = λ _ a t. low a t (ltb (get_or m t 0) 2) refl;
    }
  where
    marks : (t : ℕ) → eqb (get_or m t 0) 1 ≡ is_start c t
    marks t = sym (r.start-rest t ∙ ap (either (eqb (get_or m t 0) 1)) (start-end r.left c p t h) ∙ either-false _)

    low : all_from (target_ok c) (length c) c 0 ≡ true → (t : ℕ) (b : Bool) → ltb (get_or m t 0) 2 ≡ b → get_or m t 0 < 2
    low a t true e = ltb-true _ _ e
    low a t false e =
        let x : 2 ≤ get_or m t 0 = ltb-false _ _ e in
        let y : get_or m t 0 ≡ 1 = eqb-true _ _ (marks t ∙ r.wanted a t x) in
        omega arith

laid_stop : (o : Profile) (k : ℕ) (c : List ℕ) (p r : ℕ) → length c ≤ p + k → p < length c → r ≡ instruction_refusal o c p → (r ≡ 0 → ⊥) → r ≡ laid o k c p
laid_stop o zero c p r e h q nz = absurd (let x : ⊥ = omega arith in x)
laid_stop o (suc k) c p r e h q nz = stop _ q nz ∙ sym (laid_one o k c p h)

-- where the pass stops at p, whatever it has written by then
pub laying-stop : {size : ℕ} (x : Profile) (c : List ℕ) (p last r : ℕ) (outside : Bool) (m : List ℕ) → Laying size x c p last outside m → p < length c → r ≡ instruction_refusal x c p
    → (r ≡ 0 → ⊥) → (last' : ℕ) (outside' : Bool) (m' : List ℕ) → length m' ≡ size → Pass x c size r last' outside' m'
laying-stop x c p last r outside m w h q nz last' outside' m' e =
    record {
      right = laid_stop x w.left c p r w.enough h q nz ∙ sym w.laid-rest;
      size = e;
      marked = λ z. absurd (nz z);
      latest = λ z. absurd (nz z);
      met = λ z. absurd (nz z);
      inside = λ z. absurd (nz z);
      closed = λ z. absurd (nz z);
    }

-- ---- the targets, judged by the map

never : (b x : Bool) → (b ≡ true → x ≡ false) → x ≡ true → b ≡ false
never true x f e = absurd-bool (sym (f refl) ∙ e)
never false x f e = refl

pub targets-outside : {x : Profile} {size : ℕ} (c : List ℕ) (r l : ℕ) (o : Bool) (m : List ℕ) → Pass x c size r l o m → r ≡ 0 → o ≡ true → all_from (target_ok c) (length c) c 0 ≡ false
targets-outside c r l o m p z e = never _ o (p.inside z) e

pub targets-wanted : {y : Profile} {size : ℕ} (c : List ℕ) (r l : ℕ) (o : Bool) (m : List ℕ) (x : Bool) → Pass y c size r l o m → r ≡ 0 → AllMet m x → x ≡ false
    → all_from (target_ok c) (length c) c 0 ≡ false
targets-wanted c r l o m x p z a e = never _ true (λ t. sym (a.high (p.closed z t)) ∙ e) refl

pub targets-right : {y : Profile} {size : ℕ} (c : List ℕ) (r l : ℕ) (o : Bool) (m : List ℕ) (x : Bool) → Pass y c size r l o m → r ≡ 0 → o ≡ false → AllMet m x → x ≡ true
    → all_from (target_ok c) (length c) c 0 ≡ true
targets-right c r l o m x p z f a e = p.met z f (a.low e)

-- ---- the largest byte of a map

pub most-end : (m : List ℕ) (i a : ℕ) → length m ≤ i → ((t : ℕ) → t < i → get_or m t 0 ≤ a) → (((t : ℕ) → get_or m t 0 < 2) → a < 2) → AllMet m (ltb a 2)
most-end m i a h f g = record { low = λ e t. low e t (ltb t i) refl; high = λ k. lt-ltb a 2 (g k) }
  where
    low : ltb a 2 ≡ true → (t : ℕ) (x : Bool) → ltb t i ≡ x → get_or m t 0 < 2
    low e t true q = omega (arith, f t (ltb-true t i q), ltb-true a 2 e)
    low e t false q =
        let z : get_or m t 0 ≡ 0 = get_or-eq_default m 0 (omega (arith, ltb-false t i q)) in
        omega arith
