-- The numbers of specs/Bounds are the greatest over all paths of specs/Paths, and are attained, where control only moves up. Not here: that control does so
-- in accepted code (proofs/Rising); that the code computes these numbers (proofs/Back). Assumes nothing.
use mathlib.Core.Path.{◌≡◌, refl, ap, ◌∙◌, subst}
use mathlib.Core.Logic.{◌⊎◌, inl, inr, ⊎_elim}
use mathlib.Core.Bool.{true}
use mathlib.Core.List.{List, [], ◌∷◌}
use Prim.Native.Nat.{ℕ, zero, suc, ◌+◌, ◌≤◌, ◌<◌, max}
use native.Mathlib.Nat.{zero-add}
use native.Mathlib.Omega.{arith, max_cases}
use lib.ListN.{length}
use Rattle.code.specs.Commands.{Kind, Returns, Jumps, Branches, Calls, Passes}
use Rattle.code.specs.Flow.{kind_at, goes_on, goes_to, after, target_at}
use Rattle.bounds.specs.Paths.{Goes, passes, jumps, stays, leaves, calls, returns, Path, ends, more, Cycle, Greatest}
use Rattle.bounds.specs.Bounds.{count_by, depth_by, along, longest, deepest}
use Rattle.bounds.proofs.Rising.{Start, Rising}

-- A cycle under way: n instructions have led from its start to place p with the return places s
pub data Trail (c : List ℕ) : ℕ → ℕ → List ℕ → Type 0 where
  begun : Trail c 0 0 []
  then : {n p q : ℕ} {s r : List ℕ} → Trail c n p s → Goes c p s q r → Trail c (suc n) q r

pub on-trail : {c : List ℕ} {n p q : ℕ} {s r : List ℕ} → Trail c n p s → Goes c p s q r → Trail c (n + 1) q r
on-trail {c} {n} {p} {q} {s} {r} w m = let e : suc n ≡ n + 1 = omega arith in subst (λ (i : ℕ). Trail c i q r) e (then w m)

-- a number by kinds looks at the next place and at T only where control may go there
abbrev pub Looks : (Kind → ℕ → ℕ → ℕ) → Type 0
Looks by = (x : Kind) (a b t u : ℕ) → (goes_on x ≡ true → a ≡ b) → (goes_to x ≡ true → t ≡ u) → by x a t ≡ by x b u

pub count-looks : Looks count_by
unfolding count_by
count-looks Returns a b t u p q = refl
count-looks Jumps a b t u p q = rw (q refl)
count-looks Branches a b t u p q = rw (p refl, q refl)
count-looks Calls a b t u p q = rw (p refl, q refl)
count-looks Passes a b t u p q = rw (p refl)

pub depth-looks : Looks depth_by
unfolding depth_by
depth-looks Returns a b t u p q = refl
depth-looks Jumps a b t u p q = q refl
depth-looks Branches a b t u p q = rw (p refl, q refl)
depth-looks Calls a b t u p q = rw (p refl, q refl)
depth-looks Passes a b t u p q = p refl

-- the numbers at a place
abbrev pub count_at : List ℕ → ℕ → ℕ
count_at c p = along count_by (length c) c p

abbrev pub depth_at : List ℕ → ℕ → ℕ
depth_at c p = along depth_by (length c) c p

-- the instructions still to come at most, and the greatest depth still to come, with the levels below that wait for their return
abbrev pub pending : List ℕ → List ℕ → ℕ
pending c [] = 0
pending c (q ∷ s) = count_at c q + pending c s

abbrev pub due : List ℕ → ℕ → List ℕ → ℕ
due c p s = count_at c p + pending c s

abbrev pub held : List ℕ → List ℕ → ℕ
held c [] = 0
held c (q ∷ s) = max (length s + depth_at c q) (held c s)

abbrev pub reach : List ℕ → ℕ → List ℕ → ℕ
reach c p s = max (length s + depth_at c p) (held c s)

abbrev pub Starts : List ℕ → List ℕ → Type 0
Starts c [] = Unit {0}
Starts c (q ∷ s) = Start c q × Starts c s

-- a spot that control can be at
pub record Sound (c : List ℕ) (p : ℕ) (s : List ℕ) : Type 0 where
  pub here : Start c p
  pub below : Starts c s

-- what a move does to the two numbers
pub record Fell (c : List ℕ) (p : ℕ) (s : List ℕ) (q : ℕ) (r : List ℕ) : Type 0 where
  pub sound : Sound c q r
  pub fewer : suc (due c q r) ≤ due c p s
  pub lower : reach c q r ≤ reach c p s

count-positive : (x : Kind) (a t : ℕ) → 1 ≤ count_by x a t
unfolding count_by
count-positive Returns a t = omega arith
count-positive Jumps a t = omega arith
count-positive Branches a t = omega arith
count-positive Calls a t = omega arith
count-positive Passes a t = omega arith

-- a step that the choice of a greatest number takes, or the end
data Choice (c : List ℕ) (P : ℕ → List ℕ → Type 0) (p : ℕ) (s : List ℕ) : Type 0 where
  over : kind_at c p ≡ Returns → s ≡ [] → Choice c P p s
  on : (q : ℕ) (r : List ℕ) → Goes c p s q r → P q r → Choice c P p s

larger : (a b : ℕ) → (max a b ≡ a) ⊎ (max a b ≡ b)
larger a b = max_cases a b _ (λ _ e. inr e) (λ _ e. inl e)

module _ (c : List ℕ) (g : Rising c) where
  enough : (by : Kind → ℕ → ℕ → ℕ) → Looks by → (k j p : ℕ) → Start c p → length c ≤ p + k → length c ≤ p + j → along by k c p ≡ along by j c p
  unfolding along
  enough by l zero j p s h i = absurd (let w = g.inside p s in let z : ⊥ = omega arith in z)
  enough by l (suc k) zero p s h i = absurd (let w = g.inside p s in let z : ⊥ = omega arith in z)
  enough by l (suc k) (suc j) p s h i =
      l (kind_at c p) _ _ _ _
      (λ o. let w = g.onward p s o in enough by l k j (after c p) w.1 (omega arith) (omega arith))
      (λ o. let w = g.upward p s o in enough by l k j (target_at c p) w.1 (omega arith) (omega arith))

  -- the number at a start, from those at the places where control goes
  pub level : (by : Kind → ℕ → ℕ → ℕ) → Looks by → (p : ℕ) → Start c p
      → along by (length c) c p ≡ by (kind_at c p) (along by (length c) c (after c p)) (along by (length c) c (target_at c p))
  unfolding along
  level by l p s = enough by l (length c) (suc (length c)) p s (omega arith) (omega arith)

  count-as : (x : Kind) (p : ℕ) → Start c p → kind_at c p ≡ x → count_at c p ≡ count_by x (count_at c (after c p)) (count_at c (target_at c p))
  count-as x p s e = level count_by count-looks p s ∙ ap (λ (y : Kind). count_by y (count_at c (after c p)) (count_at c (target_at c p))) e

  depth-as : (x : Kind) (p : ℕ) → Start c p → kind_at c p ≡ x → depth_at c p ≡ depth_by x (depth_at c (after c p)) (depth_at c (target_at c p))
  depth-as x p s e = level depth_by depth-looks p s ∙ ap (λ (y : Kind). depth_by y (depth_at c (after c p)) (depth_at c (target_at c p))) e

  pub due-positive : (p : ℕ) (s : List ℕ) → Start c p → 1 ≤ due c p s
  due-positive p s h = let l = count-as _ p h refl in omega (arith, count-positive (kind_at c p) (count_at c (after c p)) (count_at c (target_at c p)))

  pub moved : {p q : ℕ} {s r : List ℕ} → Sound c p s → Goes c p s q r → Fell c p s q r
  unfolding count_by depth_by
  moved {p} h (passes e) =
      let w = g.onward p h.here (rw e) in
      let n = count-as Passes p h.here e in
      let d = depth-as Passes p h.here e in
      record { sound = record { here = w.1; below = h.below }; fewer = omega arith; lower = omega arith }
  moved {p} h (jumps e) =
      let w = g.upward p h.here (rw e) in
      let n = count-as Jumps p h.here e in
      let d = depth-as Jumps p h.here e in
      record { sound = record { here = w.1; below = h.below }; fewer = omega arith; lower = omega arith }
  moved {p} h (stays e) =
      let w = g.onward p h.here (rw e) in
      let n = count-as Branches p h.here e in
      let d = depth-as Branches p h.here e in
      record { sound = record { here = w.1; below = h.below }; fewer = omega arith; lower = omega arith }
  moved {p} h (leaves e) =
      let w = g.upward p h.here (rw e) in
      let n = count-as Branches p h.here e in
      let d = depth-as Branches p h.here e in
      record { sound = record { here = w.1; below = h.below }; fewer = omega arith; lower = omega arith }
  moved {p} h (calls e) =
      let v = g.onward p h.here (rw e) in
      let w = g.upward p h.here (rw e) in
      let n = count-as Calls p h.here e in
      let d = depth-as Calls p h.here e in
      record { sound = record { here = w.1; below = (v.1, h.below) }; fewer = omega arith; lower = omega arith }
  moved {p} h (returns e) =
      let n = count-as Returns p h.here e in
      record { sound = record { here = h.below.0; below = h.below.1 }; fewer = omega arith; lower = omega arith }

  -- ---- no path has more

  pub path-count : {p n d : ℕ} {s : List ℕ} → Sound c p s → Path c p s n d → n ≤ due c p s
  path-count {p} h (ends e) = due-positive p [] h.here
  path-count h (more m w) = let f = moved h m in let i = path-count f.sound w in omega arith

  pub path-depth : {p n d : ℕ} {s : List ℕ} → Sound c p s → Path c p s n d → d ≤ reach c p s
  path-depth h (ends e) = omega arith
  path-depth h (more m w) = let f = moved h m in let i = path-depth f.sound w in omega arith

  -- ---- some path has as many

  best-count : (p : ℕ) (s : List ℕ) → Start c p → (x : Kind) → kind_at c p ≡ x → Choice c (λ q r. suc (due c q r) ≡ due c p s) p s
  unfolding count_by
  best-count p [] h Returns e = over e refl
  best-count p (q ∷ s) h Returns e = let n = count-as Returns p h e in on q s (returns e) (omega arith)
  best-count p s h Jumps e = let n = count-as Jumps p h e in on (target_at c p) s (jumps e) (omega arith)
  best-count p s h Branches e =
      let n = count-as Branches p h e in
      ⊎_elim (λ l. on (after c p) s (stays e) (omega arith)) (λ l. on (target_at c p) s (leaves e) (omega arith))
      (larger (count_at c (after c p)) (count_at c (target_at c p)))
  best-count p s h Calls e = let n = count-as Calls p h e in on (target_at c p) (after c p ∷ s) (calls e) (omega arith)
  best-count p s h Passes e = let n = count-as Passes p h e in on (after c p) s (passes e) (omega arith)

  best-depth : (p : ℕ) (s : List ℕ) → Start c p → (x : Kind) → kind_at c p ≡ x → Choice c (λ q r. max (length s) (reach c q r) ≡ reach c p s) p s
  unfolding depth_by
  best-depth p [] h Returns e = over e refl
  best-depth p (q ∷ s) h Returns e = let n = depth-as Returns p h e in on q s (returns e) (omega arith)
  best-depth p s h Jumps e = let n = depth-as Jumps p h e in on (target_at c p) s (jumps e) (omega arith)
  best-depth p s h Branches e =
      let n = depth-as Branches p h e in
      ⊎_elim (λ l. on (after c p) s (stays e) (omega arith)) (λ l. on (target_at c p) s (leaves e) (omega arith))
      (larger (depth_at c (after c p)) (depth_at c (target_at c p)))
  best-depth p s h Calls e = let n = depth-as Calls p h e in on (target_at c p) (after c p ∷ s) (calls e) (omega arith)
  best-depth p s h Passes e = let n = depth-as Passes p h e in on (after c p) s (passes e) (omega arith)

  count-path : (n p : ℕ) (s : List ℕ) → Sound c p s → due c p s ≡ n → (d : ℕ) × Path c p s n d
  unfolding count_by
  count-path zero p s h e = absurd (let w = due-positive p s h.here in let z : ⊥ = omega arith in z)
  count-path (suc n) p s h e = go (count-path n) (best-count p s h.here _ refl)
    where
      go : ((p : ℕ) (s : List ℕ) → Sound c p s → due c p s ≡ n → (d : ℕ) × Path c p s n d)
          → Choice c (λ q r. suc (due c q r) ≡ due c p s) p s → (d : ℕ) × Path c p s (suc n) d
      go ih (over k z) =
          let b : due c p [] ≡ suc n = rw z at e in
          let l = count-as Returns p h.here k in
          let y : n ≡ 0 = omega arith in
          (0, rw (z, y) (ends k))
      go ih (on q r m w) = let i = ih q r (moved h m).sound (omega arith) in (_, more m i.1)

  depth-path : (n p : ℕ) (s : List ℕ) → Sound c p s → due c p s ≤ n → (m : ℕ) × Path c p s m (reach c p s)
  unfolding depth_by
  depth-path zero p s h e = absurd (let w = due-positive p s h.here in let z : ⊥ = omega arith in z)
  depth-path (suc n) p s h e = go (depth-path n) (best-depth p s h.here _ refl)
    where
      go : ((p : ℕ) (s : List ℕ) → Sound c p s → due c p s ≤ n → (m : ℕ) × Path c p s m (reach c p s))
          → Choice c (λ q r. max (length s) (reach c q r) ≡ reach c p s) p s → (m : ℕ) × Path c p s m (reach c p s)
      go ih (over k z) =
          let l = depth-as Returns p h.here k in
          let y : 0 ≡ reach c p [] = omega arith in
          (1, rw z (subst (λ (x : ℕ). Path c p [] 1 x) y (ends k)))
      go ih (on q r m w) = let f = moved h m in let i = ih q r f.sound (omega arith) in (_, subst (λ (x : ℕ). Path c p s (suc i.0) x) w (more m i.1))

  start : Sound c 0 []
  start = record { here = g.first; below = tt }

  pub greatest : Greatest c (longest c) (deepest c)
  unfolding longest deepest
  greatest = record {
    count-bounds = λ n d w. let b = path-count start w in omega arith;
    count-attained = count-path (count_at c 0) 0 [] start (omega arith);
    depth-bounds = λ n d w. let b = path-depth start w in omega arith;
    depth-attained =
        let b = depth-path (due c 0 []) 0 [] start (omega arith) in
        let y : reach c 0 [] ≡ depth_at c 0 = omega arith in
        (b.0, subst (λ (x : ℕ). Path c 0 [] b.0 x) y b.1);
  }

  -- ---- a cycle under way

  pub record Under (n p : ℕ) (s : List ℕ) : Type 0 where
    pub sound : Sound c p s
    pub left : n + due c p s ≤ longest c
    pub room : reach c p s ≤ deepest c

  under : {n p : ℕ} {s : List ℕ} → Trail c n p s → Under n p s
  unfolding longest deepest
  under begun = record { sound = start; left = omega arith; room = omega arith }
  under (then w m) =
      let u = under w in
      let f = moved u.sound m in
      record { sound = f.sound; left = omega arith; room = omega arith }

  -- an instruction is still to come, so fewer than the greatest count are done
  pub trail-count : {n p : ℕ} {s : List ℕ} → Trail c n p s → n < longest c
  trail-count {n} {p} {s} w = let u = under w in omega (arith, due-positive p s u.sound.here)

  pub trail-depth : {n p : ℕ} {s : List ℕ} → Trail c n p s → length s ≤ deepest c
  trail-depth w = let u = under w in omega arith

  -- a call still finds room
  pub trail-call : {n p : ℕ} {s : List ℕ} → Trail c n p s → kind_at c p ≡ Calls → length s < deepest c
  trail-call w e = trail-depth (then w (calls e))

-- a trail goes on as a path
pub trail-path : {c : List ℕ} {n p m d : ℕ} {s : List ℕ} → Trail c n p s → Path c p s m d → (e : ℕ) × Cycle c (n + m) e
trail-path {m = m} {d = d} begun x = (d, rw (zero-add m) x)
trail-path {c} {m = m} (then {n} w v) x =
    let b = trail-path w (more v x) in
    (b.0, subst (λ (k : ℕ). Cycle c k b.0) (omega arith) b.1)

-- ---- the two numbers are the only such ones; a cycle under way comes to its end

pub only : (c : List ℕ) (n m d e : ℕ) → Greatest c n d → Greatest c m e → (n ≡ m) × (d ≡ e)
only c n m d e a b =
    let i = b.count-bounds n a.count-attained.0 a.count-attained.1 in
    let j = a.count-bounds m b.count-attained.0 b.count-attained.1 in
    let k = b.depth-bounds a.depth-attained.0 d a.depth-attained.1 in
    let l = a.depth-bounds b.depth-attained.0 e b.depth-attained.1 in
    (omega arith, omega arith)

pub completes : (c : List ℕ) → Rising c → {n p : ℕ} {s : List ℕ} → Trail c n p s → (m : ℕ) × (d : ℕ) × Cycle c m d
completes c g {n} {p} {s} w =
    let a = count-path c g (due c p s) p s (under c g w).sound refl in
    let b = trail-path w a.1 in
    (n + due c p s, b.0, b.1)
