-- Every choice at the conditional jumps makes a cycle, and every cycle is made by some choice. Not here: the greatest numbers (proofs/Greatest).
-- Assumes nothing.
use mathlib.Core.Path.{◌≡◌, refl, ap}
use mathlib.Core.Bool.{Bool, true, false}
use mathlib.Core.List.{List, [], ◌∷◌}
use Prim.Native.Nat.{ℕ, zero, suc, ◌≤◌, max}
use native.Mathlib.Omega.{arith}
use lib.ListN.{length}
use Rattle.code.specs.Commands.{Kind, Returns, Jumps, Branches, Calls, Passes}
use Rattle.code.specs.Flow.{kind_at, after, target_at}
use Rattle.bounds.specs.Paths.{passes, jumps, stays, leaves, calls, returns, Path, ends, more, Cycle, later, Chosen}
use Rattle.bounds.proofs.Rising.{Rising}
use Rattle.bounds.proofs.Greatest.{due, Sound, moved, due-positive}

-- a path from a spot that goes as the choices say
record Made (c : List ℕ) (w : ℕ → Bool) (p : ℕ) (s : List ℕ) : Type 0 where
  count : ℕ
  depth : ℕ
  path : Path c p s count depth
  chosen : Chosen w path

-- by one instruction more
module _ (c : List ℕ) (w : ℕ → Bool) (p : ℕ) (s : List ℕ) where
  pass : kind_at c p ≡ Passes → Made c (later w) (after c p) s → Made c w p s
  pass e m = record { count = _; depth = _; path = more (passes e) m.path; chosen = m.chosen }

  jump : kind_at c p ≡ Jumps → Made c (later w) (target_at c p) s → Made c w p s
  jump e m = record { count = _; depth = _; path = more (jumps e) m.path; chosen = m.chosen }

  stay : kind_at c p ≡ Branches → w 0 ≡ false → Made c (later w) (after c p) s → Made c w p s
  stay e b m = record { count = _; depth = _; path = more (stays e) m.path; chosen = (b, m.chosen) }

  leave : kind_at c p ≡ Branches → w 0 ≡ true → Made c (later w) (target_at c p) s → Made c w p s
  leave e b m = record { count = _; depth = _; path = more (leaves e) m.path; chosen = (b, m.chosen) }

  call : kind_at c p ≡ Calls → Made c (later w) (target_at c p) (after c p ∷ s) → Made c w p s
  call e m = record { count = _; depth = _; path = more (calls e) m.path; chosen = m.chosen }

back : (c : List ℕ) (w : ℕ → Bool) (p q : ℕ) (s : List ℕ) → kind_at c p ≡ Returns → Made c (later w) q s → Made c w p (q ∷ s)
back c w p q s e m = record { count = _; depth = _; path = more (returns e) m.path; chosen = m.chosen }

module _ (c : List ℕ) (g : Rising c) where
  made : (n p : ℕ) (s : List ℕ) (w : ℕ → Bool) → Sound c p s → due c p s ≤ n → Made c w p s
  made zero p s w h e = absurd (let y = due-positive c g p s h.here in let z : ⊥ = omega arith in z)
  made (suc n) p s w h e = go (made n) (kind_at c p) refl s h e
    where
      go : ((p : ℕ) (s : List ℕ) (w : ℕ → Bool) → Sound c p s → due c p s ≤ n → Made c w p s) → (x : Kind) → kind_at c p ≡ x
          → (s : List ℕ) → Sound c p s → due c p s ≤ suc n → Made c w p s
      go ih Returns k [] h e = record { count = 1; depth = 0; path = ends k; chosen = tt }
      go ih Returns k (q ∷ s) h e = let f = moved c g h (returns k) in back c w p q s k (ih q s (later w) f.sound (omega arith))
      go ih Jumps k s h e = let f = moved c g h (jumps k) in jump c w p s k (ih (target_at c p) s (later w) f.sound (omega arith))
      go ih Branches k s h e = by (w 0) refl
        where
          by : (b : Bool) → w 0 ≡ b → Made c w p s
          by true b = let f = moved c g h (leaves k) in leave c w p s k b (ih (target_at c p) s (later w) f.sound (omega arith))
          by false b = let f = moved c g h (stays k) in stay c w p s k b (ih (after c p) s (later w) f.sound (omega arith))
      go ih Calls k s h e = let f = moved c g h (calls k) in call c w p s k (ih (target_at c p) (after c p ∷ s) (later w) f.sound (omega arith))
      go ih Passes k s h e = let f = moved c g h (passes k) in pass c w p s k (ih (after c p) s (later w) f.sound (omega arith))

  pub every-choice : (w : ℕ → Bool) → (n : ℕ) × (d : ℕ) × (x : Cycle c n d) × Chosen w x
  every-choice w =
      let m = made (due c 0 []) 0 [] w (record { here = g.first; below = tt }) (omega arith) in
      (m.count, m.depth, m.path, m.chosen)

-- the choice b now, and w after it
abbrev now : Bool → (ℕ → Bool) → ℕ → Bool
now b w zero = b
now b w (suc i) = w i

pub some-choice : {c : List ℕ} {p n d : ℕ} {s : List ℕ} (x : Path c p s n d) → (w : ℕ → Bool) × Chosen w x
some-choice (ends e) = (λ _. false, tt)
some-choice (more (passes e) x) = let m = some-choice x in (now false m.0, m.1)
some-choice (more (jumps e) x) = let m = some-choice x in (now false m.0, m.1)
some-choice (more (stays e) x) = let m = some-choice x in (now false m.0, (refl, m.1))
some-choice (more (leaves e) x) = let m = some-choice x in (now true m.0, (refl, m.1))
some-choice (more (calls e) x) = let m = some-choice x in (now false m.0, m.1)
some-choice (more (returns e) x) = let m = some-choice x in (now false m.0, m.1)

-- ---- one choice makes one cycle

-- where an instruction leads, by its kind_at and the choice b
abbrev leads : Kind → Bool → List ℕ → ℕ → List ℕ → ℕ
leads Returns b c p [] = 0
leads Returns b c p (q ∷ s) = q
leads Jumps b c p s = target_at c p
leads Branches true c p s = target_at c p
leads Branches false c p s = after c p
leads Calls b c p s = target_at c p
leads Passes b c p s = after c p

abbrev leaving : Kind → List ℕ → ℕ → List ℕ → List ℕ
leaving Returns c p [] = []
leaving Returns c p (q ∷ s) = s
leaving Jumps c p s = s
leaving Branches c p s = s
leaving Calls c p s = after c p ∷ s
leaving Passes c p s = s

-- RETURN at depth 0
abbrev Last : Kind → List ℕ → Type 0
Last Returns [] = Unit {0}
Last Returns (q ∷ s) = ⊥
Last Jumps s = ⊥
Last Branches s = ⊥
Last Calls s = ⊥
Last Passes s = ⊥

-- a chosen path with its count and depth
abbrev Picked : List ℕ → (ℕ → Bool) → ℕ → List ℕ → ℕ → ℕ → Type 0
Picked c w p s n d = (x : Path c p s n d) × Chosen w x

data Head (c : List ℕ) (w : ℕ → Bool) (p : ℕ) (s : List ℕ) : ℕ → ℕ → Type 0 where
  stop : Last (kind_at c p) s → Head c w p s 1 0
  goes : {n d : ℕ} → (Last (kind_at c p) s → ⊥) → Picked c (later w) (leads (kind_at c p) (w 0) c p s) (leaving (kind_at c p) c p s) n d
      → Head c w p s (suc n) (max (length s) d)

head : (c : List ℕ) (w : ℕ → Bool) (p : ℕ) (s : List ℕ) {n d : ℕ} (x : Path c p s n d) → Chosen w x → Head c w p s n d
head c w p s (ends e) h = stop (rw e tt)
head c w p s (more {n} {d} (passes e) x) h = goes {n = n} {d = d} (rw e (λ z. z)) (rw e (x, h))
head c w p s (more {n} {d} (jumps e) x) h = goes {n = n} {d = d} (rw e (λ z. z)) (rw e (x, h))
head c w p s (more {n} {d} (stays e) x) h = goes {n = n} {d = d} (rw e (λ z. z)) (rw (e, h.0) (x, h.1))
head c w p s (more {n} {d} (leaves e) x) h = goes {n = n} {d = d} (rw e (λ z. z)) (rw (e, h.0) (x, h.1))
head c w p s (more {n} {d} (calls e) x) h = goes {n = n} {d = d} (rw e (λ z. z)) (rw e (x, h))
head c w p s (more {n} {d} (returns e) x) h = goes {n = n} {d = d} (rw e (λ z. z)) (rw e (x, h))

-- paths of at most k instructions agree
abbrev Agree : List ℕ → ℕ → Type 0
Agree c k = (w : ℕ → Bool) (p : ℕ) (s : List ℕ) (n d m e : ℕ) → n ≤ k → Picked c w p s n d → Picked c w p s m e → (n ≡ m) × (d ≡ e)

agree-heads : (c : List ℕ) (k : ℕ) → Agree c k → (w : ℕ → Bool) (p : ℕ) (s : List ℕ) {n d m e : ℕ} → n ≤ suc k → Head c w p s n d → Head c w p s m e
    → (n ≡ m) × (d ≡ e)
agree-heads c k ih w p s h (stop a) (stop b) = (refl, refl)
agree-heads c k ih w p s h (stop a) (goes b y) = absurd (b a)
agree-heads c k ih w p s h (goes a x) (stop b) = absurd (a b)
agree-heads c k ih w p s h (goes a x) (goes b y) =
    let i = ih (later w) _ _ _ _ _ _ (omega arith) x y in
    (ap suc i.0, ap (λ (j : ℕ). max (length s) j) i.1)

path-positive : {c : List ℕ} {p n : ℕ} {s : List ℕ} {d : ℕ} → Path c p s n d → 1 ≤ n
path-positive (ends e) = omega arith
path-positive (more m x) = omega arith

agree : (k : ℕ) (c : List ℕ) → Agree c k
agree zero c w p s n d m e h x y = absurd (let q = path-positive x.0 in let z : ⊥ = omega arith in z)
agree (suc k) c w p s n d m e h x y = agree-heads c k (agree k c) w p s h (head c w p s x.0 x.1) (head c w p s y.0 y.1)

pub one-cycle : {c : List ℕ} {n d m e : ℕ} (w : ℕ → Bool) (x : Cycle c n d) (y : Cycle c m e) → Chosen w x → Chosen w y → (n ≡ m) × (d ≡ e)
one-cycle {c} {n} {d} {m} {e} w x y h i = agree n c w 0 [] n d m e (omega arith) (x, h) (y, i)
