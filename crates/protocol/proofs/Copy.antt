-- Laws of the bytes that an exchange copies. In order: the next byte and the rest; the length; one place; what makes exchanges sound.
-- Assumes nothing.
use mathlib.Core.Path.{◌≡◌, refl, sym, ◌∙◌}
use mathlib.Core.Logic.{◌≢◌, inl, inr}
use mathlib.Core.List.{List, [], ◌∷◌}
use Prim.Native.Nat.{ℕ, ◌+◌, ◌<◌}
use lib.ListN.{length, get_or, set, take, drop, length-set}
use lib.Seq.{get_or-set_same, get_or-set_other, drop-drop}
use Rattle.protocol.specs.State.{State, Move, Task, core}
use Rattle.protocol.specs.Step.{copy}
use Rattle.protocol.specs.Variables.{In}

-- ---- the next byte and the rest

copy-next : (ms : List Move) (from to : List ℕ) → copy ms from to ≡ copy (drop 1 ms) from (copy (take 1 ms) from to)
copy-next [] from to = refl
copy-next (m ∷ ms) from to = refl

-- from the exchange number n on: one byte now, and the rest from n + 1 on
pub copy-on : (n : ℕ) (ms : List Move) (from to : List ℕ) → copy (drop n ms) from to ≡ copy (drop (n + 1) ms) from (copy (take 1 (drop n ms)) from to)
copy-on n ms from to = copy-next (drop n ms) from to ∙ rw drop-drop

pub copy-last : (ms : List Move) (from to : List ℕ) → drop 1 ms ≡ [] → copy ms from to ≡ copy (take 1 ms) from to
copy-last ms from to d = copy-next ms from to ∙ rw d

-- ---- the length

pub copy-length : (ms : List Move) (from to : List ℕ) → length (copy ms from to) ≡ length to
copy-length [] from to = refl
copy-length (m ∷ ms) from to = copy-length ms from (set to m.target (get_or from m.source 0)) ∙ length-set to m.target (get_or from m.source 0)

-- ---- one place

pub copy-other : (ms : List Move) (from to : List ℕ) (i : ℕ) → ((m : Move) → In m ms → m.target ≢ i) → get_or (copy ms from to) i 0 ≡ get_or to i 0
copy-other [] from to i h = refl
copy-other (m ∷ ms) from to i h =
    copy-other ms from (set to m.target (get_or from m.source 0)) i (λ x n. h x (inr n))
    ∙ get_or-set_other to m.target i (get_or from m.source 0) 0 (λ e. h m (inl refl) (sym e))

-- no two of them go to one place
abbrev pub Distinct : List Move → Type 0
Distinct [] = Unit {0}
Distinct (x ∷ xs) = ((m : Move) → In m xs → m.target ≢ x.target) × Distinct xs

pub copy-get : (ms : List Move) (from to : List ℕ) (m : Move) → Distinct ms → In m ms → m.target < length to → get_or (copy ms from to) m.target 0 ≡ get_or from m.source 0
copy-get [] from to m d n h = absurd n
copy-get (x ∷ xs) from to m d (inl e) h =
    rw e (copy-other xs from (set to x.target (get_or from x.source 0)) x.target d.0 ∙ get_or-set_same to x.target (get_or from x.source 0) 0 (rw (← e) h))
copy-get (x ∷ xs) from to m d (inr n) h = copy-get xs from (set to x.target (get_or from x.source 0)) m d.1 n (rw length-set h)

-- ---- what makes exchanges sound: no two bytes meet at a place, and every place is there

pub record Sound (t : Task) (s : State) : Type 0 where
  pub reads-apart : (k : ℕ) → Distinct (t.reads k)
  pub writes_apart : (k : ℕ) → Distinct (t.writes k)
  pub one_writer : (j k : ℕ) → j ≢ k → (a b : Move) → In a (t.writes j) → In b (t.writes k) → a.target ≢ b.target
  pub reads_fit : (k : ℕ) (m : Move) → In m (t.reads k) → m.target < length (core s.plant k).memory
  pub writes-fit : (k : ℕ) (m : Move) → In m (t.writes k) → m.target < length s.plant.shared
