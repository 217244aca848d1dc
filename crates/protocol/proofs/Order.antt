-- A list of takings in which each core's readings and writings alternate, where no two cores read each other and the lines form no ring,
-- begins with a whole cycle, up to changes of places. Not here: why exchanges can change places (`Commute`). Assumes nothing.
use mathlib.Core.Path.{◌≡◌, refl, sym, ap, ◌∙◌, subst}
use mathlib.Core.Logic.{◌≢◌, ◌⊎◌, inl, inr}
use mathlib.Core.Bool.{Bool, true, false, not}
use mathlib.Core.List.{List, [], ◌∷◌, ◌++◌, map}
use Prim.Native.Nat.{ℕ, zero, suc, ◌≤◌, ◌<◌}
use native.Mathlib.Nat.{le_refl}
use native.Mathlib.Decide.{ℕ_discrete}
use native.Mathlib.Omega.{arith}
use lib.Dec.{T, eqb}
use lib.ListN.{length}
use Rattle.verdict.proofs.Truth.{either_left, either-right}
use Rattle.protocol.specs.Step.{Taking, reading, writing}
use Rattle.verdict.specs.Verdict.{pick, either}
use Rattle.protocol.specs.Variables.{In}
use Rattle.protocol.specs.Cycles.{OneWay, Different, Closes, NoRing, begun, how_often}
use Rattle.protocol.proofs.Commute.{by}

-- core k's next taking: a reading where it is between cycles (false), else a writing
abbrev pub due : Bool → ℕ → Taking
due false k = reading k
due true k = writing k

-- the takings of core k among ts alternate, the first one being as due
abbrev pub Alternate : ℕ → Bool → List Taking → Type 0
Alternate k b [] = Unit {0}
Alternate k b (x ∷ ts) = ((x ≡ due b k) × Alternate k (not b) ts) ⊎ ((by x ≢ k) × Alternate k b ts)

-- x occurs in ts, and no y before it
abbrev Before : Taking → Taking → List Taking → Type 0
Before x y [] = ⊥
Before x y (z ∷ ts) = (z ≡ x) ⊎ ((z ≢ y) × Before x y ts)

before-once : (x y : Taking) → x ≢ y → (ts : List Taking) → Before x y ts → Before y x ts → ⊥
before-once x y n [] b c = b
before-once x y n (z ∷ ts) (inl e) (inl f) = n (sym e ∙ f)
before-once x y n (z ∷ ts) (inl e) (inr c) = c.0 e
before-once x y n (z ∷ ts) (inr b) (inl f) = b.0 f
before-once x y n (z ∷ ts) (inr b) (inr c) = before-once x y n ts b.1 c.1

before-in : (x y : Taking) (ts : List Taking) → Before x y ts → In (by x) (map by ts)
before-in x y [] b = b
before-in x y (z ∷ ts) (inl e) = inl (ap by (sym e))
before-in x y (z ∷ ts) (inr b) = inr (before-in x y ts b.1)

kinds : (j k : ℕ) → reading j ≢ writing k
kinds j k e = let z : ◌≡◌ {A = ℕ} 0 1 = cc in omega arith

apart : (x y : Taking) → by x ≢ by y → x ≢ y
apart x y n e = n (ap by e)

test : (b : Bool) → T b ⊎ (T b → ⊥)
test true = inl tt
test false = inr (λ h. h)

-- l without one j
pub remove : (j : ℕ) (l : List ℕ) → In j l → (r : List ℕ) × (length l ≡ suc (length r)) × ((c : ℕ) → In c l → (c ≡ j) ⊎ In c r)
remove j [] i = absurd i
remove j (x ∷ l) (inl e) = (l, refl, λ c n. go c n)
  where
    go : (c : ℕ) → In c (x ∷ l) → (c ≡ j) ⊎ In c l
    go c (inl f) = inl (f ∙ sym e)
    go c (inr n) = inr n
remove j (x ∷ l) (inr i) =
    let r : (r : List ℕ) × (length l ≡ suc (length r)) × ((c : ℕ) → In c l → (c ≡ j) ⊎ In c r) = remove j l i in
    (x ∷ r.0, ap suc r.1, λ c n. go c r.0 r.2 n)
  where
    more : (c : ℕ) (r : List ℕ) → (c ≡ j) ⊎ In c r → (c ≡ j) ⊎ In c (x ∷ r)
    more c r (inl e) = inl e
    more c r (inr n) = inr (inr n)

    go : (c : ℕ) (r : List ℕ) → ((c : ℕ) → In c l → (c ≡ j) ⊎ In c r) → In c (x ∷ l) → (c ≡ j) ⊎ In c (x ∷ r)
    go c r f (inl e) = inr (inl e)
    go c r f (inr n) = more c r (f c n)

module _ (reads : ℕ → ℕ → Bool) where
  -- x and y can change places
  abbrev pub Free : Taking → Taking → Type 0
  Free (reading i) (reading j) = i ≢ j
  Free (reading i) (writing j) = (i ≢ j) × (T (reads i j) → ⊥)
  Free (writing i) (reading j) = (i ≢ j) × (T (reads j i) → ⊥)
  Free (writing i) (writing j) = i ≢ j

  pub free-apart : (x y : Taking) → Free x y → by x ≢ by y
  free-apart (reading i) (reading j) n = n
  free-apart (reading i) (writing j) n = n.0
  free-apart (writing i) (reading j) n = n.0
  free-apart (writing i) (writing j) n = n

  -- x can be brought to the front of the first list, and the second is what is left
  pub data Pulled (x : Taking) : List Taking → List Taking → Type 0 where
    here : {ts : List Taking} → Pulled x (x ∷ ts) ts
    there : {y : Taking} {ts us : List Taking} → Free x y → Pulled x ts us → Pulled x (y ∷ ts) (y ∷ us)

  -- core k's first cycle among ts must come after core j's first one
  abbrev Blocks : List Taking → ℕ → ℕ → Type 0
  Blocks ts j k = (T (reads k j) × Before (writing j) (reading k) ts) ⊎ (T (reads j k) × Before (reading j) (writing k) ts)

  -- ---- bringing a reading, then its writing, to the front

  read_first : (k : ℕ) (ts : List Taking) → Alternate k false ts → In k (map by ts)
      → ((us : List Taking) × Pulled (reading k) ts us × Alternate k true us) ⊎ ((j : ℕ) × (j ≢ k) × T (reads k j) × Before (writing j) (reading k) ts)
  read_first k [] a o = absurd o
  read_first k (x ∷ ts) (inl a) o = inl (ts, rw a.0 here, a.1)
  read_first k (x ∷ ts) (inr a) (inl e) = absurd (a.0 (sym e))
  read_first k (reading j ∷ ts) (inr a) (inr o) = go (read_first k ts a.1 o)
    where
      go : ((us : List Taking) × Pulled (reading k) ts us × Alternate k true us) ⊎ ((j : ℕ) × (j ≢ k) × T (reads k j) × Before (writing j) (reading k) ts)
          → ((us : List Taking) × Pulled (reading k) (reading j ∷ ts) us × Alternate k true us) ⊎ ((i : ℕ) × (i ≢ k) × T (reads k i) × Before (writing i) (reading k) (reading j ∷ ts))
      go (inl r) = inl (reading j ∷ r.0, there {y = reading j} (λ e. a.0 (sym e)) r.1, inr (a.0, r.2))
      go (inr r) = inr (r.0, r.1, r.2, inr (apart (reading j) (reading k) a.0, r.3))
  read_first k (writing j ∷ ts) (inr a) (inr o) = go (test (reads k j)) (read_first k ts a.1 o)
    where
      go : T (reads k j) ⊎ (T (reads k j) → ⊥)
          → ((us : List Taking) × Pulled (reading k) ts us × Alternate k true us) ⊎ ((j : ℕ) × (j ≢ k) × T (reads k j) × Before (writing j) (reading k) ts)
          → ((us : List Taking) × Pulled (reading k) (writing j ∷ ts) us × Alternate k true us) ⊎ ((i : ℕ) × (i ≢ k) × T (reads k i) × Before (writing i) (reading k) (writing j ∷ ts))
      go (inl y) r = inr (j, a.0, y, inl refl)
      go (inr n) (inl r) = inl (writing j ∷ r.0, there {y = writing j} (λ e. a.0 (sym e), n) r.1, inr (a.0, r.2))
      go (inr n) (inr r) = inr (r.0, r.1, r.2, inr (apart (writing j) (reading k) a.0, r.3))

  -- the writing is among us, or there is none and one at the end can be brought to the front
  abbrev pub Written : ℕ → List Taking → List Taking → Type 0
  Written k us vs = Pulled (writing k) us vs ⊎ ((vs ≡ us) × Pulled (writing k) (us ++ (writing k ∷ [])) vs)

  written_on : (k : ℕ) (x : Taking) (us vs : List Taking) → Free (writing k) x → Written k us vs → Written k (x ∷ us) (x ∷ vs)
  written_on k x us vs f (inl p) = inl (there f p)
  written_on k x us vs f (inr p) = inr (ap (λ (l : List Taking). x ∷ l) p.0, there f p.1)

  write-first : (k : ℕ) (us : List Taking) → Alternate k true us
      → ((vs : List Taking) × Written k us vs × Alternate k false vs) ⊎ ((j : ℕ) × (j ≢ k) × T (reads j k) × Before (reading j) (writing k) us)
  write-first k [] a = inl ([], inr (refl, here), tt)
  write-first k (x ∷ us) (inl a) = inl (us, inl (rw a.0 here), a.1)
  write-first k (reading j ∷ us) (inr a) = go (test (reads j k)) (write-first k us a.1)
    where
      go : T (reads j k) ⊎ (T (reads j k) → ⊥)
          → ((vs : List Taking) × Written k us vs × Alternate k false vs) ⊎ ((j : ℕ) × (j ≢ k) × T (reads j k) × Before (reading j) (writing k) us)
          → ((vs : List Taking) × Written k (reading j ∷ us) vs × Alternate k false vs) ⊎ ((i : ℕ) × (i ≢ k) × T (reads i k) × Before (reading i) (writing k) (reading j ∷ us))
      go (inl y) r = inr (j, a.0, y, inl refl)
      go (inr n) (inl r) = inl (reading j ∷ r.0, written_on k (reading j) us r.0 (λ e. a.0 (sym e), n) r.1, inr (a.0, r.2))
      go (inr n) (inr r) = inr (r.0, r.1, r.2, inr (apart (reading j) (writing k) a.0, r.3))
  write-first k (writing j ∷ us) (inr a) = go (write-first k us a.1)
    where
      go : ((vs : List Taking) × Written k us vs × Alternate k false vs) ⊎ ((j : ℕ) × (j ≢ k) × T (reads j k) × Before (reading j) (writing k) us)
          → ((vs : List Taking) × Written k (writing j ∷ us) vs × Alternate k false vs) ⊎ ((i : ℕ) × (i ≢ k) × T (reads i k) × Before (reading i) (writing k) (writing j ∷ us))
      go (inl r) = inl (writing j ∷ r.0, written_on k (writing j) us r.0 (λ e. a.0 (sym e)) r.1, inr (a.0, r.2))
      go (inr r) = inr (r.0, r.1, r.2, inr (apart (writing j) (writing k) a.0, r.3))

  -- a reading put back before it changes nothing of what comes before a writing
  before_back : (k : ℕ) (x y : Taking) → x ≢ reading k → reading k ≢ y → (ts us : List Taking) → Pulled (reading k) ts us → Before x y us → Before x y ts
  before_back k x y m n ts us here b = inr (n, b)
  before_back k x y m n ts us (there f p) (inl e) = inl e
  before_back k x y m n ts us (there {ts = ts'} {us = us'} f p) (inr b) = inr (b.0, before_back k x y m n ts' us' p b.1)

  -- a whole cycle of core k brought to the front
  pub record First (ts : List Taking) : Type 0 where
    pub who : ℕ
    pub mid : List Taking
    pub rest : List Taking
    pub reads_first : Pulled (reading who) ts mid
    pub writes-next : Written who mid rest
    pub own : Alternate who false rest

  try : (ts : List Taking) (k : ℕ) → Alternate k false ts → In k (map by ts) → First ts ⊎ ((j : ℕ) × (j ≢ k) × Blocks ts j k)
  try ts k a o = go (read_first k ts a o)
    where
      more : (us : List Taking) → Pulled (reading k) ts us → ((vs : List Taking) × Written k us vs × Alternate k false vs) ⊎ ((j : ℕ) × (j ≢ k) × T (reads j k) × Before (reading j) (writing k) us)
          → First ts ⊎ ((j : ℕ) × (j ≢ k) × Blocks ts j k)
      more us p (inl r) = inl record { who = k; mid = us; rest = r.0; reads_first = p; writes-next = r.1; own = r.2 }
      more us p (inr r) = inr (r.0, r.1, inr (r.2, before_back k (reading r.0) (writing k) (apart (reading r.0) (reading k) r.1) (kinds k k) ts us p r.3))

      go : ((us : List Taking) × Pulled (reading k) ts us × Alternate k true us) ⊎ ((j : ℕ) × (j ≢ k) × T (reads k j) × Before (writing j) (reading k) ts)
          → First ts ⊎ ((j : ℕ) × (j ≢ k) × Blocks ts j k)
      go (inl r) = more r.0 r.1 (write-first k r.0 r.2)
      go (inr r) = inr (r.0, r.1, inl (r.2, r.3))

  -- ---- some core's first cycle is not blocked

  abbrev joined : ℕ → ℕ → Bool
  joined j k = either (reads j k) (reads k j)

  blocks-line : (ts : List Taking) (j k : ℕ) → Blocks ts j k → T (joined j k)
  blocks-line ts j k (inl b) = either-right (reads j k) (reads k j) b.0
  blocks-line ts j k (inr b) = either_left (reads j k) (reads k j) b.0

  blocks-in : (ts : List Taking) (j k : ℕ) → Blocks ts j k → In j (map by ts)
  blocks-in ts j k (inl b) = before-in (writing j) (reading k) ts b.1
  blocks-in ts j k (inr b) = before-in (reading j) (writing k) ts b.1

  blocks-once : OneWay reads → (ts : List Taking) (j k : ℕ) → j ≢ k → Blocks ts j k → Blocks ts k j → ⊥
  blocks-once one ts j k n (inl b) (inl c) = one k j (λ e. n (sym e)) b.0 c.0
  blocks-once one ts j k n (inl b) (inr c) = before-once (writing j) (reading k) (λ e. kinds k j (sym e)) ts b.1 c.1
  blocks-once one ts j k n (inr b) (inl c) = before-once (reading j) (writing k) (kinds j k) ts b.1 c.1
  blocks-once one ts j k n (inr b) (inr c) = one j k n b.0 c.0

  -- each one blocks the next
  abbrev Chain : List Taking → ℕ → List ℕ → Type 0
  Chain ts h [] = Unit {0}
  Chain ts h (x ∷ xs) = Blocks ts h x × Chain ts x xs

  -- the chain from a on, cut at j, closes at h
  close : (ts : List Taking) (h j : ℕ) → T (joined j h) → (a : ℕ) (xs : List ℕ) → Chain ts a xs → Different xs → In j (a ∷ xs)
      → (ds : List ℕ) × Closes joined h a ds × Different ds × ((c : ℕ) → In c ds → In c xs)
  close ts h j l a [] k d (inl e) = ([], subst (λ (x : ℕ). T (joined x h)) e l, tt, λ c i. absurd i)
  close ts h j l a [] k d (inr i) = absurd i
  close ts h j l a (x ∷ xs) k d (inl e) = ([], subst (λ (x : ℕ). T (joined x h)) e l, tt, λ c i. absurd i)
  close ts h j l a (x ∷ xs) k d (inr i) =
      let r : (ds : List ℕ) × Closes joined h x ds × Different ds × ((c : ℕ) → In c ds → In c xs) = close ts h j l x xs k.1 d.1 i in
      (x ∷ r.0, (blocks-line ts a x k.0, r.1), (λ c n. d.0 c (r.3 c n), r.2), λ c n. more c r.0 r.3 n)
    where
      more : (c : ℕ) (ds : List ℕ) → ((c : ℕ) → In c ds → In c xs) → In c (x ∷ ds) → In c (x ∷ xs)
      more c ds f (inl e) = inl e
      more c ds f (inr n) = inr (f c n)

  -- a chain whose head is blocked from within is a ring
  ring : OneWay reads → NoRing joined → (ts : List Taking) (h : ℕ) (xs : List ℕ) (j : ℕ) → Chain ts h xs → Different (h ∷ xs) → Blocks ts j h → In j xs → ⊥
  ring one none ts h [] j k d b i = i
  ring one none ts h (x ∷ xs) j k d b (inl e) = blocks-once one ts h x (λ f. d.0 x (inl refl) (sym f)) k.0 (subst (λ (x : ℕ). Blocks ts x h) e b)
  ring one none ts h (x ∷ []) j k d b (inr i) = i
  ring one none ts h (x ∷ (y ∷ xs)) j k d b (inr i) =
      let r : (ds : List ℕ) × Closes joined h y ds × Different ds × ((c : ℕ) → In c ds → In c xs) = close ts h j (blocks-line ts j h b) y xs k.1.1 d.1.1.1 i in
      none (h ∷ (x ∷ (y ∷ r.0))) (
        (λ c n. d.0 c (two c r.0 r.3 n), (λ c n. d.1.0 c (three c r.0 r.3 n), (λ c n. d.1.1.0 c (r.3 c n), r.2))),
        (blocks-line ts h x k.0, (blocks-line ts x y k.1.0, r.1)),
      )
    where
      three : (c : ℕ) (ds : List ℕ) → ((c : ℕ) → In c ds → In c xs) → In c (y ∷ ds) → In c (y ∷ xs)
      three c ds f (inl e) = inl e
      three c ds f (inr n) = inr (f c n)

      two : (c : ℕ) (ds : List ℕ) → ((c : ℕ) → In c ds → In c xs) → In c (x ∷ (y ∷ ds)) → In c (x ∷ (y ∷ xs))
      two c ds f (inl e) = inl e
      two c ds f (inr n) = inr (three c ds f n)

  module _ (one : OneWay reads) (none : NoRing joined) (ts : List Taking) (alt : (k : ℕ) → Alternate k false ts) where
    -- core h's first cycle can be brought to the front, or is blocked by a core that was not passed yet
    next : (h : ℕ) (xs rest : List ℕ) → Different (h ∷ xs) → Chain ts h xs → ((c : ℕ) → In c (map by ts) → In c (h ∷ xs) ⊎ In c rest) → In h (map by ts)
        → First ts ⊎ ((j : ℕ) × In j rest × (In j (h ∷ xs) → ⊥) × Blocks ts j h)
    next h xs rest d k cover o = go (try ts h (alt h) o)
      where
        new : (j : ℕ) → Blocks ts j h → (In j (h ∷ xs) → ⊥) → In j (h ∷ xs) ⊎ In j rest → First ts ⊎ ((j : ℕ) × In j rest × (In j (h ∷ xs) → ⊥) × Blocks ts j h)
        new j b m (inl i) = absurd (m i)
        new j b m (inr i) = inr (j, i, m, b)

        old : (j : ℕ) → (j ≢ h) → Blocks ts j h → In j (h ∷ xs) → ⊥
        old j n b (inl e) = n e
        old j n b (inr i) = ring one none ts h xs j k d b i

        go : First ts ⊎ ((j : ℕ) × (j ≢ h) × Blocks ts j h) → First ts ⊎ ((j : ℕ) × In j rest × (In j (h ∷ xs) → ⊥) × Blocks ts j h)
        go (inl x) = inl x
        go (inr r) = new r.0 r.2 (old r.0 r.1 r.2) (cover r.0 (blocks-in ts r.0 h r.2))

    -- follow the blocking cores: those passed are h ∷ xs, those not yet passed are in rest
    walk : (f h : ℕ) (xs rest : List ℕ) → length rest ≤ f → Different (h ∷ xs) → Chain ts h xs
        → ((c : ℕ) → In c (map by ts) → In c (h ∷ xs) ⊎ In c rest) → In h (map by ts) → First ts
    walk zero h xs rest b d k cover o = go (next h xs rest d k cover o)
      where
        go : First ts ⊎ ((j : ℕ) × In j rest × (In j (h ∷ xs) → ⊥) × Blocks ts j h) → First ts
        go (inl x) = x
        go (inr r) = absurd (omega (arith, (remove r.0 rest r.1).1))
    walk (suc f) h xs rest b d k cover o = go (λ h xs rest b d k cover o. walk f h xs rest b d k cover o) (next h xs rest d k cover o)
      where
        cover_on : (j : ℕ) (l : List ℕ) → ((c : ℕ) → In c rest → (c ≡ j) ⊎ In c l) → (c : ℕ) → In c (h ∷ xs) ⊎ In c rest → In c (j ∷ (h ∷ xs)) ⊎ In c l
        cover_on j l g c (inl i) = inl (inr i)
        cover_on j l g c (inr i) = more (g c i)
          where
            more : (c ≡ j) ⊎ In c l → In c (j ∷ (h ∷ xs)) ⊎ In c l
            more (inl e) = inl (inl e)
            more (inr n) = inr n

        go : ((h : ℕ) (xs rest : List ℕ) → length rest ≤ f → Different (h ∷ xs) → Chain ts h xs → ((c : ℕ) → In c (map by ts) → In c (h ∷ xs) ⊎ In c rest) → In h (map by ts) → First ts)
            → First ts ⊎ ((j : ℕ) × In j rest × (In j (h ∷ xs) → ⊥) × Blocks ts j h) → First ts
        go again (inl x) = x
        go again (inr r) =
            let l : (l : List ℕ) × (length rest ≡ suc (length l)) × ((c : ℕ) → In c rest → (c ≡ r.0) ⊎ In c l) = remove r.0 rest r.1 in
            again r.0 (h ∷ xs) l.0 (omega (arith, l.1)) (λ c i e. r.2 (subst (λ (c : ℕ). In c (h ∷ xs)) e i), d) (r.3, k)
            (λ c i. cover_on r.0 l.0 l.2 c (cover c i)) (blocks-in ts r.0 h r.3)

  pub first : OneWay reads → NoRing joined → (x : Taking) (ts : List Taking) → ((k : ℕ) → Alternate k false (x ∷ ts)) → First (x ∷ ts)
  first one none x ts alt = walk one none (x ∷ ts) alt (length (map by ts)) (by x) [] (map by ts) (le_refl _) (λ c i. absurd i, tt) tt (λ c i. go c i) (inl refl)
    where
      go : (c : ℕ) → In c (by x ∷ map by ts) → In c (by x ∷ []) ⊎ In c (map by ts)
      go c (inl e) = inl (inl e)
      go c (inr i) = inr i

  -- ---- what is left of the list

  alternate-left : (c : ℕ) (x : Taking) → by x ≢ c → (b : Bool) (ts us : List Taking) → Pulled x ts us → Alternate c b ts → Alternate c b us
  alternate-left c x n b ts us here (inl a) = absurd (n (ap by a.0 ∙ by-due b c))
    where
      by-due : (b : Bool) (c : ℕ) → by (due b c) ≡ c
      by-due true c = refl
      by-due false c = refl
  alternate-left c x n b ts us here (inr a) = a.1
  alternate-left c x n b ts us (there {ts = ts'} {us = us'} f p) (inl a) = inl (a.0, alternate-left c x n (not b) ts' us' p a.1)
  alternate-left c x n b ts us (there {ts = ts'} {us = us'} f p) (inr a) = inr (a.0, alternate-left c x n b ts' us' p a.1)

  left-written : (c k : ℕ) → k ≢ c → (us vs : List Taking) → Written k us vs → Alternate c false us → Alternate c false vs
  left-written c k n us vs (inl p) a = alternate-left c (writing k) n false us vs p a
  left-written c k n us vs (inr p) a = rw p.0 a

  pub left-alternates : (ts : List Taking) → ((k : ℕ) → Alternate k false ts) → (x : First ts) (c : ℕ) → Alternate c false x.rest
  left-alternates ts alt x c = go (ℕ_discrete x.who c)
    where
      go : Dec (x.who ≡ c) → Alternate c false x.rest
      go (yes e) = subst (λ (c : ℕ). Alternate c false x.rest) e x.own
      go (no n) = left-written c x.who n x.mid x.rest x.writes-next (alternate-left c (reading x.who) n false ts x.mid x.reads_first (alt c))

  pulled-length : (x : Taking) (ts us : List Taking) → Pulled x ts us → length ts ≡ suc (length us)
  pulled-length x ts us here = refl
  pulled-length x ts us (there {ts = ts'} {us = us'} f p) = ap suc (pulled-length x ts' us' p)

  written-length : (k : ℕ) (us vs : List Taking) → Written k us vs → length vs ≤ length us
  written-length k us vs (inl p) = omega (arith, pulled-length (writing k) us vs p)
  written-length k us vs (inr p) = rw p.0 (le_refl _)

  pub left-shorter : (ts : List Taking) (x : First ts) → length x.rest < length ts
  left-shorter ts x = omega (arith, pulled-length (reading x.who) ts x.mid x.reads_first, written-length x.who x.mid x.rest x.writes-next)

  -- ---- the cycles begun

  count-swap : (c i j : ℕ) (l : List ℕ) → how_often c (i ∷ (j ∷ l)) ≡ how_often c (j ∷ (i ∷ l))
  unfolding pick
  count-swap c i j l = go (eqb c i) (eqb c j)
    where
      go : (a b : Bool) → pick a (suc (pick b (suc (how_often c l)) (how_often c l))) (pick b (suc (how_often c l)) (how_often c l)) ≡ pick b (suc (pick a (suc (how_often c l)) (how_often c l))) (pick a (suc (how_often c l)) (how_often c l))
      go true true = refl
      go true false = refl
      go false true = refl
      go false false = refl

  count-cons : (c i : ℕ) (l l' : List ℕ) → how_often c l ≡ how_often c l' → how_often c (i ∷ l) ≡ how_often c (i ∷ l')
  count-cons c i l l' e = rw e

  begun-read : (c k : ℕ) (ts us : List Taking) → Pulled (reading k) ts us → how_often c (begun ts) ≡ how_often c (k ∷ begun us)
  begun-read c k ts us here = refl
  begun-read c k ts us (there {y = reading j} {ts = ts'} {us = us'} f p) = count-cons c j (begun ts') (k ∷ begun us') (begun-read c k ts' us' p) ∙ count-swap c j k (begun us')
  begun-read c k ts us (there {y = writing j} {ts = ts'} {us = us'} f p) = begun-read c k ts' us' p

  begun-write : (k : ℕ) (ts us : List Taking) → Pulled (writing k) ts us → begun ts ≡ begun us
  begun-write k ts us here = refl
  begun-write k ts us (there {y = reading j} {ts = ts'} {us = us'} f p) = ap (λ (l : List ℕ). j ∷ l) (begun-write k ts' us' p)
  begun-write k ts us (there {y = writing j} {ts = ts'} {us = us'} f p) = begun-write k ts' us' p

  begun-written : (k : ℕ) (us vs : List Taking) → Written k us vs → begun us ≡ begun vs
  begun-written k us vs (inl p) = begun-write k us vs p
  begun-written k us vs (inr p) = ap begun (sym p.0)

  pub left-begun : (ts : List Taking) (x : First ts) (c : ℕ) → how_often c (begun ts) ≡ how_often c (x.who ∷ begun x.rest)
  left-begun ts x c = begun-read c x.who ts x.mid x.reads_first ∙ ap (λ (l : List ℕ). how_often c (x.who ∷ l)) (begun-written x.who x.mid x.rest x.writes-next)
