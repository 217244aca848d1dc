-- The laws of a line in four entries. In order: entries one by one; whose turn it is; a run's semaphore and the one that it stands for; taking, release
-- and joining. Assumes nothing.
use mathlib.Core.Path.{◌≡◌, refl, sym, ap, ◌∙◌}
use mathlib.Core.Logic.{◌≢◌}
use mathlib.Core.Bool.{Bool, true, false, not}
use mathlib.Core.List.{List, [], ◌∷◌, ◌++◌}
use Prim.Native.Nat.{ℕ, zero, suc, ◌+◌, ◌-◌, ◌≤◌, ◌<◌}
use native.Mathlib.Numerals.{add-one}
use native.Mathlib.Omega.{arith}
use borrow.Author.Tests.{eq-eqb, ne_eqb}
use Rattle.std.proofs.Common.{◌==◌, ◌||◌}
use Rattle.std.proofs.lemmas.Slice.{between_is}
use Rattle.std.proofs.lemmas.List.{take_all, take-take}
use Rattle.std.specs.List.{list_any}
use lib.Dec.{eqb, eqb→eq}
use lib.ListN.{length, get_or, set, take, drop, length-take, length-drop, length-append, drop_of_length-le}
use lib.Seq.{drop-cons, get_or-take}
use Rattle.verdict.specs.Verdict.{pick}
use Rattle.verdict.proofs.Verdict.{absurd-bool}
use Rattle.verdict.proofs.Truth.{fails}
use Rattle.protocol.specs.State.{Semaphore}
use Rattle.protocol.specs.Step.{in_line, turn_in, turn, acquired_by, released, joined_by}
use Rattle.protocol.specs.Fair.{Once}
use Rattle.protocol.proofs.Lined.{leaves}
use Rattle.semaphore.specs.declared.Line.{Line}
use Rattle.semaphore.specs.Line.{semaphore_of, semaphore_back, waits_at, standing_in, line_of, Lined}

-- ---- entries one by one

module _ (l : List ℕ) (w i : ℕ) where
  pub line-end : w ≤ i → drop i (take w l) ≡ []
  line-end h = drop_of_length-le (take w l) {i = i} (omega (arith, length-take w l))

  pub line-entry : i < w → i < length l → drop i (take w l) ≡ get_or l i 0 ∷ drop (i + 1) (take w l)
  line-entry a b =
      drop-cons (take w l) i 0 (omega (arith, length-take w l))
      ∙ rw (add-one i, get_or-take w l i 0 a)

-- the test that goes through the line
pub found-in_line : (k : ℕ) (xs : List ℕ) → list_any (λ x. x == k) xs ≡ in_line k xs
unfolding pick
found-in_line k [] = refl
found-in_line k (x ∷ xs) = go (x == k) (found-in_line k xs)
  where
    go : (b : Bool) → list_any (λ y. y == k) xs ≡ in_line k xs → (b || list_any (λ y. y == k) xs) ≡ pick b true (in_line k xs)
    go true e = refl
    go false e = e

-- from an entry on, where the line has n entries
module _ (l : List ℕ) (w n i k : ℕ) (m : n ≡ length (take w l)) where
  pub found-from : list_any (λ x. x == k) (take (n - i) (drop i l)) ≡ in_line k (drop i (take w l))
  found-from = ap (list_any (λ x. x == k)) (between_is l i n ∙ ap (drop i) same) ∙ found-in_line k (drop i (take w l))
    where
      same : take n l ≡ take w l
      same = sym (take-take n w l (omega (arith, length-take w l))) ∙ take_all n (take w l) (omega arith)

  pub found-none : n ≤ i → false ≡ in_line k (drop i (take w l))
  found-none h = rw (drop_of_length-le (take w l) {i = i} (omega arith)) refl

-- ---- whose turn it is

-- nobody's, while it is held
pub held-turn : (h : ℕ) (xs : List ℕ) (k : ℕ) → h ≢ 0 → turn_in h xs k ≡ false
held-turn zero xs k n = absurd (n refl)
held-turn (suc h) xs k n = refl

-- ---- a run's semaphore

-- the four entries of a line
abbrev pub padded : List ℕ → List ℕ
padded xs = get_or xs 0 0 ∷ get_or xs 1 0 ∷ get_or xs 2 0 ∷ get_or xs 3 0 ∷ []

take-padded : (xs : List ℕ) → length xs ≤ 4 → take (length xs) (padded xs) ≡ xs
take-padded [] h = refl
take-padded (a ∷ []) h = refl
take-padded (a ∷ b ∷ []) h = refl
take-padded (a ∷ b ∷ c ∷ []) h = refl
take-padded (a ∷ b ∷ c ∷ d ∷ []) h = refl
take-padded (a ∷ b ∷ c ∷ d ∷ e ∷ xs) h = absurd (omega arith)

-- a line of at most four, back and forth
pub of-back : (m : Semaphore) → length m.line ≤ 4 → semaphore_of (semaphore_back m) ≡ m
of-back m h = ap (λ (xs : List ℕ). record { holder = m.holder; line = xs }) (take-padded m.line h)

module _ {x : Line} (l : Lined x) where
  pub entries : x.semaphore.line ≡ padded (semaphore_of x.semaphore).line
  unfolding line_of
  entries = ap (λ (y : Line). y.semaphore.line) l

  pub standing-is : x.standing ≡ standing_in (semaphore_of x.semaphore).line
  unfolding line_of
  standing-is = ap (λ (y : Line). y.standing) l

  pub waiting-is : x.semaphore.waiting ≡ length (semaphore_of x.semaphore).line
  unfolding line_of
  waiting-is = ap (λ (y : Line). y.semaphore.waiting) l

  pub few : length (semaphore_of x.semaphore).line ≤ 4
  few = omega (arith, length-take x.semaphore.waiting x.semaphore.line, ap length entries)

-- what a run makes of its semaphore stands for the same
pub record Becomes (x : Line) (m : Semaphore) : Type 0 where
  pub is : semaphore_of x.semaphore ≡ m
  pub lined : Lined x

pub becomes : (x : Line) (m : Semaphore) → x ≡ line_of m → length m.line ≤ 4 → Becomes x m
unfolding line_of
becomes x m e h =
    let p : semaphore_of x.semaphore ≡ m = ap (λ (y : Line). semaphore_of y.semaphore) e ∙ of-back m h in
    record { is = p; lined = e ∙ ap line_of (sym p) }

-- two of a run's semaphores with the same parts
pub same_line : {a b : ℕ} {c d : ℕ} {u v : List ℕ} {p q : List Bool} → a ≡ b → c ≡ d → u ≡ v → p ≡ q
    → ◌≡◌ {A = Line} record { semaphore = record { holder = a; waiting = c; line = u }; standing = p } record { semaphore = record { holder = b; waiting = d; line = v }; standing = q }
same_line e f g h = λ i. record { semaphore = record { holder = e i; waiting = f i; line = g i }; standing = h i }

-- ---- who stands in line

four : {a b c d a' b' c' d' : Bool} → a ≡ a' → b ≡ b' → c ≡ c' → d ≡ d' → ◌≡◌ {A = List Bool} (a ∷ b ∷ c ∷ d ∷ []) (a' ∷ b' ∷ c' ∷ d' ∷ [])
four p q r s = λ i. p i ∷ q i ∷ r i ∷ s i ∷ []

-- core k's byte, in a line that differs in core k alone
standing-set : (xs ys : List ℕ) (k : ℕ) (b : Bool) → k < 4 → in_line k ys ≡ b → ((j : ℕ) → k ≢ j → in_line j xs ≡ in_line j ys) → set (standing_in xs) k b ≡ standing_in ys
standing-set xs ys zero b h e o = four (sym e) (o 1 (omega arith)) (o 2 (omega arith)) (o 3 (omega arith))
standing-set xs ys (suc zero) b h e o = four (o 0 (omega arith)) (sym e) (o 2 (omega arith)) (o 3 (omega arith))
standing-set xs ys (suc (suc zero)) b h e o = four (o 0 (omega arith)) (o 1 (omega arith)) (sym e) (o 3 (omega arith))
standing-set xs ys (suc (suc (suc zero))) b h e o = four (o 0 (omega arith)) (o 1 (omega arith)) (o 2 (omega arith)) (sym e)
standing-set xs ys (suc (suc (suc (suc k)))) b h e o = absurd (omega arith)

pub standing-at : (xs : List ℕ) (k : ℕ) → k < 4 → get_or (standing_in xs) k false ≡ in_line k xs
standing-at xs zero h = refl
standing-at xs (suc zero) h = refl
standing-at xs (suc (suc zero)) h = refl
standing-at xs (suc (suc (suc zero))) h = refl
standing-at xs (suc (suc (suc (suc k)))) h = absurd (omega arith)

-- ---- taking

shifted : (xs : List ℕ) → length xs ≤ 4 → get_or xs 1 0 ∷ get_or xs 2 0 ∷ get_or xs 3 0 ∷ 0 ∷ [] ≡ padded (drop 1 xs)
shifted [] h = refl
shifted (a ∷ []) h = refl
shifted (a ∷ b ∷ []) h = refl
shifted (a ∷ b ∷ c ∷ []) h = refl
shifted (a ∷ b ∷ c ∷ d ∷ []) h = refl
shifted (a ∷ b ∷ c ∷ d ∷ e ∷ xs) h = absurd (omega arith)

-- the others stand as they stood
others-stay : (h : ℕ) (xs : List ℕ) (k j : ℕ) → turn_in h xs k ≡ true → k ≢ j → in_line j xs ≡ in_line j (drop 1 xs)
unfolding pick
others-stay zero [] k j u n = refl
others-stay zero (x ∷ xs) k j u n =
    let e : x ≡ k = eqb→eq x k (rw u tt) in
    rw (ne_eqb x j (λ f. n (sym e ∙ f)))
others-stay (suc h) xs k j u n = absurd-bool u

-- whoever joins stands in line, and the others as they stood
in-last : (k : ℕ) (xs : List ℕ) → in_line k (xs ++ (k ∷ [])) ≡ true
unfolding pick
in-last k [] = rw (eq-eqb k k refl)
in-last k (y ∷ xs) = go (eqb y k) (in-last k xs)
  where
    go : (b : Bool) → in_line k (xs ++ (k ∷ [])) ≡ true → pick b true (in_line k (xs ++ (k ∷ []))) ≡ true
    go true e = refl
    go false e = e

in-other : (j k : ℕ) (xs : List ℕ) → k ≢ j → in_line j xs ≡ in_line j (xs ++ (k ∷ []))
unfolding pick
in-other j k [] m = rw (ne_eqb k j m)
in-other j k (y ∷ xs) m = rw (in-other j k xs m)

-- the first of a line that is not empty
first-is : (xs : List ℕ) (k : ℕ) → in_line k xs ≡ true → turn_in 0 xs k ≡ eqb (get_or xs 0 0) k
first-is [] k e = absurd-bool e
first-is (x ∷ xs) k e = refl

module _ {x : Line} (l : Lined x) (k : ℕ) (i : k < 4) where
  abbrev line : List ℕ
  line = (semaphore_of x.semaphore).line

  pub acquired-is : turn (semaphore_of x.semaphore) k ≡ true → Once line → {h w : ℕ} {u : List ℕ} {p : List Bool}
      → h ≡ suc k → w ≡ x.semaphore.waiting - 1 → u ≡ get_or x.semaphore.line 1 0 ∷ get_or x.semaphore.line 2 0 ∷ get_or x.semaphore.line 3 0 ∷ 0 ∷ [] → p ≡ set x.standing k false
      → record { semaphore = record { holder = h; waiting = w; line = u }; standing = p } ≡ line_of (acquired_by k (semaphore_of x.semaphore))
  unfolding line_of
  acquired-is u o e f g q =
      same_line e
      (f ∙ ap (λ (n : ℕ). n - 1) (waiting-is l) ∙ sym (length-drop 1 line))
      (g ∙ ap (λ (y : List ℕ). get_or y 1 0 ∷ get_or y 2 0 ∷ get_or y 3 0 ∷ 0 ∷ []) (entries l) ∙ shifted line (few l))
      (q ∙ ap (λ (y : List Bool). set y k false) (standing-is l)
      ∙ standing-set line (drop 1 line) k false i (fails _ (leaves x.semaphore.holder line k o u)) (λ j n. others-stay x.semaphore.holder line k j u n))

  -- ---- waiting

  standing_here : get_or x.standing k false ≡ in_line k line
  standing_here = ap (λ (y : List Bool). get_or y k false) (standing-is l) ∙ standing-at line k i

  pub waits-out : get_or x.standing k false ≡ false → false ≡ waits_at (semaphore_of x.semaphore) k
  waits-out e = rw (sym standing_here ∙ e)

  pub waits-held : get_or x.standing k false ≡ true → x.semaphore.holder ≢ 0 → true ≡ waits_at (semaphore_of x.semaphore) k
  waits-held e n = rw (sym standing_here ∙ e, held-turn x.semaphore.holder line k n)

  pub waits-free : get_or x.standing k false ≡ true → x.semaphore.holder ≡ 0 → not (eqb (get_or x.semaphore.line 0 0) k) ≡ waits_at (semaphore_of x.semaphore) k
  waits-free e z =
      let s : in_line k line ≡ true = sym standing_here ∙ e in
      rw (s, z) (ap not (ap (λ (y : List ℕ). eqb (get_or y 0 0) k) (entries l) ∙ sym (first-is line k s)))

  -- ---- joining

  pub joined_is : in_line k line ≡ false → length line < 4 → {w : ℕ} {u : List ℕ} {p : List Bool}
      → w ≡ x.semaphore.waiting + 1 → u ≡ set x.semaphore.line x.semaphore.waiting k → p ≡ set x.standing k true
      → record { semaphore = record { holder = x.semaphore.holder; waiting = w; line = u }; standing = p } ≡ line_of (joined_by k (semaphore_of x.semaphore))
  unfolding line_of pick
  joined_is out n f g q =
      rw out (same_line refl
      (f ∙ ap (λ (n : ℕ). n + 1) (waiting-is l) ∙ sym (length-append line (k ∷ [])))
      (g ∙ ap (λ (y : ℕ). set x.semaphore.line y k) (waiting-is l) ∙ ap (λ (y : List ℕ). set y (length line) k) (entries l) ∙ appended line n)
      (q ∙ ap (λ (y : List Bool). set y k true) (standing-is l) ∙ standing-set line (line ++ (k ∷ [])) k true i (in-last k line) (λ j m. in-other j k line m)))
    where
      appended : (xs : List ℕ) → length xs < 4 → set (padded xs) (length xs) k ≡ padded (xs ++ (k ∷ []))
      appended [] h = refl
      appended (a ∷ []) h = refl
      appended (a ∷ b ∷ []) h = refl
      appended (a ∷ b ∷ c ∷ []) h = refl
      appended (a ∷ b ∷ c ∷ d ∷ xs) h = absurd (omega arith)

-- ---- what they stand for

module _ {x : Line} (l : Lined x) (k : ℕ) {y : Line} where
  pub becomes-acquired : y ≡ line_of (acquired_by k (semaphore_of x.semaphore)) → Becomes y (acquired_by k (semaphore_of x.semaphore))
  becomes-acquired e = becomes y _ e (omega (arith, few l, length-drop 1 (semaphore_of x.semaphore).line))

  pub becomes-released : y ≡ line_of (released (semaphore_of x.semaphore)) → Becomes y (released (semaphore_of x.semaphore))
  becomes-released e = becomes y _ e (few l)

  pub becomes-joined : in_line k (semaphore_of x.semaphore).line ≡ false → length (semaphore_of x.semaphore).line < 4
      → y ≡ line_of (joined_by k (semaphore_of x.semaphore)) → Becomes y (joined_by k (semaphore_of x.semaphore))
  unfolding pick
  becomes-joined out n e =
      becomes y _ e (rw out (omega (arith, length-append (semaphore_of x.semaphore).line (k ∷ []))))
