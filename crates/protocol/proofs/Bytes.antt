-- The loader's conditions on variables make exchanges sound. In order: membership; one variable's bytes; all variables' bytes. Assumes nothing.
use mathlib.Core.Path.{◌≡◌, refl, sym, subst}
use mathlib.Core.Logic.{◌≢◌, ◌⊎◌, inl, inr}
use mathlib.Core.Bool.{Bool, true, false}
use mathlib.Core.List.{List, [], ◌∷◌, ◌++◌}
use Prim.Native.Nat.{ℕ, zero, suc, ◌+◌, ◌≤◌, ◌<◌}
use native.Mathlib.Nat.{add-zero, add-suc, suc-add}
use native.Mathlib.Omega.{arith}
use lib.Dec.{T}
use Rattle.verdict.specs.Verdict.{pick}
use Rattle.protocol.specs.State.{State, Move, Task}
use Rattle.protocol.specs.Variables.{Variable, local, writes_it, reads_it, span, moves_of, reads_of, writes_of, In, Pairwise, Clear, Accepted}
use Rattle.protocol.proofs.Copy.{Distinct, Sound}

-- ---- membership

pub in-append : {A : Type 0} (x : A) (l r : List A) → In x (l ++ r) → In x l ⊎ In x r
in-append x [] r h = inr h
in-append x (y ∷ l) r (inl e) = inl (inl e)
in-append x (y ∷ l) r (inr h) = go (in-append x l r h)
  where
    go : In x l ⊎ In x r → In x (y ∷ l) ⊎ In x r
    go (inl a) = inl (inr a)
    go (inr b) = inr b

pub in_left : {A : Type 0} (x : A) (l r : List A) → In x l → In x (l ++ r)
in_left x [] r h = absurd h
in_left x (y ∷ l) r (inl e) = inl e
in_left x (y ∷ l) r (inr h) = inr (in_left x l r h)

pub in_right : {A : Type 0} (x : A) (l r : List A) → In x r → In x (l ++ r)
in_right x [] r h = h
in_right x (y ∷ l) r h = inr (in_right x l r h)

distinct_append : (l r : List Move) → Distinct l → Distinct r → ((a b : Move) → In a l → In b r → b.target ≢ a.target) → Distinct (l ++ r)
distinct_append [] r d e h = e
distinct_append (x ∷ l) r d e h = (λ m n. go m (in-append m l r n), distinct_append l r d.1 e (λ a b i j. h a b (inr i) j))
  where
    go : (m : Move) → In m l ⊎ In m r → m.target ≢ x.target
    go m (inl i) = d.0 m i
    go m (inr j) = h x m (inl refl) j

-- ---- one variable's bytes

within : (n a b : ℕ) (m : Move) → In m (span n a b) → (b ≤ m.target) × (m.target < b + n)
within zero a b m h = absurd h
within (suc n) a b m (inl e) = rw e (omega arith)
within (suc n) a b m (inr h) = let i = within n (suc a) (suc b) m h in omega arith

span-distinct : (n a b : ℕ) → Distinct (span n a b)
span-distinct zero a b = tt
span-distinct (suc n) a b = (λ m h. let i = within n (suc a) (suc b) m h in omega arith, span-distinct n (suc a) (suc b))

span-in : (n a b i : ℕ) → i < n → In record { source = a + i; target = b + i } (span n a b)
span-in zero a b i h = omega arith
span-in (suc n) a b zero h = inl (rw (add-zero a, add-zero b))
span-in (suc n) a b (suc i) h =
    let p : suc a + i ≡ a + suc i = omega arith in
    let q : suc b + i ≡ b + suc i = omega arith in
    inr
    (subst (λ (x : ℕ). In record { source = x; target = b + suc i } (span n (suc a) (suc b))) p
    (subst (λ (y : ℕ). In record { source = suc a + i; target = y } (span n (suc a) (suc b))) q (span-in n (suc a) (suc b) i (omega arith))))

-- ---- all variables' bytes

pick-in : (m : Move) (l : List Move) (b : Bool) → In m (pick b l []) → T b × In m l
unfolding pick
pick-in m l true h = (tt, h)
pick-in m l false h = absurd h

in-pick : (m : Move) (l : List Move) (b : Bool) → T b → In m l → In m (pick b l [])
unfolding pick
in-pick m l true t h = h
in-pick m l false t h = absurd t

pick-distinct : (l : List Move) (b : Bool) → Distinct l → Distinct (pick b l [])
unfolding pick
pick-distinct l true d = d
pick-distinct l false d = tt

clear_apart : (n n' : ℕ) {a b x y : ℕ} → Clear a n b n' → (a ≤ x) × (x < a + n) → (b ≤ y) × (y < b + n') → x ≢ y
clear_apart n n' (inl h) i j = omega arith
clear_apart n n' (inr h) i j = omega arith

pairwise_map : {R S : Variable → Variable → Type 0} → ((v u : Variable) → R v u → S v u) → (vs : List Variable) → Pairwise R vs → Pairwise S vs
pairwise_map f [] p = tt
pairwise_map f (v ∷ vs) p = (λ u i. f v u (p.0 u i), pairwise_map f vs p.1)

-- the variable to whose bytes m belongs
record Owner (named : Variable → Bool) (to : Variable → ℕ) (vs : List Variable) (m : Move) : Type 0 where
  var : Variable
  among : In var vs
  name : T (named var)
  inside : (to var ≤ m.target) × (m.target < to var + var.width)

module _ (named : Variable → Bool) (from to : Variable → ℕ) where
  abbrev own : Variable → List Move
  own v = pick (named v) (span v.width (from v) (to v)) []

  own-inside : (v : Variable) (m : Move) → In m (own v) → (to v ≤ m.target) × (m.target < to v + v.width)
  own-inside v m h = within v.width (from v) (to v) m (pick-in m (span v.width (from v) (to v)) (named v) h).1

  own-named : (v : Variable) (m : Move) → In m (own v) → T (named v)
  own-named v m h = (pick-in m (span v.width (from v) (to v)) (named v) h).0

  owner : (vs : List Variable) (m : Move) → In m (moves_of named from to vs) → Owner named to vs m
  owner [] m h = absurd h
  owner (v ∷ vs) m h = go (λ i. owner vs m i) (in-append m (own v) (moves_of named from to vs) h)
    where
      go : (In m (moves_of named from to vs) → Owner named to vs m) → In m (own v) ⊎ In m (moves_of named from to vs) → Owner named to (v ∷ vs) m
      go f (inl i) = record { var = v; among = inl refl; name = own-named v m i; inside = own-inside v m i }
      go f (inr j) = record { var = (f j).var; among = inr (f j).among; name = (f j).name; inside = (f j).inside }

  moves-distinct : (vs : List Variable) → Pairwise (λ v u. T (named v) → T (named u) → Clear (to v) v.width (to u) u.width) vs
      → Distinct (moves_of named from to vs)
  moves-distinct [] p = tt
  moves-distinct (v ∷ vs) p =
      distinct_append (own v) (moves_of named from to vs)
      (pick-distinct (span v.width (from v) (to v)) (named v) (span-distinct v.width (from v) (to v)))
      (moves-distinct vs p.1)
      (λ a b i j e.
      let o = owner vs b j in
      clear_apart v.width o.var.width (p.0 o.var o.among (own-named v a i) o.name) (own-inside v a i) o.inside (sym e))

  pub moves-in : (vs : List Variable) (v : Variable) → In v vs → T (named v) → (i : ℕ) → i < v.width
      → In record { source = from v + i; target = to v + i } (moves_of named from to vs)
  moves-in [] v h t i l = absurd h
  moves-in (u ∷ vs) v (inl e) t i l =
      in_left _ (own u) (moves_of named from to vs) (subst (λ (u : Variable). In record { source = from v + i; target = to v + i } (own u)) e
      (in-pick _ (span v.width (from v) (to v)) (named v) t (span-in v.width (from v) (to v) i l)))
  moves-in (u ∷ vs) v (inr h) t i l = in_right _ (own u) (moves_of named from to vs) (moves-in vs v h t i l)

-- bytes that two cores write are apart, where no variable has two writers
module _ (one two : Variable → Bool) (from from' to : Variable → ℕ) where
  pub apart : (vs : List Variable) → ((v : Variable) → In v vs → T (one v) → T (two v) → ⊥) → Pairwise (λ v u. Clear (to v) v.width (to u) u.width) vs
      → (a b : Move) → In a (moves_of one from to vs) → In b (moves_of two from' to vs) → a.target ≢ b.target
  apart [] n p a b i j = absurd i
  apart (v ∷ vs) n p a b i j =
      go (λ x y. apart vs (λ u h. n u (inr h)) p.1 a b x y)
      (in-append a (own one from to v) (moves_of one from to vs) i)
      (in-append b (own two from' to v) (moves_of two from' to vs) j)
    where
      go : (In a (moves_of one from to vs) → In b (moves_of two from' to vs) → a.target ≢ b.target)
          → In a (own one from to v) ⊎ In a (moves_of one from to vs) → In b (own two from' to v) ⊎ In b (moves_of two from' to vs) → a.target ≢ b.target
      go f (inl x) (inl y) = absurd (n v (inl refl) (own-named one from to v a x) (own-named two from' to v b y))
      go f (inl x) (inr y) =
          let o = owner two from' to vs b y in
          clear_apart v.width o.var.width (p.0 o.var o.among) (own-inside one from to v a x) o.inside
      go f (inr x) (inl y) =
          let o = owner one from to vs a x in
          λ e. clear_apart v.width o.var.width (p.0 o.var o.among) (own-inside two from' to v b y) o.inside (sym e)
      go f (inr x) (inr y) = f x y

pub sound : (t : Task) (s : State) (vs : List Variable) → t.reads ≡ reads_of vs → t.writes ≡ writes_of vs → Accepted vs s → Sound t s
sound t s vs er ew ok = rw (er, ew) record {
  reads-apart = λ k. moves-distinct (reads_it k) (λ v. v.place) (local k) vs (ok.clear-local k);
  writes_apart = λ k. moves-distinct (writes_it k) (local k) (λ v. v.place) vs (pairwise_map (λ v u c x y. c) vs ok.clear-shared);
  one_writer = λ j k n a b. apart (writes_it j) (writes_it k) (local j) (local k) (λ v. v.place) vs (λ v i x y. n (ok.one_writer v i j k x y)) ok.clear-shared a b;
  reads_fit = λ k m i. let o = owner (reads_it k) (λ v. v.place) (local k) vs m i in omega (arith, ok.fits-local o.var o.among k o.name, o.inside);
  writes-fit = λ k m i. let o = owner (writes_it k) (local k) (λ v. v.place) vs m i in omega (arith, ok.fits-shared o.var o.among, o.inside);
}
