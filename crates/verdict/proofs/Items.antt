-- Laws of `specs/Items`: how a computed judgement is shown to be the number of the first rule that is broken. In order: numbers on a list;
-- a judgement of items, whatever follows; the items of each thing on a list; all items. Assumes nothing.
use mathlib.Core.Path.{◌≡◌, refl, sym, subst, ◌∙◌}
use mathlib.Core.Bool.{Bool, true, false}
use mathlib.Core.Logic.{◌⊎◌, inl, inr}
use mathlib.Core.List.{List, [], ◌∷◌, ◌++◌, append_assoc, append-nil}
use Prim.Native.Nat.{ℕ, zero, suc, ◌+◌, ◌≤◌, ◌<◌}
use native.Mathlib.Omega.{arith}
use borrow.Author.Tests.{eqb-true, eq-eqb}
use lib.Dec.{eqb}
use Rattle.verdict.specs.Verdict.{either, next, unless, first}
use Rattle.verdict.specs.Items.{OneOf, numbers, Item, item, for_each, First, none, broken, kept}
use Rattle.verdict.proofs.Verdict.{absurd-bool, either_true}

-- ---- numbers on a list

-- the same as a test
abbrev pub member : List ℕ → ℕ → Bool
member [] x = false
member (a ∷ l) x = either (eqb x a) (member l x)

pub member_of : (l : List ℕ) (x : ℕ) → member l x ≡ true → OneOf l x
member_of [] x e = absurd-bool e
member_of (a ∷ l) x e = go (member_of l x) (eqb x a) refl
  where
    go : (member l x ≡ true → OneOf l x) → (b : Bool) → eqb x a ≡ b → OneOf (a ∷ l) x
    go ih true f = inl (eqb-true x a f)
    go ih false f = inr (ih (rw f at e))

pub of-member : (l : List ℕ) (x : ℕ) → OneOf l x → member l x ≡ true
of-member [] x o = absurd o
of-member (a ∷ l) x (inl e) = rw (eq-eqb x a e)
of-member (a ∷ l) x (inr o) = rw (of-member l x o) (either_true (eqb x a))

-- ---- a judgement a of these items, whatever follows: what follows decides where a is none

pub record Judges (is : List Item) (a : ℕ) : Type 1 where
  pub before : (js : List Item) (x : ℕ) → (a ≡ 0 → First js x) → First (is ++ js) (next a x)

pub judges-none : Judges [] 0
unfolding next
judges-none = record { before = λ js x f. f refl }

-- one item, whose test is exact
pub judges-one : (r : ℕ) {P : Type 0} (b : Bool) → (b ≡ true → P) → (P → b ≡ true) → Judges (item (suc r) P ∷ []) (unless b (suc r))
unfolding next unless
judges-one r true to from = record { before = λ js x f. kept (to refl) (f refl) }
judges-one r false to from = record { before = λ js x f. broken (λ p. absurd-bool (from p)) }

pub next_both : (a b x : ℕ) → next (next a b) x ≡ next a (next b x)
unfolding next
next_both zero b x = refl
next_both (suc a) b x = refl

-- items end to end: those that follow may rest on the earlier ones
pub judges-both : {is js : List Item} {a b : ℕ} → Judges is a → (a ≡ 0 → Judges js b) → Judges (is ++ js) (next a b)
unfolding next
judges-both {is} {js} {a} {b} p q =
    record {
      before = λ ks x f.
          rw (append_assoc is js ks, next_both a b x)
          (p.before (js ++ ks) (next b x) (λ z. (q z).before ks x (λ w. f (subst (λ (n : ℕ). next n b ≡ 0) (sym z) w))));
    }

-- a judgement of one number by one rule
pub judges-number : (r : ℕ) {P : Type 0} (a : ℕ) → (a ≡ 0) ⊎ (a ≡ suc r) → (a ≡ 0 → P) → (P → a ≡ 0) → Judges (item (suc r) P ∷ []) a
unfolding next
judges-number r a (inl e) to from = record { before = λ js x f. rw e (kept (to e) (f e)) }
judges-number r a (inr e) to from = record { before = λ js x f. rw e (broken (λ p. let z = from p in let y : ⊥ = omega arith in y)) }

-- ---- the items of each thing

-- a judgement that is 0 or r of each thing is 0 or r of all
pub first-number : (r : ℕ) (g : ℕ → ℕ) → ((j : ℕ) → (g j ≡ 0) ⊎ (g j ≡ r)) → (n i : ℕ) → (first g n i ≡ 0) ⊎ (first g n i ≡ r)
unfolding first next
first-number r g h zero i = inl refl
first-number r g h (suc n) i = go (first-number r g h n (i + 1)) (g i) refl (h i)
  where
    go : (first g n (i + 1) ≡ 0) ⊎ (first g n (i + 1) ≡ r) → (x : ℕ) → g i ≡ x → (g i ≡ 0) ⊎ (g i ≡ r) → (first g (suc n) i ≡ 0) ⊎ (first g (suc n) i ≡ r)
    go ih zero e c = rw e ih
    go ih (suc x) e (inl z) = absurd (let y : ⊥ = omega arith in y)
    go ih (suc x) e (inr z) = inr (rw e (sym e ∙ z))

pub judges-each : (items : ℕ → List Item) (g : ℕ → ℕ) (n i : ℕ) → ((j : ℕ) → i ≤ j → j < i + n → Judges (items j) (g j)) → Judges (for_each (numbers n i) items) (first g n i)
unfolding first
judges-each items g zero i h = judges-none
judges-each items g (suc n) i h =
    judges-both (h i (omega arith) (omega arith)) (λ z. judges-each items g n (i + 1) (λ j a b. h j (omega arith) (omega arith)))

-- ---- all items

next_last : (a : ℕ) → next a 0 ≡ a
unfolding next
next_last zero = refl
next_last (suc a) = refl

-- the last items of a section
pub judges-end : {is : List Item} {a : ℕ} → Judges is a → Judges (is ++ []) a
judges-end {is} {a} p = rw (append-nil is) p

pub judged : {is : List Item} {a : ℕ} → Judges is a → First is a
judged {is} {a} p = rw (append-nil is, next_last a) at (p.before [] 0 (λ z. none))

-- items give one number
pub one_number : {is : List Item} {r s : ℕ} → First is r → First is s → r ≡ s
one_number none none = refl
one_number (broken n) (broken m) = refl
one_number (broken n) (kept k q) = absurd (n k)
one_number (kept k p) (broken m) = absurd (m k)
one_number (kept k p) (kept l q) = one_number p q
