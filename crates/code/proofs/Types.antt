-- The types that an accepted instruction names, by its code byte: the test of a profile holds exactly if the rule of `specs/Rules` does.
-- In order: code bytes that name a type; the types of an instruction; the rule; the test as the code makes it. Assumes nothing.
use mathlib.Core.Path.{◌≡◌, refl, sym, ap, ap₂, ◌∙◌}
use mathlib.Core.Bool.{Bool, true, false, not}
use mathlib.Core.Logic.{◌⊎◌, inl, inr}
use mathlib.Core.List.{List, [], ◌∷◌, map}
use Prim.Native.Nat.{ℕ, ◌+◌, ◌≤◌, ◌<◌}
use native.Mathlib.Omega.{arith}
use borrow.Author.Tests.{ltb-true, ltb-false, lt-ltb}
use lib.Dec.{T, ltb, leb, eqb, leb→le, eqb→eq}
use lib.ListN.{length}
use Rattle.verdict.specs.Verdict.{pick, both, either, within, upto}
use Rattle.verdict.specs.Items.{From}
use Rattle.verdict.proofs.Verdict.{absurd-bool, below, both_true, inside, inside-true, outside}
use Rattle.memory.specs.Memory.{byte}
use Rattle.code.specs.Commands.{known, row_of, row_operands, places_of, length_of}
use Rattle.code.specs.Profiles.{wide, is_type, types_at, none_wide}
use Rattle.code.specs.Code.{instruction_ok}
use Rattle.code.specs.Rules.{typed, converts-from, converts-to, packs, NoWide}
use Rattle.code.proofs.Laws.{is, whole, both-T, either-T}
use Rattle.code.proofs.Rules.{either_way, known-low, keeps-instruction}

-- ---- code bytes that name a type

-- typed commands; 43; 44 and 45
abbrev Typing : ℕ → Type 0
Typing code = From 16 37 code ⊎ ((code ≡ 43) ⊎ From 44 45 code)

typing : (code : ℕ) → known code ≡ true → 16 ≤ code → within 41 42 code ≡ false → Typing code
typing code e h n =
    either_way (within 0 9 code) _ e (λ a. absurd (let i = inside-true 0 9 code a in let y : ⊥ = omega arith in y))
    (λ d. either_way (within 16 20 code) _ d (λ a. let i = inside-true 16 20 code a in inl (omega arith, omega arith))
    (λ g. either_way (within 24 37 code) _ g (λ a. let i = inside-true 24 37 code a in inl (omega arith, omega arith))
    (λ a.
    let i = inside-true 41 45 code a in
    is _ code 43 (λ q. inr (inl q))
    (λ m. inr (inr (go i m (ltb code 43) refl))))))
  where
    go : From 41 45 code → (code ≡ 43 → ⊥) → (b : Bool) → ltb code 43 ≡ b → From 44 45 code
    go i m true q =
        let l = ltb-true code 43 q in
        absurd-bool (sym n ∙ inside 41 42 code i.0 (omega arith))
    go i m false q =
        let l = ltb-false code 43 q in
        (omega arith, i.1)

-- they have three bytes at least
long-typed : (code : ℕ) → code < 46 → known code ≡ true → 16 ≤ code → within 41 42 code ≡ false → 3 ≤ length_of code
unfolding length_of row_of pick types_at
long-typed code l e h n = go (ltb code 16) refl
  where
    last : (a b c d : Bool) → a ≡ true → b ≡ false → c ≡ false → T (either (not a) (either b (either c d))) → T d
    last true false false d x y z t = t
    last false b c d x y z t = absurd-bool x
    last true true c d x y z t = absurd-bool (sym y)
    last true false true d x y z t = absurd-bool (sym z)

    go : (b : Bool) → ltb code 16 ≡ b → 3 ≤ length_of code
    go true q = absurd (let i = ltb-true code 16 q in let y : ⊥ = omega arith in y)
    go false q = leb→le 3 (length_of code) (last (known code) (ltb code 16) (within 41 42 code) _ e q n (below (λ k. either (not (known k)) (either (ltb k 16) (either (within 41 42 k) (leb 3 (length_of k))))) 46 tt code l))

-- ---- the types of an instruction: what the rows of all code bytes say, by one computed test

equal : List ℕ → List ℕ → Bool
equal [] [] = true
equal [] (y ∷ ys) = false
equal (x ∷ xs) [] = false
equal (x ∷ xs) (y ∷ ys) = both (eqb x y) (equal xs ys)

equal_is : (xs ys : List ℕ) → T (equal xs ys) → xs ≡ ys
unfolding equal
equal_is [] [] t = refl
equal_is [] (y ∷ ys) t = absurd t
equal_is (x ∷ xs) [] t = absurd t
equal_is (x ∷ xs) (y ∷ ys) t = let h = both-T (eqb x y) (equal xs ys) t in ap₂ ◌∷◌ (eqb→eq x y h.0) (equal_is xs ys h.1)

-- where the type bytes of a command stand
abbrev type_places : ℕ → List ℕ
type_places code = places_of is_type 1 (row_operands (row_of code))

abbrev Standing : (ℕ → Bool) → List ℕ → ℕ → Bool
Standing test ns code = either (not (test code)) (equal (type_places code) ns)

stand-at : (test : ℕ → Bool) (ns : List ℕ) → T (upto (Standing test ns) 46) → (code : ℕ) → code < 46 → test code ≡ true → type_places code ≡ ns
stand-at test ns t code l e = equal_is _ _ (either-T _ _ (below (Standing test ns) 46 t code l) (ap not e))

module _ (c : List ℕ) (p : ℕ) where
  abbrev bytes_at : List ℕ → List ℕ
  bytes_at ns = map (λ (n : ℕ). byte c (p + n)) ns

  typed-types : instruction_ok c p ≡ true → From 16 37 (byte c p) → types_at c p ≡ byte c (p + 1) ∷ []
  unfolding row_of pick equal types_at
  typed-types z h =
      let k = (keeps-instruction c p z).code-byte in
      ap bytes_at (stand-at (λ code. both (known code) (within 16 37 code)) (1 ∷ []) tt (byte c p) (known-low (byte c p) k) (rw (k, inside 16 37 (byte c p) h.0 h.1)))

  conversion-types : byte c p ≡ 43 → types_at c p ≡ byte c (p + 1) ∷ byte c (p + 2) ∷ []
  unfolding row_of pick types_at
  conversion-types e = rw e

  packed-types : From 44 45 (byte c p) → types_at c p ≡ byte c (p + 1) ∷ []
  unfolding row_of pick equal types_at
  packed-types h = ap bytes_at (stand-at (λ code. within 44 45 code) (1 ∷ []) tt (byte c p) (omega arith) (inside 44 45 (byte c p) h.0 h.1))

  time-types : From 41 42 (byte c p) → types_at c p ≡ []
  unfolding row_of pick equal types_at
  time-types h = ap bytes_at (stand-at (λ code. within 41 42 code) [] tt (byte c p) (omega arith) (inside 41 42 (byte c p) h.0 h.1))

  -- no command before ADD names a type
  low-types : byte c p < 16 → types_at c p ≡ []
  unfolding row_of pick equal types_at
  low-types h = ap bytes_at (stand-at (λ code. ltb code 16) [] tt (byte c p) (omega arith) (lt-ltb _ _ h))

  -- ---- the rule

  wide-first : (type : ℕ) (types : List ℕ) → none_wide (type ∷ types) ≡ true → From 7 10 type → ⊥
  wide-first type types e h = absurd-bool (rw (inside 7 10 type h.0 h.1) at e)

  not_wide : {type : ℕ} → (From 7 10 type → ⊥) → wide type ≡ false
  not_wide {type} n = outside 7 10 type (λ a b. n (a, b))

  pub keeps-types : instruction_ok c p ≡ true → none_wide (types_at c p) ≡ true → NoWide c p
  keeps-types z e type (typed h) w = wide-first (byte c (p + 1)) [] (sym (ap none_wide (typed-types z h)) ∙ e) w
  keeps-types z e type (converts-from h) w = wide-first (byte c (p + 1)) (byte c (p + 2) ∷ []) (sym (ap none_wide (conversion-types h)) ∙ e) w
  keeps-types z e type (converts-to h) w =
      wide-first (byte c (p + 2)) [] (both_true (not (wide (byte c (p + 1)))) (none_wide (byte c (p + 2) ∷ [])) (sym (ap none_wide (conversion-types h)) ∙ e)).1 w
  keeps-types z e type (packs h) w = wide-first (byte c (p + 1)) [] (sym (ap none_wide (packed-types h)) ∙ e) w

  -- an accepted instruction names no type, or one of these
  by-types : (P : Type 0) → instruction_ok c p ≡ true → (byte c p < 16 → P) → (From 41 42 (byte c p) → P) → (Typing (byte c p) → P) → P
  by-types P z f g h = go (ltb (byte c p) 16) refl (within 41 42 (byte c p)) refl
    where
      go : (a : Bool) → ltb (byte c p) 16 ≡ a → (b : Bool) → within 41 42 (byte c p) ≡ b → P
      go true e b d = f (ltb-true _ _ e)
      go false e true d = g (inside-true 41 42 (byte c p) d)
      go false e false d = h (typing (byte c p) (keeps-instruction c p z).code-byte (ltb-false _ _ e) d)

  pub accepts-types : instruction_ok c p ≡ true → NoWide c p → none_wide (types_at c p) ≡ true
  accepts-types z n =
      by-types _ z (λ h. ap none_wide (low-types h)) (λ h. ap none_wide (time-types h)) named
    where
      named : Typing (byte c p) → none_wide (types_at c p) ≡ true
      named (inl h) = ap none_wide (typed-types z h) ∙ rw (not_wide (n _ (typed h)))
      named (inr (inl h)) = ap none_wide (conversion-types h) ∙ rw (not_wide (n _ (converts-from h)), not_wide (n _ (converts-to h)))
      named (inr (inr h)) = ap none_wide (packed-types h) ∙ rw (not_wide (n _ (packs h)))

  -- ---- the test as the code makes it

  pub types-low : instruction_ok c p ≡ true → byte c p < 16 → none_wide (types_at c p) ≡ true
  types-low z h = ap none_wide (low-types h)

  pub types-time : within 41 42 (byte c p) ≡ true → none_wide (types_at c p) ≡ true
  types-time e = ap none_wide (time-types (inside-true 41 42 (byte c p) e))

  module _ (z : instruction_ok c p ≡ true) (h : 16 ≤ byte c p) (n : within 41 42 (byte c p) ≡ false) where
    pub type-inside : p + 3 ≤ length c
    type-inside =
        let e = (keeps-instruction c p z).code-byte in
        let l = long-typed (byte c p) (known-low (byte c p) e) e h n in
        omega (arith, (whole c p z).fixed)

    which : Typing (byte c p)
    which = typing (byte c p) (keeps-instruction c p z).code-byte h n

    pub types-wide : wide (byte c (p + 1)) ≡ true → none_wide (types_at c p) ≡ false
    types-wide e = go which
      where
        go : Typing (byte c p) → none_wide (types_at c p) ≡ false
        go (inl t) = ap none_wide (typed-types z t) ∙ rw e
        go (inr (inl t)) = ap none_wide (conversion-types t) ∙ rw e
        go (inr (inr t)) = ap none_wide (packed-types t) ∙ rw e

    pub types-both : wide (byte c (p + 1)) ≡ false → byte c p ≡ 43 → none_wide (types_at c p) ≡ not (wide (byte c (p + 2)))
    types-both e t = ap none_wide (conversion-types t) ∙ rw e (alone (not (wide (byte c (p + 2)))))
      where
        alone : (b : Bool) → both b true ≡ b
        alone true = refl
        alone false = refl

    pub types-one : wide (byte c (p + 1)) ≡ false → (byte c p ≡ 43 → ⊥) → none_wide (types_at c p) ≡ true
    types-one e m = go which
      where
        go : Typing (byte c p) → none_wide (types_at c p) ≡ true
        go (inl t) = ap none_wide (typed-types z t) ∙ rw e
        go (inr (inl t)) = absurd (m t)
        go (inr (inr t)) = ap none_wide (packed-types t) ∙ rw e
