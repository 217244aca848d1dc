-- Document 02, 2.3, of every pair of the types 1 to 10, on stored patterns as the machine has them: "The rounding is to be shown against the exact
-- value over whole numbers." A field for each of its sentences. p is the source's pattern, q the one that is stored; the exact value of a float
-- fin s m e is m * up e / down e with the sign s, that of a whole number is `number_at`.
-- Not here: the definition (`converted` of crate conversions); what Nearest and Rounded say (its `Rounding`); addresses, which are tried before.
use Rattle.std.specs.Prelude.{ℕ, ◌*◌, ◌^◌, ◌<◌, Bool, ◌⊎◌, ◌≡◌, ℤ, pos, nat_abs, Float}
use Rattle.std.specs.Int.Signed.{lt_z}
use Rattle.std.specs.Float.{nan, inf, fin, binary32, binary64}
use Rattle.std.specs.Float.Ieee.{up, down}
use Rattle.values.specs.Types.{width_of}
use Rattle.values.specs.Values.{typed}
use Rattle.values.specs.declared.Value.TheVariants.{Real, Lreal}
use Rattle.conversions.specs.Conversions.{stores, not-held, with_sign, converted}
use Rattle.conversions.specs.Kept.{Whole, number_at}
use Rattle.conversions.specs.Rounding.{Nearest, Rounded}

-- the pattern p of a REAL or an LREAL stands for the float x
abbrev pub StandsFor : ℕ → ℕ → Float → Type 0
StandsFor t p x = (typed t p ≡ Real x) ⊎ (typed t p ≡ Lreal x)

pub record Conversions : Type 0 where
  -- "Whole to whole keeps the value."
  pub keeps : (from to p q : ℕ) → Whole from → Whole to → converted from to p ≡ stores q → number_at to q ≡ number_at from p
  -- "Float to whole rounds to nearest, ties to even"
  pub nearest : (from to p q : ℕ) (s : Bool) (m : ℕ) (e : ℤ) → StandsFor from p (fin s m e) → Whole to → converted from to p ≡ stores q
      → (r : ℕ) × (number_at to q ≡ with_sign s r) × Nearest (m * up e) (down e) r
  -- "Whole to float and LREAL to REAL round the same way once; a REAL too large becomes infinity"
  pub whole-to-real : (from p : ℕ) → Whole from
      → (q : ℕ) × (x : Float) × (converted from 9 p ≡ stores q) × (typed 9 q ≡ Real x) × Rounded binary32 (lt_z (number_at from p) (pos 0)) (nat_abs (number_at from p)) 1 x
  pub whole-to-lreal : (from p : ℕ) → Whole from
      → (q : ℕ) × (x : Float) × (converted from 10 p ≡ stores q) × (typed 10 q ≡ Lreal x) × Rounded binary64 (lt_z (number_at from p) (pos 0)) (nat_abs (number_at from p)) 1 x
  pub lreal-to-real : (p : ℕ) (s : Bool) (m : ℕ) (e : ℤ) → typed 10 p ≡ Lreal (fin s m e)
      → (q : ℕ) × (x : Float) × (converted 10 9 p ≡ stores q) × (typed 9 q ≡ Real x) × Rounded binary32 s (m * up e) (down e) x
  -- REAL to LREAL is exact, infinities included
  pub real-to-lreal : (p : ℕ) (x : Float) → typed 9 p ≡ Real x → (q : ℕ) × (converted 9 10 p ≡ stores q) × (typed 10 q ≡ Lreal x)
  -- "NaN keeps document 01's stored form."
  pub nan-to-real : (from p : ℕ) → StandsFor from p nan → converted from 9 p ≡ stores 0x7fc0_0000
  pub nan-to-lreal : (from p : ℕ) → StandsFor from p nan → converted from 10 p ≡ stores 0x7ff8_0000_0000_0000
  -- "A whole destination that can't hold the result, NaN and infinities included"
  pub nan-lost : (from to p : ℕ) → StandsFor from p nan → Whole to → converted from to p ≡ not-held
  pub infinity-lost : (from to p : ℕ) (s : Bool) → StandsFor from p (inf s) → Whole to → converted from to p ≡ not-held
  -- and no other: no pattern of the destination stands for a result that is not held
  pub whole-lost : (from to p : ℕ) → Whole from → Whole to → converted from to p ≡ not-held
      → (q : ℕ) → q < 2 ^ (8 * width_of to) → number_at to q ≡ number_at from p → ⊥
  pub nearest-lost : (from to p : ℕ) (s : Bool) (m : ℕ) (e : ℤ) → StandsFor from p (fin s m e) → Whole to → converted from to p ≡ not-held
      → (r : ℕ) → Nearest (m * up e) (down e) r → (q : ℕ) → q < 2 ^ (8 * width_of to) → number_at to q ≡ with_sign s r → ⊥
