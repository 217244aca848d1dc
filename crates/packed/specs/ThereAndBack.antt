-- Document 02, 2.8: "Going there and back gives the starting value wherever the first way succeeds, for every width by the same proof." On numbers at a
-- width of w bytes, whatever w; and on stored patterns, by type.
use Rattle.std.specs.Prelude.{ℕ, ◌*◌, ◌^◌, ◌<◌, ◌≡◌, Some}
use Rattle.values.specs.Types.{width_of}
use Rattle.values.specs.declared.Value.TheVariants.{Unsigned}
use Rattle.conversions.specs.Conversions.{stores}
use Rattle.packed.specs.Packed.{packed_at, unpacked_at, packed, unpacked}

pub record ThereAndBack : Type 0 where
  pub packed-first : (w n p : ℕ) → packed_at w n ≡ Some (Unsigned p) → unpacked_at w p ≡ Some (Unsigned n)
  pub unpacked-first : (w p n : ℕ) → p < 16 ^ (2 * w) → unpacked_at w p ≡ Some (Unsigned n) → packed_at w n ≡ Some (Unsigned p)
  pub packed-stored : (t n q : ℕ) → packed t n ≡ stores q → unpacked t q ≡ stores n
  pub unpacked-stored : (t p n : ℕ) → p < 2 ^ (8 * width_of t) → unpacked t p ≡ stores n → packed t n ≡ stores p
