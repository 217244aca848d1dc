-- How codes 44 and 45 end on a core's data, and the data after it: as a conversion does, the addresses first, then whether the destination can hold the
-- result. Source and destination have the same type.
use Rattle.std.specs.Prelude.{ℕ, List}
use Rattle.memory.specs.Memory.{read_le}
use Rattle.values.specs.Types.{width_of}
use Rattle.conversions.specs.Data.{Ended, tried}
use Rattle.packed.specs.Packed.{packed, unpacked}

-- code 44
unfoldable pub packing : ℕ → List ℕ → ℕ → ℕ → Ended
unfolding tried packed
packing t s destination source = tried t t s destination source (packed t (read_le s source (width_of t)))

-- code 45
unfoldable pub unpacking : ℕ → List ℕ → ℕ → ℕ → Ended
unfolding tried unpacked
unpacking t s destination source = tried t t s destination source (unpacked t (read_le s source (width_of t)))
