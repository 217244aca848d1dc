-- There and back, and back and there: the laws of `Decimal`, which are over any two bases and any number of digits. Assumes nothing.
use Rattle.packed.specs.ThereAndBack.{ThereAndBack}
use Rattle.packed.proofs.Decimal.{there_and_back, back-and-there, packed-unpacked, unpacked-packed}

pub both_ways : ThereAndBack
both_ways = record { packed-first = there_and_back; unpacked-first = back-and-there; packed-stored = packed-unpacked; unpacked-stored = unpacked-packed }
