-- What the inner functions of the test promise; a reader of the claim needs only specs/Check. Not here: what a ring is (crate protocol, specs/Cycles).
use Rattle.std.specs.Prelude.{Bool}
use Rattle.verdict.specs.Verdict.{both, either}

-- The lines between cores 0 and 1, 0 and 2, and so on close a ring: 012, 013, 023, 123, 0123, 0132, 0213
abbrev pub closed : Bool → Bool → Bool → Bool → Bool → Bool → Bool
closed l01 l02 l03 l12 l13 l23 =
    either (both l01 (both l12 l02))
    (either (both l01 (both l13 l03))
    (either (both l02 (both l23 l03))
    (either (both l12 (both l23 l13))
    (either (both l01 (both l12 (both l23 l03)))
    (either (both l01 (both l13 (both l23 l02)))
    (both l02 (both l12 (both l13 l03))))))))
