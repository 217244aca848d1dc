-- Laws of operands. In order: the place of an address; operands inside the data; copying an element as a number. Assumes nothing.
use mathlib.Core.Path.{◌≡◌, refl, sym, ap, ◌∙◌}
use mathlib.Core.Bool.{Bool, true, false, ◌&&◌}
use mathlib.Core.List.{List}
use Prim.Native.Nat.{ℕ, ◌+◌, ◌-◌, ◌%◌, ◌^◌, ◌≤◌, ◌<◌}
use native.Mathlib.Omega.{arith}
use borrow.Author.Tests.{ltb-true, ltb-false}
use lib.Dec.{ltb}
use lib.ListN.{length, get_or}
use mir.Syntax.{w8}
use mir.Val.{Fits}
use Rattle.verdict.specs.Verdict.{pick, either}
use Rattle.verdict.proofs.Verdict.{absurd-bool, by-pick}
use Rattle.memory.specs.Memory.{byte, word, splice, part, bytes_le, read_le}
use Rattle.memory.proofs.Number.{bytes_read}
use Rattle.values.specs.Commands.{beyond, any_beyond}
use Rattle.protocol.specs.declared.Registers.{Registers}
use Rattle.commands.specs.declared.Operands.{Operands}
use Rattle.processor.specs.Processor.{place_of}
use Rattle.processor.specs.Typed.{operands_at, Low}

-- ---- the place of an address

abbrev as_operands : ℕ → ℕ → ℕ → ℕ → Operands
as_operands kind to first second = record { kind = kind; to = to; first = first; second = second }

-- a sum at 64 bits, with the offset or with what takes 32,768 away
pub summed : (offset address b r : ℕ) → offset < 65536 → address < 65536 → b ≡ pick (ltb address 32768) offset 18446744073709518848 → r ≡ (b + address) % 2 ^ 64
    → (r ≡ place_of offset address) × (r < 98304)
unfolding place_of pick
summed offset address b r h l e f = go (ltb address 32768) refl
  where
    go : (t : Bool) → ltb address 32768 ≡ t → (r ≡ place_of offset address) × (r < 98304)
    go true t =
        let k : address < 32768 = ltb-true address 32768 t in
        let g : b ≡ offset = rw t at e in
        let s : r ≡ offset + address = omega (arith, f, g) in
        (rw t s, omega arith)
    go false t =
        let k : 32768 ≤ address = ltb-false address 32768 t in
        let g : b ≡ 18446744073709518848 = rw t at e in
        let s : r ≡ address - 32768 = omega (arith, f, g) in
        (rw t s, omega arith)

-- an address that is not absolute
relative : (offset address : ℕ) → ltb address 32768 ≡ true → offset < 65536 → (offset + address ≡ place_of offset address) × (offset + address < 98304)
unfolding place_of pick
relative offset address e h = (rw e, omega (arith, ltb-true address 32768 e))

and-true : (a b : Bool) → (a && b) ≡ true → (a ≡ true) × (b ≡ true)
and-true true b e = (refl, e)
and-true false b e = absurd-bool e

-- three of them
pub relative-operands : (c : List ℕ) (r : Registers) {to first second : ℕ} → to ≡ word c (r.counter + 2) → first ≡ word c (r.counter + 4) → second ≡ word c (r.counter + 6)
    → ((ltb to 32768 && ltb first 32768) && ltb second 32768) ≡ true → r.offset < 65536
    → (as_operands (byte c (r.counter + 1)) (r.offset + to) (r.offset + first) (r.offset + second) ≡ operands_at 6 c r)
    × Low (as_operands (byte c (r.counter + 1)) (r.offset + to) (r.offset + first) (r.offset + second))
relative-operands c r {to} {first} {second} e f g t h =
    let a = and-true _ _ t in
    let b = and-true _ _ a.0 in
    let x = relative r.offset to b.0 h in
    let y = relative r.offset first b.1 h in
    let z = relative r.offset second a.1 h in
    let p = x.0 ∙ ap (place_of r.offset) e in
    let q = y.0 ∙ ap (place_of r.offset) f in
    let s = z.0 ∙ ap (place_of r.offset) g in
    ((λ i. as_operands (byte c (r.counter + 1)) (p i) (q i) (s i)), (x.1, y.1, z.1))

-- ---- operands inside the data

-- an operand that is not beyond the data lies inside it
pub inside : (size place width : ℕ) → beyond size place width ≡ false → place + width ≤ size
unfolding beyond
inside size place width e = ltb-false size (place + width) e

either-false : (a b : Bool) → either a b ≡ false → (a ≡ false) × (b ≡ false)
either-false true b e = absurd-bool (sym e)
either-false false b e = (refl, e)

pub both-inside : (size p n q m : ℕ) → any_beyond size p n q m ≡ false → (p + n ≤ size) × (q + m ≤ size)
both-inside size p n q m e =
    let a = either-false (beyond size p n) (beyond size q m) e in
    (inside size p n a.0, inside size q m a.1)

-- a selected stretch lies inside if both do
pub select-both : (test : Bool) (a b p n size : ℕ) → p ≡ pick test a b → a + n ≤ size → b + n ≤ size → p + n ≤ size
select-both test a b p n size e h l = rw e (by-pick (λ (q : ℕ). q + n ≤ size) test a b (λ f. h) (λ f. l))

-- ---- copying an element as a number

-- the number in n bytes, stored, is a copy of them
pub stored-copy : (d m : List ℕ) (to from n size v : ℕ) → ((i : ℕ) → Fits w8 (get_or d i 0)) → from + size ≤ length d → size ≡ n
    → v ≡ read_le d from n → m ≡ splice d to (bytes_le n v) → m ≡ splice d to (part d from size)
stored-copy d m to from n size v h k e f g =
    g ∙ ap (λ (x : ℕ). splice d to (bytes_le n x)) f ∙ ap (splice d to) (bytes_read d from n (λ i. (h i).fits) (omega arith)) ∙ rw e
