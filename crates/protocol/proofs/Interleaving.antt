-- Demand 3, as specs/Interleaving states it, for every list of steps; and that the takings alone decide. Assumes nothing.
use mathlib.Core.Path.{◌≡◌, refl, sym, ap, ◌∙◌}
use mathlib.Core.List.{List, ◌∷◌}
use mathlib.Core.Option.{Option, none, some}
use Prim.Native.Nat.{ℕ, zero, suc, ◌+◌, ◌<◌}
use native.Mathlib.Nat.{add-zero, add-suc, suc-add}
use native.Mathlib.Omega.{arith}
use lib.ListN.{get_or}
use Rattle.protocol.specs.State.{State, Task}
use Rattle.protocol.specs.Step.{run, Taking, takings}
use Rattle.protocol.specs.Whole.{whole}
use Rattle.protocol.specs.Laws.{Laws, Between, FreshStart}
use Rattle.protocol.specs.History.{latest, brought}
use Rattle.protocol.specs.Variables.{Variable, local, reads_it, writes_it, reads_of, writes_of, Accepted, value, value_of}
use Rattle.protocol.specs.Interleaving.{Interleaved}
use Rattle.protocol.proofs.View.{at}
use Rattle.protocol.proofs.Whole.{as-whole, between-still}
use Rattle.protocol.proofs.Pairing.{byte_of, as-published}
use Rattle.protocol.proofs.Bytes.{sound, moves-in}

-- bytes alike are values alike
pub value-eq : (n : ℕ) (l l' : List ℕ) (i j : ℕ) → ((m : ℕ) → m < n → get_or l (i + m) 0 ≡ get_or l' (j + m) 0) → value l i n ≡ value l' j n
value-eq zero l l' i j h = refl
value-eq (suc n) l l' i j h =
    let x : get_or l i 0 ≡ get_or l' j 0 = rw (add-zero i, add-zero j) at (h 0 (omega arith)) in
    let y : value l (suc i) n ≡ value l' (suc j) n = value-eq n l l' (suc i) (suc j)
    (λ m b. rw (suc-add i m, suc-add j m, ← add-suc i m, ← add-suc j m) (h (suc m) (omega arith))) in
    λ k. x k ∷ y k

values : (d : Option (List ℕ)) (l start : List ℕ) (i w : ℕ) (v : Variable)
    → ((m : ℕ) → m < v.width → get_or l (i + m) 0 ≡ byte_of d start record { source = local w v + m; target = v.place + m })
    → value l i v.width ≡ value_of d start w v
values none l start i w v h = value-eq v.width l start i v.place h
values (some d) l start i w v h = value-eq v.width l d i (local w v) h

pub interleaved : (t : Task) (vs : List Variable) (s : State) → t.reads ≡ reads_of vs → t.writes ≡ writes_of vs
    → Laws t → FreshStart s → Accepted vs s → (ks : List ℕ) → Interleaved t vs s ks
interleaved t vs s er ew l f ok ks = record {
  ends-whole = λ b. as-whole t l s f ks (λ k. between-still (at (run t ks s) k) (b k));
  reads-published = λ r x w v i a b. values (latest t w none x.before s) (brought x) s.plant.shared (local r v) w v
      (λ m h. as-published t l s (sound t s vs er ew ok) f ks r x w
      record { source = v.place + m; target = local r v + m }
      record { source = local w v + m; target = v.place + m }
      (rw er (moves-in (reads_it r) (λ u. u.place) (local r) vs v i a m h))
      (rw ew (moves-in (writes_it w) (local w) (λ u. u.place) vs v i b m h)) refl);
}

-- Two lists of steps with the same takings that both end with every core between cycles or stopped end alike: the order of exchanges is all
-- that matters. (That it does matter is `orders-differ` of proofs/Runs.)
pub same-takings : (t : Task) → Laws t → (s : State) → FreshStart s → (js ks : List ℕ) → takings t js s ≡ takings t ks s
    → Between (run t js s) → Between (run t ks s) → (run t js s).plant ≡ (run t ks s).plant
same-takings t l s f js ks e a b =
    as-whole t l s f js (λ k. between-still (at (run t js s) k) (a k))
    ∙ ap (λ (xs : List Taking). whole t xs s.plant) e
    ∙ sym (as-whole t l s f ks (λ k. between-still (at (run t ks s) k) (b k)))
