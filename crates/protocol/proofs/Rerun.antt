-- A list of takings is legal exactly if some steps from the fresh state produce it, and the rerun ends as each of these (document 02, 2.13).
-- In order: the bytes of the order list; the claim. Not here: either half of the first claim (`Legal`, `Produced`). Assumes nothing.
use mathlib.Core.Path.{◌≡◌, refl, sym, ap, ◌∙◌}
use mathlib.Core.Logic.{◌⊎◌, inl, inr}
use mathlib.Core.Bool.{Bool, true, false}
use mathlib.Core.List.{List, [], ◌∷◌, map}
use mathlib.Core.Option.{none, some}
use Prim.Native.Nat.{ℕ, zero, suc, ◌+◌, ◌-◌, ◌≤◌, ◌<◌}
use native.Mathlib.Omega.{arith}
use lib.Dec.{T, ltb, ltb→lt, lt→ltb, nltb→le}
use lib.ListN.{length}
use Rattle.protocol.specs.State.{Core, Plant, State, Task}
use Rattle.protocol.specs.Step.{encoded, order_list, Taking, reading, writing, run, takings}
use Rattle.protocol.specs.Whole.{whole_one, whole}
use Rattle.verdict.specs.Verdict.{pick}
use Rattle.protocol.specs.Laws.{Laws, Still, FreshStart}
use Rattle.protocol.specs.Rerun.{accepts, legal, rerun_end, rerun, decoded, rerun_bytes, Below, Settled, unlined, Producing, Rerun}
use Rattle.protocol.proofs.View.{at}
use Rattle.protocol.proofs.Steps.{held-fresh, held-run, Modes, modes-run}
use Rattle.protocol.proofs.Whole.{sim-fresh, as-whole, between-still}
pub use Rattle.protocol.proofs.Legal.{legal-append}
use Rattle.protocol.proofs.Legal.{both-0, both-1, legal-run}
use Rattle.protocol.proofs.Produced.{who, whole_length, accepted-inside, AtRest, free-still, Made, produce}

-- ---- the bytes of the order list

some-eq : {a b : State} → some a ≡ some b → a ≡ b
some-eq e = cc

T_true : (b : Bool) → T b → b ≡ true
T_true true x = refl
T_true false x = absurd x

ltb-off : (m n : ℕ) → n ≤ m → ltb m n ≡ false
ltb-off m n h = go (ltb m n) refl
  where
    go : (b : Bool) → ltb m n ≡ b → b ≡ false
    go true e = let z = ltb→lt m n (rw e tt) in absurd (omega arith)
    go false e = refl

encoded-decoded : (b : ℕ) → encoded (decoded b) ≡ b
unfolding pick encoded
encoded-decoded b = go (ltb b 16) refl
  where
    go : (c : Bool) → ltb b 16 ≡ c → encoded (pick c (reading b) (writing (b - 16))) ≡ b
    go true e = refl
    go false e = let z = nltb→le b 16 (rw e tt) in omega arith

map-encoded-decoded : (bs : List ℕ) → map encoded (map decoded bs) ≡ bs
map-encoded-decoded [] = refl
map-encoded-decoded (b ∷ bs) = rw (encoded-decoded b, map-encoded-decoded bs)

decoded-encoded : (x : Taking) → who x < 16 → decoded (encoded x) ≡ x
unfolding pick encoded
decoded-encoded (reading k) h = rw (T_true (ltb k 16) (lt→ltb k 16 h))
decoded-encoded (writing k) h = let e : 16 + k - 16 ≡ k = omega arith in rw (ltb-off (16 + k) 16 (omega arith), e)

module _ (t : Task) where
  -- a legal list comes back from its bytes
  map-decoded-encoded : (xs : List Taking) (p : Plant) → length p.cores ≤ 16 → T (legal t xs p) → map decoded (map encoded xs) ≡ xs
  map-decoded-encoded [] p n a = refl
  map-decoded-encoded (x ∷ xs) p n a =
      let i : who x < length p.cores = accepted-inside t x p (both-0 (accepts t x p) _ a) in
      let e : decoded (encoded x) ≡ x = decoded-encoded x (omega arith) in
      let f : map decoded (map encoded xs) ≡ xs = map-decoded-encoded xs (whole_one t x p) (rw (whole_length t x p) n) (both-1 (accepts t x p) _ a) in
      rw (e, f)

-- ---- the claim

settled-still : (c : Core) → (c.registers.mode ≡ 0) ⊎ ((c.registers.mode ≡ 3) ⊎ (c.registers.mode ≡ 5)) → Still c
settled-still c (inl e) = omega arith
settled-still c (inr (inl e)) = omega arith
settled-still c (inr (inr e)) = omega arith

still-settled : (c : Core) → Still c → c.registers.mode ≤ 5 → (m : ℕ) → c.registers.mode ≡ m → (m ≡ 0) ⊎ ((m ≡ 3) ⊎ (m ≡ 5))
still-settled c h b zero e = inl refl
still-settled c h b (suc zero) e = absurd (h.0 e)
still-settled c h b (suc (suc zero)) e = absurd (h.1 e)
still-settled c h b (suc (suc (suc zero))) e = inr (inl refl)
still-settled c h b (suc (suc (suc (suc zero)))) e = absurd (h.2 e)
still-settled c h b (suc (suc (suc (suc (suc m))))) e = inr (inr (omega arith))

module _ (t : Task) (l : Laws t) (s : State) (fresh : FreshStart s) where
  small-fresh : Modes s
  small-fresh j = go (fresh.between j)
    where
      go : ((at s j).registers.mode ≡ 0) ⊎ ((at s j).registers.mode ≡ 5) → (at s j).registers.mode ≤ 5
      go (inl e) = omega arith
      go (inr e) = omega arith

  rest-fresh : AtRest s
  rest-fresh = record { free = fresh.free; empty = fresh.empty; held = held-fresh s fresh; still = λ j. between-still (at s j) (fresh.between j) }

  -- (a) the takings of any list of steps pass the test
  pub produced-is-legal : (ks : List ℕ) → T (legal t (takings t ks s) s.plant)
  produced-is-legal ks = legal-run t l ks s s.plant (sim-fresh t s fresh) (held-fresh s fresh)

  -- (b) every list that passes the test is the takings of some steps of cores below n, which end settled
  pub legal-is-produced : (xs : List Taking) → T (legal t xs s.plant) → (ks : List ℕ) × Below (length s.plant.cores) ks × (takings t ks s ≡ xs) × Settled (run t ks s)
  legal-is-produced xs a = go (produce t l (length s.plant.cores) xs s refl rest-fresh a)
    where
      go : Made t (length s.plant.cores) s xs → (ks : List ℕ) × Below (length s.plant.cores) ks × (takings t ks s ≡ xs) × Settled (run t ks s)
      go m = (m.steps, m.lawful, m.taken, λ k. still-settled (at (run t m.steps s) k) (m.rest.still k) (modes-run t l m.steps s small-fresh k) _ refl)

  -- a run of steps that produces xs and ends still ends where the rerun of xs ends, and xs is legal
  run-is-rerun : (ks : List ℕ) → ((k : ℕ) → Still (at (run t ks s) k)) → rerun t (takings t ks s) s ≡ some (unlined (run t ks s))
  unfolding pick
  run-is-rerun ks b =
      let z : State = run t ks s in
      let e : z.plant ≡ whole t (takings t ks s) s.plant = as-whole t l s fresh ks b in
      let f : z.semaphore.holder ≡ 0 = free-still z (held-run t l s fresh ks) b in
      let a : legal t (takings t ks s) s.plant ≡ true = T_true _ (produced-is-legal ks) in
      rw a (λ i. some record { plant = sym e i; semaphore = record { holder = sym f i; line = [] } })

  rerun-is-run : (xs : List Taking) (s' : State) → rerun t xs s ≡ some s' → Made t (length s.plant.cores) s xs
  unfolding pick
  rerun-is-run xs s' e = go (legal t xs s.plant) refl e
    where
      go : (b : Bool) → legal t xs s.plant ≡ b → pick b (some (rerun_end t xs s)) none ≡ some s' → Made t (length s.plant.cores) s xs
      go true a e = produce t l (length s.plant.cores) xs s refl rest-fresh (rw a tt)
      go false a e = let z : ◌≡◌ {A = ℕ} 0 1 = cc in absurd (omega arith)

  module _ (small : length s.plant.cores ≤ 16) where
    coded : (ks bs : List ℕ) → order_list t ks s ≡ bs → map decoded bs ≡ takings t ks s
    coded ks bs e = rw (← e) (map-decoded-encoded t (takings t ks s) s.plant small (produced-is-legal ks))

    pub rerun-holds : (bs : List ℕ) → Rerun t s bs
    unfolding pick
    rerun-holds bs = record {
      ends = λ ks e b. rw (coded ks bs e) (run-is-rerun ks (λ k. settled-still (at (run t ks s) k) (b k)));
      never-refused = λ ks e n. never ks (rw (coded ks bs e) at n);
      produced = λ s' e. producing s' e (rerun-is-run (map decoded bs) s' e);
    }
      where
        never : (ks : List ℕ) → rerun t (takings t ks s) s ≡ none → ⊥
        never ks n =
            let a : legal t (takings t ks s) s.plant ≡ true = T_true _ (produced-is-legal ks) in
            let n' = rw a at n in
            let z : ◌≡◌ {A = ℕ} 0 1 = cc in omega arith

        producing : (s' : State) → rerun_bytes t bs s ≡ some s' → Made t (length s.plant.cores) s (map decoded bs) → Producing t s bs s'
        producing s' e m =
            let f : rerun t (map decoded bs) s ≡ some (unlined (run t m.steps s)) = rw (← m.taken) (run-is-rerun m.steps m.rest.still) in
            let q : unlined (run t m.steps s) ≡ run t m.steps s = λ i. record { plant = (run t m.steps s).plant; semaphore = record { holder = (run t m.steps s).semaphore.holder; line = sym m.rest.empty i } } in
            let g : run t m.steps s ≡ s' = sym q ∙ some-eq (sym f ∙ e) in
            record {
              steps = m.steps;
              lawful = m.lawful;
              writes = ap (λ (xs : List Taking). map encoded xs) m.taken ∙ map-encoded-decoded bs;
              settled = rw (← g) (λ k. still-settled (at (run t m.steps s) k) (m.rest.still k) (modes-run t l m.steps s small-fresh k) _ refl);
              end = g;
            }
