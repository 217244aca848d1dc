-- A table that holds a state: read back after a call it has a record for each core, which is the state's, and holds the same state.
-- In order: the core of a record; a table with the state's records; the table after the four stores of a call.
-- Not here: which calls leave such a table (`OneCall`). Assumes nothing.
use mathlib.Core.Path.{◌≡◌, refl, sym, ap, ◌∙◌, subst}
use mathlib.Core.Bool.{Bool, true, false}
use mathlib.Core.List.{List, []}
use Prim.Native.Nat.{ℕ, zero, suc, ◌*◌, ◌≤◌, ◌<◌}
use native.Mathlib.Omega.{arith}
use borrow.Author.Tests.{lt-ltb, ltb-true, ltb-false}
use lib.Dec.{ltb}
use lib.Seq.{get_or-set_same, get_or-set_other}
use lib.ListN.{length, get_or, set, length-set, get_or-eq_default}
use Rattle.verdict.proofs.Verdict.{pick_true}
use Rattle.memory.specs.Memory.{split}
use Rattle.memory.proofs.Laws.{length-splice, length_part}
use Rattle.protocol.specs.State.{Core}
use Rattle.records.specs.File.{cores}
use Rattle.taskset.specs.Task.{sizes_of}
use Rattle.semaphore.specs.declared.Semaphore.{Semaphore}
use Rattle.semaphore.specs.Line.{semaphore_of}
use Rattle.states.specs.declared.Held.{Held}
use Rattle.states.specs.Machine.{core_in, state_in, state_of}
use Rattle.states.specs.Fit.{Fit}
use Rattle.states.proofs.Tables.{listed_same}
use Rattle.runner.specs.Runs.{left_as}
use Rattle.machine.specs.Calls.{answer_of}
use Rattle.calls.proofs.Calling.{Lendable}
use Rattle.snapshot.specs.declared.CoreRecord.{CoreRecord}
use Rattle.snapshot.specs.declared.After.{After}
use Rattle.snapshot.specs.Snapshot.{registers_in, no_record, counted, entries, held_places, held_offsets, held, core_of, record_after, accepted_of}
use Rattle.rikzord.specs.Lent.{record_at, loaded, stored_records}
use Rattle.lent_calls.proofs.Back.{Sixteen, unspared, comes_back}

pub entries-length : (a b c d : List ℕ) → length (entries a b c d) ≡ 64
unfolding entries
entries-length a b c d = length-splice _ 48 d ∙ length-splice _ 32 c ∙ length-splice _ 16 b ∙ length-splice _ 0 a

counted-few : (n : ℕ) → n ≤ 4 → counted n ≡ n
counted-few n h = pick_true _ _ _ (lt-ltb n 255 (omega (arith, h)))

-- the core of a record, with its data
abbrev place_of : CoreRecord → List ℕ → Core
place_of c m = record { registers = registers_in c; stack = record { places = c.places; offsets = c.offsets }; memory = m }

-- the table zs has a record for each core, which is the state's
module _ (f : List ℕ) (few : cores f ≤ 4) (s : Held) (places : length s.places ≡ 64) (offsets : length s.offsets ≡ 64)
    (zs : List CoreRecord) (rows : length zs ≡ cores f) (same : (k : ℕ) → k < cores f → record_at zs k ≡ core_of s k) where
  sixteen : (k : ℕ) → Sixteen (record_at zs k)
  unfolding core_of
  sixteen k = go (ltb k (cores f)) refl
    where
      go : (b : Bool) → ltb k (cores f) ≡ b → Sixteen (record_at zs k)
      go true e =
          let l = ltb-true k (cores f) e in
          subst Sixteen (sym (same k l)) record {
            places = length_part s.places (16 * k) 16 (omega (arith, places, few, l));
            offsets = length_part s.offsets (16 * k) 16 (omega (arith, offsets, few, l));
          }
      go false e =
          let l = ltb-false k (cores f) e in
          subst Sixteen (sym (get_or-eq_default zs no_record (subst (λ (n : ℕ). n ≤ k) (sym rows) l))) record { places = refl; offsets = refl }

  core-same : (p : Semaphore) (d : List ℕ) (k : ℕ) → k < cores f
      → core_in f (held (loaded zs) p).cores (held (loaded zs) p).places (held (loaded zs) p).offsets d k ≡ core_in f s.cores s.places s.offsets d k
  unfolding core_of
  core-same p d k l =
      ap (λ (c : CoreRecord). place_of c (get_or (split (sizes_of f) d) k [])) (comes_back zs p sixteen k (omega (arith, few, l)) ∙ ap unspared (same k l))

  pub state-same : (d sh : List ℕ) → state_of f (held (loaded zs) s.semaphore) d sh ≡ state_of f s d sh
  unfolding state_in held
  state-same d sh =
      ap (λ (l : List Core). record { plant = record { cores = l; shared = sh }; semaphore = semaphore_of s.semaphore }) (listed_same _ _ (cores f) (core-same s.semaphore d))

  pub lendable-same : (t d sh list list' : List ℕ) (r r' : ℕ) → Lendable f t (left_as (answer_of r s) d sh list) → Lendable f t (left_as (answer_of r' (held (loaded zs) s.semaphore)) d sh list')
  unfolding held held_places held_offsets
  lendable-same t d sh list list' r r' w = record {
    count = ap counted rows ∙ counted-few (cores f) few;
    line = w.line;
    sized = record {
      memory = w.sized.memory;
      shared = w.sized.shared;
      places = entries-length _ _ _ _;
      offsets = entries-length _ _ _ _;
    };
    fit = subst (Fit f t) (sym (state-same d sh)) w.fit;
  }

-- the table after each of four stores
module _ (ys : List CoreRecord) (x : After) where
  abbrev once : List CoreRecord
  once = set ys 0 x.a

  abbrev twice : List CoreRecord
  twice = set once 1 x.b

  abbrev thrice : List CoreRecord
  thrice = set twice 2 x.c

  once-length : length once ≡ length ys
  once-length = length-set ys 0 x.a

  twice-length : length twice ≡ length ys
  twice-length = length-set once 1 x.b ∙ once-length

  thrice-length : length thrice ≡ length ys
  thrice-length = length-set twice 2 x.c ∙ twice-length

  pub stored-length : length (stored_records ys x) ≡ length ys
  stored-length = length-set thrice 3 x.d ∙ thrice-length

-- a table after a call that is not refused has the state's record for each core
module _ (s : Held) (ys : List CoreRecord) (n : ℕ) (few : n ≤ 4) (count : s.count ≡ n) (rows : n ≤ length ys) where
  abbrev after : After
  after = accepted_of (loaded ys) s

  record-stored : (k : ℕ) → k < n → record_after (loaded ys) s k ≡ core_of s k
  unfolding record_after
  record-stored k l = pick_true _ _ _ (lt-ltb k s.count (omega (arith, count, l)))

  pub stored_at : (k : ℕ) → k < n → record_at (stored_records ys after) k ≡ core_of s k
  stored_at zero l =
      get_or-set_other (thrice ys after) 3 0 after.d no_record (λ e. absurd (omega (arith, e)))
      ∙ get_or-set_other (twice ys after) 2 0 after.c no_record (λ e. absurd (omega (arith, e)))
      ∙ get_or-set_other (once ys after) 1 0 after.b no_record (λ e. absurd (omega (arith, e)))
      ∙ get_or-set_same ys 0 after.a no_record (omega (arith, l, rows))
      ∙ record-stored 0 l
  stored_at (suc zero) l =
      get_or-set_other (thrice ys after) 3 1 after.d no_record (λ e. absurd (omega (arith, e)))
      ∙ get_or-set_other (twice ys after) 2 1 after.c no_record (λ e. absurd (omega (arith, e)))
      ∙ get_or-set_same (once ys after) 1 after.b no_record (omega (arith, l, rows, once-length ys after))
      ∙ record-stored 1 l
  stored_at (suc (suc zero)) l =
      get_or-set_other (thrice ys after) 3 2 after.d no_record (λ e. absurd (omega (arith, e)))
      ∙ get_or-set_same (twice ys after) 2 after.c no_record (omega (arith, l, rows, twice-length ys after))
      ∙ record-stored 2 l
  stored_at (suc (suc (suc zero))) l = get_or-set_same (thrice ys after) 3 after.d no_record (omega (arith, l, rows, thrice-length ys after)) ∙ record-stored 3 l
  stored_at (suc (suc (suc (suc k)))) l = absurd (omega (arith, l, few))
