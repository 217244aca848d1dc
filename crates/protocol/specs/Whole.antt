-- Document 01, "The whole-exchange machine": it is fed the takings of a list of steps, and keeps all of the state but the semaphore.
use Rattle.std.specs.Prelude.{Bool, true, false, List, [], ◌∷◌, ℕ, zero, suc, eqb, set, drop}
use Rattle.protocol.specs.Modes.{executing, waiting_to_write}
use Rattle.protocol.specs.State.{Core, Plant, Sample, Task, core, mode, put}
use Rattle.protocol.specs.Step.{copy, read_taken, read_done, write_done, Taking, reading, writing}

-- instructions until the mode is not 2, at most f of them; limit + 1 are always enough (`execution-ends`)
abbrev pub execute : Task → ℕ → ℕ → Core → Core
execute t zero k c = c
execute t (suc f) k c = elim (eqb (mode c) executing) [ true ↦ execute t f k (t.instruction k c) | false ↦ c ]

-- a reading of core k, which is c, in mode m, with the records that are left
abbrev pub whole_read : ℕ → List Sample → Task → ℕ → Core → Plant → Plant
whole_read zero [] t k c p = p
whole_read zero (r ∷ rs) t k c p = put p k (execute t (suc (t.limit k)) k (read_done (copy (t.reads k) p.shared (read_taken r c).memory) (read_taken r c)))
whole_read (suc m) rs t k c p = p

-- a writing of core k, which is c; the test says that it is in mode 3
abbrev pub whole_write : Bool → Task → ℕ → Core → Plant → Plant
whole_write true t k c p = record { cores = set p.cores k (write_done c); shared = copy (t.writes k) c.memory p.shared }
whole_write false t k c p = p

unfoldable pub whole_one : Task → Taking → Plant → Plant
whole_one t (reading k) p = whole_read (mode (core p k)) (drop (core p k).registers.cycles (t.samples k)) t k (core p k) p
whole_one t (writing k) p = whole_write (eqb (mode (core p k)) waiting_to_write) t k (core p k) p

abbrev pub whole : Task → List Taking → Plant → Plant
whole t [] p = p
whole t (x ∷ xs) p = whole t xs (whole_one t x p)
