-- The files of specs/Files by computation: they are accepted, their traces are sound, and what their steps come to.
-- In order: what computes; a core of the ring; the listing; the ring; the open ring. Not here: orders of whole cycles
-- of the ring (`Ring`). Assumes nothing.
use mathlib.Core.Path.{◌≡◌, refl, sym, ◌∙◌}
use mathlib.Core.Logic.{inl, inr}
use mathlib.Core.List.{[], ◌∷◌}
use Prim.Native.Nat.{ℕ, zero, suc}
use lib.Dec.{T}
use lib.ListN.{replicate}
use Rattle.verdict.specs.Verdict.{pick, next, unless, first}
use Rattle.memory.specs.Memory.{part, value_le, read_le, bytes_le, splice}
use Rattle.values.specs.Types.{width_of, takes}
use Rattle.values.specs.Values.{typed, pattern_of, stored}
use Rattle.values.specs.Commands.{on_bits, NOT, result, result_type, result_width, second_width, command, zero_divisor, beyond, performed}
use Rattle.protocol.specs.Registers.{warm, read_acquired, byte_copied, read_released, write_acquired, write_released, advanced, cycle_ended}
use Rattle.protocol.specs.State.{Core, State}
use Rattle.protocol.specs.Step.{read_taken, read_next, read_done, write_taken, write_next, write_done, step, taking_of}
use Rattle.protocol.specs.Whole.{whole_one}
use Rattle.protocol.specs.Instruction.{applied, limited, instruction_by}
use Rattle.protocol.specs.Variables.{reads_it, writes_it}
use Rattle.protocol.specs.Laws.{Between}
use Rattle.protocol.specs.Cycles.{reads_from, line_between, is_one_way, no_ring, cycle}
use Rattle.code.specs.Flow.{kind_at, target_at}
use Rattle.code.specs.Commands.{row_of, length_of}
use Rattle.code.specs.Instructions.{typed_at, instruction_at, instruction_length}
use Rattle.code.specs.Code.{instruction_ok, instruction_refusal, laid, start_from, is_start, all_from, target_ok, last_from, judge_code_for}
use Rattle.processor.specs.Processor.{place_of, data_part, executed}
use Rattle.records.specs.Records.{core_ok, core_refusal, has_one_writer, place_ok, part_ok, parts_ok, variable_ok, variable_refusal, meets, meets_shared, meets_in, overlap, pair_refusal, overlap_refusal}
use Rattle.taskset.specs.Judge.{has_mark, head_refusal, variables_refusal, code_place, section_refusal, start_place, starts_refusal, codes_refusal, judge_for, judge}
use Rattle.taskset.specs.Trace.{trace_place, trace_refusal}
use Rattle.taskset.specs.Task.{listed, sizes_of, variables_of, sample_at, samples_of}
use Rattle.taskset.specs.Starts.{with_pairs, start_data, writer_of, with_written, start_shared}
use Rattle.states.specs.Task.{task_of}
use Rattle.taskset.proofs.Blank.{blank-trace}
use Rattle.cycles.specs.Files.{listing_file, listing_trace, listing_steps, ring_file, open_file, ring_trace, ring_steps, open_steps}
use Rattle.cycles.specs.Shown.{after_steps, Listing, FirstCycle}

-- ---- what computes, on an `unfolding` line

-- the files, traces and orders
files : Unit {0}
unfolding listing_file listing_trace listing_steps ring_file open_file ring_trace ring_steps open_steps
files = tt

-- a file and a trace are judged
judging : Unit {0}
unfolding files pick next unless first part value_le read_le takes row_of kind_at target_at length_of typed_at instruction_at instruction_length instruction_ok
    instruction_refusal laid start_from is_start all_from target_ok last_from judge_code_for reads_it writes_it core_ok core_refusal has_one_writer place_ok part_ok parts_ok
    variable_ok variable_refusal meets meets_shared meets_in overlap pair_refusal overlap_refusal has_mark head_refusal variables_refusal code_place section_refusal
    start_place starts_refusal codes_refusal judge_for trace_place trace_refusal
judging = tt

-- the cores move, with NOT and RETURN for instructions
unfoldable pub steps-compute : Unit {0}
unfolding files pick part value_le read_le bytes_le splice listed sizes_of variables_of has_mark start_place with_pairs start_data writer_of with_written start_shared
    sample_at samples_of code_place trace_place reads_it writes_it row_of kind_at target_at length_of typed_at instruction_at instruction_length width_of typed pattern_of
    stored on_bits NOT result result_type result_width second_width command zero_divisor beyond performed place_of data_part executed applied limited instruction_by
    warm advanced cycle_ended read_acquired byte_copied read_released write_acquired write_released read_taken read_next read_done write_taken write_next write_done step
    taking_of whole_one cycle task_of
steps-compute = tt

-- ---- a core of the ring

-- after its cycle, with what it read and what it wrote
abbrev pub ring_core : ℕ → ℕ → Core
ring_core input output = record {
  registers = record { mode = 0; counter = 6; offset = 0; depth = 0; count = 2; exchange = 0; cycles = 1; flags = 0; time = 0 };
  stack = record { places = replicate 16 0; offsets = replicate 16 0 };
  memory = input ∷ output ∷ [];
}

-- ---- the listing

listing-accepted : judge listing_file ≡ 0
unfolding judging
listing-accepted = refl

listing-sound : trace_refusal listing_file listing_trace ≡ 0
unfolding judging
listing-sound = refl

listing-between : Between (after_steps listing_file listing_trace listing_steps)
unfolding steps-compute
listing-between zero = inl refl
listing-between (suc k) = inr refl

pub listing-shown : Listing
unfolding steps-compute
listing-shown = record { accepted = listing-accepted; sound = listing-sound; between = listing-between; cycles-done = refl; flags = refl; counted = refl; taken = refl }

-- with no trace
blank-between : Between (after_steps listing_file [] listing_steps)
unfolding steps-compute
blank-between zero = inl refl
blank-between (suc k) = inr refl

pub first-cycle-shown : FirstCycle
unfolding steps-compute
first-cycle-shown = record { sound = (blank-trace listing_file).sound; between = blank-between; cycles-done = refl; taken = refl; no_second = refl }

-- ---- the ring

pub ring-accepted : judge ring_file ≡ 0
unfolding judging
ring-accepted = refl

pub ring-sound : trace_refusal ring_file ring_trace ≡ 0
unfolding judging
ring-sound = refl

pub ring-one-way : T (is_one_way (reads_from (variables_of ring_file)))
unfolding steps-compute
ring-one-way = tt

-- ---- the open ring

pub open-accepted : judge open_file ≡ 0
unfolding judging
open-accepted = refl

pub open-sound : trace_refusal open_file ring_trace ≡ 0
unfolding judging
open-sound = refl

pub open-one-way : T (is_one_way (reads_from (variables_of open_file)))
unfolding steps-compute
open-one-way = tt

pub open-ringless : T (no_ring (line_between (variables_of open_file)))
unfolding steps-compute
open-ringless = tt

-- cores 0 and 1 have written 1 to shared memory; core 2's place 1 is no variable
open_end : State
open_end = record { plant = record { cores = ring_core 0 1 ∷ ring_core 0 1 ∷ ring_core 0 1 ∷ []; shared = 1 ∷ 1 ∷ replicate 1022 0 }; semaphore = record { holder = 0; line = [] } }

open-mixed : after_steps open_file ring_trace ring_steps ≡ open_end
unfolding steps-compute open_end
open-mixed = refl

open-in-order : after_steps open_file ring_trace open_steps ≡ open_end
unfolding steps-compute open_end
open-in-order = refl

pub open-one-by-one : after_steps open_file ring_trace open_steps ≡ after_steps open_file ring_trace ring_steps
open-one-by-one = open-in-order ∙ sym open-mixed

pub open-between : Between (after_steps open_file ring_trace ring_steps)
unfolding open_end
open-between zero = inl (rw open-mixed)
open-between (suc zero) = inl (rw open-mixed)
open-between (suc (suc zero)) = inl (rw open-mixed)
open-between (suc (suc (suc k))) = inr (rw open-mixed)
