-- What two instructions touch, computed from specs/Operands (`examples` of proofs/Examples): to be read beside document 01's table of commands; and which
-- fault it is where several tests hold, computed from specs/Faults (`fault-examples`): beside its order of faults.
use Rattle.std.specs.Prelude.{ℕ, ◌≡◌, List, [], ◌∷◌, replicate}
use Rattle.std.proofs.Math.Option.{some}
use Rattle.verdict.specs.Numbers.{index_bit, limit_bit, address_bit, call_bit}
use Rattle.protocol.specs.Modes.{executing}
use Rattle.protocol.specs.State.{Core, cleared}
use Rattle.operands.specs.Operands.{touching, data_footprint}
use Rattle.operands.specs.Faults.{fault_order, tests_at}

-- a core in mode 2, all other registers 0, with this data; and one inside a call, whose data offset is 10
abbrev pub core_with : List ℕ → Core
core_with d = record { registers = cleared executing 0; stack = record { places = replicate 16 0; offsets = replicate 16 0 }; memory = d }

abbrev pub called_at10 : List ℕ → Core
called_at10 d = record {
  registers = record { mode = executing; counter = 0; offset = 10; depth = 1; count = 0; exchange = 0; cycles = 0; flags = 0; time = 0 };
  stack = record { places = replicate 16 0; offsets = replicate 16 0 };
  memory = d;
}

-- ADD INT: to 6, a 2, b 4; then RETURN
abbrev pub addition : List ℕ
addition = 16 ∷ 3 ∷ 6 ∷ 0 ∷ 2 ∷ 0 ∷ 4 ∷ 0 ∷ 0 ∷ []

-- AURD: variable 0, array 8, index at 2, elements of 2 bytes, 4 of them; then RETURN
abbrev pub element : List ℕ
element = 8 ∷ 0 ∷ 0 ∷ 8 ∷ 0 ∷ 2 ∷ 0 ∷ 2 ∷ 4 ∷ 0 ∷ 0 ∷ []

-- eighteen bytes of data with this index at 2
abbrev pub with_index : ℕ → List ℕ
with_index i = 0 ∷ 0 ∷ i ∷ 0 ∷ replicate 14 0

-- under an instruction limit of 100
pub record Examples : Type 0 where
  -- addresses below 32,768 are added to the data offset: 12 and 14 are read, two bytes each, and 16 is written
  pub added : data_footprint 100 addition (called_at10 (replicate 18 0)) ≡ touching (12 ∷ 13 ∷ 14 ∷ 15 ∷ []) (16 ∷ 17 ∷ [])
  -- with one byte of data less, the result is beyond the data: a fault, which writes nothing
  pub beyond-data : data_footprint 100 addition (called_at10 (replicate 17 0)) ≡ touching (12 ∷ 13 ∷ 14 ∷ 15 ∷ []) []
  -- the index, and of the array element 3 alone, from 8 + 3 * 2 on
  pub chosen : data_footprint 100 element (core_with (with_index 3)) ≡ touching (2 ∷ 3 ∷ 14 ∷ 15 ∷ []) (0 ∷ 1 ∷ [])
  -- there is no element 4: a fault, which writes nothing
  pub index-fault : data_footprint 100 element (core_with (with_index 4)) ≡ touching (2 ∷ 3 ∷ 16 ∷ 17 ∷ []) []

-- a core that is sixteen calls deep, with 99 instructions counted
abbrev pub called_deep : List ℕ → Core
called_deep d = record {
  registers = record { mode = executing; counter = 0; offset = 0; depth = 16; count = 99; exchange = 0; cycles = 0; flags = 0; time = 0 };
  stack = record { places = replicate 16 0; offsets = replicate 16 0 };
  memory = d;
}

-- CALB: instance 40, to the RETURN that follows
abbrev pub deep_call : List ℕ
deep_call = 4 ∷ 40 ∷ 0 ∷ 5 ∷ 0 ∷ 0 ∷ []

-- AURD as above, but variable 40
abbrev pub far_element : List ℕ
far_element = 8 ∷ 40 ∷ 0 ∷ 8 ∷ 0 ∷ 2 ∷ 0 ∷ 2 ∷ 4 ∷ 0 ∷ 0 ∷ []

-- eighteen bytes of data each
pub record FaultExamples : Type 0 where
  -- the limit, a seventeenth call, an instance beyond the data
  pub limit-first : fault_order (tests_at 99 deep_call (called_deep (replicate 18 0))) ≡ some limit_bit
  -- the call and the instance
  pub call-before-instance : fault_order (tests_at 100 deep_call (called_deep (replicate 18 0))) ≡ some call_bit
  -- the variable beyond the data, no element 5, and its place beyond the data
  pub address-before-index : fault_order (tests_at 100 far_element (core_with (with_index 5))) ≡ some address_bit
  -- the element and its place
  pub index-before-element : fault_order (tests_at 100 element (core_with (with_index 5))) ≡ some index_bit
