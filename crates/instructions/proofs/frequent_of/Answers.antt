-- `instructions::frequent_of` meets its contract: the code and the stretch that are lent are those of core k, and the others stay. Assumes nothing.
use mathlib.Core.Path.{refl}
use native.Mathlib.Omega.{arith}
use Rattle.steps.proofs.Given.{at-instruction, code_inside, stretch-inside, executable-in, command-in, instructs-in}
use Rattle.instructions.proofs.frequent_of.Goals as goal

pub overflow_add-e : goal.overflow_add-e
overflow_add-e c = record { fits = omega (arith, code_inside (at-instruction c.requires.0.ready)) }

pub overflow_add-f : goal.overflow_add-f
overflow_add-f c = let given = c.requires.0 in record { fits = omega (arith, stretch-inside _ given.ready given.buffer) }

pub slice_bounds-execute_frequent-end : goal.slice_bounds-execute_frequent-end
slice_bounds-execute_frequent-end c = omega (arith, code_inside (at-instruction c.requires.0.ready))

pub slice_bounds-execute_frequent-end-2 : goal.slice_bounds-execute_frequent-end-2
slice_bounds-execute_frequent-end-2 c = let given = c.requires.0 in omega (arith, stretch-inside _ given.ready given.buffer)

pub execute_frequent-requires : goal.execute_frequent-requires
execute_frequent-requires c = let given = c.requires in
    (executable-in _ given.0.ready given.0.buffer _ refl _ refl, command-in _ given.0.ready given.0.buffer _ refl _ refl given.0.command, given.1)

pub returns : goal.returns
returns c = let given = c.requires.0 in
    let done = c.execute_frequent in
    instructs-in _ given.ready given.buffer _ refl _ refl given.executes given.below-limit _ _ done.ensures done.auto.d
