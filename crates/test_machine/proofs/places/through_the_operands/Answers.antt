use Rattle.std.proofs.Common.{[], arith, w32, to_z, of_z}
use Rattle.std.specs.Prelude.{ℤ}
use Rattle.slots.proofs.Arrays.{reads_top}
use Rattle.test_machine.proofs.Begun.{own}
use Rattle.test_machine.proofs.places.through_the_operands.Goals as goal

pub push_int-requires : goal.push_int-requires
push_int-requires c =
    let top = reads_top [] c.begin.new.self own [] [] (c.begin.ensures.reads []) in
    let w0 = c.begin.ensures.rows.words in
    let b0 = c.begin.ensures.base in
    record { room = omega (arith, top, w0, b0) }

pub pop_int-requires : goal.pop_int-requires
pop_int-requires c =
    let i : ℤ = to_z w32 (of_z w32 c.args.n) in ([], own, i, [], [], c.push_int.ensures.reads [] own [] [] (c.begin.ensures.reads []))
