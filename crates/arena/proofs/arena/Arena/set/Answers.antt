use Rattle.std.proofs.Common.{refl, arith}
use Rattle.std.specs.Int.{w32, w64}
use Rattle.std.proofs.lemmas.Int.{to_z-of_z}
use Rattle.jtypes.specs.Lists.{change}
use Rattle.arena.specs.Held.{with_element}
use Rattle.arena.proofs.Placing.{length-change_element, one_array}
use Rattle.arena.proofs.Words.{has_place, no_place}
use Rattle.arena.proofs.ArrayReads.{is_read, element_read}
use Rattle.arena.proofs.ArrayWrites.{IsWritten, array_written}
use Rattle.arena.proofs.arena.Arena.set.Goals as goal

pub set-requires : goal.set-requires
set-requires c =
    let a = c.requires.1 in
    let r = is_read c.self.inside c.args.self.now c.requires.0 c.args.id a c.self.invariant c.self.view_is c.requires.2 c.requires.3 in
    let h = has_place c.args.id a c.args.index c.in-Some.place (rw (to_z-of_z w32 c.args.index c.ranges.index) at (c.in-Some.ensures c.requires.0 a c.requires.2 c.requires.3)) in
    omega (arith, h.inside, h.is_place, r.within)

written : (c : goal.After-set) → IsWritten c.set.new.self (change (with_element c.args.index c.args.value) c.args.self.now.arrays c.requires.0)
written c =
    let a = c.requires.1 in
    let h = has_place c.args.id a c.args.index c.in-Some.place (rw (to_z-of_z w32 c.args.index c.ranges.index) at (c.in-Some.ensures c.requires.0 a c.requires.2 c.requires.3)) in
    let v = rw (to_z-of_z w64 c.args.value c.ranges.value) at c.cast_unsigned.ensures in
    let e = rw v at c.set.ensures in
    array_written c.self.inside c.args.self.now c.set.new.self c.requires.0 c.args.id c.in-Some.place a c.args.index c.args.value c.self.invariant c.self.view_is c.requires.2 c.requires.3 h c.ranges.value c.requires.4 e

pub invariant_of-self : goal.invariant_of-self
invariant_of-self c = (written c).stored

pub returns-in-Some-clause-answer : goal.returns-in-Some-clause-answer
returns-in-Some-clause-answer c = λ k a at e.
    let r = is_read c.self.inside c.args.self.now k c.args.id a c.self.invariant c.self.view_is at e in
    let h = has_place c.args.id a c.args.index c.in-Some.place (rw (to_z-of_z w32 c.args.index c.ranges.index) at (c.in-Some.ensures k a at e)) in
    let x = element_read c.self.inside.words.items c.args.id a c.args.index c.in-Some.place _ r h refl in
    rw x.item refl

pub returns-in-Some-clause-count : goal.returns-in-Some-clause-count
returns-in-Some-clause-count c =
    rw (written c).same (length-change_element c.args.self.now.arrays c.requires.0 c.args.index c.args.value)

pub returns-in-Some-clause-ok : goal.returns-in-Some-clause-ok
returns-in-Some-clause-ok c = λ k a at e.
    rw (one_array c.args.self.now.arrays k c.requires.0 c.args.id at c.requires.2) (written c).same

pub returns-in-None-clause-answer : goal.returns-in-None-clause-answer
returns-in-None-clause-answer c = λ k a at e.
    rw (no_place c.args.id a c.args.index (rw (to_z-of_z w32 c.args.index c.ranges.index) at (c.in-None.ensures k a at e))) refl
