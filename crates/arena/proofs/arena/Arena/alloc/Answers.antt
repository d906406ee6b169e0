use Rattle.std.proofs.Common.{◌≡◌, ◌∷◌, [], ◌++◌, ◌∙◌, ap, length, arith, add-one}
use Rattle.jtypes.specs.Values.{new_array}
use Rattle.arena.specs.Held.{words_taken}
use Rattle.arena.proofs.Placing.{array_added}
use Rattle.arena.proofs.Words.{length-all_words}
use Rattle.arena.proofs.ArrayReads.{is_stored_as}
use Rattle.arena.proofs.ArrayWrites.{IsWritten, array_pushed}
use Rattle.arena.proofs.arena.Arena.alloc.Goals as goal

written : (c : goal.After-set) → IsWritten c.set.new.self (c.args.self.now.arrays ++ new_array c.args.kind c.args.n ∷ [])
written c =
    let e = rw (c.append_zeros.ensures, c.len-id.ensures.count, c.header_of.ensures, add-one) at c.set.ensures in
    array_pushed c.self.inside c.args.self.now c.set.new.self c.args.kind c.args.n c.self.invariant c.self.view_is e (omega (arith, c.self.invariant.room))

place : (c : goal.After-set) → c.len-id.result ≡ words_taken c.args.self.now.arrays
place c = c.len-id.ensures.count ∙ ap length (is_stored_as c.self.inside c.args.self.now c.self.invariant c.self.view_is) ∙ length-all_words c.args.self.now.arrays

pub invariant_of-self : goal.invariant_of-self
invariant_of-self c = (written c).stored

pub returns-clause-id : goal.returns-clause-id
returns-clause-id c =
    rw ((written c).same, place c) (array_added c.args.self.now.arrays (new_array c.args.kind c.args.n)).place

pub returns-clause-stands : goal.returns-clause-stands
returns-clause-stands c =
    rw ((written c).same, place c) (array_added c.args.self.now.arrays (new_array c.args.kind c.args.n))

pub returns-clause-arrays : goal.returns-clause-arrays
returns-clause-arrays c = (written c).same
