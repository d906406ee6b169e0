use Rattle.std.proofs.Common.{◌∙◌, ap, arith}
use Rattle.arena.specs.Stored.{length_in}
use Rattle.arena.proofs.ArrayReads.{is_read, some_read}
use Rattle.arena.proofs.arena.Arena.length.Goals as goal

pub get-requires : goal.get-requires
get-requires c =
    let r = some_read c.self.inside c.args.self.now c.args.id c.self.invariant c.self.view_is c.requires in
    omega (arith, r.read.within)

pub overflow_cast-result : goal.overflow_cast-result
overflow_cast-result c =
    let r = some_read c.self.inside c.args.self.now c.args.id c.self.invariant c.self.view_is c.requires in
    let n = c.length_in.ensures ∙ ap length_in c.get.ensures ∙ r.read.count in
    record { fits = omega (arith, n, r.read.within, c.self.invariant.room, c.self.invariant.few) }

pub returns-clause-count : goal.returns-clause-count
returns-clause-count c = λ k a at e.
    let r = is_read c.self.inside c.args.self.now k c.args.id a c.self.invariant c.self.view_is at e in
    c.length_in.ensures ∙ ap length_in c.get.ensures ∙ r.count

pub returns-clause-below : goal.returns-clause-below
returns-clause-below c =
    let r = some_read c.self.inside c.args.self.now c.args.id c.self.invariant c.self.view_is c.requires in
    let n = c.length_in.ensures ∙ ap length_in c.get.ensures ∙ r.read.count in
    omega (arith, n, r.taken)
