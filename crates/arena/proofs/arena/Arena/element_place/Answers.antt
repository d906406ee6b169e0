use Rattle.std.proofs.Common.{◌<◌, ◌^◌, ◌∙◌, sym, ap, length, arith}
use Rattle.std.specs.Int.{w32}
use Rattle.std.proofs.lemmas.Int.{to_z-of_z}
use Rattle.arena.specs.Stored.{length_in}
use Rattle.arena.proofs.Words.{place_inside, place_outside}
use Rattle.arena.proofs.ArrayReads.{is_read, some_read}
use Rattle.arena.proofs.arena.Arena.element_place.Goals as goal

pub get-requires : goal.get-requires
get-requires c =
    let r = some_read c.self.inside c.args.self.now c.args.id c.self.invariant c.self.view_is c.requires in
    omega (arith, r.read.within)

pub overflow_add-result-then-index-length_in : goal.overflow_add-result-then-index-length_in
overflow_add-result-then-index-length_in c =
    let r = some_read c.self.inside c.args.self.now c.args.id c.self.invariant c.self.view_is c.requires in
    let n = c.length_in.ensures ∙ ap length_in c.get.ensures ∙ r.read.count in
    record { fits = omega (arith, n, r.read.within, c.self.invariant.room, c.self.invariant.few) }

pub returns-then-index-length_in : goal.returns-then-index-length_in
returns-then-index-length_in c = λ k a at e.
    let r = is_read c.self.inside c.args.self.now k c.args.id a c.self.invariant c.self.view_is at e in
    let n = c.length_in.ensures ∙ ap length_in c.get.ensures ∙ r.count in
    let u = rw (to_z-of_z w32 c.args.index c.ranges.index) at c.unsigned-index.ensures in
    let l : length a.items < 2 ^ 32 = omega (arith, r.within, c.self.invariant.room, c.self.invariant.few) in
    rw u (sym (place_inside c.args.id a c.args.index c.ranges.index (omega (arith, n, u)) l))

pub returns-else-index-length_in : goal.returns-else-index-length_in
returns-else-index-length_in c = λ k a at e.
    let r = is_read c.self.inside c.args.self.now k c.args.id a c.self.invariant c.self.view_is at e in
    let n = c.length_in.ensures ∙ ap length_in c.get.ensures ∙ r.count in
    let u = rw (to_z-of_z w32 c.args.index c.ranges.index) at c.unsigned-index.ensures in
    sym (place_outside c.args.id a c.args.index (omega (arith, n, u)))
