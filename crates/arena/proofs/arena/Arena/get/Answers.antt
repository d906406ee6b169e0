use Rattle.std.proofs.Common.{◌≡◌, ◌∙◌, refl, arith, rules, FitsSigned}
use Rattle.std.specs.Int.{w32, w64, cast_signed}
use Rattle.std.proofs.lemmas.Int.{to_z-of_z}
use Rattle.arena.proofs.Words.{has_place, no_place}
use Rattle.arena.proofs.ArrayReads.{is_read, some_read, element_read}
use Rattle.arena.proofs.arena.Arena.get.Goals as goal

pub get-requires : goal.get-requires
get-requires c =
    let r = some_read c.self.inside c.args.self.now c.args.id c.self.invariant c.self.view_is c.requires in
    let h = has_place c.args.id r.array c.args.index c.in-Some.place (rw (to_z-of_z w32 c.args.index c.ranges.index) at (c.in-Some.ensures r.number r.array r.at r.is)) in
    omega (arith, h.inside, h.is_place, r.read.within)

pub returns-in-Some-clause-item : goal.returns-in-Some-clause-item
returns-in-Some-clause-item c = λ k a at e.
    let r = is_read c.self.inside c.args.self.now k c.args.id a c.self.invariant c.self.view_is at e in
    let h = has_place c.args.id a c.args.index c.in-Some.place (rw (to_z-of_z w32 c.args.index c.ranges.index) at (c.in-Some.ensures k a at e)) in
    let x = element_read c.self.inside.words.items c.args.id a c.args.index c.in-Some.place c.get.result r h c.get.ensures in
    let f : FitsSigned w64 c.cast_signed.result = search rules in
    let z = to_z-of_z w64 c.cast_signed.result f ∙ c.cast_signed.ensures in
    rw (z, x.item) refl

pub returns-in-Some-clause-element : goal.returns-in-Some-clause-element
returns-in-Some-clause-element c = λ k a at e n is.
    let r = is_read c.self.inside c.args.self.now k c.args.id a c.self.invariant c.self.view_is at e in
    let h = has_place c.args.id a c.args.index c.in-Some.place (rw (to_z-of_z w32 c.args.index c.ranges.index) at (c.in-Some.ensures k a at e)) in
    let x = element_read c.self.inside.words.items c.args.id a c.args.index c.in-Some.place c.get.result r h c.get.ensures in
    let f : FitsSigned w64 c.cast_signed.result = search rules in
    let z = to_z-of_z w64 c.cast_signed.result f ∙ c.cast_signed.ensures in
    let y : n ≡ cast_signed w64 c.get.result = cc in
    rw y x.fits

pub returns-in-None-clause-item : goal.returns-in-None-clause-item
returns-in-None-clause-item c = λ k a at e.
    rw (no_place c.args.id a c.args.index (rw (to_z-of_z w32 c.args.index c.ranges.index) at (c.in-None.ensures k a at e))) refl
