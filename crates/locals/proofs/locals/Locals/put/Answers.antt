use Rattle.std.proofs.Common.{◌≡◌, ◌+◌, ◌-◌, length, take, drop, refl, sym, ap, ◌∙◌, arith}
use Rattle.std.proofs.lemmas.List.{length-drop, length-take}
use Rattle.std.proofs.Math.Seq.{take-length}
use Rattle.locals.specs.Written.{written}
use Rattle.locals.proofs.Writing.{written_empty, written_on, length-written}
use Rattle.locals.proofs.locals.Locals.put.Goals as goal

pub loop-done-init : goal.loop-done-init
loop-done-init c = record { within = omega arith; row = sym (written_empty c.args.self.now.row c.args.at); kept = refl }

pub put_front-requires-clause-there : goal.put_front-requires-clause-there
put_front-requires-clause-there c =
    let types = c.args.types.now in
    let done = c.loop-done.done in
    let same : length c.loop-done.self.row ≡ length c.args.self.now.row = ap (λ l. length l) c.loop-done.invariant.row ∙ length-written c.args.self.now.row (take done types) c.args.at in
    omega (arith, same, c.requires.there, c.loop-done.invariant.within, length-drop done types, length-take (length types - done) (drop done types))

pub loop-done-preserved : goal.loop-done-preserved
loop-done-preserved c =
    let types = c.args.types.now in
    let row = c.args.self.now.row in
    let done = c.loop-done.done in
    let n = c.in_ok-done.field-0 in
    let behind : take (length types - done) (drop done types) ≡ drop done types = ap (λ m. take m (drop done types)) (sym (length-drop done types)) ∙ take-length (drop done types) in
    record {
      within = omega (arith, c.in_ok-done.ensures.some.1, length-drop done types, length-take (length types - done) (drop done types), c.loop-done.invariant.within);
      row = c.in_ok-done.ensures.ok ∙ ap (λ r. written r (c.args.at + done) (take n (take (length types - done) (drop done types)))) c.loop-done.invariant.row
          ∙ ap (λ ts. written (written row c.args.at (take done types)) (c.args.at + done) (take n ts)) behind ∙ written_on row types c.args.at done n c.loop-done.invariant.within;
      kept = c.in_ok-done.ensures.kept ∙ c.loop-done.invariant.kept;
    }
