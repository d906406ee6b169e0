use Rattle.std.proofs.Common.{◌≡◌, length, ap, arith}
use Rattle.rawwords.specs.Row.{Row}
use Rattle.arena.specs.Held.{Held, words_taken}
use Rattle.arena.proofs.ArrayReads.{is_stored_as}
use Rattle.arena.proofs.Words.{length-all_words}
use Rattle.arena.proofs.arena.Arena.reset.Goals as goal

pub returns-clause-words : goal.returns-clause-words
returns-clause-words c =
    let held = c.args.self.now in
    let l : length c.self.inside.words.items ≡ words_taken held.arrays = rw (is_stored_as c.self.inside held c.self.invariant c.self.view_is) (length-all_words held.arrays) in
    let v = ap (λ (h : Held). h.words_left) c.self.view_is in
    let e = ap (λ (r : Row). r.capacity) c.clear.ensures in
    let z = ap (λ (r : Row). length r.items) c.clear.ensures in
    omega (arith, l, v, e, z, c.self.invariant.room)
