use Rattle.std.proofs.Common.{length, ap, arith}
use Rattle.rawwords.specs.Row.{Row}
use Rattle.rawwords.proofs.Written.{word_there, length-words_in}
use Rattle.rawwords.proofs.words.RawWords.get.Goals as goal

pub word-requires : goal.word-requires
word-requires c =
    let k = c.self.invariant in
    let places = c.self.inside.block.places in
    let n = c.self.inside.len in
    let e = ap (λ (r : Row). length r.items) c.self.view_is in
    let l = length-words_in places n (omega (arith, k.few, k.places)) in
    ((_, word_there places n c.args.place k.written (omega (arith, k.few, k.places)) (omega (arith, e, l))), omega (arith, k.places, k.narrow))
