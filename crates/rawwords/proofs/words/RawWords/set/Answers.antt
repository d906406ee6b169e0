use Rattle.std.proofs.Common.{◌≡◌, set, length, Some, ap, ◌∙◌, refl}
use Rattle.std.proofs.lemmas.List.{length-set}
use Rattle.rawwords.proofs.Written.{words_set, written_set}
use Rattle.rawwords.proofs.words.RawWords.set.Goals as goal

pub invariant_of-self : goal.invariant_of-self
invariant_of-self c =
    let k = c.self.invariant in
    let places = c.self.inside.block.places in
    let e : c.write.new.self.places ≡ set places c.args.place (Some c.args.word) = c.write.ensures.1 in
    record {
      narrow = k.narrow;
      few = k.few;
      places = ap length e ∙ length-set places c.args.place (Some c.args.word) ∙ k.places;
      at = rw c.write.ensures.0 k.at;
      count = k.count;
      alloc = k.alloc;
      written = rw e (written_set places c.self.inside.len c.args.place c.args.word k.written);
    }

pub returns : goal.returns
returns c =
    let places = c.self.inside.block.places in
    let e : c.write.new.self.places ≡ set places c.args.place (Some c.args.word) = c.write.ensures.1 in
    let w = words_set places c.self.inside.len c.args.place c.args.word in
    rw (e, w, ← c.self.view_is) refl
