use Rattle.std.proofs.Common.{◌+◌, ◌≤◌, length, drop, ap, ◌∙◌, arith, refl}
use Rattle.rawwords.specs.Row.{Row}
use Rattle.rawwords.proofs.Written.{length-words_in, length-appended, words_appended, written_appended}
use Rattle.rawwords.proofs.words.RawWords.append_zeros.Goals as goal

fits : (c : goal.After-self-1) → c.self.inside.len + c.args.n ≤ c.self.inside.capacity
fits c =
    let k = c.self.invariant in
    let e = ap (λ (r : Row). length r.items) c.self.view_is in
    let f = ap (λ (r : Row). r.capacity) c.self.view_is in
    let l = length-words_in c.self.inside.block.places c.self.inside.len (omega (arith, k.few, k.places)) in
    omega (arith, e, f, l, c.requires)

pub invariant_of-self : goal.invariant_of-self
invariant_of-self c =
    let k = c.self.invariant in
    let places = c.self.inside.block.places in
    let n = c.self.inside.len in
    let e = c.write_zeros.ensures.places in
    let w = written_appended places (drop (n + c.args.n) places) n c.args.n (omega (arith, k.few, k.places)) k.written in
    record {
      narrow = k.narrow;
      few = fits c;
      places = ap length e ∙ length-appended places n c.args.n (omega (arith, fits c, k.places)) ∙ k.places;
      at = rw c.write_zeros.ensures.at k.at;
      count = k.count;
      alloc = k.alloc;
      written = rw e w;
    }

pub returns : goal.returns
returns c =
    let k = c.self.invariant in
    let places = c.self.inside.block.places in
    let n = c.self.inside.len in
    let w = words_appended places (drop (n + c.args.n) places) n c.args.n (omega (arith, k.few, k.places)) in
    rw (c.write_zeros.ensures.places, w, ← c.self.view_is) refl
