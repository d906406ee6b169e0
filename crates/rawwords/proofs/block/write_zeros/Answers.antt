use Rattle.std.proofs.Common.{◌≡◌, ◌+◌, ◌-◌, List, set, Some, ap, ◌∙◌, arith}
use Rattle.std.specs.Prelude.{Option, ℕ}
use Rattle.rawwords.proofs.Written.{zeros_more}
use Rattle.rawwords.proofs.block.write_zeros.Goals as goal

pub loop-place-preserved : goal.loop-place-preserved
loop-place-preserved c =
    let i = c.loop-place.place in
    let m = i - c.args.from in
    let e : i + 1 - c.args.from ≡ m + 1 = omega arith in
    let z = zeros_more c.args.block.now.places c.args.from m i (omega arith) (omega arith) in
    record {
      at = c.write.ensures.0 ∙ c.loop-place.invariant.at;
      places = rw e (c.write.ensures.1 ∙ ap (λ (ps : List (Option ℕ)). set ps i (Some 0)) c.loop-place.invariant.places ∙ z);
    }
