use Rattle.std.proofs.Common.{◌≡◌, ℕ, ◌≤◌, ◌++◌, arith, length, take, drop, ◌∙◌, length-take-le}
use Rattle.std.proofs.lemmas.List.{length-append, length-drop}
use Rattle.std.proofs.KnownBytes.{Consumes-trans}
use Rattle.wire.proofs.Taken.{cut_later, cut_passed}
use Rattle.wire.proofs.reading.pass_over.Goals as goal

pub loop-left-preserved : goal.loop-left-preserved
loop-left-preserved g c =
    let i = c.loop-left.invariant in
    let size : ℕ = c.min-size.result in
    let fits : size ≤ 512 = omega (arith, c.min-size.ensures) in
    let long : length c.read_part.new.buf ≡ size = c.in-Ok.ensures.long ∙ length-take-le size c.loop-left.buf (omega (arith, i.row)) in
    record {
      row = omega (arith, length-append c.read_part.new.buf (drop size c.loop-left.buf), length-drop size c.loop-left.buf, long, i.row);
      gone = i.gone ++ c.read_part.new.buf;
      passed = omega (arith, length-append i.gone c.read_part.new.buf, long, i.passed, c.min-size.ensures);
      took = Consumes-trans _ _ _ _ _ i.took c.in-Ok.ensures.ok;
      kept = (c.in-Ok.ensures.counted.0 ∙ i.kept.0, c.in-Ok.ensures.counted.1 ∙ i.kept.1);
    }

pub returns-in-Err-clause-bytes : goal.returns-in-Err-clause-bytes
returns-in-Err-clause-bytes g c =
    let i = c.loop-left.invariant in
    let size : ℕ = c.min-size.result in
    let fits : size ≤ 512 = omega (arith, c.min-size.ensures) in
    let long : length (take size c.loop-left.buf) ≡ size = length-take-le size c.loop-left.buf (omega (arith, i.row)) in
    let (bytes, took, cut) = c.in-Err.ensures.err in
    let whole = i.gone ++ bytes in
    (whole, Consumes-trans _ _ _ _ _ i.took took, cut_passed c.in-Err.e whole c.args.count _ (cut_later c.in-Err.e i.gone bytes _ c.args.count _ (omega (arith, long, i.passed, c.min-size.ensures)) cut))
