use Rattle.std.proofs.Common.{◌≡◌, ℕ, length, take, arith, length-take-le}
use Rattle.wire.specs.Frames.{cut_length}
use Rattle.wire.proofs.reading.read_length.Goals as goal

pub returns-in-Ok-clause-err : goal.returns-in-Ok-clause-err
returns-in-Ok-clause-err g c =
    let n : ℕ = c.in-Ok.n in
    let o = c.in-Ok.ensures in
    let cut : length (take n c.fill.new.buf) ≡ n = length-take-le n c.fill.new.buf o.within in
    (take n c.fill.new.buf, o.bytes, (cut_length (omega (arith, cut, c.in-Ok.n-test)) (omega (arith, cut, c.if-n-lt4.true)), o.end (omega (arith, c.if-n-lt4.true, o.long))))
