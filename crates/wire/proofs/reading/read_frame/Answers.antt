use Rattle.std.proofs.Common.{ℕ, [], ◌++◌, sym, ap, ◌∙◌, arith, append-nil}
use Rattle.std.proofs.KnownBytes.{Consumes-nil}
use Rattle.byteorder.specs.Endian.{big_bytes}
use Rattle.wire.specs.Frames.{empty, too_long}
use Rattle.wire.specs.Requests.{asked}
use Rattle.wire.proofs.Framed.{frame_gives}
use Rattle.wire.proofs.reading.read_frame.Goals as goal

pub returns-then-length-eq0-clause-bytes : goal.returns-then-length-eq0-clause-bytes
returns-then-length-eq0-clause-bytes g c =
    ([], Consumes-nil _, empty [] (ap (λ n. big_bytes 4 n ++ []) c.if-length-eq0.true))

pub returns-then-length-gt-LONGEST-clause-bytes : goal.returns-then-length-gt-LONGEST-clause-bytes
returns-then-length-gt-LONGEST-clause-bytes g c =
    let n : ℕ = c.args.length in
    ([], Consumes-nil _, too_long n [] (ap (λ t. t) (append-nil (big_bytes 4 n)) ∙ sym (append-nil (big_bytes 4 n))) (omega (arith, c.ranges.length)) (omega (arith, c.if-length-gt-LONGEST.true)))

pub returns-then-length-le-SHORT-clause-bytes : goal.returns-then-length-le-SHORT-clause-bytes
returns-then-length-le-SHORT-clause-bytes g c =
    let n : ℕ = c.args.length in
    let (bytes, took, gives) = c.read_short.ensures.bytes in
    (bytes, took, frame_gives n bytes _ (asked c.read_short.new.args.items c.read_short.result) (omega (arith, c.if-length-eq0.false)) (omega (arith, c.if-length-gt-LONGEST.false)) gives)

pub returns-else-length-le-SHORT-clause-bytes : goal.returns-else-length-le-SHORT-clause-bytes
returns-else-length-le-SHORT-clause-bytes g c =
    let n : ℕ = c.args.length in
    let (bytes, took, gives) = c.read_long.ensures.bytes in
    (bytes, took, frame_gives n bytes _ (asked c.read_long.new.args.items c.read_long.result) (omega (arith, c.if-length-eq0.false)) (omega (arith, c.if-length-gt-LONGEST.false)) gives)
