use Rattle.std.proofs.Common.{ℕ, List, Err, ◌++◌}
use Rattle.std.proofs.KnownBytes.{Consumes-trans}
use Rattle.byteorder.specs.Endian.{big_bytes}
use Rattle.jtypes.specs.declared.types.Arg.{Arg}
use Rattle.wire.specs.Requests.{with_args, next_asked}
use Rattle.wire.proofs.Exact.{exact}
use Rattle.wire.proofs.Framed.{admitted, fault_gives, counts_admitted}
use Rattle.wire.proofs.Streams.{stays_on}
use Rattle.wire.proofs.reading.read_request.Goals as goal

pub returns-in-Ok-clause-bytes : goal.returns-in-Ok-clause-bytes
returns-in-Ok-clause-bytes g c =
    let o = rw c.in-Ok-Some.field-0-is at c.in-Ok-Some.ensures.ok in
    let n : ℕ = c.in-Ok-Some.length in
    let args : List Arg = c.read_frame.new.args.items in
    let (bytes, took, gives) = c.in-Ok.ensures.bytes in
    (big_bytes 4 n ++ bytes, Consumes-trans _ _ _ _ _ o.0 took, admitted c.args.protocol _ (big_bytes 4 n ++ bytes) (with_args args c.in-Ok.request) (next_asked args c.known.result) gives (c.known.ensures args))

pub returns-in-Ok-clause-exact : goal.returns-in-Ok-clause-exact
returns-in-Ok-clause-exact g c =
    let o = rw c.in-Ok-Some.field-0-is at c.in-Ok-Some.ensures.ok in
    let n : ℕ = c.in-Ok-Some.length in
    let args : List Arg = c.read_frame.new.args.items in
    let (bytes, took, gives) = c.in-Ok.ensures.bytes in
    exact c.args.protocol _ _ (big_bytes 4 n ++ bytes) (next_asked args c.known.result) (Consumes-trans _ _ _ _ _ o.0 took)
    (admitted c.args.protocol _ (big_bytes 4 n ++ bytes) (with_args args c.in-Ok.request) (next_asked args c.known.result) gives (c.known.ensures args))

pub returns-in-Ok-clause-counted : goal.returns-in-Ok-clause-counted
returns-in-Ok-clause-counted g c =
    let args : List Arg = c.read_frame.new.args.items in
    counts_admitted c.args.protocol (with_args args c.in-Ok.request) args c.known.result c.args.reader.now c.read_frame.new.reader (c.known.ensures args)
    (stays_on c.args.reader.now c.read_length.new.reader c.read_frame.new.reader c.in-Ok-Some.ensures.counted c.in-Ok.ensures.counted)

pub returns-in-Err-read_frame-clause-bytes : goal.returns-in-Err-read_frame-clause-bytes
returns-in-Err-read_frame-clause-bytes g c =
    let o = rw c.in-Ok-Some.field-0-is at c.in-Ok-Some.ensures.ok in
    let n : ℕ = c.in-Ok-Some.length in
    let (bytes, took, gives) = c.in-Err-read_frame.ensures.bytes in
    (big_bytes 4 n ++ bytes, Consumes-trans _ _ _ _ _ o.0 took, fault_gives c.args.protocol _ (big_bytes 4 n ++ bytes) c.in-Err-read_frame.e gives)

pub returns-in-Err-read_frame-clause-exact : goal.returns-in-Err-read_frame-clause-exact
returns-in-Err-read_frame-clause-exact g c =
    let o = rw c.in-Ok-Some.field-0-is at c.in-Ok-Some.ensures.ok in
    let n : ℕ = c.in-Ok-Some.length in
    let (bytes, took, gives) = c.in-Err-read_frame.ensures.bytes in
    exact c.args.protocol _ _ (big_bytes 4 n ++ bytes) (Err c.in-Err-read_frame.e) (Consumes-trans _ _ _ _ _ o.0 took) (fault_gives c.args.protocol _ (big_bytes 4 n ++ bytes) c.in-Err-read_frame.e gives)

pub returns-in-Err-clause-bytes : goal.returns-in-Err-clause-bytes
returns-in-Err-clause-bytes g c =
    let (bytes, took, gives) = c.in-Err.ensures.err in
    (bytes, took, fault_gives c.args.protocol _ bytes c.in-Err.e gives)

pub returns-in-Err-clause-exact : goal.returns-in-Err-clause-exact
returns-in-Err-clause-exact g c =
    let (bytes, took, gives) = c.in-Err.ensures.err in
    exact c.args.protocol _ _ bytes (Err c.in-Err.e) took (fault_gives c.args.protocol _ bytes c.in-Err.e gives)
