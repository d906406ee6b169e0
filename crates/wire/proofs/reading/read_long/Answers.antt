use Rattle.std.proofs.Common.{◌-◌, ◌∷◌, [], ◌++◌, List, ℕ, arith, get_or, sym}
use Rattle.std.proofs.KnownBytes.{Consumes-trans}
use Rattle.wire.specs.Requests.{asked}
use Rattle.wire.proofs.Framed.{one_byte}
use Rattle.wire.proofs.Taken.{completes_behind}
use Rattle.wire.proofs.reading.read_long.Goals as goal

pub returns-in-Ok-clause-bytes : goal.returns-in-Ok-clause-bytes
returns-in-Ok-clause-bytes g c =
    let head : List ℕ = c.read_part.new.buf in
    let (bytes, took, rest) = c.read_body.ensures.bytes in
    (head ++ bytes, Consumes-trans _ _ _ _ _ c.in-Ok.ensures.ok took, completes_behind (asked c.read_body.new.args.items c.read_body.result) [] head (get_or head 0 0 ∷ []) bytes (c.args.length - 1) c.args.length _ (sym (one_byte head c.in-Ok.ensures.long)) (omega (arith, c.in-Ok.ensures.long, c.requires)) rest)
