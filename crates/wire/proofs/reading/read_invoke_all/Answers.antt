use Rattle.std.proofs.Common.{◌≡◌, ◌-◌, ℕ, List, [], ◌∷◌, ◌++◌, sym, ap, arith}
use Rattle.std.proofs.KnownBytes.{Consumes-trans}
use Rattle.byteorder.specs.Endian.{big_bytes}
use Rattle.wire.specs.Requests.{asked}
use Rattle.wire.proofs.Taken.{completes_behind}
use Rattle.wire.proofs.reading.read_invoke_all.Goals as goal

pub returns-in-Ok-clause-bytes : goal.returns-in-Ok-clause-bytes
returns-in-Ok-clause-bytes g c =
    let head : List ℕ = c.read_part.new.buf in
    let (bytes, took, rest) = c.read_keys.ensures.bytes in
    let class : ℕ = c.class_and_count-class.result.0 in
    let keys : ℕ = c.class_and_count-class.result.1 in
    let is : 7 ∷ big_bytes 4 class ++ big_bytes 2 keys ≡ 7 ∷ head = ap (λ t. 7 ∷ t) (sym c.class_and_count-class.ensures.bytes) in
    (head ++ bytes, Consumes-trans _ _ _ _ _ c.in-Ok.ensures.ok took, completes_behind (asked c.read_keys.new.args.items c.read_keys.result) (7 ∷ []) head (7 ∷ big_bytes 4 class ++ big_bytes 2 keys) bytes (c.args.count - 6) c.args.count _ is (omega (arith, c.in-Ok.ensures.long, c.if-count-lt7.false)) rest)
