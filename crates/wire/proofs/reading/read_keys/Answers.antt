use Rattle.std.proofs.Common.{◌≡◌, ◌⊎◌, ◌+◌, ◌*◌, ◌<◌, ℕ, ◌++◌, ◌∷◌, length, arith}
use Rattle.byteorder.specs.Endian.{big_bytes}
use Rattle.wire.proofs.Parsed.{other_length}
use Rattle.wire.proofs.Taken.{passed_completes}
use Rattle.wire.proofs.reading.read_keys.Goals as goal

pub returns-then-not-may_hold-clause-bytes : goal.returns-then-not-may_hold-clause-bytes
returns-then-not-may_hold-clause-bytes g c =
    let (bytes, took, passed) = c.pass_over.ensures.bytes in
    let class : ℕ = c.args.class in
    let keys : ℕ = c.args.keys in
    let other : length bytes ≡ c.args.count → (length bytes < 8 * keys + 1) ⊎ (8 * keys + 73 < length bytes) = λ e. rw e (c.may_hold.ensures.no c.if-not-may_hold.true) in
    (bytes, took, passed_completes c.pass_over.result (7 ∷ big_bytes 4 class ++ big_bytes 2 keys) bytes c.args.count _ (λ e. other_length class keys bytes (omega (arith, c.ranges.class)) (omega (arith, c.ranges.keys)) (other e)) passed)
