use Rattle.std.proofs.Common.{◌≢◌, ◌∷◌, [], rules, arith}
use Rattle.wire.proofs.Parsed.{long_body}
use Rattle.wire.proofs.Taken.{passed_completes}
use Rattle.wire.proofs.reading.read_body.Goals as goal

pub returns-in_default-clause-bytes : goal.returns-in_default-clause-bytes
returns-in_default-clause-bytes g c =
    let one : c.args.kind ≢ 1 = search rules in
    let seven : c.args.kind ≢ 7 = search rules in
    let (bytes, took, passed) = c.pass_over.ensures.bytes in
    (bytes, took, passed_completes c.pass_over.result (c.args.kind ∷ []) bytes c.args.count _ (λ e. long_body c.args.kind bytes one seven (omega (arith, e, c.requires))) passed)

pub returns-in-1-clause-bytes : goal.returns-in-1-clause-bytes
returns-in-1-clause-bytes g c = rw c.in-1.is (c.read_define.ensures.bytes c.args.args.now.items)
