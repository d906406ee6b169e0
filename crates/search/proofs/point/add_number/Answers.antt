use Rattle.search.proofs.Numbering.{numbered}
use Rattle.search.proofs.point.add_number.Goals as goal

pub returns : goal.returns
returns c points size are =
    numbered c.args.numbers.now c.insert.new.self points c.args.k.now c.in_ok-key.key c.args.number c.in_ok-key.ensures size c.in_ok-insert.ensures.updates.0 are
