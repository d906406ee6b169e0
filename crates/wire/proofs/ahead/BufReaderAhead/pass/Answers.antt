use Rattle.wire.proofs.Hand.{passed}
use Rattle.wire.proofs.ahead.BufReaderAhead.pass.Goals as goal

pub returns : goal.returns
returns g c = passed g.R.Read.remaining c.args.self.now c.consume.new.self c.args.count c.requires c.consume.ensures.bytes
