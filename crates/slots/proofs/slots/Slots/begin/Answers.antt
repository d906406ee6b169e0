use Rattle.std.proofs.Common.{refl}
use Rattle.slots.proofs.Beginning.{begun_reads}
use Rattle.slots.proofs.slots.Slots.begin.Goals as goal

pub returns-clause-reads : goal.returns-clause-reads
returns-clause-reads c arrays =
    let s = c.args.self.now in
    begun_reads arrays s.words.items s.kinds.items c.clear.new.self.0 0 c.from-self.result c.args.locals c.requires.rows.words c.requires.rows.kinds c.requires.room.0 c.clear.ensures.items refl c.from-self.ensures
