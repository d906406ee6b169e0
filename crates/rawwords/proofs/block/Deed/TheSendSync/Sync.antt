use denote.RattleType.{RattleType}
use denote.Param.Send.{IsSync}
use Rattle.std.specs.declared.alloc.Allocator.{Ghosts}
use Rattle.rawwords.proofs.Crosses.{deed_sync}
use Rattle.rawwords.specs.contracts.block.Deed.{the_row}

pub sync : (A : RattleType) (g : Ghosts A.Denot) → IsSync (the_row A g)
sync = deed_sync
