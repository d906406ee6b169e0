use denote.RattleType.{RattleType}
use denote.Param.Send.{IsSend, Frees}
use Rattle.std.specs.declared.alloc.Allocator.{Ghosts}
use Rattle.rawwords.proofs.Crosses.{deed_send}
use Rattle.rawwords.specs.contracts.block.Deed.{the_row}

pub send : (A : RattleType) (g : Ghosts A.Denot) → IsSend A → Frees g g.dealloc_token → IsSend (the_row A g)
send A g s = deed_send A g
