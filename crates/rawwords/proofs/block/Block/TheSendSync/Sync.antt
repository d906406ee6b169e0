use denote.Param.Send.{IsSync}
use Rattle.rawwords.proofs.Crosses.{block_sync}
use Rattle.rawwords.specs.contracts.block.Block.{the_row}

pub sync : IsSync the_row
sync = block_sync
