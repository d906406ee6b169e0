use denote.Param.Send.{IsSend}
use Rattle.rawwords.proofs.Crosses.{block_send}
use Rattle.rawwords.specs.contracts.block.Block.{the_row}

pub send : IsSend the_row
send = block_send
