use Rattle.std.proofs.Common.{◌≡◌, ◌-◌, length, drop, arith}
use Rattle.std.proofs.lemmas.List.{length-drop}
use Rattle.loop_bounds.proofs.Lists.{operands_top, taken_whole}
use Rattle.loop_bounds.proofs.nexts.top.Goals as goal

pub returns : goal.returns
returns c =
    let xs = c.args.operands.now in
    let left = c.saturating_sub-left.result in
    let size : length (drop left xs) ≡ length xs - left = length-drop left xs in
    operands_top xs _ c.args.count left (taken_whole (drop left xs) (length xs - left) (omega (arith, size))) (omega arith)
