use Rattle.std.proofs.Common.{◌-◌, ◌≤◌, suc, length, sym, ◌∙◌, arith}
use Rattle.decode.proofs.Keys.{rise_at_end}
use Rattle.decode.proofs.switches.keys_rise.Goals as goal

pub returns : goal.returns
returns c =
    let h = c.loop-i.invariant in
    let end : length c.args.cases.now ≤ suc (c.loop-i.i - 1) = omega (arith, h.0, c.loop-i-test.false) in
    sym (h.1 ∙ rise_at_end c.args.cases.now (c.loop-i.i - 1) end)
