use Rattle.std.proofs.Common.{◌≡◌, length, take, drop}
use Rattle.embedded.specs.Numbers.{args_in}
use Rattle.embedded.proofs.Reading.{then_read}
use Rattle.embedded.proofs.args.args_of.Given as goal

abbrev pub invariant-loop-i : goal.invariant-loop-i
invariant-loop-i l = record { row : length l.items ≡ 8; read : args_in l.numbers ≡ then_read (take l.i l.items) (args_in (drop l.i l.numbers)) }
