use Rattle.std.proofs.Common.{take}
use Rattle.locals.specs.Held.{AreFitting}
use Rattle.locals.proofs.pages.own_numbers.Given as goal

abbrev pub invariant-loop-i : goal.invariant-loop-i
invariant-loop-i l = AreFitting (take l.i l.pages) l.fitting.items
