use Rattle.std.proofs.Common.{◌≡◌, ◌≤◌, ◌-◌, length, take}
use Rattle.locals.specs.Written.{written}
use Rattle.locals.proofs.locals.Locals.put.Given as goal

abbrev pub invariant-loop-done : goal.invariant-loop-done
invariant-loop-done l = record {
  within : l.done ≤ length l.types;
  row : l.self.row ≡ written l.initial.self.row l.at (take l.done l.types);
  kept : l.self.kept ≡ l.initial.self.kept;
}

abbrev pub decreases-loop-done : goal.decreases-loop-done
decreases-loop-done l = length l.types - l.done
