use Rattle.std.proofs.Common.{◌≡◌, ◌++◌, drop}
use Rattle.frames.proofs.Rows.{locals_of_types}
use Rattle.frames.proofs.frame.as_locals.Given as goal

abbrev pub invariant-loop-t : goal.invariant-loop-t
invariant-loop-t l = l.locals.items ++ locals_of_types (drop l.t-index l.types) ≡ locals_of_types l.types
