-- Arguments that are read in order.
use Rattle.std.proofs.Common.{List, ◌++◌, Option, Some, None}
use Rattle.jtypes.specs.declared.types.Arg.{Arg}

-- The arguments read so far, and then the remaining ones.
abbrev pub then_read : List Arg → Option (List Arg) → Option (List Arg)
then_read xs None = None
then_read xs (Some ys) = Some (xs ++ ys)
