-- Operands that are known ints.
use Rattle.std.specs.Prelude.{Option, Some, None, ℤ}
use Rattle.unrolled.specs.Known.{Known, Number}

-- the int, if it is known
abbrev pub number_of : Option Known → Option ℤ
number_of (Some (Number n)) = Some n
number_of k = None
