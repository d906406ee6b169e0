-- The arguments of a method in the code.
use Rattle.std.specs.Prelude.{Bool}
use Rattle.search.specs.declared.known.Known as plain
use Rattle.unrolled.specs.Known.{is_wide}
use Rattle.search.specs.Seen.{known_seen}

-- whether the value is a long
abbrev pub wide_in_code : plain.Known → Bool
wide_in_code k = is_wide (known_seen k)
