-- The texts in a constant pool.
use Rattle.std.specs.Prelude.{ℕ, List, Option, Some, None, option_and_then}
use Rattle.jtypes.specs.Lists.{◌>>=◌}
use Rattle.constpool.specs.declared.constant.Constant.{Constant}
use Rattle.constpool.specs.declared.constant.Constant.TheVariants.{String}
use Rattle.constpool.specs.Lookup.{Slot, constant_at, utf8_at}

abbrev pub as_string : Constant → Option ℕ
as_string (String text) = Some text
as_string _ = None

-- The bytes of the text of the `String` constant at an index (JVMS §4.4.3).
unfoldable pub string_at : List Slot → ℕ → Option (List ℕ)
string_at pool i = do
  text ← option_and_then as_string (constant_at pool i)
  utf8_at pool text
