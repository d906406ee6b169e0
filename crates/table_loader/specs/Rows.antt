-- Tables of keys and values, in which the last of several pairs with the same key counts, and their file format.
use Rattle.std.specs.Prelude.{◌≡◌, ℕ, ℤ, List, [], ◌∷◌, length, Option, Some, None, if◌then◌else◌}
use Rattle.std.specs.Int.{w64, cast_signed}
use Rattle.std.specs.Ordering.{int_eq}
use Rattle.jtypes.specs.Layout.{Layout, IsLaidOut, known, number, many, ◌>>=◌}
use Rattle.jtypes.specs.declared.loader.LoadAnswer.{LoadAnswer}
use Rattle.jtypes.specs.declared.loader.LoadAnswer.TheVariants as load
use Rattle.table_loader.specs.declared.table.Pair.{Pair}

-- ---- a table

-- The value of a pair, if it has this key.
abbrev pub value_of : Pair → ℤ → Option ℤ
value_of row key = if int_eq row.key key then Some row.value else None

-- The value of the last pair with this key, or `found` if there is none.
abbrev pub found_in : Option ℤ → List Pair → ℤ → Option ℤ
found_in found [] key = found
found_in found (row ∷ rows) key = found_in (if int_eq row.key key then Some row.value else found) rows key

-- The value of a key: that of the last pair with the key.
abbrev pub value_in : List Pair → ℤ → Option ℤ
value_in rows key = found_in None rows key

-- The table has the values of these pairs.
abbrev pub HasValuesOf : List Pair → List Pair → Type 0
HasValuesOf rows table = (key : ℤ) → value_in table key ≡ value_in rows key

-- The loader's answer for a key with this value.
abbrev pub answer_for : Option ℤ → LoadAnswer
answer_for None = load.None
answer_for (Some v) = load.Value v

-- ---- a file

-- A signed number of 8 bytes, big-endian, in two's complement.
unfoldable pub long : Layout ℤ
long = do
  bits ← number 8
  known (cast_signed w64 bits)

-- A pair: its key and then its value.
unfoldable pub pair : Layout Pair
pair = do
  key ← long
  value ← long
  known (record { key = key; value = value })

-- The bytes are these pairs.
abbrev pub AreRowsOf : List ℕ → List Pair → Type 0
AreRowsOf bytes rows = IsLaidOut (many (length rows) pair) bytes rows

-- The result of reading a file: a table of its pairs, or `None` if the bytes are not pairs.
abbrev pub IsRead : List ℕ → Option (List Pair) → Type 0
IsRead bytes (Some table) = (rows : List Pair) × AreRowsOf bytes rows × HasValuesOf rows table
IsRead bytes None = (rows : List Pair) → AreRowsOf bytes rows → ⊥
