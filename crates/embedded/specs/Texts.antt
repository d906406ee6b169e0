-- The texts that are copied into a buffer.
use Rattle.std.specs.Prelude.{◌≡◌, ℕ, List, ◌++◌, length, take, drop, Option, Some, None}

-- The buffer begins with as much of the text as fits, the bytes after it are unchanged, and the answer is the length of the whole text.
-- If there is no text, the buffer is unchanged, and the answer is 0.
abbrev pub IsCopied : Option (List ℕ) → (before : List ℕ) → (answer : ℕ) → (after : List ℕ) → Type 0
IsCopied (Some text) before answer after = (answer ≡ length text) × (after ≡ take (length before) text ++ drop (length text) before)
IsCopied None before answer after = (answer ≡ 0) × (after ≡ before)
