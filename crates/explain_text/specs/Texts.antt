-- The output of `jentry explain`.
use Rattle.std.specs.Prelude.{◌≡◌, ℕ, List, ◌++◌, length, take, drop, codes}
use Rattle.explain.specs.Explanation.{IsExplanation}
use Rattle.explain.specs.declared.explained.Explained.{Explained}
use Rattle.explain.specs.declared.explained.Explained.TheVariants.{Accepted}

-- The first word of the output, by the verdict.
abbrev pub first_word : Explained → List ℕ
first_word (Accepted bounds methods) = codes "accepted "
first_word _ = codes "refused "

-- `IsText` holds if `text` begins with the verdict of a correct explanation of the bytes.
pub record IsText (bytes text : List ℕ) : Type 0 where
  pub explained : Explained
  pub is_so : IsExplanation bytes explained
  pub rest : List ℕ
  pub begins : text ≡ first_word explained ++ rest

-- `IsWritten` holds if as much of the output as fits was written, and the answer is its whole length,
-- or nothing was written, and the answer is 0.
pub data IsWritten (bytes before : List ℕ) (answer : ℕ) (after : List ℕ) : Type 0 where
  of_text : (text : List ℕ) → IsText bytes text → answer ≡ length text → after ≡ take (length before) text ++ drop (length text) before → IsWritten bytes before answer after
  of_nothing : answer ≡ 0 → after ≡ before → IsWritten bytes before answer after
