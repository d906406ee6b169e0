-- A stream of one round of protocol 2, byte by byte: a version, and a forget of class 0. And the answer to it.
use Rattle.std.specs.Prelude.{◌≡◌, false, ℕ, ℤ, List, [], ◌∷◌, ◌++◌}
use Rattle.jtypes.specs.declared.loader.LoadAnswer.{LoadAnswer}
use Rattle.wire.specs.declared.protocol.Protocol.TheVariants.{One, Two}
use Rattle.serve.specs.Served.{IsServed}
use Rattle.test_serve.specs.OneStream.{round_end, round_ended}

abbrev pub version : List ℕ
version = 0 ∷ 0 ∷ 0 ∷ 1 ∷ 9 ∷ []

abbrev pub forget_0 : List ℕ
forget_0 = 0 ∷ 0 ∷ 0 ∷ 5 ∷ 10 ∷ 0 ∷ 0 ∷ 0 ∷ 0 ∷ []

abbrev pub versions : List ℕ
versions = version ++ forget_0 ++ round_end

abbrev pub is_two : List ℕ
is_two = 0 ∷ 0 ∷ 0 ∷ 5 ∷ 10 ∷ 0 ∷ 0 ∷ 0 ∷ 2 ∷ []

abbrev pub unknown_class : List ℕ
unknown_class = 0 ∷ 0 ∷ 0 ∷ 2 ∷ 8 ∷ 1 ∷ []

abbrev pub versions_answer : List ℕ
versions_answer = is_two ++ unknown_class ++ round_ended

-- `AnswersVersions gives` holds if the stream is served with this answer and no other, where no loader is asked
pub record AnswersVersions (gives : ℤ → LoadAnswer → Type 0) : Type 0 where
  pub served : IsServed Two false gives versions versions_answer
  pub alone : (output : List ℕ) → IsServed Two false gives versions output → output ≡ versions_answer

-- `IsOfTwo gives` holds if the stream is not served in protocol 1
abbrev pub IsOfTwo : (ℤ → LoadAnswer → Type 0) → Type 0
IsOfTwo gives = (output : List ℕ) → IsServed One false gives versions output → ⊥
