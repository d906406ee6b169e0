-- Where branches lead forward, the methods have a cover, whatever is followed.
use Rattle.std.specs.Prelude.{◌≡◌, ℕ, Bool, true, Some, IsSome, slice_get}
use Rattle.typecheck.specs.Typing.{Method, Class, instruction_at}
use Rattle.bounds.specs.Table.{LeadsOn}
use Rattle.unrolled.specs.Graph.{Node}
use Rattle.unrolled.specs.Rules.{Rules}
use Rattle.unrolled.specs.Paths.{start_node}
use Rattle.unrolled.specs.Cover.{IsCover}

-- `HasCover c rules set` holds if there is a cover with the start of each method of the set, entered as `process` is
pub record HasCover (c : Class) (rules : Rules) (set : ℕ → Bool) : Type 0 where
  pub inside : ℕ → Node → Bool
  pub rank : ℕ → Node → ℕ
  pub cover : IsCover c rules inside rank
  pub starts : (j : ℕ) (m : Method) → set j ≡ true → slice_get c.methods j ≡ Some m → IsSome (instruction_at m 0) → inside j (start_node rules j m) ≡ true

abbrev pub ForwardIsCovered : Type 0
ForwardIsCovered = (c : Class) (rules : Rules) (set : ℕ → Bool) → LeadsOn c set → HasCover c rules set
