-- The theorem needs bounds that no path of `process` exceeds.
use Rattle.std.proofs.Common.{◌≡◌, refl, arith}
use Rattle.std.specs.Prelude.{Some, slice_get}
use Rattle.typecheck.specs.Typing.{Method}
use Rattle.bounds.specs.Paths.{Cost, Path, ends, jumps, falls, calls}
use Rattle.verdict.specs.Machine.{start_of}
use Rattle.verdict.specs.Sound.{IsSafe}
use Rattle.soundness.specs.Example.{method, example}
use Rattle.soundness.specs.OtherPremises.{SoundnessWithoutBounds, SoundnessByAnyMethod}
use Rattle.soundness.proofs.StraightCode.{plain_call}
use Rattle.soundness.proofs.ExampleClass.{is_checked}
use Rattle.soundness.proofs.SmallClasses.{nothing, takes_something}

example_takes_something : IsSafe example nothing → ⊥
example_takes_something h = takes_something example (start_of 0 method plain_call) refl (omega arith) h

pub bounds_are_needed : SoundnessWithoutBounds → ⊥
bounds_are_needed law = example_takes_something (law example 0 nothing is_checked refl)

-- The example has no second method.
no_method : (m : Method) → slice_get example.methods 1 ≡ Some m → ⊥
no_method m h = cc h

no_path : (k : Cost) → Path example 1 0 k → ⊥
no_path k (ends m p s r) = no_method m s.method
no_path k (jumps m p q s to rest) = no_method m s.method
no_path k (falls m p s on none rest) = no_method m s.method
no_path k (calls m p callee s to inner rest) = no_method m s.method

pub process_is_needed : SoundnessByAnyMethod → ⊥
process_is_needed law = example_takes_something (law example 1 nothing is_checked (λ k p. absurd (no_path k p)))
