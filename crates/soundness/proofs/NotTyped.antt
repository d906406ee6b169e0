-- A method that isn't well typed gets stuck: it returns a missing operand.
use Rattle.std.proofs.Common.{◌≡◌, [], ◌∷◌, refl, sym, subst, arith}
use Rattle.std.specs.Prelude.{pos}
use Rattle.jtypes.specs.declared.operations.Kind.TheVariants as kind
use Rattle.classfile.specs.View.{ClassView}
use Rattle.decode.specs.declared.instruction.Instruction.TheVariants as instruction
use Rattle.decode.specs.declared.instruction.Placed.{Placed}
use Rattle.decode.proofs.Targets.{no_target}
use Rattle.typecheck.specs.Typing.{Method, Class}
use Rattle.bounds.specs.Paths.{Bounds, Cost, Path, IsWithin, last_cost}
use Rattle.verdict.specs.Checked.{IsFormed}
use Rattle.jtypes.specs.declared.loader.LoadAnswer.TheVariants as load
use Rattle.verdict.specs.Machine.{State, start_of, here}
use Rattle.verdict.specs.Sound.{IsSafe}
use Rattle.soundness.specs.Example.{process, signature}
use Rattle.soundness.specs.Premises.{SoundnessOver}
use Rattle.soundness.specs.OtherPremises.{SomeIsNeverSafe, IsCheckedButForTypes}
use Rattle.soundness.proofs.StraightCode.{placed, plain_call, each_at, only_method, without_calls, from_last, only_member, only_instance, IsStraight}
use Rattle.soundness.proofs.SmallClasses.{view_with, method_with, only_signed, plain_params, plain_result}

abbrev answer : Placed
answer = placed 0 1 (instruction.Return kind.Reference)

abbrev view : ClassView
view = view_with []

abbrev method : Method
method = method_with signature 1 (answer ∷ []) []

abbrev class : Class
class = only_method view method

formed : IsFormed method
formed = record {
  params = plain_params;
  result = plain_result;
  room = omega arith;
  declared = λ p d h. absurd cc;
  forward = λ q r p h k. absurd (no_target p.instruction (pos r) (each_at IsStraight method.code (refl, tt) q p h) k);
  consecutive = (refl, omega arith, tt);
  lengths = λ q p k h e. absurd (each_at (λ p. p.instruction ≡ instruction.NewArray k → ⊥) method.code ((λ e. cc e), tt) q p h e);
}

abbrev limits : Bounds
limits = record { steps = 1; words = 0; slots = 4; depth = 1 }

paths : (k : Cost) → Path class 0 0 k → k ≡ last_cost method
paths k p = from_last view method 0 answer refl (record { over = refl; straight = refl; lone = refl }) 0 0 k refl p

within : (k : Cost) → k ≡ last_cost method → IsWithin k limits
within k e = subst (λ x. IsWithin x limits) (sym e) (record { steps = omega arith; words = omega arith; slots = omega arith; depth = omega arith })

abbrev first : State
first = start_of 0 method plain_call

stuck : (b : Bounds) → IsSafe class b → ⊥
stuck b h = let n = h.never_stuck plain_call first first refl here load.None in cc n.1

checked : IsCheckedButForTypes class
checked = (refl, (λ j w is. only_instance view process refl refl j w), refl, only_signed [] method refl, only_member IsFormed view method formed, ((λ j. 0), without_calls view method (refl, tt)))

pub types_are_needed : SoundnessOver IsCheckedButForTypes → ⊥
types_are_needed law = stuck limits (law class 0 limits checked refl (λ k p. within k (paths k p)))

pub never_safe : SomeIsNeverSafe IsCheckedButForTypes
never_safe = (class, checked, stuck)
