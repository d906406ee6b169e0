-- A class whose instructions aren't consecutive exceeds its bounds: a constant that never runs counts as the length of the new array.
use Rattle.std.proofs.Common.{◌≡◌, ℕ, ◌≤◌, List, [], ◌∷◌, Some, false, refl, sym, ◌∙◌, subst, arith}
use Rattle.std.specs.Prelude.{codes, pos}
use Rattle.jtypes.specs.declared.types.RefType.TheVariants as ref
use Rattle.jtypes.specs.declared.types.JType.{JType}
use Rattle.jtypes.specs.declared.types.JType.TheVariants as type
use Rattle.jtypes.specs.declared.operations.Kind.TheVariants as kind
use Rattle.jtypes.specs.declared.operations.ArrayKind.{ArrayKind}
use Rattle.jtypes.specs.declared.operations.ArrayKind.TheVariants as array
use Rattle.jtypes.specs.declared.operations.Pushed.TheVariants as pushed
use Rattle.constpool.specs.Descriptor.{sig_of, read_params, read_type}
use Rattle.classfile.specs.View.{ClassView}
use Rattle.decode.specs.declared.instruction.Instruction.TheVariants as instruction
use Rattle.decode.specs.declared.instruction.Placed.{Placed}
use Rattle.decode.proofs.Targets.{no_target}
use Rattle.frames.specs.Frames.{Frame}
use Rattle.frames.specs.Signatures.{class_type, field_type, field_types, result_type, signature_of, method_signature}
use Rattle.typecheck.specs.Typing.{Method, Class, IsTyping, instruction_at}
use Rattle.typecheck.specs.Mismatch.{HasLength}
use Rattle.bounds.specs.Paths.{Bounds, Cost, Path, IsWithin, last_cost, after_one}
use Rattle.jtypes.specs.declared.loader.LoadAnswer.TheVariants as load
use Rattle.verdict.specs.Machine.{State, step, start_of, here, onward}
use Rattle.verdict.specs.Sound.{IsSafe}
use Rattle.soundness.specs.Premises.{SoundnessOver, IsCheckedButForPlaces, IsFormedButForPlaces}
use Rattle.soundness.proofs.StraightCode.{placed, process_with, plain_call, gone_to, each_at, EachOutcome, outcome_at, at_its_place, only_method, from_last, from_before, typed_methods, only_member, only_instance, IsStraight, nowhere}

-- No control flow reaches this instruction.
abbrev astray : Placed
astray = placed 9 1 (instruction.Push (pushed.Int (pos 1)))

abbrev hundred : Placed
hundred = placed 0 1 (instruction.Push (pushed.Int (pos 100)))

abbrev make : Placed
make = placed 1 2 (instruction.NewArray array.Int)

abbrev answer : Placed
answer = placed 2 3 (instruction.Return kind.Reference)

abbrev view : ClassView
view = record { pool = []; name = codes "Example"; methods = process_with 1 ∷ [] }

abbrev method : Method
method = record {
  environment = record {
    signature = record { params = type.Ref ref.This ∷ type.Ref ref.MutableEntry ∷ type.Ref ref.ObjectArray ∷ []; result = Some (type.Ref ref.Object); is_boolean = false };
    max_stack = 1;
    max_locals = 3;
  };
  code = astray ∷ hundred ∷ make ∷ answer ∷ [];
  declared = [];
}

abbrev class : Class
class = only_method view method

abbrev frame : List JType → Frame
frame stack = record { locals = type.Ref ref.This ∷ type.Ref ref.MutableEntry ∷ type.Ref ref.ObjectArray ∷ []; stack = stack }

abbrev frames : List Frame
frames = frame [] ∷ frame [] ∷ frame (type.Int ∷ []) ∷ frame (type.Ref ref.IntArray ∷ []) ∷ []

outcomes : EachOutcome view method frames method.code frames
outcomes = (
  (frame (type.Int ∷ []), refl, record { branches = λ t h. absurd (nowhere t h); falls = λ h. refl; after = λ h k. absurd cc }),
  (
    (frame (type.Int ∷ []), refl, record { branches = λ t h. absurd (nowhere t h); falls = λ h. refl; after = λ h k. absurd cc }),
    (
      (frame (type.Ref ref.IntArray ∷ []), refl, record { branches = λ t h. absurd (nowhere t h); falls = λ h. refl; after = λ h k. absurd cc }),
      ((frame (type.Ref ref.IntArray ∷ []), refl, record { branches = λ t h. absurd (nowhere t h); falls = λ h. absurd cc; after = λ h k. absurd cc }), tt),
    ),
  ),
)

typing : IsTyping view method frames
typing = record {
  each_has_one = refl;
  first = refl;
  stands = λ p d h. absurd cc;
  outcome = λ q p f h k. outcome_at view method frames method.code frames outcomes q p f h k;
  last = (answer, refl, refl);
}

-- The constant length at the only `newarray`, at pc 1, is 1.
sized : HasLength method.code 1
sized = (pos 1, refl, (record { le = tt }, record { le = tt }))

formed : IsFormedButForPlaces method
formed = record {
  params = ((λ h. cc h), ((λ h. cc h), ((λ h. cc h), tt)));
  result = ((λ h. cc h), tt);
  room = omega arith;
  declared = λ p d h. absurd cc;
  forward = λ q r p h k. absurd (no_target p.instruction (pos r) (each_at IsStraight method.code (refl, (refl, (refl, (refl, tt)))) q p h) k);
  lengths = λ q p k h e. (refl, lengths q p k h e);
}
  where
    lengths : (q : ℕ) (p : Placed) (k : ArrayKind) → instruction_at method q ≡ Some p → p.instruction ≡ instruction.NewArray k → HasLength method.code q
    lengths q p k h e =
        let place : p.place ≡ q = at_its_place method.code q p h in
        let one : p.place ≡ 1 = each_at (λ p. p.instruction ≡ instruction.NewArray k → p.place ≡ 1) method.code ((λ e. cc e), ((λ e. cc e), ((λ e. refl), ((λ e. cc e), tt)))) q p h e in
        subst (HasLength method.code) (sym one ∙ place) sized

signed : method_signature view (process_with 1) ≡ Some method.environment.signature
unfolding sig_of read_params read_type class_type field_type field_types result_type signature_of method_signature
signed = refl

abbrev cost : Cost
cost = record { steps = 3; words = 2; slots = 4; depth = 1 }

abbrev limits : Bounds
limits = record { steps = 3; words = 2; slots = 4; depth = 1 }

paths : (k : Cost) → Path class 0 0 k → k ≡ cost
paths k p =
    from_before view method 0 hundred refl (record { stays = refl; straight = refl; lone = refl }) (after_one 2 (last_cost method))
    (from_before view method 1 make refl (record { stays = refl; straight = refl; lone = refl }) (last_cost method)
    (from_last view method 2 answer refl (record { over = refl; straight = refl; lone = refl })))
    0 0 k refl p

within : (k : Cost) → k ≡ cost → IsWithin k limits
within k e = subst (λ x. IsWithin x limits) (sym e) (record { steps = omega arith; words = omega arith; slots = omega arith; depth = omega arith })

abbrev first : State
first = start_of 0 method plain_call

abbrev second : State
second = gone_to first (step class first)

abbrev third : State
third = gone_to second (step class second)

-- the array has a hundred elements
too_many : IsSafe class limits → ⊥
too_many h =
    let words : 101 ≤ 2 = (h.stays plain_call first third refl (onward load.None (onward load.None here refl) refl)).words in
    absurd (omega (arith, words))

pub places_are_needed : SoundnessOver IsCheckedButForPlaces → ⊥
places_are_needed law =
    too_many (law class 0 limits (typed_methods view (process_with 1) method refl signed frames typing (refl, (refl, (refl, (refl, tt)))), refl, (λ j w is. only_instance view (process_with 1) refl refl j w), only_member IsFormedButForPlaces view method formed) refl (λ k p. within k (paths k p)))
