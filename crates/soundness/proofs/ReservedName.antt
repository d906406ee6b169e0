-- A class with the name `java/lang/Object` gets stuck: `getKey` is declared to return the class itself, and returns a box.
use Rattle.std.proofs.Common.{◌≡◌, List, [], ◌∷◌, Some, None, false, refl, sym, subst, arith}
use Rattle.std.specs.Prelude.{codes, pos}
use Rattle.jtypes.specs.declared.types.RefType.TheVariants as ref
use Rattle.jtypes.specs.declared.types.JType.{JType}
use Rattle.jtypes.specs.declared.types.JType.TheVariants as type
use Rattle.jtypes.specs.declared.operations.Kind.TheVariants as kind
use Rattle.jtypes.specs.declared.operations.Invoke.TheVariants.{Interface}
use Rattle.constpool.specs.declared.constant.Constant.TheVariants as constant
use Rattle.constpool.specs.Lookup.{Slot, utf8_at, class_at, pair_at, member_of, interface_method_at}
use Rattle.constpool.specs.Descriptor.{sig_of, read_params, read_type}
use Rattle.constpool.specs.Names.{object_name, mutable_entry_name}
use Rattle.classfile.specs.View.{ClassView}
use Rattle.decode.specs.declared.instruction.Instruction.TheVariants as instruction
use Rattle.decode.specs.declared.instruction.Placed.{Placed}
use Rattle.decode.proofs.Targets.{no_target}
use Rattle.frames.specs.Frames.{Frame}
use Rattle.frames.specs.Signatures.{class_type, field_type, field_types, result_type, signature_of, method_signature}
use Rattle.frames.specs.Members.{library_rows, callee_at}
use Rattle.typecheck.specs.Typing.{Method, Class, IsTyping, call_of}
use Rattle.bounds.specs.Paths.{Bounds, Cost, Path, IsWithin, last_cost, after_one}
use Rattle.verdict.specs.Checked.{IsFormed}
use Rattle.jtypes.specs.declared.loader.LoadAnswer.TheVariants as load
use Rattle.verdict.specs.Machine.{State, step, start_of, here, onward}
use Rattle.verdict.specs.Sound.{IsSafe}
use Rattle.soundness.specs.Premises.{SoundnessOver, IsCheckedButForName}
use Rattle.soundness.proofs.StraightCode.{placed, process_with, plain_call, gone_to, each_at, EachOutcome, outcome_at, only_method, from_last, from_before, typed_methods, only_member, only_instance, IsStraight, nowhere}
use Rattle.std.proofs.Common.{ap}
use Rattle.jtypes.specs.declared.types.RefValue.TheVariants as reference
use Rattle.jtypes.specs.declared.types.Value.TheVariants as value
use Rattle.jtypes.specs.declared.operations.Native.TheVariants as native
use Rattle.frames.specs.declared.members.Reached.TheVariants.{Library}
use Rattle.typecheck.specs.Typing.{own_of}
use Rattle.transfer.specs.Transfer.{called, transfer}
use Rattle.verdict.specs.Machine.{invoke}

abbrev zero : Placed
zero = placed 0 1 (instruction.Load kind.Reference 1)

abbrev box : Placed
box = placed 1 6 (instruction.Invoke Interface 1)

abbrev answer : Placed
answer = placed 6 7 (instruction.Return kind.Reference)

-- The constant pool, with `MutableEntry.getKey` at index 1.
abbrev pool : List Slot
pool =
    Some (constant.InterfaceMethodref 2 3) ∷ Some (constant.Class 4) ∷ Some (constant.NameAndType 5 6)
    ∷ Some (constant.Utf8 mutable_entry_name) ∷ Some (constant.Utf8 (codes "getKey")) ∷ Some (constant.Utf8 (codes "()Ljava/lang/Object;")) ∷ []

abbrev view : ClassView
view = record { pool = pool; name = object_name; methods = process_with 1 ∷ [] }

abbrev method : Method
method = record {
  environment = record {
    signature = record { params = type.Ref ref.This ∷ type.Ref ref.MutableEntry ∷ type.Ref ref.ObjectArray ∷ []; result = Some (type.Ref ref.This); is_boolean = false };
    max_stack = 1;
    max_locals = 3;
  };
  code = zero ∷ box ∷ answer ∷ [];
  declared = [];
}

abbrev class : Class
class = only_method view method

abbrev frame : List JType → Frame
frame stack = record { locals = type.Ref ref.This ∷ type.Ref ref.MutableEntry ∷ type.Ref ref.ObjectArray ∷ []; stack = stack }

abbrev frames : List Frame
frames = frame [] ∷ frame (type.Ref ref.MutableEntry ∷ []) ∷ frame (type.Ref ref.This ∷ []) ∷ []

reached : callee_at view Interface 1 ≡ Some (record { reached = Library native.GetKey; params = type.Ref ref.MutableEntry ∷ []; result = Some (type.Ref ref.This) })
unfolding callee_at library_rows interface_method_at member_of class_at pair_at utf8_at sig_of read_params read_type class_type field_type field_types result_type signature_of method_signature
reached = refl

no_own_call : call_of view box.instruction ≡ None
no_own_call = ap own_of reached

boxed : transfer view method.environment box.instruction (frame (type.Ref ref.MutableEntry ∷ [])) ≡ Some (frame (type.Ref ref.This ∷ []))
boxed = ap (called method.environment (frame (type.Ref ref.MutableEntry ∷ []))) reached

outcomes : EachOutcome view method frames method.code frames
outcomes = (
  (frame (type.Ref ref.MutableEntry ∷ []), refl, record { branches = λ t h. absurd (nowhere t h); falls = λ h. refl; after = λ h k. absurd cc }),
  (
    (frame (type.Ref ref.This ∷ []), boxed, record { branches = λ t h. absurd (nowhere t h); falls = λ h. refl; after = λ h k. absurd cc }),
    ((frame (type.Ref ref.This ∷ []), refl, record { branches = λ t h. absurd (nowhere t h); falls = λ h. absurd cc; after = λ h k. absurd cc }), tt),
  ),
)

typing : IsTyping view method frames
typing = record {
  each_has_one = refl;
  first = refl;
  stands = λ p d h. absurd cc;
  outcome = λ q p f h k. outcome_at view method frames method.code frames outcomes q p f h k;
  last = (answer, refl, refl);
}

formed : IsFormed method
formed = record {
  params = ((λ h. cc h), ((λ h. cc h), ((λ h. cc h), tt)));
  result = ((λ h. cc h), tt);
  room = omega arith;
  declared = λ p d h. absurd cc;
  forward = λ q r p h k. absurd (no_target p.instruction (pos r) (each_at IsStraight method.code (refl, (refl, (refl, tt))) q p h) k);
  consecutive = (refl, omega arith, (refl, omega arith, (refl, omega arith, tt)));
  lengths = λ q p k h e. absurd (each_at (λ p. p.instruction ≡ instruction.NewArray k → ⊥) method.code ((λ e. cc e), ((λ e. cc e), ((λ e. cc e), tt))) q p h e);
}

signed : method_signature view (process_with 1) ≡ Some method.environment.signature
unfolding sig_of read_params read_type class_type field_type field_types result_type signature_of method_signature
signed = refl

abbrev cost : Cost
cost = record { steps = 3; words = 0; slots = 4; depth = 1 }

abbrev limits : Bounds
limits = record { steps = 3; words = 0; slots = 4; depth = 1 }

paths : (k : Cost) → Path class 0 0 k → k ≡ cost
paths k p =
    from_before view method 0 zero refl (record { stays = refl; straight = refl; lone = refl }) (after_one 0 (last_cost method))
    (from_before view method 1 box refl (record { stays = refl; straight = refl; lone = no_own_call }) (last_cost method)
    (from_last view method 6 answer refl (record { over = refl; straight = refl; lone = refl })))
    0 0 k refl p

within : (k : Cost) → k ≡ cost → IsWithin k limits
within k e = subst (λ x. IsWithin x limits) (sym e) (record { steps = omega arith; words = omega arith; slots = omega arith; depth = omega arith })

abbrev first : State
first = start_of 0 method plain_call

abbrev second : State
second = gone_to first (step class first)

-- The step is stuck, because the box isn't of the class itself.
no_step : step class second ≡ None
no_step = ap (invoke class second (record { method = 0; place = 6; locals = Some (value.Ref reference.This) ∷ Some (value.Ref reference.Entry) ∷ Some (value.Ref reference.Args) ∷ []; operands = value.Ref reference.Entry ∷ [] }) [] Interface) reached

stuck : IsSafe class limits → ⊥
stuck h = let n = h.never_stuck plain_call first second refl (onward load.None here refl) load.None in let e = n.1 in cc (e, no_step)

pub name_is_needed : SoundnessOver IsCheckedButForName → ⊥
name_is_needed law =
    stuck (law class 0 limits (typed_methods view (process_with 1) method refl signed frames typing (refl, (no_own_call, (refl, tt))), (λ j w is. only_instance view (process_with 1) refl refl j w), only_member IsFormed view method formed) refl (λ k p. within k (paths k p)))
