-- Classes whose only method is `process`, by its instructions.
use Rattle.std.proofs.Common.{◌≡◌, ℕ, ◌≤◌, List, [], ◌∷◌, length, Some, refl, subst, arith}
use Rattle.std.specs.Prelude.{codes}
use Rattle.jtypes.specs.declared.types.RefType.TheVariants as ref
use Rattle.jtypes.specs.declared.types.JType.{JType}
use Rattle.jtypes.specs.declared.types.JType.TheVariants as type
use Rattle.jtypes.specs.Types.{EachAssignable}
use Rattle.constpool.specs.Lookup.{Slot}
use Rattle.constpool.specs.Descriptor.{sig_of, read_params, read_type}
use Rattle.classfile.specs.View.{ClassView}
use Rattle.decode.specs.declared.instruction.Placed.{Placed}
use Rattle.frames.specs.declared.signatures.Signature.{Signature}
use Rattle.frames.specs.Frames.{Frame, FrameAssignable}
use Rattle.frames.specs.Signatures.{class_type, field_type, field_types, result_type, signature_of, method_signature}
use Rattle.typecheck.specs.Typing.{Method, Class}
use Rattle.bounds.specs.Paths.{Bounds}
use Rattle.verdict.specs.Checked.{NoTop}
use Rattle.verdict.specs.Machine.{State, start, here}
use Rattle.verdict.specs.Sound.{IsSafe}
use Rattle.soundness.specs.Example.{process, signature}
use Rattle.soundness.specs.OtherPremises.{IsSigned}
use Rattle.soundness.proofs.StraightCode.{one_at, only_method, plain_call}

abbrev pub view_with : List Slot → ClassView
view_with pool = record { pool = pool; name = codes "Example"; methods = process ∷ [] }

-- `process` with three local variables.
abbrev pub method_with : Signature → ℕ → List Placed → List (ℕ × Frame) → Method
method_with s max_stack code declared = record {
  environment = record { signature = s; max_stack = max_stack; max_locals = 3 };
  code = code;
  declared = declared;
}

-- The frame with these operands.
abbrev pub frame : List JType → Frame
frame stack = record { locals = type.Ref ref.This ∷ type.Ref ref.MutableEntry ∷ type.Ref ref.ObjectArray ∷ []; stack = stack }

pub signed : (pool : List Slot) → method_signature (view_with pool) process ≡ Some signature
unfolding sig_of read_params read_type class_type field_type field_types result_type signature_of method_signature
signed pool = refl

pub only_signed : (pool : List Slot) (m : Method) → m.environment.signature ≡ signature → IsSigned (only_method (view_with pool) m)
only_signed pool m is j w x h k =
    let here : Some signature ≡ Some m.environment.signature = cc is in
    let all : method_signature (view_with pool) process ≡ Some m.environment.signature = subst (λ o. method_signature (view_with pool) process ≡ o) here (signed pool) in
    subst (λ (z : Method). method_signature (view_with pool) w ≡ Some z.environment.signature) (one_at m j x k)
    (subst (λ z. method_signature (view_with pool) z ≡ Some m.environment.signature) (one_at process j w h) all)

pub plain_params : NoTop signature.params
plain_params = ((λ h. cc h), ((λ h. cc h), ((λ h. cc h), tt)))

pub plain_result : NoTop (type.Ref ref.Object ∷ [])
plain_result = ((λ h. cc h), tt)

-- Frames with the same local variables are assignable if their operand stacks are.
pub fits_frame : (stack other : List JType) → EachAssignable stack other → FrameAssignable (frame stack) (frame other)
fits_frame stack other h = record { locals = (refl, (refl, (refl, tt))); stack = h }

abbrev pub nothing : Bounds
nothing = record { steps = 0; words = 0; slots = 0; depth = 0 }

-- A class that has a start state isn't safe within bounds of zero.
pub takes_something : (c : Class) (s : State) → start c plain_call ≡ Some s → 1 ≤ length s.activations → IsSafe c nothing → ⊥
takes_something c s e l h = let few = (h.stays plain_call s s e here).depth in omega (arith, l, few)
