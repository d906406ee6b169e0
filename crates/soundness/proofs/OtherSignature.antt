-- `process` gets stuck if its signature isn't that of its descriptor: it returns no result.
use Rattle.std.proofs.Common.{◌≡◌, List, [], ◌∷◌, None, false, refl, sym, subst, arith}
use Rattle.std.specs.Prelude.{pos}
use Rattle.jtypes.specs.declared.types.RefType.TheVariants as ref
use Rattle.jtypes.specs.declared.types.JType.TheVariants as type
use Rattle.classfile.specs.View.{ClassView}
use Rattle.decode.specs.declared.instruction.Instruction.TheVariants as instruction
use Rattle.decode.specs.declared.instruction.Placed.{Placed}
use Rattle.decode.proofs.Targets.{no_target}
use Rattle.frames.specs.Frames.{Frame}
use Rattle.frames.specs.declared.signatures.Signature.{Signature}
use Rattle.typecheck.specs.Typing.{Method, Class, IsTyping, IsWellTyped}
use Rattle.bounds.specs.Paths.{Bounds, Cost, Path, IsWithin, last_cost}
use Rattle.verdict.specs.Checked.{IsFormed}
use Rattle.jtypes.specs.declared.loader.LoadAnswer.TheVariants as load
use Rattle.verdict.specs.Machine.{State, start_of, here}
use Rattle.verdict.specs.Sound.{IsSafe}
use Rattle.soundness.specs.Example.{process}
use Rattle.soundness.specs.Premises.{SoundnessOver}
use Rattle.soundness.specs.OtherPremises.{SomeIsNeverSafe, IsCheckedButForSignatures, SignedIsPlain}
use Rattle.soundness.proofs.AcceptedClasses.{signed_has_no_top}
use Rattle.soundness.proofs.StraightCode.{placed, plain_call, each_at, EachOutcome, outcome_at, only_method, without_calls, from_last, only_member, only_instance, IsStraight, nowhere}
use Rattle.soundness.proofs.SmallClasses.{view_with, method_with, frame, plain_params}

abbrev over : Placed
over = placed 0 1 instruction.ReturnVoid

abbrev view : ClassView
view = view_with []

-- The signature lacks the result of the descriptor.
abbrev without_result : Signature
without_result = record { params = type.Ref ref.This ∷ type.Ref ref.MutableEntry ∷ type.Ref ref.ObjectArray ∷ []; result = None; is_boolean = false }

abbrev method : Method
method = method_with without_result 0 (over ∷ []) []

abbrev class : Class
class = only_method view method

abbrev frames : List Frame
frames = frame [] ∷ []

outcomes : EachOutcome view method frames method.code frames
outcomes = ((frame [], refl, record { branches = λ t h. absurd (nowhere t h); falls = λ h. absurd cc; after = λ h k. absurd cc }), tt)

typing : IsTyping view method frames
typing = record {
  each_has_one = refl;
  first = refl;
  stands = λ p d h. absurd cc;
  outcome = λ q p f h k. outcome_at view method frames method.code frames outcomes q p f h k;
  last = (over, refl, refl);
}

formed : IsFormed method
formed = record {
  params = plain_params;
  result = tt;
  room = omega arith;
  declared = λ p d h. absurd cc;
  forward = λ q r p h k. absurd (no_target p.instruction (pos r) (each_at IsStraight method.code (refl, tt) q p h) k);
  consecutive = (refl, omega arith, tt);
  lengths = λ q p k h e. absurd (each_at (λ p. p.instruction ≡ instruction.NewArray k → ⊥) method.code ((λ e. cc e), tt) q p h e);
}

abbrev limits : Bounds
limits = record { steps = 1; words = 0; slots = 3; depth = 1 }

paths : (k : Cost) → Path class 0 0 k → k ≡ last_cost method
paths k p = from_last view method 0 over refl (record { over = refl; straight = refl; lone = refl }) 0 0 k refl p

within : (k : Cost) → k ≡ last_cost method → IsWithin k limits
within k e = subst (λ x. IsWithin x limits) (sym e) (record { steps = omega arith; words = omega arith; slots = omega arith; depth = omega arith })

abbrev first : State
first = start_of 0 method plain_call

stuck : (b : Bounds) → IsSafe class b → ⊥
stuck b h = let n = h.never_stuck plain_call first first refl here load.None in cc n.1

checked : IsCheckedButForSignatures class
checked = (refl, (λ j w is. only_instance view process refl refl j w), refl, only_member IsFormed view method formed, only_member (IsWellTyped view) view method (frames, typing), ((λ j. 0), without_calls view method (refl, tt)))

pub signatures_are_needed : SoundnessOver IsCheckedButForSignatures → ⊥
signatures_are_needed law = stuck limits (law class 0 limits checked refl (λ k p. within k (paths k p)))

pub never_safe : SomeIsNeverSafe IsCheckedButForSignatures
never_safe = (class, checked, stuck)

-- ---- signatures of descriptors

pub signed_is_plain : SignedIsPlain
signed_is_plain c signed j w m member = signed_has_no_top c.view w m.environment.signature (signed j w m member.view member.method)
