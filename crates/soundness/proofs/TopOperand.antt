-- If a frame declares an operand as `Top`, a long there occupies more slots than are counted, and the next push gets stuck.
use Rattle.std.proofs.Common.{◌≡◌, ℕ, ◌==◌, Bool, true, false, cond, List, [], ◌∷◌, Some, None, refl, sym, subst, arith}
use Rattle.std.specs.Prelude.{pos}
use Rattle.std.proofs.lemmas.Bool.{eqb-true}
use Rattle.jtypes.specs.declared.types.JType.TheVariants as type
use Rattle.jtypes.specs.declared.operations.Kind.TheVariants as kind
use Rattle.jtypes.specs.declared.operations.Pushed.TheVariants as pushed
use Rattle.classfile.specs.View.{ClassView}
use Rattle.decode.specs.declared.instruction.Instruction.TheVariants as instruction
use Rattle.decode.specs.declared.instruction.Placed.{Placed}
use Rattle.decode.specs.Places.{AreConsecutive}
use Rattle.decode.proofs.Targets.{no_target}
use Rattle.frames.specs.Frames.{Frame}
use Rattle.typecheck.specs.Typing.{Method, Class, IsTyping, frame_at, declared_at}
use Rattle.bounds.specs.Paths.{Bounds, Cost, Path, IsWithin, last_cost, after_one}
use Rattle.jtypes.specs.declared.loader.LoadAnswer.TheVariants as load
use Rattle.verdict.specs.Machine.{State, step, start_of, here, onward}
use Rattle.verdict.specs.Sound.{IsSafe}
use Rattle.soundness.specs.Example.{process, signature}
use Rattle.soundness.specs.Premises.{SoundnessOver}
use Rattle.soundness.specs.OtherPremises.{SomeIsNeverSafe, IsCheckedButForOperands, HasPlainSignature, HasRoom, GoesForward, HasLengths}
use Rattle.soundness.proofs.StraightCode.{placed, plain_call, gone_to, each_at, EachOutcome, outcome_at, only_method, from_last, from_before, typed_methods, only_member, only_instance, IsStraight, nowhere}
use Rattle.soundness.proofs.SmallClasses.{view_with, method_with, signed, frame, plain_params, plain_result, fits_frame}

abbrev long : Placed
long = placed 0 1 (instruction.Push (pushed.Long (pos 0)))

abbrev null : Placed
null = placed 1 2 (instruction.Push pushed.Null)

abbrev answer : Placed
answer = placed 2 3 (instruction.Return kind.Reference)

abbrev view : ClassView
view = view_with []

abbrev method : Method
method = method_with signature 2 (long ∷ null ∷ answer ∷ []) ((1, frame (type.Top ∷ [])) ∷ [])

abbrev class : Class
class = only_method view method

abbrev frames : List Frame
frames = frame [] ∷ frame (type.Top ∷ []) ∷ frame (type.Null ∷ type.Top ∷ []) ∷ []

outcomes : EachOutcome view method frames method.code frames
outcomes = (
  (frame (type.Long ∷ []), refl, record { branches = λ t h. absurd (nowhere t h); falls = λ h. fits_frame (type.Long ∷ []) (type.Top ∷ []) (refl, tt); after = λ h k. absurd cc }),
  (
    (frame (type.Null ∷ type.Top ∷ []), refl, record { branches = λ t h. absurd (nowhere t h); falls = λ h. refl; after = λ h k. absurd cc }),
    ((frame (type.Null ∷ type.Top ∷ []), refl, record { branches = λ t h. absurd (nowhere t h); falls = λ h. absurd cc; after = λ h k. absurd cc }), tt),
  ),
)

stands : (p : ℕ) (d : Frame) → declared_at method p ≡ Some d → frame_at method frames p ≡ Some d
stands p d h = go (1 == p) refl h
  where
    go : (b : Bool) → (1 == p) ≡ b → cond b (Some (frame (type.Top ∷ []))) None ≡ Some d → frame_at method frames p ≡ Some d
    go true is e = subst (λ q. frame_at method frames q ≡ Some d) (eqb-true 1 p is) e
    go false is e = absurd cc

typing : IsTyping view method frames
typing = record {
  each_has_one = refl;
  first = refl;
  stands = stands;
  outcome = λ q p f h k. outcome_at view method frames method.code frames outcomes q p f h k;
  last = (answer, refl, refl);
}

formed : HasPlainSignature method × HasRoom method × GoesForward method × HasLengths method × AreConsecutive 0 method.code
formed = (
  (plain_params, plain_result),
  omega arith,
  (λ q r p h k. absurd (no_target p.instruction (pos r) (each_at IsStraight method.code (refl, (refl, (refl, tt))) q p h) k)),
  (λ q p k h e. absurd (each_at (λ p. p.instruction ≡ instruction.NewArray k → ⊥) method.code ((λ e. cc e), ((λ e. cc e), ((λ e. cc e), tt))) q p h e)),
  (refl, omega arith, (refl, omega arith, (refl, omega arith, tt))),
)

abbrev cost : Cost
cost = record { steps = 3; words = 0; slots = 5; depth = 1 }

abbrev limits : Bounds
limits = record { steps = 3; words = 0; slots = 5; depth = 1 }

paths : (k : Cost) → Path class 0 0 k → k ≡ cost
paths k p =
    from_before view method 0 long refl (record { stays = refl; straight = refl; lone = refl }) (after_one 0 (last_cost method))
    (from_before view method 1 null refl (record { stays = refl; straight = refl; lone = refl }) (last_cost method)
    (from_last view method 2 answer refl (record { over = refl; straight = refl; lone = refl })))
    0 0 k refl p

within : (k : Cost) → k ≡ cost → IsWithin k limits
within k e = subst (λ x. IsWithin x limits) (sym e) (record { steps = omega arith; words = omega arith; slots = omega arith; depth = omega arith })

abbrev first : State
first = start_of 0 method plain_call

abbrev second : State
second = gone_to first (step class first)

-- The step is stuck, because the long and null occupy three slots.
stuck : (b : Bounds) → IsSafe class b → ⊥
stuck b h = let n = h.never_stuck plain_call first second refl (onward load.None here refl) load.None in cc n.1

checked : IsCheckedButForOperands class
checked = (typed_methods view process method refl (signed []) frames typing (refl, (refl, (refl, tt))), refl, (λ j w is. only_instance view process refl refl j w), only_member (λ m. HasPlainSignature m × HasRoom m × GoesForward m × HasLengths m × AreConsecutive 0 m.code) view method formed)

pub operands_are_needed : SoundnessOver IsCheckedButForOperands → ⊥
operands_are_needed law = stuck limits (law class 0 limits checked refl (λ k p. within k (paths k p)))

pub never_safe : SomeIsNeverSafe IsCheckedButForOperands
never_safe = (class, checked, stuck)
