-- A new array whose length isn't a constant uses more words than its path counts.
use Rattle.std.proofs.Common.{false, ◌≡◌, ℕ, suc, List, [], ◌∷◌, length, None, refl, sym, subst, arith}
use Rattle.std.specs.Prelude.{pos, replicate}
use Rattle.std.proofs.lemmas.List.{length-replicate}
use Rattle.jtypes.specs.declared.types.RefType.TheVariants as ref
use Rattle.jtypes.specs.declared.types.JType.TheVariants as type
use Rattle.jtypes.specs.declared.types.Arg.TheVariants as arg
use Rattle.jtypes.specs.declared.operations.Kind.TheVariants as kind
use Rattle.jtypes.specs.declared.operations.ArrayKind.TheVariants as array
use Rattle.classfile.specs.View.{ClassView}
use Rattle.decode.specs.declared.instruction.Instruction.TheVariants as instruction
use Rattle.decode.specs.declared.instruction.Placed.{Placed}
use Rattle.decode.specs.Places.{AreConsecutive}
use Rattle.decode.proofs.Targets.{no_target}
use Rattle.frames.specs.Frames.{Frame}
use Rattle.typecheck.specs.Typing.{Method, Class, IsTyping}
use Rattle.bounds.specs.Paths.{Bounds, Cost, Path, IsWithin, last_cost, after_one}
use Rattle.jtypes.specs.declared.loader.LoadAnswer.TheVariants as load
use Rattle.verdict.specs.Machine.{Invocation, State, step, start_of, here, onward}
use Rattle.verdict.specs.Sound.{IsSafe}
use Rattle.soundness.specs.Example.{process, signature}
use Rattle.soundness.specs.Premises.{SoundnessOver}
use Rattle.soundness.specs.OtherPremises.{SomeIsNeverSafe, IsCheckedButForLengths, HasPlainSignature, HasRoom, DeclaresNoTop, GoesForward}
use Rattle.soundness.proofs.StraightCode.{placed, gone_to, each_at, EachOutcome, outcome_at, only_method, from_last, from_before, typed_methods, only_member, only_instance, IsStraight, nowhere}
use Rattle.soundness.proofs.SmallClasses.{view_with, method_with, signed, frame, plain_params, plain_result}

abbrev arguments : Placed
arguments = placed 0 1 (instruction.Load kind.Reference 2)

abbrev measure : Placed
measure = placed 1 2 instruction.ArrayLength

abbrev make : Placed
make = placed 2 3 (instruction.NewArray array.Int)

abbrev answer : Placed
answer = placed 3 4 (instruction.Return kind.Reference)

abbrev view : ClassView
view = view_with []

abbrev method : Method
method = method_with signature 1 (arguments ∷ measure ∷ make ∷ answer ∷ []) []

abbrev class : Class
class = only_method view method

abbrev frames : List Frame
frames = frame [] ∷ frame (type.Ref ref.ObjectArray ∷ []) ∷ frame (type.Int ∷ []) ∷ frame (type.Ref ref.IntArray ∷ []) ∷ []

outcomes : EachOutcome view method frames method.code frames
outcomes = (
  (frame (type.Ref ref.ObjectArray ∷ []), refl, record { branches = λ t h. absurd (nowhere t h); falls = λ h. refl; after = λ h k. absurd cc }),
  (
    (frame (type.Int ∷ []), refl, record { branches = λ t h. absurd (nowhere t h); falls = λ h. refl; after = λ h k. absurd cc }),
    (
      (frame (type.Ref ref.IntArray ∷ []), refl, record { branches = λ t h. absurd (nowhere t h); falls = λ h. refl; after = λ h k. absurd cc }),
      ((frame (type.Ref ref.IntArray ∷ []), refl, record { branches = λ t h. absurd (nowhere t h); falls = λ h. absurd cc; after = λ h k. absurd cc }), tt),
    ),
  ),
)

typing : IsTyping view method frames
typing = record {
  each_has_one = refl;
  first = refl;
  stands = λ p d h. absurd cc;
  outcome = λ q p f h k. outcome_at view method frames method.code frames outcomes q p f h k;
  last = (answer, refl, refl);
}

formed : HasPlainSignature method × HasRoom method × DeclaresNoTop method × GoesForward method × AreConsecutive 0 method.code
formed = (
  (plain_params, plain_result),
  omega arith,
  (λ p d h. absurd cc),
  (λ q r p h k. absurd (no_target p.instruction (pos r) (each_at IsStraight method.code (refl, (refl, (refl, (refl, tt)))) q p h) k)),
  (refl, omega arith, (refl, omega arith, (refl, omega arith, (refl, omega arith, tt)))),
)

-- The path counts the array as empty, because there is no constant length.
abbrev cost : Cost
cost = record { steps = 4; words = 1; slots = 4; depth = 1 }

abbrev limits : Bounds
limits = record { steps = 4; words = 1; slots = 4; depth = 1 }

paths : (k : Cost) → Path class 0 0 k → k ≡ cost
paths k p =
    from_before view method 0 arguments refl (record { stays = refl; straight = refl; lone = refl }) (after_one 0 (after_one 1 (last_cost method)))
    (from_before view method 1 measure refl (record { stays = refl; straight = refl; lone = refl }) (after_one 1 (last_cost method))
    (from_before view method 2 make refl (record { stays = refl; straight = refl; lone = refl }) (last_cost method)
    (from_last view method 3 answer refl (record { over = refl; straight = refl; lone = refl }))))
    0 0 k refl p

within : (k : Cost) → k ≡ cost → IsWithin k limits
within k e = subst (λ x. IsWithin x limits) (sym e) (record { steps = omega arith; words = omega arith; slots = omega arith; depth = omega arith })

-- An invocation with `n` arguments.
abbrev call_with : ℕ → Invocation
call_with n = record { key = pos 0; args = replicate n arg.Null; before = None; loads = false }

abbrev first : ℕ → State
first n = start_of 0 method (call_with n)

abbrev second : ℕ → State
second n = gone_to (first n) (step class (first n))

abbrev third : ℕ → State
third n = gone_to (second n) (step class (second n))

abbrev fourth : ℕ → State
fourth n = gone_to (third n) (step class (third n))

-- The array has `n` elements, so it uses `n + 1` words.
taken : (n : ℕ) → (fourth n).words ≡ suc n
taken n = let k : length (replicate n arg.Null) ≡ n = length-replicate n arg.Null in omega (arith, k)

too_many : (b : Bounds) → IsSafe class b → ⊥
too_many b h =
    let words = (h.stays (call_with b.words) (first b.words) (fourth b.words) refl (onward load.None (onward load.None (onward load.None here refl) refl) refl)).words in
    omega (arith, words, taken b.words)

checked : IsCheckedButForLengths class
checked = (typed_methods view process method refl (signed []) frames typing (refl, (refl, (refl, (refl, tt)))), refl, (λ j w is. only_instance view process refl refl j w), only_member (λ m. HasPlainSignature m × HasRoom m × DeclaresNoTop m × GoesForward m × AreConsecutive 0 m.code) view method formed)

pub lengths_are_needed : SoundnessOver IsCheckedButForLengths → ⊥
lengths_are_needed law = too_many limits (law class 0 limits checked refl (λ k p. within k (paths k p)))

pub never_safe : SomeIsNeverSafe IsCheckedButForLengths
never_safe = (class, checked, too_many)
