-- A static `process` gets stuck: its frame declares the array of arguments in the local variable that has the entry.
use Rattle.std.proofs.Common.{◌≡◌, List, [], ◌∷◌, Some, false, refl, sym, subst, arith}
use Rattle.std.specs.Prelude.{codes, pos}
use Rattle.jtypes.specs.declared.types.RefType.TheVariants as ref
use Rattle.jtypes.specs.declared.types.JType.{JType}
use Rattle.jtypes.specs.declared.types.JType.TheVariants as type
use Rattle.jtypes.specs.declared.operations.Kind.TheVariants as kind
use Rattle.jtypes.specs.declared.operations.Pushed.TheVariants as pushed
use Rattle.constpool.specs.Descriptor.{sig_of, read_params, read_type}
use Rattle.classfile.specs.View.{ClassView}
use Rattle.decode.specs.declared.instruction.Instruction.TheVariants as instruction
use Rattle.decode.specs.declared.instruction.Placed.{Placed}
use Rattle.decode.proofs.Targets.{no_target}
use Rattle.frames.specs.Frames.{Frame}
use Rattle.frames.specs.Signatures.{class_type, field_type, field_types, result_type, signature_of, method_signature}
use Rattle.typecheck.specs.Typing.{Method, Class, IsTyping}
use Rattle.bounds.specs.Paths.{Bounds, Cost, Path, IsWithin, last_cost, after_one}
use Rattle.verdict.specs.Checked.{IsFormed}
use Rattle.jtypes.specs.declared.loader.LoadAnswer.TheVariants as load
use Rattle.verdict.specs.Machine.{State, step, start_of, here, onward}
use Rattle.verdict.specs.Sound.{IsSafe}
use Rattle.soundness.specs.Premises.{SoundnessOver, IsCheckedButForInstance}
use Rattle.soundness.proofs.StraightCode.{placed, process_with, plain_call, gone_to, each_at, EachOutcome, outcome_at, only_method, from_last, from_before, typed_methods, only_member, IsStraight, nowhere}

abbrev fetch : Placed
fetch = placed 0 1 (instruction.Load kind.Reference 1)

abbrev measure : Placed
measure = placed 1 2 instruction.ArrayLength

abbrev nothing : Placed
nothing = placed 2 3 (instruction.Push pushed.Null)

abbrev answer : Placed
answer = placed 3 4 (instruction.Return kind.Reference)

abbrev static_view : ClassView
static_view = record { pool = []; name = codes "Example"; methods = process_with 9 ∷ [] }

abbrev static_method : Method
static_method = record {
  environment = record {
    signature = record { params = type.Ref ref.MutableEntry ∷ type.Ref ref.ObjectArray ∷ []; result = Some (type.Ref ref.Object); is_boolean = false };
    max_stack = 2;
    max_locals = 3;
  };
  code = fetch ∷ measure ∷ nothing ∷ answer ∷ [];
  declared = [];
}

abbrev static_class : Class
static_class = only_method static_view static_method

abbrev static_frame : List JType → Frame
static_frame stack = record { locals = type.Ref ref.MutableEntry ∷ type.Ref ref.ObjectArray ∷ type.Top ∷ []; stack = stack }

abbrev static_frames : List Frame
static_frames = static_frame [] ∷ static_frame (type.Ref ref.ObjectArray ∷ []) ∷ static_frame (type.Int ∷ []) ∷ static_frame (type.Null ∷ type.Int ∷ []) ∷ []

static_outcomes : EachOutcome static_view static_method static_frames static_method.code static_frames
static_outcomes = (
  (static_frame (type.Ref ref.ObjectArray ∷ []), refl, record { branches = λ t h. absurd (nowhere t h); falls = λ h. refl; after = λ h k. absurd cc }),
  (
    (static_frame (type.Int ∷ []), refl, record { branches = λ t h. absurd (nowhere t h); falls = λ h. refl; after = λ h k. absurd cc }),
    (
      (static_frame (type.Null ∷ type.Int ∷ []), refl, record { branches = λ t h. absurd (nowhere t h); falls = λ h. refl; after = λ h k. absurd cc }),
      ((static_frame (type.Null ∷ type.Int ∷ []), refl, record { branches = λ t h. absurd (nowhere t h); falls = λ h. absurd cc; after = λ h k. absurd cc }), tt),
    ),
  ),
)

static_typing : IsTyping static_view static_method static_frames
static_typing = record {
  each_has_one = refl;
  first = refl;
  stands = λ p d h. absurd cc;
  outcome = λ q p f h k. outcome_at static_view static_method static_frames static_method.code static_frames static_outcomes q p f h k;
  last = (answer, refl, refl);
}

static_formed : IsFormed static_method
static_formed = record {
  params = ((λ h. cc h), ((λ h. cc h), tt));
  result = ((λ h. cc h), tt);
  room = omega arith;
  declared = λ p d h. absurd cc;
  forward = λ q r p h k. absurd (no_target p.instruction (pos r) (each_at IsStraight static_method.code (refl, (refl, (refl, (refl, tt)))) q p h) k);
  consecutive = (refl, omega arith, (refl, omega arith, (refl, omega arith, (refl, omega arith, tt))));
  lengths = λ q p k h e. absurd (each_at (λ p. p.instruction ≡ instruction.NewArray k → ⊥) static_method.code ((λ e. cc e), ((λ e. cc e), ((λ e. cc e), ((λ e. cc e), tt)))) q p h e);
}

static_signed : method_signature static_view (process_with 9) ≡ Some static_method.environment.signature
unfolding sig_of read_params read_type class_type field_type field_types result_type signature_of method_signature
static_signed = refl

abbrev static_cost : Cost
static_cost = record { steps = 4; words = 0; slots = 5; depth = 1 }

abbrev static_bounds : Bounds
static_bounds = record { steps = 4; words = 0; slots = 5; depth = 1 }

static_paths : (k : Cost) → Path static_class 0 0 k → k ≡ static_cost
static_paths k p =
    from_before static_view static_method 0 fetch refl (record { stays = refl; straight = refl; lone = refl }) (after_one 0 (after_one 0 (last_cost static_method)))
    (from_before static_view static_method 1 measure refl (record { stays = refl; straight = refl; lone = refl }) (after_one 0 (last_cost static_method))
    (from_before static_view static_method 2 nothing refl (record { stays = refl; straight = refl; lone = refl }) (last_cost static_method)
    (from_last static_view static_method 3 answer refl (record { over = refl; straight = refl; lone = refl }))))
    0 0 k refl p

static_within : (k : Cost) → k ≡ static_cost → IsWithin k static_bounds
static_within k e = subst (λ x. IsWithin x static_bounds) (sym e) (record { steps = omega arith; words = omega arith; slots = omega arith; depth = omega arith })

abbrev static_start : State
static_start = start_of 0 static_method plain_call

abbrev static_next : State
static_next = gone_to static_start (step static_class static_start)

-- The step is stuck, because the entry has no array length.
static_stuck : IsSafe static_class static_bounds → ⊥
static_stuck h = let n = h.never_stuck plain_call static_start static_next refl (onward load.None here refl) load.None in cc n.1

pub instance_is_needed : SoundnessOver IsCheckedButForInstance → ⊥
instance_is_needed law =
    static_stuck (law static_class 0 static_bounds (typed_methods static_view (process_with 9) static_method refl static_signed static_frames static_typing (refl, (refl, (refl, (refl, tt)))), refl, only_member IsFormed static_view static_method static_formed) refl (λ k p. static_within k (static_paths k p)))
