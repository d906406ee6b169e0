-- A method that calls itself has no path, and no bounds hold for it.
use Rattle.std.proofs.Common.{◌≡◌, ℕ, zero, suc, ◌<◌, true, List, [], ◌∷◌, length, Option, Some, None, refl, sym, ap, subst, arith}
use Rattle.std.specs.Prelude.{codes, pos}
use Rattle.jtypes.specs.declared.types.RefType.TheVariants as ref
use Rattle.jtypes.specs.declared.types.JType.TheVariants as type
use Rattle.jtypes.specs.declared.types.RefValue.TheVariants as reference
use Rattle.jtypes.specs.declared.types.Value.{Value}
use Rattle.jtypes.specs.declared.types.Value.TheVariants as value
use Rattle.jtypes.specs.declared.operations.Kind.TheVariants as kind
use Rattle.jtypes.specs.declared.operations.Invoke.TheVariants.{Virtual}
use Rattle.constpool.specs.declared.constant.Constant.TheVariants as constant
use Rattle.constpool.specs.Lookup.{Slot, utf8_at, class_at, pair_at, member_of, method_at}
use Rattle.constpool.specs.Descriptor.{sig_of, read_params, read_type}
use Rattle.constpool.specs.Names.{process_name, process_descriptor}
use Rattle.classfile.specs.View.{ClassView}
use Rattle.decode.specs.declared.instruction.Instruction.TheVariants as instruction
use Rattle.decode.specs.declared.instruction.Placed.{Placed}
use Rattle.decode.specs.Places.{falls_through, is_return}
use Rattle.decode.proofs.Targets.{no_target}
use Rattle.frames.specs.Frames.{Frame}
use Rattle.frames.specs.declared.members.Reached.TheVariants.{Own}
use Rattle.frames.specs.Signatures.{class_type, field_type, field_types, result_type, signature_of, method_signature}
use Rattle.frames.specs.Members.{library_rows, callee_at}
use Rattle.transfer.specs.Transfer.{called, transfer}
use Rattle.typecheck.specs.Typing.{Method, Class, IsTyping, IsWellTyped, instruction_at, own_of, call_of}
use Rattle.bounds.specs.Paths.{Bounds, Cost, StandsAt, Path, ends, jumps, falls, calls}
use Rattle.verdict.specs.Checked.{IsFormed}
use Rattle.verdict.specs.Machine.{Activation, State, Goes, step, step_top, is_get_next, invoke, start_of, Reaches, here}
use Rattle.soundness.proofs.Unasked.{goes_unasked}
use Rattle.verdict.specs.Sound.{IsSafe}
use Rattle.soundness.specs.Example.{process, signature}
use Rattle.soundness.specs.Premises.{SoundnessOver}
use Rattle.soundness.specs.OtherPremises.{SomeIsNeverSafe, IsCheckedButForRanks}
use Rattle.soundness.proofs.StraightCode.{placed, plain_call, each_at, at_its_place, one_at, EachOutcome, outcome_at, only_method, only_member, only_instance, IsStraight, nowhere}
use Rattle.soundness.proofs.SmallClasses.{view_with, method_with, only_signed, frame, plain_params, plain_result, nothing}

-- The constant pool, with `process` of the class at index 1.
abbrev pool : List Slot
pool =
    Some (constant.Methodref 2 3) ∷ Some (constant.Class 4) ∷ Some (constant.NameAndType 5 6)
    ∷ Some (constant.Utf8 (codes "Example")) ∷ Some (constant.Utf8 process_name) ∷ Some (constant.Utf8 process_descriptor) ∷ []

abbrev view : ClassView
view = view_with pool

abbrev self : Placed
self = placed 0 1 (instruction.Load kind.Reference 0)

abbrev entry : Placed
entry = placed 1 2 (instruction.Load kind.Reference 1)

abbrev arguments : Placed
arguments = placed 2 3 (instruction.Load kind.Reference 2)

abbrev call : Placed
call = placed 3 6 (instruction.Invoke Virtual 1)

abbrev answer : Placed
answer = placed 6 7 (instruction.Return kind.Reference)

abbrev method : Method
method = method_with signature 3 (self ∷ entry ∷ arguments ∷ call ∷ answer ∷ []) []

abbrev class : Class
class = only_method view method

abbrev with_self : Frame
with_self = frame (type.Ref ref.This ∷ [])

abbrev with_entry : Frame
with_entry = frame (type.Ref ref.MutableEntry ∷ type.Ref ref.This ∷ [])

abbrev with_arguments : Frame
with_arguments = frame (type.Ref ref.ObjectArray ∷ type.Ref ref.MutableEntry ∷ type.Ref ref.This ∷ [])

abbrev with_result : Frame
with_result = frame (type.Ref ref.Object ∷ [])

abbrev frames : List Frame
frames = frame [] ∷ with_self ∷ with_entry ∷ with_arguments ∷ with_result ∷ []

reached : callee_at view Virtual 1 ≡ Some (record { reached = Own 0; params = signature.params; result = signature.result })
unfolding callee_at library_rows method_at member_of class_at pair_at utf8_at sig_of read_params read_type class_type field_type field_types result_type signature_of method_signature
reached = refl

own_call : call_of view call.instruction ≡ Some 0
own_call = ap own_of reached

returned : transfer view method.environment call.instruction with_arguments ≡ Some with_result
returned = ap (called method.environment with_arguments) reached

outcomes : EachOutcome view method frames method.code frames
outcomes = (
  (with_self, refl, record { branches = λ t h. absurd (nowhere t h); falls = λ h. refl; after = λ h k. absurd cc }),
  (
    (with_entry, refl, record { branches = λ t h. absurd (nowhere t h); falls = λ h. refl; after = λ h k. absurd cc }),
    (
      (with_arguments, refl, record { branches = λ t h. absurd (nowhere t h); falls = λ h. refl; after = λ h k. absurd cc }),
      (
        (with_result, returned, record { branches = λ t h. absurd (nowhere t h); falls = λ h. refl; after = λ h k. absurd cc }),
        ((with_result, refl, record { branches = λ t h. absurd (nowhere t h); falls = λ h. absurd cc; after = λ h k. absurd cc }), tt),
      ),
    ),
  ),
)

typing : IsTyping view method frames
typing = record {
  each_has_one = refl;
  first = refl;
  stands = λ p d h. absurd cc;
  outcome = λ q p f h k. outcome_at view method frames method.code frames outcomes q p f h k;
  last = (answer, refl, refl);
}

formed : IsFormed method
formed = record {
  params = plain_params;
  result = plain_result;
  room = omega arith;
  declared = λ p d h. absurd cc;
  forward = λ q r p h k. absurd (no_target p.instruction (pos r) (each_at IsStraight method.code (refl, (refl, (refl, (refl, (refl, tt))))) q p h) k);
  consecutive = (refl, omega arith, (refl, omega arith, (refl, omega arith, (refl, omega arith, (refl, omega arith, tt)))));
  lengths = λ q p k h e. absurd (each_at (λ p. p.instruction ≡ instruction.NewArray k → ⊥) method.code ((λ e. cc e), ((λ e. cc e), ((λ e. cc e), ((λ e. cc e), ((λ e. cc e), tt))))) q p h e);
}

found_at : (j place : ℕ) (m : Method) (p : Placed) → StandsAt class j place m p → instruction_at method place ≡ Some p
found_at j place m p s = subst (λ x. instruction_at x place ≡ Some p) (sym (one_at method j m s.method)) s.instruction

-- There is no path from a pc before the return.
no_path : (j place : ℕ) (k : Cost) → Path class j place k → place < 6 → ⊥
no_path j place k (ends m p s r) l =
    let at : p.place ≡ place = at_its_place method.code place p (found_at j place m p s) in
    let last : p.place ≡ 6 = each_at (λ p. is_return p.instruction ≡ true → p.place ≡ 6) method.code ((λ e. absurd cc), ((λ e. absurd cc), ((λ e. absurd cc), ((λ e. absurd cc), ((λ e. refl), tt))))) place p (found_at j place m p s) r in
    omega (arith, at, last, l)
no_path j place k (jumps {k = rest} m p q s to path) l =
    no_target p.instruction (pos q) (each_at IsStraight method.code (refl, (refl, (refl, (refl, (refl, tt))))) place p (found_at j place m p s)) to
no_path j place k (falls {k = rest} m p s on none path) l =
    let before : p.next < 6 = each_at (λ p. falls_through p.instruction ≡ true → call_of view p.instruction ≡ None → p.next < 6) method.code ((λ e n. omega arith), ((λ e n. omega arith), ((λ e n. omega arith), ((λ e n. absurd (cc (n, own_call))), ((λ e n. absurd cc), tt))))) place p (found_at j place m p s) on none in
    no_path j p.next rest path before
no_path j place k (calls {e = inside} m p callee s to inner path) l = no_path callee 0 inside inner (omega arith)

-- ---- the calls

abbrev locals : List (Option Value)
locals = Some (value.Ref reference.This) ∷ Some (value.Ref reference.Entry) ∷ Some (value.Ref reference.Args) ∷ []

-- The activation at the start of the method, and after its call.
abbrev entered : Activation
entered = record { method = 0; place = 0; locals = locals; operands = [] }

abbrev waiting : Activation
waiting = record { method = 0; place = 6; locals = locals; operands = [] }

abbrev going : ℕ → List Value → Activation
going place operands = record { method = 0; place = place; locals = locals; operands = operands }

-- The state with other steps and activations.
abbrev later : State → ℕ → List Activation → State
later s n a = record { call = s.call; activations = a; arrays = s.arrays; now = s.now; steps = n; words = s.words }

abbrev first : State
first = start_of 0 method plain_call

-- Four steps make the calls one level deeper.
deeper : (s : State) (below : List Activation) → s.activations ≡ entered ∷ below → Reaches class first s → Reaches class first (later s (suc (suc (suc (suc s.steps)))) (entered ∷ waiting ∷ below))
deeper s below e reach =
    let one : State = later s (suc s.steps) (going 1 (value.Ref reference.This ∷ []) ∷ below) in
    let two : State = later s (suc (suc s.steps)) (going 2 (value.Ref reference.Entry ∷ value.Ref reference.This ∷ []) ∷ below) in
    let three : State = later s (suc (suc (suc s.steps))) (going 3 (value.Ref reference.Args ∷ value.Ref reference.Entry ∷ value.Ref reference.This ∷ []) ∷ below) in
    let four : State = later s (suc (suc (suc (suc s.steps)))) (entered ∷ waiting ∷ below) in
    let to_one : step class s ≡ Some (Goes one) = subst (λ a. step_top class s a ≡ Some (Goes one)) (sym e) refl in
    let to_two : step class one ≡ Some (Goes two) = refl in
    let to_three : step class two ≡ Some (Goes three) = refl in
    let to_four : step class three ≡ Some (Goes four) = ap (invoke class three (going 6 (value.Ref reference.Args ∷ value.Ref reference.Entry ∷ value.Ref reference.This ∷ [])) below Virtual) reached in
    goes_unasked (goes_unasked (goes_unasked (goes_unasked reach (ap (is_get_next class) e) to_one) refl to_two) refl to_three) refl to_four

-- Each call depth is reachable.
nested : (n : ℕ) → (s : State) × (below : List Activation) × (s.activations ≡ entered ∷ below) × (length below ≡ n) × Reaches class first s
nested zero = (first, [], refl, refl, here)
nested (suc n) =
    let r = nested n in
    (later r.0 (suc (suc (suc (suc r.0.steps)))) (entered ∷ waiting ∷ r.1), waiting ∷ r.1, refl, ap suc r.3, deeper r.0 r.1 r.2 r.4)

too_deep : (b : Bounds) → IsSafe class b → ⊥
too_deep b h =
    let r = nested b.depth in
    let depth = (h.stays plain_call first r.0 refl r.4).depth in
    let more : length r.0.activations ≡ suc (length r.1) = ap length r.2 in
    let n : length r.1 ≡ b.depth = r.3 in
    omega (arith, depth, more, n)

checked : IsCheckedButForRanks class
checked = (refl, (λ j w is. only_instance view process refl refl j w), refl, only_signed pool method refl, only_member IsFormed view method formed, only_member (IsWellTyped view) view method (frames, typing))

pub ranks_are_needed : SoundnessOver IsCheckedButForRanks → ⊥
ranks_are_needed law = too_deep nothing (law class 0 nothing checked refl (λ k p. absurd (no_path 0 0 k p (omega arith))))

pub never_safe : SomeIsNeverSafe IsCheckedButForRanks
never_safe = (class, checked, too_deep)
