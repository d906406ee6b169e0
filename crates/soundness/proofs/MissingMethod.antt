-- A class with fewer methods than its view gets stuck at a call of a missing method.
use Rattle.std.proofs.Common.{◌≡◌, ℕ, zero, suc, ◌<◌, true, false, List, [], ◌∷◌, Some, None, refl, sym, ap, subst, arith}
use Rattle.std.specs.Prelude.{codes, pos, slice_get}
use Rattle.jtypes.specs.declared.types.JType.TheVariants as type
use Rattle.jtypes.specs.declared.types.RefValue.TheVariants as reference
use Rattle.jtypes.specs.declared.types.Value.TheVariants as value
use Rattle.jtypes.specs.declared.operations.Kind.TheVariants as kind
use Rattle.jtypes.specs.declared.operations.Invoke.TheVariants.{Static}
use Rattle.jtypes.specs.declared.operations.Pushed.TheVariants as pushed
use Rattle.constpool.specs.declared.constant.Constant.TheVariants as constant
use Rattle.constpool.specs.Lookup.{Slot, utf8_at, class_at, pair_at, member_of, method_at}
use Rattle.constpool.specs.Descriptor.{sig_of, read_params, read_type}
use Rattle.classfile.specs.View.{ClassView, MethodView}
use Rattle.decode.specs.declared.instruction.Instruction.TheVariants as instruction
use Rattle.decode.specs.declared.instruction.Placed.{Placed}
use Rattle.decode.specs.Places.{IsTarget, is_return}
use Rattle.decode.proofs.Targets.{no_target}
use Rattle.frames.specs.Frames.{Frame}
use Rattle.frames.specs.declared.members.Reached.TheVariants.{Own}
use Rattle.frames.specs.Signatures.{class_type, field_type, field_types, result_type, signature_of, method_signature, is_static}
use Rattle.frames.specs.Members.{library_rows, callee_at}
use Rattle.transfer.specs.Transfer.{called, transfer}
use Rattle.typecheck.specs.Typing.{Method, Class, IsProcessOf, IsTyping, IsWellTyped, instruction_at, own_of, call_of}
use Rattle.bounds.specs.Recursion.{IsOrdered}
use Rattle.bounds.specs.Paths.{Bounds, Cost, StandsAt, Path, ends, jumps, falls, calls}
use Rattle.verdict.specs.Checked.{IsMember, IsFormed}
use Rattle.jtypes.specs.declared.loader.LoadAnswer.TheVariants as load
use Rattle.verdict.specs.Machine.{State, step, invoke, with_place, activation_of, start_of, here}
use Rattle.verdict.specs.Sound.{IsSafe}
use Rattle.soundness.specs.Example.{process, signature}
use Rattle.soundness.specs.Premises.{SoundnessOver}
use Rattle.soundness.specs.OtherPremises.{IsSigned, SomeIsNeverSafe, IsCheckedButForCount}
use Rattle.soundness.proofs.StraightCode.{placed, plain_call, each_at, one_at, EachOutcome, outcome_at, IsStraight, nowhere}
use Rattle.soundness.proofs.SmallClasses.{method_with, frame, plain_params, plain_result, nothing}

-- The constant pool, with `help` of the class at index 1.
abbrev pool : List Slot
pool =
    Some (constant.Methodref 2 3) ∷ Some (constant.Class 4) ∷ Some (constant.NameAndType 5 6)
    ∷ Some (constant.Utf8 (codes "Example")) ∷ Some (constant.Utf8 (codes "help")) ∷ Some (constant.Utf8 (codes "()V")) ∷ []

-- `public static void help()`
abbrev help : MethodView
help = record { flags = 9; name = codes "help"; descriptor = codes "()V" }

abbrev view : ClassView
view = record { pool = pool; name = codes "Example"; methods = process ∷ help ∷ [] }

abbrev call : Placed
call = placed 0 3 (instruction.Invoke Static 1)

abbrev null : Placed
null = placed 3 4 (instruction.Push pushed.Null)

abbrev answer : Placed
answer = placed 4 5 (instruction.Return kind.Reference)

abbrev method : Method
method = method_with signature 1 (call ∷ null ∷ answer ∷ []) []

abbrev class : Class
class = record { view = view; methods = method ∷ [] }

abbrev frames : List Frame
frames = frame [] ∷ frame [] ∷ frame (type.Null ∷ []) ∷ []

reached : callee_at view Static 1 ≡ Some (record { reached = Own 1; params = []; result = None })
unfolding callee_at library_rows method_at member_of class_at pair_at utf8_at sig_of read_params read_type class_type field_type field_types result_type signature_of method_signature
reached = refl

signed : method_signature view process ≡ Some signature
unfolding sig_of read_params read_type class_type field_type field_types result_type signature_of method_signature
signed = refl

own_call : call_of view call.instruction ≡ Some 1
own_call = ap own_of reached

returned : transfer view method.environment call.instruction (frame []) ≡ Some (frame [])
returned = ap (called method.environment (frame [])) reached

outcomes : EachOutcome view method frames method.code frames
outcomes = (
  (frame [], returned, record { branches = λ t h. absurd (nowhere t h); falls = λ h. refl; after = λ h k. absurd cc }),
  (
    (frame (type.Null ∷ []), refl, record { branches = λ t h. absurd (nowhere t h); falls = λ h. refl; after = λ h k. absurd cc }),
    ((frame (type.Null ∷ []), refl, record { branches = λ t h. absurd (nowhere t h); falls = λ h. absurd cc; after = λ h k. absurd cc }), tt),
  ),
)

typing : IsTyping view method frames
typing = record {
  each_has_one = refl;
  first = refl;
  stands = λ p d h. absurd cc;
  outcome = λ q p f h k. outcome_at view method frames method.code frames outcomes q p f h k;
  last = (answer, refl, refl);
}

formed : IsFormed method
formed = record {
  params = plain_params;
  result = plain_result;
  room = omega arith;
  declared = λ p d h. absurd cc;
  forward = λ q r p h k. absurd (no_target p.instruction (pos r) (each_at IsStraight method.code (refl, (refl, (refl, tt))) q p h) k);
  consecutive = (refl, omega arith, (refl, omega arith, (refl, omega arith, tt)));
  lengths = λ q p k h e. absurd (each_at (λ p. p.instruction ≡ instruction.NewArray k → ⊥) method.code ((λ e. cc e), ((λ e. cc e), ((λ e. cc e), tt))) q p h e);
}

-- ---- the class

is_instance : (j : ℕ) (w : MethodView) → IsProcessOf class j → slice_get view.methods j ≡ Some w → is_static w.flags ≡ false
is_instance zero w is h = let same : process ≡ w = cc h in subst (λ (x : MethodView). is_static x.flags ≡ false) same refl
is_instance (suc j) w is h = absurd (cc is)

all_signed : IsSigned class
all_signed zero w m h k =
    let same : process ≡ w = cc h in
    let is : method ≡ m = cc k in
    subst (λ x. method_signature view w ≡ Some x.environment.signature) is (subst (λ x. method_signature view x ≡ Some signature) same signed)
all_signed (suc j) w m h k = absurd (cc k)

-- `process` only calls `help`.
abbrev rank : ℕ → ℕ
rank zero = 1
rank (suc j) = 0

called_at : (j place k : ℕ) (m : Method) (p : Placed) → slice_get class.methods j ≡ Some m → instruction_at m place ≡ Some p → call_of view p.instruction ≡ Some k → k ≡ 1
called_at j place k m p found at is =
    let there : instruction_at method place ≡ Some p = subst (λ x. instruction_at x place ≡ Some p) (sym (one_at method j m found)) at in
    each_at (λ p. call_of view p.instruction ≡ Some k → k ≡ 1) method.code ((λ e. cc (e, own_call)), ((λ e. absurd cc), ((λ e. absurd cc), tt))) place p there is

ordered : IsOrdered class rank
ordered zero k h = subst (λ n. rank n < 1) (sym (called_at zero h.1 k h.0 h.2 h.3 h.4 h.5)) (omega arith)
ordered (suc j) k h = let none = h.3 in absurd (cc none)

-- ---- the paths

starts : (j : ℕ) (m : Method) (p : Placed) → StandsAt class j 0 m p → call ≡ p
starts j m p s =
    let at : instruction_at method 0 ≡ Some p = subst (λ x. instruction_at x 0 ≡ Some p) (sym (one_at method j m s.method)) s.instruction in
    cc at

no_method : (j : ℕ) (m : Method) → j ≡ 1 → slice_get class.methods j ≡ Some m → ⊥
no_method zero m e h = cc e
no_method (suc j) m e h = cc h

no_help : (j place : ℕ) (k : Cost) → j ≡ 1 → Path class j place k → ⊥
no_help j place k e (ends m p s r) = no_method j m e s.method
no_help j place k e (jumps m p q s to rest) = no_method j m e s.method
no_help j place k e (falls m p s on none rest) = no_method j m e s.method
no_help j place k e (calls m p callee s to inner rest) = no_method j m e s.method

-- There is no path from the start of a method.
no_path : (j place : ℕ) (k : Cost) → place ≡ 0 → Path class j place k → ⊥
no_path j place k e (ends m p s r) =
    let same = starts j m p (subst (λ n. StandsAt class j n m p) e s) in
    let no : false ≡ true = subst (λ (x : Placed). is_return x.instruction ≡ true) (sym same) r in
    cc no
no_path j place k e (jumps m p q s to rest) =
    let same = starts j m p (subst (λ n. StandsAt class j n m p) e s) in
    no_target call.instruction (pos q) refl (subst (λ (x : Placed). IsTarget x.instruction (pos q)) (sym same) to)
no_path j place k e (falls m p s on none rest) =
    let same = starts j m p (subst (λ n. StandsAt class j n m p) e s) in
    let no : call_of view call.instruction ≡ None = subst (λ (x : Placed). call_of view x.instruction ≡ None) (sym same) none in
    absurd (cc (no, own_call))
no_path j place k e (calls {e = inside} m p callee s to inner rest) = no_help callee 0 inside (called_at j place callee m p s.method s.instruction to) inner

abbrev first : State
first = start_of 0 method plain_call

no_step : step class first ≡ None
no_step = ap (invoke class first (with_place (activation_of 0 method (value.Ref reference.Args ∷ value.Ref reference.Entry ∷ value.Ref reference.This ∷ [])) 3) [] Static) reached

stuck : (b : Bounds) → IsSafe class b → ⊥
stuck b h = let n = h.never_stuck plain_call first first refl here load.None in let e = n.1 in cc (e, no_step)

checked : IsCheckedButForCount class
checked = (refl, is_instance, all_signed, only IsFormed formed, only (IsWellTyped view) (frames, typing), (rank, ordered))
  where
    only : (P : Method → Type 0) → P method → (j : ℕ) (w : MethodView) (x : Method) → IsMember class j w x → P x
    only P h j w x is = subst P (one_at method j x is.method) h

pub count_is_needed : SoundnessOver IsCheckedButForCount → ⊥
count_is_needed law = stuck nothing (law class 0 nothing checked refl (λ k p. absurd (no_path 0 0 k refl p)))

pub never_safe : SomeIsNeverSafe IsCheckedButForCount
never_safe = (class, checked, stuck)
