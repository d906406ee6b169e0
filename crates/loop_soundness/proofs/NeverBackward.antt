-- The read of an instruction never stops with the refusal of a branch that leads back, since only whole codes have it.
use Rattle.std.specs.Int.{int_gap}
use Rattle.std.proofs.Common.{zero, suc, pos, Bool, if◌then◌else◌, ◌≡◌, ℕ, true, false, List, Option, Some, None, inl, inr}
use Rattle.jtypes.specs.declared.refusal.Refusal.{Refusal}
use Rattle.jtypes.specs.declared.refusal.Refusal.TheVariants.{BackwardBranch, OutsideProfile, BadOperand, TrailingBytes}
use Rattle.jtypes.specs.declared.types.Exception.{Exception}
use Rattle.jtypes.specs.Layout.{Layout, known, part_or, followed, judged, stopped, chosen, ended, operand, many, Stands}
use Rattle.constpool.specs.declared.constant.Constant.TheVariants as constant
use Rattle.constpool.specs.Lookup.{Slot, constant_at, class_at, field_at}
use Rattle.decode.specs.declared.instruction.Form.{Form}
use Rattle.decode.specs.declared.instruction.Form.TheVariants as form
use Rattle.decode.specs.Code.{one, by_form, operands, signed_byte, signed_short, signed_word, far_target, switch_case, keys_between, is_wide_elsewhere, refused_wide, widened, int_constant, long_constant, array_of_code, boolean_constant, static_constant, exception_of, thrown_if, made_and_thrown, thrown_with, thrown_by, StopsWith}
use Rattle.decode.specs.Table.{form_at}
use Rattle.jtypes.specs.Profile.{Profile, Third}

-- `IsNever` holds if the layout has no part with this refusal
abbrev IsNever : {A : Type 0} → Refusal → Layout A → Type 0
IsNever r (known x) = Unit {0}
IsNever r (part_or q n) = r ≡ q → ⊥
IsNever r (followed {A = A} l f) = IsNever r l × ((x : A) → IsNever r (f x))
IsNever r (judged q b) = r ≡ q → ⊥
IsNever r (stopped q) = r ≡ q → ⊥
IsNever r (chosen b l m) = IsNever r l × IsNever r m
IsNever r ended = r ≡ TrailingBytes → ⊥

never : {A : Type 0} (r : Refusal) (l : Layout A) → IsNever r l → (bytes : List ℕ) → Stands l bytes r → ⊥
never r (known x) h bytes s = s
never r (part_or q n) h bytes s = h s.0
never r (followed l f) h bytes (inl s) = never r l h.0 bytes s
never r (followed l f) h bytes (inr s) = never r (f s.0) (h.1 s.0) s.2 s.5
never r (judged q b) h bytes s = h s.0
never r (stopped q) h bytes s = h s
never r (chosen true l m) h bytes s = never r l h.0 bytes s
never r (chosen false l m) h bytes s = never r m h.1 bytes s
never r ended h bytes s = h s.0

-- ---- an instruction

number_never : (n : ℕ) → IsNever BackwardBranch (operand n)
unfolding operand
number_never n = ((λ e. cc e), λ x. tt)

int_never : (opcode : ℕ) (s : Slot) → IsNever BackwardBranch (int_constant opcode s)
unfolding int_constant
int_never opcode None = λ e. cc e
int_never opcode (Some (constant.Integer value)) = tt
int_never opcode (Some c) = λ e. cc e

long_never : (opcode : ℕ) (s : Slot) → IsNever BackwardBranch (long_constant opcode s)
unfolding long_constant
long_never opcode None = λ e. cc e
long_never opcode (Some (constant.Long value)) = tt
long_never opcode (Some c) = λ e. cc e

word_never : IsNever BackwardBranch signed_word
unfolding signed_word
word_never = (number_never 4, λ x. tt)

far_never : (at : ℕ) → IsNever BackwardBranch (far_target at)
unfolding far_target
far_never at = (word_never, λ x. tt)

case_never : (at : ℕ) → IsNever BackwardBranch (switch_case at)
unfolding switch_case
case_never at = (word_never, λ k. (far_never at, λ t. tt))

many_never : {A : Type 0} (n : ℕ) (l : Layout A) → IsNever BackwardBranch l → IsNever BackwardBranch (many n l)
unfolding many
many_never zero l h = tt
many_never (suc n) l h = (h, λ x. (many_never n l h, λ xs. tt))

refused_never : (opcode : ℕ) → BackwardBranch ≡ refused_wide opcode → ⊥
refused_never opcode = go (is_wide_elsewhere opcode)
  where
    go : (b : Bool) → BackwardBranch ≡ (if b then OutsideProfile opcode else BadOperand) → ⊥
    go true e = cc e
    go false e = cc e

wide_never : (opcode : ℕ) (f : Option Form) → IsNever BackwardBranch (widened opcode f)
unfolding widened signed_short
wide_never opcode (Some (form.Load kind)) = (number_never 2, λ x. tt)
wide_never opcode (Some (form.Store kind)) = (number_never 2, λ x. tt)
wide_never opcode (Some form.Increment) = (number_never 2, λ n. ((number_never 2, λ x. tt), λ x. tt))
wide_never opcode (Some f) = refused_never opcode
wide_never opcode None = refused_never opcode

static_never : (opcode : ℕ) (b : Option Bool) → IsNever BackwardBranch (static_constant opcode b)
unfolding static_constant
static_never opcode None = λ e. cc e
static_never opcode (Some b) = tt

if_never : (opcode text : ℕ) (e : Option Exception) → IsNever BackwardBranch (thrown_if opcode text e)
unfolding thrown_if
if_never opcode text None = λ e. cc e
if_never opcode text (Some e) = tt

made_never : (pool : List Slot) (opcode class text : ℕ) → IsNever BackwardBranch (made_and_thrown pool opcode class text)
unfolding made_and_thrown
made_never pool opcode class text = (number_never 2, λ m. (number_never 1, λ l. ((tt, λ e. cc e), λ u. if_never opcode text (exception_of (class_at pool class)))))

text_never : (pool : List Slot) (opcode class text : ℕ) → IsNever BackwardBranch (thrown_with pool opcode class text)
unfolding thrown_with
text_never pool opcode class text = (number_never 1, λ c. ((tt, λ e. cc e), λ u. made_never pool opcode class text))

thrown_never : (pool : List Slot) (opcode class next : ℕ) → IsNever BackwardBranch (thrown_by pool opcode class next)
unfolding thrown_by
thrown_never pool opcode class next =
    (made_never pool opcode class 0, ((number_never 1, λ t. text_never pool opcode class t), ((number_never 2, λ t. text_never pool opcode class t), λ e. cc e)))

operands_never : (pool : List Slot) (at opcode : ℕ) (f : Form) → IsNever BackwardBranch (operands pool at opcode f)
unfolding operands signed_byte signed_short signed_word array_of_code
operands_never pool at opcode (form.Alone i) = tt
operands_never pool at opcode form.PushByte = ((number_never 1, λ x. tt), λ x. tt)
operands_never pool at opcode form.PushShort = ((number_never 2, λ x. tt), λ x. tt)
operands_never pool at opcode form.IntConstant = (number_never 1, λ i. int_never opcode (constant_at pool i))
operands_never pool at opcode form.WideIntConstant = (number_never 2, λ i. int_never opcode (constant_at pool i))
operands_never pool at opcode form.LongConstant = (number_never 2, λ i. long_never opcode (constant_at pool i))
operands_never pool at opcode (form.Load kind) = (number_never 1, λ x. tt)
operands_never pool at opcode (form.Store kind) = (number_never 1, λ x. tt)
operands_never pool at opcode form.Increment = (number_never 1, λ n. ((number_never 1, λ x. tt), λ x. tt))
operands_never pool at opcode (form.Branch test) = ((number_never 2, λ x. tt), λ x. tt)
operands_never pool at opcode form.Goto = ((number_never 2, λ x. tt), λ x. tt)
operands_never pool at opcode form.Wide = (number_never 1, λ o. wide_never o (form_at Third o))
operands_never pool at opcode form.TableSwitch =
    ((λ e. cc e), λ s. (far_never at, λ d. (word_never, λ low. (word_never, λ high. ((tt, λ e. cc e), λ u. (many_never (keys_between low high) (far_target at) (far_never at), λ ts. tt))))))
operands_never pool at opcode form.LookupSwitch =
    ((λ e. cc e), λ s. (far_never at, λ d. (word_never, λ n. ((tt, λ e. cc e), λ u. (many_never (int_gap (pos 0) n) (switch_case at) (case_never at), λ cs. ((tt, λ e. cc e), λ v. tt))))))
operands_never pool at opcode form.GotoWide = (far_never at, λ x. tt)
operands_never pool at opcode (form.Invoke kind) = (number_never 2, λ i. ((tt, λ e. cc e), λ x. tt))
operands_never pool at opcode form.InvokeInterface = (number_never 2, λ i. (number_never 1, λ n. (number_never 1, λ z. ((tt, λ e. cc e), λ x. tt))))
operands_never pool at opcode form.NewArray = (number_never 1, λ code. (tt, (tt, ((λ e. cc e), λ e. cc e))))
operands_never pool at opcode form.CheckCast = (number_never 2, λ i. ((tt, λ e. cc e), λ x. tt))
operands_never pool at opcode form.InstanceOf = (number_never 2, λ i. ((tt, λ e. cc e), λ x. tt))
operands_never pool at opcode form.StaticField = (number_never 2, λ i. ((tt, λ e. cc e), λ u. static_never opcode (boolean_constant (field_at pool i))))
operands_never pool at opcode form.Throw = (number_never 2, λ i. ((tt, λ e. cc e), λ u. (number_never 1, λ d. ((tt, λ e. cc e), λ v. (number_never 1, λ n. thrown_never pool opcode i n)))))

form_never : (pool : List Slot) (at opcode : ℕ) (f : Option Form) → IsNever BackwardBranch (by_form pool at opcode f)
unfolding by_form
form_never pool at opcode None = ((λ e. cc e), λ e. cc e)
form_never pool at opcode (Some f) = operands_never pool at opcode f

one_never : (profile : Profile) (pool : List Slot) (at : ℕ) → IsNever BackwardBranch (one profile pool at)
unfolding one
one_never profile pool at = (number_never 1, λ opcode. form_never pool at opcode (form_at profile opcode))

-- ---- a code

pub never_stops_with : (profile : Profile) (pool : List Slot) (bytes : List ℕ) → StopsWith profile pool bytes BackwardBranch → ⊥
never_stops_with profile pool bytes s = never BackwardBranch (one profile pool _) (one_never profile pool _) s.2 s.6
