-- The keys of each `lookupswitch` in a sequence of instructions are strictly increasing.
use Rattle.std.proofs.Common.{ℕ, zero, suc, ◌+◌, ◌<◌, Bool, true, false, List, [], ◌∷◌, length, get_or, Option, Some, None, refl, sym, subst, arith}
use Rattle.std.specs.Prelude.{IsTrue}
use Rattle.jtypes.specs.declared.types.Exception.{Exception}
use Rattle.jtypes.specs.Layout.{Layout, known, part_or, followed, judged, stopped, chosen, ended, needed, IsLaidOut}
use Rattle.jtypes.specs.declared.refusal.Refusal.TheVariants.{BadOperand}
use Rattle.jtypes.specs.Profile.{Profile, Third}
use Rattle.constpool.specs.declared.constant.Constant.TheVariants as constant
use Rattle.constpool.specs.Lookup.{Slot, constant_at, class_at, field_at}
use Rattle.decode.specs.declared.instruction.Instruction.{Instruction}
use Rattle.decode.specs.declared.instruction.Single.{Single}
use Rattle.decode.specs.declared.instruction.Single.TheVariants as single
use Rattle.decode.specs.declared.instruction.Form.{Form}
use Rattle.decode.specs.declared.instruction.Form.TheVariants as form
use Rattle.decode.specs.declared.instruction.Placed.{Placed}
use Rattle.decode.specs.Table.{instruction_of, form_at}
use Rattle.decode.specs.Code.{keys_rise, int_constant, long_constant, array_of_code, widened, operands, by_form, one, IsSequence, boolean_constant, static_constant, exception_of, thrown_if, made_and_thrown, thrown_with, thrown_by}
use Rattle.decode.specs.Places.{has_rising_keys}
use Rattle.decode.specs.Reading.{HaveRisingKeys}

-- a structural condition for a property of all values with a layout
abbrev AllAre : {A : Type 0} → Layout A → (A → Type 0) → Type 0
AllAre (known x) P = P x
AllAre (part_or q n) P = (x : List ℕ) → P x
AllAre (followed {A = X} l f) P = (x : X) (text : List ℕ) → IsLaidOut l text x → AllAre (f x) P
AllAre (judged r b) P = (x : Unit {0}) → P x
AllAre (stopped r) P = Unit {0}
AllAre (chosen b l m) P = AllAre l P × AllAre m P
AllAre ended P = (x : Unit {0}) → P x

is_one : {A : Type 0} (l : Layout A) (P : A → Type 0) → AllAre l P → (text : List ℕ) (v : A) → IsLaidOut l text v → P v
is_one (known x) P h text v laid = subst P (sym laid.1) h
is_one (part_or q n) P h text v laid = h v
is_one (followed l f) P h text v laid = is_one (f laid.0) P (h laid.0 laid.1 laid.4) laid.2 v laid.5
is_one (judged r b) P h text v laid = h v
is_one (stopped r) P h text v laid = absurd laid
is_one (chosen true l m) P h text v laid = is_one l P h.0 text v laid
is_one (chosen false l m) P h text v laid = is_one m P h.1 text v laid
is_one ended P h text v laid = h v

abbrev Rises : Instruction → Type 0
Rises i = IsTrue (has_rising_keys i)

alone_rises : (s : Single) → Rises (instruction_of s)
alone_rises single.Nop = refl
alone_rises (single.Push constant) = refl
alone_rises (single.Load kind local) = refl
alone_rises (single.Store kind local) = refl
alone_rises (single.Operate operation) = refl
alone_rises (single.Rearrange rearrangement) = refl
alone_rises (single.Return kind) = refl
alone_rises single.ReturnVoid = refl
alone_rises (single.ArrayLoad kind) = refl
alone_rises (single.ArrayStore kind) = refl
alone_rises single.ReferenceLoad = refl
alone_rises single.ArrayLength = refl

int_rises : (opcode : ℕ) (s : Slot) → AllAre (int_constant opcode s) Rises
unfolding int_constant
int_rises opcode None = tt
int_rises opcode (Some (constant.Integer value)) = refl
int_rises opcode (Some c) = tt

long_rises : (opcode : ℕ) (s : Slot) → AllAre (long_constant opcode s) Rises
unfolding long_constant
long_rises opcode None = tt
long_rises opcode (Some (constant.Long value)) = refl
long_rises opcode (Some c) = tt

array_rises : (opcode code : ℕ) → AllAre (array_of_code opcode code) Rises
unfolding array_of_code
array_rises opcode code = (refl, (refl, (tt, tt)))

wide_rises : (opcode : ℕ) (f : Option Form) → AllAre (widened opcode f) Rises
unfolding widened
wide_rises opcode (Some (form.Load kind)) = λ x t h. refl
wide_rises opcode (Some (form.Store kind)) = λ x t h. refl
wide_rises opcode (Some form.Increment) = λ x t h y u k. refl
wide_rises opcode (Some f) = tt
wide_rises opcode None = tt

static_rises : (opcode : ℕ) (b : Option Bool) → AllAre (static_constant opcode b) Rises
unfolding static_constant
static_rises opcode None = tt
static_rises opcode (Some b) = refl

if_rises : (opcode text : ℕ) (e : Option Exception) → AllAre (thrown_if opcode text e) Rises
unfolding thrown_if
if_rises opcode text None = tt
if_rises opcode text (Some e) = refl

made_rises : (pool : List Slot) (opcode class text : ℕ) → AllAre (made_and_thrown pool opcode class text) Rises
unfolding made_and_thrown
made_rises pool opcode class text = λ m t h l t1 h1 u t2 h2. if_rises opcode text (exception_of (class_at pool class))

text_rises : (pool : List Slot) (opcode class text : ℕ) → AllAre (thrown_with pool opcode class text) Rises
unfolding thrown_with
text_rises pool opcode class text = λ c t h u t1 h1. made_rises pool opcode class text

thrown_rises : (pool : List Slot) (opcode class next : ℕ) → AllAre (thrown_by pool opcode class next) Rises
unfolding thrown_by
thrown_rises pool opcode class next = (made_rises pool opcode class 0, (λ t x h. text_rises pool opcode class t, (λ t x h. text_rises pool opcode class t, tt)))

-- the test of `needed` is true if some text has the layout
holds : (b : Bool) (text : List ℕ) (u : Unit {0}) → IsLaidOut (needed BadOperand b) text u → IsTrue b
holds true text u h = refl
holds false text u h = absurd h

operands_rise : (pool : List Slot) (at opcode : ℕ) (f : Form) → AllAre (operands pool at opcode f) Rises
unfolding operands
operands_rise pool at opcode (form.Alone s) = alone_rises s
operands_rise pool at opcode form.PushByte = λ x t h. refl
operands_rise pool at opcode form.PushShort = λ x t h. refl
operands_rise pool at opcode form.IntConstant = λ i t h. int_rises opcode (constant_at pool i)
operands_rise pool at opcode form.WideIntConstant = λ i t h. int_rises opcode (constant_at pool i)
operands_rise pool at opcode form.LongConstant = λ i t h. long_rises opcode (constant_at pool i)
operands_rise pool at opcode (form.Load kind) = λ x t h. refl
operands_rise pool at opcode (form.Store kind) = λ x t h. refl
operands_rise pool at opcode form.Increment = λ x t h y u k. refl
operands_rise pool at opcode (form.Branch test) = λ x t h. refl
operands_rise pool at opcode form.Goto = λ x t h. refl
operands_rise pool at opcode form.TableSwitch = λ s t h default t1 h1 low t2 h2 high t3 h3 u t4 h4 targets t5 h5. refl
operands_rise pool at opcode form.LookupSwitch = λ s t h default t1 h1 count t2 h2 u t3 h3 found t4 h4 v t5 h5. holds (keys_rise found) t5 v h5
operands_rise pool at opcode form.Wide = λ o t h. wide_rises o (form_at Third o)
operands_rise pool at opcode form.GotoWide = λ x t h. refl
operands_rise pool at opcode (form.Invoke kind) = λ i t h u t1 h1. refl
operands_rise pool at opcode form.InvokeInterface = λ i t h n t1 h1 z t2 h2 u t3 h3. refl
operands_rise pool at opcode form.NewArray = λ code t h. array_rises opcode code
operands_rise pool at opcode form.CheckCast = λ i t h u t1 h1. refl
operands_rise pool at opcode form.InstanceOf = λ i t h u t1 h1. refl
operands_rise pool at opcode form.StaticField = λ i t h u t1 h1. static_rises opcode (boolean_constant (field_at pool i))
operands_rise pool at opcode form.Throw = λ i t h u t1 h1 d t2 h2 v t3 h3 n t4 h4. thrown_rises pool opcode i n

form_rises : (pool : List Slot) (at opcode : ℕ) (f : Option Form) → AllAre (by_form pool at opcode f) Rises
unfolding by_form
form_rises pool at opcode (Some f) = operands_rise pool at opcode f
form_rises pool at opcode None = (tt, tt)

one_rises : (profile : Profile) (pool : List Slot) (at : ℕ) → AllAre (one profile pool at) Rises
unfolding one
one_rises profile pool at = λ opcode t h. form_rises pool at opcode (form_at profile opcode)

pub sequence_keys : (profile : Profile) (pool : List Slot) (at : ℕ) (text : List ℕ) (ps : List Placed) → IsSequence profile pool at text ps → HaveRisingKeys ps
sequence_keys profile pool at text [] h = tt
sequence_keys profile pool at text (p ∷ ps) h =
    (is_one (one profile pool at) Rises (one_rises profile pool at) h.1 p.instruction h.5, sequence_keys profile pool (at + length h.1) h.2 ps h.6)

pub keys_at : (ps : List Placed) (k : ℕ) (d : Placed) → HaveRisingKeys ps → k < length ps → IsTrue (has_rising_keys (get_or ps k d).instruction)
keys_at [] k d h l = absurd (omega (arith, l))
keys_at (p ∷ ps) zero d h l = h.0
keys_at (p ∷ ps) (suc k) d h l = keys_at ps k d h.1 (omega (arith, l))
