-- The outcome of a step from a good state, and the values that it pops and pushes.
use Rattle.std.proofs.Common.{◌≡◌, ℕ, ◌≤◌, Bool, true, false, List, ◌∷◌, ◌++◌, Some, refl, ap, ◌∙◌, ◌⊎◌, inl, inr}
use Rattle.std.specs.Prelude.{slice_get, ℤ, nat_le}
use Rattle.std.proofs.lemmas.Bool.{leb-true, false≢true}
use Rattle.jtypes.specs.declared.types.RefType.{RefType}
use Rattle.jtypes.specs.declared.types.RefType.TheVariants as ref
use Rattle.jtypes.specs.declared.types.JType.{JType}
use Rattle.jtypes.specs.declared.types.JType.TheVariants.{Top, Int, Long, Null, Ref}
use Rattle.jtypes.specs.declared.types.RefValue.{RefValue}
use Rattle.jtypes.specs.declared.types.RefValue.TheVariants as reference
use Rattle.jtypes.specs.declared.types.Value.{Value}
use Rattle.jtypes.specs.declared.types.Value.TheVariants as value
use Rattle.jtypes.specs.declared.types.Arg.{Arg}
use Rattle.jtypes.specs.declared.types.Arg.TheVariants as arg
use Rattle.jtypes.specs.declared.operations.Kind.{Kind}
use Rattle.jtypes.specs.declared.operations.Kind.TheVariants as kind
use Rattle.jtypes.specs.declared.operations.ArrayKind.{ArrayKind}
use Rattle.jtypes.specs.declared.operations.ArrayKind.TheVariants as array
use Rattle.jtypes.specs.declared.operations.Pushed.{Pushed}
use Rattle.jtypes.specs.declared.operations.Pushed.TheVariants as pushed
use Rattle.jtypes.specs.Types.{assignable, is_long, slots_by, type_of_kind, element_type, array_type}
use Rattle.jtypes.specs.Values.{Array, Arrays, array_fits, ref_fits, fits, value_of_arg}
use Rattle.jtypes.specs.Library.{flag}
use Rattle.jtypes.proofs.Fit.{is_top, only_if_some, then_some_parts, fits_int, fits_long, fits_null, fits_ref, array_is, passes_fits}
use Rattle.decode.specs.declared.instruction.Instruction.{Instruction}
use Rattle.decode.specs.declared.instruction.Placed.{Placed}
use Rattle.frames.specs.declared.frame.Environment.{Environment}
use Rattle.frames.specs.Frames.{Frame}
use Rattle.transfer.specs.Transfer.{transfer, take_types, with_stack, take_put, type_of_pushed, element_of, has_length}
use Rattle.typecheck.specs.Typing.{Method, Class, instruction_at, IsFlow}
use Rattle.bounds.specs.Paths.{Bounds}
use Rattle.soundness.specs.Room.{IsFormedButForRoom}
use Rattle.verdict.specs.Machine.{Activation, State, value_of_pushed, same_kind, element_value, number_of, may_cast, narrowed}
use Rattle.soundness.proofs.GoodStates.{IsAt, AllAwait, HasBudget}

-- ---- properties of an outcome

pub record HasStack (e : Environment) (f : Frame) (stack : List JType) (g : Frame) : Type 0 where
  pub room : slots_by is_long stack ≤ e.max_stack
  pub locals : f.locals ≡ g.locals
  pub operands : stack ≡ g.stack

pub stack_parts : (e : Environment) (f : Frame) (stack : List JType) (g : Frame) → with_stack e f stack ≡ Some g → HasStack e f stack g
stack_parts e f stack g h =
    let new : Frame = record { locals = f.locals; stack = stack } in
    let p = only_if_some (nat_le (slots_by is_long stack) e.max_stack) (Some new) g h in
    let same : new ≡ g = cc p.1 in
    record { room = leb-true _ _ p.0; locals = ap (λ (x : Frame). x.locals) same; operands = ap (λ (x : Frame). x.stack) same }

pub take_put_parts : (e : Environment) (f g : Frame) (taken put : List JType) → take_put e f taken put ≡ Some g → (rest : List JType) × (take_types taken f.stack ≡ Some rest) × HasStack e f (put ++ rest) g
take_put_parts e f g taken put h =
    let p = then_some_parts (λ rest. with_stack e f (put ++ rest)) (take_types taken f.stack) g h in
    (p.0, p.1, stack_parts e f (put ++ p.0) g p.2)

-- ---- values

pub pushed_fits : (arrays : Arrays) (k : Pushed) → fits arrays (value_of_pushed k) (type_of_pushed k) ≡ true
pushed_fits arrays (pushed.Int n) = refl
pushed_fits arrays (pushed.Long n) = refl
pushed_fits arrays pushed.Null = refl
pushed_fits arrays (pushed.Boolean b) = refl

pub pushed_not_top : (k : Pushed) → is_top (type_of_pushed k) ≡ false
pushed_not_top (pushed.Int n) = refl
pushed_not_top (pushed.Long n) = refl
pushed_not_top pushed.Null = refl
pushed_not_top (pushed.Boolean b) = refl

pub kind_not_top : (k : Kind) (t : JType) → assignable t (type_of_kind k) ≡ true → is_top t ≡ false
kind_not_top kind.Int Top e = cc
kind_not_top kind.Long Top e = cc
kind_not_top kind.Reference Top e = cc
kind_not_top k Int e = refl
kind_not_top k Long e = refl
kind_not_top k Null e = refl
kind_not_top k (Ref r) e = refl

pub narrowed_fits : (arrays : Arrays) (b : Bool) (v : Value) (t : JType) → fits arrays v t ≡ true → fits arrays (narrowed b v) t ≡ true
narrowed_fits arrays true (value.Int n) Top h = refl
narrowed_fits arrays true (value.Int n) Int h = refl
narrowed_fits arrays true (value.Int n) Long h = cc
narrowed_fits arrays true (value.Int n) Null h = cc
narrowed_fits arrays true (value.Int n) (Ref r) h = cc
narrowed_fits arrays true (value.Long n) t h = h
narrowed_fits arrays true (value.Ref w) t h = h
narrowed_fits arrays false v t h = h

pub own_array : (k : ArrayKind) → array_fits k (array_type k) ≡ true
own_array array.Int = refl
own_array array.Long = refl

pub kinds_same : (k l : ArrayKind) → array_fits l (array_type k) ≡ true → same_kind k l ≡ true
kinds_same array.Int array.Int h = refl
kinds_same array.Long array.Long h = refl
kinds_same array.Int array.Long h = cc
kinds_same array.Long array.Int h = cc

-- `IsArray` holds if the reference is an array of this kind.
abbrev pub IsArray : Arrays → ArrayKind → RefValue → Type 0
IsArray arrays k w = (id : ℕ) × (x : Array) × (w ≡ reference.Array id) × (slice_get arrays id ≡ Some x) × (same_kind k x.kind ≡ true)

pub array_ref : (arrays : Arrays) (k : ArrayKind) (w : RefValue) → ref_fits arrays w (array_type k) ≡ true → (w ≡ reference.Null) ⊎ IsArray arrays k w
array_ref arrays k reference.Null h = inl refl
array_ref arrays k (reference.Array id) h = let x = array_is arrays id (array_type k) h in inr (id, x.0, refl, x.1, kinds_same k x.0.kind x.2)
array_ref arrays array.Int (reference.Long n) h = cc
array_ref arrays array.Int (reference.Integer n) h = cc
array_ref arrays array.Int (reference.Boolean n) h = cc
array_ref arrays array.Int reference.Entry h = cc
array_ref arrays array.Int reference.This h = cc
array_ref arrays array.Int reference.Args h = cc
array_ref arrays array.Long (reference.Long n) h = cc
array_ref arrays array.Long (reference.Integer n) h = cc
array_ref arrays array.Long (reference.Boolean n) h = cc
array_ref arrays array.Long reference.Entry h = cc
array_ref arrays array.Long reference.This h = cc
array_ref arrays array.Long reference.Args h = cc

pub no_objects : (k : ArrayKind) → array_fits k ref.ObjectArray ≡ true → ⊥
no_objects array.Int h = false≢true h
no_objects array.Long h = false≢true h

pub args_ref : (arrays : Arrays) (w : RefValue) → ref_fits arrays w ref.ObjectArray ≡ true → (w ≡ reference.Null) ⊎ (w ≡ reference.Args)
args_ref arrays reference.Null h = inl refl
args_ref arrays reference.Args h = inr refl
args_ref arrays (reference.Array id) h = let x = array_is arrays id ref.ObjectArray h in absurd (no_objects x.0.kind x.2)
args_ref arrays (reference.Long n) h = cc
args_ref arrays (reference.Integer n) h = cc
args_ref arrays (reference.Boolean n) h = cc
args_ref arrays reference.Entry h = cc
args_ref arrays reference.This h = cc

pub number_is : (arrays : Arrays) (k : ArrayKind) (v : Value) → fits arrays v (element_type k) ≡ true → (n : ℤ) × (number_of k v ≡ Some n)
number_is arrays array.Int v h = let n = fits_int arrays v h in (n.0, ap (number_of array.Int) n.1)
number_is arrays array.Long v h = let n = fits_long arrays v h in (n.0, ap (number_of array.Long) n.1)

pub element_fits : (arrays : Arrays) (k : ArrayKind) (n : ℤ) → fits arrays (element_value k n) (element_type k) ≡ true
element_fits arrays array.Int n = refl
element_fits arrays array.Long n = refl

pub element_not_top : (k : ArrayKind) → is_top (element_type k) ≡ false
element_not_top array.Int = refl
element_not_top array.Long = refl

pub arg_fits : (arrays : Arrays) (x : Arg) → fits arrays (value_of_arg x) (Ref ref.Object) ≡ true
arg_fits arrays arg.Null = refl
arg_fits arrays (arg.Long n) = refl
arg_fits arrays (arg.Integer n) = refl
arg_fits arrays (arg.Boolean n) = refl

-- The element type of the array of arguments is `Object`.
pub args_element : (arrays : Arrays) (t : JType) → fits arrays (value.Ref reference.Args) t ≡ true → is_top t ≡ false → element_of t ≡ Ref ref.Object
args_element arrays Top h k = cc
args_element arrays Int h k = cc
args_element arrays Long h k = cc
args_element arrays Null h k = cc
args_element arrays (Ref r) h k = refl

abbrev pub IsMeasured : Arrays → Value → Type 0
IsMeasured arrays v = (v ≡ value.Ref reference.Null) ⊎ (v ≡ value.Ref reference.Args) ⊎ ((id : ℕ) × (x : Array) × (v ≡ value.Ref (reference.Array id)) × (slice_get arrays id ≡ Some x))

pub array_measured : (arrays : Arrays) (k : ArrayKind) (v : Value) → fits arrays v (Ref (array_type k)) ≡ true → IsMeasured arrays v
array_measured arrays k v h = let w = fits_ref arrays v (array_type k) h in go w.0 w.1 (array_ref arrays k w.0 w.2)
  where
    go : (w : RefValue) → v ≡ value.Ref w → (w ≡ reference.Null) ⊎ IsArray arrays k w → IsMeasured arrays v
    go w e (inl n) = inl (e ∙ ap (λ x. value.Ref x) n)
    go w e (inr x) = inr (inr (x.0, x.1, e ∙ ap (λ y. value.Ref y) x.2, x.3))

pub length_fits : (arrays : Arrays) (v : Value) (t : JType) → fits arrays v t ≡ true → has_length t ≡ true → IsMeasured arrays v
length_fits arrays v Null h l = inl (fits_null arrays v h)
length_fits arrays v (Ref ref.IntArray) h l = array_measured arrays array.Int v h
length_fits arrays v (Ref ref.LongArray) h l = array_measured arrays array.Long v h
length_fits arrays v (Ref ref.ObjectArray) h l = let w = fits_ref arrays v ref.ObjectArray h in go w.0 w.1 (args_ref arrays w.0 w.2)
  where
    go : (w : RefValue) → v ≡ value.Ref w → (w ≡ reference.Null) ⊎ (w ≡ reference.Args) → IsMeasured arrays v
    go w e (inl n) = inl (e ∙ ap (λ x. value.Ref x) n)
    go w e (inr n) = inr (inl (e ∙ ap (λ x. value.Ref x) n))
length_fits arrays v _ h l = cc

pub cast_fits : (arrays : Arrays) (w : RefValue) (r : RefType) → may_cast arrays w r ≡ true → ref_fits arrays w r ≡ true
cast_fits arrays reference.Null r h = refl
cast_fits arrays (reference.Long n) r h = passes_fits arrays (reference.Long n) r h
cast_fits arrays (reference.Integer n) r h = passes_fits arrays (reference.Integer n) r h
cast_fits arrays (reference.Boolean n) r h = passes_fits arrays (reference.Boolean n) r h
cast_fits arrays (reference.Array id) r h = passes_fits arrays (reference.Array id) r h
cast_fits arrays reference.Entry r h = passes_fits arrays reference.Entry r h
cast_fits arrays reference.This r h = passes_fits arrays reference.This r h
cast_fits arrays reference.Args r h = passes_fits arrays reference.Args r h

pub flag_fits : (arrays : Arrays) (b : Bool) → fits arrays (flag b) Int ≡ true
flag_fits arrays true = refl
flag_fits arrays false = refl

-- ---- a step

-- `IsHere` holds if the topmost activation is well typed, and its instruction has this outcome.
pub record IsHere (c : Class) (b : Bounds) (s : State) (a : Activation) (below : List Activation) (m : Method) (p : Placed) (i : Instruction) (g : Frame) : Type 0 where
  pub formed : IsFormedButForRoom m
  pub here : IsAt c s.arrays m a
  pub awaits : AllAwait c s.arrays m.environment.signature.result below
  pub budget : HasBudget c b (a ∷ below) s.steps s.words
  pub code : instruction_at m a.place ≡ Some p
  pub is : p.instruction ≡ i
  pub moved : transfer c.view m.environment i here.frame ≡ Some g
  pub flow : IsFlow m here.frames p g
