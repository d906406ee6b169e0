-- The verdict: the refusals that apply to the bytes of a class.
use Rattle.std.specs.Prelude.{◌≡◌, ℕ, Bool, true, not, List, length, Any, Some, IsFalse, is_some, ◌⊎◌}
use Rattle.std.specs.List.{AllZip}
use Rattle.jtypes.specs.declared.refusal.Refusal.{Refusal}
use Rattle.jtypes.specs.declared.refusal.Refusal.TheVariants.{BadDescriptor, UnknownMember, BadStackMap, TypeMismatch, FallsOff, LengthNotConstant, Recursive, StepLimit, WordLimit, FrameLimit}
use Rattle.jtypes.specs.declared.types.Exception.{Exception}
use Rattle.jtypes.specs.declared.types.Exception.TheVariants as exception
use Rattle.jtypes.specs.Lists.{same_bytes}
use Rattle.jtypes.specs.Profile.{Profile}
use Rattle.jtypes.specs.Layout.{IsLaidOut, Stands}
use Rattle.constpool.specs.Lookup.{Slot}
use Rattle.constpool.specs.Names.{arithmetic_name, entry_processor_exception_name, illegal_argument_name, illegal_state_name, unsupported_operation_name}
use Rattle.classfile.specs.declared.class_file.Member.{Member}
use Rattle.classfile.specs.declared.class_file.Parts.{Parts}
use Rattle.classfile.specs.declared.class_file.CodeParts.{CodeParts}
use Rattle.classfile.specs.Class.{class_file}
use Rattle.classfile.specs.View.{ClassView, method_view, view_of, tables_of}
use Rattle.decode.specs.declared.instruction.Instruction.{Instruction}
use Rattle.decode.specs.declared.instruction.Instruction.TheVariants.{Invoke, CheckCast, InstanceOf, Throw}
use Rattle.decode.specs.declared.instruction.Placed.{Placed}
use Rattle.decode.specs.Code.{IsSequence}
use Rattle.decode.specs.Places.{CodeStands}
use Rattle.frames.specs.declared.signatures.Signature.{Signature}
use Rattle.frames.specs.Frames.{Frame}
use Rattle.frames.specs.Signatures.{method_signature, constant_type}
use Rattle.frames.specs.Members.{callee_at}
use Rattle.frames.specs.declared.frame.Environment.{Environment}
use Rattle.frames.specs.StackMap.{IsDeclared}
use Rattle.typecheck.specs.Typing.{Method, Class, IsProcessOf}
use Rattle.typecheck.specs.Mismatch.{HasBadStackMap, HasMismatch, FallsOffEnd, LacksLength}
use Rattle.bounds.specs.Recursion.{IsRecursive}
use Rattle.bounds.specs.Paths.{SomePathExceeds, step_limit, word_limit, slot_limit, depth_limit}
use Rattle.verdict.specs.Known.{knows_signature, knows_named, knows_frame}
use Rattle.verdict.specs.Shape.{is_constructor, HasCode, ShapeStands}

-- ---- level A: the bytes have the layout of a class file

-- `IsClassFile` holds if the bytes are a class file with this constant pool and these parts, and no refusal of the layout applies.
pub record IsClassFile (bytes : List ℕ) (pool : List Slot) (p : Parts) : Type 0 where
  pub laid_out : IsLaidOut (class_file (length bytes)) bytes (pool, p)
  pub none_stands : (r : Refusal) → Stands (class_file (length bytes)) bytes r → ⊥

-- ---- level B: the shape

pub record HasShape (pool : List Slot) (p : Parts) : Type 0 where
  pub none_stands : (r : Refusal) → ShapeStands pool p r → ⊥

-- ---- level C: the instructions of the methods except the constructor

-- `SomeMethod` holds if `P` holds of a method other than the constructor.
abbrev pub SomeMethod : List Slot → Parts → (Member → Type 0) → Type 0
SomeMethod pool p P = Any (λ m. IsFalse (is_constructor pool m) × P m) p.methods

-- The name of the class of an exception that a processor throws (JVMS §4.2.1).
abbrev pub class_of_exception : Exception → List ℕ
class_of_exception exception.Arithmetic = arithmetic_name
class_of_exception exception.EntryProcessor = entry_processor_exception_name
class_of_exception exception.IllegalArgument = illegal_argument_name
class_of_exception exception.IllegalState = illegal_state_name
class_of_exception exception.UnsupportedOperation = unsupported_operation_name

-- Whether the member or type that an instruction names is known. A class that has the name of an exception means itself by it, and isn't that exception.
abbrev pub is_known : ClassView → Instruction → Bool
is_known v (Invoke kind i) = is_some (callee_at v kind i)
is_known v (CheckCast i) = is_some (constant_type v i)
is_known v (InstanceOf i) = is_some (constant_type v i)
is_known v (Throw e text) = not (same_bytes (class_of_exception e) v.name)
is_known v _ = true

-- `NamesUnknown` holds if all bytes decode, and an instruction names an unknown member.
abbrev pub NamesUnknown : Profile → ClassView → List ℕ → Type 0
NamesUnknown profile v bytes = (code : List Placed) × IsSequence profile v.pool 0 bytes code × Any (λ p. IsFalse (is_known v p.instruction)) code

-- `InstructionStands` holds if the refusal applies to the bytes of a code at this level.
abbrev pub InstructionStands : Profile → ClassView → List ℕ → Refusal → Type 0
InstructionStands profile v bytes UnknownMember = NamesUnknown profile v bytes
InstructionStands profile v bytes r = CodeStands profile v.pool bytes r

abbrev pub InstructionsStand : Profile → List Slot → Parts → Refusal → Type 0
InstructionsStand profile pool p r = SomeMethod pool p (λ m. (c : CodeParts) × HasCode pool m c × InstructionStands profile (view_of pool p) c.code r)

pub record HasInstructions (profile : Profile) (pool : List Slot) (p : Parts) : Type 0 where
  pub none_stands : (r : Refusal) → InstructionsStand profile pool p r → ⊥

-- ---- level D: the types of these methods

-- `IsBody` holds if the method has this environment, these instructions and these stack map tables.
pub record IsBody (profile : Profile) (pool : List Slot) (p : Parts) (m : Member) (e : Environment) (code : List Placed) (tables : List (List ℕ)) : Type 0 where
  pub parts : CodeParts
  pub has_code : HasCode pool m parts
  pub signature : method_signature (view_of pool p) (method_view pool m) ≡ Some e.signature
  pub max_stack : e.max_stack ≡ parts.max_stack
  pub max_locals : e.max_locals ≡ parts.max_locals
  pub sequence : IsSequence profile pool 0 parts.code code
  pub tables_are : tables ≡ tables_of pool parts

abbrev pub BodyStands : ClassView → Environment → List Placed → List (List ℕ) → Refusal → Type 0
BodyStands v e code tables BadStackMap = HasBadStackMap v e code tables
BodyStands v e code tables (TypeMismatch place) = HasMismatch v e code tables place
BodyStands v e code tables FallsOff = FallsOffEnd code
BodyStands v e code tables LengthNotConstant = LacksLength v e code tables
BodyStands v e code tables _ = ⊥

abbrev pub TypesStand : Profile → List Slot → Parts → Refusal → Type 0
TypesStand profile pool p r =
    SomeMethod pool p (λ m. (e : Environment) × (code : List Placed) × (tables : List (List ℕ)) × IsBody profile pool p m e code tables × BodyStands (view_of pool p) e code tables r)

pub record HasTypes (profile : Profile) (pool : List Slot) (p : Parts) : Type 0 where
  pub none_stands : (r : Refusal) → TypesStand profile pool p r → ⊥

-- ---- level E: recursion and bounds

pub record IsMethodOf (profile : Profile) (pool : List Slot) (p : Parts) (m : Member) (method : Method) : Type 0 where
  pub tables : List (List ℕ)
  pub body : IsBody profile pool p m method.environment method.code tables
  pub declared : IsDeclared (view_of pool p) method.environment method.code tables method.declared

-- `IsClassOfFile` holds if `c` is the class of the class file.
pub record IsClassOfFile (profile : Profile) (pool : List Slot) (p : Parts) (c : Class) : Type 0 where
  pub view : c.view ≡ view_of pool p
  pub methods : AllZip (IsMethodOf profile pool p) p.methods c.methods

abbrev pub BoundStands : Profile → Class → ℕ → Refusal → Type 0
BoundStands profile c j StepLimit = SomePathExceeds c j (λ k. k.steps) (step_limit profile)
BoundStands profile c j WordLimit = SomePathExceeds c j (λ k. k.words) word_limit
BoundStands profile c j FrameLimit = SomePathExceeds c j (λ k. k.slots) slot_limit ⊎ SomePathExceeds c j (λ k. k.depth) depth_limit
BoundStands profile c j _ = ⊥

abbrev pub ClassStands : Profile → Class → Refusal → Type 0
ClassStands profile c Recursive = IsRecursive c
ClassStands profile c r = (IsRecursive c → ⊥) × ((j : ℕ) × IsProcessOf c j × BoundStands profile c j r)

-- ---- the names of later profiles

-- `UsesUnknown` holds if a method's instructions name a member or a type that the profile doesn't know.
abbrev pub UsesUnknown : Profile → List Slot → Parts → Member → Type 0
UsesUnknown profile pool p m =
    (c : CodeParts) × (code : List Placed) × HasCode pool m c × IsSequence profile pool 0 c.code code × Any (λ q. IsFalse (knows_named profile (view_of pool p) q.instruction)) code

-- `DeclaresUnknown` holds if a frame that a method declares has a type that the profile doesn't know.
abbrev pub DeclaresUnknown : Profile → List Slot → Parts → Member → Type 0
DeclaresUnknown profile pool p m =
    (e : Environment) × (code : List Placed) × (tables : List (List ℕ)) × (ds : List (ℕ × Frame)) × IsBody profile pool p m e code tables × IsDeclared (view_of pool p) e code tables ds
    × Any (λ d. IsFalse (knows_frame profile d.1)) ds

-- `NamesBeyond` holds if the class names what only a later profile knows: in a descriptor, in an instruction or in a declared frame.
abbrev pub NamesBeyond : Profile → List Slot → Parts → Refusal → Type 0
NamesBeyond profile pool p BadDescriptor =
    Any (λ m. (s : Signature) × (method_signature (view_of pool p) (method_view pool m) ≡ Some s) × IsFalse (knows_signature profile s)) p.methods
NamesBeyond profile pool p UnknownMember = SomeMethod pool p (UsesUnknown profile pool p)
NamesBeyond profile pool p BadStackMap = SomeMethod pool p (DeclaresUnknown profile pool p)
NamesBeyond profile pool p _ = ⊥

-- `HasLevelsBefore` holds if no refusal applies at a level before that of the refusal:
-- descriptors belong to the shape, the instructions' names to the instructions, and declared frames to the types.
abbrev pub HasLevelsBefore : Profile → List Slot → Parts → Refusal → Type 0
HasLevelsBefore profile pool p UnknownMember = HasShape pool p
HasLevelsBefore profile pool p BadStackMap = HasShape pool p × HasInstructions profile pool p
HasLevelsBefore profile pool p _ = Unit {0}

-- ---- the verdict

-- `IsRefused` holds if the refusal applies at its level, and no refusal of an earlier level applies.
pub data IsRefused (profile : Profile) (bytes : List ℕ) (r : Refusal) : Type 0 where
  by_layout : Stands (class_file (length bytes)) bytes r → IsRefused profile bytes r
  by_shape : (pool : List Slot) (p : Parts) → IsClassFile bytes pool p → ShapeStands pool p r → IsRefused profile bytes r
  by_instructions : (pool : List Slot) (p : Parts) → IsClassFile bytes pool p → HasShape pool p → InstructionsStand profile pool p r → IsRefused profile bytes r
  by_types : (pool : List Slot) (p : Parts) → IsClassFile bytes pool p → HasShape pool p → HasInstructions profile pool p → TypesStand profile pool p r → IsRefused profile bytes r
  by_class : (pool : List Slot) (p : Parts) (c : Class) → IsClassFile bytes pool p → HasShape pool p → HasInstructions profile pool p → HasTypes profile pool p
      → IsClassOfFile profile pool p c → ClassStands profile c r → IsRefused profile bytes r
  by_names : (pool : List Slot) (p : Parts) → IsClassFile bytes pool p → HasLevelsBefore profile pool p r → NamesBeyond profile pool p r → IsRefused profile bytes r

-- `IsAccepted` holds if no refusal applies to the bytes.
abbrev pub IsAccepted : Profile → List ℕ → Type 0
IsAccepted profile bytes = (r : Refusal) → IsRefused profile bytes r → ⊥

-- `IsClassOf` holds if `c` is the class of these bytes.
pub record IsClassOf (profile : Profile) (bytes : List ℕ) (c : Class) : Type 0 where
  pub pool : List Slot
  pub parts : Parts
  pub file : IsClassFile bytes pool parts
  pub class : IsClassOfFile profile pool parts c
