-- The spot of a refusal in a class: the class as a whole, a method, or an instruction.
use Rattle.std.specs.Prelude.{◌≡◌, ℕ, true, List, length, Some, IsSome, IsFalse, slice_get, ◌⊎◌}
use Rattle.jtypes.specs.declared.refusal.Refusal.{Refusal}
use Rattle.jtypes.specs.declared.refusal.Refusal.TheVariants.{NoMemory, BadDescriptor, BadHeader, ConstructorForm, ClassInitialiser, NoProcess, DuplicateMethod, NoBody, BadCode, ExceptionTable, UnknownMember, BadStackMap, TypeMismatch, FallsOff, LengthNotConstant, Recursive, StepLimit, WordLimit, FrameLimit}
use Rattle.jtypes.specs.declared.operations.ArrayKind.{ArrayKind}
use Rattle.jtypes.specs.Layout.{Stands}
use Rattle.jtypes.specs.Profile.{Profile, Third}
use Rattle.constpool.specs.Lookup.{Slot}
use Rattle.classfile.specs.declared.class_file.Member.{Member}
use Rattle.classfile.specs.declared.class_file.Parts.{Parts}
use Rattle.classfile.specs.declared.class_file.CodeParts.{CodeParts}
use Rattle.classfile.specs.Class.{class_file}
use Rattle.classfile.specs.View.{ClassView, MethodView, method_view, view_of}
use Rattle.decode.specs.declared.instruction.Instruction.TheVariants.{NewArray}
use Rattle.decode.specs.declared.instruction.Placed.{Placed}
use Rattle.decode.specs.Code.{IsSequence}
use Rattle.decode.specs.Places.{at_place}
use Rattle.decode.specs.Faults.{CodeStandsAt}
use Rattle.frames.specs.declared.frame.Environment.{Environment}
use Rattle.typecheck.specs.Mismatch.{HasBadStackMap, HasMismatch, FallsOffEnd, HasLength, HasFrame}
use Rattle.verdict.specs.declared.spot.Spot.{Spot}
use Rattle.verdict.specs.declared.spot.Spot.TheVariants.{Whole, InMethod, AtInstruction}
use Rattle.verdict.specs.declared.spot.Located.{Located}
use Rattle.verdict.specs.Shape.{is_constructor, IsInitialiser, AreDoubles, HasCode, HasBadDescriptor, HasNoBody, HasBadCode, HasExceptions, HasConstructor}
use Rattle.verdict.specs.Verdict.{is_known, IsBody, IsClassFile, IsRefused}

-- ---- in the class as a whole

-- The refusals, besides those of the layout, whose spot may be the class as a whole.
abbrev pub IsOfWhole : Refusal → Type 0
IsOfWhole BadHeader = Unit {0}
IsOfWhole ConstructorForm = Unit {0}
IsOfWhole NoProcess = Unit {0}
IsOfWhole DuplicateMethod = Unit {0}
IsOfWhole Recursive = Unit {0}
IsOfWhole StepLimit = Unit {0}
IsOfWhole WordLimit = Unit {0}
IsOfWhole FrameLimit = Unit {0}
IsOfWhole _ = ⊥

-- ---- in a method

-- `OfMethod` holds if `P` holds of method `j`.
abbrev pub OfMethod : Parts → ℕ → (Member → Type 0) → Type 0
OfMethod p j P = (m : Member) × (slice_get p.methods j ≡ Some m) × P m

-- `OfCode` holds if method `j` isn't the constructor, and `P` holds of its code.
abbrev pub OfCode : List Slot → Parts → ℕ → (CodeParts → Type 0) → Type 0
OfCode pool p j P = OfMethod p j (λ m. IsFalse (is_constructor pool m) × (c : CodeParts) × HasCode pool m c × P c)

-- `OfBody` holds if method `j` isn't the constructor, and `P` holds of its environment, its instructions and its stack map tables.
abbrev pub OfBody : Profile → List Slot → Parts → ℕ → (Environment → List Placed → List (List ℕ) → Type 0) → Type 0
OfBody profile pool p j P =
    OfMethod p j (λ m. IsFalse (is_constructor pool m) × (e : Environment) × (code : List Placed) × (tables : List (List ℕ)) × IsBody profile pool p m e code tables × P e code tables)

-- `IsWrongConstructor` holds if method `j` has the constructor's name, and the class lacks the one constructor that it must have.
abbrev pub IsWrongConstructor : List Slot → Parts → ℕ → Type 0
IsWrongConstructor pool p j = (HasConstructor pool p → ⊥) × OfMethod p j (λ m. is_constructor pool m ≡ true)

-- `IsDouble` holds if method `j` has the name and the descriptor of an earlier one.
abbrev pub IsDouble : ClassView → ℕ → Type 0
IsDouble v j = (i : ℕ) × (m : MethodView) × (n : MethodView) × AreDoubles v i j m n

abbrev pub StandsInMethod : Profile → List Slot → Parts → ℕ → Refusal → Type 0
StandsInMethod profile pool p j BadDescriptor = OfMethod p j (λ m. HasBadDescriptor (view_of pool p) (method_view pool m))
StandsInMethod profile pool p j NoBody = OfMethod p j (HasNoBody pool)
StandsInMethod profile pool p j BadCode = OfMethod p j (HasBadCode pool)
StandsInMethod profile pool p j ExceptionTable = OfMethod p j (HasExceptions pool)
StandsInMethod profile pool p j ConstructorForm = IsWrongConstructor pool p j
StandsInMethod profile pool p j ClassInitialiser = OfMethod p j (IsInitialiser pool)
StandsInMethod profile pool p j DuplicateMethod = IsDouble (view_of pool p) j
StandsInMethod profile pool p j BadStackMap = OfBody profile pool p j (HasBadStackMap (view_of pool p))
StandsInMethod profile pool p j FallsOff = OfBody profile pool p j (λ e code tables. FallsOffEnd code)
StandsInMethod profile pool p j _ = ⊥

-- ---- at an instruction

-- `NamesUnknownAt` holds if all bytes decode, and the instruction at the pc names an unknown member.
abbrev pub NamesUnknownAt : Profile → ClassView → List ℕ → ℕ → Type 0
NamesUnknownAt profile v bytes place =
    (code : List Placed) × IsSequence profile v.pool 0 bytes code × (q : Placed) × (at_place code place ≡ Some q) × IsFalse (is_known v q.instruction)

-- `InstructionStandsAt` holds if the refusal of the instructions applies at the pc.
abbrev pub InstructionStandsAt : Profile → ClassView → List ℕ → ℕ → Refusal → Type 0
InstructionStandsAt profile v bytes place UnknownMember = NamesUnknownAt profile v bytes place
InstructionStandsAt profile v bytes place r = CodeStandsAt profile v.pool bytes place r

-- `LacksLengthAt` holds if the `newarray` at the pc lacks a constant length, or has a declared frame.
abbrev pub LacksLengthAt : ClassView → ℕ → Environment → List Placed → List (List ℕ) → Type 0
LacksLengthAt v place e code tables =
    (q : Placed) × (k : ArrayKind) × (at_place code place ≡ Some q) × (q.instruction ≡ NewArray k)
    × ((HasLength code place → ⊥) ⊎ HasFrame v e code tables place)

-- `BodyStandsAt` holds if the refusal of the types applies at the pc.
abbrev pub BodyStandsAt : ClassView → ℕ → Refusal → Environment → List Placed → List (List ℕ) → Type 0
BodyStandsAt v place (TypeMismatch at) e code tables = (at ≡ place) × IsSome (at_place code place) × HasMismatch v e code tables place
BodyStandsAt v place LengthNotConstant e code tables = LacksLengthAt v place e code tables
BodyStandsAt v place _ e code tables = ⊥

abbrev pub StandsAtInstruction : Profile → List Slot → Parts → ℕ → ℕ → Refusal → Type 0
StandsAtInstruction profile pool p j place r =
    OfCode pool p j (λ c. InstructionStandsAt profile (view_of pool p) c.code place r) ⊎ OfBody profile pool p j (BodyStandsAt (view_of pool p) place r)

-- ---- a spot

-- `StandsIn` holds if the refusal applies to the method or the instruction of the spot, or if the spot may be `Whole`.
abbrev pub StandsIn : Profile → List Slot → Parts → Refusal → Spot → Type 0
StandsIn profile pool p r Whole = IsOfWhole r
StandsIn profile pool p r (InMethod j) = StandsInMethod profile pool p j r
StandsIn profile pool p r (AtInstruction j place) = StandsAtInstruction profile pool p j place r

-- `IsAtSpot` holds if the refusal applies to the layout of the bytes, or has this spot in their class.
abbrev pub IsAtSpot : Profile → List ℕ → Refusal → Spot → Type 0
IsAtSpot profile bytes r Whole = Stands (class_file (length bytes)) bytes r ⊎ IsOfWhole r
IsAtSpot profile bytes r spot = (pool : List Slot) × (p : Parts) × IsClassFile bytes pool p × StandsIn profile pool p r spot

-- `IsToldOf` holds if the refusal applies to the bytes and has the reported spot, or is `NoMemory`.
abbrev pub IsToldOf : List ℕ → Located → Type 0
IsToldOf bytes l = (l.refusal ≡ NoMemory) ⊎ (IsRefused Third bytes l.refusal × IsAtSpot Third bytes l.refusal l.spot)

-- `IsLocated` holds if the refusal of a level applies to the class and has the reported spot, or is `NoMemory`.
abbrev pub IsLocated : (Refusal → Type 0) → List Slot → Parts → Located → Type 0
IsLocated Stands pool p l = (l.refusal ≡ NoMemory) ⊎ (Stands l.refusal × StandsIn Third pool p l.refusal l.spot)
