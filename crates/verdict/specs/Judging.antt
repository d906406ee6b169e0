-- The results of the functions that check instructions and types.
use Rattle.std.specs.Prelude.{◌≡◌, ℕ, false, zero, suc, ◌==◌, List, [], ◌∷◌, ◌++◌, map, All, Some, IsSome, slice_get, if◌then◌else◌}
use Rattle.jtypes.specs.declared.refusal.Refusal.{Refusal}
use Rattle.jtypes.specs.declared.refusal.Refusal.TheVariants.{UnknownMember}
use Rattle.constpool.specs.Lookup.{Slot}
use Rattle.classfile.specs.declared.class_file.Member.{Member}
use Rattle.classfile.specs.declared.class_file.Parts.{Parts}
use Rattle.classfile.specs.declared.class_file.CodeParts.{CodeParts}
use Rattle.classfile.specs.View.{ClassView, view_of}
use Rattle.decode.specs.declared.fault.Fault.{Fault}
use Rattle.decode.specs.declared.instruction.Placed.{Placed}
use Rattle.decode.specs.Code.{IsSequence}
use Rattle.decode.specs.Places.{at_place}
use Rattle.frames.specs.Frames.{Frame}
use Rattle.frames.specs.StackMap.{IsDeclared}
use Rattle.typecheck.specs.Typing.{IsWellTyped}
use Rattle.typecheck.specs.Calls.{AreCallsOf}
use Rattle.typecheck.specs.DeclaredPlaces.{ArePlacesOf}
use Rattle.typecheck.specs.declared.typed.Typed.{Typed}
use Rattle.verdict.specs.declared.instructions.Found.{Found}
use Rattle.verdict.specs.Shape.{is_constructor}
use Rattle.verdict.specs.Shaping.{is_named_process, HasGoodMethod}
use Rattle.verdict.specs.Verdict.{InstructionStands, IsBody, is_known}
use Rattle.jtypes.specs.Profile.{Third}

-- ---- elements by method index

-- The numbers below `n` except `c`, in ascending order.
abbrev pub numbers_but : ℕ → ℕ → List ℕ
numbers_but c zero = []
numbers_but c (suc n) = numbers_but c n ++ (if n == c then [] else n ∷ [])

-- `AreNumbered` holds if the elements have these numbers, in this order, and `P` holds of each.
pub record AreNumbered {A : Type 0} (number : A → ℕ) (P : A → Type 0) (c n : ℕ) (xs : List A) : Type 0 where
  pub numbers : map number xs ≡ numbers_but c n
  pub each : All P xs

-- ---- instructions

-- `IsGoodCode` holds if the bytes decode to this code, and no refusal of the instructions applies to them.
pub record IsGoodCode (v : ClassView) (bytes : List ℕ) (code : List Placed) : Type 0 where
  pub sequence : IsSequence Third v.pool 0 bytes code
  pub none_stands : (r : Refusal) → InstructionStands Third v bytes r → ⊥

-- `IsFoundIn` holds if `f` has the instructions and the calls of the method with its index.
pub record IsFoundIn (v : ClassView) (codes : List CodeParts) (f : Found) : Type 0 where
  pub parts : CodeParts
  pub there : slice_get codes f.number ≡ Some parts
  pub good : IsGoodCode v parts.code f.code
  pub calls : AreCallsOf v f.code f.calls.items

-- `IsUnknownAt` holds if the instruction names an unknown member, and the fault reports this at its pc.
pub record IsUnknownAt (v : ClassView) (p : Placed) (f : Fault) : Type 0 where
  pub refusal : f.refusal ≡ UnknownMember
  pub place : f.place ≡ p.place
  pub unknown : is_known v p.instruction ≡ false

abbrev pub AreFound : ClassView → List CodeParts → (c n : ℕ) → List Found → Type 0
AreFound v codes c n found = AreNumbered (λ f. f.number) (IsFoundIn v codes) c n found

-- ---- types

-- `HasInstructionsOf` holds if method `number` isn't the constructor, has a good shape and these parts, and its bytes decode to this code.
pub record HasInstructionsOf (pool : List Slot) (p : Parts) (number : ℕ) (parts : CodeParts) (code : List Placed) : Type 0 where
  pub member : Member
  pub there : slice_get p.methods number ≡ Some member
  pub other : is_constructor pool member ≡ false
  pub shaped : HasGoodMethod pool p member parts
  pub good : IsGoodCode (view_of pool p) parts.code code

-- `IsTypedRow` holds if `t` describes the method with its index, and the method is well typed.
pub record IsTypedRow (pool : List Slot) (p : Parts) (t : Typed) : Type 0 where
  pub member : Member
  pub there : slice_get p.methods t.number ≡ Some member
  pub tables : List (List ℕ)
  pub body : IsBody Third pool p member t.environment t.code tables
  pub process : t.is_process ≡ is_named_process pool member
  pub starts : IsSome (at_place t.code 0)
  pub calls : AreCallsOf (view_of pool p) t.code t.calls.items
  pub typed : (ds : List (ℕ × Frame)) × IsDeclared (view_of pool p) t.environment t.code tables ds × IsWellTyped (view_of pool p) (record { environment = t.environment; code = t.code; declared = ds })
  pub places : (ds : List (ℕ × Frame)) × IsDeclared (view_of pool p) t.environment t.code tables ds × ArePlacesOf ds t.declared.items

abbrev pub AreTyped : List Slot → Parts → (c n : ℕ) → List Typed → Type 0
AreTyped pool p c n rows = AreNumbered (λ t. t.number) (IsTypedRow pool p) c n rows
