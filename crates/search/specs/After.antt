-- The node after an instruction that has one edge, and the nodes after each instruction.
use Rattle.std.specs.Prelude.{◌≡◌, ◌<ℤ◌, ◌^◌, ℕ, ℤ, pos, Bool, true, false, [], ◌∷◌, All}
use Rattle.classfile.specs.View.{ClassView}
use Rattle.decode.specs.declared.instruction.Instruction.{Instruction}
use Rattle.decode.specs.declared.instruction.Instruction.TheVariants as instruction
use Rattle.decode.specs.Places.{targets_in}
use Rattle.unrolled.specs.Graph.{Node, Following, at, edges}

-- whether control goes on at the next instruction and nowhere else
abbrev pub goes_on : Instruction → Bool
goes_on (instruction.Branch test target) = false
goes_on (instruction.Goto target) = false
goes_on (instruction.Switch default cases) = false
goes_on (instruction.Return k) = false
goes_on instruction.ReturnVoid = false
goes_on (instruction.Throw e text) = false
goes_on i = true

-- `IsAfter v f i x y` holds if the only edge of the instruction leads to what is known at `y`
abbrev pub IsAfter : ClassView → Following → Instruction → Node → Node → Type 0
IsAfter v f i x y = (next : ℕ) → edges v f x next i ≡ at y next y.operands ∷ []

-- whether a branch target fits a pc of the code
abbrev pub IsPlace : ℤ → Type 0
IsPlace target = target <ℤ pos (2 ^ 64)

-- `HasPlaces i` holds if all branch targets of the instruction do
abbrev pub HasPlaces : Instruction → Type 0
HasPlaces (instruction.Branch test target) = IsPlace target
HasPlaces (instruction.Goto target) = IsPlace target
HasPlaces (instruction.Switch default cases) = IsPlace default × All IsPlace (targets_in cases)
HasPlaces i = Unit {0}
