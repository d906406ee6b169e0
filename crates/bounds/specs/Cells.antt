-- Costs in fields of 32 bits, whose sums saturate.
use Rattle.std.specs.Prelude.{ℕ, suc, ◌+◌, min, max, List, [], ◌∷◌, replicate, get_or, slice_set, Option, Some, None, ℤ, pos, negsuc}
use Rattle.jtypes.specs.Values.{words_of}
use Rattle.decode.specs.declared.instruction.Instruction.{Instruction}
use Rattle.decode.specs.declared.instruction.Instruction.TheVariants.{NewArray, Branch, Goto, Switch, Return, ReturnVoid, Invoke, Throw}
use Rattle.decode.specs.declared.instruction.Placed.{Placed}
use Rattle.decode.specs.Places.{pushed_before, targets_in}
use Rattle.typecheck.specs.Typing.{own_of}
use Rattle.typecheck.specs.Calls.{callee_in}
use Rattle.typecheck.specs.declared.typed.Typed.{Typed}
use Rattle.bounds.specs.Paths.{Cost, length_of}
use Rattle.bounds.specs.declared.costs.Cost as cell

abbrev pub Cell : Type 0
Cell = cell.Cost

-- the greatest 32-bit number
abbrev pub greatest_part : ℕ
greatest_part = 4_294_967_295

abbrev pub cut : ℕ → ℕ
cut n = min n greatest_part

-- the cell of a cost: each measure saturates
abbrev pub capped : Cost → Cell
capped k = record { steps = cut k.steps; words = cut k.words; slots = cut k.slots; depth = cut k.depth }

-- the cell without a path
abbrev pub no_path : Cell
no_path = record { steps = 0; words = 0; slots = 0; depth = 0 }

-- the maximum of each measure
abbrev pub either : Cell → Cell → Cell
either a b = record { steps = max a.steps b.steps; words = max a.words b.words; slots = max a.slots b.slots; depth = max a.depth b.depth }

-- the cell with one instruction before it, which allocates this number of words
abbrev pub one_before : ℕ → Cell → Cell
one_before words k = record { steps = cut (k.steps + 1); words = cut (k.words + words); slots = k.slots; depth = k.depth }

-- the cell with a call and its callee before it, in an activation of `own` slots
abbrev pub call_before : ℕ → Cell → Cell → Cell
call_before own callee k = record {
  steps = cut (cut (k.steps + callee.steps) + 1);
  words = cut (k.words + callee.words);
  slots = max k.slots (cut (callee.slots + own));
  depth = max k.depth (cut (callee.depth + 1));
}

-- the slots of one activation
abbrev pub slots_of : Typed → ℕ
slots_of m = m.environment.max_locals + m.environment.max_stack

-- the cell of a return or a throw
abbrev pub last_cell : Typed → Cell
last_cell m = record { steps = 1; words = 0; slots = cut (slots_of m); depth = 1 }

-- the words of a new array whose length is the constant before it; 0 for other instructions
abbrev pub words_by : Typed → ℕ → Instruction → ℕ
words_by m place (NewArray k) = cut (words_of (length_of (pushed_before m.code place)))
words_by m place _ = 0

-- the cell at a pc
abbrev pub cell_at : List Cell → ℕ → Cell
cell_at cells place = get_or cells place no_path

abbrev pub cell_at_target : List Cell → ℤ → Cell
cell_at_target cells (pos q) = cell_at cells q
cell_at_target cells (negsuc n) = no_path

-- the cell of a method by its index, if it is known
abbrev pub known_at : List (Option Cell) → ℕ → Option Cell
known_at known k = get_or known k None

abbrev pub known_of : List (Option Cell) → Option ℕ → Option Cell
known_of known None = None
known_of known (Some k) = known_at known k

-- the cell of the own method that is called at a pc, if it is known
abbrev pub callee_cell : Typed → ℕ → List (Option Cell) → Option Cell
callee_cell m place known = known_of known (own_of (callee_in m.calls.items place))

abbrev pub after_callee : Typed → Cell → Option Cell → Cell
after_callee m next None = one_before 0 next
after_callee m next (Some callee) = call_before (slots_of m) callee next

-- the maximum of the cells at these targets and `k`
abbrev pub cell_among : List Cell → List ℤ → Cell → Cell
cell_among cells [] k = k
cell_among cells (z ∷ targets) k = either (cell_at_target cells z) (cell_among cells targets k)

-- the cell from an instruction on, by the cells after it
abbrev pub cell_by : Typed → Placed → List Cell → List (Option Cell) → Instruction → Cell
cell_by m p cells known (Return k) = last_cell m
cell_by m p cells known ReturnVoid = last_cell m
cell_by m p cells known (Throw e text) = last_cell m
cell_by m p cells known (Goto target) = one_before 0 (cell_at_target cells target)
cell_by m p cells known (Branch test target) = one_before 0 (either (cell_at_target cells target) (cell_at cells p.next))
cell_by m p cells known (Switch default cases) = one_before 0 (cell_among cells (targets_in cases) (cell_at_target cells default))
cell_by m p cells known (Invoke kind i) = after_callee m (cell_at cells p.next) (callee_cell m p.place known)
cell_by m p cells known i = one_before (words_by m p.place i) (cell_at cells p.next)

-- the cells of the pcs below `size`, filled from the last of these instructions to the first
abbrev pub cells_of : Typed → List (Option Cell) → ℕ → List Placed → List Cell
cells_of m known size [] = replicate size no_path
cells_of m known size (p ∷ code) = slice_set (cells_of m known size code) p.place (cell_by m p (cells_of m known size code) known p.instruction)

-- the pc of the last instruction plus 1, or 0 without instructions
abbrev pub size_by : Option Placed → ℕ
size_by None = 0
size_by (Some p) = suc p.place
