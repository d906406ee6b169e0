-- The costs of points by their numbers.
use Rattle.std.specs.Prelude.{◌≡◌, ℕ, true, List, [], ◌∷◌, Some, slice_get, is_some, if◌then◌else◌}
use Rattle.decode.specs.declared.instruction.Instruction.{Instruction}
use Rattle.decode.specs.Places.{is_return}
use Rattle.typecheck.specs.Typing.{Class, own_of}
use Rattle.typecheck.specs.Calls.{callee_in}
use Rattle.typecheck.specs.declared.typed.Typed.{Typed}
use Rattle.bounds.specs.Cells.{Cell, capped, no_path, either, one_before, call_before, last_cell, slots_of, words_by, cell_at}
use Rattle.unrolled.specs.Rules.{rules_of}
use Rattle.unrolled.specs.Certificates.{Point, is_in}
use Rattle.unrolled.specs.Tables.{Costs, IsTable}
use Rattle.search.specs.Orders.{Links, IsAmong, links_at}
use Rattle.loop_bounds.specs.Graphs.{IsExpanded}
use Rattle.loop_bounds.specs.Methods.{AreMethodsOf}

-- the maximum of the costs with these numbers
abbrev pub greatest_cell : List Cell → List ℕ → Cell
greatest_cell cells [] = no_path
greatest_cell cells (n ∷ ns) = either (cell_at cells n) (greatest_cell cells ns)

-- `AreCellsOf t ps cells ns` holds if the costs with these numbers are the table's, saturated
abbrev pub AreCellsOf : Costs → List Point → List Cell → List ℕ → Type 0
AreCellsOf t ps cells ns = (n : ℕ) (k : Point) → IsAmong ns n → slice_get ps n ≡ Some k → cell_at cells n ≡ capped (t k.method k.node)

-- the cost of a call, by those of the callee's start and of the points after its return
abbrev pub call_cell : Typed → List Cell → List ℕ → Cell
call_cell row cells [] = no_path
call_cell row cells (n ∷ ns) = call_before (slots_of row) (cell_at cells n) (greatest_cell cells ns)

-- the cost of an instruction, by those of the points after it
abbrev pub cell_by : Typed → ℕ → Instruction → List Cell → List ℕ → Cell
cell_by row place i cells ns =
    if is_return i then last_cell row
    else if is_some (own_of (callee_in row.calls.items place)) then call_cell row cells ns
    else one_before (words_by row place i) (greatest_cell cells ns)

-- `IsCellOf rows cells k ns x` holds if `x` is the table's cost of the point, saturated, when the costs of the points after it are
abbrev pub IsCellOf : List Typed → List Cell → Point → List ℕ → Cell → Type 0
IsCellOf rows cells k ns x =
    (c : Class) (ps marks : List Point) (t : Costs) → AreMethodsOf c rows → IsTable c (rules_of c) (λ j y. is_in (record { method = j; node = y }) marks) t → is_in k marks ≡ true
    → IsExpanded c (rules_of c) ps k ns → AreCellsOf t ps cells ns → x ≡ capped (t k.method k.node)

-- the same for the points with these numbers
abbrev pub AreCosts : List Typed → List Point → Links → List ℕ → List Cell → Type 0
AreCosts rows ps g ns cells =
    (c : Class) (marks : List Point) (t : Costs) → AreMethodsOf c rows → IsTable c (rules_of c) (λ j y. is_in (record { method = j; node = y }) marks) t
    → ((n : ℕ) (k : Point) → IsAmong ns n → slice_get ps n ≡ Some k → (is_in k marks ≡ true) × IsExpanded c (rules_of c) ps k (links_at g n)) → AreCellsOf t ps cells ns
