-- The typed methods of a class whose branches may lead back.
use Rattle.std.specs.Prelude.{◌≡◌, ℕ, ◌<◌, List, length, get_or, Option, Some, None, slice_get}
use Rattle.decode.specs.declared.instruction.Placed.{Placed}
use Rattle.decode.specs.Places.{at_place}
use Rattle.typecheck.specs.Typing.{Method, Class, own_of}
use Rattle.typecheck.specs.Calls.{AreCallsOf, callee_in}
use Rattle.typecheck.specs.declared.typed.Typed.{Typed}
use Rattle.unrolled.specs.Rules.{has_loops}
use Rattle.search.specs.After.{HasPlaces}
use Rattle.search.specs.Followed.{have_loops}

-- `IsMethodOf c row` holds if the typed method is the class's method with its index: it has its environment, its code and its calls
pub record IsMethodOf (c : Class) (row : Typed) : Type 0 where
  pub method : (m : Method) × (slice_get c.methods row.number ≡ Some m) × (m.environment ≡ row.environment) × (m.code ≡ row.code)
  pub calls : AreCallsOf c.view row.code row.calls.items

-- `HasNumber rows k` holds if some typed method has the index
abbrev pub HasNumber : List Typed → ℕ → Type 0
HasNumber rows k = (i : ℕ) × (i < length rows) × ((d : Typed) → (get_or rows i d).number ≡ k)

abbrev pub HasNumberIf : List Typed → Option ℕ → Type 0
HasNumberIf rows None = Unit {0}
HasNumberIf rows (Some k) = HasNumber rows k

abbrev pub LacksNumber : List Typed → Option ℕ → Type 0
LacksNumber rows None = ⊥
LacksNumber rows (Some k) = HasNumber rows k → ⊥

-- `AreMethodsOf c rows` holds if the typed methods are methods of the class, their own calls reach typed methods, and the methods
-- that aren't among them have no branch that leads back unless another one has
pub record AreMethodsOf (c : Class) (rows : List Typed) : Type 0 where
  pub each : (i : ℕ) (row : Typed) → slice_get rows i ≡ Some row → IsMethodOf c row
  pub own : (i : ℕ) (row : Typed) (place k : ℕ) → slice_get rows i ≡ Some row → own_of (callee_in row.calls.items place) ≡ Some k → HasNumber rows k
  pub loops : has_loops c.methods ≡ have_loops rows

-- `HavePlaces rows` holds if each branch target fits a pc of the code
abbrev pub HavePlaces : List Typed → Type 0
HavePlaces rows = (i : ℕ) (row : Typed) (place : ℕ) (p : Placed) → slice_get rows i ≡ Some row → at_place row.code place ≡ Some p → HasPlaces p.instruction
