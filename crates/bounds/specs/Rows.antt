-- Typed methods as methods of a class, and their known costs.
use Rattle.std.specs.Prelude.{◌≡◌, ℕ, suc, ◌<◌, Bool, true, false, ◌&&◌, List, [], ◌∷◌, length, get_or, slice_get, Option, Some, None, IsSome, is_some, Result, Ok, Err, ◌⊎◌}
use Rattle.jtypes.specs.declared.refusal.Refusal.{Refusal}
use Rattle.jtypes.specs.declared.refusal.Refusal.TheVariants.{StepLimit, WordLimit, FrameLimit}
use Rattle.decode.specs.declared.instruction.Placed.{Placed}
use Rattle.decode.specs.Places.{at_place}
use Rattle.typecheck.specs.Typing.{Method, Class, IsProcessOf, call_of, own_of, own_number}
use Rattle.typecheck.specs.Calls.{AreRising, callee_in}
use Rattle.typecheck.specs.declared.typed.Called.{Called}
use Rattle.typecheck.specs.declared.typed.Typed.{Typed}
use Rattle.bounds.specs.Table.{Costs, IsTable, LeadsOn}
use Rattle.bounds.specs.Recursion.{HasCall, IsRecursive}
use Rattle.bounds.specs.Paths.{Bounds, AreBounds, SomePathExceeds, step_limit, word_limit, slot_limit, depth_limit}
use Rattle.bounds.specs.declared.limits.Bounds as declared
use Rattle.bounds.specs.Cells.{Cell, capped, known_at}
use Rattle.jtypes.specs.Profile.{Third}

-- `IsRowOf c row` holds if the typed method is the class's method with its index: it has its environment, its code and its own calls
pub record IsRowOf (c : Class) (row : Typed) : Type 0 where
  pub method : (m : Method) × (slice_get c.methods row.number ≡ Some m) × (m.environment ≡ row.environment) × (m.code ≡ row.code)
  pub starts : IsSome (at_place row.code 0)
  pub rising : AreRising row.calls.items
  pub calls : (place : ℕ) (p : Placed) → at_place row.code place ≡ Some p → call_of c.view p.instruction ≡ own_of (callee_in row.calls.items place)
  pub process : row.is_process ≡ true → IsProcessOf c row.number

-- `AreRowsOf c set rows` holds if the typed methods are methods of the class that are in `set`;
-- the callers use the methods except the constructor
pub record AreRowsOf (c : Class) (set : ℕ → Bool) (rows : List Typed) : Type 0 where
  pub each : (i : ℕ) (d : Typed) → i < length rows → IsRowOf c (get_or rows i d)
  pub within : (i : ℕ) (d : Typed) → i < length rows → set (get_or rows i d).number ≡ true

-- `AreKnown t known` holds if the known costs are the table's at the starts of methods, saturated
pub record AreKnown (t : Costs) (known : List (Option Cell)) : Type 0 where
  pub each : (k : ℕ) (x : Cell) → known_at known k ≡ Some x → x ≡ capped (t k 0)

-- whether the cost of a call's callee is known, if it is an own method
abbrev pub is_known : List (Option Cell) → Option ℕ → Bool
is_known known None = true
is_known known (Some k) = is_some (known_at known k)

abbrev pub are_known : List (Option Cell) → List Called → Bool
are_known known [] = true
are_known known (x ∷ calls) = is_known known (own_number x.callee.reached) && are_known known calls

-- `IsCostOf row known x` holds if `x` is the table's cost at the method's start, saturated, when the callees' costs are known
abbrev pub IsCostOf : Typed → List (Option Cell) → Cell → Type 0
IsCostOf row known x =
    (c : Class) (set : ℕ → Bool) (t : Costs) → LeadsOn c set → IsTable c set t → IsRowOf c row → set row.number ≡ true → AreKnown t known → are_known known row.calls.items ≡ true → x ≡ capped (t row.number 0)

-- `StaysKnown row old new` holds if `AreKnown` is preserved, when the typed method is in the class
abbrev pub StaysKnown : Typed → List (Option Cell) → List (Option Cell) → Type 0
StaysKnown row old new =
    (c : Class) (set : ℕ → Bool) (t : Costs) → LeadsOn c set → IsTable c set t → IsRowOf c row → set row.number ≡ true → AreKnown t old → AreKnown t new

-- ---- rounds

-- the number of unknown costs
abbrev pub count_unknown : List (Option Cell) → ℕ
count_unknown [] = 0
count_unknown (None ∷ known) = suc (count_unknown known)
count_unknown (Some x ∷ known) = count_unknown known

-- `IsSettled known row` holds if the cost of the typed method is known, or that of a callee isn't
abbrev pub IsSettled : List (Option Cell) → Typed → Type 0
IsSettled known row = known_at known row.number ≡ None → are_known known row.calls.items ≡ false

-- `Learns row b old new` holds if there are fewer unknown costs, or if nothing changes and the method is settled
abbrev pub Learns : Typed → Bool → List (Option Cell) → List (Option Cell) → Type 0
Learns row true old new = count_unknown new < count_unknown old
Learns row false old new = (new ≡ old) × IsSettled old row

abbrev pub LearnsUpTo : List Typed → ℕ → Bool → List (Option Cell) → List (Option Cell) → Type 0
LearnsUpTo rows n true old new = count_unknown new < count_unknown old
LearnsUpTo rows n false old new = (new ≡ old) × ((i : ℕ) (d : Typed) → i < n → IsSettled old (get_or rows i d))

abbrev pub AreSettled : List Typed → List (Option Cell) → Type 0
AreSettled rows known = (i : ℕ) (d : Typed) → i < length rows → IsSettled known (get_or rows i d)

-- `AreBelow rows n` holds if the indices of the methods are below `n`
abbrev pub AreBelow : List Typed → ℕ → Type 0
AreBelow rows n = (i : ℕ) (d : Typed) → i < length rows → (get_or rows i d).number < n

-- `OneIsUnknown rows known` holds if the cost of some typed method is unknown
abbrev pub OneIsUnknown : List Typed → List (Option Cell) → Type 0
OneIsUnknown rows known = (i : ℕ) × (row : Typed) × (i < length rows) × (row ≡ get_or rows i row) × (known_at known row.number ≡ None)

-- `AreAllRowsOf c set rows` holds if `rows` has every method of `set`; the calls are at instructions and reach methods of `set`
pub record AreAllRowsOf (c : Class) (set : ℕ → Bool) (rows : List Typed) : Type 0 where
  pub are : AreRowsOf c set rows
  pub each_has_one : (k : ℕ) → set k ≡ true → (i : ℕ) × (i < length rows) × ((d : Typed) → (get_or rows i d).number ≡ k)
  pub placed : (i : ℕ) (d : Typed) → i < length rows → (q : ℕ) (x : Called) → q < length (get_or rows i d).calls.items → IsSome (at_place (get_or rows i d).code (get_or (get_or rows i d).calls.items q x).place)
  pub reached : (i : ℕ) (d : Typed) → i < length rows → (place k : ℕ) → own_of (callee_in (get_or rows i d).calls.items place) ≡ Some k → set k ≡ true

-- `IsClosed c set` holds if each method of `set` has an own call of a method of `set`
abbrev pub IsClosed : Class → (ℕ → Bool) → Type 0
IsClosed c set = (j : ℕ) → set j ≡ true → (k : ℕ) × HasCall c j k × (set k ≡ true)

-- `AreGrounded c known` holds if no method of a closed set has a known cost
abbrev pub AreGrounded : Class → List (Option Cell) → Type 0
AreGrounded c known = (set : ℕ → Bool) → IsClosed c set → (j : ℕ) → set j ≡ true → known_at known j ≡ None

-- `StaysGrounded row old new` holds if `AreGrounded` is preserved, when the typed method is in the class
abbrev pub StaysGrounded : Typed → List (Option Cell) → List (Option Cell) → Type 0
StaysGrounded row old new = (c : Class) → IsRowOf c row → AreGrounded c old → AreGrounded c new

abbrev pub AreAllKnown : List Typed → List (Option Cell) → Type 0
AreAllKnown rows known = (i : ℕ) (d : Typed) → i < length rows → IsSome (known_at known (get_or rows i d).number)

-- `AreNotRecursive rows` holds if no typed method is in a closed set
abbrev pub AreNotRecursive : List Typed → Type 0
AreNotRecursive rows = (c : Class) (set closed : ℕ → Bool) → AreRowsOf c set rows → IsClosed c closed → (i : ℕ) (d : Typed) → i < length rows → closed (get_or rows i d).number ≡ true → ⊥

-- `IsCircleIn rows` holds if own calls form a cycle: a class with exactly these methods in its set is recursive
abbrev pub IsCircleIn : List Typed → Type 0
IsCircleIn rows = (c : Class) (set : ℕ → Bool) → AreAllRowsOf c set rows → IsRecursive c

-- ---- the result

abbrev pub bounds_in : declared.Bounds → Bounds
bounds_in b = record { steps = b.steps; words = b.words; slots = b.slots; depth = b.depth }

-- `IsRefusalOf c j r` holds if some path of method `j` exceeds the limit that `r` refuses
pub record IsRefusalOf (c : Class) (j : ℕ) (r : Refusal) : Type 0 where
  pub steps : r ≡ StepLimit → SomePathExceeds c j (λ k. k.steps) (step_limit Third)
  pub words : r ≡ WordLimit → SomePathExceeds c j (λ k. k.words) word_limit
  pub frames : r ≡ FrameLimit → SomePathExceeds c j (λ k. k.slots) slot_limit ⊎ SomePathExceeds c j (λ k. k.depth) depth_limit

-- `IsAnswerOf c j result` holds if the result is the bounds of method `j`, or the refusal of a limit that some path exceeds
abbrev pub IsAnswerOf : Class → ℕ → Result declared.Bounds Refusal → Type 0
IsAnswerOf c j (Ok b) = AreBounds c j (bounds_in b)
IsAnswerOf c j (Err r) = IsRefusalOf c j r

-- the same for the class's `process`
abbrev pub IsAnswerFor : Class → Result declared.Bounds Refusal → Type 0
IsAnswerFor c r = (j : ℕ) → IsProcessOf c j → IsAnswerOf c j r
