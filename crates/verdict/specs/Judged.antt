-- The model of an accepted class in contracts.
use Rattle.std.specs.Prelude.{◌≡◌, ℕ, ◌<◌, ◌==◌, true, List, [], ◌∷◌, length, get_or, slice_get, Option, Some, None, IsSome, if◌then◌else◌}
use Rattle.constpool.specs.Lookup.{Slot}
use Rattle.constpool.specs.Names.{init_name}
use Rattle.classfile.specs.declared.class_file.Parts.{Parts}
use Rattle.classfile.specs.View.{MethodView, view_of}
use Rattle.decode.specs.Places.{at_place}
use Rattle.typecheck.specs.Typing.{Method, Class, IsProcessOf}
use Rattle.typecheck.specs.Calls.{AreCallsOf}
use Rattle.typecheck.specs.declared.typed.Typed.{Typed}
use Rattle.bounds.specs.declared.limits.Bounds.{Bounds}

-- The constant pool and the parts of the class file, a `Typed` for each method except the constructor, and the bounds of an invocation.
pub record Judged : Type 0 where
  pub pool : List Slot
  pub parts : Parts
  pub methods : List Typed
  pub bounds : Bounds

-- `NumbersRise` holds if the method indices are in ascending order.
abbrev pub NumbersRise : List Typed → Type 0
NumbersRise rows = (i j : ℕ) (d : Typed) → i < j → j < length rows → (get_or rows i d).number < (get_or rows j d).number

-- The first `Typed` with method index `k`.
abbrev pub row_in : List Typed → ℕ → Option Typed
row_in [] k = None
row_in (x ∷ rows) k = if x.number == k then Some x else row_in rows k

-- The first `Typed` that is marked as `process`.
abbrev pub process_row : List Typed → Option Typed
process_row [] = None
process_row (x ∷ rows) = if x.is_process then Some x else process_row rows

-- `IsRowIn` holds if `row` has the environment, the code and the callees of the method of `c` with its index.
pub record IsRowIn (c : Class) (row : Typed) : Type 0 where
  pub method : (m : Method) × (slice_get c.methods row.number ≡ Some m) × (m.environment ≡ row.environment) × (m.code ≡ row.code)
  pub starts : IsSome (at_place row.code 0)
  pub calls : AreCallsOf c.view row.code row.calls.items
  pub process : row.is_process ≡ true → IsProcessOf c row.number

-- `IsJudgedAs` holds if `v` describes class `c`: it has a `Typed` for each method except the constructor, by ascending method index.
pub record IsJudgedAs (c : Class) (v : Judged) : Type 0 where
  pub view : c.view ≡ view_of v.pool v.parts
  pub each : (i : ℕ) (d : Typed) → i < length v.methods → IsRowIn c (get_or v.methods i d)
  pub rising : (i j : ℕ) (d : Typed) → i < j → j < length v.methods → (get_or v.methods i d).number < (get_or v.methods j d).number
  pub other : (i : ℕ) (d : Typed) (m : MethodView) → i < length v.methods → slice_get c.view.methods (get_or v.methods i d).number ≡ Some m → m.name ≡ init_name → ⊥
  pub each_has_one : (k : ℕ) (m : MethodView) → slice_get c.view.methods k ≡ Some m → (m.name ≡ init_name → ⊥) → (i : ℕ) × (i < length v.methods) × ((d : Typed) → (get_or v.methods i d).number ≡ k)
  pub process : (k : ℕ) → IsProcessOf c k → (i : ℕ) × (i < length v.methods) × ((d : Typed) → ((get_or v.methods i d).number ≡ k) × ((get_or v.methods i d).is_process ≡ true))
