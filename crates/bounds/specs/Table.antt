-- The maximum costs of all paths, as a table with a cost for each pc.
use Rattle.std.specs.Prelude.{◌≡◌, ℕ, Bool, List, [], ◌∷◌, ◌<◌, max, true, Option, Some, None, IsSome, slice_get, ℤ, pos, negsuc}
use Rattle.decode.specs.declared.instruction.Instruction.{Instruction}
use Rattle.decode.specs.declared.instruction.Instruction.TheVariants.{Branch, Goto, Switch, Return, ReturnVoid, Throw}
use Rattle.decode.specs.declared.instruction.Placed.{Placed}
use Rattle.decode.specs.Places.{IsTarget, targets_in, falls_through}
use Rattle.typecheck.specs.Typing.{Method, Class, instruction_at, call_of}
use Rattle.bounds.specs.Recursion.{IsOrdered}
use Rattle.bounds.specs.Paths.{Cost, Bounds, StandsAt, last_cost, after_one, after_call, words_at, AreBounds}

-- the costs by method and pc
abbrev pub Costs : Type 0
Costs = ℕ → ℕ → Cost

-- the maximum of each measure
abbrev pub greater : Cost → Cost → Cost
greater a b = record { steps = max a.steps b.steps; words = max a.words b.words; slots = max a.slots b.slots; depth = max a.depth b.depth }

abbrev pub place_of : ℤ → ℕ
place_of (pos q) = q
place_of (negsuc n) = 0

-- the maximum of the costs at these targets and `k`
abbrev pub cost_among : Costs → ℕ → List ℤ → Cost → Cost
cost_among t j [] k = k
cost_among t j (z ∷ targets) k = greater (t j (place_of z)) (cost_among t j targets k)

-- the cost from an instruction that falls through, by the own method that it calls, if any
abbrev pub cost_through : Costs → Method → (j place : ℕ) → Placed → Option ℕ → Cost
cost_through t m j place p None = after_one (words_at m place p.instruction) (t j p.next)
cost_through t m j place p (Some k) = after_call m (t k 0) (t j p.next)

-- the cost from an instruction on, by those of its successors
abbrev pub cost_by : Class → Costs → Method → (j place : ℕ) → Placed → Instruction → Cost
cost_by c t m j place p (Return k) = last_cost m
cost_by c t m j place p ReturnVoid = last_cost m
cost_by c t m j place p (Throw e text) = last_cost m
cost_by c t m j place p (Goto target) = after_one 0 (t j (place_of target))
cost_by c t m j place p (Branch test target) = greater (after_one 0 (t j p.next)) (after_one 0 (t j (place_of target)))
cost_by c t m j place p (Switch default cases) = after_one 0 (cost_among t j (targets_in cases) (t j (place_of default)))
cost_by c t m j place p i = cost_through t m j place p (call_of c.view i)

-- `IsTable c set t` holds if `t` satisfies one equation for each instruction of the methods in `set`
abbrev pub IsTable : Class → (ℕ → Bool) → Costs → Type 0
IsTable c set t = (j place : ℕ) (m : Method) (p : Placed) → set j ≡ true → StandsAt c j place m p → t j place ≡ cost_by c t m j place p p.instruction

-- `LeadsOn c set` holds if each instruction of the methods in `set` has its successors, and own calls lower a rank.
-- The next instruction and each target exist and have larger pcs; an own callee is in `set` and has an instruction at pc 0.
pub record LeadsOn (c : Class) (set : ℕ → Bool) : Type 0 where
  pub next : (j q : ℕ) (m : Method) (p : Placed) → set j ≡ true → StandsAt c j q m p → falls_through p.instruction ≡ true → (q < p.next) × IsSome (instruction_at m p.next)
  pub target : (j q : ℕ) (m : Method) (p : Placed) (target : ℤ) → set j ≡ true → StandsAt c j q m p → IsTarget p.instruction target → (r : ℕ) × (target ≡ pos r) × (q < r) × IsSome (instruction_at m r)
  pub callee : (j q k : ℕ) (m : Method) (p : Placed) → set j ≡ true → StandsAt c j q m p → call_of c.view p.instruction ≡ Some k → (set k ≡ true) × ((n : Method) × (slice_get c.methods k ≡ Some n) × IsSome (instruction_at n 0))
  pub ranks : (rank : ℕ → ℕ) × IsOrdered c rank

abbrev pub bounds_of : Cost → Bounds
bounds_of k = record { steps = k.steps; words = k.words; slots = k.slots; depth = k.depth }

-- a table exists if `LeadsOn` holds
abbrev pub EachHasTable : Type 0
EachHasTable = (c : Class) (set : ℕ → Bool) → LeadsOn c set → (t : Costs) × IsTable c set t

-- the cost of a table at the start of a method is the method's bounds
abbrev pub TablesAreBounds : Type 0
TablesAreBounds = (c : Class) (set : ℕ → Bool) (t : Costs) (j : ℕ) (m : Method) → LeadsOn c set → IsTable c set t → set j ≡ true → slice_get c.methods j ≡ Some m → IsSome (instruction_at m 0) → AreBounds c j (bounds_of (t j 0))
