-- A method's control flow graph, unrolled: a node is a pc with what is known of each local variable and operand before its instruction.
use Rattle.std.specs.Prelude.{ℕ, suc, Bool, true, false, List, [], ◌∷◌, ◌++◌, map, reverse, length, take, drop, get_or, slice_set, option_map, Option, Some, None, ℤ, pos, negsuc, if◌then◌else◌}
use Rattle.std.specs.Int.{w32, int_wrapping_add}
use Rattle.jtypes.specs.declared.types.JType.{JType}
use Rattle.jtypes.specs.declared.types.Value.{Value}
use Rattle.jtypes.specs.declared.types.Value.TheVariants.{Int}
use Rattle.jtypes.specs.declared.operations.Kind.{Kind}
use Rattle.jtypes.specs.declared.operations.Kind.TheVariants as kind
use Rattle.jtypes.specs.declared.operations.Pushed.{Pushed}
use Rattle.jtypes.specs.declared.operations.Pushed.TheVariants as pushed
use Rattle.jtypes.specs.declared.operations.Operation.{Operation}
use Rattle.jtypes.specs.declared.operations.Test.{Test}
use Rattle.jtypes.specs.declared.operations.Test.TheVariants.{WithZero, OfInts, IsNull, IsNonNull}
use Rattle.jtypes.specs.Lists.{padded, result_list}
use Rattle.jtypes.specs.Types.{as_locals, element_type}
use Rattle.jtypes.specs.Arithmetic.{Answer, Leaves, operate, takes_of, puts_of}
use Rattle.classfile.specs.View.{ClassView}
use Rattle.decode.specs.declared.instruction.Instruction.{Instruction}
use Rattle.decode.specs.declared.instruction.Instruction.TheVariants as instruction
use Rattle.decode.specs.declared.instruction.Cases.{Cases}
use Rattle.decode.specs.declared.instruction.Placed.{Placed}
use Rattle.decode.specs.Places.{chosen, targets_in}
use Rattle.frames.specs.declared.members.Callee.{Callee}
use Rattle.frames.specs.Members.{callee_at}
use Rattle.transfer.specs.Forms.{rearranged}
use Rattle.typecheck.specs.Typing.{Method}
use Rattle.unrolled.specs.Known.{Known, Wide, Narrow, Number, Count, Sized, Arguments, is_wide, forgotten, unknown_of, known_local, compared}

-- The operands have the top first; a long is one operand and two local variables (JVMS §2.6.1, §2.6.2).
pub record Node : Type 0 where
  pub place : ℕ
  pub locals : List Known
  pub operands : List Known

-- What is followed in a method: values at all, and the ints of which local variables. References are followed wherever values are.
pub record Following : Type 0 where
  pub values : Bool
  pub ints : ℕ → Bool

-- the node; where no values are followed only its pc and which operands are longs
abbrev pub arrive : Following → Node → Node
arrive f x = if f.values then x else record { place = x.place; locals = []; operands = map forgotten x.operands }

-- ---- local variables (JVMS §2.6.1)

-- what a local variable keeps of a value, by whether its ints are followed; the load of a long says that it is one
abbrev pub kept : Bool → Known → Known
kept b Wide = Narrow
kept false (Number n) = Narrow
kept false Count = Narrow
kept b k = k

abbrev pub kept_from : (ℕ → Bool) → ℕ → List Known → List Known
kept_from f n [] = []
kept_from f n (k ∷ ks) = kept (f n) k ∷ kept_from f (suc n) ks

abbrev pub loaded : Kind → Known → Known
loaded kind.Long k = Wide
loaded _ Wide = Narrow
loaded _ k = k

-- The store of a long also writes the second of its local variables.
abbrev pub stored : Kind → ℕ → Known → List Known → List Known
stored kind.Long n k locals = slice_set (slice_set locals n k) (suc n) Narrow
stored _ n k locals = slice_set locals n k

abbrev pub incremented : ℤ → Known → Known
incremented by (Number n) = Number (int_wrapping_add w32 n by)
incremented by k = Narrow

-- ---- operands (JVMS §2.6.2)

abbrev pub known_pushed : Pushed → Known
known_pushed (pushed.Int n) = Number n
known_pushed (pushed.Long n) = Wide
known_pushed pushed.Null = Narrow
known_pushed (pushed.Boolean b) = Narrow

-- the ints, if all of them are known
abbrev pub all_numbers : List Known → Option (List Value)
all_numbers [] = Some []
all_numbers (Number n ∷ ks) = option_map (λ vs. Int n ∷ vs) (all_numbers ks)
all_numbers (k ∷ ks) = None

abbrev pub int_result : JType → Answer → Known
int_result t (Leaves (Int n ∷ [])) = Number n
int_result t _ = unknown_of t

abbrev pub by_numbers : Operation → Option (List Value) → Known
by_numbers o None = unknown_of (puts_of o)
by_numbers o (Some vs) = int_result (puts_of o) (operate o vs)

-- The result of an operation on known ints is known if it is an int (JVMS §2.11.3).
abbrev pub result_known : Operation → List Known → Known
result_known o ks = by_numbers o (all_numbers (take (length (takes_of o)) ks))

abbrev pub operated : Operation → List Known → List Known
operated o ks = result_known o ks ∷ drop (length (takes_of o)) ks

-- the operands after a new array, whose length is on top
abbrev pub with_array : List Known → List Known
with_array (Number (pos n) ∷ rest) = Sized n ∷ rest
with_array (k ∷ rest) = Narrow ∷ rest
with_array [] = []

abbrev pub length_known : Known → Known
length_known (Sized n) = Number (pos n)
length_known Arguments = Count
length_known k = Narrow

abbrev pub on_top : (Known → Known) → List Known → List Known
on_top f [] = []
on_top f (k ∷ ks) = f k ∷ ks

-- the operands after a call: of its result only the type is known
abbrev pub called : Option Callee → List Known → List Known
called None ks = ks
called (Some callee) ks = map unknown_of (result_list callee.result) ++ drop (length callee.params) ks

abbrev pub taken : Option Callee → List Known → List Known
taken None ks = []
taken (Some callee) ks = take (length callee.params) ks

-- ---- tests

-- the answer of a test, if it follows from what is known
abbrev pub decided : Test → List Known → Option Bool
decided (WithZero c) (a ∷ ks) = compared c a (Number (pos 0))
decided (OfInts c) (b ∷ a ∷ ks) = compared c a b
decided IsNull (Sized n ∷ ks) = Some false
decided IsNull (Arguments ∷ ks) = Some false
decided IsNonNull (Sized n ∷ ks) = Some true
decided IsNonNull (Arguments ∷ ks) = Some true
decided test ks = None

abbrev pub tested_rest : Test → List Known → List Known
tested_rest (OfInts c) ks = drop 2 ks
tested_rest test ks = drop 1 ks

-- ---- edges (JVMS §6.5)

abbrev pub at : Node → ℕ → List Known → Node
at x place operands = record { place = place; locals = x.locals; operands = operands }

abbrev pub to_target : Node → ℤ → List Known → List Node
to_target x (pos q) operands = at x q operands ∷ []
to_target x (negsuc n) operands = []

abbrev pub to_targets : Node → List ℤ → List Known → List Node
to_targets x [] operands = []
to_targets x (z ∷ zs) operands = to_target x z operands ++ to_targets x zs operands

-- a branch: one edge if its test is decided, else two
abbrev pub by_answer : Node → ℕ → ℤ → List Known → Option Bool → List Node
by_answer x next target operands (Some true) = to_target x target operands
by_answer x next target operands (Some false) = at x next operands ∷ []
by_answer x next target operands None = at x next operands ∷ to_target x target operands

-- a switch: one edge if its key is known, else one for each target
abbrev pub by_key : Node → ℤ → Cases → List Known → List Node
by_key x default cases (Number n ∷ rest) = to_target x (chosen default cases n) rest
by_key x default cases ks = to_targets x (default ∷ targets_in cases) (drop 1 ks)

-- In well-typed code the operands match the instruction.
abbrev pub if_matching : Node → ℕ → Option (List Known) → List Node
if_matching x next None = at x next x.operands ∷ []
if_matching x next (Some ks) = at x next ks ∷ []

-- The nodes after an instruction, in the same method. After the call of an own method it is the one after its return.
abbrev pub edges : ClassView → Following → Node → ℕ → Instruction → List Node
edges v f x next instruction.Nop = at x next x.operands ∷ []
edges v f x next (instruction.Push p) = at x next (known_pushed p ∷ x.operands) ∷ []
edges v f x next (instruction.Load k n) = at x next (loaded k (known_local x.locals n) ∷ x.operands) ∷ []
edges v f x next (instruction.Store k n) = record { place = next; locals = stored k n (kept (f.ints n) (get_or x.operands 0 Narrow)) x.locals; operands = drop 1 x.operands } ∷ []
edges v f x next (instruction.Increment n by) = record { place = next; locals = slice_set x.locals n (incremented by (known_local x.locals n)); operands = x.operands } ∷ []
edges v f x next (instruction.Operate o) = at x next (operated o x.operands) ∷ []
edges v f x next (instruction.Rearrange r) = if_matching x next (rearranged is_wide r x.operands)
edges v f x next (instruction.Branch test target) = by_answer x next target (tested_rest test x.operands) (decided test x.operands)
edges v f x next (instruction.Goto target) = to_target x target x.operands
edges v f x next (instruction.Switch default cases) = by_key x default cases x.operands
edges v f x next (instruction.Return k) = []
edges v f x next instruction.ReturnVoid = []
edges v f x next (instruction.Throw e text) = []
edges v f x next (instruction.Invoke k i) = at x next (called (callee_at v k i) x.operands) ∷ []
edges v f x next (instruction.NewArray k) = at x next (with_array x.operands) ∷ []
edges v f x next (instruction.ArrayLoad k) = at x next (unknown_of (element_type k) ∷ drop 2 x.operands) ∷ []
edges v f x next (instruction.ArrayStore k) = at x next (drop 3 x.operands) ∷ []
edges v f x next instruction.ReferenceLoad = at x next (Narrow ∷ drop 2 x.operands) ∷ []
edges v f x next instruction.ArrayLength = at x next (on_top length_known x.operands) ∷ []
edges v f x next (instruction.CheckCast i) = at x next x.operands ∷ []
edges v f x next (instruction.InstanceOf i) = at x next (on_top (λ k. Narrow) x.operands) ∷ []

-- the successors of a node at an instruction, with only what is followed
abbrev pub successors : ClassView → Following → Placed → Node → List Node
successors v f p x = map (arrive f) (edges v f x p.next p.instruction)

-- the node at the start of a method, by its arguments with the last one first
abbrev pub entered : Following → Method → List Known → Node
entered f m arguments = arrive f (record {
  place = 0;
  locals = kept_from f.ints 0 (padded Narrow m.environment.max_locals (as_locals is_wide (λ k. k) Narrow (reverse arguments)));
  operands = [];
})

-- the operands that a call takes
abbrev pub arguments_by : ClassView → Instruction → List Known → List Known
arguments_by v (instruction.Invoke k i) ks = taken (callee_at v k i) ks
arguments_by v i ks = []

-- the arguments of `process`, the last one first: the array, the entry, `this`
abbrev pub process_arguments : List Known
process_arguments = Arguments ∷ Narrow ∷ Narrow ∷ []
