-- What is followed in a class: values only if some branch leads back, and of ints those of the local variables that a test looks at.
use Rattle.std.specs.Prelude.{ℕ, ◌==◌, nat_le, Bool, true, false, ◌&&◌, ◌||◌, List, [], ◌∷◌, Option, Some, None, slice_get, ℤ, pos, negsuc}
use Rattle.jtypes.specs.declared.operations.Kind.TheVariants as kind
use Rattle.decode.specs.declared.instruction.Instruction.{Instruction}
use Rattle.decode.specs.declared.instruction.Instruction.TheVariants as instruction
use Rattle.decode.specs.declared.instruction.Placed.{Placed}
use Rattle.decode.specs.Places.{target_of, cases_of}
use Rattle.typecheck.specs.Typing.{Method, Class}
use Rattle.unrolled.specs.Graph.{Following}

-- what is followed, by the index of the method
abbrev pub Rules : Type 0
Rules = ℕ → Following

-- ---- branches that lead back

abbrev pub is_back : ℕ → ℤ → Bool
is_back place (pos q) = nat_le q place
is_back place (negsuc n) = false

abbrev pub any_back : ℕ → List ℤ → Bool
any_back place [] = false
any_back place (z ∷ zs) = is_back place z || any_back place zs

abbrev pub back_target : ℕ → Option ℤ → Bool
back_target place None = false
back_target place (Some z) = is_back place z

abbrev pub leads_back : List Placed → Bool
leads_back [] = false
leads_back (p ∷ code) = (back_target p.place (target_of p.instruction) || any_back p.place (cases_of p.instruction)) || leads_back code

abbrev pub has_loops : List Method → Bool
has_loops [] = false
has_loops (m ∷ methods) = leads_back m.code || has_loops methods

-- ---- local variables that a test looks at

abbrev pub is_test : Instruction → Bool
is_test (instruction.Branch t target) = true
is_test (instruction.Switch default cases) = true
is_test i = false

abbrev pub goes_between : Instruction → Bool
goes_between (instruction.Push p) = true
goes_between (instruction.Load k n) = true
goes_between (instruction.Operate o) = true
goes_between instruction.ArrayLength = true
goes_between i = false

-- whether a test follows, with only pushes, loads, lengths and arithmetic before it
abbrev pub is_test_ahead : List Placed → Bool
is_test_ahead [] = false
is_test_ahead (p ∷ code) = is_test p.instruction || (goes_between p.instruction && is_test_ahead code)

abbrev pub loads_int : ℕ → Instruction → Bool
loads_int n (instruction.Load kind.Int k) = k == n
loads_int n i = false

abbrev pub is_tested : ℕ → List Placed → Bool
is_tested n [] = false
is_tested n (p ∷ code) = (loads_int n p.instruction && is_test_ahead code) || is_tested n code

abbrev pub tested_in : ℕ → Option Method → Bool
tested_in n None = false
tested_in n (Some m) = is_tested n m.code

abbrev pub rules_of : Class → Rules
rules_of c j = record { values = has_loops c.methods; ints = λ n. tested_in n (slice_get c.methods j) }
