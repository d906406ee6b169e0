-- The results of the parts of the type checker, and of the pass.
use Rattle.std.specs.Prelude.{◌≡◌, ℕ, ◌==◌, min, Bool, false, not, ◌&&◌, ◌||◌, List, [], ◌∷◌, Option, Some, None, is_some, Result, Ok, Err, ℤ, pos, negsuc, if◌then◌else◌}
use Rattle.jtypes.specs.declared.refusal.Refusal.{Refusal}
use Rattle.jtypes.specs.declared.refusal.Refusal.TheVariants.{BadStackMap, TypeMismatch, FallsOff}
use Rattle.classfile.specs.View.{ClassView}
use Rattle.decode.specs.declared.instruction.Instruction.{Instruction}
use Rattle.decode.specs.declared.instruction.Placed.{Placed}
use Rattle.decode.specs.Places.{at_place, target_of, cases_of, falls_through}
use Rattle.frames.specs.declared.frame.Environment.{Environment}
use Rattle.frames.specs.Frames.{Frame, frame_in}
use Rattle.transfer.specs.Transfer.{transfer}
use Rattle.frames.specs.declared.table.Declared.{Declared}
use Rattle.frames.specs.declared.frame.Flow.{Flow}
use Rattle.frames.specs.Seen.{frame_seen}
use Rattle.typecheck.specs.Typing.{Method}
use Rattle.typecheck.specs.Pass.{frame_fits}

-- a method with this code and these declared frames
abbrev pub method_of : Environment → List Placed → List (ℕ × Frame) → Method
method_of e code ds = record { environment = e; code = code; declared = ds }

-- the declared frame at a pc, as the code stores it
abbrev pub declared_row : List Declared → ℕ → Option Declared
declared_row [] p = None
declared_row (d ∷ ds) p = if d.place == p then Some d else declared_row ds p

-- the frame declared at a branch target
abbrev pub target_frame : List (ℕ × Frame) → ℤ → Option Frame
target_frame ds (pos q) = frame_in ds q
target_frame ds (negsuc n) = None

abbrev pub target_row : List Declared → ℤ → Option Declared
target_row ds (pos q) = declared_row ds q
target_row ds (negsuc n) = None

-- the frame that flows to the next instruction, if one does
abbrev pub flowing : Bool → Flow → Option Frame
flowing flows f = if flows then Some (frame_seen f) else None

-- ---- missing frames

abbrev pub lacks_target : List (ℕ × Frame) → Option ℤ → Bool
lacks_target ds None = false
lacks_target ds (Some z) = not (is_some (target_frame ds z))

-- whether a case target of a switch has no declared frame
abbrev pub lacks_cases : List (ℕ × Frame) → List ℤ → Bool
lacks_cases ds [] = false
lacks_cases ds (z ∷ cases) = lacks_target ds (Some z) || lacks_cases ds cases

abbrev pub lacks_targets : List (ℕ × Frame) → Instruction → Bool
lacks_targets ds i = lacks_target ds (target_of i) || lacks_cases ds (cases_of i)

-- whether a target of an instruction has no declared frame, or the next instruction after one that doesn't fall through
abbrev pub lacks_at : List Placed → List (ℕ × Frame) → Placed → Bool
lacks_at code ds p = lacks_targets ds p.instruction || (not (falls_through p.instruction) && (is_some (at_place code p.next) && not (is_some (frame_in ds p.next))))

-- the same for declared frames as the code stores them
abbrev pub lacks_target_row : List Declared → Option ℤ → Bool
lacks_target_row ds None = false
lacks_target_row ds (Some z) = not (is_some (target_row ds z))

abbrev pub lacks_cases_row : List Declared → List ℤ → Bool
lacks_cases_row ds [] = false
lacks_cases_row ds (z ∷ cases) = lacks_target_row ds (Some z) || lacks_cases_row ds cases

abbrev pub lacks_targets_row : List Declared → Instruction → Bool
lacks_targets_row ds i = lacks_target_row ds (target_of i) || lacks_cases_row ds (cases_of i)

abbrev pub lacks_row_at : List Placed → List Declared → Placed → Bool
lacks_row_at code ds p = lacks_targets_row ds p.instruction || (not (falls_through p.instruction) && (is_some (at_place code p.next) && not (is_some (declared_row ds p.next))))

-- ---- one instruction of the pass

abbrev pub mismatch_at : ℕ → Refusal
mismatch_at place = TypeMismatch (min place 4294967295)

-- the frame with which an instruction is checked, by the frame that comes from the pc `from` and the declared one
abbrev pub entered : ℕ → Option Frame → Option Frame → Result Frame Refusal
entered from None None = Err BadStackMap
entered from None (Some d) = Ok d
entered from (Some f) None = Ok f
entered from (Some f) (Some d) = if frame_fits f d then Ok d else Err (mismatch_at from)

abbrev pub flows : Placed → Frame → Option Frame
flows p g = if falls_through p.instruction then Some g else None

-- the check of the frame `g` after an instruction at one target, followed by the result `others` of the remaining targets
abbrev pub met : Placed → Frame → Option Frame → Result (Option Frame) Refusal → Result (Option Frame) Refusal
met p g None others = Err BadStackMap
met p g (Some d) others = if frame_fits g d then others else Err (mismatch_at p.place)

-- `IsMet` holds if the frame `g` fits at the target, and `IsUnmet` if the check there fails with `r`, whatever the remaining targets give
abbrev pub IsMet : List (ℕ × Frame) → Placed → Frame → ℤ → Type 0
IsMet ds p g target = (others : Result (Option Frame) Refusal) → met p g (target_frame ds target) others ≡ others

abbrev pub IsUnmet : List (ℕ × Frame) → Placed → Frame → ℤ → Refusal → Type 0
IsUnmet ds p g target r = (others : Result (Option Frame) Refusal) → met p g (target_frame ds target) others ≡ Err r

-- the check at the case targets of a switch
abbrev pub branched_cases : List (ℕ × Frame) → Placed → Frame → List ℤ → Result (Option Frame) Refusal
branched_cases ds p g [] = Ok (flows p g)
branched_cases ds p g (z ∷ cases) = met p g (target_frame ds z) (branched_cases ds p g cases)

abbrev pub branched : List (ℕ × Frame) → Placed → Frame → Option ℤ → List ℤ → Result (Option Frame) Refusal
branched ds p g None cases = Ok (flows p g)
branched ds p g (Some z) cases = met p g (target_frame ds z) (branched_cases ds p g cases)

abbrev pub left : List (ℕ × Frame) → Placed → Option Frame → Result (Option Frame) Refusal
left ds p None = Err (mismatch_at p.place)
left ds p (Some g) = branched ds p g (target_of p.instruction) (cases_of p.instruction)

abbrev pub after : ClassView → Environment → List (ℕ × Frame) → Placed → Result Frame Refusal → Result (Option Frame) Refusal
after v e ds p (Err r) = Err r
after v e ds p (Ok f) = left ds p (transfer v e p.instruction f)

-- the frame that flows to the next instruction after one instruction, or an error
abbrev pub advanced : ClassView → Environment → List (ℕ × Frame) → Placed → ℕ → Option Frame → Result (Option Frame) Refusal
advanced v e ds p from flow = after v e ds p (entered from flow (frame_in ds p.place))

-- ---- the whole pass

abbrev pub ended : Option Frame → Result (Unit {0}) Refusal
ended None = Ok tt
ended (Some f) = Err FallsOff

abbrev pub then_passed : Result (Option Frame) Refusal → (Option Frame → Result (Unit {0}) Refusal) → Result (Unit {0}) Refusal
then_passed (Err r) rest = Err r
then_passed (Ok flow) rest = rest flow

abbrev pub passed : ClassView → Environment → List (ℕ × Frame) → ℕ → Option Frame → List Placed → Result (Unit {0}) Refusal
passed v e ds from flow [] = ended flow
passed v e ds from flow (p ∷ code) = then_passed (advanced v e ds p from flow) (λ next. passed v e ds p.place next code)
