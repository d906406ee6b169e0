-- The results of the functions that read a StackMapTable.
use Rattle.std.specs.Prelude.{ℕ, ◌-◌, ◌==◌, nat_le, List, [], ◌∷◌, ◌++◌, length, take, Option, Some, None, option_map, option_and_then, reverse, is_some, Result, Ok, Err}
use Rattle.jtypes.specs.declared.refusal.Refusal.{Refusal}
use Rattle.jtypes.specs.declared.types.JType.{JType}
use Rattle.jtypes.specs.Layout.{first}
use Rattle.jtypes.specs.Lists.{only_if, ◌>>=◌}
use Rattle.jtypes.specs.Types.{is_long, slots_by}
use Rattle.classfile.specs.View.{ClassView}
use Rattle.decode.specs.declared.instruction.Placed.{Placed}
use Rattle.decode.specs.Places.{at_place}
use Rattle.frames.specs.declared.entries.Change.{Change}
use Rattle.frames.specs.declared.entries.Change.TheVariants.{OneItem, Chop, Append, Full}
use Rattle.frames.specs.declared.entries.Entry.{Entry}
use Rattle.frames.specs.Frames.{Frame, row_with}
use Rattle.frames.specs.declared.frame.Environment.{Environment}
use Rattle.frames.specs.StackMap.{table, Listed, place_after, declared_of}

-- the value, if the parse consumes all bytes
abbrev pub whole : {A : Type 0} → Result (A × List ℕ) Refusal → Option A
whole (Ok x) = only_if (length x.1 == 0) (Some x.0)
whole (Err r) = None

abbrev pub entries_of : ClassView → List ℕ → Option (List Entry)
entries_of v content = whole (first (table v) content)

-- the pc, if an instruction starts there
abbrev pub standing : List Placed → ℕ → Option ℕ
standing code p = only_if (is_some (at_place code p)) (Some p)

-- the types, if they fit in `max` slots
abbrev pub within : ℕ → List JType → Option (List JType)
within max ts = only_if (nat_le (slots_by is_long ts) max) (Some ts)

-- the locals after a change; then the stack of its frame, with the bottom first
abbrev pub locals_after : List JType → Change → Option (List JType)
locals_after locals (Chop n) = only_if (nat_le n (length locals)) (Some (take (length locals - n) locals))
locals_after locals (Append types) = Some (locals ++ types)
locals_after locals (Full new stack) = Some new
locals_after locals _ = Some locals

abbrev pub stack_after : Change → List JType
stack_after (OneItem t) = t ∷ []
stack_after (Full new stack) = stack
stack_after _ = []

-- the locals after a change, if they fit in `max` slots
abbrev pub roomy_after : ℕ → List JType → Change → Option (List JType)
roomy_after max locals c = option_and_then (within max) (locals_after locals c)

-- the frame with locals of these types
abbrev pub frame_with : ℕ → List JType → List JType → Frame
frame_with max_locals types stack = record { locals = row_with max_locals types; stack = stack }

-- the frame of an entry, if an instruction starts at its pc and the frame is within the limits
unfoldable pub next_listed : Environment → List Placed → Option ℕ → List JType → Entry → Option Listed
next_listed e code p locals a = do
  place ← standing code (place_after p a.delta)
  roomy ← roomy_after e.max_locals locals a.change
  stack ← within e.max_stack (stack_after a.change)
  Some (record { place = place; locals = roomy; stack = stack })

-- the same frame, with the top of the stack first
pub record Reached : Type 0 where
  pub place : ℕ
  pub locals : List JType
  pub stack : List JType

abbrev pub reached : Listed → Reached
reached x = record { place = x.place; locals = x.locals; stack = reverse x.stack }

-- the frames of all entries, if each has one
abbrev pub framed : Environment → List Placed → Option ℕ → List JType → List Entry → Option (List (ℕ × Frame))
framed e code p locals [] = Some []
framed e code p locals (a ∷ entries) =
    option_and_then (λ x. option_map (λ ds. declared_of e x ∷ ds) (framed e code (Some x.place) x.locals entries)) (next_listed e code p locals a)

abbrev pub framed_by : Environment → List Placed → Option (List Entry) → Option (List (ℕ × Frame))
framed_by e code entries = option_and_then (framed e code None e.signature.params) entries

-- the frames of the attributes, if there is at most one and its entries have frames
abbrev pub frames_of : ClassView → Environment → List Placed → List (List ℕ) → Option (List (ℕ × Frame))
frames_of v e code [] = Some []
frames_of v e code (content ∷ []) = framed_by e code (entries_of v content)
frames_of v e code (content ∷ (other ∷ more)) = None
