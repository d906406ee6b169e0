-- The ghost views of seats.
use Rattle.std.specs.Prelude.{ℕ, ◌+◌, List, [], ◌∷◌, ◌++◌, Option, Some, None, Bool, true, false, replicate, slice_set}
use Rattle.stripe.specs.Kept.{Kept}
use Rattle.cache.specs.Receipts.{Receipt}

-- The part of one seat in a view: its number, its receipts, and a flag for each stripe that it found full.
pub record Part : Type 0 where
  pub caller : ℕ
  pub receipts : List Receipt
  pub full : List Bool

-- A held stripe: its index, and its state at the lock or at the last note.
pub record Taken : Type 0 where
  pub stripe : ℕ
  pub before : Kept

-- The view of one seat, or of several joined seats. `made` is the number of seats in the view of the first seat, and 0 in every other view.
pub record View : Type 0 where
  pub made : ℕ
  pub parts : List Part
  pub held : Option Taken

abbrev pub part : ℕ → List Receipt → List Bool → Part
part caller receipts full = record { caller = caller; receipts = receipts; full = full }

abbrev pub none_full : List Bool
none_full = replicate 64 false

abbrev pub taken : ℕ → Kept → Taken
taken i y = record { stripe = i; before = y }

-- The view of one seat that holds no stripe. `holding` is that of a seat that holds stripe `i`.
abbrev pub seat_view : ℕ → Part → View
seat_view made p = record { made = made; parts = p ∷ []; held = None }

abbrev pub holding : ℕ → Part → ℕ → Kept → View
holding made p i y = record { made = made; parts = p ∷ []; held = Some (taken i y) }

-- The view of the first seat before any split.
abbrev pub first_view : View
first_view = seat_view 1 (part 0 [] none_full)

abbrev pub told_part : Part → Receipt → Part
told_part p t = part p.caller (p.receipts ++ t ∷ []) p.full

abbrev pub filled_part : Part → ℕ → Part
filled_part p i = part p.caller p.receipts (slice_set p.full i true)

-- The view of the first seat after the split of a further seat. `cut_right` is the view of the further seat.
abbrev pub cut_left : View → View
cut_left v = record { made = v.made + 1; parts = v.parts; held = v.held }

abbrev pub cut_right : View → View
cut_right v = seat_view 0 (part v.made [] none_full)

-- The view of two joined seats.
abbrev pub joined : View → View → View
joined v w = record { made = v.made; parts = v.parts ++ w.parts; held = v.held }

abbrev pub spent : View
spent = record { made = 0; parts = []; held = None }
