-- The histories of all stripes and the receipts of all seats of a closed cache.
use Rattle.std.specs.Prelude.{◌≡◌, ℕ, List, map, flat_map}
use mathlib.Core.Option.{some}
use lib.ListN.{get_elem?}
use Rattle.stripe.specs.declared.call.Reply.{Reply}
use Rattle.stripe.specs.History.{Call, Record, key_of, stripe_of}
use Rattle.cache.specs.Receipts.{Receipt}
use Rattle.cache.specs.Opened.{Sitting}

-- The concatenated histories of all stripes.
abbrev pub all_records : List (List Record) → List Record
all_records histories = flat_map (λ h. h) histories

-- The concatenated receipts of all seats.
abbrev pub all_receipts : List Sitting → List Receipt
all_receipts seats = flat_map (λ (s : Sitting). s.receipts) seats

-- The calls of the receipts, each with its reply.
abbrev pub calls_told : List Receipt → List (Call × Reply)
calls_told receipts = map (λ (t : Receipt). (t.call, t.reply)) receipts

-- The calls that these seats have receipts of, each with its reply.
abbrev pub calls_at : List Sitting → List (Call × Reply)
calls_at seats = calls_told (all_receipts seats)

-- `AreFiled` holds if each receipt has the stripe of its call's key, of `stripes` stripes.
abbrev pub AreFiled : ℕ → List Receipt → Type 0
AreFiled stripes receipts = (n : ℕ) (t : Receipt) → get_elem? receipts n ≡ some t → t.stripe ≡ stripe_of stripes (key_of t.call)

-- `AllAreFiled` holds if `AreFiled` holds for each seat.
abbrev pub AllAreFiled : ℕ → List Sitting → Type 0
AllAreFiled stripes seats = (c : ℕ) (s : Sitting) → get_elem? seats c ≡ some s → AreFiled stripes s.receipts
