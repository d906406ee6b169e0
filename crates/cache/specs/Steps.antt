-- The preconditions and the postconditions of the steps of a call.
use Rattle.std.specs.Prelude.{◌≡◌, Bool, Option, Some, ◌≢◌, ℕ, ℤ, ◌<◌, ◌≤◌, List, [], ◌∷◌, ◌++◌, None, length}
use Rattle.jtypes.specs.declared.loader.LoadAnswer.{LoadAnswer}
use Rattle.jtypes.specs.Entry.{Entry}
use Rattle.jtypes.specs.Loading.{IsGiven}
use Rattle.ended.specs.declared.done.Done.{Done}
use Rattle.stripe.specs.History.{Call, Begun, Record, Entries, key_of}
use Rattle.stripe.specs.Kept.{Kept, IsEnd, asked_by, IsKept, IsOf, IsRecord, begun, committed, entry_of}
use Rattle.cache.specs.Receipts.{receipt_behind}
use Rattle.cache.specs.Views.{Part, seat_view, holding, told_part}
use Rattle.cache.specs.Guarded.{IsLater}
use Rattle.cache.specs.Plays.{Sat, IsFree, HaveFew}

-- `EndsSo` holds if a call that found entry `before` may end with `e`, and the loader may give its answer in `e`.
abbrev pub EndsSo : Bool → (ℤ → LoadAnswer → Type 0) → Entry → Call → Option Done × Option LoadAnswer → Type 0
EndsSo loads gives before call e = IsEnd loads before call e.0 e.1 × IsGiven gives (key_of call) (asked_by e.0 e.1)

-- `IsIdle` holds if the seat holds no stripe.
pub record IsIdle (m : Sat) : Type 0 where
  pub made : ℕ
  pub part : Part
  pub is : m ≡ (seat_view made part, [])

-- `Holds` holds if the seat holds stripe `i`, which has no open call.
pub record Holds (slots i made : ℕ) (p : Part) (m : Sat) : Type 0 where
  pub stripe : Kept
  pub is : m ≡ (holding made p i stripe, (i, stripe) ∷ [])
  pub free : IsFree slots i (p ∷ []) stripe

-- `IsKnown` holds if the seat holds the given stripe, or no stripe for `None`.
abbrev pub IsKnown : ℕ → ℕ → Part → Option ℕ → Sat → Type 0
IsKnown slots made p None m = m ≡ (seat_view made p, [])
IsKnown slots made p (Some i) m = (i < slots) × Holds slots i made p m

-- `CanBegin` is the precondition of `begin`: the seat holds the stripe of the call's key, which has no open call.
pub record CanBegin (i : ℕ) (b : Begun) (held : List (ℕ × Kept)) : Type 0 where
  pub stripe : Kept
  pub is : held ≡ (i, stripe) ∷ []
  pub idle : stripe.running ≡ None
  pub of : IsOf stripe (key_of b.call)

-- `HasBegun` holds if the call is open, found entry `before` and changed no entry. The history has capacity for its record.
pub record HasBegun (loads : Bool) (i : ℕ) (b : Begun) (before : Entry) (y : Kept) (held : List (ℕ × Kept)) : Type 0 where
  pub is : held ≡ (i, begun y b) ∷ []
  pub found : before ≡ entry_of y (key_of b.call)
  pub room : length y.records ≢ y.journal
  pub same : (k : ℤ) → entry_of (begun y b) k ≡ entry_of y k
  pub kept : (opening : Entries) → IsKept loads opening y → IsKept loads opening (begun y b)

-- `HasCommitted` holds if the call has ended with record `r` at index `place`, and with this answer of the loader, if it was asked.
pub record HasCommitted (i : ℕ) (b : Begun) (answer : Option LoadAnswer) (y : Kept) (r : Record) (place : ℕ) (held : List (ℕ × Kept)) : Type 0 where
  pub is : held ≡ (i, committed y r) ∷ []
  pub made : IsRecord b (entry_of y (key_of b.call)) r
  pub place_is : place ≡ length y.records
  pub asked : r.asked ≡ answer
  pub kept : (opening : Entries) → IsKept b.loads opening y → IsKept b.loads opening (committed y r)

-- `CanReturn` is the precondition of an unlock: the held stripe is the one in the seat's view, without an open call.
pub record CanReturn (i : ℕ) (m : Sat) : Type 0 where
  pub made : ℕ
  pub part : Part
  pub stripe : Kept
  pub is : m ≡ (holding made part i stripe, (i, stripe) ∷ [])
  pub idle : stripe.running ≡ None

-- `CanFill` is the precondition of the unlock of a full stripe.
pub record CanFill (i : ℕ) (m : Sat) : Type 0 where
  pub held : CanReturn i m
  pub whole : length held.stripe.records ≡ held.stripe.journal

-- `CanTell` is the precondition of `note`: the held stripe has one record more than in the seat's view, the seat's next one.
pub record CanTell (loads : Bool) (gives : ℤ → LoadAnswer → Type 0) (i : ℕ) (m : Sat) : Type 0 where
  pub made : ℕ
  pub part : Part
  pub before : Kept
  pub stripe : Kept
  pub one : Record
  pub is : m ≡ (holding made part i before, (i, stripe) ∷ [])
  pub later : IsLater loads gives before stripe
  pub more : stripe.records ≡ before.records ++ one ∷ []
  pub few : length stripe.records ≤ stripe.journal
  pub caller : one.caller ≡ part.caller
  pub number : one.number ≡ length part.receipts

-- `HasNoted` holds if the seat's view has the receipt of the stripe's new record, and the seat still holds the stripe.
abbrev pub HasNoted : ℕ → Sat → Sat → Type 0
HasNoted i m m' = (made : ℕ) (p : Part) (y z : Kept) (r : Record) → m ≡ (holding made p i y, (i, z) ∷ []) → z.records ≡ y.records ++ r ∷ []
    → (m' ≡ (holding made (told_part p (receipt_behind i y.records r)) i z, (i, z) ∷ [])) × HaveFew (told_part p (receipt_behind i y.records r) ∷ [])
