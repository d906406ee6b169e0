-- The model of a stripe.
use Rattle.std.specs.Prelude.{◌≡◌, ℕ, ℤ, Bool, true, false, List, [], ◌∷◌, ◌++◌, All, Option, Some, None, is_some, IsSome, not, ◌&&◌, if◌then◌else◌}
use Rattle.std.specs.FinMap as map
use Rattle.jtypes.specs.Entry.{Entry}
use Rattle.jtypes.specs.declared.loader.LoadAnswer.{LoadAnswer}
use Rattle.ended.specs.declared.done.Done.{Done}
use Rattle.ended.specs.Ended.{IsMeant}
use Rattle.stripe.specs.History.{Call, Invoke, Get, Put, Remove, Contains, Begun, Record, Entries, key_of, entries_after, invocation, Answers, IsLegal, stripe_of}
use Rattle.stripe.specs.Stored.{Stored, entry_in, left}

-- A stripe: the number of stripes, its own index, its entries, its history, the most records of the history, and its open call.
pub record Kept : Type 0 where
  pub stripes : ℕ
  pub place : ℕ
  pub stored : Stored
  pub records : List Record
  pub journal : ℕ
  pub running : Option Begun

-- A stripe with an empty history and no open call.
abbrev pub fresh : ℕ → ℕ → ℕ → Stored → Kept
fresh stripes journal place stored = record { stripes = stripes; place = place; stored = stored; records = []; journal = journal; running = None }

-- `IsOf` holds if the key belongs to this stripe.
abbrev pub IsOf : Kept → ℤ → Type 0
IsOf s k = stripe_of s.stripes k ≡ s.place

abbrev pub entry_of : Kept → Entries
entry_of s = entry_in s.stored

-- ---- how a call begins

-- Whether a call may create an entry. A `get` may if there is a loader.
abbrev pub may_make : Bool → Call → Bool
may_make loads (Invoke c k args) = true
may_make loads (Put k v) = true
may_make loads (Get k) = loads
may_make loads _ = false

-- Whether a call needs a new slot for its entry.
abbrev pub is_absent : Bool → Stored → Call → Bool
is_absent loads m call = may_make loads call && not (is_some (map.get m (key_of call)))

-- The table after a call began: the key of a call that may create an entry is stored, without a value if it was absent.
abbrev pub held : Bool → Stored → Call → Stored
held loads m call = if is_absent loads m call then map.insert m (key_of call) None else m

abbrev pub begun : Kept → Begun → Kept
begun s b = record s { stored = held b.loads s.stored b.call; running = Some b }

-- ---- how it ends

-- `IsAsked` holds if a `get` asked the loader exactly if there is one and the entry is absent.
abbrev pub IsAsked : Bool → Entry → Option LoadAnswer → Type 0
IsAsked true None asked = IsSome asked
IsAsked loads before asked = asked ≡ None

-- `IsEnd` holds if a call may end with this result of a run, if it is an invocation, or this answer of the loader, if it is a `get`.
abbrev pub IsEnd : Bool → Entry → Call → Option Done → Option LoadAnswer → Type 0
IsEnd loads before (Invoke c k args) (Some d) None = IsMeant c (invocation loads k args before) d
IsEnd loads before (Get k) None asked = IsAsked loads before asked
IsEnd loads before (Put k v) None None = Unit {0}
IsEnd loads before (Remove k) None None = Unit {0}
IsEnd loads before (Contains k) None None = Unit {0}
IsEnd loads before _ _ _ = ⊥

-- `IsPlain` holds if the call is neither an invocation nor a `get`, so that it never asks the loader.
abbrev pub IsPlain : Call → Type 0
IsPlain (Invoke c k args) = ⊥
IsPlain (Get k) = ⊥
IsPlain _ = Unit {0}

-- The loader's answer to a call, by the end of the call.
abbrev pub asked_by : Option Done → Option LoadAnswer → Option LoadAnswer
asked_by (Some d) asked = d.asked
asked_by None asked = asked

-- `CanCommit` is the precondition of `commit`: a call is open that may end so.
pub record CanCommit (s : Kept) (done : Option Done) (asked : Option LoadAnswer) : Type 0 where
  pub begun : Begun
  pub running : s.running ≡ Some begun
  pub ends : IsEnd begun.loads (entry_of s (key_of begun.call)) begun.call done asked

-- `IsRecord` holds if `r` is a record of the call `b` on the entry `before`.
pub record IsRecord (b : Begun) (before : Entry) (r : Record) : Type 0 where
  pub caller : r.caller ≡ b.caller
  pub number : r.number ≡ b.number
  pub call : r.call ≡ b.call
  pub answers : Answers b.loads before b.call r.reply r.after r.asked

-- The stripe after a commit: the record is appended, its entry is stored, and no call is open.
abbrev pub committed : Kept → Record → Kept
committed s r = record s { stored = left s.stored (key_of r.call) r.after; records = s.records ++ r ∷ []; running = None }

-- `IsMade` holds if the call `b` was made on stripe `s`, with record `r`, and left the stripe `new`.
pub record IsMade (s : Kept) (b : Begun) (r : Record) (new : Kept) : Type 0 where
  pub told : IsRecord b (entry_of s (key_of b.call)) r
  pub left : new ≡ committed s r

-- ---- invariants

-- `AreOf` holds if the key of each record belongs to this stripe.
abbrev pub AreOf : Kept → Type 0
AreOf s = All (λ (r : Record). IsOf s (key_of r.call)) s.records

-- `IsHeld` holds if `k` is the key of an open call that may create an entry.
abbrev pub IsHeld : Option Begun → ℤ → Type 0
IsHeld None k = ⊥
IsHeld (Some b) k = (may_make b.loads b.call ≡ true) × (k ≡ key_of b.call)

-- `IsKept` holds if the history is legal from the entries `opening`, and the entries of the stripe are those that it leaves.
-- `loads` says whether there is a loader to ask.
pub record IsKept (loads : Bool) (opening : Entries) (s : Kept) : Type 0 where
  pub legal : IsLegal loads opening s.records
  pub left : (k : ℤ) → IsOf s k → entry_of s k ≡ entries_after opening s.records k
