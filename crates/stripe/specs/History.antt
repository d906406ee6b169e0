-- Calls, entries and histories (JSR 107, `Cache`).
use Rattle.std.specs.Prelude.{◌≡◌, ℕ, Bool, true, List, [], ◌∷◌, ◌++◌, All, Option, Some, None, is_some, if◌then◌else◌, ℤ, pos, unsigned_abs}
use Rattle.std.specs.Int.{int_rem_euclid}
use Rattle.std.specs.Ordering.{int_eq}
use Rattle.jtypes.specs.declared.types.Arg.{Arg}
use Rattle.jtypes.specs.declared.types.Outcome.TheVariants.{Threw}
use Rattle.jtypes.specs.declared.types.JavaFault.TheVariants.{CacheLoader}
use Rattle.jtypes.specs.declared.loader.LoadAnswer.{LoadAnswer}
use Rattle.jtypes.specs.declared.loader.LoadAnswer.TheVariants as load
use Rattle.jtypes.specs.Loading.{IsGiven, entry_loaded}
use Rattle.jtypes.specs.Entry.{Entry}
use Rattle.typecheck.specs.Typing.{Class}
use Rattle.verdict.specs.Machine.{Invocation, Final}
use Rattle.verdict.specs.Meaning.{Means}
use Rattle.stripe.specs.declared.call.Reply.{Reply}
use Rattle.stripe.specs.declared.call.Reply.TheVariants.{Result, Done, Value, Flag}

-- A call on a key. An invocation has the class of its entry processor.
pub data Call : Type 0 where
  Invoke : Class → (key : ℤ) → List Arg → Call
  Get : (key : ℤ) → Call
  Put : (key : ℤ) → (value : ℤ) → Call
  Remove : (key : ℤ) → Call
  Contains : (key : ℤ) → Call

-- An open call, with its caller, its number among the caller's calls, and whether there is a loader to ask (JSR 107, `CacheLoader`).
pub record Begun : Type 0 where
  pub caller : ℕ
  pub number : ℕ
  pub call : Call
  pub loads : Bool

-- The record of a committed call, with its reply, the entry that it left, and the loader's answer, if it was asked.
pub record Record : Type 0 where
  pub caller : ℕ
  pub number : ℕ
  pub call : Call
  pub reply : Reply
  pub after : Entry
  pub asked : Option LoadAnswer

-- The key of a call.
abbrev pub key_of : Call → ℤ
key_of (Invoke c k args) = k
key_of (Get k) = k
key_of (Put k v) = k
key_of (Remove k) = k
key_of (Contains k) = k

-- The entries of a cache, as a function of the key.
abbrev pub Entries : Type 0
Entries = ℤ → Entry

-- The entry of key `k` after these records: the `after` of the last record of a call on `k`, or `e` if there is none.
abbrev pub entry_after : Entry → List Record → ℤ → Entry
entry_after e [] k = e
entry_after e (r ∷ rs) k = entry_after (if int_eq (key_of r.call) k then r.after else e) rs k

-- The entries after these records, from the entries `opening`.
abbrev pub entries_after : Entries → List Record → Entries
entries_after opening records k = entry_after (opening k) records k

-- The invocation on key `k`. `loads` says whether there is a loader to ask.
abbrev pub invocation : Bool → ℤ → List Arg → Entry → Invocation
invocation loads k args before = record { key = k; args = args; before = before; loads = loads }

-- The reply to a `get` that asked the loader, by the loader's answer.
abbrev pub told_by : LoadAnswer → Reply
told_by (load.Value v) = Value (Some v)
told_by load.None = Value None
told_by load.Failed = Result (Threw CacheLoader)

-- `IsGot` holds if a `get` may have this reply, the entry `after` and this answer of the loader.
-- It asks the loader, if there is one, only for an absent key. A value that the loader returns becomes the entry.
abbrev pub IsGot : Bool → Entry → Reply → Entry → Option LoadAnswer → Type 0
IsGot true None reply after asked = (a : LoadAnswer) × (asked ≡ Some a) × (reply ≡ told_by a) × (after ≡ entry_loaded None a)
IsGot loads before reply after asked = (reply ≡ Value before) × (after ≡ before) × (asked ≡ None)

-- `Answers` holds if a call on the entry `before` may have this reply, leave the entry `after`, and have this answer of the loader.
-- `loads` says whether there is a loader to ask.
abbrev pub Answers : Bool → Entry → Call → Reply → Entry → Option LoadAnswer → Type 0
Answers loads before (Invoke c k args) reply after asked =
    (f : Final) × Means c (invocation loads k args before) f × (reply ≡ Result f.outcome) × (after ≡ f.entry) × (asked ≡ f.asked)
Answers loads before (Get k) reply after asked = IsGot loads before reply after asked
Answers loads before (Put k v) reply after asked = (reply ≡ Done) × (after ≡ Some v) × (asked ≡ None)
Answers loads before (Remove k) reply after asked = (reply ≡ Flag (is_some before)) × (after ≡ None) × (asked ≡ None)
Answers loads before (Contains k) reply after asked = (reply ≡ Flag (is_some before)) × (after ≡ before) × (asked ≡ None)

-- `IsLegalAfter` holds if each record satisfies `Answers` on the entry that the records before it leave. `seen` precede all of them.
abbrev pub IsLegalAfter : Bool → Entries → List Record → List Record → Type 0
IsLegalAfter loads opening seen [] = Unit {0}
IsLegalAfter loads opening seen (r ∷ rs) =
    Answers loads (entries_after opening seen (key_of r.call)) r.call r.reply r.after r.asked × IsLegalAfter loads opening (seen ++ r ∷ []) rs

-- `IsLegal` holds if the records are a legal history from the entries `opening`.
abbrev pub IsLegal : Bool → Entries → List Record → Type 0
IsLegal loads opening records = IsLegalAfter loads opening [] records

-- `AreGiven` holds if the loader may give each answer in these records for the record's key.
abbrev pub AreGiven : (ℤ → LoadAnswer → Type 0) → List Record → Type 0
AreGiven gives records = All (λ (r : Record). IsGiven gives (key_of r.call) r.asked) records

-- The index of a key's stripe, of `stripes` stripes: the nonnegative remainder.
abbrev pub stripe_of : ℕ → ℤ → ℕ
stripe_of stripes key = unsigned_abs (int_rem_euclid key (pos stripes))
