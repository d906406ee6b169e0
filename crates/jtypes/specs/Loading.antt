-- The answers of a loader (JSR 107, `CacheLoader`), and the entry of an invocation that may call it.
use Rattle.std.specs.Prelude.{◌≡◌, ℤ, Bool, true, false, ◌&&◌, not, is_some, Option, Some, None, Result, Ok, Err}
use Rattle.jtypes.specs.declared.loader.LoadAnswer.{LoadAnswer}
use Rattle.jtypes.specs.declared.loader.LoadAnswer.TheVariants as load
use Rattle.jtypes.specs.declared.loader.LoadFailed.{LoadFailed}
use Rattle.jtypes.specs.declared.operations.Native.{Native}
use Rattle.jtypes.specs.declared.operations.Native.TheVariants as native
use Rattle.jtypes.specs.Entry.{Entry}

-- the answer for the result of `load`
abbrev pub answer_of : Result (Option ℤ) LoadFailed → LoadAnswer
answer_of (Ok (Some v)) = load.Value v
answer_of (Ok None) = load.None
answer_of (Err e) = load.Failed

-- `IsGiven` holds if the loader wasn't called, or if it may return this answer for the key
abbrev pub IsGiven : (ℤ → LoadAnswer → Type 0) → ℤ → Option LoadAnswer → Type 0
IsGiven gives key None = Unit {0}
IsGiven gives key (Some a) = gives key a

-- the current entry, whether no call of the invocation changed it yet, and the loader's answer if it was called
pub record EntryNow : Type 0 where
  pub entry : Entry
  pub untouched : Bool
  pub asked : Option LoadAnswer

-- the state at the start of an invocation
abbrev pub entry_at_start : Entry → EntryNow
entry_at_start before = record { entry = before; untouched = true; asked = None }

-- the entry after a load: a loaded value becomes its value
abbrev pub entry_loaded : Entry → LoadAnswer → Entry
entry_loaded now (load.Value v) = Some v
entry_loaded now load.None = now
entry_loaded now load.Failed = now

abbrev pub loaded : LoadAnswer → EntryNow → EntryNow
loaded a h = record { entry = entry_loaded h.entry a; untouched = h.untouched; asked = Some a }

-- whether a library call changes the entry
abbrev pub is_change : Native → Bool
is_change native.SetValue = true
is_change native.Remove = true
is_change _ = false

-- the state after a library call that leaves the entry `now`
abbrev pub left_by : Native → EntryNow → Entry → EntryNow
left_by n h now = record { entry = now; untouched = not (is_change n) && h.untouched; asked = h.asked }

-- whether `getValue` calls the loader: there is one, the entry didn't exist before, no call changed it, and no load happened yet
abbrev pub may_ask : Bool → Entry → EntryNow → Bool
may_ask loads before h = loads && (not (is_some before) && (h.untouched && not (is_some h.asked)))
