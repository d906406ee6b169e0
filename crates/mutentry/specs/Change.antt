-- The entry before an invocation, and the current entry (JSR 107, `MutableEntry`).
use Rattle.std.specs.Prelude.{◌≡◌, Result, Ok, Err}
use Rattle.jtypes.specs.declared.types.JavaFault.{JavaFault}
use Rattle.jtypes.specs.declared.operations.Native.TheVariants.{SetValue}
use Rattle.jtypes.specs.Entry.{Entry}
use Rattle.jtypes.specs.Loading.{EntryNow, left_by}
use Rattle.jtypes.specs.Library.{Reply, Gives, Faults, Misses}

-- the entry before the invocation, and the current one
pub record Change : Type 0 where
  pub before : Entry
  pub now : EntryNow

-- the same entry before the invocation, with another current one
abbrev pub with_now : Change → EntryNow → Change
with_now change now = record { before = change.before; now = now }

-- `AnswersSet` holds if `setValue` does what the reply says: it leaves that entry, or throws and changes nothing
abbrev pub AnswersSet : Reply → Result Unit JavaFault → Change → Change → Type 0
AnswersSet (Gives answer entry) result old new = (result ≡ Ok tt) × (new ≡ with_now old (left_by SetValue old.now entry))
AnswersSet (Faults fault) result old new = (result ≡ Err fault) × (new ≡ old)
AnswersSet Misses result old new = ⊥
