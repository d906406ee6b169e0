-- The result of a library call, and its effect on the entry.
use Rattle.std.specs.Prelude.{◌≡◌, Option, Some, None, Result, Ok, Err}
use Rattle.jtypes.specs.declared.types.JavaFault.{JavaFault}
use Rattle.jtypes.specs.declared.types.Value.{Value}
use Rattle.jtypes.specs.Entry.{Entry}
use Rattle.jtypes.specs.declared.operations.Native.{Native}
use Rattle.jtypes.specs.Loading.{left_by}
use Rattle.jtypes.specs.Library.{Reply, Gives, Faults, Misses}
use Rattle.mutentry.specs.Change.{Change, with_now}

-- `Answers` holds if a call does what the reply says: it returns the result and leaves that entry, or throws and changes nothing
abbrev pub Answers : Native → Reply → Result (Option Value) JavaFault → Change → Change → Type 0
Answers n (Gives answer entry) result old new = (result ≡ Ok answer) × (new ≡ with_now old (left_by n old.now entry))
Answers n (Faults fault) result old new = (result ≡ Err fault) × (new ≡ old)
Answers n Misses result old new = ⊥

-- the reply of a call that doesn't change the entry; `Misses` if there is no result
abbrev pub given : Option Value → Entry → Reply
given (Some v) now = Gives (Some v) now
given None now = Misses
