-- The results of the C interface.
use Rattle.std.specs.Prelude.{◌≡◌, ◌⊎◌, ℕ, nat_le, Bool, true, false, List, length, Option, Some, None}
use Rattle.sha1.specs.Sha1.{sha1}
use Rattle.jtypes.specs.Profile.{Third}
use Rattle.jtypes.specs.declared.refusal.Refusal.{Refusal}
use Rattle.jtypes.specs.declared.refusal.Refusal.TheVariants.{NoMemory}
use Rattle.jtypes.specs.declared.types.Arg.{Arg}
use Rattle.typecheck.specs.Typing.{Class}
use Rattle.verdict.specs.Verdict.{IsRefused}
use Rattle.ended.specs.declared.done.Done.{Done}
use Rattle.ended.specs.Ended.{IsMeant}
use Rattle.embedded.specs.declared.engine.Defined.{Defined}
use Rattle.embedded.specs.declared.numbers.VerdictNumbers.{VerdictNumbers}
use Rattle.embedded.specs.declared.numbers.ArgNumbers.{ArgNumbers}
use Rattle.embedded.specs.declared.numbers.CallNumbers.{CallNumbers}
use Rattle.embedded.specs.declared.numbers.DoneNumbers.{DoneNumbers}
use Rattle.embedded.specs.Classes.{Classes, class_at, IsDefined}
use Rattle.embedded.specs.Numbers.{accepted_in, refused_in, args_in, before_in, invocation_in, done_in, not_run}

-- The class is accepted and stored under the next number, or it is refused, which changes nothing.
pub data IsVerdict (bytes : List ℕ) (before : Classes) (v : VerdictNumbers) (after : Classes) : Type 0 where
  of_accepted : (d : Defined) → IsDefined bytes before d after → v ≡ accepted_in d (sha1 bytes) → IsVerdict bytes before v after
  of_refused : (r : Refusal) → (r ≡ NoMemory) ⊎ IsRefused Third bytes r → after ≡ before → v ≡ refused_in r (sha1 bytes) → IsVerdict bytes before v after

-- Why a call is not run, by its class and whether it has at most eight arguments:
-- there is no class (4), or there are more than eight arguments (5), or one of them is invalid (6).
abbrev pub reason_of : Option Class → Bool → ℕ
reason_of None few = 4
reason_of (Some c) false = 5
reason_of (Some c) true = 6

-- The result of a call, by its class, whether it has at most eight arguments, and its arguments:
-- the end that it means, or why it is not run.
abbrev pub IsEnd : Option Class → Bool → Option (List Arg) → CallNumbers → DoneNumbers → Type 0
IsEnd (Some c) true (Some args) call d = (done : Done) × IsMeant c (invocation_in call args) done × (d ≡ done_in (before_in call) done)
IsEnd class few args call d = d ≡ not_run (reason_of class few)

-- The result of a call on the class with its number.
abbrev pub IsAnswer : Classes → CallNumbers → List ArgNumbers → DoneNumbers → Type 0
IsAnswer classes call args d = IsEnd (class_at classes call.number) (nat_le (length args) 8) (args_in args) call d
