-- The result of a call that is run.
use Rattle.std.proofs.Common.{◌≡◌, Bool, true, false, List, Option, Some, None, sym, subst}
use Rattle.std.proofs.lemmas.Option.{same_Some}
use Rattle.jtypes.specs.Lists.{only_if}
use Rattle.jtypes.specs.declared.types.Arg.{Arg}
use Rattle.typecheck.specs.Typing.{Class}
use Rattle.ended.specs.declared.done.Done.{Done}
use Rattle.ended.specs.Ended.{IsMeant}
use Rattle.embedded.specs.declared.numbers.CallNumbers.{CallNumbers}
use Rattle.embedded.specs.declared.numbers.DoneNumbers.{DoneNumbers}
use Rattle.embedded.specs.Numbers.{before_in, invocation_in, done_in}
use Rattle.embedded.specs.Answers.{IsEnd}

-- If there is a class, and there are at most eight arguments and all are valid, the result is the end of the run.
pub is_run : (class : Option Class) (few : Bool) (args : Option (List Arg)) (c : Class) (list : List Arg) (call : CallNumbers) (done : Done) (d : DoneNumbers)
    → class ≡ Some c → Some list ≡ only_if few args → IsMeant c (invocation_in call list) done → d ≡ done_in (before_in call) done → IsEnd class few args call d
is_run None few args c list call done d there read meant is = absurd (cc)
is_run (Some k) false args c list call done d there read meant is = absurd (cc)
is_run (Some k) true None c list call done d there read meant is = absurd (cc)
is_run (Some k) true (Some xs) c list call done d there read meant is =
    (done, subst (λ (p : Class). IsMeant p (invocation_in call xs) done) (same_Some c k (sym there)) (subst (λ (ys : List Arg). IsMeant c (invocation_in call ys) done) (same_Some list xs read) meant), is)
