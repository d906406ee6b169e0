use Rattle.std.proofs.Common.{length, w64, rules}
use Rattle.std.specs.Prelude.{nat_le, FitsSigned}
use Rattle.std.proofs.lemmas.Int.{to_z-of_z}
use Rattle.embedded.specs.Classes.{class_at}
use Rattle.embedded.specs.Numbers.{args_in}
use Rattle.embedded.proofs.Ends.{is_run}
use Rattle.embedded.proofs.answers.invoke.Goals as goal

pub returns-in-Some-invoke-clause-answer : goal.returns-in-Some-invoke-clause-answer
returns-in-Some-invoke-clause-answer c =
    let call = c.args.call.now in
    let classes = c.args.engine.now in
    let args = c.args.args.now in
    let m = c.in-Some-invoke.ensures.meant in
    let fits : FitsSigned w64 call.key = search rules in
    is_run (class_at classes call.number) (nat_le (length args) 8) (args_in args) m.0 c.in-Some.list call c.in-Some-invoke.done c.done_numbers.result m.1 c.in-Some.ensures
    (rw (to_z-of_z w64 call.key fits, c.before_of-before.ensures) at m.2) (rw c.before_of-before.ensures at c.done_numbers.ensures)
