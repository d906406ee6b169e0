use Rattle.std.proofs.Common.{◌++◌, sym, subst}
use Rattle.jtypes.specs.Lists.{result_list}
use Rattle.slots.specs.Reads.{Reads}
use Rattle.interpreter.specs.Replies.{IsAnswerable}
use Rattle.interpreter.proofs.library.push_answer.Goals as goal

pub returns-in-Some-clause-pushes : goal.returns-in-Some-clause-pushes
returns-in-Some-clause-pushes c arrays ls vs below ok =
    subst (λ a. Reads arrays c.push.new.slots ls (result_list a ++ vs) below) (sym c.in-Some.is)
    (c.push.ensures.pushes arrays ls vs below (subst (λ a. IsAnswerable a arrays c.args.slots.now ls vs below) c.in-Some.is ok))
