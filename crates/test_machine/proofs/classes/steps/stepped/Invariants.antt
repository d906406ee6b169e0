use Rattle.std.specs.Prelude.{false}
use Rattle.verdict.specs.Machine.{State}
use Rattle.machine.specs.Running.{IsRunningWith}
use Rattle.test_machine.proofs.classes.steps.stepped.Given as goal

abbrev pub invariant-loop-count : goal.invariant-loop-count
invariant-loop-count l = (s : State) × IsRunningWith false l.class s l.workspace
