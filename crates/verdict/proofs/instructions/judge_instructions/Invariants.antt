use Rattle.classfile.specs.View.{view_of}
use Rattle.verdict.specs.Judging.{AreFound}
use Rattle.verdict.proofs.instructions.judge_instructions.Given as goal

abbrev pub invariant-loop-number : goal.invariant-loop-number
invariant-loop-number l = AreFound (view_of l.class.pool l.class.parts) l.codes l.constructor l.number l.found.items
