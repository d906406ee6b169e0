use Rattle.std.proofs.Common.{take}
use Rattle.std.specs.List.{AllZip}
use Rattle.verdict.specs.Shaping.{HasGoodMethod}
use Rattle.verdict.proofs.shape.judge_methods.Given as goal

abbrev pub invariant-loop-method : goal.invariant-loop-method
invariant-loop-method l = AllZip (HasGoodMethod l.class.pool l.class.parts) (take l.method-index l.methods) l.codes.items
