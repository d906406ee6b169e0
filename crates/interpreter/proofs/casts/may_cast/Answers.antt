use Rattle.std.proofs.Common.{◌∙◌, subst}
use Rattle.arena.specs.Placing.{IsReference}
use Rattle.interpreter.proofs.Castings.{may_cast_other, may_cast_null}
use Rattle.interpreter.proofs.casts.may_cast.Goals as goal

pub returns-in-Null : goal.returns-in-Null
returns-in-Null c v h = may_cast_null c.args.arena.now.arrays v c.args.target (subst (IsReference c.args.arena.now.arrays v) c.in-Null.is h)

pub returns-in_default : goal.returns-in_default
returns-in_default c v h = c.passes.ensures v h ∙ may_cast_other c.args.arena.now.arrays v c.args.value c.args.target h c.in_default.not-Null
