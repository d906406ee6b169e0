use Rattle.std.proofs.Common.{ℕ, Bool}
use Rattle.typecheck.specs.Typing.{Class}
use Rattle.bounds.specs.Table.{Costs, IsTable, LeadsOn}
use Rattle.bounds.specs.Rows.{AreRowsOf, AreKnown, AreGrounded, LearnsUpTo}
use Rattle.bounds.proofs.limits.learn.Given as goal

abbrev pub invariant-loop-method : goal.invariant-loop-method
invariant-loop-method l = record {
  table : (c : Class) (set : ℕ → Bool) (t : Costs) → LeadsOn c set → IsTable c set t → AreRowsOf c set l.methods → AreKnown t l.initial.known → AreKnown t l.known;
  grounded : (c : Class) (set : ℕ → Bool) → AreRowsOf c set l.methods → AreGrounded c l.initial.known → AreGrounded c l.known;
  learns : LearnsUpTo l.methods l.method-index l.learnt l.initial.known l.known;
}
