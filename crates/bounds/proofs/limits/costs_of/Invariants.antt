use Rattle.std.proofs.Common.{◌≡◌, ℕ, ◌+◌, Bool, false, cond, length}
use Rattle.typecheck.specs.Typing.{Class}
use Rattle.bounds.specs.Table.{Costs, IsTable, LeadsOn}
use Rattle.bounds.specs.Rows.{AreRowsOf, AreKnown, AreGrounded, AreSettled, AreBelow, count_unknown}
use Rattle.bounds.proofs.limits.costs_of.Given as goal

abbrev pub invariant-loop-goes_on : goal.invariant-loop-goes_on
invariant-loop-goes_on l = record {
  table : (c : Class) (set : ℕ → Bool) (t : Costs) → LeadsOn c set → IsTable c set t → AreRowsOf c set l.methods → AreKnown t l.known.items;
  grounded : (c : Class) (set : ℕ → Bool) → AreRowsOf c set l.methods → AreGrounded c l.known.items;
  below : AreBelow l.methods (length l.known.items);
  settled : l.goes_on ≡ false → AreSettled l.methods l.known.items;
}

abbrev pub decreases-loop-goes_on : goal.decreases-loop-goes_on
decreases-loop-goes_on l = cond l.goes_on 1 0 + count_unknown l.known.items
