use Rattle.std.proofs.Common.{◌≡◌, drop}
use Rattle.transfer.specs.Forms.{below_form}
use Rattle.unrolled.specs.Known.{is_wide}
use Rattle.search.specs.Seen.{operands_seen}
use Rattle.search.proofs.stack_forms.has_sizes.Given as goal

abbrev pub invariant-loop-i : goal.invariant-loop-i
invariant-loop-i l =
    below_form is_wide l.longs (operands_seen l.operands) ≡ below_form is_wide (drop l.i l.longs) (drop l.i (operands_seen l.operands))
