use Rattle.std.proofs.Common.{◌≡◌, drop, map}
use Rattle.transfer.specs.Forms.{by_forms}
use Rattle.transfer.specs.Seen.{form_seen}
use Rattle.unrolled.specs.Known.{is_wide}
use Rattle.search.specs.Seen.{operands_seen}
use Rattle.search.proofs.stack_forms.form_for.Given as goal

abbrev pub invariant-loop-form : goal.invariant-loop-form
invariant-loop-form l =
    by_forms is_wide (map form_seen l.forms) (operands_seen l.operands) ≡ by_forms is_wide (map form_seen (drop l.form-index l.forms)) (operands_seen l.operands)
